-- What is carried from piece to piece, and what answering lines makes of it.
use Rattle.std.specs.Prelude.{◌≡◌, Bool, List, ◌++◌, ℕ, ◌-◌, ◌≤◌, length, take, Option, option_and_then}
use Rattle.archive.specs.declared.writer.Writer.{Writer}
use Rattle.script.specs.declared.serving.Serving.{Serving}
use Rattle.script.specs.Output.{Work, after_lines, texts_of, last_number}
use Rattle.script.specs.Answering.{work_of, events_of}
use Rattle.script.specs.Archiving.{writer_in, whole_in, Follows, StaysWhole}
use Rattle.script.specs.Sending.{Sends}

-- what the lines run on, what was written out, where the writer tells it, what stands in the output and is not written out yet, the writer of the latest run's archive, and whether the archives are whole
pub record State : Type 0 where
  pub work : Work
  pub written : Option (List ℕ)
  pub stands : List ℕ
  pub writer : Option Writer
  pub whole : Bool

abbrev pub state : Work → Option (List ℕ) → List ℕ → Option Writer → Bool → State
state w written stands writer whole = record { work = w; written = written; stands = stands; writer = writer; whole = whole }

abbrev pub state_of : Serving → Option (List ℕ) → State
state_of s written = state (work_of s.work) written (take s.out.len s.out.bytes) (option_and_then writer_in s.archives) (whole_in s.archives)

-- Lines were answered, one after the other: the work is what they leave, their text was put out, and their records were handed to the archive's writer: all of them, where the archives are whole.
pub record Answered (before : State) (lines : List (List ℕ)) (after : State) : Type 0 where
  pub work : after.work ≡ after_lines before.work lines
  pub text : Sends before.written before.stands after.written after.stands (texts_of before.work lines)
  pub records : Follows before.writer (events_of before.work lines) after.writer
  pub whole : StaysWhole before.whole before.writer (events_of before.work lines) after.whole after.writer

-- some lines were answered, from the front, and these are left
pub record AnsweredSome (before : State) (lines : List (List ℕ)) (after : State) (left : List (List ℕ)) : Type 0 where
  pub front : List (List ℕ)
  pub in_order : lines ≡ front ++ left
  pub numbered : length front ≤ last_number - before.work.answered
  pub answered : Answered before front after
