-- Lines are answered one after the other, up to a stop.
use Rattle.std.specs.Prelude.{Bool, true, false, ◌&&◌, List, [], ◌∷◌, ◌++◌, ℕ, ◌+◌, length, leb, ltb, Option, None, Some, is_some, Result, Ok, if◌then◌else◌}
use Rattle.std.specs.Option.{option_map}
use Rattle.rules.specs.declared.answers.Answer.{Answer}
use Rattle.rules.specs.declared.answers.Answer.TheVariants.{Ready}
use Rattle.rules.specs.declared.answers.Record.{Record}
use Rattle.rules.specs.declared.refusals.Refusal.{Refusal}
use Rattle.machine.specs.declared.calls.step.Stepped.{Stepped}
use Rattle.commands.specs.Effect.{LineOutcome, line_outcome}
use Rattle.commands.specs.Texts.{answer_put, answer_end}
use Rattle.script.specs.declared.work.Work as rust
use Rattle.script.specs.declared.answering.Event.{Event}
use Rattle.script.specs.declared.answering.Event.TheVariants as event
use Rattle.script.specs.Lines.{whole_lines, handed_on}
use Rattle.script.specs.Output.{Work, work, outcome_on, after_line, last_number}
use Rattle.script.specs.Archiving.{listed}

-- the whole lines of some bytes, as they are handed on
abbrev pub lines_in : List ℕ → List (List ℕ)
lines_in bytes = handed_on (whole_lines bytes)

-- more than any answer's line takes
abbrev pub answer_room : ℕ
answer_room = 64

-- an answer has room, and the line has a number
abbrev pub can_answer : ℕ → ℕ → ℕ → Bool
can_answer lent at answered = leb (at + answer_room) lent && ltb answered last_number

abbrev pub is_ready : Result Answer Refusal → Bool
is_ready (Ok Ready) = true
is_ready answer = false

-- what an archive has to know of a line: that it began a machine, or the record that it made
abbrev pub event_of : Result Answer Refusal → Option Record → Option Event
event_of answer made = if is_ready answer then Some event.Begun else option_map event.Made made

-- where no archive is kept, no event is looked for
abbrev pub seen_of : Bool → Result Answer Refusal → Option Record → Option Event
seen_of watch answer made = if watch then event_of answer made else None

-- where the answering stopped: the lines that are left, the output so far and the event that it stopped for
pub record Stopped : Type 0 where
  pub work : Work
  pub lines : List (List ℕ)
  pub out : List ℕ
  pub at : ℕ
  pub event : Option Event

abbrev pub stopped : Work → List (List ℕ) → List ℕ → ℕ → Option Event → Stopped
stopped w lines out at e = record { work = w; lines = lines; out = out; at = at; event = e }

-- what the program's lines run on
abbrev pub work_of : rust.Work → Work
work_of w = work w.session w.memory w.owners w.holders w.answered

-- what a command left there, and its answer with the record that it made
abbrev pub outcome_in : Stepped → rust.Work → LineOutcome
outcome_in stepped w = line_outcome stepped w.session w.memory w.owners w.holders

-- of a line: the output with its answer, where the answer ends, and the event
abbrev pub answer_in : Work → List ℕ → List ℕ → ℕ → List ℕ
answer_in w line out at = answer_put (w.answered + 1) (outcome_on w line).answer out at

abbrev pub end_in : Work → List ℕ → List ℕ → ℕ → ℕ
end_in w line out at = answer_end (w.answered + 1) (outcome_on w line).answer (length out) at

abbrev pub event_in : Bool → Work → List ℕ → Option Event
event_in watch w line = seen_of watch (outcome_on w line).answer (outcome_on w line).made

-- what an archive has to know of lines, in their order
abbrev pub events_of : Work → List (List ℕ) → List Event
events_of w [] = []
events_of w (line ∷ lines) = listed (event_in true w line) ++ events_of (after_line w line) lines

-- Line after line, until there is no line, or no room for another answer, or an event.
unfoldable pub answer_lines : Bool → Work → List (List ℕ) → List ℕ → ℕ → Stopped
answer_lines watch w [] out at = stopped w [] out at None
answer_lines watch w (line ∷ lines) out at =
    if can_answer (length out) at w.answered
    then
    (if is_some (event_in watch w line)
    then stopped (after_line w line) lines (answer_in w line out at) (end_in w line out at) (event_in watch w line)
    else answer_lines watch (after_line w line) lines (answer_in w line out at) (end_in w line out at))
    else stopped w (line ∷ lines) out at None
