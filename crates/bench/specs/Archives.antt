-- RULES 13, the library for a bench: the calls on the writer where it stands, on a block and on a whole archive: what the archive's own calls do, packed.
-- RULES 13.2: "Each call does what the call of these rules does, on the struct where it stands, and is refused as that one is, in the order of 6.6"
use Rattle.std.specs.Prelude.{ℕ, Bool, List, Option, Result, Ok}
use Rattle.archive.specs.Records.{record_in}
use Rattle.archive.specs.Reader.{checked_of, read_of}
use Rattle.archive.specs.Archive.{whole_of, decided_by, sought_of}
use Rattle.archive.specs.Writer.{WriteOutcome, new_writer, add_of, close_of}
use Rattle.rules.specs.declared.refusals.Refusal.{Refusal}
use Rattle.archive.specs.declared.answers.Put.TheVariants as put
use Rattle.archive.specs.declared.answers.Numbered.{Numbered}
use Rattle.archive.specs.declared.writer.Writer.{Writer}
use Rattle.bench.specs.CallOutcome.{CallOutcome, call_outcome, left_by}
use Rattle.bench.specs.Packed.{packed_wrote, packed_checked, packed_read, packed_whole, packed_decided, found_bytes}

-- what a writing call leaves beside the lent block
pub record WriteCallOutcome : Type 0 where
  pub all : CallOutcome Writer
  pub block : List ℕ

abbrev pub write_call_outcome : ℕ → Writer → List ℕ → WriteCallOutcome
write_call_outcome answer w block = record { all = call_outcome answer w; block = block }

abbrev pub of_write : WriteOutcome → WriteCallOutcome
of_write o = write_call_outcome (packed_wrote o.called.answer) o.called.writer o.block

-- what a call that hands out a record leaves: the answer, and the record's 16 bytes
abbrev pub of_read : List ℕ → Result (Option Numbered) Refusal → CallOutcome (List ℕ)
of_read made r = call_outcome (packed_read r) (left_by r made found_bytes)

-- the calls
abbrev pub new_call : CallOutcome Writer
new_call = call_outcome (packed_wrote (Ok put.Nothing)) new_writer

-- RULES 13.8: "`malthobre_writer_add` looks at a record's bytes 0, 1 and 4 to 11 only."
abbrev pub add_call : Writer → List ℕ → List ℕ → WriteCallOutcome
add_call w block made = of_write (add_of w block (record_in made))

abbrev pub close_call : Writer → List ℕ → WriteCallOutcome
close_call w block = of_write (close_of w block)

abbrev pub check_call : List ℕ → ℕ → Bool → ℕ
check_call block expected after_short = packed_checked (checked_of block expected after_short)

abbrev pub record_call : List ℕ → ℕ → Bool → ℕ → List ℕ → CallOutcome (List ℕ)
record_call block expected after_short place made = of_read made (read_of block expected after_short place)

abbrev pub whole_call : List ℕ → ℕ
whole_call s = packed_whole (whole_of s)

abbrev pub decided_call : List ℕ → ℕ
decided_call s = packed_decided (decided_by s)

abbrev pub sought_call : List ℕ → ℕ → List ℕ → CallOutcome (List ℕ)
sought_call s number made = of_read made (sought_of s number)
