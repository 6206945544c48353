-- RULES 13, the library for a bench: what a call leaves: its answer, as one number (RULES 13.4), and what stands where it was lent to be written.
use Rattle.std.specs.Prelude.{ℕ, Result, Ok, Err}
use Rattle.rules.specs.declared.refusals.Refusal.{Refusal}

pub record CallOutcome (S : Type 0) : Type 0 where
  pub answer : ℕ
  pub state : S

abbrev pub call_outcome : {S : Type 0} → ℕ → S → CallOutcome S
call_outcome answer state = record { answer = answer; state = state }

-- RULES 13.10: "A refused call leaves machine, writer, the 16 bytes for a record and all else that it was lent as found.": what was found, or what the call leaves there where it is not refused
abbrev pub left_by : {A S : Type 0} → Result A Refusal → S → (A → S) → S
left_by (Ok answer) found left = left answer
left_by (Err refusal) found left = found
