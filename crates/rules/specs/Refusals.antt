-- RULES 6, answer numbers: why a call refuses, and the number that each refusal returns, each under its meaning in the table of RULES 6.1.
use Rattle.std.specs.Prelude.{ℕ, Result, Ok, Err}
use Rattle.rules.specs.declared.refusals.Refusal.{Refusal}
use Rattle.rules.specs.declared.refusals.Refusal.TheVariants.{NoSuchCore, Unaligned, Outside, LentLengths, OutOfRange, Damaged, Busy, Idle, NotUnderstood, NoMachine, BlockMark, BlockCheck, BlockNumber, RecordCount, RecordField, BlockLength, Full, Closed}

abbrev pub refusal_number : Refusal → ℕ
-- "there is no core of that number; `start`: the core count is none of 1 to 8"
refusal_number NoSuchCore = 1
-- "the address is no multiple of 4"
refusal_number Unaligned = 2
-- "the address is at or above memory's size"
refusal_number Outside = 3
-- "what is lent has other lengths than the state says; `start`: it has lengths that section 3 does not allow"
refusal_number LentLengths = 4
-- "the state is out of its ranges (6.18, 6.24)"
refusal_number OutOfRange = 5
-- "the table is damaged at the entry in use (6.31)"
refusal_number Damaged = 6
-- "the core that is given an operation is busy"
refusal_number Busy = 7
-- "the core that is to be stepped is idle"
refusal_number Idle = 8
-- "a line of script that is not understood; in the library, an operation's number that is none (13.3)"
refusal_number NotUnderstood = 9
-- "a line of script before the first `new` that is accepted"
refusal_number NoMachine = 10
-- "the block does not have the mark"
refusal_number BlockMark = 11
-- "the block's check is wrong"
refusal_number BlockCheck = 12
-- "the block does not have the number that is expected, or that number is above 1,048,575"
refusal_number BlockNumber = 13
-- "the block has a wrong record count"
refusal_number RecordCount = 14
-- "a record has a wrong field, or a byte that is unused is not 0"
refusal_number RecordField = 15
-- "the block that is lent does not have 512 bytes; of a whole archive, its length (7.39)"
refusal_number BlockLength = 16
-- "the archive is full (7.22)"
refusal_number Full = 17
-- "the archive is closed (7.23)"
refusal_number Closed = 18

-- RULES 6.1: "Each call answers a number: 0, or that of its refusal."
abbrev pub number_in : {A : Type 0} → Result A Refusal → ℕ
number_in (Ok answer) = 0
number_in (Err refusal) = refusal_number refusal

-- RULES 6.6: "Where more than one refusal applies, the call gives that which comes first in its order"
-- The tests of a call in their order: the refusal of the first that fails, or none.
abbrev pub Tested : Type 0
Tested = Result (Unit {0}) Refusal

abbrev pub no_refusal : Tested
no_refusal = Ok tt

-- a call's outcome: its refusal if it has one, and else what it does
abbrev pub unless_refused : {A : Type 0} → Tested → (Refusal → A) → A → A
unless_refused (Ok _) refused done = done
unless_refused (Err refusal) refused done = refused refusal
