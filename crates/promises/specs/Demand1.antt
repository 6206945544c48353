-- RULES 1, what is demanded: demand 1, calls and refusals.
use Rattle.std.specs.Prelude.{◌≡◌, ◌≢◌}
use Rattle.rules.specs.Refusals.{refusal_number}
use Rattle.rules.specs.Laws.{RefusalLaws}
use Rattle.rules.specs.declared.refusals.Refusal.{Refusal}
use Rattle.archive.specs.Promises.{EachRefusalLeaves}
use Rattle.promises.specs.Readings.{AsksNothing, Numbered}
use Rattle.promises.specs.MachineReadings.{EachMachineCall, MachineCodeKeeps}
use Rattle.promises.specs.ArchiveReadings.{EachArchiveCall, ArchiveCodeKeeps}

-- RULES 1.1: "Every public call comes to an end and does nothing that is undefined, whatever it is handed.": of the calls of the machine and of the archive, the theorems of their code, whose contracts ask nothing of a caller. Of each other function it is what its check means, and stands in no statement.
pub record CallsEnd : Type 2 where
  pub machine : MachineCodeKeeps
  pub machine_asks_nothing : EachMachineCall AsksNothing
  pub archive : ArchiveCodeKeeps
  pub archive_asks_nothing : EachArchiveCall AsksNothing

-- RULES 1.2: "A refusal is given where these rules name it, and nowhere else."
-- RULES 6.6: "Where more than one refusal applies, the call gives that which comes first in its order": each answer's number is that of the first, 0 where none applies, and no refusal has the number 0 or another's.
pub record RefusalsNamed : Type 0 where
  pub machine : EachMachineCall Numbered
  pub archive : EachArchiveCall Numbered
  pub not_0 : (r : Refusal) → refusal_number r ≢ 0
  pub told_apart : (r s : Refusal) → refusal_number r ≡ refusal_number s → r ≡ s

-- RULES 1.3: "A refusal leaves machine, memory, table and archive block as it found them.": of what the rules leave, which is what the code leaves (Demand2.antt). The reader's calls are lent their blocks as `&[u8]`, and cannot change them.
pub record RefusalsLeave : Type 0 where
  pub machine : RefusalLaws
  pub writer : EachRefusalLeaves
