-- A step for a caller that knows its machine to be in its ranges and keeps it, which sees the sizes and one core; and a step on the machine where it stands.
use Rattle.std.specs.Prelude.{ℕ, ◌+◌, ◌%◌, ◌<◌, ◌≤◌, Bool, not, ◌&&◌, List, Result, None, Ok, Err, length, ◌==◌, nat_le, nat_lt, if◌then◌else◌}
use Rattle.rules.specs.Entry.{entry_of}
use Rattle.rules.specs.Word.{read_word, write_word}
use Rattle.rules.specs.Life.{micro_step}
use Rattle.rules.specs.Ranges.{damaged}
use Rattle.rules.specs.Refusals.{Tested, no_refusal, unless_refused}
use Rattle.rules.specs.Calls.{Outcome, outcome, refused, with_core, mark_at, with_mark}
use Rattle.rules.specs.declared.entry.EntryNumber.{EntryNumber}
use Rattle.rules.specs.declared.refusals.Refusal.{Refusal}
use Rattle.rules.specs.declared.refusals.Refusal.TheVariants.{NoSuchCore, LentLengths, OutOfRange, Damaged, Idle}
use Rattle.rules.specs.declared.cores.Core.{Core}
use Rattle.rules.specs.declared.cores.MicroStep.{MicroStep}
use Rattle.rules.specs.declared.state.Machine.{Machine}
use Rattle.rules.specs.declared.state.Called.{Called}
use Rattle.machine.specs.declared.sizes.Sizes.{Sizes}
use Rattle.machine.specs.declared.calls.step.Stepped.{Stepped}

abbrev pub lent_are : Sizes → ℕ → ℕ → ℕ → Bool
lent_are s memory owners holders = memory == s.bytes && owners == s.entries && holders == s.entries

-- the entry of the core's operation
abbrev pub entry_for : Sizes → Core → EntryNumber
entry_for s c = entry_of s.entries c.address

-- what a step reaches is there: the core is one of the eight, its entry in the table, its word in memory
abbrev pub reaches : Sizes → Core → ℕ → Bool
reaches s c core = nat_lt core 8 && nat_lt (entry_for s c).0 s.entries && nat_le (c.address.0 + 4) s.bytes

-- a step's refusals but for a state out of its ranges, which is left to the caller, save where the step would reach what is not there
unfoldable pub known_step_refusal : Sizes → Core → ℕ → List ℕ → List ℕ → ℕ → Tested
known_step_refusal s c memory owners holders core =
    if not (lent_are s memory (length owners) (length holders)) then Err LentLengths
    else if nat_le s.count core then Err NoSuchCore
    else if not c.busy then Err Idle
    else if not (reaches s c core) then Err OutOfRange
    else if damaged s.count core c (mark_at owners (entry_for s c)) (mark_at holders (entry_for s c)) then Err Damaged
    else no_refusal

-- and so a step that is not refused reaches what is there: the word in the lent memory, and the entry in both lent tables
pub record Reach (c : Core) (e : EntryNumber) (memory : ℕ) (owners holders : List ℕ) (core : ℕ) : Type 0 where
  pub core_small : core < 8
  pub word_there : c.address.0 + 4 ≤ memory
  pub owner_there : e.0 < length owners
  pub holder_there : e.0 < length holders

-- what the step leaves: what it makes of the core and answers, and the three lent buffers
pub record StepCoreOutcome : Type 0 where
  pub step : Result MicroStep Refusal
  pub memory : List ℕ
  pub owners : List ℕ
  pub holders : List ℕ

abbrev pub step_core_outcome : Result MicroStep Refusal → List ℕ → List ℕ → List ℕ → StepCoreOutcome
step_core_outcome step memory owners holders = record { step = step; memory = memory; owners = owners; holders = holders }

-- a micro-step of the core whose operation has the entry e
abbrev pub core_stepped : Core → EntryNumber → List ℕ → List ℕ → List ℕ → MicroStep → StepCoreOutcome
core_stepped c e memory owners holders s =
    step_core_outcome (Ok s) (if s.writes then write_word memory c.address c.value else memory) (with_mark owners e s.owner) (with_mark holders e s.holder)

abbrev pub core_step : Core → EntryNumber → List ℕ → List ℕ → List ℕ → ℕ → MicroStep
core_step c e memory owners holders core = micro_step core c (mark_at owners e) (mark_at holders e) (read_word memory c.address)

unfoldable pub step_core_of : Sizes → Core → List ℕ → List ℕ → List ℕ → ℕ → StepCoreOutcome
step_core_of s c memory owners holders core =
    unless_refused (known_step_refusal s c (length memory) owners holders core) (λ r. step_core_outcome (Err r) memory owners holders)
    (core_stepped c (entry_for s c) memory owners holders (core_step c (entry_for s c) memory owners holders core))

-- what the caller makes of it: the core is put in its place, and a refusal leaves the machine
abbrev pub called_by_step : Machine → ℕ → Result MicroStep Refusal → Called
called_by_step m core (Ok s) = record { answer = Ok s.answer; made = s.made; machine = with_core m (core % 8) s.core }
called_by_step m core (Err r) = refused r m

abbrev pub outcome_by_step : Machine → ℕ → StepCoreOutcome → Outcome
outcome_by_step m core o = outcome (called_by_step m core o.step) o.memory o.owners o.holders

-- on the machine where it stands: the result and the machine that it leaves are what `step` hands back
abbrev pub called_at : Stepped → Machine → Called
called_at s m = record { answer = s.answer; made = s.made; machine = m }

-- a refused step hands out no record
abbrev pub refused_step : Refusal → Stepped
refused_step refusal = record { answer = Err refusal; made = None }
