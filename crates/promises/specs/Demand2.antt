-- RULES 1, what is demanded: demand 2, of micro-steps, of a run's store-conditionals, and of archive blocks.
use Rattle.std.specs.Prelude.{◌≡◌, ◌⊎◌, List, ◌∷◌, ◌++◌, ℕ, Ok}
use Rattle.rules.specs.Kinds.{kind_number}
use Rattle.rules.specs.Calls.{Outcome}
use Rattle.rules.specs.History.{History}
use Rattle.rules.specs.Runs.{Call, step, act, Fresh, after, records, given_to, last_of, entry_rule}
use Rattle.rules.specs.declared.entry.GuestAddress.{GuestAddress}
use Rattle.rules.specs.declared.answers.Record.{Record}
use Rattle.rules.specs.declared.kinds.Kind.{Kind}
use Rattle.rules.specs.declared.kinds.Kind.TheVariants.{Success, Failure}
use Rattle.rules.specs.declared.operations.Operation.TheVariants as Asked
use Rattle.rules.specs.declared.answers.Answer.TheVariants.{Done}
use Rattle.rules.specs.declared.answers.Delivered.TheVariants as Answered
use Rattle.rules.specs.Laws.{KindLaws}
use Rattle.archive.specs.Promises.{EachBlockReadsBack, EachArchiveReadsBack, EachRunIsAnArchive, EachRunReadsBack, EveryListIsArchived, EachBlockIsOne, SameBlock, EachArchiveIsOne, SameArchive}
use Rattle.promises.specs.Readings.{AsTheRule}
use Rattle.promises.specs.MachineReadings.{EachMachineCall}
use Rattle.promises.specs.ArchiveReadings.{EachArchiveCall}
use Rattle.promises.specs.Riscv.{NoneIs, MustFail}
use Rattle.promises.specs.Causes.{Cause}

-- RULES 1.4: "Each micro-step does what the rules of the locked table say (4).": what the code's step leaves in either form is `step_of`, whose micro-step is rules/specs/Life.antt, sentence by sentence (and what the other calls leave is theirs); a micro-step writes and links as the kind of its record says.
pub record MicroSteps : Type 0 where
  pub code : EachMachineCall AsTheRule
  pub by_kind : KindLaws

-- The store-conditionals of a run are judged by their records, of the kinds `Success` and `Failure`, and by the answers that are delivered.

-- a run's records, at one of them: what came later, and what was before
pub record At (fresh : Outcome) (calls : List Call) (r : Record) (earlier : History) : Type 0 where
  pub later : History
  pub split : records fresh calls ≡ later ++ r ∷ earlier

-- RULES 1.5: "In a run (1.9) no sc succeeds where RISC-V's A extension, judged by the cores' own accesses, says that it must fail (14)."
abbrev pub NoForbiddenSuccess : Type 0
NoForbiddenSuccess =
    (fresh : Outcome) → Fresh fresh → (calls : List Call) (r : Record) (earlier : History) → At fresh calls r earlier → r.kind ≡ kind_number Success → MustFail r.core r.address earlier → ⊥

-- RULES 1.6: "In a run an sc fails only for one of the causes that these rules name (5.7)."
abbrev pub NamedCause : Type 0
NamedCause =
    (fresh : Outcome) → Fresh fresh → (calls : List Call) (r : Record) (earlier : History) → At fresh calls r earlier → r.kind ≡ kind_number Failure → Cause (entry_rule fresh) r.core r.address earlier

-- The same of the answers. A step of core c, made after these calls, delivers v as an sc's answer (RULES 4.17, 4.19)
abbrev pub DeliversSc : Outcome → List Call → ℕ → ℕ → Type 0
DeliversSc fresh calls c v = (act (after fresh calls) (step c)).called.answer ≡ Ok (Done (Answered.Sc v))

abbrev pub AccessBy : ℕ → Record → Type 0
AccessBy c r = r.core ≡ c

-- The access of the operation that is answered: the operation is the one that the core was given last, and its access the core's latest in the run's records. `sort` is the kind of its record, and `Judged` is what held of its address and of what was before it.
pub record OperationsAccess (fresh : Outcome) (calls : List Call) (c : ℕ) (sort : Kind) (Judged : GuestAddress → History → Type 0) : Type 0 where
  pub later : History
  pub access : Record
  pub earlier : History
  pub split : records fresh calls ≡ later ++ access ∷ earlier
  pub by_core : AccessBy c access
  pub latest : NoneIs (AccessBy c) later
  pub asked : last_of (given_to fresh c calls) ≡ Asked.Sc access.address access.value
  pub kind : access.kind ≡ kind_number sort
  pub judged : Judged access.address earlier

-- RULES 4.19: "An sc answers 0 where it succeeded and 1 where it failed."
pub record AnswersOf (fresh : Outcome) (calls : List Call) (c : ℕ) : Type 0 where
  -- RULES 1.5, of an answer: where it is 0, RISC-V does not say of its access that it must fail
  pub zero : DeliversSc fresh calls c 0 → OperationsAccess fresh calls c Success (λ a earlier. MustFail c a earlier → ⊥)
  -- RULES 1.6, of an answer: where it is 1, a cause held at its access
  pub one : DeliversSc fresh calls c 1 → OperationsAccess fresh calls c Failure (λ a earlier. Cause (entry_rule fresh) c a earlier)
  pub no_other : (v : ℕ) → DeliversSc fresh calls c v → (v ≡ 0) ⊎ (v ≡ 1)

abbrev pub AnswersTell : Type 0
AnswersTell = (fresh : Outcome) → Fresh fresh → (calls : List Call) (c : ℕ) → AnswersOf fresh calls c

-- RULES 1.7: "What is read back from archive blocks is the records that were written.": of a block, of a whole archive, and of what a writer's calls put out, refused ones among them and after its close too; and the code writes and reads as these rules
pub record ReadsBack : Type 0 where
  pub code : EachArchiveCall AsTheRule
  pub blocks : EachBlockReadsBack
  pub archives : EachArchiveReadsBack
  pub runs_are_archives : EachRunIsAnArchive
  pub runs : EachRunReadsBack
  pub lists : EveryListIsArchived

-- RULES 1.8: "A block that is accepted is the only one with its number and its records.": it is the encoding of them, and two that are accepted with the same are the same, byte for byte; so with a whole archive
pub record OnlyOne : Type 0 where
  pub block_is_encoding : EachBlockIsOne
  pub one_block : SameBlock
  pub archive_is_encoding : EachArchiveIsOne
  pub one_archive : SameArchive
