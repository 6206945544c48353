-- Every two outcomes that a public function's contract allows on one input are equal. One argument serves all.
-- Assumes nothing.
use Rattle.std.proofs.Common.{◌≡◌, ℕ, Option}
use contract.Lifetimes.{Lfts}
use borrow.Fn.World.{ArgsD}
use borrow.Fn.Kinds.{ended_of}
use denote.Triple.Clauses.{AtExit}
use denote.RattleType.{RattleType}
use denote.Param.Laws.{Laws}
use Rattle.rules.specs.declared.entry.GuestAddress.{GuestAddress}
use Rattle.rules.specs.declared.entry.EntryNumber.{EntryNumber}
use Rattle.rules.specs.declared.kinds.Kind.{Kind}
use Rattle.rules.specs.declared.operations.Operation.{Operation}
use Rattle.rules.specs.declared.operations.Shape.{Shape}
use Rattle.rules.specs.declared.answers.Record.{Record}
use Rattle.rules.specs.declared.cores.Core.{Core}
use Rattle.rules.specs.declared.cores.MicroStep.{MicroStep}
use Rattle.rules.specs.declared.state.Machine.{Machine}
use Rattle.rules.specs.declared.state.Called.{Called}
use Rattle.rules.proofs.Lawful.{one-outcome}
use Rattle.rules.specs.contracts.entry.entry_of as entry_of
use Rattle.rules.proofs.entry.entry_of.Kinds as entry-of-kinds
use Rattle.rules.proofs.entry.entry_of.Reads as entry-of-reads
use Rattle.rules.specs.contracts.entry.GuestAddress.place as place
use Rattle.rules.proofs.entry.GuestAddress.place.Kinds as place-kinds
use Rattle.rules.proofs.entry.GuestAddress.place.Reads as place-reads
use Rattle.rules.specs.contracts.operations.Operation.code as code
use Rattle.rules.proofs.operations.Operation.code.Kinds as code-kinds
use Rattle.rules.proofs.operations.Operation.code.Reads as code-reads
use Rattle.rules.specs.contracts.operations.Operation.address as address
use Rattle.rules.proofs.operations.Operation.address.Kinds as address-kinds
use Rattle.rules.proofs.operations.Operation.address.Reads as address-reads
use Rattle.rules.specs.contracts.operations.Operation.value as value
use Rattle.rules.proofs.operations.Operation.value.Kinds as value-kinds
use Rattle.rules.proofs.operations.Operation.value.Reads as value-reads
use Rattle.rules.specs.contracts.kinds.Kind.number as kind-number
use Rattle.rules.proofs.kinds.Kind.number.Kinds as kind-number-kinds
use Rattle.rules.proofs.kinds.Kind.number.Reads as kind-number-reads
use Rattle.rules.specs.contracts.kinds.Kind.of as kind-of-number
use Rattle.rules.proofs.kinds.Kind.of.Kinds as kind-of-number-kinds
use Rattle.rules.proofs.kinds.Kind.of.Reads as kind-of-number-reads
use Rattle.rules.specs.contracts.operations.Operation.of as operation-of-number
use Rattle.rules.proofs.operations.Operation.of.Kinds as operation-of-number-kinds
use Rattle.rules.proofs.operations.Operation.of.Reads as operation-of-number-reads
use Rattle.rules.specs.contracts.answers.Record.of_poke as poke-record
use Rattle.rules.proofs.answers.Record.of_poke.Kinds as poke-record-kinds
use Rattle.rules.proofs.answers.Record.of_poke.Reads as poke-record-reads
use Rattle.rules.specs.contracts.operations.Shape.of as shape-of-number
use Rattle.rules.proofs.operations.Shape.of.Kinds as shape-of-number-kinds
use Rattle.rules.proofs.operations.Shape.of.Reads as shape-of-number-reads
use Rattle.rules.specs.contracts.refusals.Refusal.number as number
use Rattle.rules.proofs.refusals.Refusal.number.Kinds as number-kinds
use Rattle.rules.proofs.refusals.Refusal.number.Reads as number-reads
use Rattle.rules.specs.contracts.refusals.number_of as number-of
use Rattle.rules.proofs.refusals.number_of.Kinds as number-of-kinds
use Rattle.rules.proofs.refusals.number_of.Reads as number-of-reads
use Rattle.rules.specs.contracts.cores.Core.idle as idle
use Rattle.rules.proofs.cores.Core.idle.Kinds as idle-kinds
use Rattle.rules.proofs.cores.Core.idle.Reads as idle-reads
use Rattle.rules.specs.contracts.cores.Core.given as given
use Rattle.rules.proofs.cores.Core.given.Kinds as given-kinds
use Rattle.rules.proofs.cores.Core.given.Reads as given-reads
use Rattle.rules.specs.contracts.cores.Core.micro_step as micro-step
use Rattle.rules.proofs.cores.Core.micro_step.Kinds as micro-step-kinds
use Rattle.rules.proofs.cores.Core.micro_step.Reads as micro-step-reads
use Rattle.rules.specs.contracts.state.Machine.all_idle as all-idle
use Rattle.rules.proofs.state.Machine.all_idle.Kinds as all-idle-kinds
use Rattle.rules.proofs.state.Machine.all_idle.Reads as all-idle-reads
use Rattle.rules.specs.contracts.state.Called.refused as refused
use Rattle.rules.proofs.state.Called.refused.Kinds as refused-kinds
use Rattle.rules.proofs.state.Called.refused.Reads as refused-reads
use Rattle.rules.specs.contracts.state.Called.answered as answered
use Rattle.rules.proofs.state.Called.answered.Kinds as answered-kinds
use Rattle.rules.proofs.state.Called.answered.Reads as answered-reads

module _ (κs : Lfts 0) (a : ArgsD entry_of.signature κs) (one other : EntryNumber) (s t : AtExit (ended_of 0 entry-of-kinds.ps entry-of-kinds.r) κs) where
  pub entry_of_determined : entry-of-reads.Post κs a one s → entry-of-reads.Post κs a other t → one ≡ other
  entry_of_determined p q = one-outcome EntryNumber _ _ _ p q

module _ (κs : Lfts 0) (a : ArgsD place.signature κs) (one other : ℕ) (s t : AtExit (ended_of 0 place-kinds.ps place-kinds.r) κs) where
  pub place_determined : place-reads.Post κs a one s → place-reads.Post κs a other t → one ≡ other
  place_determined p q = one-outcome ℕ _ _ _ p q

module _ (κs : Lfts 0) (a : ArgsD code.signature κs) (one other : ℕ) (s t : AtExit (ended_of 0 code-kinds.ps code-kinds.r) κs) where
  pub code_determined : code-reads.Post κs a one s → code-reads.Post κs a other t → one ≡ other
  code_determined p q = one-outcome ℕ _ _ _ p q

module _ (κs : Lfts 0) (a : ArgsD address.signature κs) (one other : GuestAddress) (s t : AtExit (ended_of 0 address-kinds.ps address-kinds.r) κs) where
  pub address_determined : address-reads.Post κs a one s → address-reads.Post κs a other t → one ≡ other
  address_determined p q = one-outcome GuestAddress _ _ _ p q

module _ (κs : Lfts 0) (a : ArgsD value.signature κs) (one other : ℕ) (s t : AtExit (ended_of 0 value-kinds.ps value-kinds.r) κs) where
  pub value_determined : value-reads.Post κs a one s → value-reads.Post κs a other t → one ≡ other
  value_determined p q = one-outcome ℕ _ _ _ p q

module _ (κs : Lfts 0) (a : ArgsD kind-number.signature κs) (one other : ℕ) (s t : AtExit (ended_of 0 kind-number-kinds.ps kind-number-kinds.r) κs) where
  pub kind_number_determined : kind-number-reads.Post κs a one s → kind-number-reads.Post κs a other t → one ≡ other
  kind_number_determined p q = one-outcome ℕ _ _ _ p q

module _ (κs : Lfts 0) (a : ArgsD kind-of-number.signature κs) (one other : Option Kind) (s t : AtExit (ended_of 0 kind-of-number-kinds.ps kind-of-number-kinds.r) κs) where
  pub kind_of_number_determined : kind-of-number-reads.Post κs a one s → kind-of-number-reads.Post κs a other t → one ≡ other
  kind_of_number_determined p q = one-outcome (Option Kind) _ _ _ p q

module _ (κs : Lfts 0) (a : ArgsD operation-of-number.signature κs) (one other : Option Operation) (s t : AtExit (ended_of 0 operation-of-number-kinds.ps operation-of-number-kinds.r) κs) where
  pub operation_of_number_determined : operation-of-number-reads.Post κs a one s → operation-of-number-reads.Post κs a other t → one ≡ other
  operation_of_number_determined p q = one-outcome (Option Operation) _ _ _ p q

module _ (κs : Lfts 0) (a : ArgsD poke-record.signature κs) (one other : Record) (s t : AtExit (ended_of 0 poke-record-kinds.ps poke-record-kinds.r) κs) where
  pub poke_record_determined : poke-record-reads.Post κs a one s → poke-record-reads.Post κs a other t → one ≡ other
  poke_record_determined p q = one-outcome Record _ _ _ p q

module _ (κs : Lfts 0) (a : ArgsD shape-of-number.signature κs) (one other : Option Shape) (s t : AtExit (ended_of 0 shape-of-number-kinds.ps shape-of-number-kinds.r) κs) where
  pub shape_of_number_determined : shape-of-number-reads.Post κs a one s → shape-of-number-reads.Post κs a other t → one ≡ other
  shape_of_number_determined p q = one-outcome (Option Shape) _ _ _ p q

module _ (κs : Lfts 0) (a : ArgsD number.signature κs) (one other : ℕ) (s t : AtExit (ended_of 0 number-kinds.ps number-kinds.r) κs) where
  pub number_determined : number-reads.Post κs a one s → number-reads.Post κs a other t → one ≡ other
  number_determined p q = one-outcome ℕ _ _ _ p q

module _ (κs : Lfts 0) (a : ArgsD idle.signature κs) (one other : Core) (s t : AtExit (ended_of 0 idle-kinds.ps idle-kinds.r) κs) where
  pub idle_determined : idle-reads.Post κs a one s → idle-reads.Post κs a other t → one ≡ other
  idle_determined p q = one-outcome Core _ _ _ p q

module _ (κs : Lfts 0) (a : ArgsD given.signature κs) (one other : Core) (s t : AtExit (ended_of 0 given-kinds.ps given-kinds.r) κs) where
  pub given_determined : given-reads.Post κs a one s → given-reads.Post κs a other t → one ≡ other
  given_determined p q = one-outcome Core _ _ _ p q

module _ (κs : Lfts 0) (a : ArgsD micro-step.signature κs) (one other : MicroStep) (s t : AtExit (ended_of 0 micro-step-kinds.ps micro-step-kinds.r) κs) where
  pub micro_step_determined : micro-step-reads.Post κs a one s → micro-step-reads.Post κs a other t → one ≡ other
  micro_step_determined p q = one-outcome MicroStep _ _ _ p q

module _ (κs : Lfts 0) (a : ArgsD all-idle.signature κs) (one other : Machine) (s t : AtExit (ended_of 0 all-idle-kinds.ps all-idle-kinds.r) κs) where
  pub all_idle_determined : all-idle-reads.Post κs a one s → all-idle-reads.Post κs a other t → one ≡ other
  all_idle_determined p q = one-outcome Machine _ _ _ p q

module _ (κs : Lfts 0) (a : ArgsD refused.signature κs) (one other : Called) (s t : AtExit (ended_of 0 refused-kinds.ps refused-kinds.r) κs) where
  pub refused_determined : refused-reads.Post κs a one s → refused-reads.Post κs a other t → one ≡ other
  refused_determined p q = one-outcome Called _ _ _ p q

module _ (κs : Lfts 0) (a : ArgsD answered.signature κs) (one other : Called) (s t : AtExit (ended_of 0 answered-kinds.ps answered-kinds.r) κs) where
  pub answered_determined : answered-reads.Post κs a one s → answered-reads.Post κs a other t → one ≡ other
  answered_determined p q = one-outcome Called _ _ _ p q

module _ (T : RattleType) (L : Laws T) (κs : Lfts 2) (a : ArgsD (number-of.signature T) κs) (one other : ℕ) (s t : AtExit (ended_of 2 (number-of-kinds.ps T L) (number-of-kinds.r T L)) κs) where
  pub number_of_determined : number-of-reads.Post T L κs a one s → number-of-reads.Post T L κs a other t → one ≡ other
  number_of_determined p q = one-outcome ℕ _ _ _ p q
