-- Every two outcomes that a public call's contract allows on one input are equal: the result, and every lent byte at exit. One argument serves all.
-- Assumes nothing.
use Rattle.std.proofs.Common.{◌≡◌, ℕ, Result}
use contract.Lifetimes.{Lfts}
use borrow.Fn.World.{ArgsD}
use borrow.Fn.Kinds.{ended_of}
use denote.Triple.Clauses.{AtExit}
use Rattle.rules.specs.Calls.{Outcome, outcome, PokeOutcome, poke_outcome}
use Rattle.rules.specs.declared.state.Called.{Called}
use Rattle.rules.specs.declared.answers.Record.{Record}
use Rattle.rules.specs.declared.refusals.Refusal.{Refusal}
use Rattle.rules.specs.declared.cores.Core.{Core}
use Rattle.rules.specs.declared.cores.MicroStep.{MicroStep}
use Rattle.machine.specs.declared.sizes.Sizes.{Sizes}
use Rattle.machine.specs.Step.{StepCoreOutcome, step_core_outcome}
use Rattle.machine.specs.PokeShow.{PokeWordOutcome, poke_word_outcome}
use Rattle.machine.specs.declared.calls.step.Stepped.{Stepped}
use Rattle.rules.proofs.Lawful.{one-outcome}
use Rattle.machine.specs.contracts.calls.start.start as start
use Rattle.machine.proofs.calls.start.start.Kinds as start-kinds
use Rattle.machine.proofs.calls.start.start.Reads as start-reads
use Rattle.machine.specs.contracts.calls.give.give as give
use Rattle.machine.proofs.calls.give.give.Kinds as give-kinds
use Rattle.machine.proofs.calls.give.give.Reads as give-reads
use Rattle.machine.specs.contracts.calls.step.step as step
use Rattle.machine.proofs.calls.step.step.Kinds as step-kinds
use Rattle.machine.proofs.calls.step.step.Reads as step-reads
use Rattle.machine.specs.contracts.calls.poke.poke as poke
use Rattle.machine.proofs.calls.poke.poke.Kinds as poke-kinds
use Rattle.machine.proofs.calls.poke.poke.Reads as poke-reads
use Rattle.machine.specs.contracts.calls.show.show as show
use Rattle.machine.proofs.calls.show.show.Kinds as show-kinds
use Rattle.machine.proofs.calls.show.show.Reads as show-reads
use Rattle.machine.specs.contracts.calls.step.step_core as step-core
use Rattle.machine.proofs.calls.step.step_core.Kinds as step-core-kinds
use Rattle.machine.proofs.calls.step.step_core.Reads as step-core-reads
use Rattle.machine.specs.contracts.calls.give.give_core as give-core
use Rattle.machine.proofs.calls.give.give_core.Kinds as give-core-kinds
use Rattle.machine.proofs.calls.give.give_core.Reads as give-core-reads
use Rattle.machine.specs.contracts.calls.poke.poke_word as poke-word
use Rattle.machine.proofs.calls.poke.poke_word.Kinds as poke-word-kinds
use Rattle.machine.proofs.calls.poke.poke_word.Reads as poke-word-reads
use Rattle.machine.specs.contracts.sizes.Sizes.of as sizes-of
use Rattle.machine.proofs.sizes.Sizes.of.Kinds as sizes-of-kinds
use Rattle.machine.proofs.sizes.Sizes.of.Reads as sizes-of-reads
use Rattle.machine.specs.contracts.calls.step.Stepped.refused as stepped-refused
use Rattle.machine.proofs.calls.step.Stepped.refused.Kinds as stepped-refused-kinds
use Rattle.machine.proofs.calls.step.Stepped.refused.Reads as stepped-refused-reads
use Rattle.machine.specs.contracts.calls.show.show_word as show-word
use Rattle.machine.proofs.calls.show.show_word.Kinds as show-word-kinds
use Rattle.machine.proofs.calls.show.show_word.Reads as show-word-reads

module _ (κs : Lfts 3) (a : ArgsD start.signature κs) (one other : Called) (s t : AtExit (ended_of 3 start-kinds.ps start-kinds.r) κs) where
  pub start_determined : start-reads.Post κs a one s → start-reads.Post κs a other t
      → outcome one s.1.0.now s.1.1.0.now s.1.1.1.0.now ≡ outcome other t.1.0.now t.1.1.0.now t.1.1.1.0.now
  start_determined p q = one-outcome Outcome _ _ _ p.1 q.1

module _ (κs : Lfts 0) (a : ArgsD give.signature κs) (one other : Called) (s t : AtExit (ended_of 0 give-kinds.ps give-kinds.r) κs) where
  pub give_determined : give-reads.Post κs a one s → give-reads.Post κs a other t → one ≡ other
  give_determined p q = one-outcome Called _ _ _ p.1 q.1

module _ (κs : Lfts 3) (a : ArgsD step.signature κs) (one other : Called) (s t : AtExit (ended_of 3 step-kinds.ps step-kinds.r) κs) where
  pub step_determined : step-reads.Post κs a one s → step-reads.Post κs a other t
      → outcome one s.1.0.now s.1.1.0.now s.1.1.1.0.now ≡ outcome other t.1.0.now t.1.1.0.now t.1.1.1.0.now
  step_determined p q = one-outcome Outcome _ _ _ p.1 q.1

module _ (κs : Lfts 1) (a : ArgsD poke.signature κs) (one other : Called) (s t : AtExit (ended_of 1 poke-kinds.ps poke-kinds.r) κs) where
  pub poke_determined : poke-reads.Post κs a one s → poke-reads.Post κs a other t → poke_outcome one s.1.0.now ≡ poke_outcome other t.1.0.now
  poke_determined p q = one-outcome PokeOutcome _ _ _ p.1 q.1

module _ (κs : Lfts 1) (a : ArgsD show.signature κs) (one other : Called) (s t : AtExit (ended_of 1 show-kinds.ps show-kinds.r) κs) where
  pub show_determined : show-reads.Post κs a one s → show-reads.Post κs a other t → one ≡ other
  show_determined p q = one-outcome Called _ _ _ p.1 q.1

module _ (κs : Lfts 3) (a : ArgsD step-core.signature κs) (one other : Result MicroStep Refusal) (s t : AtExit (ended_of 3 step-core-kinds.ps step-core-kinds.r) κs) where
  pub step_core_determined : step-core-reads.Post κs a one s → step-core-reads.Post κs a other t
      → step_core_outcome one s.1.1.0.now s.1.1.1.0.now s.1.1.1.1.0.now ≡ step_core_outcome other t.1.1.0.now t.1.1.1.0.now t.1.1.1.1.0.now
  step_core_determined p q = one-outcome StepCoreOutcome _ _ _ p q

module _ (κs : Lfts 0) (a : ArgsD give-core.signature κs) (one other : Result Core Refusal) (s t : AtExit (ended_of 0 give-core-kinds.ps give-core-kinds.r) κs) where
  pub give_core_determined : give-core-reads.Post κs a one s → give-core-reads.Post κs a other t → one ≡ other
  give_core_determined p q = one-outcome (Result Core Refusal) _ _ _ p q

module _ (κs : Lfts 1) (a : ArgsD poke-word.signature κs) (one other : Result Record Refusal) (s t : AtExit (ended_of 1 poke-word-kinds.ps poke-word-kinds.r) κs) where
  pub poke_word_determined : poke-word-reads.Post κs a one s → poke-word-reads.Post κs a other t → poke_word_outcome one s.1.0.now ≡ poke_word_outcome other t.1.0.now
  poke_word_determined p q = one-outcome PokeWordOutcome _ _ _ p q

module _ (κs : Lfts 1) (a : ArgsD show-word.signature κs) (one other : Result ℕ Refusal) (s t : AtExit (ended_of 1 show-word-kinds.ps show-word-kinds.r) κs) where
  pub show_word_determined : show-word-reads.Post κs a one s → show-word-reads.Post κs a other t → one ≡ other
  show_word_determined p q = one-outcome (Result ℕ Refusal) _ _ _ p q

module _ (κs : Lfts 1) (a : ArgsD sizes-of.signature κs) (one other : Sizes) (s t : AtExit (ended_of 1 sizes-of-kinds.ps sizes-of-kinds.r) κs) where
  pub sizes_of_determined : sizes-of-reads.Post κs a one s → sizes-of-reads.Post κs a other t → one ≡ other
  sizes_of_determined p q = one-outcome Sizes _ _ _ p q

module _ (κs : Lfts 0) (a : ArgsD stepped-refused.signature κs) (one other : Stepped) (s t : AtExit (ended_of 0 stepped-refused-kinds.ps stepped-refused-kinds.r) κs) where
  pub stepped_refused_determined : stepped-refused-reads.Post κs a one s → stepped-refused-reads.Post κs a other t → one ≡ other
  stepped_refused_determined p q = one-outcome Stepped _ _ _ p q
