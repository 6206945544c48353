-- Every two outcomes that a public call's contract allows on one input are equal: the result, and every lent byte at exit. One argument serves all.
-- Assumes nothing.
use Rattle.std.proofs.Common.{◌≡◌, ℕ, List, Option, Result}
use contract.Lifetimes.{Lfts}
use borrow.Fn.World.{ArgsD}
use borrow.Fn.Kinds.{ended_of}
use denote.Ref.{Bor}
use denote.Triple.Clauses.{AtExit}
use Rattle.rules.proofs.Lawful.{one-outcome}
use Rattle.rules.specs.declared.refusals.Refusal.{Refusal}
use Rattle.machine.specs.declared.calls.step.Stepped.{Stepped}
use Rattle.commands.specs.Effect.{LineOutcome, line_outcome}
use Rattle.commands.specs.Turns.{TurnOutcome, turn_outcome}
use Rattle.commands.specs.declared.effect.Session.{Session}
use Rattle.commands.specs.declared.grammar.Command.{Command}
use Rattle.commands.specs.declared.text.LineNumber.{LineNumber}
use Rattle.commands.specs.declared.turns.Did.{Did}
use Rattle.commands.specs.contracts.effect.no_machine as no-machine
use Rattle.commands.proofs.effect.no_machine.Kinds as no-machine-kinds
use Rattle.commands.proofs.effect.no_machine.Reads as no-machine-reads
use Rattle.commands.specs.contracts.effect.set_up as set-up
use Rattle.commands.proofs.effect.set_up.Kinds as set-up-kinds
use Rattle.commands.proofs.effect.set_up.Reads as set-up-reads
use Rattle.commands.specs.contracts.turns.one_core_of as one-core-of
use Rattle.commands.proofs.turns.one_core_of.Kinds as one-core-of-kinds
use Rattle.commands.proofs.turns.one_core_of.Reads as one-core-of-reads
use Rattle.commands.specs.contracts.turns.act as act
use Rattle.commands.proofs.turns.act.Kinds as act-kinds
use Rattle.commands.proofs.turns.act.Reads as act-reads
use Rattle.commands.specs.contracts.effect.Session.run as run
use Rattle.commands.proofs.effect.Session.run.Kinds as run-kinds
use Rattle.commands.proofs.effect.Session.run.Reads as run-reads
use Rattle.commands.specs.contracts.grammar.short_step as short-step
use Rattle.commands.proofs.grammar.short_step.Kinds as short-step-kinds
use Rattle.commands.proofs.grammar.short_step.Reads as short-step-reads
use Rattle.commands.specs.contracts.grammar.read_line as read-line
use Rattle.commands.proofs.grammar.read_line.Kinds as read-line-kinds
use Rattle.commands.proofs.grammar.read_line.Reads as read-line-reads
use Rattle.commands.specs.contracts.text.line_number as line-number
use Rattle.commands.proofs.text.line_number.Kinds as line-number-kinds
use Rattle.commands.proofs.text.line_number.Reads as line-number-reads
use Rattle.commands.specs.contracts.text.counted_on as counted-on
use Rattle.commands.proofs.text.counted_on.Kinds as counted-on-kinds
use Rattle.commands.proofs.text.counted_on.Reads as counted-on-reads
use Rattle.commands.specs.contracts.text.answer_line as answer-line
use Rattle.commands.proofs.text.answer_line.Kinds as answer-line-kinds
use Rattle.commands.proofs.text.answer_line.Reads as answer-line-reads
use Rattle.commands.specs.contracts.text.refused_line as refused-line
use Rattle.commands.proofs.text.refused_line.Kinds as refused-line-kinds
use Rattle.commands.proofs.text.refused_line.Reads as refused-line-reads
use Rattle.commands.proofs.words.number_word.Kinds as number-word-kinds
use Rattle.commands.proofs.words.number_word.Reads as number-word-reads

module _ (κs : Lfts 0) (a : ArgsD no-machine.signature κs) (one other : Session) (s t : AtExit (ended_of 0 no-machine-kinds.ps no-machine-kinds.r) κs) where
  pub no_machine_determined : no-machine-reads.Post κs a one s → no-machine-reads.Post κs a other t → one ≡ other
  no_machine_determined p q = one-outcome Session _ _ _ p q

module _ (κs : Lfts 4) (a : ArgsD set-up.signature κs) (one other : Stepped) (s t : AtExit (ended_of 4 set-up-kinds.ps set-up-kinds.r) κs) where
  pub set_up_determined : set-up-reads.Post κs a one s → set-up-reads.Post κs a other t
      → line_outcome one s.0.now s.1.0.now s.1.1.0.now s.1.1.1.0.now
      ≡ line_outcome other t.0.now t.1.0.now t.1.1.0.now t.1.1.1.0.now
  set_up_determined p q = one-outcome LineOutcome _ _ _ p q

module _ (κs : Lfts 0) (a : ArgsD one-core-of.signature κs) (one other : Option ℕ) (s t : AtExit (ended_of 0 one-core-of-kinds.ps one-core-of-kinds.r) κs) where
  pub one_core_of_determined : one-core-of-reads.Post κs a one s → one-core-of-reads.Post κs a other t → one ≡ other
  one_core_of_determined p q = one-outcome (Option ℕ) _ _ _ p q

module _ (κs : Lfts 3) (a : ArgsD act.signature κs) (one other : Result Did Refusal) (s t : AtExit (ended_of 3 act-kinds.ps act-kinds.r) κs) where
  pub act_determined : act-reads.Post κs a one s → act-reads.Post κs a other t
      → turn_outcome one s.1.1.0.now s.1.1.1.0.now s.1.1.1.1.0.now
      ≡ turn_outcome other t.1.1.0.now t.1.1.1.0.now t.1.1.1.1.0.now
  act_determined p q = one-outcome TurnOutcome _ _ _ p q

module _ (κs : Lfts 4) (a : ArgsD run.signature κs) (one other : Stepped) (s t : AtExit (ended_of 4 run-kinds.ps run-kinds.r) κs) where
  pub run_determined : run-reads.Post κs a one s → run-reads.Post κs a other t
      → line_outcome one s.0.now s.1.0.now s.1.1.0.now s.1.1.1.0.now
      ≡ line_outcome other t.0.now t.1.0.now t.1.1.0.now t.1.1.1.0.now
  run_determined p q = one-outcome LineOutcome _ _ _ p.0 q.0

module _ (κs : Lfts 1) (a : ArgsD short-step.signature κs) (one other : Option ℕ) (s t : AtExit (ended_of 1 short-step-kinds.ps short-step-kinds.r) κs) where
  pub short_step_determined : short-step-reads.Post κs a one s → short-step-reads.Post κs a other t → one ≡ other
  short_step_determined p q = one-outcome (Option ℕ) _ _ _ p q

module _ (κs : Lfts 1) (a : ArgsD read-line.signature κs) (one other : Option Command) (s t : AtExit (ended_of 1 read-line-kinds.ps read-line-kinds.r) κs) where
  pub read_line_determined : read-line-reads.Post κs a one s → read-line-reads.Post κs a other t → one ≡ other
  read_line_determined p q = one-outcome (Option Command) _ _ _ p q

module _ (κs : Lfts 0) (a : ArgsD line-number.signature κs) (one other : Option LineNumber) (s t : AtExit (ended_of 0 line-number-kinds.ps line-number-kinds.r) κs) where
  pub line_number_determined : line-number-reads.Post κs a one s → line-number-reads.Post κs a other t → one ≡ other
  line_number_determined p q = one-outcome (Option LineNumber) _ _ _ p q

module _ (κs : Lfts 0) (a : ArgsD counted-on.signature κs) (one other : Option LineNumber) (s t : AtExit (ended_of 0 counted-on-kinds.ps counted-on-kinds.r) κs) where
  pub counted_on_determined : counted-on-reads.Post κs a one s → counted-on-reads.Post κs a other t → one ≡ other
  counted_on_determined p q = one-outcome (Option LineNumber) _ _ _ p q

module _ (κs : Lfts 1) (a : ArgsD answer-line.signature κs) (one other : ℕ) (s t : AtExit (ended_of 1 answer-line-kinds.ps answer-line-kinds.r) κs) where
  pub answer_line_text_determined : answer-line-reads.Post κs a one s → answer-line-reads.Post κs a other t → s.1.1.1.0.now ≡ t.1.1.1.0.now
  answer_line_text_determined p q = one-outcome (List ℕ) _ _ _ p.0 q.0

  pub answer_line_determined : answer-line-reads.Post κs a one s → answer-line-reads.Post κs a other t → one ≡ other
  answer_line_determined p q = one-outcome ℕ _ _ _ p.1.0 q.1.0

module _ (κs : Lfts 1) (a : ArgsD refused-line.signature κs) (one other : ℕ) (s t : AtExit (ended_of 1 refused-line-kinds.ps refused-line-kinds.r) κs) where
  pub refused_line_text_determined : refused-line-reads.Post κs a one s → refused-line-reads.Post κs a other t → s.1.1.1.0.now ≡ t.1.1.1.0.now
  refused_line_text_determined p q = one-outcome (List ℕ) _ _ _ p.0 q.0

  pub refused_line_determined : refused-line-reads.Post κs a one s → refused-line-reads.Post κs a other t → one ≡ other
  refused_line_determined p q = one-outcome ℕ _ _ _ p.1.0 q.1.0

module _ (κs : Lfts 1) (a : ArgsD (ended_of 1 number-word-kinds.ps number-word-kinds.r).signature κs) (one other : Bor (List ℕ)) (s t : AtExit (ended_of 1 number-word-kinds.ps number-word-kinds.r) κs) where
  pub number_word_determined : number-word-reads.Post κs a one s → number-word-reads.Post κs a other t → one.now ≡ other.now
  number_word_determined p q = one-outcome (List ℕ) _ _ _ p q
