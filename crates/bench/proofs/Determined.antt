-- RULES 11.2: "Any two outcomes that a contract allows are shown to be equal.": of each call of the library, every two that its contract allows on one input: the answer, and all that it was lent, at the end. One argument serves all.
-- Assumes nothing.
use Rattle.std.proofs.Common.{◌≡◌, ℕ, List}
use contract.Lifetimes.{Lfts}
use borrow.Fn.World.{ArgsD}
use borrow.Fn.Kinds.{ended_of}
use denote.Triple.Clauses.{AtExit}
use Rattle.rules.specs.declared.state.Machine.{Machine}
use Rattle.rules.proofs.Lawful.{one-outcome}
use Rattle.archive.specs.declared.writer.Writer.{Writer}
use Rattle.bench.specs.CallOutcome.{CallOutcome, call_outcome}
use Rattle.bench.specs.Machines.{StartCallOutcome, start_call_outcome, StepCallOutcome, step_call_outcome, PokeCallOutcome, poke_call_outcome}
use Rattle.bench.specs.Archives.{WriteCallOutcome, write_call_outcome}
use Rattle.bench.specs.contracts.exports.malthobre_start as start
use Rattle.bench.proofs.exports.malthobre_start.Kinds as start-kinds
use Rattle.bench.proofs.exports.malthobre_start.Reads as start-reads
use Rattle.bench.specs.contracts.exports.malthobre_give as give
use Rattle.bench.proofs.exports.malthobre_give.Kinds as give-kinds
use Rattle.bench.proofs.exports.malthobre_give.Reads as give-reads
use Rattle.bench.specs.contracts.exports.malthobre_step as step
use Rattle.bench.proofs.exports.malthobre_step.Kinds as step-kinds
use Rattle.bench.proofs.exports.malthobre_step.Reads as step-reads
use Rattle.bench.specs.contracts.exports.malthobre_poke as poke
use Rattle.bench.proofs.exports.malthobre_poke.Kinds as poke-kinds
use Rattle.bench.proofs.exports.malthobre_poke.Reads as poke-reads
use Rattle.bench.specs.contracts.exports.malthobre_show as show
use Rattle.bench.proofs.exports.malthobre_show.Kinds as show-kinds
use Rattle.bench.proofs.exports.malthobre_show.Reads as show-reads
use Rattle.bench.specs.contracts.exports.malthobre_writer_new as writer-new
use Rattle.bench.proofs.exports.malthobre_writer_new.Kinds as writer-new-kinds
use Rattle.bench.proofs.exports.malthobre_writer_new.Reads as writer-new-reads
use Rattle.bench.specs.contracts.exports.malthobre_writer_add as writer-add
use Rattle.bench.proofs.exports.malthobre_writer_add.Kinds as writer-add-kinds
use Rattle.bench.proofs.exports.malthobre_writer_add.Reads as writer-add-reads
use Rattle.bench.specs.contracts.exports.malthobre_writer_close as writer-close
use Rattle.bench.proofs.exports.malthobre_writer_close.Kinds as writer-close-kinds
use Rattle.bench.proofs.exports.malthobre_writer_close.Reads as writer-close-reads
use Rattle.bench.specs.contracts.exports.malthobre_block_check as block-check
use Rattle.bench.proofs.exports.malthobre_block_check.Kinds as block-check-kinds
use Rattle.bench.proofs.exports.malthobre_block_check.Reads as block-check-reads
use Rattle.bench.specs.contracts.exports.malthobre_block_record as block-record
use Rattle.bench.proofs.exports.malthobre_block_record.Kinds as block-record-kinds
use Rattle.bench.proofs.exports.malthobre_block_record.Reads as block-record-reads
use Rattle.bench.specs.contracts.exports.malthobre_archive_check as archive-check
use Rattle.bench.proofs.exports.malthobre_archive_check.Kinds as archive-check-kinds
use Rattle.bench.proofs.exports.malthobre_archive_check.Reads as archive-check-reads
use Rattle.bench.specs.contracts.exports.malthobre_archive_decided_by as archive-decided-by
use Rattle.bench.proofs.exports.malthobre_archive_decided_by.Kinds as archive-decided-by-kinds
use Rattle.bench.proofs.exports.malthobre_archive_decided_by.Reads as archive-decided-by-reads
use Rattle.bench.specs.contracts.exports.malthobre_archive_record as archive-record
use Rattle.bench.proofs.exports.malthobre_archive_record.Kinds as archive-record-kinds
use Rattle.bench.proofs.exports.malthobre_archive_record.Reads as archive-record-reads

module _ (κs : Lfts 4) (a : ArgsD start.signature κs) (one other : ℕ) (s t : AtExit (ended_of 4 start-kinds.ps start-kinds.r) κs) where
  pub start_determined : start-reads.Post κs a one s → start-reads.Post κs a other t
      → start_call_outcome one s.0.now s.1.1.0.now s.1.1.1.0.now s.1.1.1.1.0.now ≡ start_call_outcome other t.0.now t.1.1.0.now t.1.1.1.0.now t.1.1.1.1.0.now
  start_determined p q = one-outcome StartCallOutcome _ _ _ p q

module _ (κs : Lfts 1) (a : ArgsD give.signature κs) (one other : ℕ) (s t : AtExit (ended_of 1 give-kinds.ps give-kinds.r) κs) where
  pub give_determined : give-reads.Post κs a one s → give-reads.Post κs a other t → call_outcome one s.0.now ≡ call_outcome other t.0.now
  give_determined p q = one-outcome (CallOutcome Machine) _ _ _ p q

module _ (κs : Lfts 5) (a : ArgsD step.signature κs) (one other : ℕ) (s t : AtExit (ended_of 5 step-kinds.ps step-kinds.r) κs) where
  pub step_determined : step-reads.Post κs a one s → step-reads.Post κs a other t
      → step_call_outcome one s.0.now s.1.0.now s.1.1.0.now s.1.1.1.0.now s.1.1.1.1.1.0.now ≡ step_call_outcome other t.0.now t.1.0.now t.1.1.0.now t.1.1.1.0.now t.1.1.1.1.1.0.now
  step_determined p q = one-outcome StepCallOutcome _ _ _ p q

module _ (κs : Lfts 3) (a : ArgsD poke.signature κs) (one other : ℕ) (s t : AtExit (ended_of 3 poke-kinds.ps poke-kinds.r) κs) where
  pub poke_determined : poke-reads.Post κs a one s → poke-reads.Post κs a other t
      → poke_call_outcome one s.0.now s.1.0.now s.1.1.1.1.0.now ≡ poke_call_outcome other t.0.now t.1.0.now t.1.1.1.1.0.now
  poke_determined p q = one-outcome PokeCallOutcome _ _ _ p q

module _ (κs : Lfts 2) (a : ArgsD show.signature κs) (one other : ℕ) (s t : AtExit (ended_of 2 show-kinds.ps show-kinds.r) κs) where
  pub show_determined : show-reads.Post κs a one s → show-reads.Post κs a other t → call_outcome one s.0.now ≡ call_outcome other t.0.now
  show_determined p q = one-outcome (CallOutcome Machine) _ _ _ p q

module _ (κs : Lfts 1) (a : ArgsD writer-new.signature κs) (one other : ℕ) (s t : AtExit (ended_of 1 writer-new-kinds.ps writer-new-kinds.r) κs) where
  pub writer_new_determined : writer-new-reads.Post κs a one s → writer-new-reads.Post κs a other t → call_outcome one s.0.now ≡ call_outcome other t.0.now
  writer_new_determined p q = one-outcome (CallOutcome Writer) _ _ _ p q

module _ (κs : Lfts 3) (a : ArgsD writer-add.signature κs) (one other : ℕ) (s t : AtExit (ended_of 3 writer-add-kinds.ps writer-add-kinds.r) κs) where
  pub writer_add_determined : writer-add-reads.Post κs a one s → writer-add-reads.Post κs a other t → write_call_outcome one s.0.now s.1.0.now ≡ write_call_outcome other t.0.now t.1.0.now
  writer_add_determined p q = one-outcome WriteCallOutcome _ _ _ p q

module _ (κs : Lfts 2) (a : ArgsD writer-close.signature κs) (one other : ℕ) (s t : AtExit (ended_of 2 writer-close-kinds.ps writer-close-kinds.r) κs) where
  pub writer_close_determined : writer-close-reads.Post κs a one s → writer-close-reads.Post κs a other t
      → write_call_outcome one s.0.now s.1.0.now ≡ write_call_outcome other t.0.now t.1.0.now
  writer_close_determined p q = one-outcome WriteCallOutcome _ _ _ p q

module _ (κs : Lfts 1) (a : ArgsD block-check.signature κs) (one other : ℕ) (s t : AtExit (ended_of 1 block-check-kinds.ps block-check-kinds.r) κs) where
  pub block_check_determined : block-check-reads.Post κs a one s → block-check-reads.Post κs a other t → one ≡ other
  block_check_determined p q = one-outcome ℕ _ _ _ p q

module _ (κs : Lfts 2) (a : ArgsD block-record.signature κs) (one other : ℕ) (s t : AtExit (ended_of 2 block-record-kinds.ps block-record-kinds.r) κs) where
  pub block_record_determined : block-record-reads.Post κs a one s → block-record-reads.Post κs a other t → call_outcome one s.1.1.1.1.0.now ≡ call_outcome other t.1.1.1.1.0.now
  block_record_determined p q = one-outcome (CallOutcome (List ℕ)) _ _ _ p q

module _ (κs : Lfts 1) (a : ArgsD archive-check.signature κs) (one other : ℕ) (s t : AtExit (ended_of 1 archive-check-kinds.ps archive-check-kinds.r) κs) where
  pub archive_check_determined : archive-check-reads.Post κs a one s → archive-check-reads.Post κs a other t → one ≡ other
  archive_check_determined p q = one-outcome ℕ _ _ _ p q

module _ (κs : Lfts 1) (a : ArgsD archive-decided-by.signature κs) (one other : ℕ) (s t : AtExit (ended_of 1 archive-decided-by-kinds.ps archive-decided-by-kinds.r) κs) where
  pub archive_decided_by_determined : archive-decided-by-reads.Post κs a one s → archive-decided-by-reads.Post κs a other t → one ≡ other
  archive_decided_by_determined p q = one-outcome ℕ _ _ _ p q

module _ (κs : Lfts 2) (a : ArgsD archive-record.signature κs) (one other : ℕ) (s t : AtExit (ended_of 2 archive-record-kinds.ps archive-record-kinds.r) κs) where
  pub archive_record_determined : archive-record-reads.Post κs a one s → archive-record-reads.Post κs a other t → call_outcome one s.1.1.0.now ≡ call_outcome other t.1.1.0.now
  archive_record_determined p q = one-outcome (CallOutcome (List ℕ)) _ _ _ p q
