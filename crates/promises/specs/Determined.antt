-- RULES 11.2: "Any two outcomes that a contract allows are shown to be equal.": of each public function, every two that its contract allows on one input: the result, and every lent byte at the end.
use contract.Lifetimes.{Lfts}
use borrow.Fn.World.{ArgsD}
use denote.RattleType.{RattleType}
use denote.Param.Laws.{Laws}
use Rattle.machine.specs.Step.{step_core_outcome}
use Rattle.machine.specs.PokeShow.{poke_word_outcome}
use Rattle.rules.specs.contracts.entry_of as entry-of-contract
use Rattle.rules.proofs.entry_of.Reads as entry-of-reads
use Rattle.rules.specs.contracts.entry.GuestAddress.place as place-contract
use Rattle.rules.proofs.entry.GuestAddress.place.Reads as place-reads
use Rattle.rules.specs.contracts.operations.Operation.code as operation-code-contract
use Rattle.rules.proofs.operations.Operation.code.Reads as operation-code-reads
use Rattle.rules.specs.contracts.operations.Operation.of as operation-of-code-contract
use Rattle.rules.proofs.operations.Operation.of.Reads as operation-of-code-reads
use Rattle.rules.specs.contracts.operations.Operation.address as operation-address-contract
use Rattle.rules.proofs.operations.Operation.address.Reads as operation-address-reads
use Rattle.rules.specs.contracts.operations.Operation.value as operation-value-contract
use Rattle.rules.proofs.operations.Operation.value.Reads as operation-value-reads
use Rattle.rules.specs.contracts.operations.Shape.of as shape-of-code-contract
use Rattle.rules.proofs.operations.Shape.of.Reads as shape-of-code-reads
use Rattle.rules.specs.contracts.kinds.Kind.number as kind-number-contract
use Rattle.rules.proofs.kinds.Kind.number.Reads as kind-number-reads
use Rattle.rules.specs.contracts.kinds.Kind.of as kind-of-number-contract
use Rattle.rules.proofs.kinds.Kind.of.Reads as kind-of-number-reads
use Rattle.rules.specs.contracts.answers.Record.of_poke as record-of-poke-contract
use Rattle.rules.proofs.answers.Record.of_poke.Reads as record-of-poke-reads
use Rattle.rules.specs.contracts.refusals.Refusal.number as refusal-number-contract
use Rattle.rules.proofs.refusals.Refusal.number.Reads as refusal-number-reads
use Rattle.rules.specs.contracts.cores.Core.idle as idle-contract
use Rattle.rules.proofs.cores.Core.idle.Reads as idle-reads
use Rattle.rules.specs.contracts.cores.Core.given as given-contract
use Rattle.rules.proofs.cores.Core.given.Reads as given-reads
use Rattle.rules.specs.contracts.cores.Core.micro_step as micro-step-contract
use Rattle.rules.proofs.cores.Core.micro_step.Reads as micro-step-reads
use Rattle.rules.specs.contracts.state.Machine.all_idle as all-idle-contract
use Rattle.rules.proofs.state.Machine.all_idle.Reads as all-idle-reads
use Rattle.rules.specs.contracts.state.Called.refused as refused-contract
use Rattle.rules.proofs.state.Called.refused.Reads as refused-reads
use Rattle.rules.specs.contracts.state.Called.answered as answered-contract
use Rattle.rules.proofs.state.Called.answered.Reads as answered-reads
use Rattle.rules.specs.contracts.two_bytes as two-bytes-contract
use Rattle.rules.proofs.two_bytes.Reads as two-bytes-reads
use Rattle.rules.specs.contracts.four_bytes as four-bytes-contract
use Rattle.rules.proofs.four_bytes.Reads as four-bytes-reads
use Rattle.rules.specs.contracts.read_two as read-two-contract
use Rattle.rules.proofs.read_two.Reads as read-two-reads
use Rattle.rules.specs.contracts.read_four as read-four-contract
use Rattle.rules.proofs.read_four.Reads as read-four-reads
use Rattle.rules.specs.contracts.read_word as read-word-contract
use Rattle.rules.proofs.read_word.Reads as read-word-reads
use Rattle.rules.specs.contracts.write_word as write-word-contract
use Rattle.rules.proofs.write_word.Reads as write-word-reads
use Rattle.rules.specs.contracts.number_of as number-of-contract
use Rattle.rules.proofs.number_of.Reads as number-of-reads
use Rattle.machine.specs.contracts.give_core as give-core-contract
use Rattle.machine.proofs.give_core.Reads as give-core-reads
use Rattle.machine.specs.contracts.step_core as step-core-contract
use Rattle.machine.proofs.step_core.Reads as step-core-reads
use Rattle.machine.specs.contracts.poke_word as poke-word-contract
use Rattle.machine.proofs.poke_word.Reads as poke-word-reads
use Rattle.machine.specs.contracts.show_word as show-word-contract
use Rattle.machine.proofs.show_word.Reads as show-word-reads
use Rattle.machine.specs.contracts.sizes.Sizes.of as sizes-contract
use Rattle.machine.proofs.sizes.Sizes.of.Reads as sizes-reads
use Rattle.machine.specs.contracts.calls.step.Stepped.refused as stepped-refused-contract
use Rattle.machine.proofs.calls.step.Stepped.refused.Reads as stepped-refused-reads
use Rattle.archive.specs.contracts.writer.Writer.new as writer-new-contract
use Rattle.archive.proofs.writer.Writer.new.Reads as writer-new-reads
use Rattle.archive.specs.contracts.encode_record as encode-record-contract
use Rattle.archive.proofs.encode_record.Reads as encode-record-reads
use Rattle.archive.specs.contracts.decode_record as decode-record-contract
use Rattle.archive.proofs.decode_record.Reads as decode-record-reads
use Rattle.promises.specs.Readings.{Single, OneOutcome}
use Rattle.promises.specs.MachineReadings.{EachMachineCall}
use Rattle.promises.specs.ArchiveReadings.{EachArchiveCall}

-- those of the crate rules
pub record RulesDetermined : Type 2 where
  pub entry_of_is : (κs : Lfts 0) (a : ArgsD entry-of-contract.signature κs) → Single (entry-of-reads.Post κs a) (λ result exit. result)
  pub place_is : (κs : Lfts 0) (a : ArgsD place-contract.signature κs) → Single (place-reads.Post κs a) (λ result exit. result)
  pub operation_code_is : (κs : Lfts 0) (a : ArgsD operation-code-contract.signature κs) → Single (operation-code-reads.Post κs a) (λ result exit. result)
  pub operation_of_code_is : (κs : Lfts 0) (a : ArgsD operation-of-code-contract.signature κs) → Single (operation-of-code-reads.Post κs a) (λ result exit. result)
  pub operation_address_is : (κs : Lfts 0) (a : ArgsD operation-address-contract.signature κs) → Single (operation-address-reads.Post κs a) (λ result exit. result)
  pub operation_value_is : (κs : Lfts 0) (a : ArgsD operation-value-contract.signature κs) → Single (operation-value-reads.Post κs a) (λ result exit. result)
  pub shape_of_code_is : (κs : Lfts 0) (a : ArgsD shape-of-code-contract.signature κs) → Single (shape-of-code-reads.Post κs a) (λ result exit. result)
  pub kind_number_is : (κs : Lfts 0) (a : ArgsD kind-number-contract.signature κs) → Single (kind-number-reads.Post κs a) (λ result exit. result)
  pub kind_of_number_is : (κs : Lfts 0) (a : ArgsD kind-of-number-contract.signature κs) → Single (kind-of-number-reads.Post κs a) (λ result exit. result)
  pub record_of_poke_is : (κs : Lfts 0) (a : ArgsD record-of-poke-contract.signature κs) → Single (record-of-poke-reads.Post κs a) (λ result exit. result)
  pub refusal_number_is : (κs : Lfts 0) (a : ArgsD refusal-number-contract.signature κs) → Single (refusal-number-reads.Post κs a) (λ result exit. result)
  pub idle_is : (κs : Lfts 0) (a : ArgsD idle-contract.signature κs) → Single (idle-reads.Post κs a) (λ result exit. result)
  pub given_is : (κs : Lfts 0) (a : ArgsD given-contract.signature κs) → Single (given-reads.Post κs a) (λ result exit. result)
  pub micro_step_is : (κs : Lfts 0) (a : ArgsD micro-step-contract.signature κs) → Single (micro-step-reads.Post κs a) (λ result exit. result)
  pub all_idle_is : (κs : Lfts 0) (a : ArgsD all-idle-contract.signature κs) → Single (all-idle-reads.Post κs a) (λ result exit. result)
  pub refused_is : (κs : Lfts 0) (a : ArgsD refused-contract.signature κs) → Single (refused-reads.Post κs a) (λ result exit. result)
  pub answered_is : (κs : Lfts 0) (a : ArgsD answered-contract.signature κs) → Single (answered-reads.Post κs a) (λ result exit. result)
  pub two_bytes_is : (κs : Lfts 0) (a : ArgsD two-bytes-contract.signature κs) → Single (two-bytes-reads.Post κs a) (λ result exit. result)
  pub four_bytes_is : (κs : Lfts 0) (a : ArgsD four-bytes-contract.signature κs) → Single (four-bytes-reads.Post κs a) (λ result exit. result)
  pub read_two_is : (κs : Lfts 1) (a : ArgsD read-two-contract.signature κs) → Single (read-two-reads.Post κs a) (λ result exit. result)
  pub read_four_is : (κs : Lfts 1) (a : ArgsD read-four-contract.signature κs) → Single (read-four-reads.Post κs a) (λ result exit. result)
  pub read_word_is : (κs : Lfts 1) (a : ArgsD read-word-contract.signature κs) → Single (read-word-reads.Post κs a) (λ result exit. result)
  pub write_word_is : (κs : Lfts 1) (a : ArgsD write-word-contract.signature κs) → Single (write-word-reads.Post κs a) (λ result exit. exit.0.now)
  pub number_of_is : (T : RattleType) (L : Laws T) (κs : Lfts 2) (a : ArgsD (number-of-contract.signature T) κs) → Single (number-of-reads.Post T L κs a) (λ result exit. result)

-- those of the machine, beside its calls: for a caller that knows its machine, and what hands out their parts
pub record MachineDetermined : Type 0 where
  pub give_core_is : (κs : Lfts 0) (a : ArgsD give-core-contract.signature κs) → Single (give-core-reads.Post κs a) (λ result exit. result)
  pub step_core_is : (κs : Lfts 3) (a : ArgsD step-core-contract.signature κs) → Single (step-core-reads.Post κs a) (λ result exit. step_core_outcome result exit.1.1.0.now exit.1.1.1.0.now exit.1.1.1.1.0.now)
  pub poke_word_is : (κs : Lfts 1) (a : ArgsD poke-word-contract.signature κs) → Single (poke-word-reads.Post κs a) (λ result exit. poke_word_outcome result exit.1.0.now)
  pub show_word_is : (κs : Lfts 1) (a : ArgsD show-word-contract.signature κs) → Single (show-word-reads.Post κs a) (λ result exit. result)
  pub sizes_is : (κs : Lfts 1) (a : ArgsD sizes-contract.signature κs) → Single (sizes-reads.Post κs a) (λ result exit. result)
  pub stepped_refused_is : (κs : Lfts 0) (a : ArgsD stepped-refused-contract.signature κs) → Single (stepped-refused-reads.Post κs a) (λ result exit. result)

-- those of the archive, beside its calls
pub record ArchiveDetermined : Type 0 where
  pub writer_new_is : (κs : Lfts 0) (a : ArgsD writer-new-contract.signature κs) → Single (writer-new-reads.Post κs a) (λ result exit. result)
  pub encode_record_is : (κs : Lfts 0) (a : ArgsD encode-record-contract.signature κs) → Single (encode-record-reads.Post κs a) (λ result exit. result)
  pub decode_record_is : (κs : Lfts 0) (a : ArgsD decode-record-contract.signature κs) → Single (decode-record-reads.Post κs a) (λ result exit. result)

pub record Determined : Type 2 where
  pub rules : RulesDetermined
  pub machine_calls : EachMachineCall OneOutcome
  pub machine : MachineDetermined
  pub archive_calls : EachArchiveCall OneOutcome
  pub archive : ArchiveDetermined
