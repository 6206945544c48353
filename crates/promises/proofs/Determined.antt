-- Every two outcomes of a public function are equal, since each is the rule's.
-- Assumes nothing.
use mathlib.Core.Path.{sym, ◌∙◌}
use Rattle.promises.specs.Determined.{RulesDetermined, MachineDetermined, ArchiveDetermined, Determined}
use Rattle.promises.proofs.MachineCalls.{machine_determined}
use Rattle.promises.proofs.ArchiveCalls.{archive_determined}

rules_determined : RulesDetermined
rules_determined =
    record {
      entry_of_is = λ κs a result other exit last p q. p ∙ sym q;
      place_is = λ κs a result other exit last p q. p ∙ sym q;
      operation_code_is = λ κs a result other exit last p q. p ∙ sym q;
      operation_of_code_is = λ κs a result other exit last p q. p ∙ sym q;
      operation_address_is = λ κs a result other exit last p q. p ∙ sym q;
      operation_value_is = λ κs a result other exit last p q. p ∙ sym q;
      shape_of_code_is = λ κs a result other exit last p q. p ∙ sym q;
      kind_number_is = λ κs a result other exit last p q. p ∙ sym q;
      kind_of_number_is = λ κs a result other exit last p q. p ∙ sym q;
      record_of_poke_is = λ κs a result other exit last p q. p ∙ sym q;
      refusal_number_is = λ κs a result other exit last p q. p ∙ sym q;
      idle_is = λ κs a result other exit last p q. p ∙ sym q;
      given_is = λ κs a result other exit last p q. p ∙ sym q;
      micro_step_is = λ κs a result other exit last p q. p ∙ sym q;
      all_idle_is = λ κs a result other exit last p q. p ∙ sym q;
      refused_is = λ κs a result other exit last p q. p ∙ sym q;
      answered_is = λ κs a result other exit last p q. p ∙ sym q;
      two_bytes_is = λ κs a result other exit last p q. p ∙ sym q;
      four_bytes_is = λ κs a result other exit last p q. p ∙ sym q;
      read_two_is = λ κs a result other exit last p q. p ∙ sym q;
      read_four_is = λ κs a result other exit last p q. p ∙ sym q;
      read_word_is = λ κs a result other exit last p q. p ∙ sym q;
      write_word_is = λ κs a result other exit last p q. p ∙ sym q;
      number_of_is = λ T L κs a result other exit last p q. p ∙ sym q;
    }

inner_determined : MachineDetermined
inner_determined =
    record {
      give_core_is = λ κs a result other exit last p q. p ∙ sym q;
      step_core_is = λ κs a result other exit last p q. p ∙ sym q;
      poke_word_is = λ κs a result other exit last p q. p ∙ sym q;
      show_word_is = λ κs a result other exit last p q. p ∙ sym q;
      sizes_is = λ κs a result other exit last p q. p ∙ sym q;
      stepped_refused_is = λ κs a result other exit last p q. p ∙ sym q;
    }

archive_others : ArchiveDetermined
archive_others =
    record {
      writer_new_is = λ κs a result other exit last p q. p ∙ sym q;
      encode_record_is = λ κs a result other exit last p q. p ∙ sym q;
      decode_record_is = λ κs a result other exit last p q. p ∙ sym q;
    }

pub determined : Determined
determined = record { rules = rules_determined; machine_calls = machine_determined; machine = inner_determined; archive_calls = archive_determined; archive = archive_others }
