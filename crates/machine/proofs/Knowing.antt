-- Of a machine in its ranges, what is answered for a caller that knows it to be so is what the rules' calls answer.
-- Assumes nothing.
use Rattle.machine.specs.Known.{KnownCallsAreTheRules}
use Rattle.machine.proofs.Giving.{give_is}
use Rattle.machine.proofs.Stepping.{step_is, no_step_5}
use Rattle.machine.proofs.PokingShowing.{poke_is, show_is, no_word_5}

pub known_calls : KnownCallsAreTheRules
known_calls m ranges =
    record {
      give_is = give_is m ranges;
      step_is = step_is m ranges;
      poke_is = poke_is m ranges;
      show_is = show_is m ranges;
      no_step_5 = no_step_5 m ranges;
      no_word_5 = no_word_5 m ranges;
    }
