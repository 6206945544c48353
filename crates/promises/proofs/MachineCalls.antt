-- The readings of the machine's calls: each asks nothing, and gives what the rules give; and their code keeps their contracts.
-- Assumes nothing.
use Rattle.std.proofs.Common.{Result, sym, ◌∙◌}
use Rattle.machine.proofs.start.Met as start-met
use Rattle.machine.proofs.give.Met as give-met
use Rattle.machine.proofs.give_in_place.Met as give-in-place-met
use Rattle.machine.proofs.step.Met as step-met
use Rattle.machine.proofs.step_in_place.Met as step-in-place-met
use Rattle.machine.proofs.poke.Met as poke-met
use Rattle.machine.proofs.show.Met as show-met
use Rattle.promises.specs.Readings.{Reading, AsksNothing, Numbered, AsTheRule, OneOutcome}
use Rattle.promises.specs.MachineReadings.{start, give, give_in_place, step, step_in_place, poke, show, EachMachineCall, MachineCodeKeeps}

pub machine_code : MachineCodeKeeps
machine_code =
    record {
      start = λ M. start-met.met;
      give = λ M. give-met.met;
      give_in_place = λ M. give-in-place-met.met;
      step = λ M. step-met.met;
      step_in_place = λ M. step-in-place-met.met;
      poke = λ M. poke-met.met;
      show = λ M. show-met.met;
    }

-- what each reading gives, by its clauses in their order
pub machine_asks_nothing : EachMachineCall AsksNothing
machine_asks_nothing =
    record {
      start_is = λ κs a. tt;
      give_is = λ κs a. tt;
      give_in_place_is = λ κs a. tt;
      step_is = λ κs a. tt;
      step_in_place_is = λ κs a. tt;
      poke_is = λ κs a. tt;
      show_is = λ κs a. tt;
    }

pub machine_numbered : EachMachineCall Numbered
machine_numbered =
    record {
      start_is = λ κs a result exit p. p.0;
      give_is = λ κs a result exit p. p.0;
      give_in_place_is = λ κs a result exit p. p.0;
      step_is = λ κs a result exit p. p.0;
      step_in_place_is = λ κs a result exit p. p.0;
      poke_is = λ κs a result exit p. p.0;
      show_is = λ κs a result exit p. p.0;
    }

pub machine_as_the_rules : EachMachineCall AsTheRule
machine_as_the_rules =
    record {
      start_is = λ κs a result exit p. p.1;
      give_is = λ κs a result exit p. p.1;
      give_in_place_is = λ κs a result exit p. p.1;
      step_is = λ κs a result exit p. p.1;
      step_in_place_is = λ κs a result exit p. p.1;
      poke_is = λ κs a result exit p. p.1;
      show_is = λ κs a result exit p. p.1;
    }

-- what is the rule's has one outcome
pub one_of_rule : (Result Exit Left : Type 0) (call : Reading Result Exit Left) → AsTheRule Result Exit Left call → OneOutcome Result Exit Left call
one_of_rule Result Exit Left call is result other exit last p q = is result exit p ∙ sym (is other last q)

-- what holds of a call where another thing does holds of each of them
module _ (P Q : (Result Exit Left : Type 0) → Reading Result Exit Left → Type 0) (to : (Result Exit Left : Type 0) (call : Reading Result Exit Left) → P Result Exit Left call → Q Result Exit Left call) where
  each_machine : EachMachineCall P → EachMachineCall Q
  each_machine is =
      record {
        start_is = λ κs a. to _ _ _ (start κs a) (is.start_is κs a);
        give_is = λ κs a. to _ _ _ (give κs a) (is.give_is κs a);
        give_in_place_is = λ κs a. to _ _ _ (give_in_place κs a) (is.give_in_place_is κs a);
        step_is = λ κs a. to _ _ _ (step κs a) (is.step_is κs a);
        step_in_place_is = λ κs a. to _ _ _ (step_in_place κs a) (is.step_in_place_is κs a);
        poke_is = λ κs a. to _ _ _ (poke κs a) (is.poke_is κs a);
        show_is = λ κs a. to _ _ _ (show κs a) (is.show_is κs a);
      }

pub machine_determined : EachMachineCall OneOutcome
machine_determined = each_machine AsTheRule OneOutcome one_of_rule machine_as_the_rules
