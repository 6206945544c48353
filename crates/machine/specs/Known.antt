-- None of the calls for a caller that knows its machine to be in its ranges is a rule: of a machine that is, each is the rules' own give, step, poke or show.
use Rattle.std.specs.Prelude.{◌≡◌, ℕ, ◌%◌, true, List, Err, ◌≢◌}
use Rattle.rules.specs.Ranges.{core_at, in_ranges}
use Rattle.rules.specs.Calls.{give_of, step_of, poke_of, show_of}
use Rattle.rules.specs.declared.entry.GuestAddress.{GuestAddress}
use Rattle.rules.specs.declared.operations.Operation.{Operation}
use Rattle.rules.specs.declared.refusals.Refusal.TheVariants.{OutOfRange}
use Rattle.rules.specs.declared.cores.Core.{Core}
use Rattle.rules.specs.declared.state.Machine.{Machine}
use Rattle.machine.specs.Sizes.{sizes_of}
use Rattle.machine.specs.Give.{give_core_of, called_by_give}
use Rattle.machine.specs.Step.{known_step_refusal, step_core_of, outcome_by_step}
use Rattle.machine.specs.PokeShow.{known_word_refusal, poke_word_of, outcome_by_poke, show_word_of, called_by_show}

-- the core that a number picks out of the eight, whatever the number
abbrev pub picked : Machine → ℕ → Core
picked m core = core_at m (core % 8)

pub record AsTheRules (m : Machine) : Type 0 where
  pub give_is : (core : ℕ) (o : Operation) → called_by_give m core (give_core_of (sizes_of m) (picked m core) core o) ≡ give_of m core o
  pub step_is : (core : ℕ) (memory owners holders : List ℕ)
      → outcome_by_step m core (step_core_of (sizes_of m) (picked m core) memory owners holders core) ≡ step_of m memory owners holders core
  pub poke_is : (memory : List ℕ) (a : GuestAddress) (v : ℕ) → outcome_by_poke m (poke_word_of m.bytes memory a v) ≡ poke_of m memory a v
  pub show_is : (memory : List ℕ) (a : GuestAddress) → called_by_show m (show_word_of m.bytes memory a) ≡ show_of m memory a
  -- and none is refused as out of range
  pub no_step_5 : (core memory : ℕ) (owners holders : List ℕ) → known_step_refusal (sizes_of m) (picked m core) memory owners holders core ≢ Err OutOfRange
  pub no_word_5 : (memory : ℕ) (a : GuestAddress) → known_word_refusal m.bytes memory a ≢ Err OutOfRange

abbrev pub KnownCallsAreTheRules : Type 0
KnownCallsAreTheRules = (m : Machine) → in_ranges m ≡ true → AsTheRules m
