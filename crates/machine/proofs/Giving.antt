-- Of a machine in its ranges, a give that is answered for a caller that knows it to be so is the rules' give.
-- Assumes nothing.
use Rattle.std.proofs.Common.{◌≡◌, ℕ, Bool, true, false, leb, Result, refl, ap, ◌∙◌, leb-false}
use Rattle.rules.specs.Refusals.{number_in}
use Rattle.rules.specs.Ranges.{in_ranges}
use Rattle.rules.specs.Calls.{give_refusal, give_of}
use Rattle.rules.specs.declared.operations.Operation.{Operation}
use Rattle.rules.specs.declared.cores.Core.{Core}
use Rattle.rules.specs.declared.state.Machine.{Machine}
use Rattle.rules.specs.declared.state.Called.{Called}
use Rattle.rules.specs.declared.refusals.Refusal.{Refusal}
use Rattle.rules.proofs.Accepted.{core_small, give_accepted}
use Rattle.rules.proofs.Numbers.{numbered, give_number}
use Rattle.machine.specs.Sizes.{sizes_of}
use Rattle.machine.specs.Give.{known_give_refusal, give_core_of, called_by_give}
use Rattle.machine.specs.Known.{picked}
use Rattle.machine.proofs.Refusing.{own_pick, alike}

module _ (m : Machine) (ranges : in_ranges m ≡ true) (core : ℕ) (o : Operation) where
  give_same : known_give_refusal (sizes_of m) (picked m core) core o ≡ give_refusal m core o
  unfolding known_give_refusal give_refusal
  give_same = go (leb m.count core) refl
    where
      go : (t : Bool) → leb m.count core ≡ t → known_give_refusal (sizes_of m) (picked m core) core o ≡ give_refusal m core o
      go true e = rw (ranges, e)
      go false e = rw (own_pick (core_small m ranges (leb-false _ _ e)), ranges, e)

  pub give_is : called_by_give m core (give_core_of (sizes_of m) (picked m core) core o) ≡ give_of m core o
  unfolding give_core_of give_of
  give_is = alike (called_by_give m core) give_same (λ r. refl) (λ e. rw (own_pick (core_small m ranges (give_accepted m core o e).core_below)))

  -- and so what `give_in_place` makes of it is the rules', by its number too
  pub give_put : (made : Result Core Refusal) → made ≡ give_core_of (sizes_of m) (picked m core) core o
      → (number_in (called_by_give m core made).answer ≡ number_in (give_refusal m core o)) × (called_by_give m core made ≡ give_of m core o)
  give_put made e = numbered (λ (r : Called). r.answer) (give_number m core o) (ap (called_by_give m core) e ∙ give_is)
