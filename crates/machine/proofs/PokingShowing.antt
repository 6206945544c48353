-- Of a machine in its ranges, a poke or a show that is answered for a caller that knows it to be so is the rules' poke or show.
-- Assumes nothing.
use Rattle.std.proofs.Common.{◌≡◌, ℕ, ◌+◌, ◌%◌, ◌≤◌, true, not, eqb, ltb, leb, List, Result, Ok, Err, length, sym, refl, ap, ◌∙◌, arith, ltb-false, le-ltb, eqb-true, if◌then◌else◌}
use borrow.Author.Tests.{not-false}
use Rattle.rules.specs.Refusals.{Tested, no_refusal, unless_refused, number_in}
use Rattle.rules.specs.Ranges.{in_ranges}
use Rattle.rules.specs.Calls.{PokeOutcome, poke_outcome, address_refusal, word_refusal, poke_of, show_of}
use Rattle.rules.specs.declared.entry.GuestAddress.{GuestAddress}
use Rattle.rules.specs.declared.answers.Record.{Record}
use Rattle.rules.specs.declared.state.Machine.{Machine}
use Rattle.rules.specs.declared.state.Called.{Called}
use Rattle.rules.specs.declared.refusals.Refusal.{Refusal}
use Rattle.rules.specs.declared.refusals.Refusal.TheVariants.{Unaligned, Outside, LentLengths, OutOfRange}
use Rattle.rules.proofs.Bools.{passed_over}
use Rattle.rules.proofs.Accepted.{sizes_fit_lem, word_inside, address_accepted}
use Rattle.rules.proofs.Numbers.{numbered, poke_number, show_number}
use Rattle.machine.specs.PokeShow.{known_word_refusal, poke_word_outcome, poke_word_of, called_by_poke, outcome_by_poke, show_word_of, called_by_show}
use Rattle.machine.proofs.Refusing.{alike, rest_passed, not_5}

-- a poke or a show that is not refused has its word in memory
pub word_reached : (bytes memory : ℕ) (a : GuestAddress) → known_word_refusal bytes memory a ≡ no_refusal → a.0 + 4 ≤ memory
unfolding known_word_refusal
word_reached bytes memory a h =
    let k₂ : Tested = if ltb bytes (a.0 + 4) then Err OutOfRange else no_refusal in
    let k₁ : Tested = unless_refused (address_refusal bytes a) (λ r. Err r) k₂ in
    let t₀ = passed_over (not (eqb memory bytes)) LentLengths k₁ h in
    let t₁ = rest_passed (address_refusal bytes a) k₂ t₀.1 in
    let t₂ = passed_over (ltb bytes (a.0 + 4)) OutOfRange no_refusal t₁.1 in
    let e = eqb-true memory bytes (not-false _ t₀.0) in
    let l = ltb-false bytes (a.0 + 4) t₂.0 in
    omega (arith, e, l)

module _ (m : Machine) (ranges : in_ranges m ≡ true) where
  word_same : (memory : ℕ) (a : GuestAddress) → known_word_refusal m.bytes memory a ≡ word_refusal m memory a
  unfolding known_word_refusal word_refusal
  word_same memory a = go (address_refusal m.bytes a) refl
    where
      go : (t : Tested) → address_refusal m.bytes a ≡ t → known_word_refusal m.bytes memory a ≡ word_refusal m memory a
      go (Ok u) e =
          let w = word_inside a (sizes_fit_lem m ranges).words (address_accepted m.bytes a e) in
          rw (ranges, le-ltb _ _ w, e)
      go (Err r) e = rw (ranges, e)

  -- and none is refused as out of range
  pub no_word_5 : (memory : ℕ) (a : GuestAddress) → known_word_refusal m.bytes memory a ≡ Err OutOfRange → ⊥
  unfolding word_refusal
  no_word_5 memory a h =
      let k₂ : Tested = if leb m.bytes a.0 then Err Outside else no_refusal in
      let k₁ : Tested = if not (eqb (a.0 % 4) 0) then Err Unaligned else k₂ in
      not_5 (not (eqb memory m.bytes)) LentLengths k₁ (λ e. cc)
      (not_5 (not (eqb (a.0 % 4) 0)) Unaligned k₂ (λ e. cc) (not_5 (leb m.bytes a.0) Outside no_refusal (λ e. cc) (λ e. cc)))
      (rw ranges at (sym (word_same memory a) ∙ h))

  module _ (memory : List ℕ) (a : GuestAddress) where
    pub poke_is : (v : ℕ) → outcome_by_poke m (poke_word_of m.bytes memory a v) ≡ poke_of m memory a v
    unfolding poke_word_of poke_of
    poke_is v = alike (outcome_by_poke m) (word_same (length memory) a) (λ r. refl) (λ e. refl)

    pub show_is : called_by_show m (show_word_of m.bytes memory a) ≡ show_of m memory a
    unfolding show_word_of show_of
    show_is = alike (called_by_show m) (word_same (length memory) a) (λ r. refl) (λ e. refl)

    -- and so what `poke` and `show` make of them is the rules', by its number too
    pub poke_put : (memory' : List ℕ) (v : ℕ) (made : Result Record Refusal) → poke_word_outcome made memory' ≡ poke_word_of m.bytes memory a v
        → (number_in (called_by_poke m made).answer ≡ number_in (word_refusal m (length memory) a)) × (poke_outcome (called_by_poke m made) memory' ≡ poke_of m memory a v)
    poke_put memory' v made e = numbered (λ (o : PokeOutcome). o.called.answer) (poke_number m memory a v) (ap (outcome_by_poke m) e ∙ poke_is v)

    pub show_put : (word : Result ℕ Refusal) → word ≡ show_word_of m.bytes memory a
        → (number_in (called_by_show m word).answer ≡ number_in (word_refusal m (length memory) a)) × (called_by_show m word ≡ show_of m memory a)
    show_put word e = numbered (λ (r : Called). r.answer) (show_number m memory a) (ap (called_by_show m) e ∙ show_is)
