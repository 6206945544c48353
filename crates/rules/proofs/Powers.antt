-- A number above 0 that has no bit in common with the number below it is a power of two; what the numbers of entries have of that.
-- Assumes nothing.
use Rattle.std.proofs.Common.{◌≡◌, ℕ, zero, suc, ◌+◌, ◌-◌, ◌*◌, ◌/◌, ◌%◌, ◌^◌, ◌<◌, min, Bool, true, false, ◌&&◌, ◌||◌, eqb, ltb, sym, refl, ap, ◌∙◌, mod-eq_of_lt, pow-suc, arith, pow_pos, ltb-true, eq-eqb, eqb-true}
use mathlib.Core.Bool.{false≢true}
use native.Mathlib.Nat.{mod-zero}
use lib.Bits.{bit_and, and_step, and_self, and_mask}
use lib.Arith.{lt_of_le-ne}
use borrow.Author.Tests.{eqb-false}
use Rattle.rules.specs.Basics.{all_below, any_below}
use Rattle.rules.specs.Sizes.{entries_fit}
use Rattle.rules.proofs.Bools.{and₂, or_true, same}
use Rattle.rules.proofs.Accepted.{at_below}

-- an odd number has its half in common with the number below it, and an even one what its half has
pub power : (b e : ℕ) → 0 < e → e < 2 ^ b → bit_and e (e - 1) ≡ 0 → (k : ℕ) × (k < b) × (e ≡ 2 ^ k)
power zero e some l h = absurd (omega arith)
power (suc b) e some l h = go (λ some' l' h'. power b (e / 2) some' l' h') (eqb (e % 2) 0) refl
  where
    halves : bit_and (e / 2) ((e - 1) / 2) * 2 + min (e % 2) ((e - 1) % 2) ≡ 0
    halves = sym (and_step e (e - 1)) ∙ h

    go : (0 < e / 2 → e / 2 < 2 ^ b → bit_and (e / 2) (e / 2 - 1) ≡ 0 → (k : ℕ) × (k < b) × (e / 2 ≡ 2 ^ k)) → (t : Bool) → eqb (e % 2) 0 ≡ t → (k : ℕ) × (k < suc b) × (e ≡ 2 ^ k)
    go of-half true even =
        let z : e % 2 ≡ 0 = eqb-true _ _ even in
        let below : (e - 1) / 2 ≡ e / 2 - 1 = omega arith in
        let none : bit_and (e / 2) ((e - 1) / 2) ≡ 0 = omega (arith, halves) in
        let half = of-half (omega arith) (omega (arith, pow-suc 2 b)) (rw below at none) in
        (suc half.0, omega arith, omega (arith, pow-suc 2 half.0))
    go of-half false odd =
        let z : e % 2 ≡ 1 = omega (arith, eqb-false (e % 2) 0 odd) in
        let below : (e - 1) / 2 ≡ e / 2 = omega arith in
        let none : bit_and (e / 2) ((e - 1) / 2) ≡ 0 = omega (arith, halves) in
        (0, omega arith, omega (arith, and_self (e / 2), ap (bit_and (e / 2)) below))

-- a test that holds of some number below n
any_below_lem : (n : ℕ) (test : ℕ → Bool) (i : ℕ) → i < n → test i ≡ true → any_below n test ≡ true
any_below_lem zero test i l h = absurd (omega arith)
any_below_lem (suc n) test i l h = go (λ k. any_below_lem n test i k h) (eqb i n) refl
  where
    go : (i < n → any_below n test ≡ true) → (t : Bool) → eqb i n ≡ t → any_below (suc n) test ≡ true
    go rest true e = rw (← eqb-true i n e, h) (or_true (any_below i test))
    go rest false e = rw (rest (lt_of_le-ne (omega arith) (eqb-false i n e)))

which_below : (n : ℕ) (test : ℕ → Bool) → any_below n test ≡ true → (i : ℕ) × (i < n) × (test i ≡ true)
which_below zero test h = absurd (false≢true h)
which_below (suc n) test h = go (λ k. which_below n test k) (any_below n test) refl (test n) refl h
  where
    go : (any_below n test ≡ true → (i : ℕ) × (i < n) × (test i ≡ true)) → (t : Bool) → any_below n test ≡ t → (u : Bool) → test n ≡ u → t || u ≡ true → (i : ℕ) × (i < suc n) × (test i ≡ true)
    go rest true p u q k = let r = rest p in (r.0, omega arith, r.2)
    go rest false p true q k = (n, omega arith, q)
    go rest false p false q k = absurd (false≢true k)

-- the thirteen powers, each with the number below it
small : ℕ → Bool
small k = ltb (2 ^ k - 1) 4096 && eqb (bit_and (2 ^ k) (2 ^ k - 1)) 0

powers_small : all_below 13 small ≡ true
unfolding small
powers_small = refl

-- the number below, which wraps round at 0
module _ (e below : ℕ) (fits : below < 2 ^ 64) (wraps : (below + 1) % 2 ^ 64 ≡ e) where
  pub entries_fit_lem : (ltb below 4096 && eqb (bit_and e below) 0) ≡ entries_fit e
  unfolding entries_fit small
  entries_fit_lem = same (ltb below 4096 && eqb (bit_and e below) 0) (any_below 13 (λ k. eqb e (2 ^ k))) one_of them
    where
      one_of : (ltb below 4096 && eqb (bit_and e below) 0) ≡ true → any_below 13 (λ k. eqb e (2 ^ k)) ≡ true
      one_of h =
          let t = and₂ (ltb below 4096) (eqb (bit_and e below) 0) h in
          let l = ltb-true below 4096 t.0 in
          let z : below ≡ e - 1 = omega arith in
          let p = power 13 e (omega arith) (omega arith) (ap (bit_and e) (sym z) ∙ eqb-true _ _ t.1) in
          any_below_lem 13 (λ k. eqb e (2 ^ k)) p.0 p.1 (eq-eqb e (2 ^ p.0) p.2)

      them : any_below 13 (λ k. eqb e (2 ^ k)) ≡ true → (ltb below 4096 && eqb (bit_and e below) 0) ≡ true
      them h =
          let p = which_below 13 (λ k. eqb e (2 ^ k)) h in
          let q : e ≡ 2 ^ p.0 = eqb-true _ _ p.2 in
          let z : below ≡ 2 ^ p.0 - 1 = omega (arith, pow_pos p.0) in
          rw (q, z) (at_below 13 small p.0 p.1 powers_small)

  -- a remainder by a power of two is a mask, and by 0 the number itself
  pub masked : (word : ℕ) → word < 2 ^ 64 → bit_and e below ≡ 0 → bit_and word below ≡ word % e
  masked word l h = go (eqb e 0) refl
    where
      go : (t : Bool) → eqb e 0 ≡ t → bit_and word below ≡ word % e
      go true n =
          let z : e ≡ 0 = eqb-true _ _ n in
          let all : below ≡ 2 ^ 64 - 1 = omega arith in
          rw (z, all, mod-zero word) (and_mask word 64 ∙ mod-eq_of_lt l)
      go false n =
          let some : 0 < e = omega (arith, eqb-false e 0 n) in
          let z : below ≡ e - 1 = omega arith in
          let p = power 64 e some (omega arith) (ap (bit_and e) (sym z) ∙ h) in
          rw (z, p.2) (and_mask word p.0)

-- entries that have a bit in common with any number are some
pub some_bit : (e below : ℕ) → (bit_and e below ≡ 0 → ⊥) → 0 < e
some_bit zero below h = absurd (h refl)
some_bit (suc e) below h = omega arith
