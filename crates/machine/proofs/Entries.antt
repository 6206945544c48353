-- A number with one bit set, up to 4,096, is one of the numbers of entries.
-- Assumes nothing.
use Rattle.std.proofs.Common.{◌≡◌, ℕ, zero, suc, ◌+◌, ◌-◌, ◌*◌, ◌/◌, ◌%◌, ◌^◌, ◌<◌, ◌≤◌, Bool, true, false, eqb, sym, refl, ap, ◌∙◌, pow-suc, arith, lt-ltb, ne_eqb, eq-eqb, eqb-true}
use borrow.Author.Tests.{eqb-false}
use lib.Bits.{bit_and, and_step, and_self}
use lib.Count.{ones, ones_in}
use Rattle.std.specs.Int.{is_power_of_two}
use Rattle.std.proofs.lemmas.Nat.{ones_cat, zero_from_ones}
use Rattle.std.proofs.Math.Pow.{pow_mono}
use Rattle.rules.specs.Basics.{any_below}
use Rattle.rules.specs.Sizes.{entries_fit}
use Rattle.rules.proofs.Bools.{same}
use Rattle.rules.proofs.Powers.{entries_fit_lem}

ones_0 : ones 0 ≡ 0
unfolding ones ones_in
ones_0 = refl

ones_1 : ones 1 ≡ 1
unfolding ones ones_in
ones_1 = refl

ones_half : (e : ℕ) → ones e ≡ ones (e / 2) + ones (e % 2)
ones_half e = let d : e / 2 * 2 ^ 1 + e % 2 ≡ e = omega arith in sym (ap ones d) ∙ ones_cat 1 (e / 2) (e % 2) (omega arith)

-- an even number has as many bits as its half, and in common with the number below it twice what its half has
even_ones : (e : ℕ) → e % 2 ≡ 0 → ones e ≡ ones (e / 2)
even_ones e z = ones_half e ∙ rw (z, ones_0) (omega arith)

even_common : (e : ℕ) → 0 < e → e % 2 ≡ 0 → bit_and e (e - 1) ≡ bit_and (e / 2) (e / 2 - 1) * 2
even_common e some z = let below : (e - 1) / 2 ≡ e / 2 - 1 = omega arith in and_step e (e - 1) ∙ rw (z, below) (omega arith)

-- an odd one has one bit more than its half, and its half in common with the number below it
odd_ones : (e : ℕ) → e % 2 ≡ 1 → ones e ≡ ones (e / 2) + 1
odd_ones e z = ones_half e ∙ rw (z, ones_1)

odd_common : (e : ℕ) → e % 2 ≡ 1 → bit_and e (e - 1) ≡ e / 2 * 2
odd_common e z =
    let below : (e - 1) / 2 ≡ e / 2 = omega arith in
    let even : (e - 1) % 2 ≡ 0 = omega arith in
    and_step e (e - 1) ∙ rw (z, below, even, and_self (e / 2)) (omega arith)

one_alone : (b e : ℕ) → 0 < e → e < 2 ^ b → eqb (ones e) 1 ≡ eqb (bit_and e (e - 1)) 0
one_alone zero e some l = absurd (omega arith)
one_alone (suc b) e some l = go (λ some' l'. one_alone b (e / 2) some' l') (eqb (e % 2) 0) refl
  where
    go : (0 < e / 2 → e / 2 < 2 ^ b → eqb (ones (e / 2)) 1 ≡ eqb (bit_and (e / 2) (e / 2 - 1)) 0) → (t : Bool) → eqb (e % 2) 0 ≡ t → eqb (ones e) 1 ≡ eqb (bit_and e (e - 1)) 0
    go of-half true even =
        let z : e % 2 ≡ 0 = eqb-true _ _ even in
        let half = of-half (omega arith) (omega (arith, pow-suc 2 b)) in
        rw (even_ones e z, even_common e some z)
        (half ∙ same (eqb (bit_and (e / 2) (e / 2 - 1)) 0) (eqb (bit_and (e / 2) (e / 2 - 1) * 2) 0)
        (λ h. let x = eqb-true _ _ h in eq-eqb _ _ (omega arith)) (λ h. let x = eqb-true _ _ h in eq-eqb _ _ (omega arith)))
    go of-half false odd =
        let z : e % 2 ≡ 1 = omega (arith, eqb-false (e % 2) 0 odd) in
        rw (odd_ones e z, odd_common e z)
        (same (eqb (ones (e / 2) + 1) 1) (eqb (e / 2 * 2) 0)
        (λ h. let x = eqb-true _ _ h in let y = zero_from_ones (e / 2) (omega arith) in eq-eqb _ _ (omega arith))
        (λ h. let x = eqb-true _ _ h in let y : e / 2 ≡ 0 = omega arith in rw (y, ones_0)))

pub few_entries : (e : ℕ) → e ≤ 4096 → is_power_of_two e ≡ entries_fit e
unfolding entries_fit
few_entries zero l = rw ones_0
few_entries (suc e) l =
    let below : suc e - 1 ≡ e = omega arith in
    let alone = one_alone 13 (suc e) (omega arith) (omega arith) in
    let fit = entries_fit_lem (suc e) e (omega arith) (omega arith) in
    rw below at alone ∙ rw (lt-ltb e 4096 (omega arith)) at fit

-- a test that holds of no number below n
none_below : (n : ℕ) (test : ℕ → Bool) → ((k : ℕ) → k < n → test k ≡ false) → any_below n test ≡ false
none_below zero test each = refl
none_below (suc n) test each = rw (none_below n test (λ k l. each k (omega arith)), each n (omega arith))

pub many_entries : (e : ℕ) → 4096 < e → entries_fit e ≡ false
unfolding entries_fit
many_entries e l =
    none_below 13 (λ k. eqb e (2 ^ k))
    (λ k s. let most : 2 ^ k ≤ 4096 = pow_mono {j = 12} (omega arith) in ne_eqb e (2 ^ k) (λ same. omega (arith, most, same)))
