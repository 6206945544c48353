-- A number that is written reads as that number.
-- Assumes nothing.
use Rattle.std.specs.Prelude.{Some, None}
use Rattle.std.proofs.Common.{if◌then◌else◌}
use mathlib.Core.Path.{◌≡◌, refl, ap, ◌∙◌}
use mathlib.Core.Bool.{Bool, true, false, not, ◌&&◌}
use mathlib.Core.List.{List, [], ◌∷◌}
use Prim.Native.Nat.{ℕ, zero, suc, ◌+◌, ◌*◌, ◌/◌, ◌%◌, ◌≤◌, ◌<◌}
use native.Mathlib.Omega.{arith}
use lib.ListN.{length, get_or}
use lib.Dec.{eqb, ltb, leb}
use borrow.Author.Tests.{le-leb, ltb-true, ltb-false, ne_eqb}
use Rattle.commands.specs.Bytes.{space}
use Rattle.commands.specs.Decimal.{largest, is_digit, digit_of, all_digits, value_from, number_from, number_said, digits_before, decimal}
use Rattle.commands.proofs.Fields.{Without}
use Rattle.commands.proofs.Fronts.{digits_plain}
use Rattle.commands.proofs.Written.{one_some}

-- the byte of a digit
pub digit_is : (d : ℕ) → d ≤ 9 → is_digit (48 + d) ≡ true
digit_is d l = rw (le-leb 48 (48 + d) (omega arith), le-leb (48 + d) 57 (omega arith))

pub digit_says : (d : ℕ) → d ≤ 9 → digit_of (48 + d) ≡ d
digit_says d l = rw (digit_is d l) (omega arith)

-- written digits are digits
before_digits : (f n : ℕ) (s : List ℕ) → all_digits s ≡ true → all_digits (digits_before f n s) ≡ true
unfolding digits_before all_digits
before_digits zero n s h = h
before_digits (suc f) n s h = go (ltb 9 n) refl (before_digits f (n / 10) ((48 + n % 10) ∷ s) (rw (digit_is (n % 10) (omega arith)) h))
  where
    go : (t : Bool) → ltb 9 n ≡ t → all_digits (digits_before f (n / 10) ((48 + n % 10) ∷ s)) ≡ true
        → all_digits (if t then digits_before f (n / 10) ((48 + n % 10) ∷ s) else (48 + n) ∷ s) ≡ true
    go true e k = k
    go false e k = rw (digit_is n (ltb-false 9 n e)) h

pub decimal_digits : (n : ℕ) → all_digits (decimal n) ≡ true
unfolding decimal all_digits
decimal_digits n = before_digits (suc n) n [] refl

-- they say the number
before_value : (f n : ℕ) (s : List ℕ) → n < f → value_from 0 (digits_before f n s) ≡ value_from n s
unfolding digits_before value_from
before_value zero n s l = absurd (omega arith)
before_value (suc f) n s l = go (ltb 9 n) refl (λ k. before_value f (n / 10) ((48 + n % 10) ∷ s) (omega arith))
  where
    go : (t : Bool) → ltb 9 n ≡ t → (9 < n → value_from 0 (digits_before f (n / 10) ((48 + n % 10) ∷ s)) ≡ value_from (10 * (n / 10) + digit_of (48 + n % 10)) s)
        → value_from 0 (if t then digits_before f (n / 10) ((48 + n % 10) ∷ s) else (48 + n) ∷ s) ≡ value_from n s
    go true e k =
        let d = digit_says (n % 10) (omega arith) in
        let v : 10 * (n / 10) + digit_of (48 + n % 10) ≡ n = rw d (omega arith) in
        k (ltb-true 9 n e) ∙ ap (λ (v : ℕ). value_from v s) v
    go false e k =
        let d = digit_says n (ltb-false 9 n e) in
        let v : 10 * 0 + digit_of (48 + n) ≡ n = rw d (omega arith) in
        ap (λ (v : ℕ). value_from v s) v

pub decimal_value : (n : ℕ) → value_from 0 (decimal n) ≡ n
unfolding decimal value_from
decimal_value n = before_value (suc n) n [] (omega arith)

-- the first is 0 only of 0
not_zero_first : (f n : ℕ) (s : List ℕ) → n < f → 1 ≤ n → eqb (get_or (digits_before f n s) 0 0) 48 ≡ false
unfolding digits_before
not_zero_first zero n s l p = absurd (omega arith)
not_zero_first (suc f) n s l p = go (ltb 9 n) refl (λ k. not_zero_first f (n / 10) ((48 + n % 10) ∷ s) (omega arith) (omega arith))
  where
    go : (t : Bool) → ltb 9 n ≡ t → (9 < n → eqb (get_or (digits_before f (n / 10) ((48 + n % 10) ∷ s)) 0 0) 48 ≡ false)
        → eqb (get_or (if t then digits_before f (n / 10) ((48 + n % 10) ∷ s) else (48 + n) ∷ s) 0 0) 48 ≡ false
    go true e k = k (ltb-true 9 n e)
    go false e k = ne_eqb (48 + n) 48 (λ q. omega (arith, q, p))

number_is : (count : ℕ) (digits zeroFirst : Bool) (value n : ℕ) → 1 ≤ count → digits ≡ true → zeroFirst ≡ false → value ≡ n → n < 4294967296
    → number_from count digits zeroFirst value ≡ Some n
number_is count digits zeroFirst value n c d z v l = go (ltb 1 count)
  where
    go : (t : Bool) → (if not (eqb count 0) && digits && not (t && zeroFirst) && leb value largest then Some value else None) ≡ Some n
    go true = rw (ne_eqb count 0 (λ q. omega (arith, q, c)), d, z, v, le-leb n largest (omega (arith, l)))
    go false = rw (ne_eqb count 0 (λ q. omega (arith, q, c)), d, v, le-leb n largest (omega (arith, l)))

pub decimal_reads : (n : ℕ) → n < 4294967296 → number_said (decimal n) ≡ Some n
unfolding number_said decimal digits_before all_digits value_from
decimal_reads zero l = refl
decimal_reads (suc n) l =
    let s = decimal (suc n) in
    let some : 1 ≤ length s = one_some (suc n) in
    let first : eqb (get_or s 0 0) 48 ≡ false = not_zero_first (suc (suc n)) (suc n) [] (omega arith) (omega arith) in
    number_is (length s) (all_digits s) (eqb (get_or s 0 0) 48) (value_from 0 s) (suc n) some (decimal_digits (suc n)) first (decimal_value (suc n)) l

pub decimal_plain : (n : ℕ) → Without space (decimal n)
decimal_plain n = digits_plain (decimal n) (decimal_digits n)
