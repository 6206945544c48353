-- Reading a number digit by digit.
-- Assumes nothing.
use Rattle.std.specs.Prelude.{Some, None}
use Rattle.std.proofs.Common.{if◌then◌else◌}
use Rattle.std.proofs.lemmas.List.{take_more}
use mathlib.Core.Path.{◌≡◌, refl, ap, ◌∙◌, sym}
use mathlib.Core.Bool.{Bool, true, false, not, ◌&&◌}
use mathlib.Core.List.{List, [], ◌∷◌, ◌++◌}
use Prim.Native.Nat.{ℕ, ◌+◌, ◌*◌, ◌-◌, ◌^◌, ◌≤◌, ◌<◌, min}
use native.Mathlib.Nat.{pow-succ', pow-le-pow_right}
use native.Mathlib.Numerals.{add-one}
use native.Mathlib.Omega.{arith}
use lib.ListN.{length, get_or, take, length-take}
use lib.Seq.{get_or-take}
use lib.Dec.{eqb, leb, ltb}
use borrow.Author.Tests.{eqb-true, eqb-false, le-leb, leb-true, lt-leb, lt-ltb, ne_eqb}
use Rattle.commands.specs.Bytes.{space}
use Rattle.commands.specs.Decimal.{largest, is_digit, digit_of, all_digits, value_from, number_from, number_said}
use Rattle.rules.proofs.Bools.{and₂}

pub digit_bounds : (b : ℕ) → is_digit b ≡ true → (48 ≤ b) × (b ≤ 57)
digit_bounds b h = let k = and₂ (leb 48 b) (leb b 57) h in (leb-true 48 b k.0, leb-true b 57 k.1)

pub digit_no_space : (b : ℕ) → is_digit b ≡ true → eqb b space ≡ false
digit_no_space b h = let l = digit_bounds b h in ne_eqb b space (λ q. omega arith)

-- digits and others after them
pub digits_append : (s t : List ℕ) → all_digits (s ++ t) ≡ all_digits s && all_digits t
unfolding all_digits
digits_append [] t = refl
digits_append (b ∷ s) t = go (is_digit b) (digits_append s t)
  where
    go : (d : Bool) → all_digits (s ++ t) ≡ all_digits s && all_digits t → d && all_digits (s ++ t) ≡ d && all_digits s && all_digits t
    go true e = e
    go false e = refl

pub value_append : (v : ℕ) (s t : List ℕ) → value_from v (s ++ t) ≡ value_from (value_from v s) t
unfolding value_from
value_append v [] t = refl
value_append v (b ∷ s) t = value_append (10 * v + digit_of b) s t

-- what digits say only grows, and with each digit at least tenfold
value_grows : (v : ℕ) (s : List ℕ) → v * 10 ^ length s ≤ value_from v s
unfolding value_from
value_grows v [] = omega arith
value_grows v (b ∷ s) =
    let h = value_grows (10 * v + digit_of b) s in
    let p = pow-succ' 10 (length s) in
    let q : v * (10 * 10 ^ length s) ≤ (10 * v + digit_of b) * 10 ^ length s = grind arith in
    rw p (omega (arith, h, q))

pub value_rises : (v : ℕ) (s : List ℕ) → v ≤ value_from v s
unfolding value_from
value_rises v [] = omega arith
value_rises v (b ∷ s) = let h = value_rises (10 * v + digit_of b) s in omega (arith, h)

-- what is no number
wrong_digits : (count : ℕ) (zeroFirst : Bool) (value : ℕ) → number_from count false zeroFirst value ≡ None
wrong_digits count zeroFirst value = go (not (eqb count 0))
  where
    go : (t : Bool) → (if t && false && not (ltb 1 count && zeroFirst) && leb value largest then Some value else None) ≡ None
    go true = refl
    go false = refl

wrong_large : (count : ℕ) (digits zeroFirst : Bool) (value : ℕ) → largest < value → number_from count digits zeroFirst value ≡ None
wrong_large count digits zeroFirst value l = go (not (eqb count 0) && digits && not (ltb 1 count && zeroFirst))
  where
    go : (t : Bool) → (if t && leb value largest then Some value else None) ≡ None
    go true = rw (lt-leb value largest l)
    go false = refl

wrong_zero : (count : ℕ) (digits zeroFirst : Bool) (value : ℕ) → 1 < count → zeroFirst ≡ true → number_from count digits zeroFirst value ≡ None
wrong_zero count digits zeroFirst value l z = rw (lt-ltb 1 count l, z) (go (not (eqb count 0) && digits))
  where
    go : (t : Bool) → (if t && false && leb value largest then Some value else None) ≡ None
    go true = refl
    go false = refl

pub nothing : (s : List ℕ) → length s ≡ 0 → number_said s ≡ None
unfolding number_said
nothing s e = rw e

pub no_digit : (s : List ℕ) → all_digits s ≡ false → number_said s ≡ None
unfolding number_said
no_digit s e = rw e (wrong_digits (length s) (eqb (get_or s 0 0) 48) (value_from 0 s))

pub needless : (s : List ℕ) → 2 ≤ length s → get_or s 0 0 ≡ 48 → number_said s ≡ None
unfolding number_said
needless s l e = wrong_zero (length s) (all_digits s) (eqb (get_or s 0 0) 48) (value_from 0 s) (omega arith) (rw e)

pub large : (s : List ℕ) → largest < value_from 0 s → number_said s ≡ None
unfolding number_said
large s l = wrong_large (length s) (all_digits s) (eqb (get_or s 0 0) 48) (value_from 0 s) l

-- eleven digits are too many
pub eleven : (s : List ℕ) → all_digits s ≡ true → length s ≡ 11 → number_said s ≡ None
unfolding all_digits value_from
eleven [] d l = absurd (omega arith)
eleven (b ∷ s) d l = go (eqb b 48) refl
  where
    go : (t : Bool) → eqb b 48 ≡ t → number_said (b ∷ s) ≡ None
    go true e = needless (b ∷ s) (omega arith) (eqb-true b 48 e)
    go false e =
        let k = and₂ (is_digit b) (all_digits s) d in
        let bounds = digit_bounds b k.0 in
        let other = eqb-false b 48 e in
        let digit : digit_of b ≡ b - 48 = rw k.0 in
        let ten : length s ≡ 10 = omega arith in
        let tenfold = rw ten at (value_grows (10 * 0 + digit_of b) s) in
        large (b ∷ s) (omega (arith, tenfold, digit))

-- and what is one
pub small : (s : List ℕ) → all_digits s ≡ true → 1 ≤ length s → ltb 1 (length s) && eqb (get_or s 0 0) 48 ≡ false → value_from 0 s ≤ largest → number_said s ≡ Some (value_from 0 s)
unfolding number_said
small s d some first l = rw (d, ne_eqb (length s) 0 (λ q. omega arith), le-leb (value_from 0 s) largest l, first)

-- where the reading stands: digits came, and they say the value
pub record Reading (s : List ℕ) (value count : ℕ) : Type 0 where
  pub says : value ≡ value_from 0 (take count s)
  pub digits : all_digits (take count s) ≡ true
  pub small : value < 10 ^ count

pub reading_starts : (s : List ℕ) → Reading s 0 0
unfolding value_from all_digits
reading_starts s = record { says = refl; digits = refl; small = omega arith }

-- one more of the first m bytes
pub reading_on : (s : List ℕ) (m value count digit : ℕ) → Reading s value count → count < length (take m s)
    → is_digit (get_or (take m s) count 0) ≡ true → digit ≡ get_or (take m s) count 0 - 48
    → Reading s (value * 10 + digit) (count + 1)
unfolding value_from all_digits
reading_on s m value count digit r inside d e =
    let l : length (take m s) ≡ min m (length s) = length-take m s in
    let b = get_or (take m s) count 0 in
    let is : get_or s count 0 ≡ b = sym (get_or-take m s count 0 (omega arith)) in
    let more : take (count + 1) s ≡ take count s ++ b ∷ [] = take_more s count 0 (omega arith) ∙ ap (λ (c : ℕ). take count s ++ c ∷ []) is in
    let one : digit_of b ≡ digit = rw (d, e) in
    let bounds = digit_bounds b d in
    let p = pow-succ' 10 count in
    let k = r.small in
    record {
      says = rw (more, value_append, ← r.says) (omega (arith, one));
      digits = rw (more, digits_append, r.digits, d);
      small = rw (add-one, p) (omega arith);
    }

pub reading_fits : (s : List ℕ) (value count : ℕ) → Reading s value count → count ≤ 10 → value < 10000000000
reading_fits s value count r l = let p : 10 ^ count ≤ 10 ^ 10 = pow-le-pow_right (omega arith) l in let h = r.small in omega arith
