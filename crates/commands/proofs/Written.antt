-- Writing a number's digits, the last one first.
-- Assumes nothing.
use Rattle.std.proofs.Common.{if◌then◌else◌}
use mathlib.Core.Path.{◌≡◌, refl, ap, ◌∙◌, sym}
use mathlib.Core.Bool.{Bool, true, false}
use mathlib.Core.List.{List, [], ◌∷◌, ◌++◌, append_assoc}
use Prim.Native.Nat.{ℕ, zero, suc, ◌+◌, ◌-◌, ◌*◌, ◌/◌, ◌%◌, ◌^◌, ◌≤◌, ◌<◌}
use native.Mathlib.Nat.{pow-succ'}
use native.Mathlib.Numerals.{add-one}
use native.Mathlib.Omega.{arith}
use lib.ListN.{length, take, drop, set, length-set, length-append}
use lib.Seq.{take-set-le, set_split}
use lib.Dec.{ltb, leb}
use borrow.Author.Tests.{lt-ltb, ltb-true, leb-true, leb-false}
use Rattle.commands.specs.Bytes.{put_in}
use Rattle.commands.specs.Decimal.{digits_before, decimal}
use Rattle.commands.proofs.Placed.{is_put, one_digit}

-- more turns than digits change nothing
pub enough : (f g n : ℕ) (s : List ℕ) → n < f → n < g → digits_before f n s ≡ digits_before g n s
unfolding digits_before
enough zero g n s p q = absurd (omega arith)
enough (suc f) zero n s p q = absurd (omega arith)
enough (suc f) (suc g) n s p q = go (ltb 9 n) refl (λ h. enough f g (n / 10) ((48 + n % 10) ∷ s) (omega arith) (omega arith))
  where
    go : (t : Bool) → ltb 9 n ≡ t → (9 < n → digits_before f (n / 10) ((48 + n % 10) ∷ s) ≡ digits_before g (n / 10) ((48 + n % 10) ∷ s))
        → (if t then digits_before f (n / 10) ((48 + n % 10) ∷ s) else (48 + n) ∷ s) ≡ (if t then digits_before g (n / 10) ((48 + n % 10) ∷ s) else (48 + n) ∷ s)
    go true e h = h (ltb-true 9 n e)
    go false e h = refl

pub digits_on : (n : ℕ) (s : List ℕ) → 9 < n → digits_before (suc n) n s ≡ digits_before (suc (n / 10)) (n / 10) ((48 + n % 10) ∷ s)
unfolding digits_before
digits_on n s l = rw (lt-ltb 9 n l) (enough n (suc (n / 10)) (n / 10) ((48 + n % 10) ∷ s) (omega arith) (omega arith))

-- what is written before other digits
digits_then : (f n : ℕ) (s t : List ℕ) → digits_before f n (s ++ t) ≡ digits_before f n s ++ t
unfolding digits_before
digits_then zero n s t = refl
digits_then (suc f) n s t = go (ltb 9 n) (digits_then f (n / 10) ((48 + n % 10) ∷ s) t)
  where
    go : (u : Bool) → digits_before f (n / 10) ((48 + n % 10) ∷ (s ++ t)) ≡ digits_before f (n / 10) ((48 + n % 10) ∷ s) ++ t
        → (if u then digits_before f (n / 10) ((48 + n % 10) ∷ (s ++ t)) else (48 + n) ∷ (s ++ t)) ≡ (if u then digits_before f (n / 10) ((48 + n % 10) ∷ s) else (48 + n) ∷ s) ++ t
    go true e = e
    go false e = refl

-- a number's last digit follows the others
pub decimal_on : (n : ℕ) → 9 < n → decimal n ≡ decimal (n / 10) ++ (48 + n % 10) ∷ []
unfolding decimal
decimal_on n l = digits_on n [] l ∙ digits_then (suc (n / 10)) (n / 10) [] ((48 + n % 10) ∷ [])

pub one_more : (n : ℕ) → 9 < n → length (decimal n) ≡ 1 + length (decimal (n / 10))
one_more n l = rw (decimal_on n l, length-append) (omega arith)

pub one_in_all : (n : ℕ) → n ≤ 9 → length (decimal n) ≡ 1
one_in_all n l = rw (one_digit n l)

pub one_some : (n : ℕ) → 1 ≤ length (decimal n)
one_some n = go (leb n 9) refl
  where
    go : (t : Bool) → leb n 9 ≡ t → 1 ≤ length (decimal n)
    go true e = let h = one_in_all n (leb-true n 9 e) in omega arith
    go false e = let h = one_more n (leb-false n 9 e) in omega arith

-- by its powers of ten
pub digits_by_tens : (k n : ℕ) → 10 ^ k ≤ n → n < 10 * 10 ^ k → length (decimal n) ≡ 1 + k
digits_by_tens zero n low high = one_in_all n (omega (arith, high))
digits_by_tens (suc k) n low high =
    let p = pow-succ' 10 k in
    let rest = digits_by_tens k (n / 10) (omega (arith, p, low)) (omega (arith, p, high)) in
    let more = one_more n (omega (arith, p, low, high)) in
    omega (arith, rest, more)

-- a text whose last byte stands in its place already
put_last : (s : List ℕ) (x at : ℕ) (out : List ℕ) → at + length s < length out → put_in (s ++ x ∷ []) at out ≡ put_in s at (set out (at + length s) x)
put_last s x at out h =
    let k = at + length s in
    let n : at + length (s ++ x ∷ []) ≡ suc k = rw length-append (omega arith) in
    let front : take at (set out k x) ≡ take at out = take-set-le at out k x (omega arith) in
    let back : drop k (set out k x) ≡ x ∷ drop (suc k) out = drop-set out k x h in
    let seam : take at out ++ (s ++ x ∷ []) ≡ take at out ++ s ++ x ∷ [] = sym (append_assoc (take at out) s (x ∷ [])) in
    is_put (s ++ x ∷ []) at out ∙ rw (n, front, back, seam) (append_assoc (take at out ++ s) (x ∷ []) (drop (suc k) out)) ∙ sym (is_put s at (set out k x))
  where
    drop-set : (l : List ℕ) (i x : ℕ) → i < length l → drop i (set l i x) ≡ x ∷ drop (suc i) l
    drop-set [] i x h = absurd (omega arith)
    drop-set (a ∷ l) zero x h = refl
    drop-set (a ∷ l) (suc i) x h = drop-set l i x (omega arith)

-- where the writing of a number stands: with the digits of `left`, which end at `to`, all are written
pub record Writing (number at : ℕ) (out₀ : List ℕ) (left to : ℕ) (out : List ℕ) : Type 0 where
  pub ends : to ≡ at + length (decimal left)
  pub room : to ≤ length out
  pub gives : put_in (decimal left) at out ≡ put_in (decimal number) at out₀

pub writing_on : (number at : ℕ) (out₀ : List ℕ) (left to : ℕ) (out : List ℕ) → Writing number at out₀ left to out → 9 < left
    → Writing number at out₀ (left / 10) (to - 1) (set out (to - 1) (48 + left % 10))
writing_on number at out₀ left to out w l =
    let e : to - 1 ≡ at + length (decimal (left / 10)) = let h = w.ends in let k = one_more left l in omega arith in
    let r : at + length (decimal (left / 10)) < length out = let h = w.ends in let k = one_more left l in let m = w.room in omega arith in
    record {
      ends = e;
      room = let m = w.room in rw length-set (omega arith);
      gives = rw e (sym (put_last (decimal (left / 10)) (48 + left % 10) at out r)) ∙ ap (λ (s : List ℕ). put_in s at out) (sym (decimal_on left l)) ∙ w.gives;
    }

-- more than one digit is left exactly where more than one place is
pub several_left : (number at : ℕ) (out₀ : List ℕ) (left to : ℕ) (out : List ℕ) → Writing number at out₀ left to out → at + 1 < to → 9 < left
several_left number at out₀ left to out w h = go (leb left 9) refl
  where
    go : (t : Bool) → leb left 9 ≡ t → 9 < left
    go true e = absurd (let one = one_in_all left (leb-true left 9 e) in let ends = w.ends in omega arith)
    go false e = leb-false left 9 e

pub one_digit_left : (number at : ℕ) (out₀ : List ℕ) (left to : ℕ) (out : List ℕ) → Writing number at out₀ left to out → to ≤ at + 1 → left ≤ 9
one_digit_left number at out₀ left to out w h = go (leb left 9) refl
  where
    go : (t : Bool) → leb left 9 ≡ t → left ≤ 9
    go true e = leb-true left 9 e
    go false e = absurd (let more = one_more left (leb-false left 9 e) in let some = one_some (left / 10) in let ends = w.ends in omega arith)

pub writing_ends : (number at : ℕ) (out₀ : List ℕ) (left to : ℕ) (out : List ℕ) → Writing number at out₀ left to out → left ≤ 9
    → set out at (48 + left) ≡ put_in (decimal number) at out₀
writing_ends number at out₀ left to out w l =
    let n = one_in_all left l in
    let h : at < length out = let e = w.ends in let r = w.room in omega arith in
    set_split out at (48 + left) h ∙ sym (rw (one_digit left l, add-one) (append_assoc (take at out) ((48 + left) ∷ []) (drop (suc at) out))) ∙ w.gives

pub one_ends : (number at : ℕ) (out₀ : List ℕ) (left to : ℕ) (out : List ℕ) → Writing number at out₀ left to out → at < length out
one_ends number at out₀ left to out w = let e = w.ends in let r = w.room in let m = one_some left in omega arith
