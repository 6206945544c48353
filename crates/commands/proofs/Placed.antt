-- Texts put in one after the other, and how long they are.
-- Assumes nothing.
use Rattle.std.proofs.Common.{if◌then◌else◌}
use mathlib.Core.Path.{◌≡◌, refl, ap, ◌∙◌, sym}
use mathlib.Core.Bool.{Bool, true, false}
use mathlib.Core.List.{List, [], ◌∷◌, ◌++◌, append_assoc}
use Prim.Native.Nat.{ℕ, zero, suc, ◌+◌, ◌/◌, ◌%◌, ◌^◌, ◌-◌, ◌≤◌, ◌<◌}
use native.Mathlib.Nat.{pow-succ'}
use native.Mathlib.Omega.{arith}
use lib.ListN.{length, take, drop, length-append, length-drop, take-append-drop}
use lib.Seq.{take_at, take-length, length-paste, drop-append-add, drop-drop, length-take-le}
use lib.Dec.{ltb}
use borrow.Author.Tests.{ltb-true, le-ltb}
use Rattle.commands.specs.Bytes.{space, put_in}
use Rattle.commands.specs.Decimal.{digits_before, decimal}
use Rattle.commands.specs.Texts.{number_text}

pub is_put : (s : List ℕ) (at : ℕ) (out : List ℕ) → put_in s at out ≡ take at out ++ s ++ drop (at + length s) out
is_put s at out = ap (λ (t : List ℕ). take at out ++ t ++ drop (at + length s) out) (take-length s)

pub length_put : (s : List ℕ) (at : ℕ) (out : List ℕ) → at + length s ≤ length out → length (put_in s at out) ≡ length out
length_put s at out h = length-paste out at s (length s) h (omega arith)

pub put_put : (s t : List ℕ) (at : ℕ) (out : List ℕ) → at + length s + length t ≤ length out → put_in t (at + length s) (put_in s at out) ≡ put_in (s ++ t) at out
put_put s t at out h =
    let p = take at out ++ s in
    let q = drop (at + length s) out in
    let l : length (take at out) ≡ at = length-take-le at out (omega arith) in
    let n : length p ≡ at + length s = length-append (take at out) s ∙ ap (λ (k : ℕ). k + length s) l in
    let front : take (at + length s) (p ++ q) ≡ p = take_at p q (at + length s) n in
    let back : drop (at + length s + length t) (p ++ q) ≡ drop (at + length s + length t) out =
    ap (λ (k : ℕ). drop (k + length t) (p ++ q)) (sym n) ∙ drop-append-add p q (length t) ∙ drop-drop (length t) (at + length s) out in
    let last : at + length s + length t ≡ at + length (s ++ t) = rw (length-append s t) (omega arith) in
    let seam : p ++ t ≡ take at out ++ (s ++ t) = append_assoc (take at out) s t in
    ap (put_in t (at + length s)) (is_put s at out) ∙ is_put t (at + length s) (p ++ q) ∙ rw (front, back, last, seam) (sym (is_put (s ++ t) at out))

-- over a text that is no longer
put_over : (s t : List ℕ) (at : ℕ) (out : List ℕ) → length s ≤ length t → at + length t ≤ length out → put_in t at (put_in s at out) ≡ put_in t at out
put_over s t at out h k =
    let p = take at out ++ s in
    let q = drop (at + length s) out in
    let more = length t - length s in
    let l : length (take at out) ≡ at = length-take-le at out (omega arith) in
    let n : length p + more ≡ at + length t = rw (length-append, l) (omega arith) in
    let front : take at (p ++ q) ≡ take at out = ap (take at) (append_assoc (take at out) s q) ∙ take_at (take at out) (s ++ q) at l in
    let m : at + length s + more ≡ at + length t = omega arith in
    let back : drop (at + length t) (p ++ q) ≡ drop (at + length t) out = rw (← n) (drop-append-add p q more) ∙ drop-drop more (at + length s) out ∙ rw m in
    ap (put_in t at) (is_put s at out) ∙ rw (front, back)

-- a text put in after the first bytes of another, and over the rest of that
pub put_after : (first text : List ℕ) (k at : ℕ) (out : List ℕ) → k ≤ length first → length first ≤ k + length text → at + k + length text ≤ length out
    → put_in text (at + k) (put_in first at out) ≡ put_in (take k first ++ text) at out
put_after first text k at out h m r =
    let s = take k first in
    let t = drop k first in
    let n : length s ≡ k = length-take-le k first h in
    let d : length t ≡ length first - k = length-drop k first in
    let parts : put_in first at out ≡ put_in t (at + length s) (put_in s at out) =
    ap (λ (u : List ℕ). put_in u at out) (sym (take-append-drop k first)) ∙ sym (put_put s t at out (omega arith)) in
    let same : length (put_in s at out) ≡ length out = length_put s at out (omega arith) in
    ap (λ (j : ℕ). put_in text (at + j) (put_in first at out)) (sym n)
    ∙ ap (put_in text (at + length s)) parts
    ∙ put_over t text (at + length s) (put_in s at out) (omega arith) (omega arith)
    ∙ put_put s text at out (omega arith)

-- a number's digits are no more than its places
digits_few : (f n k : ℕ) (s : List ℕ) → n < 10 ^ suc k → length (digits_before f n s) ≤ suc k + length s
unfolding digits_before
digits_few zero n k s h = omega arith
digits_few (suc f) n zero s h = go (ltb 9 n) refl
  where
    go : (t : Bool) → ltb 9 n ≡ t → length (if t then digits_before f (n / 10) ((48 + n % 10) ∷ s) else (48 + n) ∷ s) ≤ 1 + length s
    go true e = absurd (let l = ltb-true 9 n e in omega (arith, h, l))
    go false e = omega arith
digits_few (suc f) n (suc k) s h = go (ltb 9 n) (digits_few f (n / 10) k ((48 + n % 10) ∷ s) (let p = rw (pow-succ' 10 (suc k)) at h in omega (arith, p)))
  where
    go : (t : Bool) → length (digits_before f (n / 10) ((48 + n % 10) ∷ s)) ≤ suc k + length ((48 + n % 10) ∷ s)
        → length (if t then digits_before f (n / 10) ((48 + n % 10) ∷ s) else (48 + n) ∷ s) ≤ suc (suc k) + length s
    go true e = omega (arith, e)
    go false e = omega arith

pub decimal_few : (n k : ℕ) → n < 10 ^ suc k → length (decimal n) ≤ suc k
unfolding decimal
decimal_few n k h = let l = digits_few (suc n) n k [] h in omega (arith, l)

pub one_digit : (n : ℕ) → n ≤ 9 → decimal n ≡ (48 + n) ∷ []
unfolding decimal digits_before
one_digit n l = rw (le-ltb 9 n l)

-- a text is put in at a place, and ends where it ends
pub record Put (text : List ℕ) (at : ℕ) (out out' : List ℕ) (end : ℕ) : Type 0 where
  pub bytes : out' ≡ put_in text at out
  pub ends : end ≡ at + length text

pub put_then : (s t : List ℕ) (at : ℕ) (out out₁ out₂ : List ℕ) (e₁ e₂ : ℕ) → Put s at out out₁ e₁ → Put t e₁ out₁ out₂ e₂ → at + length s + length t ≤ length out
    → Put (s ++ t) at out out₂ e₂
put_then s t at out out₁ out₂ e₁ e₂ p q h =
    record {
      bytes = q.bytes ∙ rw (p.ends, p.bytes) (put_put s t at out h);
      ends = q.ends ∙ rw (p.ends, length-append s t) (omega arith);
    }

-- as the code meets them: a text put in after another
pub value_few : (n : ℕ) → n < 4294967296 → length (decimal n) ≤ 10
value_few n l = decimal_few n 9 (omega (arith, l))

pub number_few : (n : ℕ) → n < 4294967296 → length (number_text n) ≤ 11
number_few n l = let p = value_few n l in rw (length-append (decimal n) (space ∷ [])) (omega arith)

pub put_both : (s t : List ℕ) (at e : ℕ) (out out₁ : List ℕ) → out₁ ≡ put_in s at out → e ≡ at + length s → at + length s + length t ≤ length out
    → put_in t e out₁ ≡ put_in (s ++ t) at out
put_both s t at e out out₁ p q h = rw (p, q) (put_put s t at out h)
