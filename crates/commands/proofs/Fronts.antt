-- What bytes begin with: a text, and a number by the digits that stand there.
-- Assumes nothing.
use Rattle.std.specs.Prelude.{Some, None}
use Rattle.std.specs.List.{position_or_len, list_all}
use Rattle.std.proofs.lemmas.List.{get_or_append_left}
use Rattle.std.proofs.lemmas.Option.{same_Some}
use Rattle.std.proofs.Common.{if◌then◌else◌}
use mathlib.Core.Path.{◌≡◌, refl, ap, ◌∙◌, sym}
use mathlib.Core.Bool.{Bool, true, false, not, ◌&&◌}
use mathlib.Core.List.{List, [], ◌∷◌, ◌++◌}
use Prim.Native.Nat.{ℕ, suc, ◌+◌, ◌-◌, ◌≤◌, ◌<◌}
use native.Mathlib.Omega.{arith}
use lib.ListN.{length, get_or, take, drop, length-append, length-drop, take-append-drop}
use lib.Seq.{take_all, length-take-le, get_or-drop}
use lib.Dec.{eqb, leb, ltb}
use lib.Pointwise.{bytes_decides}
use borrow.Author.Tests.{eqb-true, eqb-false, leb-true, leb-false, ltb-true, ltb-false}
use Rattle.rules.proofs.Bools.{and₂}
use Rattle.commands.specs.Bytes.{begins, after_text, space, is_space, first_field, more_fields, after_field}
use Rattle.commands.specs.Decimal.{largest, is_digit, all_digits, value_from, number_said, number_ahead}
use Rattle.commands.proofs.Digits.{digit_no_space, digits_append, value_append, value_rises, nothing, no_digit, needless, large, eleven, small}
use Rattle.commands.proofs.Fields.{Without, before_on, before_alone, none_alone, before_then, some_then, after_then}

-- a text, and what follows it
pub text_is : (text s t : List ℕ) → after_text text s ≡ Some t → s ≡ text ++ t
text_is text s t e = go (begins text s) refl e
  where
    go : (b : Bool) → begins text s ≡ b → (if b then Some (drop (length text) s) else None) ≡ Some t → s ≡ text ++ t
    go false q e = absurd (cc)
    go true q e =
        let front : take (length text) s ≡ text = (bytes_decides (take (length text) s) text).0 q in
        sym (take-append-drop (length text) s)
        ∙ ap (λ (u : List ℕ). u ++ drop (length text) s) front
        ∙ ap (λ (u : List ℕ). text ++ u) (same_Some (drop (length text) s) t e)

-- no digit is a space
pub digits_plain : (s : List ℕ) → all_digits s ≡ true → Without space s
unfolding all_digits
digits_plain [] h = refl
digits_plain (b ∷ s) h = let k = and₂ (is_digit b) (all_digits s) h in rw (digit_no_space b k.0, digits_plain s k.1)

-- digits that are no number are none with others after them
still_none : (d more : List ℕ) → all_digits d ≡ true → 1 ≤ length d → number_said d ≡ None → number_said (d ++ more) ≡ None
still_none d more digits some none = go (ltb 1 (length d) && eqb (get_or d 0 0) 48) refl (leb (value_from 0 d) largest) refl
  where
    go : (z : Bool) → ltb 1 (length d) && eqb (get_or d 0 0) 48 ≡ z → (l : Bool) → leb (value_from 0 d) largest ≡ l → number_said (d ++ more) ≡ None
    go true e l f =
        let k = and₂ (ltb 1 (length d)) (eqb (get_or d 0 0) 48) e in
        let two = ltb-true 1 (length d) k.0 in
        needless (d ++ more) (rw length-append (omega arith)) (get_or_append_left d more 0 0 (omega arith) ∙ eqb-true (get_or d 0 0) 48 k.1)
    go false e false f =
        let l = leb-false (value_from 0 d) largest f in
        let grown = value_rises (value_from 0 d) more in
        large (d ++ more) (rw value_append (omega arith))
    go false e true f = absurd (let is = small d digits some e (leb-true (value_from 0 d) largest f) in cc)

-- the first field of bytes that begin with no digit
other_first : (b : ℕ) (s : List ℕ) → is_space b ≡ false → first_field (b ∷ s) ≡ b ∷ first_field s
other_first b s e = let n : 1 + position_or_len is_space s ≡ suc (position_or_len is_space s) = omega arith in rw (e, n)

no_digit_first : (s : List ℕ) → (0 < length s → is_digit (get_or s 0 0) ≡ false) → number_said (first_field s) ≡ None
unfolding all_digits
no_digit_first [] h = nothing [] refl
no_digit_first (b ∷ s) h = go (is_space b) refl
  where
    go : (t : Bool) → is_space b ≡ t → number_said (first_field (b ∷ s)) ≡ None
    go true e = rw e (nothing [] refl)
    go false e = rw (other_first b s e) (no_digit (b ∷ first_field s) (rw (h (omega arith))))

-- what stands from a place on, as a slice has it
pub from_on : (s : List ℕ) (n : ℕ) → take (length s - n) (drop n s) ≡ drop n s
from_on s n = take_all (length s - n) (drop n s) (let l = length-drop n s in omega (arith, l))

-- by the digits in front, and the others after them
module _ (s : List ℕ) (count : ℕ) (digits : all_digits (take count s) ≡ true) (others : List ℕ) (rest : others ≡ drop count s) where
  abbrev d : List ℕ
  d = take count s

  whole : s ≡ d ++ others
  whole = sym (take-append-drop count s) ∙ ap (λ (t : List ℕ). d ++ t) (sym rest)

  field : first_field s ≡ d ++ first_field others
  field = ap first_field whole ∙ before_on space d others (digits_plain d digits)

  pub front_alone : (n : ℕ) → number_said d ≡ Some n → length others ≡ 0 → Some (n, None) ≡ number_ahead s
  unfolding number_ahead
  front_alone n e none =
      let h = digits_plain d digits in
      let alone : s ≡ d = sym (take_all count s (let l = length-drop count s in let k = ap length rest in omega arith)) in
      let plain : Without space s = ap (λ t. list_all (λ b. not (is_space b)) t) alone ∙ h in
      rw (before_alone space s plain, none_alone space s plain, ap number_said alone ∙ e)

  pub front_then : (n : ℕ) (t : List ℕ) → number_said d ≡ Some n → after_text (space ∷ []) others ≡ Some t → Some (n, Some t) ≡ number_ahead s
  unfolding number_ahead
  front_then n t e f =
      let h = digits_plain d digits in
      let spaced : s ≡ d ++ space ∷ t = whole ∙ ap (λ (u : List ℕ). d ++ u) (text_is (space ∷ []) others t f) in
      let first : first_field s ≡ d = ap first_field spaced ∙ before_then space d t h in
      let more : more_fields s ≡ true = ap more_fields spaced ∙ some_then space d t h in
      let after : after_field s ≡ t = ap after_field spaced ∙ after_then space d t h in
      rw (first, more, after, e)

  module _ (within : count ≤ length s) (stops : count < 11 → count < length s → is_digit (get_or s count 0) ≡ false) where
    pub front_none : number_said d ≡ None → None ≡ number_ahead s
    unfolding number_ahead
    front_none e = go (eqb count 0) refl
      where
        go : (t : Bool) → eqb count 0 ≡ t → None ≡ number_ahead s
        go true z =
            let none = eqb-true count 0 z in
            let first : number_said (first_field s) ≡ None = no_digit_first s (λ l. rw none at (stops (omega arith) (omega arith))) in
            rw first
        go false z =
            let some = eqb-false count 0 z in
            let l : length d ≡ count = length-take-le count s within in
            let first : number_said (first_field s) ≡ None = rw field (still_none d (first_field others) digits (omega arith) e) in
            rw first

    -- a byte that is neither a digit nor a space; the eleventh digit makes no number
    no_other : (n b : ℕ) → count ≤ 11 → number_said d ≡ Some n → count < length s → get_or s count 0 ≡ b → is_digit b ≡ false
    no_other n b few e inside is = go (ltb count 11) refl
      where
        go : (t : Bool) → ltb count 11 ≡ t → is_digit b ≡ false
        go true l = ap is_digit (sym is) ∙ stops (ltb-true count 11 l) inside
        go false l =
            let more = ltb-false count 11 l in
            let long : length d ≡ 11 = length-take-le count s within ∙ (omega arith) in
            let none = eleven d digits long in
            absurd (cc)

    no_space : (b : ℕ) (t : List ℕ) → after_text (space ∷ []) (b ∷ t) ≡ None → is_space b ≡ false
    no_space b t f = go (is_space b) refl
      where
        go : (u : Bool) → is_space b ≡ u → is_space b ≡ false
        go false e = e
        go true e = absurd (let g = rw e at f in cc)

    pub front_other : (n : ℕ) → count ≤ 11 → number_said d ≡ Some n → after_text (space ∷ []) others ≡ None → 1 ≤ length others → None ≡ number_ahead s
    unfolding number_ahead all_digits
    front_other n few e f some = go others refl
      where
        there : get_or s count 0 ≡ get_or others 0 0
        there =
            let z : count + 0 ≡ count = omega arith in
            ap (λ (k : ℕ). get_or s k 0) (sym z) ∙ sym (get_or-drop count s 0 0) ∙ ap (λ (u : List ℕ). get_or u 0 0) (sym rest)

        go : (t : List ℕ) → others ≡ t → None ≡ number_ahead s
        go [] q = absurd (let l = ap length q in omega arith)
        go (b ∷ t) q =
            let l : length others ≡ length s - count = ap length rest ∙ length-drop count s in
            let no = no_other n b few e (omega arith) (there ∙ ap (λ (u : List ℕ). get_or u 0 0) q) in
            let other = no_space b t (ap (after_text (space ∷ [])) (sym q) ∙ f) in
            let first : number_said (first_field s) ≡ None = rw (field, q, other_first b t other) (no_digit (d ++ b ∷ first_field t) (rw (digits_append, digits, no))) in
            rw first
