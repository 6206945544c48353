-- What stands before the first byte of a value, and what after it.
-- Assumes nothing.
use Rattle.std.specs.Prelude.{Some, None, is_some, position}
use Rattle.std.specs.List.{position_or_len, before_first, after_first, list_all}
use Rattle.std.proofs.lemmas.List.Sums.{split_at_first, passes_at_first}
use mathlib.Core.Path.{◌≡◌, refl, ap, ◌∙◌, sym}
use mathlib.Core.Bool.{Bool, true, false, not, cond}
use mathlib.Core.List.{List, [], ◌∷◌, ◌++◌}
use Prim.Native.Nat.{ℕ, suc, ◌+◌, ◌<◌}
use native.Mathlib.Omega.{arith}
use lib.ListN.{length, get_or, take, drop, length-append}
use lib.Seq.{take-length, take_all, take-append_seam, take-append-add, drop-append-add}
use lib.Dec.{eqb, ltb}
use borrow.Author.Tests.{eqb-true, eq-eqb, ltb-true, ltb-false, lt-ltb, le-ltb}
use Rattle.rules.proofs.Bools.{and₂}
use Rattle.commands.specs.Bytes.{space, is_space, first_field, more_fields, after_field}

-- none of the bytes is c
abbrev pub Without : ℕ → List ℕ → Type 0
Without c s = list_all (λ b. not (eqb b c)) s ≡ true

module _ (c : ℕ) where
  abbrev is_c : ℕ → Bool
  is_c b = eqb b c

  abbrev place : List ℕ → ℕ
  place = position_or_len is_c

  place_alone : (s : List ℕ) → Without c s → place s ≡ length s
  place_alone [] h = refl
  place_alone (b ∷ s) h = let k = and₂ (not (eqb b c)) (list_all (λ d. not (eqb d c)) s) h in rw (k.0, place_alone s k.1) (omega arith)

  place_then : (s t : List ℕ) → Without c s → place (s ++ c ∷ t) ≡ length s
  place_then [] t h = rw (eq-eqb c c refl)
  place_then (b ∷ s) t h = let k = and₂ (not (eqb b c)) (list_all (λ d. not (eqb d c)) s) h in rw (k.0, place_then s t k.1) (omega arith)

  place_on : (s t : List ℕ) → Without c s → place (s ++ t) ≡ length s + place t
  place_on [] t h = omega arith
  place_on (b ∷ s) t h = let k = and₂ (not (eqb b c)) (list_all (λ d. not (eqb d c)) s) h in rw (k.0, place_on s t k.1) (omega arith)

  -- others follow
  pub before_on : (s t : List ℕ) → Without c s → before_first is_c (s ++ t) ≡ s ++ before_first is_c t
  before_on s t h = rw (place_on s t h) (take-append-add s t (place t))

  -- no such byte follows
  pub before_alone : (s : List ℕ) → Without c s → before_first is_c s ≡ s
  before_alone s h = rw (place_alone s h) (take-length s)

  pub none_alone : (s : List ℕ) → Without c s → is_some (position is_c s) ≡ false
  none_alone s h = rw (place_alone s h, le-ltb (length s) (length s) (omega arith))

  -- one follows, and then others
  pub before_then : (s t : List ℕ) → Without c s → before_first is_c (s ++ c ∷ t) ≡ s
  before_then s t h = rw (place_then s t h) (take-append_seam s (c ∷ t))

  pub some_then : (s t : List ℕ) → Without c s → is_some (position is_c (s ++ c ∷ t)) ≡ true
  some_then s t h = rw (place_then s t h, length-append, lt-ltb (length s) (length s + suc (length t)) (omega arith))

  pub after_then : (s t : List ℕ) → Without c s → after_first is_c (s ++ c ∷ t) ≡ t
  after_then s t h = rw (place_then s t h) (drop-append-add s (c ∷ t) 1)

  -- the other way round: by the place of the first such byte
  found : (s : List ℕ) (b : Bool) → is_some (position is_c s) ≡ b → ltb (place s) (length s) ≡ b
  found s b e = go (ltb (place s) (length s)) refl e
    where
      go : (t : Bool) → ltb (place s) (length s) ≡ t → is_some (cond t (Some (place s)) None) ≡ b → ltb (place s) (length s) ≡ b
      go true l e = l ∙ e
      go false l e = l ∙ e

  pub only : (s : List ℕ) → is_some (position is_c s) ≡ false → s ≡ before_first is_c s
  only s e = sym (take_all (place s) s (ltb-false (place s) (length s) (found s false e)))

  pub splits : (s : List ℕ) → is_some (position is_c s) ≡ true → s ≡ before_first is_c s ++ c ∷ after_first is_c s
  splits s e =
      let low = ltb-true (place s) (length s) (found s true e) in
      let is = eqb-true (get_or s (place s) 0) c (passes_at_first is_c s 0 low) in
      split_at_first is_c s 0 low ∙ ap (λ (b : ℕ). before_first is_c s ++ b ∷ after_first is_c s) is

  pub place_is : (s : List ℕ) (n : ℕ) → position is_c s ≡ Some n → (n ≡ place s) × (n < length s)
  place_is s n e = go (ltb (place s) (length s)) refl e
    where
      go : (t : Bool) → ltb (place s) (length s) ≡ t → cond t (Some (place s)) None ≡ Some n → (n ≡ place s) × (n < length s)
      go true l h = let is : n ≡ place s = cc in (is, let low = ltb-true (place s) (length s) l in omega arith)
      go false l h = absurd (cc)

-- the first field where no space follows it, and where one does
pub alone : (s : List ℕ) → position is_space s ≡ None → (first_field s ≡ s) × (more_fields s ≡ false)
alone s e = let none = ap is_some e in (sym (only space s none), none)

pub spaced : (s : List ℕ) (end : ℕ) → position is_space s ≡ Some end → (first_field s ≡ take end s) × (more_fields s ≡ true) × (after_field s ≡ drop (end + 1) s) × (end < length s)
spaced s end e = let p = place_is space s end e in (rw p.0, ap is_some e, rw p.0, p.1)
