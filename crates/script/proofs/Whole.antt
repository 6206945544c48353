-- The whole lines of bytes that are cut in two, and bytes with no newline among them.
-- Assumes nothing.
use Rattle.std.proofs.Common.{if◌then◌else◌}
use mathlib.Core.Path.{◌≡◌, refl, ap, sym, ◌∙◌}
use mathlib.Core.Bool.{Bool, true, false}
use mathlib.Core.List.{List, [], ◌∷◌, ◌++◌, append_assoc, append-nil}
use Prim.Native.Nat.{ℕ, zero, suc}
use lib.ListN.{take}
use Rattle.commands.specs.Bytes.{is_newline}
use Rattle.script.specs.Lines.{whole_from, left_from}

-- both ways of a test
pub by_test : (P : Bool → Type 0) (t : Bool) → P true → P false → P t
by_test P true p q = p
by_test P false p q = q

pub whole_append : (begun a b : List ℕ) → whole_from begun (a ++ b) ≡ whole_from begun a ++ whole_from (left_from begun a) b
whole_append begun [] b = refl
whole_append begun (x ∷ a) b =
    by_test
    (λ (t : Bool). (if t then begun ∷ whole_from [] (a ++ b) else whole_from (begun ++ x ∷ []) (a ++ b))
    ≡ (if t then begun ∷ whole_from [] a else whole_from (begun ++ x ∷ []) a) ++ whole_from (if t then left_from [] a else left_from (begun ++ x ∷ []) a) b)
    (is_newline x)
    (ap (λ (l : List (List ℕ)). begun ∷ l) (whole_append [] a b))
    (whole_append (begun ++ x ∷ []) a b)

pub left_append : (begun a b : List ℕ) → left_from begun (a ++ b) ≡ left_from (left_from begun a) b
left_append begun [] b = refl
left_append begun (x ∷ a) b =
    by_test
    (λ (t : Bool). (if t then left_from [] (a ++ b) else left_from (begun ++ x ∷ []) (a ++ b)) ≡ left_from (if t then left_from [] a else left_from (begun ++ x ∷ []) a) b)
    (is_newline x)
    (left_append [] a b)
    (left_append (begun ++ x ∷ []) a b)

-- bytes with no newline among them
abbrev pub Plain : List ℕ → Type 0
Plain [] = Unit {0}
Plain (b ∷ bytes) = (is_newline b ≡ false) × Plain bytes

pub plain_append : (a b : List ℕ) → Plain a → Plain b → Plain (a ++ b)
plain_append [] b p q = q
plain_append (x ∷ a) b p q = (p.0, plain_append a b p.1 q)

pub plain_take : (n : ℕ) (a : List ℕ) → Plain a → Plain (take n a)
plain_take zero a p = tt
plain_take (suc n) [] p = tt
plain_take (suc n) (x ∷ a) p = (p.0, plain_take n a p.1)

pub plain_whole : (begun a : List ℕ) → Plain a → whole_from begun a ≡ []
plain_whole begun [] p = refl
plain_whole begun (x ∷ a) p = rw p.0 (plain_whole (begun ++ x ∷ []) a p.1)

pub plain_left : (begun a : List ℕ) → Plain a → left_from begun a ≡ begun ++ a
plain_left begun [] p = sym (append-nil begun)
plain_left begun (x ∷ a) p = rw p.0 (plain_left (begun ++ x ∷ []) a p.1 ∙ append_assoc begun (x ∷ []) a)

pub left_plain : (begun bytes : List ℕ) → Plain begun → Plain (left_from begun bytes)
left_plain begun [] p = p
left_plain begun (b ∷ bytes) p = go (is_newline b) refl (left_plain [] bytes tt) (λ q. left_plain (begun ++ b ∷ []) bytes q)
  where
    go : (t : Bool) → is_newline b ≡ t → Plain (left_from [] bytes) → (Plain (begun ++ b ∷ []) → Plain (left_from (begun ++ b ∷ []) bytes))
        → Plain (if t then left_from [] bytes else left_from (begun ++ b ∷ []) bytes)
    go true e q r = q
    go false e q r = r (plain_append begun (b ∷ []) p (e, tt))
