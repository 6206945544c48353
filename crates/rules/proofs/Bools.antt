-- What a test that holds, or a refusal that is not given, says of its parts.
-- Assumes nothing.
use Rattle.std.proofs.Common.{◌≡◌, ℕ, zero, suc, ◌<◌, Bool, true, false, not, ◌&&◌, ◌||◌, Err, is_err, sym, refl, ap, true≢false, arith, if◌then◌else◌}
use mathlib.Core.Bool.{false≢true}
use Rattle.rules.specs.Basics.{all_below}
use Rattle.rules.specs.Refusals.{Tested, no_refusal}
use Rattle.rules.specs.declared.refusals.Refusal.{Refusal}

pub and₂ : (a b : Bool) → a && b ≡ true → (a ≡ true) × (b ≡ true)
and₂ true b h = (refl, h)
and₂ false b h = absurd (false≢true h)

pub and₃ : (a b c : Bool) → a && b && c ≡ true → (a ≡ true) × (b ≡ true) × (c ≡ true)
and₃ true true c h = (refl, refl, h)
and₃ true false c h = absurd (false≢true h)
and₃ false b c h = absurd (false≢true h)

pub and₄ : (a b c d : Bool) → a && b && c && d ≡ true → (a ≡ true) × (b ≡ true) × (c ≡ true) × (d ≡ true)
and₄ a b c d h = let t = and₂ (a && b && c) d h in let u = and₃ a b c t.0 in (u.0, u.1, u.2, t.1)

pub or_true : (t : Bool) → t || true ≡ true
or_true true = refl
or_true false = refl

pub and_false : (t : Bool) → t && false ≡ false
and_false true = refl
and_false false = refl

-- two tests of which each holds where the other does
pub same : (a b : Bool) → (a ≡ true → b ≡ true) → (b ≡ true → a ≡ true) → a ≡ b
same true b p q = sym (p refl)
same false true p q = q refl
same false false p q = refl

-- a choice of one and the same
pub if_same : {A : Type 0} (t : Bool) {x : A} → (if t then x else x) ≡ x
if_same true = refl
if_same false = refl

-- a test of what is in use, where it is in use
pub in_use : (a b : Bool) → a ≡ true → not a || b ≡ true → b ≡ true
in_use true b p h = h
in_use false b p h = absurd (false≢true p)

-- a test of what is in use, where it is not
pub not_in_use : (a b : Bool) → a ≡ false → a || b ≡ true → b ≡ true
not_in_use true b p h = absurd (true≢false p)
not_in_use false b p h = h

-- a refusal that was not given: its test failed, and the refusals after it were not given
pub passed_over : (t : Bool) (r : Refusal) (rest : Tested) → (if t then Err r else rest) ≡ no_refusal → (t ≡ false) × (rest ≡ no_refusal)
passed_over true r rest h = absurd (true≢false (ap is_err h))
passed_over false r rest h = (refl, h)

-- what holds of each number below n
pub all_below_lem : (n : ℕ) (test : ℕ → Bool) → ((i : ℕ) → i < n → test i ≡ true) → all_below n test ≡ true
all_below_lem zero test each = refl
all_below_lem (suc n) test each = rw (all_below_lem n test (λ i l. each i (omega arith)), each n (omega arith))
