-- Two calls that refuse alike do alike.
-- Assumes nothing.
use Rattle.std.proofs.Common.{◌≡◌, ℕ, ◌%◌, ◌<◌, Bool, true, false, Ok, Err, refl, ap, ◌∙◌, mod-eq_of_lt, if◌then◌else◌}
use Rattle.rules.specs.Refusals.{Tested, no_refusal, unless_refused}
use Rattle.rules.specs.declared.refusals.Refusal.{Refusal}
use Rattle.rules.specs.declared.refusals.Refusal.TheVariants.{OutOfRange}

-- one of the eight is picked by its own number
pub own_pick : {core : ℕ} → core < 8 → core % 8 ≡ core
own_pick l = mod-eq_of_lt l

-- what is made of a call's outcome is another call's outcome, where their tests are the same, and what is made of each refusal and of what is done is the other's
pub alike : {A B : Type 0} (make : A → B) {t u : Tested} {refused₁ : Refusal → A} {done₁ : A} {refused₂ : Refusal → B} {done₂ : B} → t ≡ u
    → ((r : Refusal) → make (refused₁ r) ≡ refused₂ r) → (u ≡ no_refusal → make done₁ ≡ done₂) → make (unless_refused t refused₁ done₁) ≡ unless_refused u refused₂ done₂
alike {A = A} {B = B} make {u = u} {refused₁ = refused₁} {done₁ = done₁} {refused₂ = refused₂} {done₂ = done₂} same refusing doing =
    ap (λ (t : Tested). make (unless_refused t refused₁ done₁)) same ∙ go u refl
  where
    go : (v : Tested) → u ≡ v → make (unless_refused v refused₁ done₁) ≡ unless_refused v refused₂ done₂
    go (Ok x) e = doing e
    go (Err r) e = refusing r

-- a test after others that is reached was not the first to fail
pub rest_passed : (first rest : Tested) → unless_refused first (λ r. Err r) rest ≡ no_refusal → (first ≡ no_refusal) × (rest ≡ no_refusal)
rest_passed (Ok u) rest h = (refl, h)
rest_passed (Err r) rest h = absurd (cc)

-- tests that refuse otherwise than as out of range
pub not_5 : (t : Bool) (r : Refusal) (rest : Tested) → (r ≡ OutOfRange → ⊥) → (rest ≡ Err OutOfRange → ⊥) → (if t then Err r else rest) ≡ Err OutOfRange → ⊥
not_5 true r rest first later h = first (cc)
not_5 false r rest first later h = later h
