-- Facts about histories: the latest ll is one, and whether there is one, or an access of some sort since, can be told.
-- Assumes nothing.
use mathlib.Core.Path.{◌≡◌, refl, sym, ap, subst, ◌∙◌}
use mathlib.Core.Logic.{◌⊎◌, inl, inr}
use mathlib.Core.Bool.{Bool, true, false, true≢false, false≢true}
use mathlib.Core.List.{[], ◌∷◌, ◌++◌}
use Prim.Native.Nat.{ℕ}
use Rattle.rules.specs.History.{History, own_ll}
use Rattle.rules.specs.declared.answers.Record.{Record}
use Rattle.promises.specs.Success.{Never, LlBy, LatestLl}
use Rattle.promises.proofs.Decides.{ll_by, by_ll}

-- no access of a sort in a whole history, at one of its accesses and since it
pub never_at : (P : Record → Type 0) (since : History) (r : Record) (before : History) → Never P (since ++ r ∷ before) → P r → ⊥
never_at P [] r before none = none.0
never_at P (q ∷ since) r before none = never_at P since r before none.1

-- a sort that another implies
pub never_less : (P Q : Record → Type 0) → ((r : Record) → Q r → P r) → (h : History) → Never P h → Never Q h
never_less P Q implies [] none = tt
never_less P Q implies (r ∷ h) none = ((λ q. none.0 (implies r q)), never_less P Q implies h none.1)

-- a sort that can be told, along a history
pub never_or_not : (P : Record → Type 0) → ((r : Record) → P r ⊎ (P r → ⊥)) → (h : History) → Never P h ⊎ (Never P h → ⊥)
never_or_not P tell [] = inl tt
never_or_not P tell (r ∷ h) = go (tell r) (never_or_not P tell h)
  where
    go : P r ⊎ (P r → ⊥) → Never P h ⊎ (Never P h → ⊥) → Never P (r ∷ h) ⊎ (Never P (r ∷ h) → ⊥)
    go (inl p) rest = inr (λ none. none.0 p)
    go (inr p) (inl rest) = inl (p, rest)
    go (inr p) (inr rest) = inr (λ none. rest none.1)

-- by a test
pub told : {P : Type 0} (t : Bool) → (t ≡ true → P) → (P → t ≡ true) → P ⊎ (P → ⊥)
told true f g = inl (f refl)
told false f g = inr (λ p. false≢true (g p))

-- a core's latest ll, or none
pub find_latest : (c : ℕ) (h : History) → Never (LlBy c) h ⊎ LatestLl c h
find_latest c [] = inl tt
find_latest c (r ∷ h) = go (own_ll c r) refl (find_latest c h)
  where
    go : (t : Bool) → own_ll c r ≡ t → Never (LlBy c) h ⊎ LatestLl c h → Never (LlBy c) (r ∷ h) ⊎ LatestLl c (r ∷ h)
    go true e rest = inr (record { since = []; ll = r; before = h; split = refl; by_core = ll_by c r e; latest = tt })
    go false e (inl none) = inl ((λ k. true≢false (sym (by_ll c r k) ∙ e)), none)
    go false e (inr l) = inr (record { since = r ∷ l.since; ll = l.ll; before = l.before; split = ap (λ (t : History). r ∷ t) l.split; by_core = l.by_core; latest = ((λ k. true≢false (sym (by_ll c r k) ∙ e)), l.latest) })

-- the latest ll is one: its record, and what has been since
front : (s t : Record) (h k : History) → s ∷ h ≡ t ∷ k → s ≡ t
front s t h k e = cc

back : (s t : Record) (h k : History) → s ∷ h ≡ t ∷ k → h ≡ k
back s t h k e = cc

one_latest : (c : ℕ) (s t : History) (x y : Record) (b d : History) → s ++ x ∷ b ≡ t ++ y ∷ d → LlBy c x → LlBy c y → Never (LlBy c) s → Never (LlBy c) t → (s ≡ t) × (x ≡ y)
one_latest c [] [] x y b d e p q u v = (refl, front x y b d e)
one_latest c [] (r ∷ t) x y b d e p q u v = absurd (v.0 (subst (LlBy c) (front x r b (t ++ y ∷ d) e) p))
one_latest c (r ∷ s) [] x y b d e p q u v = absurd (u.0 (subst (LlBy c) (sym (front r y (s ++ x ∷ b) d e)) q))
one_latest c (r ∷ s) (w ∷ t) x y b d e p q u v =
    let rest = one_latest c s t x y b d (back r w (s ++ x ∷ b) (t ++ y ∷ d) e) p q u.1 v.1 in
    ((λ i. front r w (s ++ x ∷ b) (t ++ y ∷ d) e i ∷ rest.0 i), rest.1)

pub latest_one : (c : ℕ) (h : History) (l m : LatestLl c h) → (l.since ≡ m.since) × (l.ll ≡ m.ll)
latest_one c h l m = one_latest c l.since m.since l.ll m.ll l.before m.before (sym l.split ∙ m.split) l.by_core m.by_core l.latest m.latest
