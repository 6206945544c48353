-- The test that decides the success rule passes exactly what RULES 5.2 says. The entry rule is any.
-- Assumes nothing.
use Rattle.std.proofs.Common.{if◌then◌else◌}
use Rattle.std.proofs.lemmas.Bool.{false_from_ne_true, not-true}
use mathlib.Core.Path.{◌≡◌, refl, sym, ap, ◌∙◌}
use mathlib.Core.Logic.{◌⊎◌, inl, inr}
use mathlib.Core.Bool.{Bool, true, false, not, true≢false, false≢true}
use mathlib.Core.List.{[], ◌∷◌, ◌++◌}
use Prim.Native.Nat.{ℕ}
use native.Mathlib.Omega.{arith}
use lib.Dec.{eqb}
use borrow.Author.Tests.{eqb-true, eqb-false, eq-eqb, ne_eqb}
use Rattle.rules.specs.Kinds.{kind_number, KindRule, rule_of, no_rule, rule_at, linking, unlinking, spoiling, links_kind, unlinks_kind, spoils_kind}
use Rattle.rules.specs.History.{History, own_ll, own_sc, spoils, succeeds}
use Rattle.rules.specs.declared.entry.GuestAddress.{GuestAddress}
use Rattle.rules.specs.declared.entry.EntryNumber.{EntryNumber}
use Rattle.rules.specs.declared.kinds.Kind.{Kind}
use Rattle.rules.specs.declared.kinds.Kind.TheVariants.{Ll, Store, Success, Failure}
use Rattle.rules.specs.declared.answers.Record.{Record}
use Rattle.rules.proofs.Bools.{and₂, and₃}
use Rattle.rules.proofs.Shapes.{rule_numbered, by_number}
use Rattle.promises.specs.Success.{Never, LlBy, ScBy, SpoiledBy, LatestLl, Succeeds, WrittenRule}

-- the kinds that each test of a row tells

abbrev ScKind : ℕ → Type 0
ScKind kind = (kind ≡ kind_number Success) ⊎ (kind ≡ kind_number Failure)

abbrev SpoilingKind : ℕ → Type 0
SpoilingKind kind = (kind ≡ kind_number Ll) ⊎ ((kind ≡ kind_number Store) ⊎ (kind ≡ kind_number Success))

-- what a test tells of a number holds, if it holds of each kind's and if of no kind's the test is false
told_of : (test : KindRule → Bool) (P : ℕ → Type 0) → test no_rule ≡ false → ((k : Kind) → test (rule_of k) ≡ true → P (kind_number k)) → (kind : ℕ) → test (rule_at kind) ≡ true → P kind
told_of test P none known =
    by_number (λ (kind : ℕ). test (rule_at kind) ≡ true → P kind)
    (λ k h. known k (ap test (sym (rule_numbered k)) ∙ h))
    (λ kind e h. absurd (false≢true (sym none ∙ ap test (sym e) ∙ h)))

-- and it is told of a kind that it holds of
of_kind : (test : KindRule → Bool) (k : Kind) → test (rule_of k) ≡ true → {kind : ℕ} → kind ≡ kind_number k → test (rule_at kind) ≡ true
of_kind test k h e = ap (λ (n : ℕ). test (rule_at n)) e ∙ ap test (rule_numbered k) ∙ h

links_is : (kind : ℕ) → links_kind kind ≡ true → kind ≡ kind_number Ll
links_is = told_of (λ (rule : KindRule). linking rule.link) (λ (kind : ℕ). kind ≡ kind_number Ll) refl known
  where
    known : (k : Kind) → linking (rule_of k).link ≡ true → kind_number k ≡ kind_number Ll
    known k h = grind arith

unlinks_is : (kind : ℕ) → unlinks_kind kind ≡ true → ScKind kind
unlinks_is = told_of (λ (rule : KindRule). unlinking rule.link) ScKind refl known
  where
    known : (k : Kind) → unlinking (rule_of k).link ≡ true → ScKind (kind_number k)
    known k h = grind arith

spoils_is : (kind : ℕ) → spoils_kind kind ≡ true → SpoilingKind kind
spoils_is = told_of (λ (rule : KindRule). spoiling rule.mark) SpoilingKind refl known
  where
    known : (k : Kind) → spoiling (rule_of k).mark ≡ true → SpoilingKind (kind_number k)
    known k h = grind arith

is_unlinks : (kind : ℕ) → ScKind kind → unlinks_kind kind ≡ true
is_unlinks kind (inl e) = of_kind (λ (rule : KindRule). unlinking rule.link) Success refl e
is_unlinks kind (inr e) = of_kind (λ (rule : KindRule). unlinking rule.link) Failure refl e

is_spoils : (kind : ℕ) → SpoilingKind kind → spoils_kind kind ≡ true
is_spoils kind (inl e) = of_kind (λ (rule : KindRule). spoiling rule.mark) Ll refl e
is_spoils kind (inr (inl e)) = of_kind (λ (rule : KindRule). spoiling rule.mark) Store refl e
is_spoils kind (inr (inr e)) = of_kind (λ (rule : KindRule). spoiling rule.mark) Success refl e

-- tests and what they test

pub ll_by : (c : ℕ) (r : Record) → own_ll c r ≡ true → LlBy c r
ll_by c r h = let t = and₂ (eqb r.core c) (links_kind r.kind) h in (eqb-true _ _ t.0, links_is r.kind t.1)

pub by_ll : (c : ℕ) (r : Record) → LlBy c r → own_ll c r ≡ true
by_ll c r h = rw (eq-eqb _ _ h.0, of_kind (λ (rule : KindRule). linking rule.link) Ll refl h.1)

pub sc_by : (c : ℕ) (r : Record) → own_sc c r ≡ true → ScBy c r
sc_by c r h = let t = and₂ (eqb r.core c) (unlinks_kind r.kind) h in (eqb-true _ _ t.0, unlinks_is r.kind t.1)

pub by_sc : (c : ℕ) (r : Record) → ScBy c r → own_sc c r ≡ true
by_sc c r h = rw (eq-eqb _ _ h.0, is_unlinks r.kind h.1)

same_entry : (d e : EntryNumber) → d.0 ≡ e.0 → d ≡ e
same_entry d e p = λ i. record { 0 = p i }

module _ (entry : GuestAddress → EntryNumber) (c : ℕ) (a : GuestAddress) where
  pub spoiled_by : (r : Record) → spoils entry c a r ≡ true → SpoiledBy entry c a r
  spoiled_by r h =
      let t = and₃ (not (eqb r.core c)) (spoils_kind r.kind) (eqb (entry r.address).0 (entry a).0) h in
      (eqb-false _ _ (not-true _ t.0), spoils_is r.kind t.1, same_entry (entry r.address) (entry a) (eqb-true _ _ t.2))

  pub by_spoiled : (r : Record) → SpoiledBy entry c a r → spoils entry c a r ≡ true
  by_spoiled r h =
      rw (ne_eqb r.core c h.0, is_spoils r.kind h.1, eq-eqb (entry r.address).0 (entry a).0 (ap (λ (e : EntryNumber). e.0) h.2))

  -- one access more since the latest ll
  abbrev pub later : (r : Record) (h : History) → (LlBy c r → ⊥) → LatestLl c h → LatestLl c (r ∷ h)
  later r h none l = record { since = r ∷ l.since; ll = l.ll; before = l.before; split = ap (λ (t : History). r ∷ t) l.split; by_core = l.by_core; latest = (none, l.latest) }

  -- the function decides the rule: what it accepts succeeds
  pub decided : (h : History) → succeeds entry c a h ≡ true → Succeeds entry c a h
  unfolding succeeds
  decided [] p = absurd (false≢true p)
  decided (r ∷ h) p = go (own_ll c r) refl (own_sc c r) refl (spoils entry c a r) refl p (decided h)
    where
      go : (t : Bool) → own_ll c r ≡ t → (u : Bool) → own_sc c r ≡ u → (v : Bool) → spoils entry c a r ≡ v
          → (if t then eqb r.address.0 a.0 else if u then false else if v then false else succeeds entry c a h) ≡ true → (succeeds entry c a h ≡ true → Succeeds entry c a h) → Succeeds entry c a (r ∷ h)
      go true e u f v g q ih =
          record {
            done = record { since = []; ll = r; before = h; split = refl; by_core = ll_by c r e; latest = tt };
            there = λ i. record { 0 = eqb-true r.address.0 a.0 q i };
            no_sc = tt;
            unspoiled = tt;
          }
      go false e true f v g q ih = absurd (false≢true q)
      go false e false f true g q ih = absurd (false≢true q)
      go false e false f false g q ih =
          let s = ih q in
          record {
            done = later r h (λ k. true≢false (sym (by_ll c r k) ∙ e)) s.done;
            there = s.there;
            no_sc = ((λ k. true≢false (sym (by_sc c r k) ∙ f)), s.no_sc);
            unspoiled = ((λ k. true≢false (sym (by_spoiled r k) ∙ g)), s.unspoiled);
          }

  -- and what succeeds it accepts
  accepts : (since : History) (ll : Record) (before : History) → LlBy c ll → ll.address ≡ a → Never (LlBy c) since → Never (ScBy c) since → Never (SpoiledBy entry c a) since
      → succeeds entry c a (since ++ ll ∷ before) ≡ true
  unfolding succeeds
  accepts [] ll before l at n s u = rw (by_ll c ll l) (eq-eqb _ _ (ap (λ (b : GuestAddress). b.0) at))
  accepts (r ∷ since) ll before l at n s u =
      rw (false_from_ne_true (own_ll c r) (λ k. n.0 (ll_by c r k)), false_from_ne_true (own_sc c r) (λ k. s.0 (sc_by c r k)), false_from_ne_true (spoils entry c a r) (λ k. u.0 (spoiled_by r k)))
      (accepts since ll before l at n.1 s.1 u.1)

  pub decides : (h : History) → Succeeds entry c a h → succeeds entry c a h ≡ true
  decides h s =
      ap (succeeds entry c a) s.done.split ∙ accepts s.done.since s.done.ll s.done.before s.done.by_core s.there s.done.latest s.no_sc s.unspoiled

pub written_rule : WrittenRule
written_rule entry c a history = record { passes_only = decided entry c a history; passes_each = decides entry c a history }
