-- Demand 2 of store-conditionals: RISC-V forbids no success, and every failure has a named cause.
-- Assumes nothing.
use Rattle.std.proofs.Common.{Some, if◌then◌else◌}
use mathlib.Core.Path.{◌≡◌, refl, sym, ap, subst, ◌∙◌}
use mathlib.Core.Logic.{◌⊎◌, inl, inr, ⊎_elim}
use mathlib.Core.Bool.{Bool, true, false, true≢false, false≢true}
use mathlib.Core.List.{List, [], ◌∷◌, ◌++◌}
use Prim.Native.Nat.{ℕ, ◌/◌}
use lib.Dec.{eqb}
use borrow.Author.Tests.{eqb-true, eqb-false}
use Rattle.rules.specs.Kinds.{kind_number, KindRule, rule_of, rule_at, unlinking, writing}
use Rattle.rules.specs.Operations.{code_of, address_of, kind_of, shape}
use Rattle.rules.specs.Calls.{Outcome}
use Rattle.rules.specs.History.{History, own_sc, spoils, succeeds}
use Rattle.rules.specs.Reference.{Whole, does, pokes, Reference, refer, write_done, sc_failed, finish_by, finish}
use Rattle.rules.specs.Runs.{Call, Fresh, in_order, entry_rule}
use Rattle.rules.specs.declared.entry.GuestAddress.{GuestAddress}
use Rattle.rules.specs.declared.entry.EntryNumber.{EntryNumber}
use Rattle.rules.specs.declared.kinds.Kind.{Kind}
use Rattle.rules.specs.declared.kinds.Kind.TheVariants as Kinds
use Rattle.rules.specs.declared.operations.Operation.{Operation}
use Rattle.rules.specs.declared.operations.Shape.{Shape}
use Rattle.rules.specs.declared.operations.Shape.TheVariants.{Load, Locks}
use Rattle.rules.specs.declared.operations.Locking.TheVariants.{Ll, Store, Sc}
use Rattle.rules.specs.declared.answers.Delivered.TheVariants as Answered
use Rattle.rules.specs.declared.answers.Record.{Record}
use Rattle.rules.proofs.Accepted.{sizes_fit_lem}
use Rattle.rules.proofs.Lawful.{entry_laws}
use Rattle.rules.proofs.Shapes.{sc_rule, shape_rule, rule_made, rule_numbered}
use Rattle.rules.proofs.Invariant.{run_inv, started_inv}
use Rattle.promises.specs.Success.{Never, LlBy, ScBy, SpoiledBy, LatestLl, Succeeds}
use Rattle.promises.specs.Riscv.{NoneIs, LrOf, ScOf, LatestLr, SameWord, StoreOfAnother, MustFail, no_lr, outside, stored_to, another_sc}
use Rattle.promises.specs.Causes.{Linked, Cause, no_link, elsewhere, spoiled}
use Rattle.promises.specs.Demand2.{At, NoForbiddenSuccess, NamedCause}
use Rattle.promises.proofs.Decides.{decided, decides, sc_by, by_sc, spoiled_by, by_spoiled}
use Rattle.promises.proofs.Histories.{never_at, never_less, never_or_not, told, find_latest, latest_one}

-- the same word is the same entry
abbrev pub OneWord : (GuestAddress → EntryNumber) → Type 0
OneWord entry = (a b : GuestAddress) → SameWord a b → entry a ≡ entry b

-- RISC-V's words and the written rule's say the same of a history
none_never : (P : Record → Type 0) (h : History) → NoneIs P h → Never P h
none_never P [] none = tt
none_never P (r ∷ h) none = (none.0, none_never P h none.1)

never_none : (P : Record → Type 0) (h : History) → Never P h → NoneIs P h
never_none P [] none = tt
never_none P (r ∷ h) none = (none.0, never_none P h none.1)

abbrev as_ll : {c : ℕ} {h : History} → LatestLr c h → LatestLl c h
as_ll {c} l = record { since = l.since; ll = l.lr; before = l.before; split = l.split; by_core = l.by_hart; latest = none_never (LrOf c) l.since l.latest }

-- what succeeds by the written rule is nothing that must fail
pub may_succeed : (entry : GuestAddress → EntryNumber) → OneWord entry → (c : ℕ) (a : GuestAddress) (h : History) → Succeeds entry c a h → MustFail c a h → ⊥
may_succeed entry one c a h s (no_lr none) = never_at (LlBy c) s.done.since s.done.ll s.done.before (subst (Never (LlBy c)) s.done.split (none_never (LrOf c) h none)) s.done.by_core
may_succeed entry one c a h s (outside lr far) = far (ap (λ (r : Record). r.address.0 / 4) (latest_one c h (as_ll lr) s.done).1 ∙ ap (λ (b : GuestAddress). b.0 / 4) s.there)
may_succeed entry one c a h s (stored_to lr some) =
    some (never_none (StoreOfAnother c lr.lr.address) lr.since (subst (Never (StoreOfAnother c lr.lr.address)) (sym (latest_one c h (as_ll lr) s.done).0)
    (never_less (SpoiledBy entry c a) (StoreOfAnother c lr.lr.address) spoils_it s.done.since s.unspoiled)))
  where
    at : lr.lr.address ≡ a
    at = ap (λ (r : Record). r.address) (latest_one c h (as_ll lr) s.done).1 ∙ s.there

    spoils_it : (r : Record) → StoreOfAnother c lr.lr.address r → SpoiledBy entry c a r
    spoils_it r t = (t.0, inr t.1, one r.address lr.lr.address t.2 ∙ ap entry at)
may_succeed entry one c a h s (another_sc lr some) = some (never_none (ScOf c) lr.since (subst (Never (ScBy c)) (sym (latest_one c h (as_ll lr) s.done).0) s.no_sc))

-- what fails by the written rule has a cause
pub has_cause : (entry : GuestAddress → EntryNumber) (c : ℕ) (a : GuestAddress) (h : History) → (Succeeds entry c a h → ⊥) → Cause entry c a h
has_cause entry c a h fails = ⊎_elim (λ none. no_link (λ k. unlinked none k)) latest (find_latest c h)
  where
    unlinked : Never (LlBy c) h → Linked c h → ⊥
    unlinked none k = never_at (LlBy c) k.last.since k.last.ll k.last.before (subst (Never (LlBy c)) k.last.split none) k.last.by_core

    linked : Linked c h → Cause entry c a h
    linked k = go (eqb k.last.ll.address.0 a.0) refl (never_or_not (SpoiledBy entry c a) (λ r. told (spoils entry c a r) (spoiled_by entry c a r) (by_spoiled entry c a r)) k.last.since)
      where
        same : eqb k.last.ll.address.0 a.0 ≡ true → k.last.ll.address ≡ a
        same e = λ i. record { 0 = eqb-true k.last.ll.address.0 a.0 e i }

        go : (t : Bool) → eqb k.last.ll.address.0 a.0 ≡ t → Never (SpoiledBy entry c a) k.last.since ⊎ (Never (SpoiledBy entry c a) k.last.since → ⊥) → Cause entry c a h
        go false e v = elsewhere k (λ p. eqb-false k.last.ll.address.0 a.0 e (ap (λ (b : GuestAddress). b.0) p))
        go true e (inr v) = spoiled k (same e) v
        go true e (inl v) = absurd (fails (record { done = k.last; there = same e; no_sc = k.no_sc; unspoiled = v }))

    latest : LatestLl c h → Cause entry c a h
    latest l = ⊎_elim (λ u. linked (record { last = l; no_sc = u })) (λ u. no_link (λ k. u (subst (Never (ScBy c)) (latest_one c h k.last l).0 k.no_sc)))
        (never_or_not (ScBy c) (λ r. told (own_sc c r) (sc_by c r) (by_sc c r)) l.since)

-- a record's kind tells that an sc was judged, and how
abbrev JudgedAs : ℕ → Bool → Type 0
JudgedAs kind succeeded = (kind ≡ kind_number Kinds.Success → succeeded ≡ true) × (kind ≡ kind_number Kinds.Failure → succeeded ≡ false)

-- every access of a reference was judged by the rule from what was before it
abbrev Judged : (GuestAddress → EntryNumber) → History → Type 0
Judged entry [] = Unit {0}
Judged entry (r ∷ h) = JudgedAs r.kind (succeeds entry r.core r.address h) × Judged entry h

-- by the row of the kind: an sc's alone ends its core's link, and that of one that succeeds writes
judged_row : (kind : ℕ) (succeeded : Bool) (row : KindRule) → rule_at kind ≡ row → (unlinking row.link ≡ true → writing row.memory ≡ succeeded) → JudgedAs kind succeeded
judged_row kind succeeded row e told = (judged_by Kinds.Success refl, judged_by Kinds.Failure refl)
  where
    judged_by : (k : Kind) → unlinking (rule_of k).link ≡ true → kind ≡ kind_number k → succeeded ≡ writing (rule_of k).memory
    judged_by k ends p =
        let same : row ≡ rule_of k = sym e ∙ ap rule_at p ∙ rule_numbered k in
        sym (told (ap (λ (r : KindRule). unlinking r.link) same ∙ ends)) ∙ ap (λ (r : KindRule). writing r.memory) same

-- a whole operation's access
judged_whole : (entry : GuestAddress → EntryNumber) (ref : Reference) (c : ℕ) (o : Operation) → JudgedAs (finish entry ref c o).access.kind (succeeds entry (finish entry ref c o).access.core (finish entry ref c o).access.address ref.history)
unfolding finish
judged_whole entry ref c o = go (shape o) refl
  where
    row : (s : Shape) (passed : Bool) → shape o ≡ s → rule_at (kind_of (code_of o) passed) ≡ shape_rule (Some s) passed
    row s passed e = rule_made o passed ∙ ap (λ (t : Shape). shape_rule (Some t) passed) e

    sc : (t : Bool) → succeeds entry c (address_of o) ref.history ≡ t → shape o ≡ Locks Sc
        → JudgedAs (if t then write_done ref c o true (Answered.Sc 0) else sc_failed ref c o).access.kind (succeeds entry (if t then write_done ref c o true (Answered.Sc 0) else sc_failed ref c o).access.core (if t then write_done ref c o true (Answered.Sc 0) else sc_failed ref c o).access.address ref.history)
    sc true p e = judged_row (kind_of (code_of o) true) (succeeds entry c (address_of o) ref.history) (sc_rule true) (row (Locks Sc) true e) (λ u. sym p)
    sc false p e = judged_row (kind_of (code_of o) false) (succeeds entry c (address_of o) ref.history) (sc_rule false) (row (Locks Sc) false e) (λ u. sym p)

    go : (s : Shape) → shape o ≡ s → JudgedAs (finish_by s entry ref c o).access.kind (succeeds entry (finish_by s entry ref c o).access.core (finish_by s entry ref c o).access.address ref.history)
    go Load e = judged_row _ _ (rule_of Kinds.Load) (row Load false e) (λ u. absurd (false≢true u))
    go (Locks Ll) e = judged_row _ _ (rule_of Kinds.Ll) (row (Locks Ll) false e) (λ u. absurd (false≢true u))
    go (Locks Store) e = judged_row _ _ (rule_of Kinds.Store) (row (Locks Store) false e) (λ u. absurd (false≢true u))
    go (Locks Sc) e = sc (succeeds entry c (address_of o) ref.history) refl e

judged : (entry : GuestAddress → EntryNumber) (zeros : List ℕ) (ws : List Whole) → Judged entry (refer entry zeros ws).history
unfolding refer
judged entry zeros [] = tt
judged entry zeros (does c o ∷ ws) = (judged_whole entry (refer entry zeros ws) c o, judged entry zeros ws)
judged entry zeros (pokes a v ∷ ws) = (judged_row (kind_number Kinds.Poke) _ (rule_of Kinds.Poke) (rule_numbered Kinds.Poke) (λ u. absurd (false≢true u)), judged entry zeros ws)

judged_at : (entry : GuestAddress → EntryNumber) (later : History) (r : Record) (earlier : History) → Judged entry (later ++ r ∷ earlier)
    → JudgedAs r.kind (succeeds entry r.core r.address earlier)
judged_at entry [] r earlier j = j.0
judged_at entry (q ∷ later) r earlier j = judged_at entry later r earlier j.1

-- in a run from a fresh machine
pub one_word : (fresh : Outcome) → Fresh fresh → OneWord (entry_rule fresh)
one_word fresh f a b same = entry_laws.one_word fresh.called.machine.entries a b (sizes_fit_lem fresh.called.machine (started_inv fresh f).sound.ranges).entries same

module _ (fresh : Outcome) (f : Fresh fresh) (calls : List Call) (r : Record) (earlier : History) (at : At fresh calls r earlier) where
  judged_here : JudgedAs r.kind (succeeds (entry_rule fresh) r.core r.address earlier)
  judged_here =
      judged_at (entry_rule fresh) at.later r earlier
      (subst (Judged (entry_rule fresh)) (sym (run_inv fresh f calls).history ∙ at.split) (judged (entry_rule fresh) fresh.memory (in_order fresh calls)))

pub no_forbidden_success : NoForbiddenSuccess
no_forbidden_success fresh f calls r earlier at k =
    may_succeed (entry_rule fresh) (one_word fresh f) r.core r.address earlier (decided (entry_rule fresh) r.core r.address earlier ((judged_here fresh f calls r earlier at).0 k))

pub named_cause : NamedCause
named_cause fresh f calls r earlier at k =
    has_cause (entry_rule fresh) r.core r.address earlier (λ s. true≢false (sym (decides (entry_rule fresh) r.core r.address earlier s) ∙ (judged_here fresh f calls r earlier at).1 k))
