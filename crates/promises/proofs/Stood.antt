-- How the table stands in a run: from the invariant.
-- Assumes nothing.
use Rattle.std.proofs.Common.{Err, if◌then◌else◌}
use mathlib.Core.Path.{◌≡◌, refl, sym, ap, subst, ◌∙◌}
use mathlib.Core.Bool.{Bool, true, false, not, ◌&&◌}
use mathlib.Core.List.{List}
use Prim.Native.Nat.{ℕ, ◌%◌, ◌≤◌}
use native.Mathlib.Omega.{arith}
use lib.ListN.{length, get_or}
use lib.Dec.{leb, eqb}
use borrow.Author.Tests.{eqb-true, eqb-false, eq-eqb, ne_eqb, le-ltb, leb-true}
use Rattle.rules.specs.Sizes.{written}
use Rattle.rules.specs.Entry.{entry_of}
use Rattle.rules.specs.Operations.{code_of, address_of, shape_of, a_load}
use Rattle.rules.specs.Ranges.{core_at, damaged}
use Rattle.rules.specs.Refusals.{Tested, no_refusal, number_in}
use Rattle.rules.specs.declared.refusals.Refusal.TheVariants.{NoSuchCore, Unaligned, Outside, Damaged, Busy, Idle}
use Rattle.rules.specs.Calls.{Outcome, address_refusal, entry_at, mark_at, give_refusal, step_refusal, word_refusal}
use Rattle.rules.specs.History.{Link, link_of}
use Rattle.rules.specs.Runs.{Call, give, step, poke, Fresh, act, after, records, given_to, delivered_to, in_order, entry_rule}
use Rattle.rules.specs.declared.entry.GuestAddress.{GuestAddress}
use Rattle.rules.specs.declared.operations.Operation.{Operation}
use Rattle.rules.specs.declared.cores.Core.{Core}
use Rattle.rules.proofs.Accepted.{lent}
use Rattle.rules.proofs.Numbers.{of_both, give_number, step_number, poke_number}
use Rattle.rules.proofs.Phases.{Locked, shape_at, Phase, rests, loads, asks, holds, reaches, ends, picture}
use Rattle.rules.proofs.Running.{CoreOk, Inv}
use Rattle.rules.proofs.Invariant.{run_inv}
use Rattle.promises.specs.Standing.{Inside, Stands, Standing}

-- numbers that are none of 4, 5 and 6
abbrev Mild : ℕ → Type 0
Mild k = (k ≡ 4 → ⊥) × (k ≡ 5 → ⊥) × (k ≡ 6 → ⊥)

-- tests that give no such refusal
abbrev MildTest : Tested → Type 0
MildTest t = Mild (number_in t)

mild : (t : Tested) → eqb (number_in t) 4 ≡ false → eqb (number_in t) 5 ≡ false → eqb (number_in t) 6 ≡ false → MildTest t
mild t p q r = (eqb-false _ 4 p, eqb-false _ 5 q, eqb-false _ 6 r)

mild_address : (bytes : ℕ) (a : GuestAddress) → MildTest (address_refusal bytes a)
mild_address bytes a = of_both MildTest (not (eqb (a.0 % 4) 0)) (mild (Err Unaligned) refl refl refl) (of_both MildTest (leb bytes a.0) (mild (Err Outside) refl refl refl) (mild no_refusal refl refl refl))

-- an entry that is not damaged
and_if : (a b : Bool) → (a ≡ true → b ≡ false) → a && b ≡ false
and_if true b f = f refl
and_if false b f = refl

not_damaged : (count me : ℕ) (c : Core) (owner holder : ℕ) → owner ≤ count → holder ≤ count → (2 ≤ c.next → holder ≡ written me) → (c.next ≡ 1 → holder ≡ written me → ⊥)
    → damaged count me c owner holder ≡ false
unfolding damaged
not_damaged count me c owner holder os hs held open' =
    and_if (not (a_load (shape_of c.operation))) _ (λ p.
    rw (
      le-ltb count owner os,
      le-ltb count holder hs,
      and_if (leb 2 c.next) (not (eqb holder (written me))) (λ q. rw (eq-eqb holder (written me) (held (leb-true 2 c.next q)))),
      and_if (eqb c.next 1) (eqb holder (written me)) (λ q. ne_eqb holder (written me) (open' (eqb-true c.next 1 q))),
    ))

-- what a phase's picture shows
code_locked : (l : Locked) → a_load (shape_of (code_of l.operation)) ≡ false
code_locked l = rw (shape_at l)

link_shown : (p : Phase) (k : Link) → ((picture p k).linked ≡ k.linked) × ((picture p k).link ≡ k.link)
link_shown rests k = (refl, refl)
link_shown (loads l) k = (refl, refl)
link_shown (asks l) k = (refl, refl)
link_shown (holds l) k = (refl, refl)
link_shown (reaches l passed) k = (refl, refl)
link_shown (ends l passed read) k = (refl, refl)

module _ (fresh : Outcome) (f : Fresh fresh) (calls : List Call) where
  abbrev o : Outcome
  o = after fresh calls

  abbrev n : ℕ
  n = fresh.called.machine.entries

  inv : Inv n fresh.memory o (records fresh calls) (in_order fresh calls) (λ i. given_to fresh i calls) (λ i. delivered_to fresh i calls)
  inv = run_inv fresh f calls

  abbrev Ok : ℕ → Phase → Type 0
  Ok i p = CoreOk n fresh.memory o (records fresh calls) (in_order fresh calls) i p (given_to fresh i calls) (delivered_to fresh i calls)

  -- a holder is inside, and who is inside holds
  inside_shown : (i e : ℕ) (p : Phase) → Ok i p → get_or o.holders e 0 ≡ written i → Inside fresh (picture p (link_of i (records fresh calls))) e
  inside_shown i e rests ok q = absurd (ok.held e q)
  inside_shown i e (loads l) ok q = absurd (ok.held e q)
  inside_shown i e (asks l) ok q = absurd (ok.held e q)
  inside_shown i e (holds l) ok q = record { busy = refl; locked = code_locked l; from_2 = omega arith; here = ok.held e q }
  inside_shown i e (reaches l passed) ok q = record { busy = refl; locked = code_locked l; from_2 = omega arith; here = ok.held e q }
  inside_shown i e (ends l passed read) ok q = record { busy = refl; locked = code_locked l; from_2 = omega arith; here = ok.held e q }

  holds_shown : (i e : ℕ) (p : Phase) → Ok i p → 2 ≤ (picture p (link_of i (records fresh calls))).next → (entry_rule fresh (picture p (link_of i (records fresh calls))).address).0 ≡ e
      → get_or o.holders e 0 ≡ written i
  holds_shown i e rests ok from here = absurd (omega arith)
  holds_shown i e (loads l) ok from here = absurd (omega arith)
  holds_shown i e (asks l) ok from here = absurd (omega arith)
  holds_shown i e (holds l) ok from here = ap (λ (j : ℕ). get_or o.holders j 0) (sym here) ∙ ok.table.0
  holds_shown i e (reaches l passed) ok from here = ap (λ (j : ℕ). get_or o.holders j 0) (sym here) ∙ ok.table.0
  holds_shown i e (ends l passed read) ok from here = ap (λ (j : ℕ). get_or o.holders j 0) (sym here) ∙ ok.table.0

  -- who has not taken the lock does not hold it
  outside_shown : (i e : ℕ) (p : Phase) → Ok i p → (picture p (link_of i (records fresh calls))).next ≡ 1 → get_or o.holders e 0 ≡ written i → ⊥
  outside_shown i e rests ok one q = ok.held e q
  outside_shown i e (loads l) ok one q = ok.held e q
  outside_shown i e (asks l) ok one q = ok.held e q
  outside_shown i e (holds l) ok one q = eqb-false 2 1 refl one
  outside_shown i e (reaches l passed) ok one q = eqb-false 3 1 refl one
  outside_shown i e (ends l passed read) ok one q = eqb-false 4 1 refl one

  holder_is_inside : (e i : ℕ) → get_or o.holders e 0 ≡ written i → Inside fresh (core_at o.called.machine i) e
  holder_is_inside e i q = subst (λ (y : Core). Inside fresh y e) (sym (inv.cores i).core) (inside_shown i e (inv.phase i) (inv.cores i) q)

  inside_is_holder : (e i : ℕ) → Inside fresh (core_at o.called.machine i) e → get_or o.holders e 0 ≡ written i
  inside_is_holder e i q = let r = subst (λ (y : Core). Inside fresh y e) (inv.cores i).core q in holds_shown i e (inv.phase i) (inv.cores i) r.from_2 r.here

  -- the entry of a core that is at a locked operation is whole
  whole : (c : ℕ)
      → damaged o.called.machine.count c (core_at o.called.machine c) (mark_at o.owners (entry_at o.called.machine c)) (mark_at o.holders (entry_at o.called.machine c)) ≡ false
  whole c =
      let e = (entry_at o.called.machine c).0 in
      let core = (inv.cores c).core in
      let here : (entry_rule fresh (core_at o.called.machine c).address).0 ≡ e = ap (λ (k : ℕ). (entry_of k (core_at o.called.machine c).address).0) (sym inv.same) in
      not_damaged o.called.machine.count c (core_at o.called.machine c) (get_or o.owners e 0) (get_or o.holders e 0) (inv.owners_small e) (inv.holders_small e)
      (λ from. holds_shown c e (inv.phase c) (inv.cores c) (subst (λ (y : Core). 2 ≤ y.next) core from) (subst (λ (y : Core). (entry_rule fresh y.address).0 ≡ e) core here))
      (λ one. outside_shown c e (inv.phase c) (inv.cores c) (subst (λ (y : Core). y.next ≡ 1) core one))

  mild_step : (c : ℕ) → MildTest (step_refusal o.called.machine (length o.memory) o.owners o.holders c)
  unfolding step_refusal
  mild_step c =
      rw (inv.sound.ranges, inv.sound.lengths)
      (of_both MildTest (leb o.called.machine.count c) (mild (Err NoSuchCore) refl refl refl) (busy_or_not (core_at o.called.machine c).busy refl))
    where
      busy_or_not : (t : Bool) → (core_at o.called.machine c).busy ≡ t → MildTest (if not (core_at o.called.machine c).busy then Err Idle
          else if damaged o.called.machine.count c (core_at o.called.machine c) (mark_at o.owners (entry_at o.called.machine c)) (mark_at o.holders (entry_at o.called.machine c)) then Err Damaged else no_refusal)
      busy_or_not true e = rw (e, whole c) (mild no_refusal refl refl refl)
      busy_or_not false e = rw e (mild (Err Idle) refl refl refl)

  mild_give : (c : ℕ) (op : Operation) → MildTest (give_refusal o.called.machine c op)
  unfolding give_refusal
  mild_give c op =
      rw inv.sound.ranges
      (of_both MildTest (leb o.called.machine.count c) (mild (Err NoSuchCore) refl refl refl) (of_both MildTest (core_at o.called.machine c).busy (mild (Err Busy) refl refl refl) (mild_address o.called.machine.bytes (address_of op))))

  mild_poke : (a : GuestAddress) → MildTest (word_refusal o.called.machine (length o.memory) a)
  unfolding word_refusal
  mild_poke a =
      let l = lent o.called.machine (length o.memory) (length o.owners) (length o.holders) inv.sound.lengths in
      rw (inv.sound.ranges, eq-eqb (length o.memory) o.called.machine.bytes l.memory_length) (mild_address o.called.machine.bytes a)

  mild_call : (call : Call) → Mild (number_in (act o call).called.answer)
  unfolding act
  mild_call (give c op) = subst Mild (sym (give_number o.called.machine c op)) (mild_give c op)
  mild_call (step c) = subst Mild (sym (step_number o.called.machine o.memory o.owners o.holders c)) (mild_step c)
  mild_call (poke a v) = subst Mild (sym (poke_number o.called.machine o.memory a v)) (mild_poke a)

  stands : Stands fresh calls
  stands =
      record {
        never_4 = λ call. (mild_call call).0;
        never_5 = λ call. (mild_call call).1;
        never_6 = λ call. (mild_call call).2;
        holder_inside = holder_is_inside;
        inside_holder = inside_is_holder;
        owner_marks = inv.free;
        links = λ i.
            let s = link_shown (inv.phase i) (link_of i (records fresh calls)) in
            (ap (λ (y : Core). y.linked) (inv.cores i).core ∙ s.0, ap (λ (y : Core). y.link) (inv.cores i).core ∙ s.1);
      }

pub standing : Standing
standing = stands
