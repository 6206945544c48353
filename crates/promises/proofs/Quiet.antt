-- What adds nothing to a run's history: a call that is refused, and a step that waits. And a poke, which adds itself alone, writes its word and ends no link.
-- Assumes nothing.
use Rattle.std.proofs.Common.{◌≡◌, ℕ, Bool, true, false, not, eqb, List, Option, Some, None, Result, Ok, Err, length, refl, sym, ap, ◌∙◌, true≢false}
use Rattle.rules.specs.Kinds.{poke_core, rule_at, kind_at}
use Rattle.rules.specs.Word.{read_word, write_word}
use Rattle.rules.specs.Operations.{shape_of}
use Rattle.rules.specs.Ranges.{core_at}
use Rattle.rules.specs.Life.{micro_step, step_by, lock_step, mark_step, access_step, load_step}
use Rattle.rules.specs.Refusals.{no_refusal, number_in}
use Rattle.rules.specs.Calls.{Outcome, outcome, entry_at, mark_at, step_refusal, step_of, stepped, micro_step_at, word_refusal, poke_of, poke_record}
use Rattle.rules.specs.History.{succeeds}
use Rattle.rules.specs.Runs.{Call, give, step, poke, act, after, handed, records, in_order}
use Rattle.rules.specs.declared.entry.GuestAddress.{GuestAddress}
use Rattle.rules.specs.declared.operations.Operation.{Operation}
use Rattle.rules.specs.declared.operations.Shape.{Shape}
use Rattle.rules.specs.declared.operations.Shape.TheVariants.{Load, Locks}
use Rattle.rules.specs.declared.operations.Locking.{Locking}
use Rattle.rules.specs.declared.operations.Locking.TheVariants.{Ll, Store, Sc}
use Rattle.rules.specs.declared.answers.Answer.{Answer}
use Rattle.rules.specs.declared.answers.Answer.TheVariants.{Ready, Taken, Moved, Waits, Done, Poked, Word}
use Rattle.rules.specs.declared.refusals.Refusal.{Refusal}
use Rattle.rules.specs.declared.cores.Core.{Core}
use Rattle.rules.specs.declared.cores.MicroStep.{MicroStep}
use Rattle.rules.proofs.Accepted.{word_accepted, word_lent}
use Rattle.rules.proofs.Bools.{and_false}
use Rattle.rules.proofs.Numbers.{of_both, by_tested, not_refused, poke_number}
use Rattle.rules.proofs.Words.{word_laws}
use Rattle.rules.proofs.Lawful.{refusal_laws}
use Rattle.promises.specs.Demand3.{AddsNothing, NotInHistory, RefusedAndWaiting, PokeWrites, PokeEndsNoLink}

-- a refused call makes no record
pub step_silent : (o : Outcome) (core : ℕ) → (number_in (act o (step core)).called.answer ≡ 0 → ⊥) → (act o (step core)).called.made ≡ None
unfolding act
step_silent o core d = (refusal_laws.step_as_found o.called.machine o.memory o.owners o.holders core d).no_record

pub poke_silent : (o : Outcome) (a : GuestAddress) (v : ℕ) → (number_in (act o (poke a v)).called.answer ≡ 0 → ⊥) → (act o (poke a v)).called.made ≡ None
unfolding act
poke_silent o a v d = (refusal_laws.poke_as_found o.called.machine o.memory a v o.owners o.holders d).no_record

give_silent : (o : Outcome) (core : ℕ) (op : Operation) → (number_in (act o (give core op)).called.answer ≡ 0 → ⊥) → (act o (give core op)).called.made ≡ None
unfolding act
give_silent o core op d = (refusal_laws.give_as_found o.called.machine core op o.memory o.owners o.holders d).no_record

refused_silent : (o : Outcome) (call : Call) → (number_in (act o call).called.answer ≡ 0 → ⊥) → (act o call).called.made ≡ None
refused_silent o (give core op) = give_silent o core op
refused_silent o (step core) = step_silent o core
refused_silent o (poke a v) = poke_silent o a v

-- a micro-step that waits makes none
abbrev waiting : Answer → Bool
waiting Ready = false
waiting Taken = false
waiting Moved = false
waiting Waits = true
waiting (Done d) = false
waiting Poked = false
waiting (Word v) = false

abbrev Silent : MicroStep → Type 0
Silent s = waiting s.answer ≡ true → s.made ≡ None

not_waiting : {A : Type 0} → false ≡ true → A
not_waiting e = absurd (true≢false (sym e))

waits_silent : (me : ℕ) (c : Core) (owner holder word : ℕ) → Silent (micro_step me c owner holder word)
unfolding micro_step load_step lock_step mark_step access_step
waits_silent me c owner holder word = go (shape_of c.operation)
  where
    mark : (l : Locking) → Silent (mark_step l me c owner holder)
    mark Ll e = refl
    mark Store e = refl
    mark Sc e = refl

    access : (l : Locking) → Silent (access_step l me c owner holder word)
    access Ll e = not_waiting e
    access Store e = not_waiting e
    access Sc e = not_waiting e

    go : (s : Option Shape) → Silent (step_by s me c owner holder word)
    go None = λ e. refl
    go (Some Load) = λ e. not_waiting e
    go (Some (Locks l)) =
        of_both Silent (eqb c.next 1) (of_both Silent (eqb holder 0) (λ e. refl) (λ e. refl))
        (of_both Silent (eqb c.next 2) (mark l) (of_both Silent (eqb c.next 3) (access l) (λ e. refl)))

-- a step that waits makes none, and a refused one does not wait
abbrev waited : Result Answer Refusal → Bool
waited (Ok answer) = waiting answer
waited (Err refusal) = false

module _ (o : Outcome) (c : ℕ) where
  abbrev micro : MicroStep
  micro = micro_step c (core_at o.called.machine c) (mark_at o.owners (entry_at o.called.machine c)) (mark_at o.holders (entry_at o.called.machine c)) (read_word o.memory (core_at o.called.machine c).address)

  step_done : step_refusal o.called.machine (length o.memory) o.owners o.holders c ≡ no_refusal → ((act o (step c)).called.answer ≡ Ok micro.answer) × ((act o (step c)).called.made ≡ micro.made)
  unfolding act step_of stepped micro_step_at
  step_done z = rw z (refl, refl)

  step_refused : (r : Refusal) → step_refusal o.called.machine (length o.memory) o.owners o.holders c ≡ Err r → (act o (step c)).called.answer ≡ Err r
  unfolding act step_of
  step_refused r z = rw z

  step_waits : (act o (step c)).called.answer ≡ Ok Waits → (act o (step c)).called.made ≡ None
  step_waits e =
      by_tested ((act o (step c)).called.made ≡ None) (step_refusal o.called.machine (length o.memory) o.owners o.holders c)
      (λ z. let d = step_done z in d.1 ∙ waits_silent c (core_at o.called.machine c) _ _ _ (ap waited (sym d.0 ∙ e)))
      (λ r z. not_waiting (ap waited (sym (step_refused r z) ∙ e)))

-- so neither adds to the records, nor to the whole operations
module _ (fresh : Outcome) (calls : List Call) where
  silent_adds : (call : Call) → (act (after fresh calls) call).called.made ≡ None → AddsNothing fresh calls call
  unfolding records in_order
  silent_adds (give core op) e = record { no_record = rw e; no_operation = refl }
  silent_adds (step core) e = record { no_record = rw e; no_operation = rw e }
  silent_adds (poke a v) e = record { no_record = rw e; no_operation = rw e }

  not_in_history : NotInHistory fresh calls
  not_in_history =
      record {
        refused = λ call d. silent_adds call (refused_silent (after fresh calls) call d);
        waited = λ c e. silent_adds (step c) (step_waits (after fresh calls) c e);
      }

pub refused_and_waiting : RefusedAndWaiting
refused_and_waiting = not_in_history

-- a poke
poke_accepted : (o : Outcome) (a : GuestAddress) (v : ℕ) → number_in (act o (poke a v)).called.answer ≡ 0 → word_refusal o.called.machine (length o.memory) a ≡ no_refusal
unfolding act
poke_accepted o a v n = not_refused _ (sym (poke_number o.called.machine o.memory a v) ∙ n)

module _ (o : Outcome) (a : GuestAddress) (v : ℕ) (z : word_refusal o.called.machine (length o.memory) a ≡ no_refusal) where
  poke_done : act o (poke a v) ≡ outcome (record { answer = Ok Poked; made = Some (poke_record a v); machine = o.called.machine }) (write_word o.memory a v) o.owners o.holders
  unfolding act poke_of
  poke_done = rw z

pub poke_writes : PokeWrites
unfolding after records
poke_writes fresh calls a v n =
    let o = after fresh calls in
    let z : word_refusal o.called.machine (length o.memory) a ≡ no_refusal = poke_accepted o a v n in
    let w = word_accepted o.called.machine (length o.memory) a z in
    let d = poke_done o a v z in
    let memory : (act o (poke a v)).memory ≡ write_word o.memory a v = ap (λ (x : Outcome). x.memory) d in
    record {
      writes = memory;
      read_back = λ small. ap (λ (m : List ℕ). read_word m a) memory ∙ word_laws.read_back o.memory a v small (word_lent w);
      others_stay = λ b aligned apart. ap (λ (m : List ℕ). read_word m b) memory ∙ word_laws.others_stay o.memory a b v w.address.aligned aligned apart;
      an_access = ap (λ (x : Outcome). handed x.called.made (records fresh calls)) d;
      cores_stay = ap (λ (x : Outcome). x.called.machine) d;
      owners_stay = ap (λ (x : Outcome). x.owners) d;
      holders_stay = ap (λ (x : Outcome). x.holders) d;
    }

pub poke_ends_no_link : PokeEndsNoLink
unfolding succeeds rule_at kind_at
poke_ends_no_link entry c a b v h = rw (and_false (eqb poke_core c), and_false (not (eqb poke_core c)))
