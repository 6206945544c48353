-- The laws of specs/Laws.antt, proved.
-- Assumes nothing.
use Rattle.std.proofs.Common.{◌≡◌, ℕ, ◌%◌, true, List, Result, Ok, Err, length, replicate, sym, refl, ap, ◌∙◌, length-set, eq-eqb}
use lib.ListN.{length-replicate}
use Rattle.rules.specs.Entry.{entry_of}
use Rattle.rules.specs.Word.{read_word, write_word}
use Rattle.rules.specs.Life.{idle, given}
use Rattle.rules.specs.Ranges.{core_at}
use Rattle.rules.specs.Refusals.{Tested, no_refusal, refusal_number, number_in, unless_refused}
use Rattle.rules.specs.Calls.{Outcome, outcome, PokeOutcome, poke_outcome, refused, answered, all_idle, lent_fits, entry_at, mark_at, started, taken, stepped, micro_step_at, poked, start_refusal, give_refusal, step_refusal, word_refusal, start_of, give_of, step_of, poke_of, show_of}
use Rattle.rules.specs.Laws.{EntryLaws, AsFound, RefusalLaws, Sound, RangeLaws, OneOutcome}
use Rattle.rules.specs.declared.entry.GuestAddress.{GuestAddress}
use Rattle.rules.specs.declared.operations.Operation.{Operation}
use Rattle.rules.specs.declared.answers.Answer.{Answer}
use Rattle.rules.specs.declared.refusals.Refusal.{Refusal}
use Rattle.rules.specs.declared.answers.Answer.TheVariants.{Word}
use Rattle.rules.specs.declared.state.Machine.{Machine}
use Rattle.rules.specs.declared.state.Called.{Called}
use Rattle.rules.proofs.Accepted.{entry_below, core_small, core_fits_lem, lent, StartAccepted, start_accepted, GiveAccepted, give_accepted, StepAccepted, step_accepted, WordAccepted, word_accepted}
use Rattle.rules.proofs.Numbers.{of_both, refusals_numbered}
use Rattle.rules.proofs.Words.{word_laws}
use Rattle.rules.proofs.Kept.{fresh_fits, micro_kept, given_kept, machine_kept}

pub entry_laws : EntryLaws entry_of
unfolding entry_of
entry_laws = record { below = entry_below; one_word = λ entries a b fit e. λ i. record { 0 = e i % entries } }

-- what holds of a call that is refused, and of one that is not, from what its rule does in either case
if_refused : {A : Type 0} (answer : A → Result Answer Refusal) (P : A → Type 0) (t : Tested) (refusal : Refusal → A) (done : A)
    → number_in (answer done) ≡ 0 → ((r : Refusal) → P (refusal r)) → (number_in (answer (unless_refused t refusal done)) ≡ 0 → ⊥) → P (unless_refused t refusal done)
if_refused answer P (Ok u) refusal done quiet holds not-zero = absurd (not-zero quiet)
if_refused answer P (Err r) refusal done quiet holds not-zero = holds r

if_accepted : {A : Type 0} (answer : A → Result Answer Refusal) (P : A → Type 0) (t : Tested) (refusal : Refusal → A) (done : A)
    → ((r : Refusal) → number_in (answer (refusal r)) ≡ refusal_number r) → (t ≡ no_refusal → P done) → number_in (answer (unless_refused t refusal done)) ≡ 0 → P (unless_refused t refusal done)
if_accepted answer P (Ok u) refusal done loud holds zero = holds refl
if_accepted answer P (Err r) refusal done loud holds zero = absurd (refusals_numbered r (sym (loud r) ∙ zero))

as_found : (k : Refusal) (m : Machine) (memory owners holders : List ℕ) → AsFound (outcome (refused k m) memory owners holders) m memory owners holders
as_found k m memory owners holders =
    record { machine_as_found = refl; memory_as_found = refl; owners_as_found = refl; holders_as_found = refl; no_record = refl; no_value = refl }

pub refusal_laws : RefusalLaws
unfolding start_of give_of step_of stepped micro_step_at poke_of show_of
refusal_laws =
    record {
      start_as_found = λ count memory owners holders.
          if_refused (λ (o : Outcome). o.called.answer) (λ (o : Outcome). AsFound o (all_idle 0 0 0) memory owners holders) (start_refusal count (length memory) (length owners) (length holders))
          (λ k. outcome (refused k (all_idle 0 0 0)) memory owners holders) (started count memory owners holders) refl (λ k. as_found k (all_idle 0 0 0) memory owners holders);
      give_as_found = λ m core o memory owners holders.
          if_refused (λ (r : Called). r.answer) (λ (r : Called). AsFound (outcome r memory owners holders) m memory owners holders) (give_refusal m core o)
          (λ k. refused k m) (taken m core o) refl (λ k. as_found k m memory owners holders);
      step_as_found = λ m memory owners holders core.
          if_refused (λ (o : Outcome). o.called.answer) (λ (o : Outcome). AsFound o m memory owners holders) (step_refusal m (length memory) owners holders core)
          (λ k. outcome (refused k m) memory owners holders) (stepped m memory owners holders core (micro_step_at m memory owners holders core))
          refl (λ k. as_found k m memory owners holders);
      poke_as_found = λ m memory a value owners holders.
          if_refused (λ (o : PokeOutcome). o.called.answer) (λ (o : PokeOutcome). AsFound (outcome o.called o.memory owners holders) m memory owners holders) (word_refusal m (length memory) a)
          (λ k. poke_outcome (refused k m) memory) (poked m memory a value) refl (λ k. as_found k m memory owners holders);
      show_as_found = λ m memory a owners holders.
          if_refused (λ (r : Called). r.answer) (λ (r : Called). AsFound (outcome r memory owners holders) m memory owners holders) (word_refusal m (length memory) a)
          (λ k. refused k m) (answered (Word (read_word memory a)) m) refl (λ k. as_found k m memory owners holders);
    }

-- lengths that are the state's
same_lengths : (m : Machine) (memory owners holders : ℕ) → memory ≡ m.bytes → owners ≡ m.entries → holders ≡ m.entries → lent_fits m memory owners holders ≡ true
same_lengths m memory owners holders p q r = rw (eq-eqb _ _ p, eq-eqb _ _ q, eq-eqb _ _ r)

module _ (count : ℕ) (memory owners holders : List ℕ) where
  started_if : (P : Outcome → Type 0) → (StartAccepted count (length memory) (length owners) (length holders) → P (started count memory owners holders))
      → number_in (start_of count memory owners holders).called.answer ≡ 0 → P (start_of count memory owners holders)
  unfolding start_of
  started_if P holds =
      if_accepted (λ (o : Outcome). o.called.answer) P (start_refusal count (length memory) (length owners) (length holders)) (λ k. outcome (refused k (all_idle 0 0 0)) memory owners holders)
      (started count memory owners holders) (λ r. refl) (λ z. holds (start_accepted count (length memory) (length owners) (length holders) z))

  pub started_sound : StartAccepted count (length memory) (length owners) (length holders) → Sound (started count memory owners holders)
  started_sound a =
      record {
        ranges = fresh_fits count (length memory) (length owners) a.cores a.bytes a.entries;
        lengths = same_lengths (all_idle count (length memory) (length owners)) (length (replicate (length memory) 0)) (length (replicate (length owners) 0)) (length (replicate (length holders) 0))
            (length-replicate (length memory) 0) (length-replicate (length owners) 0) (length-replicate (length holders) 0 ∙ a.tables);
      }

given_sound : (m : Machine) (core : ℕ) (o : Operation) (memory owners holders : List ℕ) → lent_fits m (length memory) (length owners) (length holders) ≡ true → GiveAccepted m core o
    → Sound (outcome (taken m core o) memory owners holders)
given_sound m core o memory owners holders lent a =
    record { ranges = machine_kept m core (given (core_at m core) o) a.ranges (given_kept core (core_at m core) o a.core_below (core_fits_lem m a.ranges core (core_small m a.ranges a.core_below)) a.address); lengths = lent }

stepped_sound : (m : Machine) (memory owners holders : List ℕ) (core : ℕ) → StepAccepted m (length memory) owners holders core
    → Sound (stepped m memory owners holders core (micro_step_at m memory owners holders core))
unfolding stepped micro_step_at
stepped_sound m memory owners holders core a =
    let s = micro_step_at m memory owners holders core in
    let e = (entry_at m core).0 in
    record {
      ranges = machine_kept m core s.core a.ranges
          (micro_kept m.count m.bytes core (core_at m core) (mark_at owners (entry_at m core)) (mark_at holders (entry_at m core)) (read_word memory (core_at m core).address) a.core_below
          (core_fits_lem m a.ranges core (core_small m a.ranges a.core_below)) a.busy);
      lengths = same_lengths m _ _ _
          (of_both (λ (x : List ℕ). length x ≡ m.bytes) s.writes (word_laws.length_stays memory (core_at m core).address (core_at m core).value ∙ a.lengths.memory_length) a.lengths.memory_length)
          (length-set owners e s.owner ∙ a.lengths.owners_length) (length-set holders e s.holder ∙ a.lengths.holders_length);
    }

poked_sound : (m : Machine) (memory : List ℕ) (a : GuestAddress) (value : ℕ) (owners holders : List ℕ) → lent_fits m (length memory) (length owners) (length holders) ≡ true → WordAccepted m (length memory) a
    → Sound (outcome (poked m memory a value).called (poked m memory a value).memory owners holders)
poked_sound m memory a value owners holders fit w =
    let l = lent m (length memory) (length owners) (length holders) fit in
    record { ranges = w.ranges; lengths = same_lengths m (length (write_word memory a value)) (length owners) (length holders) (word_laws.length_stays memory a value ∙ l.memory_length) l.owners_length l.holders_length }

pub range_laws : RangeLaws
unfolding give_of step_of poke_of
range_laws =
    record {
      start_sound = λ count memory owners holders. started_if count memory owners holders Sound (started_sound count memory owners holders);
      start_idle = λ count memory owners holders. started_if count memory owners holders (λ (o : Outcome). o.called.machine.cores ≡ replicate 8 idle) (λ a. refl);
      start_zero = λ count memory owners holders.
          started_if count memory owners holders (λ (o : Outcome). (o.memory ≡ replicate (length memory) 0) × (o.owners ≡ replicate (length owners) 0) × (o.holders ≡ replicate (length owners) 0))
          (λ a. (refl, refl, ap (λ (n : ℕ). replicate n 0) a.tables));
      give_sound = λ m core o memory owners holders lent.
          if_accepted (λ (r : Called). r.answer) (λ (r : Called). Sound (outcome r memory owners holders)) (give_refusal m core o) (λ k. refused k m) (taken m core o) (λ r. refl)
          (λ z. given_sound m core o memory owners holders lent (give_accepted m core o z));
      step_sound = λ m memory owners holders core.
          if_accepted (λ (o : Outcome). o.called.answer) Sound (step_refusal m (length memory) owners holders core) (λ k. outcome (refused k m) memory owners holders)
          (stepped m memory owners holders core (micro_step_at m memory owners holders core)) (λ r. refl) (λ z. stepped_sound m memory owners holders core (step_accepted m (length memory) owners holders core z));
      poke_sound = λ m memory a value owners holders fit.
          if_accepted (λ (o : PokeOutcome). o.called.answer) (λ (o : PokeOutcome). Sound (outcome o.called o.memory owners holders)) (word_refusal m (length memory) a)
          (λ k. poke_outcome (refused k m) memory) (poked m memory a value) (λ r. refl) (λ z. poked_sound m memory a value owners holders fit (word_accepted m (length memory) a z));
    }

pub one-outcome : OneOutcome
one-outcome Outcome rule one other p q = p ∙ sym q
