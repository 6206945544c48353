-- The number of each call's answer is the number of its refusal, 0 where it is not refused.
-- Assumes nothing.
use Rattle.std.proofs.Common.{◌≡◌, ℕ, Bool, true, false, eqb, List, Result, Ok, Err, length, refl, ap, ◌∙◌, eqb-true, arith, if◌then◌else◌}
use borrow.Author.Tests.{eqb-false}
use Rattle.rules.specs.Refusals.{Tested, no_refusal, refusal_number, number_in, unless_refused}
use Rattle.rules.specs.Word.{read_word}
use Rattle.rules.specs.Calls.{Outcome, PokeOutcome, outcome, poke_outcome, refused, answered, all_idle, started, taken, stepped, poked, start_refusal, start_of, give_refusal, give_of, step_refusal, step_of, micro_step_at, word_refusal, poke_of, show_of}
use Rattle.rules.specs.declared.entry.GuestAddress.{GuestAddress}
use Rattle.rules.specs.declared.operations.Operation.{Operation}
use Rattle.rules.specs.declared.answers.Answer.{Answer}
use Rattle.rules.specs.declared.refusals.Refusal.{Refusal}
use Rattle.rules.specs.declared.answers.Answer.TheVariants.{Word}
use Rattle.rules.specs.declared.state.Machine.{Machine}
use Rattle.rules.specs.declared.state.Called.{Called}

-- what holds of both sides of a choice holds of the choice
pub of_both : {A : Type 0} (P : A → Type 0) (t : Bool) {a b : A} → P a → P b → P (if t then a else b)
of_both P true p q = p
of_both P false p q = q

-- by whether a number is 0
pub by_zero : (P : Type 0) (n : ℕ) → (n ≡ 0 → P) → ((n ≡ 0 → ⊥) → P) → P
by_zero P n yes' no' = go (eqb n 0) refl
  where
    go : (t : Bool) → eqb n 0 ≡ t → P
    go true e = yes' (eqb-true n 0 e)
    go false e = no' (eqb-false n 0 e)

-- by whether a call's tests refuse it
pub by_tested : (P : Type 0) (t : Tested) → (t ≡ no_refusal → P) → ((r : Refusal) → t ≡ Err r → P) → P
by_tested P (Ok u) yes' no' = yes' refl
by_tested P (Err r) yes' no' = no' r refl

-- no refusal has the number 0
pub refusals_numbered : (r : Refusal) → refusal_number r ≡ 0 → ⊥
refusals_numbered r h = grind arith

-- tests whose number is 0 refuse nothing
pub not_refused : (t : Tested) → number_in t ≡ 0 → t ≡ no_refusal
not_refused (Ok u) z = refl
not_refused (Err r) z = absurd (refusals_numbered r z)

-- an answer that is one or the other by a call's tests
chosen : {A : Type 0} (answer : A → Result Answer Refusal) (t : Tested) (refusal : Refusal → A) (done : A) → ((r : Refusal) → number_in (answer (refusal r)) ≡ refusal_number r) → number_in (answer done) ≡ 0
    → number_in (answer (unless_refused t refusal done)) ≡ number_in t
chosen answer (Ok u) refusal done p q = q
chosen answer (Err r) refusal done p q = p r

pub start_number : (count : ℕ) (memory owners holders : List ℕ) → number_in (start_of count memory owners holders).called.answer ≡ number_in (start_refusal count (length memory) (length owners) (length holders))
unfolding start_of
start_number count memory owners holders =
    chosen (λ (o : Outcome). o.called.answer) (start_refusal count (length memory) (length owners) (length holders)) (λ n. outcome (refused n (all_idle 0 0 0)) memory owners holders)
    (started count memory owners holders) (λ r. refl) refl

module _ (m : Machine) where
  pub give_number : (core : ℕ) (o : Operation) → number_in (give_of m core o).answer ≡ number_in (give_refusal m core o)
  unfolding give_of
  give_number core o = chosen (λ (r : Called). r.answer) (give_refusal m core o) (λ n. refused n m) (taken m core o) (λ r. refl) refl

  pub step_number : (memory owners holders : List ℕ) (core : ℕ) → number_in (step_of m memory owners holders core).called.answer ≡ number_in (step_refusal m (length memory) owners holders core)
  unfolding step_of stepped micro_step_at
  step_number memory owners holders core =
      chosen (λ (o : Outcome). o.called.answer) (step_refusal m (length memory) owners holders core) (λ n. outcome (refused n m) memory owners holders)
      (stepped m memory owners holders core (micro_step_at m memory owners holders core)) (λ r. refl) refl

  pub poke_number : (memory : List ℕ) (a : GuestAddress) (value : ℕ) → number_in (poke_of m memory a value).called.answer ≡ number_in (word_refusal m (length memory) a)
  unfolding poke_of
  poke_number memory a value = chosen (λ (o : PokeOutcome). o.called.answer) (word_refusal m (length memory) a) (λ n. poke_outcome (refused n m) memory) (poked m memory a value) (λ r. refl) refl

  pub show_number : (memory : List ℕ) (a : GuestAddress) → number_in (show_of m memory a).answer ≡ number_in (word_refusal m (length memory) a)
  unfolding show_of
  show_number memory a = chosen (λ (r : Called). r.answer) (word_refusal m (length memory) a) (λ n. refused n m) (answered (Word (read_word memory a)) m) (λ r. refl) refl

-- an outcome that is the rule's has the number of the rule's answer
pub numbered : {A : Type 0} (answer : A → Result Answer Refusal) {o rule : A} {n : ℕ} → number_in (answer rule) ≡ n → o ≡ rule → (number_in (answer o) ≡ n) × (o ≡ rule)
numbered answer p e = (ap (λ o. number_in (answer o)) e ∙ p, e)
