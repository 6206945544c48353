-- The reference machine: it is its memory and its history, and judges each sc by the written rule, from the history alone.
-- Assumes nothing.
use Rattle.std.proofs.Common.{◌≡◌, ℕ, Bool, true, false, refl, sym, ap, ◌∙◌, if◌then◌else◌}
use Rattle.std.proofs.lemmas.Bool.{false_from_ne_true}
use borrow.Author.Tests.{eqb-false}
use Rattle.rules.specs.Kinds.{kind_number}
use Rattle.rules.specs.Operations.{kind_of}
use Rattle.rules.specs.History.{succeeds}
use Rattle.rules.specs.Reference.{Reference, Finished, write_done, sc_failed, finish}
use Rattle.rules.specs.declared.entry.GuestAddress.{GuestAddress}
use Rattle.rules.specs.declared.entry.EntryNumber.{EntryNumber}
use Rattle.rules.specs.declared.kinds.Kind.TheVariants.{Success, Failure}
use Rattle.rules.specs.declared.operations.Operation.TheVariants as Asked
use Rattle.rules.specs.declared.answers.Delivered.TheVariants as Answered
use Rattle.promises.specs.Demand3.{NoTable, JudgesSc, JudgedByHistory}
use Rattle.promises.proofs.Decides.{decided, decides}
use Rattle.promises.proofs.Answering.{sc_value}

pub no_table : NoTable
no_table one other m h = λ i. record { memory = m i; history = h i }

module _ (entry : GuestAddress → EntryNumber) (ref : Reference) (c : ℕ) (a : GuestAddress) (v : ℕ) where
  abbrev done : Bool → Finished
  done passed = if passed then write_done ref c (Asked.Sc a v) true (Answered.Sc 0) else sc_failed ref c (Asked.Sc a v)

  by_test : (t : Bool) → succeeds entry c a ref.history ≡ t → finish entry ref c (Asked.Sc a v) ≡ done t
  unfolding finish
  by_test t e = rw e

  kind_at_0 : (t : Bool) → (done t).answer ≡ Answered.Sc 0 → (done t).access.kind ≡ kind_number Success
  unfolding kind_of
  kind_at_0 true e = refl
  kind_at_0 false e = absurd (eqb-false 1 0 refl (ap sc_value e))

  kind_at_1 : (t : Bool) → (done t).answer ≡ Answered.Sc 1 → (done t).access.kind ≡ kind_number Failure
  unfolding kind_of
  kind_at_1 true e = absurd (eqb-false 0 1 refl (ap sc_value e))
  kind_at_1 false e = refl

  -- what is done, by the test's own outcome
  as_tested : finish entry ref c (Asked.Sc a v) ≡ done (succeeds entry c a ref.history)
  as_tested = by_test (succeeds entry c a ref.history) refl

  judges_sc : JudgesSc entry ref c a v
  judges_sc =
      record {
        succeeds = λ s. by_test true (decides entry c a ref.history s);
        fails = λ f. by_test false (false_from_ne_true (succeeds entry c a ref.history) (λ e. f (decided entry c a ref.history e)));
        zero_is_success = λ e. ap (λ (x : Finished). x.access.kind) as_tested ∙ kind_at_0 (succeeds entry c a ref.history) (ap (λ (x : Finished). x.answer) (sym as_tested) ∙ e);
        one_is_failure = λ e. ap (λ (x : Finished). x.access.kind) as_tested ∙ kind_at_1 (succeeds entry c a ref.history) (ap (λ (x : Finished). x.answer) (sym as_tested) ∙ e);
      }

pub judged_by_history : JudgedByHistory
judged_by_history = judges_sc
