-- Demand 2 of answers: what delivers an sc's answer is step 4 of the operation that its core was given last, and that operation's access is the core's latest.
-- Assumes nothing.
use Rattle.std.proofs.Common.{◌≡◌, ℕ, ◌<◌, Bool, true, false, eqb, List, [], ◌∷◌, ◌++◌, Result, Ok, Err, ◌⊎◌, inl, inr, ⊎_elim, length, refl, sym, ap, ◌∙◌, subst, true≢false, arith, eq-eqb, eqb-true, if◌then◌else◌}
use borrow.Author.Tests.{eqb-false}
use Rattle.rules.specs.Sizes.{written}
use Rattle.rules.specs.Kinds.{kind_number, poke_core}
use Rattle.rules.specs.Operations.{kind_of}
use Rattle.rules.specs.Life.{micro_step, moves, stays}
use Rattle.rules.specs.Ranges.{core_at}
use Rattle.rules.specs.Entry.{entry_of}
use Rattle.rules.specs.Word.{read_word}
use Rattle.rules.specs.Refusals.{no_refusal}
use Rattle.rules.specs.Calls.{Outcome, entry_at, mark_at, step_refusal, step_of, stepped, micro_step_at, poke_record}
use Rattle.rules.specs.History.{History, link_of, succeeds}
use Rattle.rules.specs.Reference.{Whole, does, pokes, Reference, refer, Finished, write_done, sc_failed, finish, operations_of, answers_of}
use Rattle.rules.specs.Runs.{Call, step, act, Fresh, after, records, given_to, delivered_to, last_of, in_order, entry_rule}
use Rattle.rules.specs.declared.entry.GuestAddress.{GuestAddress}
use Rattle.rules.specs.declared.entry.EntryNumber.{EntryNumber}
use Rattle.rules.specs.declared.kinds.Kind.{Kind}
use Rattle.rules.specs.declared.kinds.Kind.TheVariants as Kinds
use Rattle.rules.specs.declared.operations.Operation.{Operation}
use Rattle.rules.specs.declared.operations.Operation.TheVariants as Asked
use Rattle.rules.specs.declared.answers.Answer.{Answer}
use Rattle.rules.specs.declared.answers.Answer.TheVariants.{Ready, Taken, Moved, Waits, Done, Poked, Word}
use Rattle.rules.specs.declared.answers.Delivered.{Delivered}
use Rattle.rules.specs.declared.answers.Delivered.TheVariants as Answered
use Rattle.rules.specs.declared.refusals.Refusal.{Refusal}
use Rattle.rules.specs.declared.cores.Core.{Core}
use Rattle.rules.specs.declared.cores.MicroStep.{MicroStep}
use Rattle.rules.proofs.Accepted.{core_small, step_accepted}
use Rattle.rules.proofs.Numbers.{by_tested}
use Rattle.rules.proofs.Phases.{Phase, rests, loads, asks, holds, reaches, ends, picture, load_step_lem, ask_step, hold_step, reach_step, leave_step_lem}
use Rattle.rules.proofs.Running.{CoreOk, Inv}
use Rattle.rules.proofs.Invariant.{run_inv}
use Rattle.promises.specs.Riscv.{NoneIs, MustFail}
use Rattle.promises.specs.Causes.{Cause}
use Rattle.promises.specs.Demand2.{DeliversSc, AccessBy, OperationsAccess, AnswersOf, AnswersTell}
use Rattle.promises.proofs.Decides.{decided, decides}
use Rattle.promises.proofs.Conditional.{one_word, may_succeed, has_cause}

-- the number that an sc answers, and the answers that are none of an sc
abbrev pub sc_value : Delivered → ℕ
sc_value (Answered.Load v) = 2
sc_value (Answered.Ll v) = 2
sc_value Answered.Store = 2
sc_value (Answered.Sc v) = v

abbrev an_sc : Delivered → Bool
an_sc (Answered.Load v) = false
an_sc (Answered.Ll v) = false
an_sc Answered.Store = false
an_sc (Answered.Sc v) = true

-- what an answer delivers, a store's where it delivers nothing; of a refusal too
abbrev delivered_in : Result Answer Refusal → Delivered
delivered_in (Ok (Done d)) = d
delivered_in (Ok Ready) = Answered.Store
delivered_in (Ok Taken) = Answered.Store
delivered_in (Ok Moved) = Answered.Store
delivered_in (Ok Waits) = Answered.Store
delivered_in (Ok Poked) = Answered.Store
delivered_in (Ok (Word v)) = Answered.Store
delivered_in (Err refusal) = Answered.Store

not_sc : (d : Delivered) {v : ℕ} → an_sc d ≡ false → d ≡ Answered.Sc v → ⊥
not_sc d p e = true≢false (sym (ap an_sc e) ∙ p)

-- The latest operation of a core that is run whole on the reference machine: its access, what was before, and what came later, none of which is the core's.
module _ (entry : GuestAddress → EntryNumber) (zeros : List ℕ) (c : ℕ) where
  record Latest (ws : List Whole) : Type 0 where
    pub before : List Whole
    pub operation : Operation
    pub later : History
    pub split : (refer entry zeros ws).history ≡ later ++ (finish entry (refer entry zeros before) c operation).access ∷ (refer entry zeros before).history
    pub none_since : NoneIs (AccessBy c) later
    pub operations : operations_of c ws ≡ operation ∷ operations_of c before
    pub answers : answers_of entry zeros c ws ≡ (finish entry (refer entry zeros before) c operation).answer ∷ answers_of entry zeros c before

  made_by : (ref : Reference) (k : ℕ) (o : Operation) → (finish entry ref k o).access.core ≡ k
  unfolding finish
  made_by ref k (Asked.Load a) = refl
  made_by ref k (Asked.Ll a) = refl
  made_by ref k (Asked.Store a v) = refl
  made_by ref k (Asked.Sc a v) = go (succeeds entry k a ref.history) refl
    where
      go : (t : Bool) → succeeds entry k a ref.history ≡ t → (finish entry ref k (Asked.Sc a v)).access.core ≡ k
      go true e = rw e
      go false e = rw e

  own : (o : Operation) (ws : List Whole) → Latest (does c o ∷ ws)
  unfolding refer operations_of answers_of
  own o ws = record { before = ws; operation = o; later = []; split = refl; none_since = tt; operations = rw (eq-eqb c c refl); answers = rw (eq-eqb c c refl) }

  latest : c < 8 → (ws : List Whole) (d : Delivered) (ds : List Delivered) → answers_of entry zeros c ws ≡ d ∷ ds → Latest ws
  unfolding refer operations_of answers_of
  latest small [] d ds e = cc
  latest small (does k o ∷ ws) d ds e = go (eqb k c) refl (λ p. latest small ws d ds (rw p at e))
    where
      go : (t : Bool) → eqb k c ≡ t → (eqb k c ≡ false → Latest ws) → Latest (does k o ∷ ws)
      go true p rest = subst (λ (j : ℕ). Latest (does j o ∷ ws)) (sym (eqb-true k c p)) (own o ws)
      go false p rest =
          let l = rest p in
          record {
            before = l.before;
            operation = l.operation;
            later = (finish entry (refer entry zeros ws) k o).access ∷ l.later;
            split = ap (λ (h : History). (finish entry (refer entry zeros ws) k o).access ∷ h) l.split;
            none_since = ((λ q. eqb-false k c p (sym (made_by (refer entry zeros ws) k o) ∙ q)), l.none_since);
            operations = rw p l.operations;
            answers = rw p l.answers;
          }
  latest small (pokes a v ∷ ws) d ds e =
      let l = latest small ws d ds e in
      record {
        before = l.before;
        operation = l.operation;
        later = poke_record a v ∷ l.later;
        split = ap (λ (h : History). poke_record a v ∷ h) l.split;
        none_since = ((λ (q : poke_core ≡ c). omega arith), l.none_since);
        operations = l.operations;
        answers = l.answers;
      }

  -- an operation that is answered as an sc is one, and it is answered by the success rule
  record ScDone (ref : Reference) (f : Finished) (o : Operation) (v : ℕ) : Type 0 where
    pub asked : o ≡ Asked.Sc f.access.address f.access.value
    pub told : ((v ≡ 0) × (f.access.kind ≡ kind_number Kinds.Success) × (succeeds entry c f.access.address ref.history ≡ true))
        ⊎ ((v ≡ 1) × (f.access.kind ≡ kind_number Kinds.Failure) × (succeeds entry c f.access.address ref.history ≡ false))

  sc_done : (ref : Reference) (o : Operation) (v : ℕ) → (finish entry ref c o).answer ≡ Answered.Sc v → ScDone ref (finish entry ref c o) o v
  unfolding finish kind_of
  sc_done ref (Asked.Load a) v e = absurd (not_sc _ refl e)
  sc_done ref (Asked.Ll a) v e = absurd (not_sc _ refl e)
  sc_done ref (Asked.Store a w) v e = absurd (not_sc _ refl e)
  sc_done ref (Asked.Sc a w) v e = go (succeeds entry c a ref.history) refl e
    where
      go : (t : Bool) → succeeds entry c a ref.history ≡ t → (if t then write_done ref c (Asked.Sc a w) true (Answered.Sc 0) else sc_failed ref c (Asked.Sc a w)).answer ≡ Answered.Sc v
          → ScDone ref (if t then write_done ref c (Asked.Sc a w) true (Answered.Sc 0) else sc_failed ref c (Asked.Sc a w)) (Asked.Sc a w) v
      go true p q = record { asked = refl; told = inl (sym (ap sc_value q), refl, p) }
      go false p q = record { asked = refl; told = inr (sym (ap sc_value q), refl, p) }

-- A step that delivers an sc's answer finds its core at step 4.
module _ (n : ℕ) (zeros : List ℕ) (o : Outcome) (h : History) (ws : List Whole) (gs : ℕ → List Operation) (ds : ℕ → List Delivered) (inv : Inv n zeros o h ws gs ds) (c v : ℕ) where
  -- the reference has the answer, and the core no operation that is not run
  record Answers : Type 0 where
    pub small : c < 8
    pub answers : answers_of (entry_of n) zeros c ws ≡ Answered.Sc v ∷ ds c
    pub given : gs c ≡ operations_of c ws

  -- what stands at its entry, and the micro-step of a core there
  abbrev owner : ℕ
  owner = mark_at o.owners (entry_at o.called.machine c)

  abbrev holder : ℕ
  holder = mark_at o.holders (entry_at o.called.machine c)

  abbrev makes : Core → MicroStep
  makes core = micro_step c core owner holder (read_word o.memory (core_at o.called.machine c).address)

  answered : step_refusal o.called.machine (length o.memory) o.owners o.holders c ≡ no_refusal → (act o (step c)).called.answer ≡ Ok (makes (core_at o.called.machine c)).answer
  unfolding act step_of stepped micro_step_at
  answered z = rw z

  not_answered : (r : Refusal) → step_refusal o.called.machine (length o.memory) o.owners o.holders c ≡ Err r → (act o (step c)).called.answer ≡ Err r
  unfolding act step_of
  not_answered r z = rw z

  at_end : (p : Phase) → CoreOk n zeros o h ws c p (gs c) (ds c) → (core_at o.called.machine c).busy ≡ true → c < 8 → delivered_in (Ok (makes (picture p (link_of c h))).answer) ≡ Answered.Sc v → Answers
  at_end rests ok busy small e = absurd (true≢false (sym busy ∙ ap (λ (y : Core). y.busy) ok.core))
  at_end (loads l) ok busy small e = absurd (not_sc _ refl (ap (λ (s : MicroStep). delivered_in (Ok s.answer)) (sym (load_step_lem c (link_of c h) _ _ _ l)) ∙ e))
  at_end (asks l) ok busy small e = absurd (free_or_not (eqb holder 0) (ap (λ (s : MicroStep). delivered_in (Ok s.answer)) (sym (ask_step c (link_of c h) owner holder _ l)) ∙ e))
    where
      free_or_not : (t : Bool) → delivered_in (Ok (if t then moves (picture (holds l) (link_of c h)) owner (written c) else stays Waits (picture (asks l) (link_of c h)) owner holder).answer) ≡ Answered.Sc v → ⊥
      free_or_not true q = not_sc _ refl q
      free_or_not false q = not_sc _ refl q
  at_end (holds l) ok busy small e = absurd (not_sc _ refl (ap (λ (s : MicroStep). delivered_in (Ok s.answer)) (sym (hold_step c (link_of c h) _ _ _ l)) ∙ e))
  at_end (reaches l passed) ok busy small e = absurd (not_sc _ refl (ap (λ (s : MicroStep). delivered_in (Ok s.answer)) (sym (reach_step c (link_of c h) _ _ _ l passed)) ∙ e))
  at_end (ends l passed read) ok busy small e =
      record {
        small = small;
        answers = ok.lists.1 ∙ ap (λ (d : Delivered). d ∷ ds c) (ap (λ (s : MicroStep). delivered_in (Ok s.answer)) (sym (leave_step_lem c (link_of c h) _ _ _ l passed read)) ∙ e);
        given = ok.lists.0;
      }

  from_step_4 : (act o (step c)).called.answer ≡ Ok (Done (Answered.Sc v)) → Answers
  from_step_4 e =
      by_tested Answers (step_refusal o.called.machine (length o.memory) o.owners o.holders c)
      (λ z. let a = step_accepted o.called.machine (length o.memory) o.owners o.holders c z in
      at_end (inv.phase c) (inv.cores c) a.busy (core_small o.called.machine a.ranges a.core_below)
      (ap (λ (y : Core). delivered_in (Ok (makes y).answer)) (sym (inv.cores c).core) ∙ ap delivered_in (sym (answered z) ∙ e)))
      (λ r z. absurd (not_sc _ refl (ap delivered_in (sym (not_answered r z) ∙ e))))

-- In a run from a fresh machine.
head_same : (d x : Delivered) (ds xs : List Delivered) → d ∷ ds ≡ x ∷ xs → d ≡ x
head_same d x ds xs e = cc

module _ (fresh : Outcome) (f : Fresh fresh) (calls : List Call) (c : ℕ) where
  abbrev entry : GuestAddress → EntryNumber
  entry = entry_rule fresh

  abbrev ws : List Whole
  ws = in_order fresh calls

  module _ (v : ℕ) (e : DeliversSc fresh calls c v) where
    step_4 : Answers fresh.called.machine.entries fresh.memory (after fresh calls) (records fresh calls) ws (λ i. given_to fresh i calls) (λ i. delivered_to fresh i calls) (run_inv fresh f calls) c v
    step_4 = from_step_4 _ _ _ _ _ _ _ (run_inv fresh f calls) c v e

    done : Latest entry fresh.memory c ws
    done = latest entry fresh.memory c step_4.small ws _ _ step_4.answers

    abbrev ref : Reference
    ref = refer entry fresh.memory done.before

    judged : ScDone entry fresh.memory c ref (finish entry ref c done.operation) done.operation v
    judged = sc_done entry fresh.memory c ref done.operation v (head_same _ _ _ _ (sym done.answers ∙ step_4.answers))

    -- what was before an access is what the reference had done
    found : (k : Kind) (Judged : GuestAddress → History → Type 0) → (finish entry ref c done.operation).access.kind ≡ kind_number k → Judged (finish entry ref c done.operation).access.address ref.history
        → OperationsAccess fresh calls c k Judged
    found k Judged p q =
        record {
          later = done.later;
          access = (finish entry ref c done.operation).access;
          earlier = ref.history;
          split = (run_inv fresh f calls).history ∙ done.split;
          by_core = made_by entry fresh.memory c ref c done.operation;
          latest = done.none_since;
          asked = ap last_of (step_4.given ∙ done.operations) ∙ judged.asked;
          kind = p;
          judged = q;
        }

    two : (v ≡ 0) ⊎ (v ≡ 1)
    two = ⊎_elim (λ t. inl t.0) (λ t. inr t.0) judged.told

  answers : AnswersOf fresh calls c
  answers =
      record {
        zero = λ e. ⊎_elim
            (λ t. found 0 e Kinds.Success (λ a earlier. MustFail c a earlier → ⊥) t.1 (may_succeed entry (one_word fresh f) c _ _ (decided entry c _ _ t.2)))
            (λ t. absurd (eqb-false 0 1 refl t.0)) (judged 0 e).told;
        one = λ e. ⊎_elim
            (λ t. absurd (eqb-false 1 0 refl t.0))
            (λ t. found 1 e Kinds.Failure (λ a earlier. Cause entry c a earlier) t.1 (has_cause entry c _ _ (λ s. true≢false (sym (decides entry c _ _ s) ∙ t.2)))) (judged 1 e).told;
        no_other = two;
      }

pub answers_tell : AnswersTell
answers_tell = answers
