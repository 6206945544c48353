-- Each kind of call keeps the invariant of a run.
-- Assumes nothing.
use Rattle.std.proofs.Common.{◌≡◌, ℕ, ◌<◌, ◌≤◌, Bool, true, false, eqb, ◌⊎◌, List, ◌∷◌, Option, Some, None, Result, Ok, length, get_or, set, sym, refl, ap, ◌∙◌, subst, inl, inr, ⊎_elim, true≢false, arith, length-set, get_or-set_other, get_or-set_same, eq-eqb, ne_eqb, eqb-true, if◌then◌else◌}
use lib.Seq.{set-get_or}
use borrow.Author.Tests.{eqb-false}
use Rattle.rules.specs.Sizes.{written}
use Rattle.rules.specs.Entry.{entry_of}
use Rattle.rules.specs.Word.{read_word, write_word}
use Rattle.rules.specs.Kinds.{kind_at, KindRule, rule_of, rule_at, mark_after}
use Rattle.rules.specs.Operations.{code_of, address_of, value_of, kind_of, shape}
use Rattle.rules.specs.Life.{idle, given}
use Rattle.rules.specs.Ranges.{core_at}
use Rattle.rules.specs.Calls.{Outcome, outcome, answered, with_core, poke_record}
use Rattle.rules.specs.Laws.{Sound}
use Rattle.rules.specs.History.{History, Link, link_of, owner_of, succeeds}
use Rattle.rules.specs.Reference.{Whole, does, pokes, Reference, Finished, refer, read_done, finish_by, finish, operations_of, answers_of, access_of}
use Rattle.rules.specs.Runs.{step, give, poke, with_given, delivers, last_of}
use Rattle.rules.specs.declared.entry.GuestAddress.{GuestAddress}
use Rattle.rules.specs.declared.entry.EntryNumber.{EntryNumber}
use Rattle.rules.specs.declared.kinds.Kind.TheVariants as Kind
use Rattle.rules.specs.declared.operations.Operation.{Operation}
use Rattle.rules.specs.declared.operations.Shape.{Shape}
use Rattle.rules.specs.declared.operations.Shape.TheVariants.{Load, Locks}
use Rattle.rules.specs.declared.operations.Locking.{Locking}
use Rattle.rules.specs.declared.operations.Locking.TheVariants.{Ll, Store, Sc}
use Rattle.rules.specs.declared.answers.Answer.{Answer}
use Rattle.rules.specs.declared.answers.Answer.TheVariants.{Taken, Moved, Done, Poked}
use Rattle.rules.specs.declared.answers.Delivered.{Delivered}
use Rattle.rules.specs.declared.answers.Delivered.TheVariants as Answered
use Rattle.rules.specs.declared.answers.Record.{Record}
use Rattle.rules.specs.declared.refusals.Refusal.{Refusal}
use Rattle.rules.specs.declared.cores.Core.{Core}
use Rattle.rules.proofs.Numbers.{of_both}
use Rattle.rules.proofs.Kept.{set_or_old}
use Rattle.rules.proofs.Judging.{link_other, link_quiet, link_own, link_after, owner_elsewhere, owner_here, owner_quiet, link_and_owner}
use Rattle.rules.proofs.Shapes.{locking_rule, shape_rule, rule_made}
use Rattle.rules.proofs.Phases.{Loading, Locked, place_of, Phase, rests, loads, asks, holds, reaches, ends, picture, marked, tests, tested, value_by, value_at, link_by, link_at, owner_at, read_at, writes_at, answer_at}
use Rattle.rules.proofs.Running.{TableOk, ListsOk, CoreOk, Inv, Next, renew, at_renewed, marks_differ, no_mark, Untouched, untouched}

-- the lists of a core, and of another, after one whole operation more
module _ (entry : GuestAddress → EntryNumber) (zeros : List ℕ) (c : ℕ) (o : Operation) (ws : List Whole) where
  operations_own : operations_of c (does c o ∷ ws) ≡ o ∷ operations_of c ws
  unfolding operations_of
  operations_own = rw (eq-eqb c c refl)

  answers_own : answers_of entry zeros c (does c o ∷ ws) ≡ (finish entry (refer entry zeros ws) c o).answer ∷ answers_of entry zeros c ws
  unfolding answers_of
  answers_own = rw (eq-eqb c c refl)

  operations_other : (i : ℕ) → (i ≡ c → ⊥) → operations_of i (does c o ∷ ws) ≡ operations_of i ws
  unfolding operations_of
  operations_other i d = rw (ne_eqb c i (λ e. d (sym e)))

  answers_other : (i : ℕ) → (i ≡ c → ⊥) → answers_of entry zeros i (does c o ∷ ws) ≡ answers_of entry zeros i ws
  unfolding answers_of
  answers_other i d = rw (ne_eqb c i (λ e. d (sym e)))

  refer_memory : (refer entry zeros (does c o ∷ ws)).memory ≡ (finish entry (refer entry zeros ws) c o).memory
  unfolding refer
  refer_memory = refl

  refer_history : (refer entry zeros (does c o ∷ ws)).history ≡ (finish entry (refer entry zeros ws) c o).access ∷ (refer entry zeros ws).history
  unfolding refer
  refer_history = refl

delivers_other : (i c : ℕ) (answer : Result Answer Refusal) (ds : List Delivered) → (i ≡ c → ⊥) → delivers i (step c) answer ds ≡ ds
delivers_other i c answer ds d = rw (ne_eqb c i (λ e. d (sym e)))

-- a core that is not busy rests
rests_if : (p : Phase) (k : Link) → (picture p k).busy ≡ false → p ≡ rests
rests_if rests k b = refl
rests_if (loads l) k b = absurd (true≢false b)
rests_if (asks l) k b = absurd (true≢false b)
rests_if (holds l) k b = absurd (true≢false b)
rests_if (reaches l passed) k b = absurd (true≢false b)
rests_if (ends l passed read) k b = absurd (true≢false b)

-- an operation given to it, by its shape
abbrev begun_by : (o : Operation) (s : Shape) → shape o ≡ s → Phase
begun_by o Load e = loads (record { operation = o; shaped = e })
begun_by o (Locks l) e = asks (record { operation = o; locking = l; shaped = e })

abbrev begun : Operation → Phase
begun o = begun_by o (shape o) refl

module _ (o : Operation) where
  begun_picture : (s : Shape) (e : shape o ≡ s) (k : Link) → given (picture rests k) o ≡ picture (begun_by o s e) k
  begun_picture Load e k = refl
  begun_picture (Locks l) e k = refl

  begun_table : (s : Shape) (e : shape o ≡ s) (entry : GuestAddress → EntryNumber) (owners holders : List ℕ) (h : History) (i : ℕ) → TableOk entry owners holders h i (begun_by o s e)
  begun_table Load e entry owners holders h i = tt
  begun_table (Locks l) e entry owners holders h i = tt

  begun_lists : (s : Shape) (e : shape o ≡ s) {gs os : List Operation} {ds ans : List Delivered} → gs ≡ o ∷ os → ans ≡ ds → ListsOk (begun_by o s e) gs ds os ans
  begun_lists Load e p q = (p, q)
  begun_lists (Locks l) e p q = (p, q)

-- what step 2 leaves for an owner is a mark of the machine
marked_small : (c : ℕ) (l : Locking) (owner count : ℕ) → c < count → owner ≤ count → marked c l owner ≤ count
marked_small c Ll owner count below small = omega arith
marked_small c Store owner count below small = of_both (λ (t : ℕ). t ≤ count) (eqb owner (written c)) small (omega arith)
marked_small c Sc owner count below small = small

owner_at_small : (l : Locking) (passed : Bool) (owner count : ℕ) → owner ≤ count → owner_at l passed owner ≤ count
owner_at_small Ll passed owner count small = small
owner_at_small Store passed owner count small = small
owner_at_small Sc passed owner count small = of_both (λ (t : ℕ). t ≤ count) passed (omega arith) small

-- the record of an access step
abbrev pub access_at : ℕ → Locked → Bool → ℕ → Record
access_at c l passed word = access_of c l.operation passed (value_at l word)

-- the access is the reference's, if what step 2 judged is what the success rule says
abbrev pub judged_by : Locking → Bool → Bool → Type 0
judged_by Ll passed succeeded = passed ≡ false
judged_by Store passed succeeded = passed ≡ false
judged_by Sc passed succeeded = succeeded ≡ passed

abbrev pub Judged : (GuestAddress → EntryNumber) → History → ℕ → Locked → Bool → Type 0
Judged entry h c l passed = judged_by l.locking passed (succeeds entry c (place_of l) h)

finished : (entry : GuestAddress → EntryNumber) (ref : Reference) (c : ℕ) (l : Locked) (passed : Bool) → Judged entry ref.history c l passed
    → finish entry ref c l.operation ≡ record {
      memory = if writes_at l.locking passed then write_word ref.memory (place_of l) (value_of l.operation) else ref.memory;
      access = access_at c l passed (read_word ref.memory (place_of l));
      answer = answer_at l.locking passed (read_at l.locking (read_word ref.memory (place_of l)));
    }
unfolding finish
finished entry ref c l passed j = rw l.shaped (go l.locking passed j)
  where
    go : (s : Locking) (p : Bool) → judged_by s p (succeeds entry c (place_of l) ref.history)
        → finish_by (Locks s) entry ref c l.operation ≡ record {
          memory = if writes_at s p then write_word ref.memory (place_of l) (value_of l.operation) else ref.memory;
          access = access_of c l.operation p (value_by s (value_of l.operation) (read_word ref.memory (place_of l)));
          answer = answer_at s p (read_at s (read_word ref.memory (place_of l)));
        }
    go Ll p e = rw e
    go Store p e = rw e
    go Sc true e = rw e
    go Sc false e = rw e

-- what step 2 judged is what the success rule says
pub judged_right : (entry : GuestAddress → EntryNumber) (h : History) (c : ℕ) (l : Locked) (passed : Bool) → passed ≡ tested c l (link_of c h) (owner_of entry (entry (place_of l)).0 h) → Judged entry h c l passed
judged_right entry h c l passed = go l.locking
  where
    go : (s : Locking) → passed ≡ tests s c (picture (holds l) (link_of c h)) (owner_of entry (entry (place_of l)).0 h) → judged_by s passed (succeeds entry c (place_of l) h)
    go Ll p = p
    go Store p = p
    go Sc p = link_and_owner entry c (place_of l) h ∙ sym p

-- the rule of the kind that an access makes
kind_made : (l : Locked) (passed : Bool) → rule_at (kind_of (code_of l.operation) passed) ≡ locking_rule l.locking passed
kind_made l passed = rule_made l.operation passed ∙ ap (λ (s : Shape). shape_rule (Some s) passed) l.shaped

-- the link and the owner that the access leaves are the history's
link_left : (c : ℕ) (h : History) (l : Locked) (passed : Bool) (word : ℕ) → link_of c (access_at c l passed word ∷ h) ≡ link_at l passed (link_of c h)
link_left c h l passed word = link_own c (access_at c l passed word) h refl ∙ ap (λ (k : KindRule). link_after c (access_at c l passed word) h k.link) (kind_made l passed) ∙ go l.locking passed
  where
    go : (s : Locking) (p : Bool) → link_after c (access_at c l passed word) h (locking_rule s p).link ≡ link_by s (picture (reaches l passed) (link_of c h))
    go Ll p = refl
    go Store p = refl
    go Sc true = refl
    go Sc false = refl

owner_left : (c : ℕ) (l : Locked) (passed : Bool) (owner : ℕ) → owner_at l.locking passed (marked c l.locking owner) ≡ mark_after (rule_at (kind_of (code_of l.operation) passed)).mark c owner
owner_left c l passed owner = go l.locking passed ∙ ap (λ (k : KindRule). mark_after k.mark c owner) (sym (kind_made l passed))
  where
    go : (s : Locking) (p : Bool) → owner_at s p (marked c s owner) ≡ mark_after (locking_rule s p).mark c owner
    go Ll p = refl
    go Store p = refl
    go Sc true = refl
    go Sc false = refl

module _ (n : ℕ) (zeros : List ℕ) (o : Outcome) (h : History) (ws : List Whole) (gs : ℕ → List Operation) (ds : ℕ → List Delivered) (inv : Inv n zeros o h ws gs ds) where
  -- nothing changes but the answer
  pub carried : (answer : Result Answer Refusal) (made : Option Record) (gs' : ℕ → List Operation) (ds' : ℕ → List Delivered) → ((i : ℕ) → gs' i ≡ gs i) → ((i : ℕ) → ds' i ≡ ds i)
      → Inv n zeros (outcome (record { answer = answer; made = made; machine = o.called.machine }) o.memory o.owners o.holders) h ws gs' ds'
  carried answer made gs' ds' g d =
      record {
        sound = record { ranges = inv.sound.ranges; lengths = inv.sound.lengths };
        eight = inv.eight;
        same = inv.same;
        memory = inv.memory;
        history = inv.history;
        phase = inv.phase;
        cores = λ i. untouched n zeros o (outcome (record { answer = answer; made = made; machine = o.called.machine }) o.memory o.owners o.holders) h h ws ws i (inv.phase i)
            (record { core_same = refl; link_same = refl; operations_same = refl; answers_same = refl; given_same = g i; delivered_same = d i; inside_same = λ e q. (q, refl, refl); back = λ e q. q }) (inv.cores i);
        owners_small = inv.owners_small;
        holders_small = inv.holders_small;
        free = inv.free;
      }

  -- one core is renewed, and the others are untouched
  module _ (x : Outcome) (k : History) (vs : List Whole) (gs' : ℕ → List Operation) (ds' : ℕ → List Delivered) (c : ℕ) (p : Phase) where
    renewed : Sound x → length x.called.machine.cores ≡ 8 → x.called.machine.entries ≡ n → x.memory ≡ (refer (entry_of n) zeros vs).memory → k ≡ (refer (entry_of n) zeros vs).history
        → CoreOk n zeros x k vs c p (gs' c) (ds' c) → ((i : ℕ) → (i ≡ c → ⊥) → Untouched n zeros o x h k ws vs i (gs i) (gs' i) (ds i) (ds' i))
        → ((e : ℕ) → get_or x.owners e 0 ≤ x.called.machine.count) → ((e : ℕ) → get_or x.holders e 0 ≤ x.called.machine.count)
        → ((e : ℕ) → e < n → get_or x.holders e 0 ≡ 0 → get_or x.owners e 0 ≡ owner_of (entry_of n) e k) → Inv n zeros x k vs gs' ds'
    renewed sound eight same memory history new others os hs free =
        record {
          sound = sound;
          eight = eight;
          same = same;
          memory = memory;
          history = history;
          phase = renew inv.phase c p;
          cores = at_renewed (λ (i : ℕ) (q : Phase). CoreOk n zeros x k vs i q (gs' i) (ds' i)) inv.phase c p new (λ i d. untouched n zeros o x h k ws vs i (inv.phase i) (others i d) (inv.cores i));
          owners_small = os;
          holders_small = hs;
          free = free;
        }

  -- the core at its place after it is renewed, and the others'
  core_new : (c : ℕ) (y : Core) → c < 8 → core_at (with_core o.called.machine c y) c ≡ y
  core_new c y l = get_or-set_same o.called.machine.cores c y idle (rw inv.eight l)

  core_old : (c i : ℕ) (y : Core) → (i ≡ c → ⊥) → core_at (with_core o.called.machine c y) i ≡ core_at o.called.machine i
  core_old c i y d = get_or-set_other o.called.machine.cores c i y idle d

  eight_new : (c : ℕ) (y : Core) → length (with_core o.called.machine c y).cores ≡ 8
  eight_new c y = length-set o.called.machine.cores c y ∙ inv.eight

  -- an operation given to an idle core
  idle_core : (c : ℕ) → (core_at o.called.machine c).busy ≡ false → CoreOk n zeros o h ws c rests (gs c) (ds c)
  idle_core c b =
      subst (λ (p : Phase). CoreOk n zeros o h ws c p (gs c) (ds c)) (rests_if (inv.phase c) (link_of c h) (ap (λ (y : Core). y.busy) (sym (inv.cores c).core) ∙ b)) (inv.cores c)

  pub given_next : (c : ℕ) (op : Operation) → c < 8 → (core_at o.called.machine c).busy ≡ false
      → Sound (outcome (answered Taken (with_core o.called.machine c (given (core_at o.called.machine c) op))) o.memory o.owners o.holders)
      → Next n zeros (give c op) h ws gs ds (outcome (answered Taken (with_core o.called.machine c (given (core_at o.called.machine c) op))) o.memory o.owners o.holders)
  given_next c op small b sound =
      let old = idle_core c b in
      let y = given (core_at o.called.machine c) op in
      renewed (outcome (answered Taken (with_core o.called.machine c y)) o.memory o.owners o.holders) h ws (λ i. with_given i (give c op) (Ok Taken) (gs i)) ds c (begun op)
      sound (eight_new c y) inv.same inv.memory inv.history
      (record {
        core = core_new c y small ∙ ap (λ (z : Core). given z op) old.core ∙ begun_picture op (shape op) refl (link_of c h);
        table = begun_table op (shape op) refl (entry_of n) o.owners o.holders h c;
        lists = begun_lists op (shape op) refl (rw (eq-eqb c c refl) (ap (λ (os : List Operation). op ∷ os) old.lists.0)) old.lists.1;
        held = λ e q. absurd (old.held e q);
      })
      (λ i d. record {
        core_same = core_old c i y d;
        link_same = refl;
        operations_same = refl;
        answers_same = refl;
        given_same = rw (ne_eqb c i (λ e. d (sym e)));
        delivered_same = refl;
        inside_same = λ e q. (q, refl, refl);
        back = λ e q. q;
      })
      inv.owners_small inv.holders_small inv.free

  -- a poke: it ends no link and touches no mark
  pub poked_next : (a : GuestAddress) (value : ℕ)
      → Sound (outcome (record { answer = Ok Poked; made = Some (poke_record a value); machine = o.called.machine }) (write_word o.memory a value) o.owners o.holders)
      → Next n zeros (poke a value) h ws gs ds (outcome (record { answer = Ok Poked; made = Some (poke_record a value); machine = o.called.machine }) (write_word o.memory a value) o.owners o.holders)
  unfolding refer operations_of answers_of rule_at kind_at
  poked_next a value sound =
      let r = poke_record a value in
      let x = outcome (record { answer = Ok Poked; made = Some r; machine = o.called.machine }) (write_word o.memory a value) o.owners o.holders in
      record {
        sound = sound;
        eight = inv.eight;
        same = inv.same;
        memory = ap (λ (m : List ℕ). write_word m a value) inv.memory;
        history = ap (λ (t : History). r ∷ t) inv.history;
        phase = inv.phase;
        cores = λ i. untouched n zeros o x h (r ∷ h) ws (pokes a value ∷ ws) i (inv.phase i)
            (record {
              core_same = refl;
              link_same = link_quiet i r h refl;
              operations_same = refl;
              answers_same = refl;
              given_same = refl;
              delivered_same = refl;
              inside_same = λ e q. (q, refl, owner_quiet (entry_of n) e r h refl);
              back = λ e q. q;
            }) (inv.cores i);
        owners_small = inv.owners_small;
        holders_small = inv.holders_small;
        free = λ e l q. inv.free e l q ∙ sym (owner_quiet (entry_of n) e r h refl);
      }

  -- a load: it reads and finishes, and touches no mark
  load_quiet : (l : Loading) → rule_at (kind_of (code_of l.operation) false) ≡ rule_of Kind.Load
  load_quiet l = rule_made l.operation false ∙ ap (λ (s : Shape). shape_rule (Some s) false) l.shaped

  load_finished : (ref : Reference) (c : ℕ) (l : Loading) → finish (entry_of n) ref c l.operation ≡ read_done ref c l.operation Answered.Load
  unfolding finish
  load_finished ref c l = rw l.shaped

  pub loaded_next : (c : ℕ) (l : Loading) → c < 8 → CoreOk n zeros o h ws c (loads l) (gs c) (ds c)
      → Sound (outcome (record { answer = Ok (Done (Answered.Load (read_word o.memory (address_of l.operation)))); made = Some (access_of c l.operation false (read_word o.memory (address_of l.operation))); machine = with_core o.called.machine c (picture rests (link_of c h)) }) o.memory o.owners o.holders)
      → Next n zeros (step c) h ws gs ds
      (outcome (record { answer = Ok (Done (Answered.Load (read_word o.memory (address_of l.operation)))); made = Some (access_of c l.operation false (read_word o.memory (address_of l.operation))); machine = with_core o.called.machine c (picture rests (link_of c h)) }) o.memory o.owners o.holders)
  loaded_next c l small old sound =
      let w = read_word o.memory (address_of l.operation) in
      let f = load_finished (refer (entry_of n) zeros ws) c l in
      let quiet_link = ap (λ (k : KindRule). k.link) (load_quiet l) in
      let quiet_mark = ap (λ (k : KindRule). k.mark) (load_quiet l) in
      let r = access_of c l.operation false w in
      let y = picture rests (link_of c h) in
      let x = outcome (record { answer = Ok (Done (Answered.Load w)); made = Some r; machine = with_core o.called.machine c y }) o.memory o.owners o.holders in
      let vs = does c l.operation ∷ ws in
      let word : w ≡ read_word (refer (entry_of n) zeros ws).memory (address_of l.operation) = ap (λ (m : List ℕ). read_word m (address_of l.operation)) inv.memory in
      subst (λ (op : Operation). Inv n zeros x (r ∷ h) (does c op ∷ ws) gs (λ i. delivers i (step c) (Ok (Done (Answered.Load w))) (ds i))) (sym (ap last_of old.lists.0))
      (renewed x (r ∷ h) vs gs (λ i. delivers i (step c) (Ok (Done (Answered.Load w))) (ds i)) c rests
      sound (eight_new c y) inv.same
      (inv.memory ∙ sym (ap (λ (q : Finished). q.memory) f) ∙ sym (refer_memory (entry_of n) zeros c l.operation ws))
      ((λ j. access_of c l.operation false (word j) ∷ inv.history j) ∙ ap (λ (q : Record). q ∷ (refer (entry_of n) zeros ws).history) (sym (ap (λ (q : Finished). q.access) f)) ∙ sym (refer_history (entry_of n) zeros c l.operation ws))
      (record {
        core = core_new c y small ∙ ap (picture rests) (sym (link_quiet c r h quiet_link));
        table = tt;
        lists = (
          old.lists.0 ∙ sym (operations_own (entry_of n) zeros c l.operation ws),
          answers_own (entry_of n) zeros c l.operation ws ∙ ap (λ (q : Delivered). q ∷ answers_of (entry_of n) zeros c ws) (ap (λ (q : Finished). q.answer) f) ∙ rw (eq-eqb c c refl) (λ j. Answered.Load (sym word j) ∷ old.lists.1 j),
        );
        held = λ e q. absurd (old.held e q);
      })
      (λ i d. record {
        core_same = core_old c i y d;
        link_same = link_quiet i r h quiet_link;
        operations_same = operations_other (entry_of n) zeros c l.operation ws i d;
        answers_same = answers_other (entry_of n) zeros c l.operation ws i d;
        given_same = refl;
        delivered_same = delivers_other i c (Ok (Done (Answered.Load w))) (ds i) d;
        inside_same = λ e q. (q, refl, owner_quiet (entry_of n) e r h quiet_mark);
        back = λ e q. q;
      })
      inv.owners_small inv.holders_small (λ e l q. inv.free e l q ∙ sym (owner_quiet (entry_of n) e r h quiet_mark)))

  -- a step inside an entry, or into it or out of it: it touches the core, that entry's owner and holder, and no other core's
  module _ (c : ℕ) (small : c < 8) (below : c < o.called.machine.count) (e₀ : ℕ) (owner_there : e₀ < length o.owners) (holder_there : e₀ < length o.holders)
      (mine : (get_or o.holders e₀ 0 ≡ 0) ⊎ (get_or o.holders e₀ 0 ≡ written c)) where
    abbrev left : Answer → Option Record → Core → List ℕ → ℕ → ℕ → Outcome
    left answer made y memory owner holder =
        outcome (record { answer = Ok answer; made = made; machine = with_core o.called.machine c y }) memory (set o.owners e₀ owner) (set o.holders e₀ holder)

    -- another core is inside another entry
    elsewhere : (i : ℕ) → (i ≡ c → ⊥) → (e : ℕ) → get_or o.holders e 0 ≡ written i → e ≡ e₀ → ⊥
    elsewhere i d e q at =
        let here : get_or o.holders e₀ 0 ≡ written i = ap (λ (k : ℕ). get_or o.holders k 0) (sym at) ∙ q in
        ⊎_elim (λ z. no_mark i (sym z ∙ here)) (λ z. marks_differ i c d (sym here ∙ z)) mine

    owner_new : (owner : ℕ) → get_or (set o.owners e₀ owner) e₀ 0 ≡ owner
    owner_new owner = get_or-set_same o.owners e₀ owner 0 owner_there

    holder_new : (holder : ℕ) → get_or (set o.holders e₀ holder) e₀ 0 ≡ holder
    holder_new holder = get_or-set_same o.holders e₀ holder 0 holder_there

    mark_small : (mark : ℕ) → (mark ≡ 0) ⊎ (mark ≡ written c) → mark ≤ o.called.machine.count
    mark_small mark m = ⊎_elim (λ (z : mark ≡ 0). omega arith) (λ (z : mark ≡ written c). omega arith) m

    inner : (answer : Answer) (made : Option Record) (y : Core) (memory : List ℕ) (owner holder : ℕ) (k : History) (vs : List Whole) (ds' : ℕ → List Delivered) (p : Phase)
        → Sound (left answer made y memory owner holder) → memory ≡ (refer (entry_of n) zeros vs).memory → k ≡ (refer (entry_of n) zeros vs).history
        → owner ≤ o.called.machine.count → (holder ≡ 0) ⊎ (holder ≡ written c) → (holder ≡ 0 → owner ≡ owner_of (entry_of n) e₀ k)
        → ((i : ℕ) → (i ≡ c → ⊥) → link_of i k ≡ link_of i h) → ((e : ℕ) → (e ≡ e₀ → ⊥) → owner_of (entry_of n) e k ≡ owner_of (entry_of n) e h)
        → ((i : ℕ) → (i ≡ c → ⊥) → operations_of i vs ≡ operations_of i ws) → ((i : ℕ) → (i ≡ c → ⊥) → answers_of (entry_of n) zeros i vs ≡ answers_of (entry_of n) zeros i ws)
        → ((i : ℕ) → (i ≡ c → ⊥) → ds' i ≡ ds i)
        → CoreOk n zeros (left answer made y memory owner holder) k vs c p (gs c) (ds' c)
        → Inv n zeros (left answer made y memory owner holder) k vs gs ds'
    inner answer made y memory owner holder k vs ds' p sound mem hist owner-small holder-is freed links owners ops answers delivered new =
        renewed (left answer made y memory owner holder) k vs gs ds' c p sound (eight_new c y) inv.same mem hist new
        (λ i d. record {
          core_same = core_old c i y d;
          link_same = links i d;
          operations_same = ops i d;
          answers_same = answers i d;
          given_same = refl;
          delivered_same = delivered i d;
          inside_same = λ e q.
              let away = elsewhere i d e q in
              (get_or-set_other o.holders e₀ e holder 0 away ∙ q, get_or-set_other o.owners e₀ e owner 0 away, owners e away);
          back = λ e. back i d e (eqb e e₀) refl;
        })
        (λ e. set_or_old (λ (t : ℕ). t ≤ o.called.machine.count) o.owners e₀ e owner 0 (λ at. owner-small) (inv.owners_small e))
        (λ e. set_or_old (λ (t : ℕ). t ≤ o.called.machine.count) o.holders e₀ e holder 0 (λ at. mark_small holder holder-is) (inv.holders_small e))
        (λ e. frees e (eqb e e₀) refl)
      where
        back : (i : ℕ) → (i ≡ c → ⊥) → (e : ℕ) (t : Bool) → eqb e e₀ ≡ t → get_or (set o.holders e₀ holder) e 0 ≡ written i → get_or o.holders e 0 ≡ written i
        back i d e true at q =
            let here : holder ≡ written i = sym (holder_new holder) ∙ ap (λ (j : ℕ). get_or (set o.holders e₀ holder) j 0) (sym (eqb-true e e₀ at)) ∙ q in
            absurd (⊎_elim (λ (z : holder ≡ 0). no_mark i (sym z ∙ here)) (λ (z : holder ≡ written c). marks_differ i c d (sym here ∙ z)) holder-is)
        back i d e false at q = sym (get_or-set_other o.holders e₀ e holder 0 (eqb-false e e₀ at)) ∙ q

        frees : (e : ℕ) (t : Bool) → eqb e e₀ ≡ t → e < n → get_or (set o.holders e₀ holder) e 0 ≡ 0 → get_or (set o.owners e₀ owner) e 0 ≡ owner_of (entry_of n) e k
        frees e true at l q =
            let here : e ≡ e₀ = eqb-true e e₀ at in
            let none : holder ≡ 0 = sym (holder_new holder) ∙ ap (λ (j : ℕ). get_or (set o.holders e₀ holder) j 0) (sym here) ∙ q in
            ap (λ (j : ℕ). get_or (set o.owners e₀ owner) j 0) here ∙ owner_new owner ∙ freed none ∙ ap (λ (j : ℕ). owner_of (entry_of n) j k) (sym here)
        frees e false at l q =
            let away = eqb-false e e₀ at in
            get_or-set_other o.owners e₀ e owner 0 away ∙ inv.free e l (sym (get_or-set_other o.holders e₀ e holder 0 away) ∙ q) ∙ sym (owners e away)

    -- step 1: the lock is free, and is taken
    pub lock_next : (l : Locked) → (entry_of n (place_of l)).0 ≡ e₀ → e₀ < n → get_or o.holders e₀ 0 ≡ 0 → CoreOk n zeros o h ws c (asks l) (gs c) (ds c)
        → Sound (left Moved None (picture (holds l) (link_of c h)) o.memory (get_or o.owners e₀ 0) (written c))
        → Next n zeros (step c) h ws gs ds (left Moved None (picture (holds l) (link_of c h)) o.memory (get_or o.owners e₀ 0) (written c))
    lock_next l at l₀ none old sound =
        inner Moved None (picture (holds l) (link_of c h)) o.memory (get_or o.owners e₀ 0) (written c) h ws (λ i. delivers i (step c) (Ok Moved) (ds i)) (holds l)
        sound inv.memory inv.history (inv.owners_small e₀) (inr refl) (λ z. absurd (no_mark c (sym z)))
        (λ i d. refl) (λ e d. refl) (λ i d. refl) (λ i d. refl) (λ i d. delivers_other i c (Ok Moved) (ds i) d)
        (record {
          core = core_new c (picture (holds l) (link_of c h)) small;
          table = rw at (holder_new (written c), owner_new (get_or o.owners e₀ 0) ∙ inv.free e₀ l₀ none);
          lists = (old.lists.0, rw (eq-eqb c c refl) old.lists.1);
          held = λ e. held e (eqb e e₀) refl;
        })
      where
        held : (e : ℕ) (t : Bool) → eqb e e₀ ≡ t → get_or (set o.holders e₀ (written c)) e 0 ≡ written c → (entry_of n (place_of l)).0 ≡ e
        held e true q r = at ∙ sym (eqb-true e e₀ q)
        held e false q r = absurd (old.held e (sym (get_or-set_other o.holders e₀ e (written c) 0 (eqb-false e e₀ q)) ∙ r))

    -- a holder that stays
    holder_kept : (e : ℕ) → get_or (set o.holders e₀ (get_or o.holders e₀ 0)) e 0 ≡ get_or o.holders e 0
    holder_kept e = ap (λ (hs : List ℕ). get_or hs e 0) (set-get_or o.holders e₀ 0)

    -- step 2: the mark and the test
    pub mark_next : (l : Locked) → (entry_of n (place_of l)).0 ≡ e₀ → CoreOk n zeros o h ws c (holds l) (gs c) (ds c) → (get_or o.holders e₀ 0 ≡ written c) × (get_or o.owners e₀ 0 ≡ owner_of (entry_of n) e₀ h)
        → Sound (left Moved None (picture (reaches l (tested c l (link_of c h) (get_or o.owners e₀ 0))) (link_of c h)) o.memory (marked c l.locking (get_or o.owners e₀ 0)) (get_or o.holders e₀ 0))
        → Next n zeros (step c) h ws gs ds (left Moved None (picture (reaches l (tested c l (link_of c h) (get_or o.owners e₀ 0))) (link_of c h)) o.memory (marked c l.locking (get_or o.owners e₀ 0)) (get_or o.holders e₀ 0))
    mark_next l at old t sound =
        let owner = get_or o.owners e₀ 0 in
        let p = tested c l (link_of c h) owner in
        inner Moved None (picture (reaches l p) (link_of c h)) o.memory (marked c l.locking owner) (get_or o.holders e₀ 0) h ws (λ i. delivers i (step c) (Ok Moved) (ds i)) (reaches l p)
        sound inv.memory inv.history (marked_small c l.locking owner o.called.machine.count below (inv.owners_small e₀)) (inr t.0) (λ z. absurd (no_mark c (sym z ∙ t.0)))
        (λ i d. refl) (λ e d. refl) (λ i d. refl) (λ i d. refl) (λ i d. delivers_other i c (Ok Moved) (ds i) d)
        (record {
          core = core_new c (picture (reaches l p) (link_of c h)) small;
          table = rw at (holder_new (get_or o.holders e₀ 0) ∙ t.0, owner_new (marked c l.locking owner) ∙ ap (marked c l.locking) t.1, ap (tested c l (link_of c h)) t.1);
          lists = (old.lists.0, rw (eq-eqb c c refl) old.lists.1);
          held = λ e q. old.held e (sym (holder_kept e) ∙ q);
        })

    -- step 3: the access
    pub access_next : (l : Locked) (passed : Bool) → (entry_of n (place_of l)).0 ≡ e₀ → CoreOk n zeros o h ws c (reaches l passed) (gs c) (ds c)
        → (get_or o.holders e₀ 0 ≡ written c) × (get_or o.owners e₀ 0 ≡ marked c l.locking (owner_of (entry_of n) e₀ h)) → Judged (entry_of n) h c l passed
        → Sound (left Moved (Some (access_at c l passed (read_word o.memory (place_of l)))) (picture (ends l passed (read_at l.locking (read_word o.memory (place_of l)))) (link_at l passed (link_of c h)))
        (if writes_at l.locking passed then write_word o.memory (place_of l) (value_of l.operation) else o.memory) (owner_at l.locking passed (get_or o.owners e₀ 0)) (get_or o.holders e₀ 0))
        → Next n zeros (step c) h ws gs ds (left Moved (Some (access_at c l passed (read_word o.memory (place_of l)))) (picture (ends l passed (read_at l.locking (read_word o.memory (place_of l)))) (link_at l passed (link_of c h)))
        (if writes_at l.locking passed then write_word o.memory (place_of l) (value_of l.operation) else o.memory) (owner_at l.locking passed (get_or o.owners e₀ 0)) (get_or o.holders e₀ 0))
    access_next l passed at old t j sound =
        let w = read_word o.memory (place_of l) in
        let r = access_at c l passed w in
        let y = picture (ends l passed (read_at l.locking w)) (link_at l passed (link_of c h)) in
        let owner = get_or o.owners e₀ 0 in
        let memory = if writes_at l.locking passed then write_word o.memory (place_of l) (value_of l.operation) else o.memory in
        let ref = refer (entry_of n) zeros ws in
        let f = finished (entry_of n) ref c l passed (subst (λ (k : History). Judged (entry_of n) k c l passed) inv.history j) in
        let word : w ≡ read_word ref.memory (place_of l) = ap (λ (m : List ℕ). read_word m (place_of l)) inv.memory in
        let mark : owner_at l.locking passed owner ≡ owner_of (entry_of n) e₀ (r ∷ h)
        = ap (owner_at l.locking passed) t.1 ∙ owner_left c l passed (owner_of (entry_of n) e₀ h) ∙ sym (owner_here (entry_of n) e₀ r h at) in
        subst (λ (op : Operation). Inv n zeros (left Moved (Some r) y memory (owner_at l.locking passed owner) (get_or o.holders e₀ 0)) (r ∷ h) (does c op ∷ ws) gs (λ i. delivers i (step c) (Ok Moved) (ds i)))
        (sym (ap last_of old.lists.0))
        (inner Moved (Some r) y memory (owner_at l.locking passed owner) (get_or o.holders e₀ 0) (r ∷ h) (does c l.operation ∷ ws) (λ i. delivers i (step c) (Ok Moved) (ds i)) (ends l passed (read_at l.locking w))
        sound
        (ap (λ (m : List ℕ). if writes_at l.locking passed then write_word m (place_of l) (value_of l.operation) else m) inv.memory ∙ sym (ap (λ (q : Finished). q.memory) f) ∙ sym (refer_memory (entry_of n) zeros c l.operation ws))
        ((λ i. access_at c l passed (word i) ∷ inv.history i) ∙ ap (λ (q : Record). q ∷ ref.history) (sym (ap (λ (q : Finished). q.access) f)) ∙ sym (refer_history (entry_of n) zeros c l.operation ws))
        (owner_at_small l.locking passed owner o.called.machine.count (inv.owners_small e₀)) (inr t.0) (λ z. absurd (no_mark c (sym z ∙ t.0)))
        (λ i d. link_other i r h (λ e. d (sym e))) (λ e d. owner_elsewhere (entry_of n) e r h (λ q. d (sym q ∙ at)))
        (operations_other (entry_of n) zeros c l.operation ws) (answers_other (entry_of n) zeros c l.operation ws) (λ i d. delivers_other i c (Ok Moved) (ds i) d)
        (record {
          core = core_new c y small ∙ ap (picture (ends l passed (read_at l.locking w))) (sym (link_left c h l passed w));
          table = rw at (holder_new (get_or o.holders e₀ 0) ∙ t.0, owner_new (owner_at l.locking passed owner) ∙ mark);
          lists = (
            old.lists.0 ∙ sym (operations_own (entry_of n) zeros c l.operation ws),
            answers_own (entry_of n) zeros c l.operation ws ∙ ap (λ (q : Delivered). q ∷ answers_of (entry_of n) zeros c ws) (ap (λ (q : Finished). q.answer) f)
                ∙ rw (eq-eqb c c refl) (λ i. answer_at l.locking passed (read_at l.locking (sym word i)) ∷ old.lists.1 i),
          );
          held = λ e q. old.held e (sym (holder_kept e) ∙ q);
        }))

    -- step 4: the lock is given back, and the answer delivered
    pub leave_next : (l : Locked) (passed : Bool) (read : ℕ) → (entry_of n (place_of l)).0 ≡ e₀ → CoreOk n zeros o h ws c (ends l passed read) (gs c) (ds c)
        → (get_or o.holders e₀ 0 ≡ written c) × (get_or o.owners e₀ 0 ≡ owner_of (entry_of n) e₀ h)
        → Sound (left (Done (answer_at l.locking passed read)) None (picture rests (link_of c h)) o.memory (get_or o.owners e₀ 0) 0)
        → Next n zeros (step c) h ws gs ds (left (Done (answer_at l.locking passed read)) None (picture rests (link_of c h)) o.memory (get_or o.owners e₀ 0) 0)
    leave_next l passed read at old t sound =
        inner (Done (answer_at l.locking passed read)) None (picture rests (link_of c h)) o.memory (get_or o.owners e₀ 0) 0 h ws (λ i. delivers i (step c) (Ok (Done (answer_at l.locking passed read))) (ds i)) rests
        sound inv.memory inv.history (inv.owners_small e₀) (inl refl) (λ z. t.1)
        (λ i d. refl) (λ e d. refl) (λ i d. refl) (λ i d. refl) (λ i d. delivers_other i c (Ok (Done (answer_at l.locking passed read))) (ds i) d)
        (record {
          core = core_new c (picture rests (link_of c h)) small;
          table = tt;
          lists = (old.lists.0, rw (eq-eqb c c refl) old.lists.1);
          held = λ e. held e (eqb e e₀) refl;
        })
      where
        held : (e : ℕ) (b : Bool) → eqb e e₀ ≡ b → get_or (set o.holders e₀ 0) e 0 ≡ written c → ⊥
        held e true q r = no_mark c (sym (holder_new 0) ∙ ap (λ (j : ℕ). get_or (set o.holders e₀ 0) j 0) (sym (eqb-true e e₀ q)) ∙ r)
        held e false q r = eqb-false e e₀ q (sym (old.held e (sym (get_or-set_other o.holders e₀ e 0 0 (eqb-false e e₀ q)) ∙ r)) ∙ at)
