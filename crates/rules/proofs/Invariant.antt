-- Every call of a run keeps the invariant, and a fresh machine has it: so it holds after every list of calls.
-- Assumes nothing.
use Rattle.std.proofs.Common.{◌≡◌, ℕ, zero, suc, ◌<◌, Bool, true, false, eqb, List, [], ◌∷◌, Option, Some, None, Ok, Err, length, get_or, set, replicate, sym, refl, ap, ◌∙◌, subst, inl, inr, true≢false, arith, ne_eqb, eqb-true, if◌then◌else◌}
use lib.Seq.{set-get_or}
use Rattle.rules.specs.Sizes.{written}
use Rattle.rules.specs.Entry.{entry_of}
use Rattle.rules.specs.Word.{read_word, write_word}
use Rattle.rules.specs.Life.{idle, given, micro_step, moves, stays}
use Rattle.rules.specs.Ranges.{core_at}
use Rattle.rules.specs.Refusals.{no_refusal, refusal_number, number_in}
use Rattle.rules.specs.Calls.{Outcome, outcome, refused, answered, started, with_core, start_refusal, start_of, give_refusal, give_of, step_refusal, step_of, stepped, micro_step_at, word_refusal, poke_record, poke_of}
use Rattle.rules.specs.Laws.{Sound, AsFound}
use Rattle.rules.specs.History.{History, link_of, owner_of}
use Rattle.rules.specs.Operations.{address_of}
use Rattle.rules.specs.Reference.{Whole, access_of, refer, operations_of, answers_of}
use Rattle.rules.specs.Runs.{Call, step, give, poke, act, Fresh, after, records, given_to, delivered_to, in_order, with_given, delivers}
use Rattle.rules.specs.declared.entry.GuestAddress.{GuestAddress}
use Rattle.rules.specs.declared.operations.Operation.{Operation}
use Rattle.rules.specs.declared.answers.Record.{Record}
use Rattle.rules.specs.declared.refusals.Refusal.{Refusal}
use Rattle.rules.specs.declared.answers.Answer.{Answer}
use Rattle.rules.specs.declared.answers.Answer.TheVariants.{Taken, Waits, Done, Poked}
use Rattle.rules.specs.declared.answers.Delivered.{Delivered}
use Rattle.rules.specs.declared.answers.Delivered.TheVariants as Answered
use Rattle.rules.specs.declared.cores.Core.{Core}
use Rattle.rules.specs.declared.cores.MicroStep.{MicroStep}
use Rattle.rules.specs.declared.state.Machine.{Machine}
use Rattle.rules.proofs.Accepted.{core_small, sizes_fit_lem, entry_below, start_accepted, give_accepted, StepAccepted, step_accepted}
use Rattle.rules.proofs.Kept.{idle_anywhere}
use Rattle.rules.proofs.Lawful.{refusal_laws, range_laws, started_sound}
use Rattle.rules.proofs.Numbers.{by_zero, by_tested, refusals_numbered}
use Rattle.rules.proofs.Bools.{and_false, if_same}
use Rattle.rules.proofs.Phases.{Locked, place_of, Phase, rests, loads, asks, holds, reaches, ends, picture, load_step_lem, ask_step, hold_step, reach_step, leave_step_lem}
use Rattle.rules.proofs.Running.{CoreOk, Inv, Next, no_mark}
use Rattle.rules.proofs.Transitions.{carried, given_next, poked_next, loaded_next, lock_next, mark_next, access_next, leave_next, judged_right}

-- a call ends the state in its ranges, and the buffers of its sizes, as it found them
found_sound : (x o : Outcome) → AsFound x o.called.machine o.memory o.owners o.holders → Sound o → Sound x
found_sound x o f s = record { ranges = rw f.machine_as_found s.ranges; lengths = rw (f.machine_as_found, f.memory_as_found, f.owners_as_found, f.holders_as_found) s.lengths }

pub sound_act : (o : Outcome) → Sound o → (call : Call) → Sound (act o call)
unfolding act
sound_act o s (give c op) =
    by_zero (Sound (outcome (give_of o.called.machine c op) o.memory o.owners o.holders)) (number_in (give_of o.called.machine c op).answer)
    (range_laws.give_sound o.called.machine c op o.memory o.owners o.holders s.lengths)
    (λ f. found_sound (outcome (give_of o.called.machine c op) o.memory o.owners o.holders) o (refusal_laws.give_as_found o.called.machine c op o.memory o.owners o.holders f) s)
sound_act o s (step c) =
    by_zero (Sound (step_of o.called.machine o.memory o.owners o.holders c)) (number_in (step_of o.called.machine o.memory o.owners o.holders c).called.answer)
    (range_laws.step_sound o.called.machine o.memory o.owners o.holders c)
    (λ f. found_sound (step_of o.called.machine o.memory o.owners o.holders c) o (refusal_laws.step_as_found o.called.machine o.memory o.owners o.holders c f) s)
sound_act o s (poke a v) =
    by_zero (Sound (outcome (poke_of o.called.machine o.memory a v).called (poke_of o.called.machine o.memory a v).memory o.owners o.holders)) (number_in (poke_of o.called.machine o.memory a v).called.answer)
    (range_laws.poke_sound o.called.machine o.memory a v o.owners o.holders s.lengths)
    (λ f. found_sound (outcome (poke_of o.called.machine o.memory a v).called (poke_of o.called.machine o.memory a v).memory o.owners o.holders) o (refusal_laws.poke_as_found o.called.machine o.memory a v o.owners o.holders f) s)

-- what a step that is not refused ends, by the core that makes it and by its micro-step
stepped_as : (n : ℕ) (o : Outcome) (c : ℕ) (core : Core) (s : MicroStep) → o.called.machine.entries ≡ n → step_refusal o.called.machine (length o.memory) o.owners o.holders c ≡ no_refusal
    → core_at o.called.machine c ≡ core
    → micro_step c core (get_or o.owners (entry_of n core.address).0 0) (get_or o.holders (entry_of n core.address).0 0) (read_word o.memory core.address) ≡ s
    → act o (step c) ≡ outcome (record { answer = Ok s.answer; made = s.made; machine = with_core o.called.machine c s.core })
    (if s.writes then write_word o.memory core.address core.value else o.memory) (set o.owners (entry_of n core.address).0 s.owner) (set o.holders (entry_of n core.address).0 s.holder)
unfolding act step_of stepped micro_step_at
stepped_as n o c core s same z p q = rw (z, p, same, q)

-- what the other calls leave
module _ (o : Outcome) where
  give_done : (c : ℕ) (op : Operation) → give_refusal o.called.machine c op ≡ no_refusal
      → act o (give c op) ≡ outcome (answered Taken (with_core o.called.machine c (given (core_at o.called.machine c) op))) o.memory o.owners o.holders
  unfolding act give_of
  give_done c op z = rw z

  give_refused : (c : ℕ) (op : Operation) (r : Refusal) → give_refusal o.called.machine c op ≡ Err r → act o (give c op) ≡ outcome (refused r o.called.machine) o.memory o.owners o.holders
  unfolding act give_of
  give_refused c op r z = rw z

  step_refused : (c : ℕ) (r : Refusal) → step_refusal o.called.machine (length o.memory) o.owners o.holders c ≡ Err r → act o (step c) ≡ outcome (refused r o.called.machine) o.memory o.owners o.holders
  unfolding act step_of
  step_refused c r z = rw z

  poke_done : (a : GuestAddress) (v : ℕ) → word_refusal o.called.machine (length o.memory) a ≡ no_refusal
      → act o (poke a v) ≡ outcome (record { answer = Ok Poked; made = Some (poke_record a v); machine = o.called.machine }) (write_word o.memory a v) o.owners o.holders
  unfolding act poke_of
  poke_done a v z = rw z

  poke_refused : (a : GuestAddress) (v : ℕ) (r : Refusal) → word_refusal o.called.machine (length o.memory) a ≡ Err r → act o (poke a v) ≡ outcome (refused r o.called.machine) o.memory o.owners o.holders
  unfolding act poke_of
  poke_refused a v r z = rw z

module _ (n : ℕ) (zeros : List ℕ) (o : Outcome) (h : History) (ws : List Whole) (gs : ℕ → List Operation) (ds : ℕ → List Delivered) (inv : Inv n zeros o h ws gs ds) where
  abbrev After : Call → Outcome → Type 0
  After call x = Next n zeros call h ws gs ds x

  -- along an equation for what the call ends
  leaves_as : (call : Call) (x : Outcome) → act o call ≡ x → (Sound x → After call x) → After call (act o call)
  leaves_as call x e f = subst (After call) (sym e) (f (subst Sound e (sound_act o inv.sound call)))

  -- a call that is refused
  refused_give : (c : ℕ) (op : Operation) (r : Refusal) → After (give c op) (outcome (refused r o.called.machine) o.memory o.owners o.holders)
  refused_give c op r =
      carried n zeros o h ws gs ds inv (Err r) None (λ i. with_given i (give c op) (Err r) (gs i)) ds (λ i. rw (ne_eqb (refusal_number r) 0 (refusals_numbered r), and_false (eqb c i))) (λ i. refl)

  refused_step : (c : ℕ) (r : Refusal) → After (step c) (outcome (refused r o.called.machine) o.memory o.owners o.holders)
  refused_step c r = carried n zeros o h ws gs ds inv (Err r) None gs (λ i. delivers i (step c) (Err r) (ds i)) (λ i. refl) (λ i. if_same (eqb c i))

  next_give : (c : ℕ) (op : Operation) → After (give c op) (act o (give c op))
  next_give c op =
      by_tested (After (give c op) (act o (give c op))) (give_refusal o.called.machine c op)
      (λ z. let a = give_accepted o.called.machine c op z in
      leaves_as (give c op) _ (give_done o c op z) (given_next n zeros o h ws gs ds inv c op (core_small o.called.machine a.ranges a.core_below) a.idle))
      (λ r z. leaves_as (give c op) _ (give_refused o c op r z) (λ s. refused_give c op r))

  next_poke : (a : GuestAddress) (v : ℕ) → After (poke a v) (act o (poke a v))
  next_poke a v =
      by_tested (After (poke a v) (act o (poke a v))) (word_refusal o.called.machine (length o.memory) a)
      (λ z. leaves_as (poke a v) _ (poke_done o a v z) (poked_next n zeros o h ws gs ds inv a v))
      (λ r z. leaves_as (poke a v) _ (poke_refused o a v r z) (λ s. carried n zeros o h ws gs ds inv (Err r) None gs ds (λ i. refl) (λ i. refl)))

  -- a step that is not refused, by the phase that its core is in
  module _ (c : ℕ) (z : step_refusal o.called.machine (length o.memory) o.owners o.holders c ≡ no_refusal) where
    accepted : StepAccepted o.called.machine (length o.memory) o.owners o.holders c
    accepted = step_accepted o.called.machine (length o.memory) o.owners o.holders c z

    small : c < 8
    small = core_small o.called.machine accepted.ranges accepted.core_below

    entry_there : (a : GuestAddress) → ((entry_of n a).0 < n) × ((entry_of n a).0 < length o.owners) × ((entry_of n a).0 < length o.holders)
    entry_there a =
        let e : (entry_of n a).0 < n = subst (λ (k : ℕ). (entry_of k a).0 < k) inv.same (entry_below o.called.machine.entries a (sizes_fit_lem o.called.machine accepted.ranges).entries) in
        let l = accepted.lengths in
        let s = inv.same in
        (e, omega arith, omega arith)

    -- what stands at an entry
    abbrev ownerHere : GuestAddress → ℕ
    ownerHere a = get_or o.owners (entry_of n a).0 0

    abbrev holderHere : GuestAddress → ℕ
    holderHere a = get_or o.holders (entry_of n a).0 0

    leaves_stepped : (core : Core) (s : MicroStep) → core_at o.called.machine c ≡ core → micro_step c core (ownerHere core.address) (holderHere core.address) (read_word o.memory core.address) ≡ s
        → (Sound (outcome (record { answer = Ok s.answer; made = s.made; machine = with_core o.called.machine c s.core })
        (if s.writes then write_word o.memory core.address core.value else o.memory) (set o.owners (entry_of n core.address).0 s.owner) (set o.holders (entry_of n core.address).0 s.holder))
        → After (step c) (outcome (record { answer = Ok s.answer; made = s.made; machine = with_core o.called.machine c s.core })
        (if s.writes then write_word o.memory core.address core.value else o.memory) (set o.owners (entry_of n core.address).0 s.owner) (set o.holders (entry_of n core.address).0 s.holder)))
        → After (step c) (act o (step c))
    leaves_stepped core s p q f = leaves_as (step c) _ (stepped_as n o c core s inv.same z p q) f

    -- owners and holders that are set to what they were
    marks_kept : (answer : Answer) (made : Option Record) (y : Core) (e : ℕ)
        → outcome (record { answer = Ok answer; made = made; machine = with_core o.called.machine c y }) o.memory (set o.owners e (get_or o.owners e 0)) (set o.holders e (get_or o.holders e 0))
        ≡ outcome (record { answer = Ok answer; made = made; machine = with_core o.called.machine c y }) o.memory o.owners o.holders
    marks_kept answer made y e = λ i. outcome (record { answer = Ok answer; made = made; machine = with_core o.called.machine c y }) o.memory (set-get_or o.owners e 0 i) (set-get_or o.holders e 0 i)

    -- a core that is set to what it was
    machine_same : (y : Core) → core_at o.called.machine c ≡ y → with_core o.called.machine c y ≡ o.called.machine
    machine_same y p =
        let cs = ap (set o.called.machine.cores c) (sym p) ∙ set-get_or o.called.machine.cores c idle in
        λ i. record { cores = cs i; count = o.called.machine.count; bytes = o.called.machine.bytes; entries = o.called.machine.entries }

    -- waiting changes nothing
    abbrev waiting : Locked → MicroStep
    waiting l = stays Waits (picture (asks l) (link_of c h)) (ownerHere (place_of l)) (holderHere (place_of l))

    waited : (l : Locked) → core_at o.called.machine c ≡ picture (asks l) (link_of c h)
        → outcome (record { answer = Ok Waits; made = None; machine = with_core o.called.machine c (picture (asks l) (link_of c h)) }) o.memory
        (set o.owners (entry_of n (place_of l)).0 (ownerHere (place_of l))) (set o.holders (entry_of n (place_of l)).0 (holderHere (place_of l)))
        ≡ outcome (record { answer = Ok Waits; made = None; machine = o.called.machine }) o.memory o.owners o.holders
    waited l p =
        marks_kept Waits None (picture (asks l) (link_of c h)) (entry_of n (place_of l)).0
        ∙ ap (λ (m : Machine). outcome (record { answer = Ok Waits; made = None; machine = m }) o.memory o.owners o.holders) (machine_same (picture (asks l) (link_of c h)) p)

    waits_next : After (step c) (outcome (record { answer = Ok Waits; made = None; machine = o.called.machine }) o.memory o.owners o.holders)
    waits_next = carried n zeros o h ws gs ds inv (Ok Waits) None gs (λ i. delivers i (step c) (Ok Waits) (ds i)) (λ i. refl) (λ i. if_same (eqb c i))

    by_phase : (p : Phase) → CoreOk n zeros o h ws c p (gs c) (ds c) → After (step c) (act o (step c))
    by_phase rests ok = absurd (true≢false (sym accepted.busy ∙ ap (λ (y : Core). y.busy) ok.core))
    by_phase (loads l) ok =
        let a = address_of l.operation in
        let answer = Done (Answered.Load (read_word o.memory a)) in
        let kept = marks_kept answer (Some (access_of c l.operation false (read_word o.memory a))) (picture rests (link_of c h)) (entry_of n a).0 in
        leaves_stepped (picture (loads l) (link_of c h)) _ ok.core (load_step_lem c (link_of c h) (ownerHere a) (holderHere a) (read_word o.memory a) l)
        (λ s. subst (After (step c)) (sym kept) (loaded_next n zeros o h ws gs ds inv c l small ok (subst Sound kept s)))
    by_phase (asks l) ok = free_or_not (eqb (holderHere (place_of l)) 0) refl
      where
        step_one : micro_step c (picture (asks l) (link_of c h)) (ownerHere (place_of l)) (holderHere (place_of l)) (read_word o.memory (place_of l))
            ≡ (if eqb (holderHere (place_of l)) 0 then moves (picture (holds l) (link_of c h)) (ownerHere (place_of l)) (written c) else waiting l)
        step_one = ask_step c (link_of c h) (ownerHere (place_of l)) (holderHere (place_of l)) (read_word o.memory (place_of l)) l

        free_or_not : (t : Bool) → eqb (holderHere (place_of l)) 0 ≡ t → After (step c) (act o (step c))
        free_or_not true e =
            let there = entry_there (place_of l) in
            let none = eqb-true (holderHere (place_of l)) 0 e in
            leaves_stepped (picture (asks l) (link_of c h)) (moves (picture (holds l) (link_of c h)) (ownerHere (place_of l)) (written c)) ok.core (step_one ∙ rw e)
            (lock_next n zeros o h ws gs ds inv c small accepted.core_below (entry_of n (place_of l)).0 there.1 there.2 (inl none) l refl there.0 none ok)
        free_or_not false e =
            leaves_stepped (picture (asks l) (link_of c h)) (waiting l) ok.core (step_one ∙ rw e) (λ s. subst (After (step c)) (sym (waited l ok.core)) waits_next)
    by_phase (holds l) ok =
        let there = entry_there (place_of l) in
        leaves_stepped (picture (holds l) (link_of c h)) _ ok.core (hold_step c (link_of c h) (ownerHere (place_of l)) (holderHere (place_of l)) (read_word o.memory (place_of l)) l)
        (mark_next n zeros o h ws gs ds inv c small accepted.core_below (entry_of n (place_of l)).0 there.1 there.2 (inr ok.table.0) l refl ok ok.table)
    by_phase (reaches l passed) ok =
        let there = entry_there (place_of l) in
        leaves_stepped (picture (reaches l passed) (link_of c h)) _ ok.core (reach_step c (link_of c h) (ownerHere (place_of l)) (holderHere (place_of l)) (read_word o.memory (place_of l)) l passed)
        (access_next n zeros o h ws gs ds inv c small accepted.core_below (entry_of n (place_of l)).0 there.1 there.2 (inr ok.table.0) l passed refl ok (ok.table.0, ok.table.1)
        (judged_right (entry_of n) h c l passed ok.table.2))
    by_phase (ends l passed read) ok =
        let there = entry_there (place_of l) in
        leaves_stepped (picture (ends l passed read) (link_of c h)) _ ok.core (leave_step_lem c (link_of c h) (ownerHere (place_of l)) (holderHere (place_of l)) (read_word o.memory (place_of l)) l passed read)
        (leave_next n zeros o h ws gs ds inv c small accepted.core_below (entry_of n (place_of l)).0 there.1 there.2 (inr ok.table.0) l passed read refl ok ok.table)

  next_step : (c : ℕ) → After (step c) (act o (step c))
  next_step c =
      by_tested (After (step c) (act o (step c))) (step_refusal o.called.machine (length o.memory) o.owners o.holders c)
      (λ z. by_phase c z (inv.phase c) (inv.cores c))
      (λ r z. leaves_as (step c) _ (step_refused o c r z) (λ s. refused_step c r))

  pub next : (call : Call) → After call (act o call)
  next (give c op) = next_give c op
  next (step c) = next_step c
  next (poke a v) = next_poke a v

-- the fresh machine
zero_anywhere : (k e : ℕ) → ◌≡◌ {A = ℕ} (get_or (replicate k 0) e 0) 0
zero_anywhere zero e = refl
zero_anywhere (suc k) zero = refl
zero_anywhere (suc k) (suc e) = zero_anywhere k e

fresh_inv : (count : ℕ) (memory owners holders : List ℕ) → start_refusal count (length memory) (length owners) (length holders) ≡ no_refusal
    → Inv (length owners) (replicate (length memory) 0) (started count memory owners holders) [] [] (λ i. []) (λ i. [])
unfolding refer operations_of answers_of link_of owner_of
fresh_inv count memory owners holders z =
    record {
      sound = started_sound count memory owners holders (start_accepted count (length memory) (length owners) (length holders) z);
      eight = refl;
      same = refl;
      memory = refl;
      history = refl;
      phase = λ i. rests;
      cores = λ i. record { core = idle_anywhere 8 i; table = tt; lists = (refl, refl); held = λ e q. no_mark i (sym (zero_anywhere (length holders) e) ∙ q) };
      owners_small = λ e. rw (zero_anywhere (length owners) e) (omega arith);
      holders_small = λ e. rw (zero_anywhere (length holders) e) (omega arith);
      free = λ e l q. zero_anywhere (length owners) e;
    }

started_as : (count : ℕ) (memory owners holders : List ℕ) → start_refusal count (length memory) (length owners) (length holders) ≡ no_refusal → start_of count memory owners holders ≡ started count memory owners holders
unfolding start_of
started_as count memory owners holders z = rw z

module _ (fresh : Outcome) (f : Fresh fresh) where
  pub started_inv : Inv fresh.called.machine.entries fresh.memory fresh [] [] (λ i. []) (λ i. [])
  started_inv =
      subst (λ (x : Outcome). Inv x.called.machine.entries x.memory x [] [] (λ i. []) (λ i. [])) (sym (f.started ∙ started_as f.count f.memory f.owners f.holders f.accepted))
      (fresh_inv f.count f.memory f.owners f.holders f.accepted)

  pub run_inv : (calls : List Call) → Inv fresh.called.machine.entries fresh.memory (after fresh calls) (records fresh calls) (in_order fresh calls) (λ i. given_to fresh i calls) (λ i. delivered_to fresh i calls)
  unfolding after records in_order given_to delivered_to
  run_inv [] = started_inv
  run_inv (call ∷ calls) =
      next fresh.called.machine.entries fresh.memory (after fresh calls) (records fresh calls) (in_order fresh calls) (λ i. given_to fresh i calls) (λ i. delivered_to fresh i calls) (run_inv calls) call
