-- Of a machine in its ranges, a step that is answered for a caller that knows it to be so is the rules' step.
-- Assumes nothing.
use Rattle.std.proofs.Common.{◌≡◌, ℕ, ◌+◌, ◌%◌, ◌<◌, Bool, true, false, not, eqb, ltb, leb, List, Result, Err, length, sym, refl, ap, ◌∙◌, arith, ltb-true, lt-ltb, eqb-true, le-leb, leb-false, leb-true, if◌then◌else◌}
use borrow.Author.Tests.{not-false}
use Rattle.rules.specs.Refusals.{Tested, no_refusal, number_in}
use Rattle.rules.specs.Life.{micro_step}
use Rattle.rules.specs.Ranges.{core_at, in_ranges, damaged}
use Rattle.rules.specs.Calls.{Outcome, outcome, lent_fits, entry_at, mark_at, step_refusal, step_of, stepped, micro_step_at}
use Rattle.rules.specs.declared.cores.Core.{Core}
use Rattle.rules.specs.declared.cores.MicroStep.{MicroStep}
use Rattle.rules.specs.declared.state.Machine.{Machine}
use Rattle.rules.specs.declared.refusals.Refusal.{Refusal}
use Rattle.rules.specs.declared.refusals.Refusal.TheVariants.{NoSuchCore, LentLengths, OutOfRange, Damaged, Idle}
use Rattle.rules.proofs.Bools.{and₃, passed_over}
use Rattle.rules.proofs.Accepted.{sizes_fit_lem, entry_below, core_small, core_fits_lem, fits, word_inside, busy_inside, step_accepted}
use Rattle.rules.proofs.Numbers.{numbered, step_number}
use Rattle.machine.specs.declared.sizes.Sizes.{Sizes}
use Rattle.machine.specs.Sizes.{sizes_of}
use Rattle.machine.specs.Step.{lent_are, entry_for, reaches, known_step_refusal, Reach, step_core_outcome, step_core_of, called_by_step, outcome_by_step}
use Rattle.machine.specs.Known.{picked}
use Rattle.machine.proofs.Refusing.{own_pick, alike, not_5}

-- one of the eight steps as itself
pub own_step : (core : ℕ) (c : Core) (owner holder word : ℕ) → core < 8 → micro_step (core % 8) c owner holder word ≡ micro_step core c owner holder word
own_step core c owner holder word l = ap (λ (me : ℕ). micro_step me c owner holder word) (own_pick l)

-- a step that is not refused reaches what is there
pub step_reach : (s : Sizes) (c : Core) (memory : ℕ) (owners holders : List ℕ) (core : ℕ) → known_step_refusal s c memory owners holders core ≡ no_refusal
    → Reach c (entry_for s c) memory owners holders core
unfolding known_step_refusal
step_reach s c memory owners holders core h =
    let hurt = damaged s.count core c (mark_at owners (entry_for s c)) (mark_at holders (entry_for s c)) in
    let k₄ : Tested = if hurt then Err Damaged else no_refusal in
    let k₃ : Tested = if not (reaches s c core) then Err OutOfRange else k₄ in
    let k₂ : Tested = if not c.busy then Err Idle else k₃ in
    let k₁ : Tested = if leb s.count core then Err NoSuchCore else k₂ in
    let t₀ = passed_over (not (lent_are s memory (length owners) (length holders))) LentLengths k₁ h in
    let t₁ = passed_over (leb s.count core) NoSuchCore k₂ t₀.1 in
    let t₂ = passed_over (not c.busy) Idle k₃ t₁.1 in
    let t₃ = passed_over (not (reaches s c core)) OutOfRange k₄ t₂.1 in
    let l = and₃ (eqb memory s.bytes) (eqb (length owners) s.entries) (eqb (length holders) s.entries) (not-false _ t₀.0) in
    let r = and₃ (ltb core 8) (ltb (entry_for s c).0 s.entries) (leb (c.address.0 + 4) s.bytes) (not-false _ t₃.0) in
    let l₀ = eqb-true memory s.bytes l.0 in
    let l₁ = eqb-true (length owners) s.entries l.1 in
    let l₂ = eqb-true (length holders) s.entries l.2 in
    let r₁ = ltb-true (entry_for s c).0 s.entries r.1 in
    let r₂ = leb-true (c.address.0 + 4) s.bytes r.2 in
    record { core_small = ltb-true core 8 r.0; owner_there = omega arith; holder_there = omega arith; word_there = omega arith }

module _ (m : Machine) (ranges : in_ranges m ≡ true) where
  -- a busy core reaches what is there
  busy_reaches : (core : ℕ) → core < m.count → (core_at m core).busy ≡ true → reaches (sizes_of m) (core_at m core) core ≡ true
  busy_reaches core below busy =
      let s = sizes_fit_lem m ranges in
      let small = core_small m ranges below in
      let f = fits m.count m.bytes core (core_at m core) (core_fits_lem m ranges core small) in
      let w = word_inside (core_at m core).address s.words (busy_inside (core_at m core) f busy) in
      let e = entry_below m.entries (core_at m core).address s.entries in
      rw (lt-ltb _ _ small, lt-ltb _ _ e, le-leb _ _ w)

  step_same : (core memory : ℕ) (owners holders : List ℕ) → known_step_refusal (sizes_of m) (picked m core) memory owners holders core ≡ step_refusal m memory owners holders core
  unfolding known_step_refusal step_refusal
  step_same core memory owners holders = go (leb m.count core) refl (core_at m core).busy refl
    where
      go : (t : Bool) → leb m.count core ≡ t → (b : Bool) → (core_at m core).busy ≡ b
          → known_step_refusal (sizes_of m) (picked m core) memory owners holders core ≡ step_refusal m memory owners holders core
      go true e b p = rw (ranges, e)
      go false e false p = rw (own_pick (core_small m ranges (leb-false _ _ e)), ranges, e, p)
      go false e true p = rw (own_pick (core_small m ranges (leb-false _ _ e)), ranges, e, p, busy_reaches core (leb-false _ _ e) p)

  -- and none is refused as out of range
  pub no_step_5 : (core memory : ℕ) (owners holders : List ℕ) → known_step_refusal (sizes_of m) (picked m core) memory owners holders core ≡ Err OutOfRange → ⊥
  unfolding step_refusal
  no_step_5 core memory owners holders h =
      let hurt = damaged m.count core (core_at m core) (mark_at owners (entry_at m core)) (mark_at holders (entry_at m core)) in
      let k₃ : Tested = if hurt then Err Damaged else no_refusal in
      let k₂ : Tested = if not (core_at m core).busy then Err Idle else k₃ in
      let k₁ : Tested = if leb m.count core then Err NoSuchCore else k₂ in
      not_5 (not (lent_fits m memory (length owners) (length holders))) LentLengths k₁ (λ e. cc)
      (not_5 (leb m.count core) NoSuchCore k₂ (λ e. cc) (not_5 (not (core_at m core).busy) Idle k₃ (λ e. cc) (not_5 hurt Damaged no_refusal (λ e. cc) (λ e. cc))))
      (rw ranges at (sym (step_same core memory owners holders) ∙ h))

  module _ (core : ℕ) (memory owners holders : List ℕ) where
    pub step_is : outcome_by_step m core (step_core_of (sizes_of m) (picked m core) memory owners holders core) ≡ step_of m memory owners holders core
    unfolding step_core_of step_of stepped micro_step_at
    step_is =
        alike (outcome_by_step m core) (step_same core (length memory) owners holders) (λ r. refl)
        (λ e. rw (own_pick (core_small m ranges (step_accepted m (length memory) owners holders core e).core_below)))

    -- and so what `step_in_place` makes of it is the rules', by its number too
    pub step_put : (memory' owners' holders' : List ℕ) (step : Result MicroStep Refusal)
        → step_core_outcome step memory' owners' holders' ≡ step_core_of (sizes_of m) (picked m core) memory owners holders core
        → (number_in (called_by_step m core step).answer ≡ number_in (step_refusal m (length memory) owners holders core))
        × (outcome (called_by_step m core step) memory' owners' holders' ≡ step_of m memory owners holders core)
    step_put memory' owners' holders' step e =
        numbered (λ (o : Outcome). o.called.answer) (step_number m memory owners holders core) (ap (outcome_by_step m core) e ∙ step_is)
