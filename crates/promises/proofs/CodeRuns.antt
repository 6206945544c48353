-- Each call that the code makes in a run is the rules' act.
-- Assumes nothing.
use Rattle.std.proofs.Common.{◌≡◌, ℕ, List, [], ◌∷◌, inl, inr, sym, ap, ◌∙◌}
use Rattle.rules.specs.Refusals.{number_in}
use Rattle.rules.specs.Calls.{Outcome, outcome, PokeOutcome, start_of, give_of, step_of, poke_of}
use Rattle.rules.specs.Runs.{Call, give, step, poke, act, Fresh, after}
use Rattle.rules.specs.declared.entry.GuestAddress.{GuestAddress}
use Rattle.rules.specs.declared.operations.Operation.{Operation}
use Rattle.rules.specs.declared.state.Machine.{Machine}
use Rattle.rules.specs.declared.state.Called.{Called}
use Rattle.rules.proofs.Numbers.{not_refused, start_number}
use Rattle.promises.specs.MachineReadings.{StartLeaves, GiveLeaves, GiveInPlaceLeaves, StepLeaves, StepInPlaceLeaves, PokeLeaves}
use Rattle.promises.specs.CodeRuns.{Begins, Makes, RunsTo, CodeRuns}
use Rattle.promises.proofs.MachineCalls.{machine_as_the_rules}

-- what each leaves is the rule's, of what it was handed
start_left : (count : ℕ) (memory owners holders : List ℕ) (x : Outcome) → StartLeaves count memory owners holders x → x ≡ start_of count memory owners holders
start_left count memory owners holders x l =
    let h = l.handed in
    l.left ∙ machine_as_the_rules.start_is l.κs l.a l.result l.exit l.allowed ∙ (λ i. start_of (h.0 i) (h.1 i) (h.2 i) (h.3 i))

module _ (m : Machine) where
  give_left : (core : ℕ) (o : Operation) (x : Called) → GiveLeaves m core o x → x ≡ give_of m core o
  give_left core o x l = let h = l.handed in l.left ∙ machine_as_the_rules.give_is l.κs l.a l.result l.exit l.allowed ∙ (λ i. give_of (h.0 i) (h.1 i) (h.2 i))

  give_in_place_left : (core : ℕ) (o : Operation) (x : Called) → GiveInPlaceLeaves m core o x → x ≡ give_of m core o
  give_in_place_left core o x l = let h = l.handed in l.left ∙ machine_as_the_rules.give_in_place_is l.κs l.a l.result l.exit l.allowed ∙ (λ i. give_of (h.0 i) (h.1 i) (h.2 i))

  step_left : (memory owners holders : List ℕ) (core : ℕ) (x : Outcome) → StepLeaves m memory owners holders core x → x ≡ step_of m memory owners holders core
  step_left memory owners holders core x l =
      let h = l.handed in l.left ∙ machine_as_the_rules.step_is l.κs l.a l.result l.exit l.allowed ∙ (λ i. step_of (h.0 i) (h.1 i) (h.2 i) (h.3 i) (h.4 i))

  step_in_place_left : (memory owners holders : List ℕ) (core : ℕ) (x : Outcome) → StepInPlaceLeaves m memory owners holders core x → x ≡ step_of m memory owners holders core
  step_in_place_left memory owners holders core x l =
      let h = l.handed in l.left ∙ machine_as_the_rules.step_in_place_is l.κs l.a l.result l.exit l.allowed ∙ (λ i. step_of (h.0 i) (h.1 i) (h.2 i) (h.3 i) (h.4 i))

  poke_left : (memory : List ℕ) (a : GuestAddress) (v : ℕ) (x : PokeOutcome) → PokeLeaves m memory a v x → x ≡ poke_of m memory a v
  poke_left memory a v x l = let h = l.handed in l.left ∙ machine_as_the_rules.poke_is l.κs l.a l.result l.exit l.allowed ∙ (λ i. poke_of (h.0 i) (h.1 i) (h.2 i) (h.3 i))

begins_fresh : (o : Outcome) → Begins o → Fresh o
begins_fresh o b =
    let e = start_left b.count b.memory b.owners b.holders o b.started in
    record {
      count = b.count;
      memory = b.memory;
      owners = b.owners;
      holders = b.holders;
      accepted = not_refused _ (sym (start_number b.count b.memory b.owners b.holders) ∙ ap (λ (x : Outcome). number_in x.called.answer) (sym e) ∙ b.accepted);
      started = e;
    }

call_acts : (o x : Outcome) (call : Call) → Makes o call x → x ≡ act o call
unfolding act
call_acts o x (give core op) (called, inl l, e) = e ∙ ap (λ (c : Called). outcome c o.memory o.owners o.holders) (give_left o.called.machine core op called l)
call_acts o x (give core op) (called, inr l, e) = e ∙ ap (λ (c : Called). outcome c o.memory o.owners o.holders) (give_in_place_left o.called.machine core op called l)
call_acts o x (step core) (inl l) = step_left o.called.machine o.memory o.owners o.holders core x l
call_acts o x (step core) (inr l) = step_in_place_left o.called.machine o.memory o.owners o.holders core x l
call_acts o x (poke a v) (p, l, e) = e ∙ ap (λ (q : PokeOutcome). outcome q.called q.memory o.owners o.holders) (poke_left o.called.machine o.memory a v p l)

runs : (fresh x : Outcome) (calls : List Call) → RunsTo fresh calls x → x ≡ after fresh calls
unfolding after
runs fresh x [] e = e
runs fresh x (call ∷ calls) (o, before, made) = call_acts o x call made ∙ ap (λ (y : Outcome). act y call) (runs fresh o calls before)

pub code_runs : CodeRuns
code_runs = record { begins_fresh = begins_fresh; call_acts = call_acts; runs = runs }
