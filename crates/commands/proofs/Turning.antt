-- A command on its one core is what the rules say that it does, of a machine in its ranges; and what a command leaves is in its ranges again.
-- Assumes nothing.
use Rattle.std.specs.Prelude.{Option, Some, None, IfSome, unwrap_or, Result, Ok, Err, is_ok}
use Rattle.std.specs.Option.{option_map_or}
use Rattle.std.proofs.lemmas.Option.{same_Some}
use mathlib.Core.Logic.{◌⊎◌, inl, inr}
use Rattle.std.proofs.Common.{if◌then◌else◌}
use mathlib.Core.Path.{◌≡◌, refl, ap, ◌∙◌, sym, subst}
use mathlib.Core.Bool.{Bool, true, false}
use mathlib.Core.List.{List}
use Prim.Native.Nat.{ℕ, ◌%◌}
use lib.ListN.{length, take, replicate, length-replicate}
use lib.Seq.{set-get_or}
use lib.Dec.{eqb}
use borrow.Author.Tests.{eqb-true, eqb-false, eq-eqb}
use Rattle.rules.specs.Refusals.{number_in, Tested, unless_refused}
use Rattle.rules.specs.Word.{read_word}
use Rattle.rules.specs.Life.{idle}
use Rattle.rules.specs.Ranges.{in_ranges}
use Rattle.rules.specs.Calls.{Outcome, refused, answered, poke_outcome, poked, with_core, start_of, give_of, step_of, poke_of, show_of, word_refusal, lent_fits}
use Rattle.rules.specs.declared.entry.GuestAddress.{GuestAddress}
use Rattle.rules.specs.declared.operations.Operation.{Operation}
use Rattle.rules.specs.declared.answers.Answer.{Answer}
use Rattle.rules.specs.declared.answers.Answer.TheVariants.{Taken, Poked, Word}
use Rattle.rules.specs.declared.answers.Record.{Record}
use Rattle.rules.specs.declared.refusals.Refusal.{Refusal}
use Rattle.rules.specs.declared.refusals.Refusal.TheVariants.{LentLengths, NoMachine}
use Rattle.rules.specs.declared.cores.Core.{Core}
use Rattle.rules.specs.declared.cores.MicroStep.{MicroStep}
use Rattle.rules.specs.declared.state.Machine.{Machine}
use Rattle.rules.specs.declared.state.Called.{Called}
use Rattle.rules.proofs.Lawful.{range_laws, refusal_laws}
use Rattle.machine.specs.Sizes.{sizes_of}
use Rattle.machine.specs.declared.calls.step.Stepped.{Stepped}
use Rattle.machine.specs.Give.{give_core_of, called_by_give}
use Rattle.machine.specs.Step.{step_core_of, called_by_step}
use Rattle.machine.specs.PokeShow.{poke_word_of, called_by_poke, show_word_of, called_by_show}
use Rattle.machine.specs.Known.{picked, AsTheRules}
use Rattle.machine.proofs.Knowing.{known_calls}
use Rattle.commands.specs.Effect.{LineOutcome, line_outcome, beside, running, line_refused, line_called, session_started, new_fits, line_started, new_of, usual_entries}
use Rattle.commands.specs.Effect.{once_begun, give_line, line_stepped, step_line, line_poked, poke_line, show_line, run_command}
use Rattle.commands.specs.Turns.{set_up, one_core, did, if_done, TurnOutcome, turn_outcome, give_turn, step_turn, poke_turn, show_turn, act_on}
use Rattle.commands.specs.Turns.{put_back, put_by, on_one_core, line_in_place, run_in_place, Sound, LineIsDone, LinesAreDone}
use Rattle.commands.specs.declared.grammar.Command.{Command}
use Rattle.commands.specs.declared.grammar.Command.TheVariants.{New, Give, Step, Poke, Show}
use Rattle.commands.specs.declared.effect.Session.{Session}

module _ (m : Machine) (ranges : in_ranges m ≡ true) (memory owners holders : List ℕ) where
  rules : AsTheRules m
  rules = known_calls m ranges

  -- the machine with its own core in its place is the machine
  own_core : (i : ℕ) → with_core m (i % 8) (picked m i) ≡ m
  own_core i = λ j. record { cores = set-get_or m.cores (i % 8) idle j; count = m.count; bytes = m.bytes; entries = m.entries }

  by_give : (core : ℕ) (r : Result Core Refusal) → put_back m core (if_done (did Taken None) r) memory owners holders ≡ line_called (called_by_give m core r) memory owners holders
  by_give core (Ok c) = refl
  by_give core (Err refusal) = refl

  give_line_is : (core : ℕ) (o : Operation) → put_back m core (give_turn (sizes_of m) (picked m core) core o) memory owners holders ≡ give_line m memory owners holders core o
  give_line_is core o = by_give core (give_core_of (sizes_of m) (picked m core) core o) ∙ ap (λ (c : Called). line_called c memory owners holders) (rules.give_is core o)

  by_step : (core : ℕ) (r : Result MicroStep Refusal) (m' o' h' : List ℕ)
      → put_back m core (if_done (λ t. did t.answer t.made t.core) r) m' o' h' ≡ line_called (called_by_step m core r) m' o' h'
  by_step core (Ok t) m' o' h' = refl
  by_step core (Err refusal) m' o' h' = refl

  step_line_is : (core : ℕ) → put_by m core (step_turn (sizes_of m) (picked m core) memory owners holders core) ≡ step_line m memory owners holders core
  step_line_is core =
      let a = step_core_of (sizes_of m) (picked m core) (take m.bytes memory) (take m.entries owners) (take m.entries holders) core in
      by_step core a.step (beside m.bytes a.memory memory) (beside m.entries a.owners owners) (beside m.entries a.holders holders)
      ∙ ap (line_stepped m memory owners holders) (rules.step_is core (take m.bytes memory) (take m.entries owners) (take m.entries holders))

  by_poke : (r : Result Record Refusal) (m' : List ℕ)
      → put_back m 0 (if_done (λ made. did Poked (Some made) (picked m 0)) r) m' owners holders ≡ line_called (called_by_poke m r) m' owners holders
  by_poke (Ok made) m' = λ i. record { answer = Ok Poked; made = Some made; session = running (own_core 0 i); memory = m'; owners = owners; holders = holders }
  by_poke (Err refusal) m' = refl

  abbrev poking : GuestAddress → ℕ → TurnOutcome
  poking a v = turn_outcome (poke_turn m.bytes (picked m 0) memory a v).did (poke_turn m.bytes (picked m 0) memory a v).memory owners holders

  poke_line_is : (a : GuestAddress) (v : ℕ) → put_by m 0 (poking a v) ≡ poke_line m memory owners holders a v
  poke_line_is a v =
      let p = poke_word_of m.bytes (take m.bytes memory) a v in
      by_poke p.made (beside m.bytes p.memory memory) ∙ ap (line_poked m memory owners holders) (rules.poke_is (take m.bytes memory) a v)

  by_show : (r : Result ℕ Refusal) → put_back m 0 (if_done (λ word. did (Word word) None (picked m 0)) r) memory owners holders ≡ line_called (called_by_show m r) memory owners holders
  by_show (Ok word) = λ i. record { answer = Ok (Word word); made = None; session = running (own_core 0 i); memory = memory; owners = owners; holders = holders }
  by_show (Err refusal) = refl

  show_line_is : (a : GuestAddress) → put_back m 0 (show_turn m.bytes (picked m 0) memory a) memory owners holders ≡ show_line m memory owners holders a
  show_line_is a = by_show (show_word_of m.bytes (take m.bytes memory) a) ∙ ap (λ (c : Called). line_called c memory owners holders) (rules.show_is (take m.bytes memory) a)

  on_its_core : (command : Option Command) (core : ℕ) → one_core command ≡ Some core
      → put_by m core (act_on (sizes_of m) (picked m core) memory owners holders command) ≡ run_command (running m) memory owners holders command
  unfolding act_on run_command
  on_its_core None core h = absurd (cc)
  on_its_core (Some (New cores b entries)) core h = absurd (cc)
  on_its_core (Some (Give c o)) core h = rw (← same_Some c core h) (give_line_is c o)
  on_its_core (Some (Step c)) core h = rw (← same_Some c core h) (step_line_is c)
  on_its_core (Some (Poke a v)) core h = rw (← same_Some 0 core h) (poke_line_is a v)
  on_its_core (Some (Show a)) core h = rw (← same_Some 0 core h) (show_line_is a)

-- where no machine stands, or the command is for none
module _ (session : Session) (memory owners holders : List ℕ) where
  before : (o : Option ℕ) (run : Machine → LineOutcome) → (session.machine ≡ None) ⊎ (o ≡ None) → (o ≡ None → ⊥)
      → line_refused NoMachine session memory owners holders ≡ once_begun session memory owners holders run
  before o run (inl none) some = ap (λ (k : Option Machine). option_map_or run k (line_refused NoMachine session memory owners holders)) (sym none)
  before o run (inr none) some = absurd (some none)

  setting_up : (command : Option Command) → (session.machine ≡ None) ⊎ (one_core command ≡ None)
      → set_up session memory owners holders command ≡ run_command session memory owners holders command
  unfolding set_up run_command
  setting_up None h = refl
  setting_up (Some (New cores b entries)) h = refl
  setting_up (Some (Give core o)) h = before (Some core) (λ m. give_line m memory owners holders core o) h (λ e. absurd (cc))
  setting_up (Some (Step core)) h = before (Some core) (λ m. step_line m memory owners holders core) h (λ e. absurd (cc))
  setting_up (Some (Poke a v)) h = before (Some 0) (λ m. poke_line m memory owners holders a v) h (λ e. absurd (cc))
  setting_up (Some (Show a)) h = before (Some 0) (λ m. show_line m memory owners holders a) h (λ e. absurd (cc))

-- a call that is accepted, or refused, leaves a machine in its ranges
either : (answer : Result Answer Refusal) (P : Type 0) → (number_in answer ≡ 0 → P) → ((number_in answer ≡ 0 → ⊥) → P) → P
either answer P taken refused = go (eqb (number_in answer) 0) refl
  where
    go : (t : Bool) → eqb (number_in answer) 0 ≡ t → P
    go true e = taken (eqb-true (number_in answer) 0 e)
    go false e = refused (eqb-false (number_in answer) 0 e)

give_sound : (m : Machine) (core : ℕ) (o : Operation) → in_ranges m ≡ true → in_ranges (give_of m core o).machine ≡ true
give_sound m core o h =
    let memory = replicate {A = ℕ} m.bytes 0 in
    let table = replicate {A = ℕ} m.entries 0 in
    let lent : lent_fits m (length memory) (length table) (length table) ≡ true
    = rw (eq-eqb _ _ (length-replicate {A = ℕ} m.bytes 0), eq-eqb _ _ (length-replicate {A = ℕ} m.entries 0)) in
    either (give_of m core o).answer (in_ranges (give_of m core o).machine ≡ true)
    (λ a. (range_laws.give_sound m core o memory table table lent a).ranges)
    (λ r. ap in_ranges (refusal_laws.give_as_found m core o memory table table r).machine_as_found ∙ h)

step_sound : (m : Machine) (memory owners holders : List ℕ) (core : ℕ) → in_ranges m ≡ true → in_ranges (step_of m memory owners holders core).called.machine ≡ true
step_sound m memory owners holders core h =
    either (step_of m memory owners holders core).called.answer (in_ranges (step_of m memory owners holders core).called.machine ≡ true)
    (λ a. (range_laws.step_sound m memory owners holders core a).ranges)
    (λ r. ap in_ranges (refusal_laws.step_as_found m memory owners holders core r).machine_as_found ∙ h)

poke_same : (m : Machine) (memory : List ℕ) (a : GuestAddress) (v : ℕ) → (poke_of m memory a v).called.machine ≡ m
unfolding poke_of
poke_same m memory a v = go (word_refusal m (length memory) a)
  where
    go : (t : Tested) → (unless_refused t (λ n. poke_outcome (refused n m) memory) (poked m memory a v)).called.machine ≡ m
    go (Ok _) = refl
    go (Err refusal) = refl

show_same : (m : Machine) (memory : List ℕ) (a : GuestAddress) → (show_of m memory a).machine ≡ m
unfolding show_of
show_same m memory a = go (word_refusal m (length memory) a)
  where
    go : (t : Tested) → (unless_refused t (λ n. refused n m) (answered (Word (read_word memory a)) m)).machine ≡ m
    go (Ok _) = refl
    go (Err refusal) = refl

module _ (session : Session) (sound : Sound session) (memory owners holders : List ℕ) where
  once_sound : (run : Machine → LineOutcome) → ((m : Machine) → in_ranges m ≡ true → Sound (run m).session) → Sound (once_begun session memory owners holders run).session
  once_sound run f = go session.machine sound
    where
      go : (o : Option Machine) → IfSome o (λ m. in_ranges m ≡ true) → Sound (option_map_or run o (line_refused NoMachine session memory owners holders)).session
      go None s = sound
      go (Some m) s = f m s

  started_sound : (called : Called) → (number_in called.answer ≡ 0 → in_ranges called.machine ≡ true) → Sound (session_started session called)
  started_sound called f = go called.answer f
    where
      go : (answer : Result Answer Refusal) → (number_in answer ≡ 0 → in_ranges called.machine ≡ true) → Sound (if is_ok answer then running called.machine else session)
      go (Ok _) f = f refl
      go (Err _) f = sound

  new_sound : (cores bytes entries : ℕ) → Sound (new_of session memory owners holders cores bytes entries).session
  unfolding new_of
  new_sound cores bytes entries = go (new_fits bytes entries (length memory) (length owners) (length holders))
    where
      o : Outcome
      o = start_of cores (take bytes memory) (take entries owners) (take entries holders)

      go : (t : Bool) → Sound (if t then line_started session bytes entries memory owners holders o else line_refused LentLengths session memory owners holders).session
      go true = started_sound o.called (λ a. (range_laws.start_sound cores (take bytes memory) (take entries owners) (take entries holders) a).ranges)
      go false = sound

  stays_sound : (command : Option Command) → Sound (run_command session memory owners holders command).session
  unfolding run_command
  stays_sound None = sound
  stays_sound (Some (New cores bytes entries)) = new_sound cores bytes (unwrap_or entries usual_entries)
  stays_sound (Some (Give core o)) = once_sound (λ m. give_line m memory owners holders core o) (λ m h. give_sound m core o h)
  stays_sound (Some (Step core)) =
      once_sound (λ m. step_line m memory owners holders core) (λ m h. step_sound m (take m.bytes memory) (take m.entries owners) (take m.entries holders) core h)
  stays_sound (Some (Poke a v)) = once_sound (λ m. poke_line m memory owners holders a v) (λ m h. ap in_ranges (poke_same m (take m.bytes memory) a v) ∙ h)
  stays_sound (Some (Show a)) = once_sound (λ m. show_line m memory owners holders a) (λ m h. ap in_ranges (show_same m (take m.bytes memory) a) ∙ h)

pub lines_are_done : LinesAreDone
lines_are_done session memory owners holders command sound =
    record {
      on_its_core = λ m core e one.
          let P : Option Machine → Type 0 = λ o. IfSome o (λ n. in_ranges n ≡ true) in
          on_its_core m (subst P e sound) memory owners holders command core one
          ∙ ap (λ (o : Option Machine). run_command (record { machine = o }) memory owners holders command) (sym e);
      is_set_up = setting_up session memory owners holders command;
      stays_sound = stays_sound session sound memory owners holders command;
    }

-- where the machine stands
pub in_place_is : (session : Session) (memory owners holders : List ℕ) (command : Option Command) → Sound session
    → run_in_place session memory owners holders command ≡ run_command session memory owners holders command
unfolding run_in_place
in_place_is session memory owners holders command sound = go session.machine refl (one_core command) refl
  where
    line : LineIsDone session memory owners holders command
    line = lines_are_done session memory owners holders command sound

    go : (o : Option Machine) → session.machine ≡ o → (one : Option ℕ) → one_core command ≡ one
        → on_one_core o one (λ m core. line_in_place m memory owners holders core command) (set_up session memory owners holders command)
        ≡ run_command session memory owners holders command
    go (Some m) e (Some core) h = line.on_its_core m core e h
    go (Some m) e None h = line.is_set_up (inr h)
    go None e one h = line.is_set_up (inl e)

pub in_place_sound : (session next : Session) (memory owners holders : List ℕ) (command : Option Command) (stepped : Stepped) (m' o' h' : List ℕ)
    → line_outcome stepped next m' o' h' ≡ run_in_place session memory owners holders command → Sound session → Sound next
in_place_sound session next memory owners holders command stepped m' o' h' e sound =
    let left : line_outcome stepped next m' o' h' ≡ run_command session memory owners holders command = e ∙ in_place_is session memory owners holders command sound in
    subst Sound (sym (ap (λ (o : LineOutcome). o.session) left)) (lines_are_done session memory owners holders command sound).stays_sound
