-- A refused line leaves what it found, by the rules and where the machine stands.
-- Assumes nothing.
use Rattle.std.specs.Prelude.{Option, Some, None, unwrap_or, Result, Ok, Err}
use Rattle.std.specs.Option.{option_map_or}
use mathlib.Core.Path.{◌≡◌, refl, ap, ◌∙◌, sym, subst}
use mathlib.Core.List.{List}
use Prim.Native.Nat.{ℕ}
use lib.ListN.{length, take, take-append-drop}
use Rattle.rules.specs.Refusals.{number_in, Tested, unless_refused}
use Rattle.rules.specs.Word.{write_word}
use Rattle.rules.specs.Calls.{Outcome, outcome, PokeOutcome, poke_record, give_of, step_of, poke_of, show_of}
use Rattle.rules.specs.Laws.{AsFound}
use Rattle.rules.specs.declared.refusals.Refusal.{Refusal}
use Rattle.rules.specs.declared.refusals.Refusal.TheVariants.{NotUnderstood, NoMachine}
use Rattle.rules.specs.declared.entry.GuestAddress.{GuestAddress}
use Rattle.rules.specs.declared.cores.Core.{Core}
use Rattle.rules.specs.declared.state.Machine.{Machine}
use Rattle.rules.specs.declared.state.Called.{Called}
use Rattle.rules.proofs.Lawful.{refusal_laws}
use Rattle.machine.specs.Sizes.{sizes_of}
use Rattle.machine.specs.Step.{known_step_refusal, step_core_outcome, entry_for, core_stepped, core_step, step_core_of}
use Rattle.machine.specs.PokeShow.{known_word_refusal, poke_word_outcome, poke_word_of}
use Rattle.machine.specs.Known.{picked}
use Rattle.machine.specs.declared.sizes.Sizes.{Sizes}
use Rattle.commands.specs.Grammar.{command_of}
use Rattle.commands.specs.Effect.{LineOutcome, beside, running, line_refused, line_called, line_stepped, line_poked, usual_entries, once_begun, give_line, step_line, poke_line, show_line, run_command, run_line}
use Rattle.commands.specs.Turns.{set_up, one_core, TurnOutcome, turn_by_step, PokeTurnOutcome, turn_by_poke, step_turn, poke_turn, act_on, put_back, put_by, on_one_core, line_in_place, run_in_place}
use Rattle.commands.specs.Promises.{Kept, KeptIfRefused, TurnKept, RefusedLinesLeave}
use Rattle.commands.specs.declared.grammar.Command.{Command}
use Rattle.commands.specs.declared.grammar.Command.TheVariants.{New, Give, Step, Poke, Show}
use Rattle.commands.specs.declared.effect.Session.{Session}
use Rattle.commands.specs.declared.turns.Did.{Did}
use Rattle.commands.proofs.Begun.{refused_line_leaves, refused_new_leaves}

-- what is used of what is lent is as found, and so is the rest
beside_found : (used : ℕ) (front lent : List ℕ) → front ≡ take used lent → beside used front lent ≡ lent
beside_found used front lent e = ap (λ (f : List ℕ). beside used f lent) e ∙ take-append-drop used lent

-- a call of the machine that is refused
module _ (m : Machine) (memory owners holders : List ℕ) where
  abbrev Left : LineOutcome → Type 0
  Left o = Kept (running m) memory owners holders o

  called_kept : (called : Called) → AsFound (outcome called memory owners holders) m memory owners holders → Left (line_called called memory owners holders)
  called_kept called f =
      record { same_session = ap running f.machine_as_found; same_memory = refl; same_owners = refl; same_holders = refl; nothing_made = f.no_record; no_value = f.no_value }

  stepped_kept : (o : Outcome) → AsFound o m (take m.bytes memory) (take m.entries owners) (take m.entries holders) → Left (line_stepped m memory owners holders o)
  stepped_kept o f =
      record {
        same_session = ap running f.machine_as_found;
        same_memory = beside_found m.bytes o.memory memory f.memory_as_found;
        same_owners = beside_found m.entries o.owners owners f.owners_as_found;
        same_holders = beside_found m.entries o.holders holders f.holders_as_found;
        nothing_made = f.no_record;
        no_value = f.no_value;
      }

  poked_kept : (o : PokeOutcome) → AsFound (outcome o.called o.memory owners holders) m (take m.bytes memory) owners holders → Left (line_poked m memory owners holders o)
  poked_kept o f =
      record {
        same_session = ap running f.machine_as_found;
        same_memory = beside_found m.bytes o.memory memory f.memory_as_found;
        same_owners = refl;
        same_holders = refl;
        nothing_made = f.no_record;
        no_value = f.no_value;
      }

-- by the rules
module _ (session : Session) (memory owners holders : List ℕ) where
  once_leaves : (run : Machine → LineOutcome) → ((m : Machine) → KeptIfRefused (running m) memory owners holders (run m))
      → KeptIfRefused session memory owners holders (once_begun session memory owners holders run)
  once_leaves run f = go session.machine refl
    where
      go : (o : Option Machine) → session.machine ≡ o → KeptIfRefused session memory owners holders (option_map_or run o (line_refused NoMachine session memory owners holders))
      go None e h = refused_line_leaves session memory owners holders NoMachine
      go (Some m) e h =
          subst (λ (s : Session). Kept s memory owners holders (run m)) (sym (ap (λ (o : Option Machine). let s : Session = record { machine = o } in s) e)) (f m h)

  command_leaves : (command : Option Command) → KeptIfRefused session memory owners holders (run_command session memory owners holders command)
  unfolding run_command
  command_leaves None h = refused_line_leaves session memory owners holders NotUnderstood
  command_leaves (Some (New cores bytes entries)) h = refused_new_leaves session memory owners holders cores bytes (unwrap_or entries usual_entries) h
  command_leaves (Some (Give core o)) h =
      once_leaves (λ m. give_line m memory owners holders core o)
      (λ m r. called_kept m memory owners holders (give_of m core o) (refusal_laws.give_as_found m core o memory owners holders r)) h
  command_leaves (Some (Step core)) h =
      once_leaves (λ m. step_line m memory owners holders core)
      (λ m r. stepped_kept m memory owners holders (step_of m (take m.bytes memory) (take m.entries owners) (take m.entries holders) core)
      (refusal_laws.step_as_found m (take m.bytes memory) (take m.entries owners) (take m.entries holders) core r)) h
  command_leaves (Some (Poke a v)) h =
      once_leaves (λ m. poke_line m memory owners holders a v)
      (λ m r. poked_kept m memory owners holders (poke_of m (take m.bytes memory) a v) (refusal_laws.poke_as_found m (take m.bytes memory) a v owners holders r)) h
  command_leaves (Some (Show a)) h =
      once_leaves (λ m. show_line m memory owners holders a)
      (λ m r. shown_kept m (refusal_laws.show_as_found m (take m.bytes memory) a (take m.entries owners) (take m.entries holders) r)) h
    where
      shown_kept : (m : Machine) → AsFound (outcome (show_of m (take m.bytes memory) a) (take m.bytes memory) (take m.entries owners) (take m.entries holders)) m (take m.bytes memory) (take m.entries owners) (take m.entries holders)
          → Kept (running m) memory owners holders (show_line m memory owners holders a)
      shown_kept m f =
          record { same_session = ap running f.machine_as_found; same_memory = refl; same_owners = refl; same_holders = refl; nothing_made = f.no_record; no_value = f.no_value }

  set_up_leaves : (command : Option Command) → KeptIfRefused session memory owners holders (set_up session memory owners holders command)
  unfolding set_up
  set_up_leaves None h = refused_line_leaves session memory owners holders NotUnderstood
  set_up_leaves (Some (New cores bytes entries)) h = refused_new_leaves session memory owners holders cores bytes (unwrap_or entries usual_entries) h
  set_up_leaves (Some (Give core o)) h = refused_line_leaves session memory owners holders NoMachine
  set_up_leaves (Some (Step core)) h = refused_line_leaves session memory owners holders NoMachine
  set_up_leaves (Some (Poke a v)) h = refused_line_leaves session memory owners holders NoMachine
  set_up_leaves (Some (Show a)) h = refused_line_leaves session memory owners holders NoMachine

-- of one core that comes in and goes out
module _ (s : Sizes) (c : Core) (memory owners holders : List ℕ) where
  abbrev TurnLeaves : TurnOutcome → Type 0
  TurnLeaves t = (number_in t.did ≡ 0 → ⊥) → TurnKept memory owners holders t

  abbrev m₀ : List ℕ
  m₀ = take s.bytes memory

  abbrev o₀ : List ℕ
  o₀ = take s.entries owners

  abbrev h₀ : List ℕ
  h₀ = take s.entries holders

  -- by its refusal
  step_by : ℕ → Tested → TurnOutcome
  step_by core t =
      turn_by_step s memory owners holders
      (unless_refused t (λ r. step_core_outcome (Err r) m₀ o₀ h₀) (core_stepped c (entry_for s c) m₀ o₀ h₀ (core_step c (entry_for s c) m₀ o₀ h₀ core)))

  step_leaves : (core : ℕ) → TurnLeaves (step_turn s c memory owners holders core)
  unfolding step_core_of step_by
  step_leaves core = go (known_step_refusal s c (length m₀) o₀ h₀ core)
    where
      go : (t : Tested) → TurnLeaves (step_by core t)
      go (Ok _) h = absurd (h refl)
      go (Err r) h =
          record { same_memory = beside_found s.bytes m₀ memory refl; same_owners = beside_found s.entries o₀ owners refl; same_holders = beside_found s.entries h₀ holders refl }

  poke_by : GuestAddress → ℕ → Tested → PokeTurnOutcome
  poke_by a v t = turn_by_poke s.bytes c memory (unless_refused t (λ r. poke_word_outcome (Err r) m₀) (poke_word_outcome (Ok (poke_record a v)) (write_word m₀ a v)))

  poke_leaves : (a : GuestAddress) (v : ℕ) → (number_in (poke_turn s.bytes c memory a v).did ≡ 0 → ⊥) → (poke_turn s.bytes c memory a v).memory ≡ memory
  unfolding poke_word_of poke_by
  poke_leaves a v = go (known_word_refusal s.bytes (length m₀) a)
    where
      go : (t : Tested) → (number_in (poke_by a v t).did ≡ 0 → ⊥) → (poke_by a v t).memory ≡ memory
      go (Ok _) h = absurd (h refl)
      go (Err r) h = beside_found s.bytes m₀ memory refl

  act_leaves : (command : Option Command) → TurnLeaves (act_on s c memory owners holders command)
  unfolding act_on
  act_leaves None h = record { same_memory = refl; same_owners = refl; same_holders = refl }
  act_leaves (Some (New cores bytes entries)) h = record { same_memory = refl; same_owners = refl; same_holders = refl }
  act_leaves (Some (Give core o)) h = record { same_memory = refl; same_owners = refl; same_holders = refl }
  act_leaves (Some (Step core)) h = step_leaves core h
  act_leaves (Some (Poke a v)) h = record { same_memory = poke_leaves a v h; same_owners = refl; same_holders = refl }
  act_leaves (Some (Show a)) h = record { same_memory = refl; same_owners = refl; same_holders = refl }

-- the core is put back, or the machine stays
put_leaves : (m : Machine) (core : ℕ) (memory owners holders : List ℕ) (t : TurnOutcome) → ((number_in t.did ≡ 0 → ⊥) → TurnKept memory owners holders t)
    → KeptIfRefused (running m) memory owners holders (put_by m core t)
put_leaves m core memory owners holders t left = go t.did left
  where
    go : (d : Result Did Refusal) → ((number_in d ≡ 0 → ⊥) → TurnKept memory owners holders t) → KeptIfRefused (running m) memory owners holders (put_back m core d t.memory t.owners t.holders)
    go (Ok d) l h = absurd (h refl)
    go (Err r) l h =
        let k = l h in
        record { same_session = refl; same_memory = k.same_memory; same_owners = k.same_owners; same_holders = k.same_holders; nothing_made = refl; no_value = refl }

in_place_leaves : (session : Session) (memory owners holders : List ℕ) (command : Option Command)
    → KeptIfRefused session memory owners holders (run_in_place session memory owners holders command)
unfolding run_in_place
in_place_leaves session memory owners holders command = go session.machine refl (one_core command)
  where
    go : (o : Option Machine) → session.machine ≡ o → (one : Option ℕ)
        → KeptIfRefused session memory owners holders (on_one_core o one (λ m core. line_in_place m memory owners holders core command) (set_up session memory owners holders command))
    go (Some m) e (Some core) h =
        subst (λ (s : Session). Kept s memory owners holders (line_in_place m memory owners holders core command)) (sym (ap (λ (o : Option Machine). let s : Session = record { machine = o } in s) e))
        (put_leaves m core memory owners holders (act_on (sizes_of m) (picked m core) memory owners holders command) (act_leaves (sizes_of m) (picked m core) memory owners holders command) h)
    go (Some m) e None h = set_up_leaves session memory owners holders command h
    go None e one h = set_up_leaves session memory owners holders command h

-- as the code tells
pub left_in_place : (session : Session) (memory owners holders : List ℕ) (command : Option Command) (o : LineOutcome) → o ≡ run_in_place session memory owners holders command
    → KeptIfRefused session memory owners holders o
left_in_place session memory owners holders command o e =
    let P : LineOutcome → Type 0 = KeptIfRefused session memory owners holders in subst P (sym e) (in_place_leaves session memory owners holders command)

pub refused_lines_leave : RefusedLinesLeave
unfolding run_line
refused_lines_leave =
    record {
      command_leaves = command_leaves;
      line_leaves = λ session memory owners holders line. command_leaves session memory owners holders (command_of line);
      in_place_leaves = in_place_leaves;
      set_up_leaves = set_up_leaves;
      act_leaves = act_leaves;
    }
