-- How a command is done on a machine that is known to be in its ranges and stays with the caller: the one core that it may change goes in and comes back.
-- None of this is a rule: on such a machine it is what `run_command` says (`LinesAreDone`).
use Rattle.std.specs.Prelude.{◌≡◌, ◌⊎◌, ℕ, ◌%◌, true, Option, Some, None, IfSome, unwrap_or, Result, Ok, Err, List, take}
use Rattle.rules.specs.Ranges.{in_ranges}
use Rattle.rules.specs.Calls.{with_core}
use Rattle.rules.specs.declared.entry.GuestAddress.{GuestAddress}
use Rattle.rules.specs.declared.operations.Operation.{Operation}
use Rattle.rules.specs.declared.answers.Answer.{Answer}
use Rattle.rules.specs.declared.answers.Answer.TheVariants.{Taken, Poked, Word}
use Rattle.rules.specs.declared.answers.Record.{Record}
use Rattle.rules.specs.declared.refusals.Refusal.{Refusal}
use Rattle.rules.specs.declared.refusals.Refusal.TheVariants.{NotUnderstood, NoMachine}
use Rattle.rules.specs.declared.cores.Core.{Core}
use Rattle.rules.specs.declared.state.Machine.{Machine}
use Rattle.machine.specs.Sizes.{sizes_of}
use Rattle.machine.specs.Give.{give_core_of}
use Rattle.machine.specs.Step.{StepCoreOutcome, step_core_of}
use Rattle.machine.specs.PokeShow.{PokeWordOutcome, poke_word_of, show_word_of}
use Rattle.machine.specs.Known.{picked}
use Rattle.machine.specs.declared.sizes.Sizes.{Sizes}
use Rattle.commands.specs.Effect.{LineOutcome, line_refused, running, new_of, usual_entries, beside, run_command}
use Rattle.commands.specs.declared.grammar.Command.{Command}
use Rattle.commands.specs.declared.grammar.Command.TheVariants.{New, Give, Step, Poke, Show}
use Rattle.commands.specs.declared.effect.Session.{Session}
use Rattle.commands.specs.declared.turns.Did.{Did}

-- what a command is done with that makes a machine, or with none
unfoldable pub set_up : Session → List ℕ → List ℕ → List ℕ → Option Command → LineOutcome
set_up session memory owners holders None = line_refused NotUnderstood session memory owners holders
set_up session memory owners holders (Some (New cores bytes entries)) =
    new_of session memory owners holders cores bytes (unwrap_or entries usual_entries)
set_up session memory owners holders (Some (Give core operation)) = line_refused NoMachine session memory owners holders
set_up session memory owners holders (Some (Step core)) = line_refused NoMachine session memory owners holders
set_up session memory owners holders (Some (Poke a v)) = line_refused NoMachine session memory owners holders
set_up session memory owners holders (Some (Show a)) = line_refused NoMachine session memory owners holders

-- the one core that a command may change, if it is no more; a poke and a show change none, and any core will do
abbrev pub one_core : Option Command → Option ℕ
one_core None = None
one_core (Some (New cores bytes entries)) = None
one_core (Some (Give core operation)) = Some core
one_core (Some (Step core)) = Some core
one_core (Some (Poke a v)) = Some 0
one_core (Some (Show a)) = Some 0

-- what a command answers that is not refused, the record that it makes and what becomes of the core
abbrev pub did : Answer → Option Record → Core → Did
did answer made c = record { answer = answer; made = made; core = c }

-- what the machine's call makes of it, unless it is refused
abbrev pub if_done : {A : Type 0} → (A → Did) → Result A Refusal → Result Did Refusal
if_done make (Ok made) = Ok (make made)
if_done make (Err refusal) = Err refusal

-- what a command leaves there: what it did, and the three lent buffers
pub record TurnOutcome : Type 0 where
  pub did : Result Did Refusal
  pub memory : List ℕ
  pub owners : List ℕ
  pub holders : List ℕ

abbrev pub turn_outcome : Result Did Refusal → List ℕ → List ℕ → List ℕ → TurnOutcome
turn_outcome did memory owners holders = record { did = did; memory = memory; owners = owners; holders = holders }

abbrev pub give_turn : Sizes → Core → ℕ → Operation → Result Did Refusal
give_turn s c core o = if_done (did Taken None) (give_core_of s c core o)

abbrev pub turn_by_step : Sizes → List ℕ → List ℕ → List ℕ → StepCoreOutcome → TurnOutcome
turn_by_step s memory owners holders a =
    turn_outcome (if_done (λ t. did t.answer t.made t.core) a.step)
    (beside s.bytes a.memory memory)
    (beside s.entries a.owners owners)
    (beside s.entries a.holders holders)

abbrev pub step_turn : Sizes → Core → List ℕ → List ℕ → List ℕ → ℕ → TurnOutcome
step_turn s c memory owners holders core = turn_by_step s memory owners holders (step_core_of s c (take s.bytes memory) (take s.entries owners) (take s.entries holders) core)

-- a poke leaves the tables
pub record PokeTurnOutcome : Type 0 where
  pub did : Result Did Refusal
  pub memory : List ℕ

abbrev pub turn_by_poke : ℕ → Core → List ℕ → PokeWordOutcome → PokeTurnOutcome
turn_by_poke bytes c memory p = record { did = if_done (λ made. did Poked (Some made) c) p.made; memory = beside bytes p.memory memory }

abbrev pub poke_turn : ℕ → Core → List ℕ → GuestAddress → ℕ → PokeTurnOutcome
poke_turn bytes c memory a v = turn_by_poke bytes c memory (poke_word_of bytes (take bytes memory) a v)

abbrev pub show_turn : ℕ → Core → List ℕ → GuestAddress → Result Did Refusal
show_turn bytes c memory a = if_done (λ word. did (Word word) None c) (show_word_of bytes (take bytes memory) a)

-- a command that makes a machine, and a line that is no command, are done elsewhere
unfoldable pub act_on : Sizes → Core → List ℕ → List ℕ → List ℕ → Option Command → TurnOutcome
act_on s c memory owners holders None = turn_outcome (Err NotUnderstood) memory owners holders
act_on s c memory owners holders (Some (New cores b e)) = turn_outcome (Err NotUnderstood) memory owners holders
act_on s c memory owners holders (Some (Give core operation)) = turn_outcome (give_turn s c core operation) memory owners holders
act_on s c memory owners holders (Some (Step core)) = step_turn s c memory owners holders core
act_on s c memory owners holders (Some (Poke a v)) = turn_outcome (poke_turn s.bytes c memory a v).did (poke_turn s.bytes c memory a v).memory owners holders
act_on s c memory owners holders (Some (Show a)) = turn_outcome (show_turn s.bytes c memory a) memory owners holders

-- what the caller makes of it: the core is put in its place, and a refusal leaves the machine
abbrev pub put_back : Machine → ℕ → Result Did Refusal → List ℕ → List ℕ → List ℕ → LineOutcome
put_back m core (Ok d) memory owners holders =
    record { answer = Ok d.answer; made = d.made; session = running (with_core m (core % 8) d.core); memory = memory; owners = owners; holders = holders }
put_back m core (Err refusal) memory owners holders = line_refused refusal (running m) memory owners holders

abbrev pub put_by : Machine → ℕ → TurnOutcome → LineOutcome
put_by m core t = put_back m core t.did t.memory t.owners t.holders

-- where a machine stands and the command changes one core of it, that core alone; and otherwise it is set up
abbrev pub on_one_core : Option Machine → Option ℕ → (Machine → ℕ → LineOutcome) → LineOutcome → LineOutcome
on_one_core (Some m) (Some core) on_core set_up = on_core m core
on_one_core (Some m) None on_core set_up = set_up
on_one_core None core on_core set_up = set_up

abbrev pub line_in_place : Machine → List ℕ → List ℕ → List ℕ → ℕ → Option Command → LineOutcome
line_in_place m memory owners holders core command = put_by m core (act_on (sizes_of m) (picked m core) memory owners holders command)

unfoldable pub run_in_place : Session → List ℕ → List ℕ → List ℕ → Option Command → LineOutcome
run_in_place session memory owners holders command =
    on_one_core session.machine (one_core command) (λ m core. line_in_place m memory owners holders core command) (set_up session memory owners holders command)

-- a session whose machine, if one stands, is in its ranges
abbrev pub Sound : Session → Type 0
Sound session = IfSome session.machine (λ m. in_ranges m ≡ true)

-- a command on its one core, and a command that is set up, are done as the rules say; and what they leave is sound again
pub record LineIsDone (session : Session) (memory owners holders : List ℕ) (command : Option Command) : Type 0 where
  pub on_its_core : (m : Machine) (core : ℕ) → session.machine ≡ Some m → one_core command ≡ Some core
      → put_by m core (act_on (sizes_of m) (picked m core) memory owners holders command) ≡ run_command session memory owners holders command
  pub is_set_up : (session.machine ≡ None) ⊎ (one_core command ≡ None) → set_up session memory owners holders command ≡ run_command session memory owners holders command
  pub stays_sound : Sound (run_command session memory owners holders command).session

abbrev pub LinesAreDone : Type 0
LinesAreDone = (session : Session) (memory owners holders : List ℕ) (command : Option Command) → Sound session → LineIsDone session memory owners holders command
