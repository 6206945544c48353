-- RULES 8, the script program: what a command does to the machine that the lines run on, and what it answers.
use Rattle.std.specs.Prelude.{ℕ, Bool, ◌&&◌, Option, Some, None, is_some, unwrap_or, Result, Err, is_ok, List, ◌++◌, length, take, drop, leb, if◌then◌else◌}
use Rattle.std.specs.Option.{option_map_or}
use Rattle.rules.specs.Calls.{Outcome, PokeOutcome, start_of, give_of, step_of, poke_of, show_of}
use Rattle.rules.specs.declared.answers.Answer.{Answer}
use Rattle.rules.specs.declared.operations.Operation.{Operation}
use Rattle.rules.specs.declared.answers.Record.{Record}
use Rattle.rules.specs.declared.refusals.Refusal.{Refusal}
use Rattle.rules.specs.declared.refusals.Refusal.TheVariants.{LentLengths, NotUnderstood, NoMachine}
use Rattle.rules.specs.declared.entry.GuestAddress.{GuestAddress}
use Rattle.rules.specs.declared.state.Machine.{Machine}
use Rattle.rules.specs.declared.state.Called.{Called}
use Rattle.machine.specs.declared.calls.step.Stepped.{Stepped}
use Rattle.commands.specs.Grammar.{command_of}
use Rattle.commands.specs.declared.grammar.Command.{Command}
use Rattle.commands.specs.declared.grammar.Command.TheVariants.{New, Give, Step, Poke, Show}
use Rattle.commands.specs.declared.effect.Session.{Session}

-- what a line leaves: its answer, the record that it makes, if it makes one, the session and the three lent buffers
pub record LineOutcome : Type 0 where
  pub answer : Result Answer Refusal
  pub made : Option Record
  pub session : Session
  pub memory : List ℕ
  pub owners : List ℕ
  pub holders : List ℕ

abbrev pub line_outcome : Stepped → Session → List ℕ → List ℕ → List ℕ → LineOutcome
line_outcome stepped session memory owners holders = record { answer = stepped.answer; made = stepped.made; session = session; memory = memory; owners = owners; holders = holders }

-- before the first accepted `new`
abbrev pub no_machine : Session
no_machine = record { machine = None }

abbrev pub running : Machine → Session
running m = record { machine = Some m }

-- a machine stands
abbrev pub stands : Session → Bool
stands session = is_some session.machine

abbrev pub line_refused : Refusal → Session → List ℕ → List ℕ → List ℕ → LineOutcome
line_refused refusal session memory owners holders = record { answer = Err refusal; made = None; session = session; memory = memory; owners = owners; holders = holders }

-- a call's result: the machine that it hands back is the session's
abbrev pub line_called : Called → List ℕ → List ℕ → List ℕ → LineOutcome
line_called called memory owners holders =
    record { answer = called.answer; made = called.made; session = running called.machine; memory = memory; owners = owners; holders = holders }

-- RULES 8.10: "A later `new` begins afresh where it is accepted. Where it is refused, the machine before it stays."; the first does so too, with no machine before it
abbrev pub session_started : Session → Called → Session
session_started session called = if is_ok called.answer then running called.machine else session

-- RULES 8.7: "The machine uses the first bytes of the buffers that are lent to it", as many as its sizes say; the rest stays
abbrev pub beside : ℕ → List ℕ → List ℕ → List ℕ
beside used front lent = front ++ drop used lent

-- RULES 3.3: "A script's machine has 16,384 bytes at most. For more, `new` is refused 4."; RULES 8.7: "a `new` that asks for more than is lent is refused 4 too"
abbrev pub new_fits : ℕ → ℕ → ℕ → ℕ → ℕ → Bool
new_fits bytes entries memory owners holders = leb bytes 16384 && leb bytes memory && (leb entries owners && leb entries holders)

abbrev pub line_started : Session → ℕ → ℕ → List ℕ → List ℕ → List ℕ → Outcome → LineOutcome
line_started session bytes entries memory owners holders o =
    record {
      answer = o.called.answer;
      made = o.called.made;
      session = session_started session o.called;
      memory = beside bytes o.memory memory;
      owners = beside entries o.owners owners;
      holders = beside entries o.holders holders;
    }

unfoldable pub new_of : Session → List ℕ → List ℕ → List ℕ → ℕ → ℕ → ℕ → LineOutcome
new_of session memory owners holders cores bytes entries =
    if new_fits bytes entries (length memory) (length owners) (length holders)
    then line_started session bytes entries memory owners holders (start_of cores (take bytes memory) (take entries owners) (take entries holders))
    else line_refused LentLengths session memory owners holders

-- RULES 6.12, a line of script: "9, 10, and then its call's"; RULES 8.11: "A `new` is never answered 10. While none has been accepted, every other command is."
abbrev pub once_begun : Session → List ℕ → List ℕ → List ℕ → (Machine → LineOutcome) → LineOutcome
once_begun session memory owners holders run = option_map_or run session.machine (line_refused NoMachine session memory owners holders)

abbrev pub give_line : Machine → List ℕ → List ℕ → List ℕ → ℕ → Operation → LineOutcome
give_line m memory owners holders core operation = line_called (give_of m core operation) memory owners holders

abbrev pub line_stepped : Machine → List ℕ → List ℕ → List ℕ → Outcome → LineOutcome
line_stepped m memory owners holders o = line_called o.called (beside m.bytes o.memory memory) (beside m.entries o.owners owners) (beside m.entries o.holders holders)

abbrev pub step_line : Machine → List ℕ → List ℕ → List ℕ → ℕ → LineOutcome
step_line m memory owners holders core =
    line_stepped m memory owners holders (step_of m (take m.bytes memory) (take m.entries owners) (take m.entries holders) core)

abbrev pub line_poked : Machine → List ℕ → List ℕ → List ℕ → PokeOutcome → LineOutcome
line_poked m memory owners holders o = line_called o.called (beside m.bytes o.memory memory) owners holders

abbrev pub poke_line : Machine → List ℕ → List ℕ → List ℕ → GuestAddress → ℕ → LineOutcome
poke_line m memory owners holders a v = line_poked m memory owners holders (poke_of m (take m.bytes memory) a v)

abbrev pub show_line : Machine → List ℕ → List ℕ → List ℕ → GuestAddress → LineOutcome
show_line m memory owners holders a = line_called (show_of m (take m.bytes memory) a) memory owners holders

-- RULES 8.6: "Where ENTRIES is left out, there are 64."
abbrev pub usual_entries : ℕ
usual_entries = 64

-- what a command does; RULES 8.8: "A line that is empty is answered 9, as each line is that is no command."
unfoldable pub run_command : Session → List ℕ → List ℕ → List ℕ → Option Command → LineOutcome
run_command session memory owners holders None = line_refused NotUnderstood session memory owners holders
run_command session memory owners holders (Some (New cores bytes entries)) =
    new_of session memory owners holders cores bytes (unwrap_or entries usual_entries)
run_command session memory owners holders (Some (Give core operation)) =
    once_begun session memory owners holders (λ m. give_line m memory owners holders core operation)
run_command session memory owners holders (Some (Step core)) =
    once_begun session memory owners holders (λ m. step_line m memory owners holders core)
run_command session memory owners holders (Some (Poke a v)) =
    once_begun session memory owners holders (λ m. poke_line m memory owners holders a v)
run_command session memory owners holders (Some (Show a)) =
    once_begun session memory owners holders (λ m. show_line m memory owners holders a)

-- what a line does
unfoldable pub run_line : Session → List ℕ → List ℕ → List ℕ → List ℕ → LineOutcome
run_line session memory owners holders line = run_command session memory owners holders (command_of line)
