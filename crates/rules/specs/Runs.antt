-- RULES 1, what is demanded: runs. RULES 1.9: "A run begins with a fresh machine (6.16) and goes on with any sequence of gives, micro-steps and pokes by the bench."
-- A run is a list of calls with any arguments, the latest first, refused and waiting ones included. Beside it: what a run hands out and delivers.
use Rattle.std.specs.Prelude.{◌≡◌, ℕ, ◌&&◌, List, [], ◌∷◌, Option, Some, None, Result, Ok, length, ◌==◌, if◌then◌else◌}
use Rattle.rules.specs.Entry.{entry_of, nowhere}
use Rattle.rules.specs.Refusals.{no_refusal, number_in}
use Rattle.rules.specs.Calls.{Outcome, outcome, start_refusal, start_of, give_of, step_of, poke_of}
use Rattle.rules.specs.History.{History}
use Rattle.rules.specs.Reference.{Whole, does, pokes}
use Rattle.rules.specs.declared.entry.GuestAddress.{GuestAddress}
use Rattle.rules.specs.declared.entry.EntryNumber.{EntryNumber}
use Rattle.rules.specs.declared.operations.Operation.{Operation}
use Rattle.rules.specs.declared.operations.Operation.TheVariants as Asked
use Rattle.rules.specs.declared.answers.Answer.{Answer}
use Rattle.rules.specs.declared.answers.Answer.TheVariants.{Done}
use Rattle.rules.specs.declared.answers.Delivered.{Delivered}
use Rattle.rules.specs.declared.answers.Record.{Record}
use Rattle.rules.specs.declared.refusals.Refusal.{Refusal}

-- a call of a run, with any arguments
pub data Call : Type 0 where
  give : ℕ → Operation → Call
  step : ℕ → Call
  poke : GuestAddress → ℕ → Call

-- RULES 1.9: "Each is made on the state and on the buffers as the call before it left them"
unfoldable pub act : Outcome → Call → Outcome
act o (give core operation) = outcome (give_of o.called.machine core operation) o.memory o.owners o.holders
act o (step core) = step_of o.called.machine o.memory o.owners o.holders core
act o (poke a value) = outcome (poke_of o.called.machine o.memory a value).called (poke_of o.called.machine o.memory a value).memory o.owners o.holders

-- a fresh machine: any start that is not refused (RULES 6.16)
pub record Fresh (o : Outcome) : Type 0 where
  pub count : ℕ
  pub memory : List ℕ
  pub owners : List ℕ
  pub holders : List ℕ
  pub accepted : start_refusal count (length memory) (length owners) (length holders) ≡ no_refusal
  pub started : o ≡ start_of count memory owners holders

-- what a run leaves
unfoldable pub after : Outcome → List Call → Outcome
after fresh [] = fresh
after fresh (call ∷ calls) = act (after fresh calls) call

-- the records handed out, the latest first
-- RULES 1.13: "A call that was refused and a step that waited are not in the history."
abbrev pub handed : Option Record → History → History
handed None h = h
handed (Some r) h = r ∷ h

unfoldable pub records : Outcome → List Call → History
records fresh [] = []
records fresh (call ∷ calls) = handed (act (after fresh calls) call).called.made (records fresh calls)

-- the operations that a core was given, the latest first, those of refused gives left out
abbrev pub with_given : ℕ → Call → Result Answer Refusal → List Operation → List Operation
with_given c (give core operation) answer os = if core == c && number_in answer == 0 then operation ∷ os else os
with_given c (step core) answer os = os
with_given c (poke a value) answer os = os

unfoldable pub given_to : Outcome → ℕ → List Call → List Operation
given_to fresh c [] = []
given_to fresh c (call ∷ calls) = with_given c call (act (after fresh calls) call).called.answer (given_to fresh c calls)

-- the answers delivered to a core, the latest first: those of its steps that finish an operation
abbrev pub with_answer : Result Answer Refusal → List Delivered → List Delivered
with_answer (Ok (Done answer)) before = answer ∷ before
with_answer _ before = before

abbrev pub delivers : ℕ → Call → Result Answer Refusal → List Delivered → List Delivered
delivers c (give core operation) answer before = before
delivers c (step core) answer before = if core == c then with_answer answer before else before
delivers c (poke a value) answer before = before

unfoldable pub delivered_to : Outcome → ℕ → List Call → List Delivered
delivered_to fresh c [] = []
delivered_to fresh c (call ∷ calls) = delivers c call (act (after fresh calls) call).called.answer (delivered_to fresh c calls)

-- the operation that a core was given last
abbrev pub last_of : List Operation → Operation
last_of [] = Asked.Load nowhere
last_of (o ∷ os) = o

-- the whole operations, "in the order in which their access steps came" (RULES 1.10): at each access, the operation that its core was given last; and each poke
abbrev pub at_access : Option Record → Whole → List Whole → List Whole
at_access None w ws = ws
at_access (Some r) w ws = w ∷ ws

abbrev pub accessed : Call → Option Record → (ℕ → List Operation) → List Whole → List Whole
accessed (give core operation) made given ws = ws
accessed (step core) made given ws = at_access made (does core (last_of (given core))) ws
accessed (poke a value) made given ws = at_access made (pokes a value) ws

unfoldable pub in_order : Outcome → List Call → List Whole
in_order fresh [] = []
in_order fresh (call ∷ calls) = accessed call (act (after fresh calls) call).called.made (λ c. given_to fresh c calls) (in_order fresh calls)

-- the entry rule of the machine's table
abbrev pub entry_rule : Outcome → GuestAddress → EntryNumber
entry_rule fresh = entry_of fresh.called.machine.entries
