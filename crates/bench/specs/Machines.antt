-- RULES 13, the library for a bench: the calls on the machine where it stands: what the machine's own calls do, packed.
-- RULES 13.2: "Each call does what the call of these rules does, on the struct where it stands, and is refused as that one is, in the order of 6.6"
use Rattle.std.specs.Prelude.{ℕ, List, Option, Some, None}
use Rattle.rules.specs.Calls.{Outcome, PokeOutcome, start_of, give_of, step_of, poke_of, show_of}
use Rattle.rules.specs.Refusals.{refusal_number}
use Rattle.rules.specs.Operations.{asked_of}
use Rattle.rules.specs.declared.operations.Operation.{Operation}
use Rattle.rules.specs.declared.refusals.Refusal.TheVariants.{NotUnderstood}
use Rattle.rules.specs.declared.state.Machine.{Machine}
use Rattle.rules.specs.declared.state.Called.{Called}
use Rattle.bench.specs.CallOutcome.{CallOutcome, call_outcome, left_by}
use Rattle.bench.specs.Packed.{packed, handed_bytes}

abbrev pub of_called : Called → CallOutcome Machine
of_called c = call_outcome (packed c.answer) c.machine

pub record StartCallOutcome : Type 0 where
  pub all : CallOutcome Machine
  pub memory : List ℕ
  pub owners : List ℕ
  pub holders : List ℕ

abbrev pub start_call_outcome : ℕ → Machine → List ℕ → List ℕ → List ℕ → StartCallOutcome
start_call_outcome answer m memory owners holders = record { all = call_outcome answer m; memory = memory; owners = owners; holders = holders }

pub record StepCallOutcome : Type 0 where
  pub all : CallOutcome Machine
  pub memory : List ℕ
  pub owners : List ℕ
  pub holders : List ℕ
  pub made : List ℕ

abbrev pub step_call_outcome : ℕ → Machine → List ℕ → List ℕ → List ℕ → List ℕ → StepCallOutcome
step_call_outcome answer m memory owners holders made = record { all = call_outcome answer m; memory = memory; owners = owners; holders = holders; made = made }

pub record PokeCallOutcome : Type 0 where
  pub all : CallOutcome Machine
  pub memory : List ℕ
  pub made : List ℕ

abbrev pub poke_call_outcome : ℕ → Machine → List ℕ → List ℕ → PokeCallOutcome
poke_call_outcome answer m memory made = record { all = call_outcome answer m; memory = memory; made = made }

-- RULES 13.10: "A refused `malthobre_start` does not store the machine of 6.4."
abbrev pub of_start : Machine → Outcome → StartCallOutcome
of_start m o =
    record {
      all = call_outcome (packed o.called.answer) (left_by o.called.answer m (λ answer. o.called.machine));
      memory = o.memory;
      owners = o.owners;
      holders = o.holders;
    }

-- the record's 16 bytes, of a call that may hand one out
abbrev pub made_by : Called → List ℕ → List ℕ
made_by c made = left_by c.answer made (λ answer. handed_bytes c.made)

abbrev pub of_step : List ℕ → Outcome → StepCallOutcome
of_step made o = record { all = of_called o.called; memory = o.memory; owners = o.owners; holders = o.holders; made = made_by o.called made }

abbrev pub of_poke : List ℕ → PokeOutcome → PokeCallOutcome
of_poke made o = record { all = of_called o.called; memory = o.memory; made = made_by o.called made }

-- the calls: what each is lent to be written comes first, and last the record's 16 bytes
abbrev pub start_call : Machine → ℕ → List ℕ → List ℕ → List ℕ → StartCallOutcome
start_call m count memory owners holders = of_start m (start_of count memory owners holders)

-- RULES 13.3: "`malthobre_give` takes an operation's number (4.30); one that is none of 1 to 4 is refused 9, before all else."
abbrev pub give_asked : Machine → ℕ → Option Operation → CallOutcome Machine
give_asked m core None = call_outcome (refusal_number NotUnderstood) m
give_asked m core (Some o) = of_called (give_of m core o)

-- RULES 13.3: "For a load and an ll the value is not looked at."
abbrev pub give_call : Machine → ℕ → ℕ → ℕ → ℕ → CallOutcome Machine
give_call m core code a value = give_asked m core (asked_of code (record { 0 = a }) value)

abbrev pub step_call : Machine → List ℕ → List ℕ → List ℕ → ℕ → List ℕ → StepCallOutcome
step_call m memory owners holders core made = of_step made (step_of m memory owners holders core)

abbrev pub poke_call : Machine → List ℕ → ℕ → ℕ → List ℕ → PokeCallOutcome
poke_call m memory a value made = of_poke made (poke_of m memory (record { 0 = a }) value)

abbrev pub show_call : Machine → List ℕ → ℕ → CallOutcome Machine
show_call m memory a = of_called (show_of m memory (record { 0 = a }))
