-- The machine's public calls, each on one input: `a` is what it is handed, `exit` what it was lent, at the end. Here alone the names stand that the checker makes for them.
use Rattle.std.specs.Prelude.{◌≡◌, ℕ, List, length, Result}
use contract.Lifetimes.{Lfts}
use borrow.Fn.World.{ArgsD}
use borrow.Fn.Kinds.{ended_of}
use denote.Triple.Clauses.{AtExit}
use Rattle.rules.specs.Refusals.{number_in}
use Rattle.rules.specs.Calls.{Outcome, outcome, PokeOutcome, poke_outcome, start_refusal, start_of, give_refusal, give_of, step_refusal, step_of, word_refusal, poke_of, show_of}
use Rattle.rules.specs.declared.entry.GuestAddress.{GuestAddress}
use Rattle.rules.specs.declared.operations.Operation.{Operation}
use Rattle.rules.specs.declared.state.Machine.{Machine}
use Rattle.rules.specs.declared.state.Called.{Called}
use Rattle.rules.specs.declared.answers.Answer.{Answer}
use Rattle.rules.specs.declared.refusals.Refusal.{Refusal}
use Rattle.machine.specs.Give.{given_at}
use Rattle.machine.specs.Step.{called_at}
use Rattle.machine.specs.declared.calls.step.Stepped.{Stepped}
use Rattle.machine.specs.contracts.start as start-contract
use Rattle.machine.proofs.start.Kinds as start-kinds
use Rattle.machine.proofs.start.Reads as start-reads
use Rattle.machine.proofs.start.Statement as start-statement
use Rattle.machine.specs.contracts.give as give-contract
use Rattle.machine.proofs.give.Kinds as give-kinds
use Rattle.machine.proofs.give.Reads as give-reads
use Rattle.machine.proofs.give.Statement as give-statement
use Rattle.machine.specs.contracts.give_in_place as give-in-place-contract
use Rattle.machine.proofs.give_in_place.Kinds as give-in-place-kinds
use Rattle.machine.proofs.give_in_place.Reads as give-in-place-reads
use Rattle.machine.proofs.give_in_place.Statement as give-in-place-statement
use Rattle.machine.specs.contracts.step as step-contract
use Rattle.machine.proofs.step.Kinds as step-kinds
use Rattle.machine.proofs.step.Reads as step-reads
use Rattle.machine.proofs.step.Statement as step-statement
use Rattle.machine.specs.contracts.step_in_place as step-in-place-contract
use Rattle.machine.proofs.step_in_place.Kinds as step-in-place-kinds
use Rattle.machine.proofs.step_in_place.Reads as step-in-place-reads
use Rattle.machine.proofs.step_in_place.Statement as step-in-place-statement
use Rattle.machine.specs.contracts.poke as poke-contract
use Rattle.machine.proofs.poke.Kinds as poke-kinds
use Rattle.machine.proofs.poke.Reads as poke-reads
use Rattle.machine.proofs.poke.Statement as poke-statement
use Rattle.machine.specs.contracts.show as show-contract
use Rattle.machine.proofs.show.Kinds as show-kinds
use Rattle.machine.proofs.show.Reads as show-reads
use Rattle.machine.proofs.show.Statement as show-statement
use Rattle.promises.specs.Readings.{Reading, CodeKeeps}

-- start(count, memory, owners, holders)
module _ (κs : Lfts 3) (a : ArgsD start-contract.signature κs) where
  abbrev pub start : Reading Called (AtExit (ended_of 3 start-kinds.ps start-kinds.r) κs) Outcome
  start =
      record {
        Asks = start-reads.Asked κs a;
        Allows = start-reads.Post κs a;
        number = λ result. number_in result.answer;
        first_refusal = number_in (start_refusal a.0 (length a.1.0.now) (length a.1.1.0.now) (length a.1.1.1.0.now));
        left = λ result exit. outcome result exit.1.0.now exit.1.1.0.now exit.1.1.1.0.now;
        rule = start_of a.0 a.1.0.now a.1.1.0.now a.1.1.1.0.now;
      }

-- give(machine, core, operation)
module _ (κs : Lfts 0) (a : ArgsD give-contract.signature κs) where
  abbrev pub give : Reading Called (AtExit (ended_of 0 give-kinds.ps give-kinds.r) κs) Called
  give =
      record {
        Asks = give-reads.Asked κs a;
        Allows = give-reads.Post κs a;
        number = λ result. number_in result.answer;
        first_refusal = number_in (give_refusal a.0 a.1.0 a.1.1.0);
        left = λ result exit. result;
        rule = give_of a.0 a.1.0 a.1.1.0;
      }

-- give_in_place(&mut machine, core, operation)
module _ (κs : Lfts 1) (a : ArgsD give-in-place-contract.signature κs) where
  abbrev pub give_in_place : Reading (Result Answer Refusal) (AtExit (ended_of 1 give-in-place-kinds.ps give-in-place-kinds.r) κs) Called
  give_in_place =
      record {
        Asks = give-in-place-reads.Asked κs a;
        Allows = give-in-place-reads.Post κs a;
        number = λ result. number_in result;
        first_refusal = number_in (give_refusal a.0.now a.1.0 a.1.1.0);
        left = λ result exit. given_at result exit.0.now;
        rule = give_of a.0.now a.1.0 a.1.1.0;
      }

-- step(machine, memory, owners, holders, core)
module _ (κs : Lfts 3) (a : ArgsD step-contract.signature κs) where
  abbrev pub step : Reading Called (AtExit (ended_of 3 step-kinds.ps step-kinds.r) κs) Outcome
  step =
      record {
        Asks = step-reads.Asked κs a;
        Allows = step-reads.Post κs a;
        number = λ result. number_in result.answer;
        first_refusal = number_in (step_refusal a.0 (length a.1.0.now) a.1.1.0.now a.1.1.1.0.now a.1.1.1.1.0);
        left = λ result exit. outcome result exit.1.0.now exit.1.1.0.now exit.1.1.1.0.now;
        rule = step_of a.0 a.1.0.now a.1.1.0.now a.1.1.1.0.now a.1.1.1.1.0;
      }

-- step_in_place(&mut machine, memory, owners, holders, core)
module _ (κs : Lfts 4) (a : ArgsD step-in-place-contract.signature κs) where
  abbrev pub step_in_place : Reading Stepped (AtExit (ended_of 4 step-in-place-kinds.ps step-in-place-kinds.r) κs) Outcome
  step_in_place =
      record {
        Asks = step-in-place-reads.Asked κs a;
        Allows = step-in-place-reads.Post κs a;
        number = λ result. number_in result.answer;
        first_refusal = number_in (step_refusal a.0.now (length a.1.0.now) a.1.1.0.now a.1.1.1.0.now a.1.1.1.1.0);
        left = λ result exit. outcome (called_at result exit.0.now) exit.1.0.now exit.1.1.0.now exit.1.1.1.0.now;
        rule = step_of a.0.now a.1.0.now a.1.1.0.now a.1.1.1.0.now a.1.1.1.1.0;
      }

-- poke(machine, memory, address, value)
module _ (κs : Lfts 1) (a : ArgsD poke-contract.signature κs) where
  abbrev pub poke : Reading Called (AtExit (ended_of 1 poke-kinds.ps poke-kinds.r) κs) PokeOutcome
  poke =
      record {
        Asks = poke-reads.Asked κs a;
        Allows = poke-reads.Post κs a;
        number = λ result. number_in result.answer;
        first_refusal = number_in (word_refusal a.0 (length a.1.0.now) a.1.1.0);
        left = λ result exit. poke_outcome result exit.1.0.now;
        rule = poke_of a.0 a.1.0.now a.1.1.0 a.1.1.1.0;
      }

-- show(machine, memory, address)
module _ (κs : Lfts 1) (a : ArgsD show-contract.signature κs) where
  abbrev pub show : Reading Called (AtExit (ended_of 1 show-kinds.ps show-kinds.r) κs) Called
  show =
      record {
        Asks = show-reads.Asked κs a;
        Allows = show-reads.Post κs a;
        number = λ result. number_in result.answer;
        first_refusal = number_in (word_refusal a.0 (length a.1.0.now) a.1.1.0);
        left = λ result exit. result;
        rule = show_of a.0 a.1.0.now a.1.1.0;
      }

-- what is said of each of them
pub record EachMachineCall (P : (Result Exit Left : Type 0) → Reading Result Exit Left → Type 0) : Type 0 where
  pub start_is : (κs : Lfts 3) (a : ArgsD start-contract.signature κs) → P _ _ _ (start κs a)
  pub give_is : (κs : Lfts 0) (a : ArgsD give-contract.signature κs) → P _ _ _ (give κs a)
  pub give_in_place_is : (κs : Lfts 1) (a : ArgsD give-in-place-contract.signature κs) → P _ _ _ (give_in_place κs a)
  pub step_is : (κs : Lfts 3) (a : ArgsD step-contract.signature κs) → P _ _ _ (step κs a)
  pub step_in_place_is : (κs : Lfts 4) (a : ArgsD step-in-place-contract.signature κs) → P _ _ _ (step_in_place κs a)
  pub poke_is : (κs : Lfts 1) (a : ArgsD poke-contract.signature κs) → P _ _ _ (poke κs a)
  pub show_is : (κs : Lfts 1) (a : ArgsD show-contract.signature κs) → P _ _ _ (show κs a)

-- Of the calls of a run: that one which is handed these may leave x.

pub record StartLeaves (count : ℕ) (memory owners holders : List ℕ) (x : Outcome) : Type 0 where
  pub κs : Lfts 3
  pub a : ArgsD start-contract.signature κs
  pub result : Called
  pub exit : AtExit (ended_of 3 start-kinds.ps start-kinds.r) κs
  pub handed : (a.0 ≡ count) × (a.1.0.now ≡ memory) × (a.1.1.0.now ≡ owners) × (a.1.1.1.0.now ≡ holders)
  pub allowed : (start κs a).Allows result exit
  pub left : x ≡ (start κs a).left result exit

-- give, in both forms
pub record GiveLeaves (m : Machine) (core : ℕ) (o : Operation) (x : Called) : Type 0 where
  pub κs : Lfts 0
  pub a : ArgsD give-contract.signature κs
  pub result : Called
  pub exit : AtExit (ended_of 0 give-kinds.ps give-kinds.r) κs
  pub handed : (a.0 ≡ m) × (a.1.0 ≡ core) × (a.1.1.0 ≡ o)
  pub allowed : (give κs a).Allows result exit
  pub left : x ≡ (give κs a).left result exit

pub record GiveInPlaceLeaves (m : Machine) (core : ℕ) (o : Operation) (x : Called) : Type 0 where
  pub κs : Lfts 1
  pub a : ArgsD give-in-place-contract.signature κs
  pub result : Result Answer Refusal
  pub exit : AtExit (ended_of 1 give-in-place-kinds.ps give-in-place-kinds.r) κs
  pub handed : (a.0.now ≡ m) × (a.1.0 ≡ core) × (a.1.1.0 ≡ o)
  pub allowed : (give_in_place κs a).Allows result exit
  pub left : x ≡ (give_in_place κs a).left result exit

-- step, in both forms
pub record StepLeaves (m : Machine) (memory owners holders : List ℕ) (core : ℕ) (x : Outcome) : Type 0 where
  pub κs : Lfts 3
  pub a : ArgsD step-contract.signature κs
  pub result : Called
  pub exit : AtExit (ended_of 3 step-kinds.ps step-kinds.r) κs
  pub handed : (a.0 ≡ m) × (a.1.0.now ≡ memory) × (a.1.1.0.now ≡ owners) × (a.1.1.1.0.now ≡ holders) × (a.1.1.1.1.0 ≡ core)
  pub allowed : (step κs a).Allows result exit
  pub left : x ≡ (step κs a).left result exit

pub record StepInPlaceLeaves (m : Machine) (memory owners holders : List ℕ) (core : ℕ) (x : Outcome) : Type 0 where
  pub κs : Lfts 4
  pub a : ArgsD step-in-place-contract.signature κs
  pub result : Stepped
  pub exit : AtExit (ended_of 4 step-in-place-kinds.ps step-in-place-kinds.r) κs
  pub handed : (a.0.now ≡ m) × (a.1.0.now ≡ memory) × (a.1.1.0.now ≡ owners) × (a.1.1.1.0.now ≡ holders) × (a.1.1.1.1.0 ≡ core)
  pub allowed : (step_in_place κs a).Allows result exit
  pub left : x ≡ (step_in_place κs a).left result exit

-- poke
pub record PokeLeaves (m : Machine) (memory : List ℕ) (address : GuestAddress) (value : ℕ) (x : PokeOutcome) : Type 0 where
  pub κs : Lfts 1
  pub a : ArgsD poke-contract.signature κs
  pub result : Called
  pub exit : AtExit (ended_of 1 poke-kinds.ps poke-kinds.r) κs
  pub handed : (a.0 ≡ m) × (a.1.0.now ≡ memory) × (a.1.1.0 ≡ address) × (a.1.1.1.0 ≡ value)
  pub allowed : (poke κs a).Allows result exit
  pub left : x ≡ (poke κs a).left result exit

-- the theorems of their code
pub record MachineCodeKeeps : Type 2 where
  pub start : CodeKeeps start-statement.statement
  pub give : CodeKeeps give-statement.statement
  pub give_in_place : CodeKeeps give-in-place-statement.statement
  pub step : CodeKeeps step-statement.statement
  pub step_in_place : CodeKeeps step-in-place-statement.statement
  pub poke : CodeKeeps poke-statement.statement
  pub show : CodeKeeps show-statement.statement
