-- RULES 1, what is demanded: demand 3. RULES 1.9, what a run is, stands in rules/specs/Runs.antt, and of the code in CodeRuns.antt.
-- A run is any list of calls, the latest first; since every prefix of a run is a run, what holds after every run holds at every moment.
use Rattle.std.specs.Prelude.{◌≡◌, ◌⊎◌, List, ◌∷◌, ℕ, ◌%◌, ◌^◌, ◌<◌, Ok, true, ◌≢◌}
use Rattle.rules.specs.Word.{read_word, write_word}
use Rattle.rules.specs.Kinds.{kind_number}
use Rattle.rules.specs.Refusals.{number_in}
use Rattle.rules.specs.Calls.{Outcome, poke_record}
use Rattle.rules.specs.History.{History, succeeds}
use Rattle.rules.specs.Reference.{Reference, refer, finish, write_done, sc_failed, operations_of, answers_of}
use Rattle.rules.specs.Runs.{Call, step, poke, act, Fresh, after, records, given_to, delivered_to, in_order, entry_rule}
use Rattle.rules.specs.declared.entry.GuestAddress.{GuestAddress}
use Rattle.rules.specs.declared.entry.EntryNumber.{EntryNumber}
use Rattle.rules.specs.declared.operations.Operation.TheVariants as Asked
use Rattle.rules.specs.declared.kinds.Kind.TheVariants.{Success, Failure}
use Rattle.rules.specs.declared.answers.Answer.TheVariants.{Waits}
use Rattle.rules.specs.declared.answers.Delivered.TheVariants as Answered
use Rattle.promises.specs.Success.{Succeeds}

-- the reference machine after the run's operations, by the order of their access steps, from the fresh machine's memory
abbrev pub reference : Outcome → List Call → Reference
reference fresh calls = refer (entry_rule fresh) fresh.memory (in_order fresh calls)

-- a list with at most one more at its front
abbrev pub AtMostOneMore : {A : Type 0} → List A → List A → Type 0
AtMostOneMore {A} more list = (more ≡ list) ⊎ ((a : A) × (more ≡ a ∷ list))

pub record Agrees (fresh : Outcome) (calls : List Call) : Type 0 where
  -- RULES 1.10: "memory"
  pub memory_agrees : (after fresh calls).memory ≡ (reference fresh calls).memory
  -- the records handed out are the accesses of the reference
  pub records_agree : records fresh calls ≡ (reference fresh calls).history
  -- RULES 1.10: "all the answers delivered so far": core by core in order, those of the reference, of which at most one is not delivered yet
  pub answers_agree : (c : ℕ) → AtMostOneMore (answers_of (entry_rule fresh) fresh.memory c (in_order fresh calls)) (delivered_to fresh c calls)
  -- RULES 1.10: "whole operations": core by core those that were given and accepted, in order, of which at most one is not run yet
  pub operations_agree : (c : ℕ) → AtMostOneMore (given_to fresh c calls) (operations_of c (in_order fresh calls))

-- RULES 1.10: "At every moment of a run, memory and all the answers delivered so far are as if whole operations had been run one by one on the reference machine, in the order in which their access steps came."
abbrev pub Demand3 : Type 0
Demand3 = (fresh : Outcome) → Fresh fresh → (calls : List Call) → Agrees fresh calls

-- RULES 1.11: "The reference machine has no table and no locks.": two that have the same memory and the same history are the same
abbrev pub NoTable : Type 0
NoTable = (one other : Reference) → one.memory ≡ other.memory → one.history ≡ other.history → one ≡ other

-- RULES 1.12: "The reference machine decides each sc by the success rule as it is written (5), and knows nothing but the history of the accesses that are finished."
pub record JudgesSc (entry : GuestAddress → EntryNumber) (ref : Reference) (c : ℕ) (a : GuestAddress) (v : ℕ) : Type 0 where
  pub succeeds : Succeeds entry c a ref.history → finish entry ref c (Asked.Sc a v) ≡ write_done ref c (Asked.Sc a v) true (Answered.Sc 0)
  pub fails : (Succeeds entry c a ref.history → ⊥) → finish entry ref c (Asked.Sc a v) ≡ sc_failed ref c (Asked.Sc a v)
  -- so it answers 0 where it succeeded, and 1 where it failed (RULES 4.19)
  pub zero_is_success : (finish entry ref c (Asked.Sc a v)).answer ≡ Answered.Sc 0 → (finish entry ref c (Asked.Sc a v)).access.kind ≡ kind_number Success
  pub one_is_failure : (finish entry ref c (Asked.Sc a v)).answer ≡ Answered.Sc 1 → (finish entry ref c (Asked.Sc a v)).access.kind ≡ kind_number Failure

abbrev pub JudgedByHistory : Type 0
JudgedByHistory = (entry : GuestAddress → EntryNumber) (ref : Reference) (c : ℕ) (a : GuestAddress) (v : ℕ) → JudgesSc entry ref c a v

-- RULES 1.13: "A call that was refused and a step that waited are not in the history."
pub record AddsNothing (fresh : Outcome) (calls : List Call) (call : Call) : Type 0 where
  pub no_record : records fresh (call ∷ calls) ≡ records fresh calls
  pub no_operation : in_order fresh (call ∷ calls) ≡ in_order fresh calls

pub record NotInHistory (fresh : Outcome) (calls : List Call) : Type 0 where
  pub refused : (call : Call) → number_in (act (after fresh calls) call).called.answer ≢ 0 → AddsNothing fresh calls call
  pub waited : (c : ℕ) → (act (after fresh calls) (step c)).called.answer ≡ Ok Waits → AddsNothing fresh calls (step c)

abbrev pub RefusedAndWaiting : Type 0
RefusedAndWaiting = (fresh : Outcome) (calls : List Call) → NotInHistory fresh calls

-- RULES 1.14: "A poke writes, and ends no link.": one that is not refused writes its word and no other, at once, and leaves the cores with their links, the marks and the locks
pub record Poked (fresh : Outcome) (calls : List Call) (a : GuestAddress) (v : ℕ) : Type 0 where
  pub writes : (after fresh (poke a v ∷ calls)).memory ≡ write_word (after fresh calls).memory a v
  pub read_back : v < 2 ^ 32 → read_word (after fresh (poke a v ∷ calls)).memory a ≡ v
  pub others_stay : (b : GuestAddress) → b.0 % 4 ≡ 0 → a.0 ≢ b.0 → read_word (after fresh (poke a v ∷ calls)).memory b ≡ read_word (after fresh calls).memory b
  pub an_access : records fresh (poke a v ∷ calls) ≡ poke_record a v ∷ records fresh calls
  pub cores_stay : (after fresh (poke a v ∷ calls)).called.machine ≡ (after fresh calls).called.machine
  pub owners_stay : (after fresh (poke a v ∷ calls)).owners ≡ (after fresh calls).owners
  pub holders_stay : (after fresh (poke a v ∷ calls)).holders ≡ (after fresh calls).holders

abbrev pub PokeWrites : Type 0
PokeWrites = (fresh : Outcome) (calls : List Call) (a : GuestAddress) (v : ℕ) → number_in (act (after fresh calls) (poke a v)).called.answer ≡ 0 → Poked fresh calls a v

-- .. and for the success rule it is no access that ends a link (RULES 5.8)
abbrev pub PokeEndsNoLink : Type 0
PokeEndsNoLink =
    (entry : GuestAddress → EntryNumber) (c : ℕ) (a b : GuestAddress) (v : ℕ) (h : History) → succeeds entry c a (poke_record b v ∷ h) ≡ succeeds entry c a h
