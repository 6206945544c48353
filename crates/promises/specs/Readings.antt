-- How a promise is tied to the code. The checker proves of each function that its code keeps its contract, and has a reading of that contract: what it asks of a caller and, of each input, which results and which lent values at the end it allows. These readings are cited, and not the contracts' texts.
use Rattle.std.specs.Prelude.{◌≡◌, ℕ}

-- a call on one input: the reading of its contract, and what the rules say of it
pub record Reading (Result Exit Left : Type 0) : Type 1 where
  pub Asks : Type 0
  pub Allows : Result → Exit → Type 0
  -- the number of its answer, and that of the first refusal in its order (RULES 6.6), 0 where none applies
  pub number : Result → ℕ
  pub first_refusal : ℕ
  -- all that it leaves, its answer too, and what the rules say that it leaves
  pub left : Result → Exit → Left
  pub rule : Left

-- every two outcomes that are allowed on one input are equal
abbrev pub Single : {Result Exit Left : Type 0} → (Result → Exit → Type 0) → (Result → Exit → Left) → Type 0
Single {Result} {Exit} allows left = (result other : Result) (exit last : Exit) → allows result exit → allows other last → left result exit ≡ left other last

-- What is said of a call: it may be handed anything; its number is that of the first refusal; all that it leaves is the rule's; it has one outcome.
module _ (Result Exit Left : Type 0) (call : Reading Result Exit Left) where
  abbrev pub AsksNothing : Type 0
  AsksNothing = call.Asks

  abbrev pub Numbered : Type 0
  Numbered = (result : Result) (exit : Exit) → call.Allows result exit → call.number result ≡ call.first_refusal

  abbrev pub AsTheRule : Type 0
  AsTheRule = (result : Result) (exit : Exit) → call.Allows result exit → call.left result exit ≡ call.rule

  abbrev pub OneOutcome : Type 0
  OneOutcome = Single call.Allows call.left

-- The theorem of a function's code, which the check proved: called with any arguments of its types, and with what its contract asks, it ends, does nothing that is undefined, and leaves what its contract says.
abbrev pub CodeKeeps : (Type 1 → Type 2) → Type 2
CodeKeeps statement = (M : Type 1) → statement M
