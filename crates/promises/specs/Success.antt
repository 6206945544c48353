-- RULES 5, when a store-conditional succeeds: the rule as it is written, over the history of access steps, the latest first. `entry` is the entry rule.
-- RULES 5.1: "Whether an sc succeeds is judged from the history of access steps alone."
use Rattle.std.specs.Prelude.{◌≡◌, ◌⊎◌, true, [], ◌∷◌, ◌++◌, ℕ}
use Rattle.rules.specs.Kinds.{kind_number}
use Rattle.rules.specs.History.{History, succeeds}
use Rattle.rules.specs.declared.entry.GuestAddress.{GuestAddress}
use Rattle.rules.specs.declared.entry.EntryNumber.{EntryNumber}
use Rattle.rules.specs.declared.kinds.Kind.TheVariants.{Ll, Store, Success, Failure}
use Rattle.rules.specs.declared.answers.Record.{Record}

-- no access of the history is of this sort
abbrev pub Never : (Record → Type 0) → History → Type 0
Never sort [] = Unit {0}
Never sort (r ∷ h) = (sort r → ⊥) × Never sort h

-- some access of it is
abbrev pub Some : (Record → Type 0) → History → Type 0
Some sort h = Never sort h → ⊥

-- an ll by a core; an sc by it, whether it succeeded or not
abbrev pub LlBy : ℕ → Record → Type 0
LlBy c r = (r.core ≡ c) × (r.kind ≡ kind_number Ll)

abbrev pub ScBy : ℕ → Record → Type 0
ScBy c r = (r.core ≡ c) × ((r.kind ≡ kind_number Success) ⊎ (r.kind ≡ kind_number Failure))

-- RULES 5.6: one of "the other cores has done an ll, a store or an sc that succeeded at an address whose entry is that of a"
abbrev pub SpoiledBy : (GuestAddress → EntryNumber) → ℕ → GuestAddress → Record → Type 0
SpoiledBy entry c a r = (r.core ≡ c → ⊥) × ((r.kind ≡ kind_number Ll) ⊎ ((r.kind ≡ kind_number Store) ⊎ (r.kind ≡ kind_number Success))) × (entry r.address ≡ entry a)

-- RULES 5.3: "Core c has done an ll.": the latest, what was before it and what has been since
pub record LatestLl (c : ℕ) (history : History) : Type 0 where
  pub since : History
  pub ll : Record
  pub before : History
  pub split : history ≡ since ++ ll ∷ before
  pub by_core : LlBy c ll
  pub latest : Never (LlBy c) since

-- RULES 5.2: "An sc of core c at address a succeeds where all four of 5.3 to 5.6 hold, and fails where one of them does not."
pub record Succeeds (entry : GuestAddress → EntryNumber) (c : ℕ) (a : GuestAddress) (history : History) : Type 0 where
  -- RULES 5.3: "Core c has done an ll."
  pub done : LatestLl c history
  -- RULES 5.4: "The latest ll of core c was at address a."
  pub there : done.ll.address ≡ a
  -- RULES 5.5: "Core c has done no sc after that ll."
  pub no_sc : Never (ScBy c) done.since
  -- RULES 5.6: "Since that ll, none of the other cores has done an ll, a store or an sc that succeeded at an address whose entry is that of a."
  pub unspoiled : Never (SpoiledBy entry c a) done.since

-- RULES 1.12: "The reference machine decides each sc by the success rule as it is written (5)": the test that it decides by, `succeeds`, is passed by exactly what succeeds as RULES 5.2 has it.
pub record Decides (entry : GuestAddress → EntryNumber) (c : ℕ) (a : GuestAddress) (history : History) : Type 0 where
  pub passes_only : succeeds entry c a history ≡ true → Succeeds entry c a history
  pub passes_each : Succeeds entry c a history → succeeds entry c a history ≡ true

abbrev pub WrittenRule : Type 0
WrittenRule = (entry : GuestAddress → EntryNumber) (c : ℕ) (a : GuestAddress) (history : History) → Decides entry c a history
