-- RULES 14, RISC-V: when an SC must fail, by the accesses before it, the latest first. Nothing here is of the success rule or of the table.
-- RULES 14: "An LR is an ll, an SC an sc, a hart a core."
-- RULES 14.17: "What another hart stores, and when, is read off the accesses that the cores make, by the order of the access steps."
use Rattle.std.specs.Prelude.{◌≡◌, ◌⊎◌, [], ◌∷◌, ◌++◌, ℕ, ◌/◌}
use Rattle.rules.specs.Kinds.{kind_number}
use Rattle.rules.specs.History.{History}
use Rattle.rules.specs.declared.entry.GuestAddress.{GuestAddress}
use Rattle.rules.specs.declared.kinds.Kind.TheVariants.{Ll, Store, Success, Failure}
use Rattle.rules.specs.declared.answers.Record.{Record}

-- no access of a history is of a sort, and some is
abbrev pub NoneIs : (Record → Type 0) → History → Type 0
NoneIs sort [] = Unit {0}
NoneIs sort (r ∷ h) = (sort r → ⊥) × NoneIs sort h

abbrev pub Some : (Record → Type 0) → History → Type 0
Some sort h = NoneIs sort h → ⊥

-- an LR of a hart, and an SC of it, whether it succeeded or not
abbrev pub LrOf : ℕ → Record → Type 0
LrOf hart r = (r.core ≡ hart) × (r.kind ≡ kind_number Ll)

abbrev pub ScOf : ℕ → Record → Type 0
ScOf hart r = (r.core ≡ hart) × ((r.kind ≡ kind_number Success) ⊎ (r.kind ≡ kind_number Failure))

-- RULES 14.5: "An SC belongs to the last LR that its hart did before it, in program order, and to no other.": that LR, and what has been since
pub record LatestLr (hart : ℕ) (history : History) : Type 0 where
  pub since : History
  pub lr : Record
  pub before : History
  pub split : history ≡ since ++ lr ∷ before
  pub by_hart : LrOf hart lr
  pub latest : NoneIs (LrOf hart) since

-- RULES 14.16: "the reservation set is the linked word and nothing more": two addresses in one word
abbrev pub SameWord : GuestAddress → GuestAddress → Type 0
SameWord a b = a.0 / 4 ≡ b.0 / 4

-- RULES 14.8: "another hart's store to that reservation set"; "An SC of another hart that succeeds is a store"
abbrev pub StoreOfAnother : ℕ → GuestAddress → Record → Type 0
StoreOfAnother hart word r = (r.core ≡ hart → ⊥) × ((r.kind ≡ kind_number Store) ⊎ (r.kind ≡ kind_number Success)) × SameWord r.address word

-- The cases are RULES 14.6 to 14.8 and 14.10; 14.9 has none, by RULES 14.18: "A poke is no write of a device"
pub data MustFail (hart : ℕ) (a : GuestAddress) (history : History) : Type 0 where
  -- RULES 14.6: "An SC must fail if there is no LR that it belongs to."
  no_lr : NoneIs (LrOf hart) history → MustFail hart a history
  -- RULES 14.7: "An SC must fail if its address is outside the reservation set of its LR."
  outside : (latest : LatestLr hart history) → (SameWord latest.lr.address a → ⊥) → MustFail hart a history
  -- RULES 14.8: "An SC must fail if another hart's store to that reservation set can be observed between the LR and the SC."
  stored_to : (latest : LatestLr hart history) → Some (StoreOfAnother hart latest.lr.address) latest.since → MustFail hart a history
  -- RULES 14.10: "An SC must fail if its hart does, in program order, one more SC between the LR and it, at whatever address."
  another_sc : (latest : LatestLr hart history) → Some (ScOf hart) latest.since → MustFail hart a history
