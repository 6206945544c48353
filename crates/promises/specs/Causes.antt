-- RULES 5, when a store-conditional succeeds: why one fails. RULES 5.7: "The causes of a failure are therefore three"
use Rattle.std.specs.Prelude.{◌≡◌, ℕ}
use Rattle.rules.specs.History.{History}
use Rattle.rules.specs.declared.entry.GuestAddress.{GuestAddress}
use Rattle.rules.specs.declared.entry.EntryNumber.{EntryNumber}
use Rattle.promises.specs.Success.{Never, Some, ScBy, SpoiledBy, LatestLl}

-- a link: an ll of the core, its latest (RULES 5.3), and no sc of it since (RULES 5.5)
pub record Linked (c : ℕ) (history : History) : Type 0 where
  pub last : LatestLl c history
  pub no_sc : Never (ScBy c) last.since

pub data Cause (entry : GuestAddress → EntryNumber) (c : ℕ) (a : GuestAddress) (history : History) : Type 0 where
  -- RULES 5.7: "there is no link (5.3, 5.5)"
  no_link : (Linked c history → ⊥) → Cause entry c a history
  -- RULES 5.7: "the link is at another address (5.4)"
  elsewhere : (link : Linked c history) → (link.last.ll.address ≡ a → ⊥) → Cause entry c a history
  -- RULES 5.7: "another core has made such an access (5.6)"
  spoiled : (link : Linked c history) → link.last.ll.address ≡ a → Some (SpoiledBy entry c a) link.last.since → Cause entry c a history
