-- RULES 5, when a store-conditional succeeds: what the history of access steps says of it, and the links and owner marks it makes. A history is the records handed out, the latest first; `entry` is the entry rule.
use Rattle.std.specs.Prelude.{ℕ, Bool, true, false, not, ◌&&◌, List, [], ◌∷◌, ◌==◌, if◌then◌else◌}
use Rattle.rules.specs.Entry.{nowhere}
use Rattle.rules.specs.Kinds.{rule_at, links_kind, unlinks_kind, spoils_kind, mark_after}
use Rattle.rules.specs.declared.entry.GuestAddress.{GuestAddress}
use Rattle.rules.specs.declared.entry.EntryNumber.{EntryNumber}
use Rattle.rules.specs.declared.answers.Record.{Record}

abbrev pub History : Type 0
History = List Record

-- RULES 5.1: "Whether an sc succeeds is judged from the history of access steps alone."

-- an ll and an sc by this core; an access by another that ends links at its entry (RULES 5.6)
abbrev pub own_ll : ℕ → Record → Bool
own_ll c r = r.core == c && links_kind r.kind

abbrev pub own_sc : ℕ → Record → Bool
own_sc c r = r.core == c && unlinks_kind r.kind

abbrev pub spoils : (GuestAddress → EntryNumber) → ℕ → GuestAddress → Record → Bool
spoils entry c a r = not (r.core == c) && spoils_kind r.kind && (entry r.address).0 == (entry a).0

-- Whether core c's sc succeeds at address a. That this decides RULES 5.2, as it is written, is proved in the crate `promises`.
unfoldable pub succeeds : (GuestAddress → EntryNumber) → ℕ → GuestAddress → History → Bool
succeeds entry c a [] = false
succeeds entry c a (r ∷ h) = if own_ll c r then (r.address.0 == a.0) else if own_sc c r then false else if spoils entry c a r then false else succeeds entry c a h

-- The links and the owner marks that a history makes.

pub record Link : Type 0 where
  pub linked : Bool
  pub link : GuestAddress

abbrev pub no_link : Link
no_link = record { linked = false; link = nowhere }

-- a core's link is its latest ll's address, and none where it has done no ll, or an sc since
unfoldable pub link_of : ℕ → History → Link
link_of c [] = no_link
link_of c (r ∷ h) = if own_ll c r then record { linked = true; link = r.address } else if own_sc c r then no_link else link_of c h

-- an entry's owner is what the accesses there make of it
unfoldable pub owner_of : (GuestAddress → EntryNumber) → ℕ → History → ℕ
owner_of entry e [] = 0
owner_of entry e (r ∷ h) = if (entry r.address).0 == e then mark_after (rule_at r.kind).mark r.core (owner_of entry e h) else owner_of entry e h
