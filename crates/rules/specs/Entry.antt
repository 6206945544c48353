-- RULES 3, sizes: the entry rule.
-- RULES 3.8: "An entry number comes from a guest address by 3.7 and in no other way, and nowhere does the one stand for the other."
use Rattle.std.specs.Prelude.{ℕ, ◌/◌, ◌%◌}
use Rattle.rules.specs.declared.entry.GuestAddress.{GuestAddress}
use Rattle.rules.specs.declared.entry.EntryNumber.{EntryNumber}

-- RULES 3.7: "Address a has the entry (a / 4) mod E; the quotient is rounded down. (With no entries at all, as no machine has it, it is the quotient: D9.)"
unfoldable pub entry_of : ℕ → GuestAddress → EntryNumber
entry_of entries a = record { 0 = a.0 / 4 % entries }

-- no address
abbrev pub nowhere : GuestAddress
nowhere = record { 0 = 0 }
