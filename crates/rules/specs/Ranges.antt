-- RULES 6, answer numbers: what a machine is given 5 for, and a step 6.
use Rattle.std.specs.Prelude.{ℕ, ◌%◌, Bool, not, ◌&&◌, ◌||◌, is_some, ◌==◌, nat_le, nat_lt, slice_index_or}
use Rattle.rules.specs.Sizes.{cores_fit, bytes_fit, entries_fit, written}
use Rattle.rules.specs.Operations.{shape_of, a_load, an_ll, an_sc, with_value}
use Rattle.rules.specs.Basics.{all_below}
use Rattle.rules.specs.Life.{idle}
use Rattle.rules.specs.declared.entry.GuestAddress.{GuestAddress}
use Rattle.rules.specs.declared.cores.Core.{Core}
use Rattle.rules.specs.declared.state.Machine.{Machine}

-- RULES 6.19: "a size that section 3 does not allow"
abbrev pub sizes_fit : Machine → Bool
sizes_fit m = cores_fit m.count && bytes_fit m.bytes && entries_fit m.entries

-- RULES 4.25: "A busy core uses the value where the operation is a store or an sc."
abbrev pub uses_value : Core → Bool
uses_value c = c.busy && with_value (shape_of c.operation)

-- RULES 4.26: "An ll at next step 4 uses the word that it has read."
abbrev pub uses_read : Core → Bool
uses_read c = c.busy && an_ll (shape_of c.operation) && c.next == 4

-- RULES 4.27: "An sc at next step 3 or 4 uses its outcome."
abbrev pub uses_passed : Core → Bool
uses_passed c = c.busy && an_sc (shape_of c.operation) && (c.next == 3 || c.next == 4)

-- RULES 6.20: "a field that is not in use (4.23) and not 0": each field is in use or 0
abbrev pub in_use_or0 : Bool → ℕ → Bool
in_use_or0 used field = used || field == 0

-- RULES 4.24: "A busy core uses its operation, the operation's address and the next step"
abbrev pub operation_fields : Core → Bool
operation_fields c = in_use_or0 c.busy c.operation && in_use_or0 c.busy c.next && in_use_or0 c.busy c.address.0

abbrev pub value_fields : Core → Bool
value_fields c = in_use_or0 (uses_value c) c.value && in_use_or0 (uses_read c) c.read && (uses_passed c || not c.passed)

-- RULES 4.28: "A core that has a link uses the link's address."
abbrev pub link_fields : Core → Bool
link_fields c = in_use_or0 c.linked c.link.0

-- RULES 6.21: "a busy core with an operation that there is not, or with a next step that its operation does not have": every operation has step 1, and all but a load have 2 to 4
abbrev pub operation_occurs : ℕ → Bool
operation_occurs operation = is_some (shape_of operation)

abbrev pub step_occurs : ℕ → ℕ → Bool
step_occurs operation next = next == 1 || not (a_load (shape_of operation)) && nat_le 2 next && nat_le next 4

abbrev pub operation_fits : Core → Bool
operation_fits c = not c.busy || operation_occurs c.operation && step_occurs c.operation c.next

-- RULES 6.22: "an address, of an operation or of a link, that is no multiple of 4 or is outside memory"
abbrev pub inside : ℕ → GuestAddress → Bool
inside bytes a = a.0 % 4 == 0 && nat_lt a.0 bytes

abbrev pub addresses_fit : ℕ → Core → Bool
addresses_fit bytes c = (not c.busy || inside bytes c.address) && (not c.linked || inside bytes c.link)

-- RULES 6.23: "a core that is busy or has a link, though its number is not below the core count"
abbrev pub place_fits : ℕ → ℕ → Core → Bool
place_fits count i c = nat_lt i count || not (c.busy || c.linked)

unfoldable pub core_fits : ℕ → ℕ → ℕ → Core → Bool
core_fits count bytes i c = (operation_fields c && value_fields c && link_fields c) && (operation_fits c && addresses_fit bytes c && place_fits count i c)

-- the core at a place of the machine
abbrev pub core_at : Machine → ℕ → Core
core_at m at = slice_index_or m.cores at idle

abbrev pub every_core_fits : Machine → Bool
every_core_fits m = all_below 8 (λ i. core_fits m.count m.bytes i (core_at m i))

-- RULES 6.18: "A machine is out of its ranges where one of these holds": here none of 6.19 to 6.23 does, and 5 is not given
unfoldable pub in_ranges : Machine → Bool
in_ranges m = sizes_fit m && every_core_fits m

-- RULES 6.31: "A step of an ll, a store or an sc gives 6 where, at the entry of its address, one of these holds"
-- RULES 6.32: "the owner is above the core count"; 6.33: "the holder is above the core count"
-- RULES 6.34: "the next step is 2, 3 or 4, and the holder is not this core but another or 0" (a next step above 4 is refused 5 before)
-- RULES 6.35: "the next step is 1, and the holder is this core already"
-- RULES 6.36: "A load never gives 6."
unfoldable pub damaged : ℕ → ℕ → Core → ℕ → ℕ → Bool
damaged count me c owner holder =
    not (a_load (shape_of c.operation)) && (nat_lt count owner || nat_lt count holder || nat_le 2 c.next && not (holder == written me) || c.next == 1 && holder == written me)
