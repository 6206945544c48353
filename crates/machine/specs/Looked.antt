-- No rule: what the code looks at in a core, with a test of several fields at once. Where the sizes fit it asks of the eight cores what the page Ranges.antt of `rules` asks (`no_sizes`, `a_core_out` and `all_looked` in proofs/Looking.antt), and no public contract cites it.
use Rattle.std.specs.Prelude.{ℕ, ◌+◌, ◌*◌, ◌/◌, ◌%◌, Bool, not, ◌&&◌, ◌||◌, Option, is_some, ◌==◌, nat_le, nat_lt, if◌then◌else◌, List, [], ◌∷◌, slice_index, bit_and, bit_or, bit_xor}
use Rattle.rules.specs.Operations.{shape_of, a_load, an_ll, an_sc, with_value}
use Rattle.rules.specs.Ranges.{core_at, place_fits}
use Rattle.rules.specs.declared.operations.Shape.{Shape}
use Rattle.rules.specs.declared.cores.Core.{Core}
use Rattle.rules.specs.declared.state.Machine.{Machine}

-- What a core is at a stage, its operation and next step: one number, with a bit for each flag and field: it is busy; its value is in use; what it read is in use; its step 2 has not passed; no core is there.
abbrev pub busy_bit : ℕ
busy_bit = 1

abbrev pub value_bit : ℕ
value_bit = 2

abbrev pub read_bit : ℕ
read_bit = 4

abbrev pub unpassed_bit : ℕ
unpassed_bit = 8

abbrev pub never_bit : ℕ
never_bit = 16

abbrev pub bit_of : ℕ → Bool → ℕ
bit_of bit b = if b then bit else 0

-- an operation of a shape has the step (RULES 4.4, 4.5)
abbrev pub has_step : Option Shape → ℕ → Bool
has_step s next = is_some s && (next == 1 || not (a_load s) && nat_le 2 next && nat_le next 4)

-- a busy core's stage (RULES 4.25 to 4.27)
abbrev pub busy_stage : Option Shape → ℕ → ℕ
busy_stage s next =
    if has_step s next then busy_bit + bit_of value_bit (with_value s) + bit_of read_bit (an_ll s && next == 4) + bit_of unpassed_bit (not (an_sc s && (next == 3 || next == 4)))
    else never_bit

-- an idle core's: no operation, and no step
abbrev pub idle_stage : ℕ → ℕ
idle_stage next = if next == 0 then unpassed_bit else never_bit

abbrev pub stage_of : ℕ → ℕ → ℕ
stage_of operation next = if operation == 0 then idle_stage next else busy_stage (shape_of operation) next

-- a core with these flags can be there: busy as the stage is, and passed only where it does not say that step 2 has not
unfoldable pub can_be_at : ℕ → Bool → Bool → Bool
can_be_at stage busy passed = bit_and (bit_xor stage (bit_of busy_bit busy)) (bit_or (never_bit + busy_bit) (bit_of unpassed_bit passed)) == 0

-- a field that is not in use
abbrev pub spare : Bool → ℕ → ℕ
spare used field = if used then 0 else field

-- RULES 6.20: "a field that is not in use (4.23) and not 0"
unfoldable pub spare_are0 : Core → ℕ → Bool
spare_are0 c stage = spare (not (bit_and stage value_bit == 0)) c.value == 0 && spare (not (bit_and stage read_bit == 0)) c.read == 0

-- the number of the word at an address, or more than any word's where the address is that of none
abbrev pub word_at : ℕ → ℕ
word_at a = a / 4 + a % 4 * 1073741824

-- the words that an address can be at, where it is not in use (it is 0), and where it is
abbrev pub rooms_of : ℕ → List ℕ
rooms_of words = 1 ∷ words ∷ []

abbrev pub room_in : List ℕ → Bool → ℕ
room_in rooms used = slice_index rooms (bit_of 1 used)

-- a stage that the core can be at, and its fields there
unfoldable pub looks_right_at : List ℕ → Core → ℕ → Bool
looks_right_at rooms c stage =
    can_be_at stage c.busy c.passed && spare_are0 c stage
    && nat_lt (word_at c.address.0) (room_in rooms c.busy) && nat_lt (word_at c.link.0) (room_in rooms c.linked)

unfoldable pub core_looks_right : List ℕ → Core → Bool
core_looks_right rooms c = nat_le (bit_or c.operation c.next) 15 && looks_right_at rooms c (stage_of c.operation c.next)

-- what is tested of the core at a place (RULES 6.22, 6.23)
unfoldable pub fits_at : Machine → ℕ → Bool
fits_at m i = place_fits m.count i (core_at m i) && core_looks_right (rooms_of (m.bytes / 4)) (core_at m i)
