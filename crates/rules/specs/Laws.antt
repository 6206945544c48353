-- What holds of the rules of this crate, beside each call's own contract. The proofs are in proofs/Lawful.antt.
use Rattle.std.specs.Prelude.{◌≡◌, ℕ, ◌+◌, ◌/◌, ◌%◌, ◌^◌, ◌<◌, ◌≤◌, Bool, true, false, List, [], Option, Some, None, length, replicate, ◌≢◌, if◌then◌else◌}
use Rattle.rules.specs.Bytes.{Bytes}
use Rattle.rules.specs.Sizes.{entries_fit}
use Rattle.rules.specs.Kinds.{writes_kind, links_kind, unlinks_kind}
use Rattle.rules.specs.Entry.{nowhere}
use Rattle.rules.specs.Life.{idle, micro_step}
use Rattle.rules.specs.Ranges.{operation_occurs, in_ranges}
use Rattle.rules.specs.Refusals.{number_in}
use Rattle.rules.specs.Answers.{values_of}
use Rattle.rules.specs.Calls.{Outcome, outcome, all_idle, lent_fits, start_of, give_of, step_of, poke_of, show_of}
use Rattle.rules.specs.declared.entry.GuestAddress.{GuestAddress}
use Rattle.rules.specs.declared.entry.EntryNumber.{EntryNumber}
use Rattle.rules.specs.declared.operations.Operation.{Operation}
use Rattle.rules.specs.declared.answers.Record.{Record}
use Rattle.rules.specs.declared.cores.Core.{Core}
use Rattle.rules.specs.declared.state.Machine.{Machine}
use Rattle.rules.specs.declared.state.Called.{Called}

-- RULES 11.11: "The entry rule is proved one time, for all E.": the entry is below E, and one word has one entry.
pub record EntryLaws (entry : ℕ → GuestAddress → EntryNumber) : Type 0 where
  pub below : (entries : ℕ) (a : GuestAddress) → entries_fit entries ≡ true → (entry entries a).0 < entries
  pub one_word : (entries : ℕ) (a b : GuestAddress) → entries_fit entries ≡ true → a.0 / 4 ≡ b.0 / 4 → entry entries a ≡ entry entries b

-- Words of memory: a word written is read back, every other aligned word and the length stay, and bytes make a word of 32 bits and stay bytes.
pub record WordLaws (read : List ℕ → GuestAddress → ℕ) (write : List ℕ → GuestAddress → ℕ → List ℕ) : Type 0 where
  pub read_back : (memory : List ℕ) (a : GuestAddress) (value : ℕ) → value < 2 ^ 32 → a.0 + 4 ≤ length memory → read (write memory a value) a ≡ value
  pub others_stay : (memory : List ℕ) (a b : GuestAddress) (value : ℕ) → a.0 % 4 ≡ 0 → b.0 % 4 ≡ 0 → (a.0 ≢ b.0) → read (write memory a value) b ≡ read memory b
  pub length_stays : (memory : List ℕ) (a : GuestAddress) (value : ℕ) → length (write memory a value) ≡ length memory
  pub a_word : (memory : List ℕ) (a : GuestAddress) → Bytes memory → read memory a < 2 ^ 32
  pub bytes_stay : (memory : List ℕ) (a : GuestAddress) (value : ℕ) → Bytes memory → Bytes (write memory a value)

-- what the kinds say of a record handed out: whether it writes, and the link it leaves its core with
abbrev pub writes_made : Option Record → Bool
writes_made None = false
writes_made (Some r) = writes_kind r.kind

abbrev pub linked_made : Option Record → Core → Bool
linked_made None c = c.linked
linked_made (Some r) c = if links_kind r.kind then true else if unlinks_kind r.kind then false else c.linked

abbrev pub link_made : Option Record → Core → GuestAddress
link_made None c = c.link
link_made (Some r) c = if links_kind r.kind then r.address else if unlinks_kind r.kind then nowhere else c.link

-- A micro-step of an operation that can occur writes, links and ends its own link exactly as the kind of its record says.
pub record KindLaws : Type 0 where
  pub writes_by_kind : (me : ℕ) (c : Core) (owner holder word : ℕ) → operation_occurs c.operation ≡ true → (micro_step me c owner holder word).writes ≡ writes_made (micro_step me c owner holder word).made
  pub linked_by_kind : (me : ℕ) (c : Core) (owner holder word : ℕ) → operation_occurs c.operation ≡ true → (micro_step me c owner holder word).core.linked ≡ linked_made (micro_step me c owner holder word).made c
  pub link_by_kind : (me : ℕ) (c : Core) (owner holder word : ℕ) → operation_occurs c.operation ≡ true → (micro_step me c owner holder word).core.link ≡ link_made (micro_step me c owner holder word).made c

-- What a refusal leaves (RULES 6.2 to 6.5): machine, memory, owners and holders as found, no record, and no value but its number.
pub record AsFound (o : Outcome) (m : Machine) (memory owners holders : List ℕ) : Type 0 where
  pub machine_as_found : o.called.machine ≡ m
  pub memory_as_found : o.memory ≡ memory
  pub owners_as_found : o.owners ≡ owners
  pub holders_as_found : o.holders ≡ holders
  pub no_record : o.called.made ≡ None
  pub no_value : values_of o.called.answer ≡ []

abbrev pub Refused : Called → Type 0
Refused r = number_in r.answer ≡ 0 → ⊥

abbrev pub Accepted : Called → Type 0
Accepted r = number_in r.answer ≡ 0

-- RULES 1.3: "A refusal leaves machine, memory, table .. as it found them." (Buffers that a call is not lent are named beside it; what start returns is all zero, RULES 6.4.)
pub record RefusalLaws : Type 0 where
  pub start_as_found : (count : ℕ) (memory owners holders : List ℕ)
      → Refused (start_of count memory owners holders).called → AsFound (start_of count memory owners holders) (all_idle 0 0 0) memory owners holders
  pub give_as_found : (m : Machine) (core : ℕ) (o : Operation) (memory owners holders : List ℕ)
      → Refused (give_of m core o) → AsFound (outcome (give_of m core o) memory owners holders) m memory owners holders
  pub step_as_found : (m : Machine) (memory owners holders : List ℕ) (core : ℕ)
      → Refused (step_of m memory owners holders core).called → AsFound (step_of m memory owners holders core) m memory owners holders
  pub poke_as_found : (m : Machine) (memory : List ℕ) (a : GuestAddress) (value : ℕ) (owners holders : List ℕ)
      → Refused (poke_of m memory a value).called → AsFound (outcome (poke_of m memory a value).called (poke_of m memory a value).memory owners holders) m memory owners holders
  pub show_as_found : (m : Machine) (memory : List ℕ) (a : GuestAddress) (owners holders : List ℕ)
      → Refused (show_of m memory a) → AsFound (outcome (show_of m memory a) memory owners holders) m memory owners holders

-- The state in its ranges, and the lent buffers of the state's sizes.
pub record Sound (o : Outcome) : Type 0 where
  pub ranges : in_ranges o.called.machine ≡ true
  pub lengths : lent_fits o.called.machine (length o.memory) (length o.owners) (length o.holders) ≡ true

-- Each accepted call keeps the state in its ranges; after start it is in its ranges, idle, unlinked, and everything is 0.
pub record RangeLaws : Type 0 where
  pub start_sound : (count : ℕ) (memory owners holders : List ℕ) → Accepted (start_of count memory owners holders).called → Sound (start_of count memory owners holders)
  pub start_idle : (count : ℕ) (memory owners holders : List ℕ) → Accepted (start_of count memory owners holders).called
      → (start_of count memory owners holders).called.machine.cores ≡ replicate 8 idle
  pub start_zero : (count : ℕ) (memory owners holders : List ℕ) → Accepted (start_of count memory owners holders).called
      → ((start_of count memory owners holders).memory ≡ replicate (length memory) 0) × ((start_of count memory owners holders).owners ≡ replicate (length owners) 0) × ((start_of count memory owners holders).holders ≡ replicate (length owners) 0)
  pub give_sound : (m : Machine) (core : ℕ) (o : Operation) (memory owners holders : List ℕ)
      → lent_fits m (length memory) (length owners) (length holders) ≡ true → Accepted (give_of m core o) → Sound (outcome (give_of m core o) memory owners holders)
  pub step_sound : (m : Machine) (memory owners holders : List ℕ) (core : ℕ) → Accepted (step_of m memory owners holders core).called → Sound (step_of m memory owners holders core)
  pub poke_sound : (m : Machine) (memory : List ℕ) (a : GuestAddress) (value : ℕ) (owners holders : List ℕ) → lent_fits m (length memory) (length owners) (length holders) ≡ true
      → Accepted (poke_of m memory a value).called → Sound (outcome (poke_of m memory a value).called (poke_of m memory a value).memory owners holders)

-- RULES 11.2: "Any two outcomes that a contract allows are shown to be equal.": every public contract is an equation to a rule.
abbrev pub OneOutcome : Type 1
OneOutcome = (Outcome : Type 0) (rule one other : Outcome) → one ≡ rule → other ≡ rule → one ≡ other
