-- RULES 4 and 6: the five calls, with the refusals of each in its order, and what each answers, hands out and leaves.
use Rattle.std.specs.Prelude.{ℕ, ◌%◌, Bool, not, ◌&&◌, List, Some, None, Ok, Err, length, replicate, ◌==◌, nat_le, slice_index, slice_set, if◌then◌else◌}
use Rattle.rules.specs.Sizes.{cores_fit, bytes_fit, tables_fit}
use Rattle.rules.specs.Refusals.{Tested, no_refusal, unless_refused}
use Rattle.rules.specs.Entry.{entry_of}
use Rattle.rules.specs.Word.{read_word, write_word}
use Rattle.rules.specs.Kinds.{kind_number, poke_core}
use Rattle.rules.specs.Operations.{address_of}
use Rattle.rules.specs.Life.{idle, given, micro_step}
use Rattle.rules.specs.Ranges.{core_at, in_ranges, damaged}
use Rattle.rules.specs.declared.entry.GuestAddress.{GuestAddress}
use Rattle.rules.specs.declared.entry.EntryNumber.{EntryNumber}
use Rattle.rules.specs.declared.operations.Operation.{Operation}
use Rattle.rules.specs.declared.kinds.Kind.TheVariants as Kind
use Rattle.rules.specs.declared.answers.Record.{Record}
use Rattle.rules.specs.declared.answers.Answer.{Answer}
use Rattle.rules.specs.declared.answers.Answer.TheVariants.{Ready, Taken, Poked, Word}
use Rattle.rules.specs.declared.refusals.Refusal.{Refusal}
use Rattle.rules.specs.declared.refusals.Refusal.TheVariants.{NoSuchCore, Unaligned, Outside, LentLengths, OutOfRange, Damaged, Busy, Idle}
use Rattle.rules.specs.declared.cores.Core.{Core}
use Rattle.rules.specs.declared.cores.MicroStep.{MicroStep}
use Rattle.rules.specs.declared.state.Machine.{Machine}
use Rattle.rules.specs.declared.state.Called.{Called}

-- what a call leaves: its result, and the three lent buffers
pub record Outcome : Type 0 where
  pub called : Called
  pub memory : List ℕ
  pub owners : List ℕ
  pub holders : List ℕ

abbrev pub outcome : Called → List ℕ → List ℕ → List ℕ → Outcome
outcome called memory owners holders = record { called = called; memory = memory; owners = owners; holders = holders }

-- RULES 6.2: "A refusal returns its number and no value."
-- RULES 6.3: "It returns the state that it was given."
abbrev pub refused : Refusal → Machine → Called
refused refusal m = record { answer = Err refusal; made = None; machine = m }

-- an answer that changes no core and makes no record
abbrev pub answered : Answer → Machine → Called
answered answer m = record { answer = Ok answer; made = None; machine = m }

-- the machine with another core at a place
abbrev pub with_core : Machine → ℕ → Core → Machine
with_core m at c = record { cores = slice_set m.cores at c; count = m.count; bytes = m.bytes; entries = m.entries }

-- the entry of a core's operation, and the mark that stands at an entry of either table
abbrev pub entry_at : Machine → ℕ → EntryNumber
entry_at m core = entry_of m.entries (core_at m core).address

abbrev pub mark_at : List ℕ → EntryNumber → ℕ
mark_at marks e = slice_index marks e.0

abbrev pub with_mark : List ℕ → EntryNumber → ℕ → List ℕ
with_mark marks e mark = slice_set marks e.0 mark

-- RULES 6.1, number 4: "what is lent has other lengths than the state says"
abbrev pub lent_fits : Machine → ℕ → ℕ → ℕ → Bool
lent_fits m memory owners holders = memory == m.bytes && owners == m.entries && holders == m.entries

-- RULES 6.1, number 2: "the address is no multiple of 4"; number 3: "the address is at or above memory's size"
abbrev pub address_refusal : ℕ → GuestAddress → Tested
address_refusal bytes a = if not (a.0 % 4 == 0) then Err Unaligned else if nat_le bytes a.0 then Err Outside else no_refusal

-- RULES 6.7, start: "4, 1"
-- RULES 6.1, number 4: "`start`: it has lengths that section 3 does not allow"; number 1: "`start`: the core count is none of 1 to 8"
unfoldable pub start_refusal : ℕ → ℕ → ℕ → ℕ → Tested
start_refusal count memory owners holders = if not (bytes_fit memory && tables_fit owners holders) then Err LentLengths else if not (cores_fit count) then Err NoSuchCore else no_refusal

abbrev pub all_idle : ℕ → ℕ → ℕ → Machine
all_idle count bytes entries = record { cores = replicate 8 idle; count = count; bytes = bytes; entries = entries }

-- RULES 6.16: "A `start` that is not refused makes a fresh machine: it fills memory, owner marks and holders with 0, and all its cores are idle and have no link."
-- RULES 3.10: "`start` takes the sizes from the lengths of what it is lent"
abbrev pub started : ℕ → List ℕ → List ℕ → List ℕ → Outcome
started count memory owners holders =
    outcome (answered Ready (all_idle count (length memory) (length owners))) (replicate (length memory) 0) (replicate (length owners) 0) (replicate (length holders) 0)

-- RULES 6.4: "A refused `start`, which is given no state, returns one that is all zero."
-- RULES 6.5, of a refusal: "It leaves everything that was lent as it was."
unfoldable pub start_of : ℕ → List ℕ → List ℕ → List ℕ → Outcome
start_of count memory owners holders =
    unless_refused (start_refusal count (length memory) (length owners) (length holders)) (λ n. outcome (refused n (all_idle 0 0 0)) memory owners holders)
    (started count memory owners holders)

-- RULES 6.8, give: "5, 1, 7, 2, 3"; RULES 4.1: "It checks the operation's address"
unfoldable pub give_refusal : Machine → ℕ → Operation → Tested
give_refusal m core o =
    if not (in_ranges m) then Err OutOfRange
    else if nat_le m.count core then Err NoSuchCore
    else if (core_at m core).busy then Err Busy
    else address_refusal m.bytes (address_of o)

-- RULES 4.1: "of the machine it changes that core alone"
abbrev pub taken : Machine → ℕ → Operation → Called
taken m core o = answered Taken (with_core m core (given (core_at m core) o))

unfoldable pub give_of : Machine → ℕ → Operation → Called
give_of m core o = unless_refused (give_refusal m core o) (λ n. refused n m) (taken m core o)

-- RULES 6.9, step: "5, 4, 1, 8, 6"; RULES 6.17: "a step looks at all three lengths, for a load too"
unfoldable pub step_refusal : Machine → ℕ → List ℕ → List ℕ → ℕ → Tested
step_refusal m memory owners holders core =
    if not (in_ranges m) then Err OutOfRange
    else if not (lent_fits m memory (length owners) (length holders)) then Err LentLengths
    else if nat_le m.count core then Err NoSuchCore
    else if not (core_at m core).busy then Err Idle
    else if damaged m.count core (core_at m core) (mark_at owners (entry_at m core)) (mark_at holders (entry_at m core)) then Err Damaged
    else no_refusal

-- the micro-step of a core, on the word at its operation's address and on that address's entry
unfoldable pub micro_step_at : Machine → List ℕ → List ℕ → List ℕ → ℕ → MicroStep
micro_step_at m memory owners holders core =
    micro_step core (core_at m core) (mark_at owners (entry_at m core)) (mark_at holders (entry_at m core)) (read_word memory (core_at m core).address)

-- what it leaves: the core, its entry's owner and holder, and the word if it writes
unfoldable pub stepped : Machine → List ℕ → List ℕ → List ℕ → ℕ → MicroStep → Outcome
stepped m memory owners holders core s =
    outcome (record { answer = Ok s.answer; made = s.made; machine = with_core m core s.core })
    (if s.writes then write_word memory (core_at m core).address (core_at m core).value else memory)
    (with_mark owners (entry_at m core) s.owner)
    (with_mark holders (entry_at m core) s.holder)

-- a step: what it does, or its refusal, which leaves everything as it was (RULES 6.5)
unfoldable pub step_of : Machine → List ℕ → List ℕ → List ℕ → ℕ → Outcome
step_of m memory owners holders core =
    unless_refused (step_refusal m (length memory) owners holders core) (λ n. outcome (refused n m) memory owners holders)
    (stepped m memory owners holders core (micro_step_at m memory owners holders core))

-- RULES 6.10, poke, and 6.11, show: "5, 4, 2, 3"; RULES 6.17: "A poke and a show are lent memory alone, and so look at its length alone"
unfoldable pub word_refusal : Machine → ℕ → GuestAddress → Tested
word_refusal m memory a = if not (in_ranges m) then Err OutOfRange else if not (memory == m.bytes) then Err LentLengths else address_refusal m.bytes a

-- what a poke leaves: its result, and memory
pub record PokeOutcome : Type 0 where
  pub called : Called
  pub memory : List ℕ

abbrev pub poke_outcome : Called → List ℕ → PokeOutcome
poke_outcome called memory = record { called = called; memory = memory }

-- the record of a poke
abbrev pub poke_record : GuestAddress → ℕ → Record
poke_record a value = record { core = poke_core; kind = kind_number Kind.Poke; address = a; value = value }

-- RULES 4.31: "By a poke the bench writes one word, at once."
-- RULES 4.32: "A poke changes no mark, no lock and no link."
-- RULES 4.33: "A poke is one access, and hands out its record."
abbrev pub poked : Machine → List ℕ → GuestAddress → ℕ → PokeOutcome
poked m memory a value =
    poke_outcome (record { answer = Ok Poked; made = Some (poke_record a value); machine = m }) (write_word memory a value)

-- a poke: what it does, or its refusal, which leaves everything as it was (RULES 6.5)
unfoldable pub poke_of : Machine → List ℕ → GuestAddress → ℕ → PokeOutcome
poke_of m memory a value = unless_refused (word_refusal m (length memory) a) (λ n. poke_outcome (refused n m) memory) (poked m memory a value)

-- RULES 4.34: "A show answers the word at an address, and changes nothing."
unfoldable pub show_of : Machine → List ℕ → GuestAddress → Called
show_of m memory a = unless_refused (word_refusal m (length memory) a) (λ n. refused n m) (answered (Word (read_word memory a)) m)
