-- A poke and a show for a caller that knows its machine to be in its ranges and keeps it, which see the number of memory's bytes alone.
use Rattle.std.specs.Prelude.{ℕ, ◌+◌, not, List, Result, Some, Ok, Err, length, ◌==◌, nat_lt, if◌then◌else◌}
use Rattle.rules.specs.Word.{read_word, write_word}
use Rattle.rules.specs.Refusals.{Tested, no_refusal, unless_refused}
use Rattle.rules.specs.Calls.{poke_record, PokeOutcome, poke_outcome, refused, answered, address_refusal}
use Rattle.rules.specs.declared.entry.GuestAddress.{GuestAddress}
use Rattle.rules.specs.declared.answers.Answer.TheVariants.{Poked, Word}
use Rattle.rules.specs.declared.answers.Record.{Record}
use Rattle.rules.specs.declared.refusals.Refusal.{Refusal}
use Rattle.rules.specs.declared.refusals.Refusal.TheVariants.{LentLengths, OutOfRange}
use Rattle.rules.specs.declared.state.Machine.{Machine}
use Rattle.rules.specs.declared.state.Called.{Called}

-- the refusals of both but for a state out of its ranges, which is left to the caller, save where memory ends inside the word
unfoldable pub known_word_refusal : ℕ → ℕ → GuestAddress → Tested
known_word_refusal bytes memory a =
    if not (memory == bytes) then Err LentLengths
    else unless_refused (address_refusal bytes a) (λ r. Err r) (if nat_lt bytes (a.0 + 4) then Err OutOfRange else no_refusal)

-- what a poke leaves: the record that it makes, and memory
pub record PokeWordOutcome : Type 0 where
  pub made : Result Record Refusal
  pub memory : List ℕ

abbrev pub poke_word_outcome : Result Record Refusal → List ℕ → PokeWordOutcome
poke_word_outcome made memory = record { made = made; memory = memory }

unfoldable pub poke_word_of : ℕ → List ℕ → GuestAddress → ℕ → PokeWordOutcome
poke_word_of bytes memory a value =
    unless_refused (known_word_refusal bytes (length memory) a) (λ r. poke_word_outcome (Err r) memory)
    (poke_word_outcome (Ok (poke_record a value)) (write_word memory a value))

unfoldable pub show_word_of : ℕ → List ℕ → GuestAddress → Result ℕ Refusal
show_word_of bytes memory a = unless_refused (known_word_refusal bytes (length memory) a) (λ r. Err r) (Ok (read_word memory a))

-- what the caller makes of each, which leaves the machine
abbrev pub called_by_poke : Machine → Result Record Refusal → Called
called_by_poke m (Ok made) = record { answer = Ok Poked; made = Some made; machine = m }
called_by_poke m (Err r) = refused r m

abbrev pub outcome_by_poke : Machine → PokeWordOutcome → PokeOutcome
outcome_by_poke m o = poke_outcome (called_by_poke m o.made) o.memory

abbrev pub called_by_show : Machine → Result ℕ Refusal → Called
called_by_show m (Ok word) = answered (Word word) m
called_by_show m (Err r) = refused r m
