-- RULES 13, the library for a bench: what a bench reads out of a packed answer, by two of the header's macros: the number (RULES 6.1) and the value (RULES 4.18, 4.19, 4.34) that the rules give it; and what a refused call leaves.
use Rattle.std.specs.Prelude.{ℕ, ◌%◌, ◌/◌, ◌≡◌, Bool, List, [], ◌∷◌, Result, Option}
use Rattle.rules.specs.Answers.{values_of}
use Rattle.rules.specs.Refusals.{number_in}
use Rattle.rules.specs.declared.answers.Answer.{Answer}
use Rattle.rules.specs.declared.refusals.Refusal.{Refusal}
use Rattle.archive.specs.Answers.{wrote_values, checked_values, whole_values, decided_values}
use Rattle.archive.specs.declared.answers.Put.{Put}
use Rattle.archive.specs.declared.answers.Numbered.{Numbered}
use Rattle.rules.specs.declared.state.Machine.{Machine}
use Rattle.archive.specs.declared.writer.Writer.{Writer}
use Rattle.bench.specs.CallOutcome.{call_outcome}
use Rattle.bench.specs.Machines.{start_call_outcome, step_call_outcome, poke_call_outcome, start_call, give_call, step_call, poke_call, show_call}
use Rattle.bench.specs.Archives.{write_call_outcome, add_call, close_call, record_call, sought_call}
use Rattle.bench.specs.Packed.{packed, packed_wrote, packed_checked, packed_read, packed_whole, packed_decided}

-- RULES 13.4: "bits 0 to 7 are the answer number"
abbrev pub number_bits : ℕ → ℕ
number_bits answer = answer % 256

-- RULES 13.4: "bits 32 to 63 are the value, or 0 where it has none"
abbrev pub value_bits : ℕ → ℕ
value_bits answer = answer / 4294967296

-- the value of an answer that has one, and else 0
abbrev pub value_in : List ℕ → ℕ
value_in [] = 0
value_in (v ∷ vs) = v

-- a packed answer, and its number and value
pub record Unpacks (answer n v : ℕ) : Type 0 where
  pub number : number_bits answer ≡ n
  pub value : value_bits answer ≡ v

-- of every answer, a refusal too, which has the value 0. A record goes by its 16 bytes, and so has no value here. RULES 13.6: "Counts and indexes are taken modulo 2^32."
pub record EachAnswerUnpacks : Type 0 where
  pub of_machine : (a : Result Answer Refusal) → Unpacks (packed a) (number_in a) (value_in (values_of a))
  pub of_writer : (a : Result Put Refusal) → Unpacks (packed_wrote a) (number_in a) (value_in (wrote_values a))
  pub of_check : (a : Result (Unit {0}) Refusal) → Unpacks (packed_checked a) (number_in a) (value_in (checked_values a))
  pub of_record : (a : Result (Option Numbered) Refusal) → Unpacks (packed_read a) (number_in a) 0
  pub of_archive : (a : Result ℕ Refusal) → Unpacks (packed_whole a) (number_in a) (value_in (whole_values a) % 4294967296)
  pub of_decided : (a : Option ℕ) → Unpacks (packed_decided a) 0 (value_in (decided_values a) % 4294967296)

-- RULES 13.10: "A refused call leaves machine, writer, the 16 bytes for a record and all else that it was lent as found.": the outcome is its answer, and what was found. (What a call is lent to read it cannot change.)
abbrev pub Refused : ℕ → Type 0
Refused answer = number_bits answer ≡ 0 → ⊥

pub record EachRefusedCallLeaves : Type 0 where
  pub start : (m : Machine) (count : ℕ) (memory owners holders : List ℕ) → Refused (start_call m count memory owners holders).all.answer
      → start_call m count memory owners holders ≡ start_call_outcome (start_call m count memory owners holders).all.answer m memory owners holders
  pub give : (m : Machine) (core code a value : ℕ) → Refused (give_call m core code a value).answer → give_call m core code a value ≡ call_outcome (give_call m core code a value).answer m
  pub step : (m : Machine) (memory owners holders : List ℕ) (core : ℕ) (made : List ℕ) → Refused (step_call m memory owners holders core made).all.answer
      → step_call m memory owners holders core made ≡ step_call_outcome (step_call m memory owners holders core made).all.answer m memory owners holders made
  pub poke : (m : Machine) (memory : List ℕ) (a value : ℕ) (made : List ℕ) → Refused (poke_call m memory a value made).all.answer
      → poke_call m memory a value made ≡ poke_call_outcome (poke_call m memory a value made).all.answer m memory made
  pub show : (m : Machine) (memory : List ℕ) (a : ℕ) → Refused (show_call m memory a).answer → show_call m memory a ≡ call_outcome (show_call m memory a).answer m
  pub add : (w : Writer) (block made : List ℕ) → Refused (add_call w block made).all.answer → add_call w block made ≡ write_call_outcome (add_call w block made).all.answer w block
  pub close : (w : Writer) (block : List ℕ) → Refused (close_call w block).all.answer → close_call w block ≡ write_call_outcome (close_call w block).all.answer w block
  pub block_record : (block : List ℕ) (expected : ℕ) (after_short : Bool) (place : ℕ) (made : List ℕ) → Refused (record_call block expected after_short place made).answer
      → record_call block expected after_short place made ≡ call_outcome (record_call block expected after_short place made).answer made
  pub archive_record : (s : List ℕ) (number : ℕ) (made : List ℕ) → Refused (sought_call s number made).answer → sought_call s number made ≡ call_outcome (sought_call s number made).answer made
