-- RULES 13, the library for a bench: what crosses to C: an answer as one number, a record as its 16 bytes.
use Rattle.std.specs.Prelude.{ℕ, ◌+◌, ◌*◌, ◌%◌, Option, Some, None, Result, Ok, Err, List, replicate}
use Rattle.rules.specs.Refusals.{refusal_number}
use Rattle.rules.specs.declared.answers.Answer.{Answer}
use Rattle.rules.specs.declared.answers.Answer.TheVariants as answer
use Rattle.rules.specs.declared.answers.Delivered.{Delivered}
use Rattle.rules.specs.declared.answers.Delivered.TheVariants as delivered
use Rattle.rules.specs.declared.answers.Record.{Record}
use Rattle.rules.specs.declared.refusals.Refusal.{Refusal}
use Rattle.archive.specs.Records.{encode_record}
use Rattle.archive.specs.declared.answers.Put.{Put}
use Rattle.archive.specs.declared.answers.Put.TheVariants as put
use Rattle.archive.specs.declared.answers.Numbered.{Numbered}

-- RULES 13.4: "An answer is one number of 64 bits: bits 0 to 7 are the answer number, bits 8 to 15 say which answer it is, bits 16 to 31 are 0, and bits 32 to 63 are the value, or 0 where it has none.": of an answer that is no refusal, whose number is 0
abbrev pub word_and_value : ℕ → ℕ → ℕ
word_and_value word value = 256 * word + 4294967296 * value

-- RULES 13.5, 5 to 8: what a finished operation answers
abbrev pub packed_delivered : Delivered → ℕ
packed_delivered (delivered.Load v) = word_and_value 5 v
packed_delivered (delivered.Ll v) = word_and_value 6 v
packed_delivered delivered.Store = word_and_value 7 0
packed_delivered (delivered.Sc v) = word_and_value 8 v

-- RULES 13.5, 1: "ready"; 2: "taken"; 3: "moved"; 4: "waits"; 9: "poked"; 10: "shown", with "the word"
abbrev pub packed_answer : Answer → ℕ
packed_answer answer.Ready = word_and_value 1 0
packed_answer answer.Taken = word_and_value 2 0
packed_answer answer.Moved = word_and_value 3 0
packed_answer answer.Waits = word_and_value 4 0
packed_answer (answer.Done d) = packed_delivered d
packed_answer answer.Poked = word_and_value 9 0
packed_answer (answer.Word v) = word_and_value 10 v

-- RULES 13.5, 11: "no block was put out"; 12: "the lent block was put out"
abbrev pub packed_put : Put → ℕ
packed_put put.Nothing = word_and_value 11 0
packed_put put.Block = word_and_value 12 0

-- RULES 13.5, 13: "the block is good"
abbrev pub packed_good : Unit {0} → ℕ
packed_good good = word_and_value 13 0

-- RULES 13.5, 14: "there is no record there"; 15: "a record is handed out"
abbrev pub packed_found : Option Numbered → ℕ
packed_found None = word_and_value 14 0
packed_found (Some found) = word_and_value 15 0

-- RULES 13.5, 16: "the archive is good", with "how many records it has"
abbrev pub packed_count : ℕ → ℕ
packed_count records = word_and_value 16 (records % 4294967296)

-- RULES 13.5, 17: "no block decided"; 18: "a block decided", with "its index"
abbrev pub packed_decided : Option ℕ → ℕ
packed_decided None = word_and_value 17 0
packed_decided (Some index) = word_and_value 18 (index % 4294967296)

-- RULES 13.5: "The number that says which answer it is, is 0 for a refusal"; RULES 13.6: "A refusal has no value (6.2)": its number alone
abbrev pub packed_by : {A E : Type 0} → (A → ℕ) → (E → ℕ) → Result A E → ℕ
packed_by answered refused (Ok answer) = answered answer
packed_by answered refused (Err refusal) = refused refusal

abbrev pub packed : Result Answer Refusal → ℕ
packed = packed_by packed_answer refusal_number

abbrev pub packed_wrote : Result Put Refusal → ℕ
packed_wrote = packed_by packed_put refusal_number

abbrev pub packed_checked : Result (Unit {0}) Refusal → ℕ
packed_checked = packed_by packed_good refusal_number

abbrev pub packed_read : Result (Option Numbered) Refusal → ℕ
packed_read = packed_by packed_found refusal_number

abbrev pub packed_whole : Result ℕ Refusal → ℕ
packed_whole = packed_by packed_count refusal_number

-- RULES 13.7: "A record is its 16 bytes (7.4), with the number 0 until a writer numbers it. 16 zero bytes are no record."
abbrev pub no_record : List ℕ
no_record = replicate 16 0

-- RULES 13.9: "Where a call is not refused and hands out no record, the 16 bytes for it become 0."
abbrev pub handed_bytes : Option Record → List ℕ
handed_bytes None = no_record
handed_bytes (Some r) = encode_record 0 r

abbrev pub found_bytes : Option Numbered → List ℕ
found_bytes None = no_record
found_bytes (Some found) = encode_record found.number found.«record»
