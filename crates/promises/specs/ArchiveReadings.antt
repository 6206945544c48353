-- The archive's public calls, each on one input: `a` is what it is handed, `exit` what it was lent, at the end. Here alone the names stand that the checker makes for them.
use Rattle.std.specs.Prelude.{ℕ, length, Result, Option}
use contract.Lifetimes.{Lfts}
use borrow.Fn.World.{ArgsD}
use borrow.Fn.Kinds.{ended_of}
use denote.Triple.Clauses.{AtExit}
use Rattle.rules.specs.Refusals.{Tested, number_in}
use Rattle.rules.specs.declared.refusals.Refusal.{Refusal}
use Rattle.archive.specs.Writer.{WriteOutcome, write_outcome, add_refusal, close_refusal, add_of, close_of}
use Rattle.archive.specs.Reader.{block_refusal, read_of, next_turn, reader_at}
use Rattle.archive.specs.Archive.{archive_refusal, decided_by, whole_of, sought_of}
use Rattle.archive.specs.declared.answers.Numbered.{Numbered}
use Rattle.archive.specs.declared.writer.WriterCalled.{WriterCalled}
use Rattle.archive.specs.declared.reader.Reader.{Reader}
use Rattle.archive.specs.declared.reader.Opened.{Opened}
use Rattle.archive.specs.declared.reader.Turn.{Turn}
use Rattle.archive.specs.contracts.check_block as check-block-contract
use Rattle.archive.proofs.check_block.Kinds as check-block-kinds
use Rattle.archive.proofs.check_block.Reads as check-block-reads
use Rattle.archive.proofs.check_block.Statement as check-block-statement
use Rattle.archive.specs.contracts.record_at as record-at-contract
use Rattle.archive.proofs.record_at.Kinds as record-at-kinds
use Rattle.archive.proofs.record_at.Reads as record-at-reads
use Rattle.archive.proofs.record_at.Statement as record-at-statement
use Rattle.archive.specs.contracts.turn_at as turn-at-contract
use Rattle.archive.proofs.turn_at.Kinds as turn-at-kinds
use Rattle.archive.proofs.turn_at.Reads as turn-at-reads
use Rattle.archive.proofs.turn_at.Statement as turn-at-statement
use Rattle.archive.specs.contracts.turn_through as turn-through-contract
use Rattle.archive.proofs.turn_through.Kinds as turn-through-kinds
use Rattle.archive.proofs.turn_through.Reads as turn-through-reads
use Rattle.archive.proofs.turn_through.Statement as turn-through-statement
use Rattle.archive.specs.contracts.check_archive as check-archive-contract
use Rattle.archive.proofs.check_archive.Kinds as check-archive-kinds
use Rattle.archive.proofs.check_archive.Reads as check-archive-reads
use Rattle.archive.proofs.check_archive.Statement as check-archive-statement
use Rattle.archive.specs.contracts.decided_by as decided-by-contract
use Rattle.archive.proofs.decided_by.Kinds as decided-by-kinds
use Rattle.archive.proofs.decided_by.Reads as decided-by-reads
use Rattle.archive.proofs.decided_by.Statement as decided-by-statement
use Rattle.archive.specs.contracts.record_of_number as record-of-number-contract
use Rattle.archive.proofs.record_of_number.Kinds as record-of-number-kinds
use Rattle.archive.proofs.record_of_number.Reads as record-of-number-reads
use Rattle.archive.proofs.record_of_number.Statement as record-of-number-statement
use Rattle.archive.specs.contracts.reader.Reader.open as reader-open-contract
use Rattle.archive.proofs.reader.Reader.open.Kinds as reader-open-kinds
use Rattle.archive.proofs.reader.Reader.open.Reads as reader-open-reads
use Rattle.archive.proofs.reader.Reader.open.Statement as reader-open-statement
use Rattle.archive.specs.contracts.reader.Reader.next as reader-next-contract
use Rattle.archive.proofs.reader.Reader.next.Kinds as reader-next-kinds
use Rattle.archive.proofs.reader.Reader.next.Reads as reader-next-reads
use Rattle.archive.proofs.reader.Reader.next.Statement as reader-next-statement
use Rattle.archive.specs.contracts.writer.Writer.add as writer-add-contract
use Rattle.archive.proofs.writer.Writer.add.Kinds as writer-add-kinds
use Rattle.archive.proofs.writer.Writer.add.Reads as writer-add-reads
use Rattle.archive.proofs.writer.Writer.add.Statement as writer-add-statement
use Rattle.archive.specs.contracts.writer.Writer.close as writer-close-contract
use Rattle.archive.proofs.writer.Writer.close.Kinds as writer-close-kinds
use Rattle.archive.proofs.writer.Writer.close.Reads as writer-close-reads
use Rattle.archive.proofs.writer.Writer.close.Statement as writer-close-statement
use Rattle.promises.specs.Readings.{Reading, CodeKeeps}

-- writer.add(block, record)
module _ (κs : Lfts 1) (a : ArgsD writer-add-contract.signature κs) where
  abbrev pub writer_add : Reading WriterCalled (AtExit (ended_of 1 writer-add-kinds.ps writer-add-kinds.r) κs) WriteOutcome
  writer_add =
      record {
        Asks = writer-add-reads.Asked κs a;
        Allows = writer-add-reads.Post κs a;
        number = λ result. number_in result.answer;
        first_refusal = number_in (add_refusal a.0 (length a.1.0.now) a.1.1.0);
        left = λ result exit. write_outcome result exit.1.0.now;
        rule = add_of a.0 a.1.0.now a.1.1.0;
      }

-- writer.close(block)
module _ (κs : Lfts 1) (a : ArgsD writer-close-contract.signature κs) where
  abbrev pub writer_close : Reading WriterCalled (AtExit (ended_of 1 writer-close-kinds.ps writer-close-kinds.r) κs) WriteOutcome
  writer_close =
      record {
        Asks = writer-close-reads.Asked κs a;
        Allows = writer-close-reads.Post κs a;
        number = λ result. number_in result.answer;
        first_refusal = number_in (close_refusal a.0 (length a.1.0.now));
        left = λ result exit. write_outcome result exit.1.0.now;
        rule = close_of a.0 a.1.0.now;
      }

-- check_block(block, expected, short)
module _ (κs : Lfts 1) (a : ArgsD check-block-contract.signature κs) where
  abbrev pub check_block : Reading Tested (AtExit (ended_of 1 check-block-kinds.ps check-block-kinds.r) κs) Tested
  check_block =
      record {
        Asks = check-block-reads.Asked κs a;
        Allows = check-block-reads.Post κs a;
        number = λ result. number_in result;
        first_refusal = number_in (block_refusal a.0.now a.1.0 a.1.1.0);
        left = λ result exit. result;
        rule = block_refusal a.0.now a.1.0 a.1.1.0;
      }

-- record_at(block, expected, short, place)
module _ (κs : Lfts 1) (a : ArgsD record-at-contract.signature κs) where
  abbrev pub record_at : Reading (Result (Option Numbered) Refusal) (AtExit (ended_of 1 record-at-kinds.ps record-at-kinds.r) κs) (Result (Option Numbered) Refusal)
  record_at =
      record {
        Asks = record-at-reads.Asked κs a;
        Allows = record-at-reads.Post κs a;
        number = λ result. number_in result;
        first_refusal = number_in (block_refusal a.0.now a.1.0 a.1.1.0);
        left = λ result exit. result;
        rule = read_of a.0.now a.1.0 a.1.1.0 a.1.1.1.0;
      }

-- Reader::open(block, expected, short)
module _ (κs : Lfts 1) (a : ArgsD reader-open-contract.signature κs) where
  abbrev pub reader_open : Reading Opened (AtExit (ended_of 1 reader-open-kinds.ps reader-open-kinds.r) κs) (Tested × Reader)
  reader_open =
      record {
        Asks = reader-open-reads.Asked κs a;
        Allows = reader-open-reads.Post κs a;
        number = λ result. number_in result.checked;
        first_refusal = number_in (block_refusal a.0.now a.1.0 a.1.1.0);
        left = λ result exit. (result.checked, result.reader);
        rule = (block_refusal a.0.now a.1.0 a.1.1.0, reader_at a.0 0 a.1.0 a.1.1.0);
      }

-- reader.next()
module _ (κs : Lfts 2) (a : ArgsD reader-next-contract.signature κs) where
  abbrev pub reader_next : Reading Turn (AtExit (ended_of 2 reader-next-kinds.ps reader-next-kinds.r) κs) (Turn × Reader)
  reader_next =
      record {
        Asks = reader-next-reads.Asked κs a;
        Allows = reader-next-reads.Post κs a;
        number = λ result. number_in result.read;
        first_refusal = number_in (block_refusal a.0.now.block.now a.0.now.expected a.0.now.short);
        left = λ result exit. (result, exit.0.now);
        rule = (next_turn a.0.now.block.now a.0.now.place a.0.now.expected a.0.now.short, reader_at a.0.now.block (next_turn a.0.now.block.now a.0.now.place a.0.now.expected a.0.now.short).place a.0.now.expected a.0.now.short);
      }

-- turn_at(block, place, expected, short)
module _ (κs : Lfts 1) (a : ArgsD turn-at-contract.signature κs) where
  abbrev pub turn_at : Reading Turn (AtExit (ended_of 1 turn-at-kinds.ps turn-at-kinds.r) κs) Turn
  turn_at =
      record {
        Asks = turn-at-reads.Asked κs a;
        Allows = turn-at-reads.Post κs a;
        number = λ result. number_in result.read;
        first_refusal = number_in (block_refusal a.0.now a.1.1.0 a.1.1.1.0);
        left = λ result exit. result;
        rule = next_turn a.0.now a.1.0 a.1.1.0 a.1.1.1.0;
      }

-- turn_through(block, place, expected, short)
module _ (κs : Lfts 1) (a : ArgsD turn-through-contract.signature κs) where
  abbrev pub turn_through : Reading Turn (AtExit (ended_of 1 turn-through-kinds.ps turn-through-kinds.r) κs) Turn
  turn_through =
      record {
        Asks = turn-through-reads.Asked κs a;
        Allows = turn-through-reads.Post κs a;
        number = λ result. number_in result.read;
        first_refusal = number_in (block_refusal a.0.now a.1.1.0 a.1.1.1.0);
        left = λ result exit. result;
        rule = next_turn a.0.now a.1.0 a.1.1.0 a.1.1.1.0;
      }

-- check_archive(bytes)
module _ (κs : Lfts 1) (a : ArgsD check-archive-contract.signature κs) where
  abbrev pub check_archive : Reading (Result ℕ Refusal) (AtExit (ended_of 1 check-archive-kinds.ps check-archive-kinds.r) κs) (Result ℕ Refusal)
  check_archive =
      record {
        Asks = check-archive-reads.Asked κs a;
        Allows = check-archive-reads.Post κs a;
        number = λ result. number_in result;
        first_refusal = number_in (archive_refusal a.0.now);
        left = λ result exit. result;
        rule = whole_of a.0.now;
      }

-- decided_by(bytes), which refuses nothing
module _ (κs : Lfts 1) (a : ArgsD decided-by-contract.signature κs) where
  abbrev pub block_that_decided : Reading (Option ℕ) (AtExit (ended_of 1 decided-by-kinds.ps decided-by-kinds.r) κs) (Option ℕ)
  block_that_decided =
      record {
        Asks = decided-by-reads.Asked κs a;
        Allows = decided-by-reads.Post κs a;
        number = λ result. 0;
        first_refusal = 0;
        left = λ result exit. result;
        rule = decided_by a.0.now;
      }

-- record_of_number(bytes, number)
module _ (κs : Lfts 1) (a : ArgsD record-of-number-contract.signature κs) where
  abbrev pub record_of_number : Reading (Result (Option Numbered) Refusal) (AtExit (ended_of 1 record-of-number-kinds.ps record-of-number-kinds.r) κs) (Result (Option Numbered) Refusal)
  record_of_number =
      record {
        Asks = record-of-number-reads.Asked κs a;
        Allows = record-of-number-reads.Post κs a;
        number = λ result. number_in result;
        first_refusal = number_in (archive_refusal a.0.now);
        left = λ result exit. result;
        rule = sought_of a.0.now a.1.0;
      }

-- what is said of each of them
pub record EachArchiveCall (P : (Result Exit Left : Type 0) → Reading Result Exit Left → Type 0) : Type 0 where
  pub writer_add_is : (κs : Lfts 1) (a : ArgsD writer-add-contract.signature κs) → P _ _ _ (writer_add κs a)
  pub writer_close_is : (κs : Lfts 1) (a : ArgsD writer-close-contract.signature κs) → P _ _ _ (writer_close κs a)
  pub check_block_is : (κs : Lfts 1) (a : ArgsD check-block-contract.signature κs) → P _ _ _ (check_block κs a)
  pub record_at_is : (κs : Lfts 1) (a : ArgsD record-at-contract.signature κs) → P _ _ _ (record_at κs a)
  pub reader_open_is : (κs : Lfts 1) (a : ArgsD reader-open-contract.signature κs) → P _ _ _ (reader_open κs a)
  pub reader_next_is : (κs : Lfts 2) (a : ArgsD reader-next-contract.signature κs) → P _ _ _ (reader_next κs a)
  pub turn_at_is : (κs : Lfts 1) (a : ArgsD turn-at-contract.signature κs) → P _ _ _ (turn_at κs a)
  pub turn_through_is : (κs : Lfts 1) (a : ArgsD turn-through-contract.signature κs) → P _ _ _ (turn_through κs a)
  pub check_archive_is : (κs : Lfts 1) (a : ArgsD check-archive-contract.signature κs) → P _ _ _ (check_archive κs a)
  pub decided_by_is : (κs : Lfts 1) (a : ArgsD decided-by-contract.signature κs) → P _ _ _ (block_that_decided κs a)
  pub record_of_number_is : (κs : Lfts 1) (a : ArgsD record-of-number-contract.signature κs) → P _ _ _ (record_of_number κs a)

-- the theorems of their code
pub record ArchiveCodeKeeps : Type 2 where
  pub writer_add : CodeKeeps writer-add-statement.statement
  pub writer_close : CodeKeeps writer-close-statement.statement
  pub check_block : CodeKeeps check-block-statement.statement
  pub record_at : CodeKeeps record-at-statement.statement
  pub reader_open : CodeKeeps reader-open-statement.statement
  pub reader_next : CodeKeeps reader-next-statement.statement
  pub turn_at : CodeKeeps turn-at-statement.statement
  pub turn_through : CodeKeeps turn-through-statement.statement
  pub check_archive : CodeKeeps check-archive-statement.statement
  pub decided_by : CodeKeeps decided-by-statement.statement
  pub record_of_number : CodeKeeps record-of-number-statement.statement
