-- The readings of the archive's calls: each asks nothing, and gives what the rules give; and their code keeps their contracts.
-- Assumes nothing.
use Rattle.std.proofs.Common.{◌≡◌, ℕ, Bool, List, Ok, Err, refl, ap, ◌∙◌}
use Rattle.rules.specs.Refusals.{Tested, number_in, unless_refused}
use Rattle.archive.specs.Reader.{block_refusal, read_of, next_turn, handed_out, reader_at}
use Rattle.archive.specs.declared.reader.Turn.{Turn}
use Rattle.archive.proofs.writer.Writer.add.Met as writer-add-met
use Rattle.archive.proofs.writer.Writer.close.Met as writer-close-met
use Rattle.archive.proofs.check_block.Met as check-block-met
use Rattle.archive.proofs.record_at.Met as record-at-met
use Rattle.archive.proofs.reader.Reader.open.Met as reader-open-met
use Rattle.archive.proofs.reader.Reader.next.Met as reader-next-met
use Rattle.archive.proofs.turn_at.Met as turn-at-met
use Rattle.archive.proofs.turn_through.Met as turn-through-met
use Rattle.archive.proofs.check_archive.Met as check-archive-met
use Rattle.archive.proofs.decided_by.Met as decided-by-met
use Rattle.archive.proofs.record_of_number.Met as record-of-number-met
use Rattle.promises.specs.Readings.{Reading, AsksNothing, Numbered, AsTheRule, OneOutcome}
use Rattle.promises.specs.ArchiveReadings.{writer_add, writer_close, check_block, record_at, reader_open, reader_next, turn_at, turn_through, check_archive, block_that_decided, record_of_number, EachArchiveCall, ArchiveCodeKeeps}
use Rattle.promises.proofs.MachineCalls.{one_of_rule}

pub archive_code : ArchiveCodeKeeps
archive_code =
    record {
      writer_add = λ M. writer-add-met.met;
      writer_close = λ M. writer-close-met.met;
      check_block = λ M. check-block-met.met;
      record_at = λ M. record-at-met.met;
      reader_open = λ M. reader-open-met.met;
      reader_next = λ M. reader-next-met.met;
      turn_at = λ M. turn-at-met.met;
      turn_through = λ M. turn-through-met.met;
      check_archive = λ M. check-archive-met.met;
      decided_by = λ M. decided-by-met.met;
      record_of_number = λ M. record-of-number-met.met;
    }

-- what each reading gives, by its clauses in their order
pub archive_asks_nothing : EachArchiveCall AsksNothing
archive_asks_nothing =
    record {
      writer_add_is = λ κs a. tt;
      writer_close_is = λ κs a. tt;
      check_block_is = λ κs a. tt;
      record_at_is = λ κs a. tt;
      reader_open_is = λ κs a. tt;
      reader_next_is = λ κs a. tt;
      turn_at_is = λ κs a. tt;
      turn_through_is = λ κs a. tt;
      check_archive_is = λ κs a. tt;
      decided_by_is = λ κs a. tt;
      record_of_number_is = λ κs a. tt;
    }

-- a hand-out has the number of its block
read_number : (b : List ℕ) (expected : ℕ) (short : Bool) (place : ℕ) → number_in (read_of b expected short place) ≡ number_in (block_refusal b expected short)
unfolding read_of
read_number b expected short place = go (block_refusal b expected short)
  where
    go : (t : Tested) → number_in (unless_refused t Err (Ok (handed_out b place))) ≡ number_in t
    go (Ok u) = refl
    go (Err r) = refl

turn_number : (turn : Turn) (b : List ℕ) (place expected : ℕ) (short : Bool) → turn ≡ next_turn b place expected short → number_in turn.read ≡ number_in (block_refusal b expected short)
turn_number turn b place expected short e = ap (λ (t : Turn). number_in t.read) e ∙ read_number b expected short place

pub archive_numbered : EachArchiveCall Numbered
archive_numbered =
    record {
      writer_add_is = λ κs a result exit p. p.0;
      writer_close_is = λ κs a result exit p. p.0;
      check_block_is = λ κs a result exit p. p.0;
      record_at_is = λ κs a result exit p. p.0;
      reader_open_is = λ κs a result exit p. ap number_in p.0;
      reader_next_is = λ κs a result exit p. turn_number result _ _ _ _ p.0;
      turn_at_is = λ κs a result exit p. turn_number result _ _ _ _ p;
      turn_through_is = λ κs a result exit p. turn_number result _ _ _ _ p;
      check_archive_is = λ κs a result exit p. p.0;
      decided_by_is = λ κs a result exit p. refl;
      record_of_number_is = λ κs a result exit p. p.0;
    }

pub archive_as_the_rules : EachArchiveCall AsTheRule
archive_as_the_rules =
    record {
      writer_add_is = λ κs a result exit p. p.1;
      writer_close_is = λ κs a result exit p. p.1;
      check_block_is = λ κs a result exit p. p.1;
      record_at_is = λ κs a result exit p. p.1;
      reader_open_is = λ κs a result exit p. λ i. (p.0 i, p.1 i);
      reader_next_is = λ κs a result exit p. λ i. (p.0 i, (p.1 ∙ ap (λ (t : Turn). reader_at a.0.now.block t.place a.0.now.expected a.0.now.short) p.0) i);
      turn_at_is = λ κs a result exit p. p;
      turn_through_is = λ κs a result exit p. p;
      check_archive_is = λ κs a result exit p. p.1;
      decided_by_is = λ κs a result exit p. p;
      record_of_number_is = λ κs a result exit p. p.1;
    }

-- what holds of a call where another thing does holds of each of them
module _ (P Q : (Result Exit Left : Type 0) → Reading Result Exit Left → Type 0) (to : (Result Exit Left : Type 0) (call : Reading Result Exit Left) → P Result Exit Left call → Q Result Exit Left call) where
  each_archive : EachArchiveCall P → EachArchiveCall Q
  each_archive is =
      record {
        writer_add_is = λ κs a. to _ _ _ (writer_add κs a) (is.writer_add_is κs a);
        writer_close_is = λ κs a. to _ _ _ (writer_close κs a) (is.writer_close_is κs a);
        check_block_is = λ κs a. to _ _ _ (check_block κs a) (is.check_block_is κs a);
        record_at_is = λ κs a. to _ _ _ (record_at κs a) (is.record_at_is κs a);
        reader_open_is = λ κs a. to _ _ _ (reader_open κs a) (is.reader_open_is κs a);
        reader_next_is = λ κs a. to _ _ _ (reader_next κs a) (is.reader_next_is κs a);
        turn_at_is = λ κs a. to _ _ _ (turn_at κs a) (is.turn_at_is κs a);
        turn_through_is = λ κs a. to _ _ _ (turn_through κs a) (is.turn_through_is κs a);
        check_archive_is = λ κs a. to _ _ _ (check_archive κs a) (is.check_archive_is κs a);
        decided_by_is = λ κs a. to _ _ _ (block_that_decided κs a) (is.decided_by_is κs a);
        record_of_number_is = λ κs a. to _ _ _ (record_of_number κs a) (is.record_of_number_is κs a);
      }

pub archive_determined : EachArchiveCall OneOutcome
archive_determined = each_archive AsTheRule OneOutcome one_of_rule archive_as_the_rules
