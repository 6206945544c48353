-- A bench reads out of a packed answer what was packed.
-- Assumes nothing.
use Rattle.std.proofs.Common.{arith}
use Rattle.bench.specs.Laws.{EachAnswerUnpacks}

pub each_answer_unpacks : EachAnswerUnpacks
each_answer_unpacks =
    record {
      of_machine = λ a. record { number = grind arith; value = grind arith };
      of_writer = λ a. record { number = grind arith; value = grind arith };
      of_check = λ a. record { number = grind arith; value = grind arith };
      of_record = λ a. record { number = grind arith; value = grind arith };
      of_archive = λ a. record { number = grind arith; value = grind arith };
      of_decided = λ a. record { number = grind arith; value = grind arith };
    }
