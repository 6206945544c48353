use Rattle.std.proofs.Common.{arith}
use Rattle.machine.specs.Give.{known_give_refusal}
use Rattle.machine.proofs.calls.give.known_give_refusal.Goals as goal

pub returns : goal.returns
unfolding known_give_refusal
returns c = grind arith
