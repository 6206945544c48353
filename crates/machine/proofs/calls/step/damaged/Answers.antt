use Rattle.std.proofs.Common.{arith}
use Rattle.rules.specs.Ranges.{damaged}
use Rattle.machine.proofs.calls.step.damaged.Goals as goal

pub returns-else-lost : goal.returns-else-lost
unfolding damaged
returns-else-lost c = grind arith
