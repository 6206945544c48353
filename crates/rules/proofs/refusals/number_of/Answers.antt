use Rattle.std.proofs.Common.{arith}
use Rattle.rules.proofs.refusals.number_of.Goals as goal

pub returns-in-Ok : goal.returns-in-Ok
returns-in-Ok g c = grind arith
