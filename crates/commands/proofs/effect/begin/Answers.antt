use Rattle.std.proofs.Common.{arith}
use Rattle.commands.specs.Effect.{new_of}
use Rattle.commands.proofs.effect.begin.Goals as goal

pub returns-then-not-b-memory : goal.returns-then-not-b-memory
unfolding new_of
returns-then-not-b-memory c = grind arith
