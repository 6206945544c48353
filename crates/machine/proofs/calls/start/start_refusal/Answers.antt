use Rattle.std.proofs.Common.{arith}
use Rattle.rules.specs.Calls.{start_refusal}
use Rattle.machine.proofs.calls.start.start_refusal.Goals as goal

pub returns-then-not-cores_fit : goal.returns-then-not-cores_fit
unfolding start_refusal
returns-then-not-cores_fit c = grind arith
