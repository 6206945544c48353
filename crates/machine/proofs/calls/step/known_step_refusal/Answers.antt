use Rattle.std.proofs.Common.{arith}
use Rattle.machine.specs.Step.{known_step_refusal}
use Rattle.machine.proofs.calls.step.known_step_refusal.Goals as goal

pub returns : goal.returns
unfolding known_step_refusal
returns c = grind arith
