use Rattle.std.proofs.Common.{arith}
use Rattle.machine.proofs.Looking.{stage_found}
use Rattle.machine.proofs.ranges.stage_of.Goals as goal

pub offset_bounds-operation : goal.offset_bounds-operation
offset_bounds-operation c = omega arith

pub bounds-operation : goal.bounds-operation
bounds-operation c = c.requires.few_operations

pub bounds-next : goal.bounds-next
bounds-next c = c.requires.few_steps

pub returns : goal.returns
returns c = stage_found c.args.operation c.args.next c.requires.few_operations c.requires.few_steps
