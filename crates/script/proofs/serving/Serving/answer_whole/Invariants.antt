-- The lines are answered up to the present place.
use Rattle.std.proofs.Common.{◌-◌, length}
use Rattle.script.specs.Serving.{state_of}
use Rattle.script.proofs.Carried.{Came}
use Rattle.script.proofs.serving.Serving.answer_whole.Given as goal

abbrev pub invariant-loop-from : goal.invariant-loop-from
invariant-loop-from g l = Came (state_of l.fn.self (g.W.Write.contents l.fn.writer)) l.bytes l.from (state_of l.self (g.W.Write.contents l.writer))

abbrev pub decreases-loop-from : goal.decreases-loop-from
decreases-loop-from g l = length l.bytes - l.from
