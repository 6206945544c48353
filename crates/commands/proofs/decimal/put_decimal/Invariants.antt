use Rattle.commands.proofs.Written.{Writing}
use Rattle.commands.proofs.decimal.put_decimal.Given as goal

abbrev pub invariant-loop-to : goal.invariant-loop-to
invariant-loop-to l = Writing l.number l.at l.fn.out l.left l.to l.out
