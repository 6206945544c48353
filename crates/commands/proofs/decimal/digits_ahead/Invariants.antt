use Rattle.commands.proofs.Digits.{Reading}
use Rattle.commands.proofs.decimal.digits_ahead.Given as goal

abbrev pub invariant-loop-count : goal.invariant-loop-count
invariant-loop-count l = Reading l.bytes l.value l.count
