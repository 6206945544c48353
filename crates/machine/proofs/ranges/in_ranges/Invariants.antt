use Rattle.std.proofs.Common.{◌≡◌, true}
use Rattle.rules.specs.Basics.{all_below}
use Rattle.machine.specs.Looked.{fits_at}
use Rattle.machine.proofs.ranges.in_ranges.Given as goal

abbrev pub invariant-loop-i : goal.invariant-loop-i
invariant-loop-i l = all_below l.i (fits_at l.m) ≡ true

abbrev pub invariant-loop-i-2 : goal.invariant-loop-i-2
invariant-loop-i-2 l = all_below l.i (fits_at l.m) ≡ true
