use Rattle.std.proofs.Common.{arith}
use Rattle.commands.proofs.Written.{writing_on, writing_ends, one_ends, several_left, one_digit_left}
use Rattle.commands.proofs.decimal.put_decimal.Goals as goal

pub loop-to-preserved : goal.loop-to-preserved
loop-to-preserved c =
    let l = c.loop-to in
    let several = several_left c.args.number c.args.at _ l.left l.to l.out l.invariant c.loop-to-test.true in
    writing_on c.args.number c.args.at _ l.left l.to l.out l.invariant several

pub overflow_cast-out-2 : goal.overflow_cast-out-2
overflow_cast-out-2 c = let l = c.loop-to in let one = one_digit_left c.args.number c.args.at _ l.left l.to l.out l.invariant c.loop-to-test.false in omega (arith, one)

pub overflow_add-out-2 : goal.overflow_add-out-2
overflow_add-out-2 c = let l = c.loop-to in let one = one_digit_left c.args.number c.args.at _ l.left l.to l.out l.invariant c.loop-to-test.false in omega (arith, one)

pub bounds-out-at : goal.bounds-out-at
bounds-out-at c = let l = c.loop-to in one_ends c.args.number c.args.at _ l.left l.to l.out l.invariant

pub returns-clause-out_after : goal.returns-clause-out_after
returns-clause-out_after c =
    let l = c.loop-to in
    let one = one_digit_left c.args.number c.args.at _ l.left l.to l.out l.invariant c.loop-to-test.false in
    writing_ends c.args.number c.args.at _ l.left l.to l.out l.invariant one
