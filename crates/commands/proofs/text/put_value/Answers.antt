use Rattle.std.proofs.Common.{arith, [], ◌∷◌, ◌∙◌}
use Rattle.commands.specs.Bytes.{space}
use Rattle.commands.specs.Decimal.{decimal}
use Rattle.commands.proofs.Placed.{value_few, put_both}
use Rattle.commands.proofs.text.put_value.Goals as goal

pub returns-clause-out_after : goal.returns-clause-out_after
returns-clause-out_after c =
    let a = c.args in
    let v = c.from.result in
    let one = c.put-to in
    let few = value_few v (let h = c.ranges.value.fits in omega (arith, h)) in
    let both = put_both (space ∷ []) (decimal v) a.at one.result a.out.now one.new.out one.ensures.out_after one.ensures.value (omega arith) in
    rw (← c.from.ensures) (c.put_decimal.ensures.out_after ∙ both)
