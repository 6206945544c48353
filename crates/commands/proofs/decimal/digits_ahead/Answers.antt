use Rattle.std.proofs.Common.{◌∙◌, sym}
use Rattle.commands.proofs.Digits.{reading_starts, reading_on}
use Rattle.commands.proofs.decimal.digits_ahead.Goals as goal

pub loop-count-init : goal.loop-count-init
loop-count-init c = reading_starts c.args.bytes.now

pub loop-count-preserved : goal.loop-count-preserved
loop-count-preserved c =
    let l = c.loop-count in
    let d = sym c.is_ascii_digit.ensures.value ∙ c.if-not-is_ascii_digit.false in
    reading_on c.args.bytes.now c.min.result l.value l.count c.from.result l.invariant c.loop-count-test.true d c.from.ensures
