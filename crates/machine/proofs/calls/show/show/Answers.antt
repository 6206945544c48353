use Rattle.std.proofs.Common.{sym, ◌∙◌}
use Rattle.machine.proofs.PokingShowing.{show_put}
use Rattle.machine.proofs.calls.show.show.Goals as goal

pub returns-in-Ok : goal.returns-in-Ok
returns-in-Ok c =
    let p = show_put c.args.m (sym c.in_ranges.ensures ∙ c.if-not-in_ranges.false) _ _ _ c.in-Ok.ensures in
    rw c.answered.ensures (record { number = p.0; outcome = p.1 })

pub returns-in-Err : goal.returns-in-Err
returns-in-Err c =
    let p = show_put c.args.m (sym c.in_ranges.ensures ∙ c.if-not-in_ranges.false) _ _ _ c.in-Err.ensures in
    rw c.refused-in-Err.ensures (record { number = p.0; outcome = p.1 })
