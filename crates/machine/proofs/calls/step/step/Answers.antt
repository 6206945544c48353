use Rattle.std.proofs.Common.{sym, ◌∙◌}
use Rattle.machine.proofs.Stepping.{step_put}
use Rattle.machine.proofs.calls.step.step.Goals as goal

pub returns-in-Ok : goal.returns-in-Ok
returns-in-Ok c =
    let p = step_put c.args.m (sym c.in_ranges.ensures ∙ c.if-not-in_ranges.false) _ _ _ _ _ _ _ _ (rw c.of-sizes.ensures at c.in-Ok.ensures) in
    record { number = p.0; outcome = p.1 }

pub returns-in-Err : goal.returns-in-Err
returns-in-Err c =
    let p = step_put c.args.m (sym c.in_ranges.ensures ∙ c.if-not-in_ranges.false) _ _ _ _ _ _ _ _ (rw c.of-sizes.ensures at c.in-Err.ensures) in
    record { number = p.0; outcome = p.1 }
