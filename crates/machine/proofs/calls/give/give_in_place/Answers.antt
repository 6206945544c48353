use Rattle.std.proofs.Common.{◌≡◌, Err, sym, ◌∙◌, rules}
use Rattle.machine.proofs.Giving.{give_put}
use Rattle.machine.proofs.calls.give.give_in_place.Goals as goal

pub returns-in_err-machine : goal.returns-in_err-machine
returns-in_err-machine c =
    let p = give_put c.args.machine.now (sym c.in_ranges.ensures ∙ c.if-not-in_ranges.false) _ _ _ (rw c.of.ensures at c.in_err-machine.ensures) in
    let r : c.from_residual.result ≡ Err c.in_err-machine.field-0.0 = search rules in
    rw r (record { number = p.0; outcome = p.1 })

pub returns : goal.returns
returns c =
    let p = give_put c.args.machine.now (sym c.in_ranges.ensures ∙ c.if-not-in_ranges.false) _ _ _ (rw c.of.ensures at c.in_ok-machine.ensures) in
    record { number = p.0; outcome = p.1 }
