use Rattle.std.proofs.Common.{rules, ◌≡◌, Ok, ap}
use Rattle.machine.specs.Known.{picked}
use Rattle.machine.specs.Sizes.{sizes_of}
use Rattle.commands.specs.Turns.{turn_outcome, act_on, put_by}
use Rattle.commands.proofs.turns.turn.Goals as goal

-- what was done on the core that is picked out, and that core put back in its place
pub returns-in-Ok : goal.returns-in-Ok
returns-in-Ok c =
    let a = c.args in
    let m = a.m.now in
    let n = c.act.new in
    let told : turn_outcome (Ok c.in-Ok.did) n.memory n.owners n.holders ≡ act_on (sizes_of m) (picked m a.core) a.memory.now a.owners.now a.holders.now a.command = search rules in
    ap (put_by m a.core) told
