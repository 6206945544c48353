use Rattle.std.proofs.Common.{ap}
use Rattle.script.specs.Output.{work}
use Rattle.script.proofs.work.Work.fresh.Goals as goal

pub returns : goal.returns
returns c = ap (λ s. work s _ _ _ 0) c.no_machine.ensures
