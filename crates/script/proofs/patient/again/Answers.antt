use Rattle.std.proofs.Common.{ap, sym, ◌∙◌}
use Rattle.script.specs.Patience.{passes}
use Rattle.script.proofs.patient.again.Goals as goal

pub returns-in-Interrupted : goal.returns-in-Interrupted
returns-in-Interrupted c = sym (ap passes (sym c.kind.ensures ∙ c.in-Interrupted.is))
