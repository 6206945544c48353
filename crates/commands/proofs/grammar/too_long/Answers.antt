use Rattle.std.proofs.Common.{refl}
use Rattle.commands.proofs.grammar.too_long.Goals as goal

pub returns : goal.returns
returns c = refl
