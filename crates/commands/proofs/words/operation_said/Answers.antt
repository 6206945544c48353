use Rattle.commands.proofs.words.operation_said.Goals as goal

pub returns : goal.returns
returns c = c.said.ensures
