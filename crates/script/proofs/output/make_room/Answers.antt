use Rattle.std.proofs.Common.{arith}
use Rattle.script.proofs.output.make_room.Goals as goal

pub returns-then-needed-room-clause-room : goal.returns-then-needed-room-clause-room
returns-then-needed-room-clause-room g c = omega arith
