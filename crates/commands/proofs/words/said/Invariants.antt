-- What is said from the present listed on is what the whole list says.
use Rattle.std.proofs.Common.{◌≡◌, map, drop}
use Rattle.commands.specs.Words.{said, listed}
use Rattle.commands.proofs.words.said.Given as goal

abbrev pub invariant-loop-row : goal.invariant-loop-row
invariant-loop-row g l = said (map listed (drop l.row-index l.words)) l.bytes ≡ said (map listed l.words) l.bytes
