-- A write that failed so far appended nothing.
use Rattle.std.specs.Io.KnownBytes.{Keeps}
use Rattle.script.proofs.patient.write_patiently.Given as goal

abbrev pub invariant-loop : goal.invariant-loop
invariant-loop g l = Keeps (g.W.Write.contents l.initial.writer) (g.W.Write.contents l.writer)
