-- A read that failed so far consumed nothing.
use Rattle.std.proofs.Common.{◌≡◌, length}
use Rattle.std.specs.Io.KnownBytes.{Keeps}
use Rattle.script.proofs.patient.read_patiently.Given as goal

abbrev pub invariant-loop : goal.invariant-loop
invariant-loop g l =
    record {
      buffer : length l.buf ≡ length l.initial.buf;
      kept : Keeps (g.R.Read.remaining l.initial.reader) (g.R.Read.remaining l.reader);
    }
