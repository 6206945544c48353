use Rattle.std.proofs.Common.{◌≡◌, take}
use Rattle.script.specs.Serving.{state_of}
use Rattle.script.proofs.Reading.{SoFar}
use Rattle.script.proofs.serving.Serving.serve_all.Given as goal

abbrev pub invariant-loop : goal.invariant-loop
invariant-loop g l =
    record {
      so_far : SoFar (state_of l.fn.self (g.W.Write.contents l.fn.writer)) (g.R.Read.remaining l.fn.reader) (g.R.Read.remaining l.reader) (take l.input.held l.input.bytes) (state_of l.self (g.W.Write.contents l.writer));
      all_out : l.fn.self.out.len ≡ 0 → l.self.out.len ≡ 0;
    }
