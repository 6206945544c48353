use Rattle.std.proofs.Common.{take, ap}
use Rattle.script.specs.declared.serving.Serving.{Serving}
use Rattle.script.specs.Serving.{state_of}
use Rattle.script.proofs.Reading.{whole_output}
use Rattle.script.proofs.serving.serve_script.Goals as goal

pub returns-in-Ok-clause-output : goal.returns-in-Ok-clause-output
returns-in-Ok-clause-output g c =
    let a = c.args in
    let s = c.serve_all in
    let well = c.in-Ok.ensures in
    let begun : Serving = record { work = c.fresh.result; archives = c.take.result; out = c.new.result } in
    whole_output (state_of begun (g.W.Write.contents a.writer.now)) (state_of s.new.self (g.W.Write.contents s.new.writer)) (g.R.Read.remaining a.reader.now)
    c.fresh.ensures (ap (λ k. take k c.new.result.bytes) c.new.ensures) (ap (λ k. take k s.new.self.out.bytes) (well.all_out c.new.ensures)) well.lines
