use Rattle.std.proofs.Common.{◌≤◌, take, option_and_then, ap, ◌∙◌, arith, length-take}
use Rattle.script.specs.Lines.{handed}
use Rattle.script.specs.Output.{numbered}
use Rattle.script.specs.Answering.{work_of, lines_in}
use Rattle.script.specs.Archiving.{writer_in, whole_in}
use Rattle.script.specs.Serving.{state_of}
use Rattle.script.proofs.Cutting.{between_is}
use Rattle.script.proofs.Joining.{written_out}
use Rattle.script.proofs.serving.Serving.serve_piece.Goals as goal

pub returns-clause-lines : goal.returns-clause-lines
returns-clause-lines g c =
    let a = c.args in
    let s = c.answer_whole.new in
    let f = c.flush.new in
    written_out (state_of a.self.now (g.W.Write.contents a.writer.now)) (numbered (work_of a.self.now.work) (lines_in (take a.input.now.end a.input.now.bytes))) (work_of s.self.work) (g.W.Write.contents s.writer) (g.W.Write.contents f.writer)
    (take s.self.out.len s.self.out.bytes) (take f.out.len f.out.bytes) (option_and_then writer_in s.self.archives) (whole_in s.self.archives) c.in_ok-from.ensures.lines c.in_ok-flush.ensures.sent (ap (λ k. take k f.out.bytes) c.flush.ensures.empty)

pub returns-clause-held : goal.returns-clause-held
returns-clause-held g c e =
    let input = c.args.input.now in
    let from : c.in_ok-from.from ≤ input.end = (let w = c.in_ok-from.ensures.within in omega (arith, w, length-take input.end input.bytes)) in
    c.keep.ensures.front ∙ ap handed (between_is input.bytes c.in_ok-from.from input.end from ∙ c.in_ok-from.ensures.left e)
