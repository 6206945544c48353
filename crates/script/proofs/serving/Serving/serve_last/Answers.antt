use Rattle.std.proofs.Common.{◌<◌, List, ℕ, length, subst, OnOk, arith}
use Rattle.script.specs.Output.{numbered}
use Rattle.script.specs.Answering.{work_of}
use Rattle.script.specs.Serving.{state_of, Answered}
use Rattle.script.proofs.Pieces.{last_one}
use Rattle.script.proofs.serving.Serving.serve_last.Goals as goal

pub returns-clause-line : goal.returns-clause-line
returns-clause-line g c =
    let a = c.args in
    let input = a.input.now in
    let n = c.serve_piece.new in
    let within : input.held < length input.bytes = omega arith in
    subst (λ (l : List (List ℕ)). OnOk c.serve_piece.result (Answered (state_of a.self.now (g.W.Write.contents a.writer.now)) (numbered (work_of a.self.now.work) l) (state_of n.self (g.W.Write.contents n.writer))))
    (last_one input.bytes input.held within c.if-held-eq0.false c.requires)
    c.serve_piece.ensures.lines
