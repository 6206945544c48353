use Rattle.std.proofs.Common.{◌≡◌, take, refl, ap, ◌∙◌, arith}
use Rattle.std.proofs.lemmas.Result.{on_ok_weaker}
use Rattle.script.specs.Lines.{between}
use Rattle.script.specs.Serving.{state_of}
use Rattle.script.proofs.Reading.{so_far_none, same_front, held_plain, nothing_between, below_last, so_far_on, to_the_last, to_the_end}
use Rattle.script.proofs.serving.Serving.serve_all.Goals as goal

pub loop-init : goal.loop-init
loop-init g c =
    let a = c.args in
    let i = c.new-input.result in
    record {
      so_far = so_far_none (state_of a.self.now (g.W.Write.contents a.writer.now)) (g.R.Read.remaining a.reader.now) (take i.held i.bytes) (ap (λ k. take k i.bytes) c.new-input.ensures);
      all_out = λ e. e;
    }

pub serve_last-requires : goal.serve_last-requires
serve_last-requires g c =
    let a = c.args in
    let l = c.loop in
    let r = c.in_ok-read.ensures in
    let n = c.read.new.self in
    held_plain (state_of a.self.now (g.W.Write.contents a.writer.now)) (state_of l.self (g.W.Write.contents l.writer)) (g.R.Read.remaining a.reader.now) (g.R.Read.remaining l.reader)
    (take l.input.held l.input.bytes) (take n.held n.bytes) l.invariant.so_far (same_front n.held l.input.held n.bytes l.input.bytes r.held r.front)

pub returns-then-input-clause-lines : goal.returns-then-input-clause-lines
returns-then-input-clause-lines g c =
    let a = c.args in
    let l = c.loop in
    let r = c.in_ok-read.ensures in
    let n = c.read.new in
    let s = c.serve_last.new in
    let same : take n.self.held n.self.bytes ≡ take l.input.held l.input.bytes = same_front n.self.held l.input.held n.self.bytes l.input.bytes r.held r.front in
    let end : n.self.end ≡ l.input.held = c.if-input.true ∙ r.held in
    on_ok_weaker c.serve_last.result
    (to_the_end (state_of a.self.now (g.W.Write.contents a.writer.now)) (state_of l.self (g.W.Write.contents l.writer)) (state_of s.self (g.W.Write.contents s.writer))
    (g.R.Read.remaining a.reader.now) (g.R.Read.remaining l.reader) (g.R.Read.remaining n.reader) (take l.input.held l.input.bytes) (take n.self.held n.self.bytes) l.invariant.so_far same
    (between l.input.held n.self.end n.self.bytes) (nothing_between l.input.held n.self.end n.self.bytes end) r.piece (r.last end))
    c.serve_last.ensures.line

pub returns-then-self-clause-lines : goal.returns-then-self-clause-lines
returns-then-self-clause-lines g c =
    let a = c.args in
    let l = c.loop in
    let r = c.in_ok-read.ensures in
    let n = c.read.new in
    let p = c.serve_piece.new in
    to_the_last (state_of a.self.now (g.W.Write.contents a.writer.now)) (state_of l.self (g.W.Write.contents l.writer)) (state_of p.self (g.W.Write.contents p.writer))
    (g.R.Read.remaining a.reader.now) (g.R.Read.remaining l.reader) (g.R.Read.remaining n.reader) (take l.input.held l.input.bytes) l.invariant.so_far
    l.input.bytes n.self.bytes l.input.held n.self.end r.front refl r.end r.piece c.in_ok-serve_piece.ensures.lines (omega (arith, c.if-self.true))

pub loop-preserved : goal.loop-preserved
loop-preserved g c =
    let a = c.args in
    let l = c.loop in
    let r = c.in_ok-read.ensures in
    let n = c.read.new in
    let p = c.serve_piece.new in
    record {
      so_far =
          so_far_on (state_of a.self.now (g.W.Write.contents a.writer.now)) (state_of l.self (g.W.Write.contents l.writer)) (state_of p.self (g.W.Write.contents p.writer))
          (g.R.Read.remaining a.reader.now) (g.R.Read.remaining l.reader) (g.R.Read.remaining n.reader) (take l.input.held l.input.bytes) l.invariant.so_far
          l.input.bytes n.self.bytes l.input.held n.self.end r.front refl r.end r.piece c.in_ok-serve_piece.ensures.lines
          (take p.input.held p.input.bytes) (c.in_ok-serve_piece.ensures.held (below_last p.self.work.answered (omega arith) c.if-self.false));
      all_out = λ e. c.in_ok-serve_piece.ensures.all_out;
    }
