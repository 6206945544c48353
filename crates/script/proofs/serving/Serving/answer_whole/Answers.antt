use Rattle.script.specs.Serving.{State, state_of}
use Rattle.script.proofs.Carried.{came_none, came_on, came_here, none_here, came_all, left_all, none_after}
use Rattle.script.proofs.serving.Serving.answer_whole.Goals.{After-answer_some}
use Rattle.script.proofs.serving.Serving.answer_whole.Goals as goal

pub loop-from-init : goal.loop-from-init
loop-from-init g c = came_none (state_of c.args.self.now (g.W.Write.contents c.args.writer.now)) c.args.bytes.now

pub loop-from-preserved : goal.loop-from-preserved
loop-from-preserved g c =
    let a = c.args in
    let l = c.loop-from in
    let s = c.in_ok-count.ensures in
    let n = c.answer_some.new in
    came_on (state_of a.self.now (g.W.Write.contents a.writer.now)) (state_of l.self (g.W.Write.contents l.writer)) (state_of n.self (g.W.Write.contents n.writer)) a.bytes.now l.from c.in_ok-count.count
    l.invariant s.within s.some s.left

pub returns-then-count-eq0-clause-lines : goal.returns-then-count-eq0-clause-lines
returns-then-count-eq0-clause-lines g c =
    let a = c.args in
    let l = c.loop-from in
    let s = c.in_ok-count.ensures in
    let n = c.answer_some.new in
    let x : State = state_of a.self.now (g.W.Write.contents a.writer.now) in
    let y : State = state_of l.self (g.W.Write.contents l.writer) in
    let z : State = state_of n.self (g.W.Write.contents n.writer) in
    came_all x z a.bytes.now l.from (came_here x y z a.bytes.now l.from c.in_ok-count.count l.invariant c.if-count-eq0.true s.within s.some s.left)
    (none_here x y z a.bytes.now l.from c.in_ok-count.count l.invariant c.if-count-eq0.true s.some s.none)

pub returns-then-count-eq0-clause-left : goal.returns-then-count-eq0-clause-left
returns-then-count-eq0-clause-left g c =
    let a = c.args in
    let l = c.loop-from in
    let s = c.in_ok-count.ensures in
    let n = c.answer_some.new in
    let x : State = state_of a.self.now (g.W.Write.contents a.writer.now) in
    let y : State = state_of l.self (g.W.Write.contents l.writer) in
    let z : State = state_of n.self (g.W.Write.contents n.writer) in
    left_all x z a.bytes.now l.from (came_here x y z a.bytes.now l.from c.in_ok-count.count l.invariant c.if-count-eq0.true s.within s.some s.left)
    (none_here x y z a.bytes.now l.from c.in_ok-count.count l.invariant c.if-count-eq0.true s.some s.none)

pub returns-clause-lines : goal.returns-clause-lines
returns-clause-lines g c =
    let a = c.args in
    let l = c.loop-from in
    came_all (state_of a.self.now (g.W.Write.contents a.writer.now)) (state_of l.self (g.W.Write.contents l.writer)) a.bytes.now l.from l.invariant (λ _. none_after a.bytes.now l.from c.loop-from-test.false)

pub returns-clause-left : goal.returns-clause-left
returns-clause-left g c =
    let a = c.args in
    let l = c.loop-from in
    left_all (state_of a.self.now (g.W.Write.contents a.writer.now)) (state_of l.self (g.W.Write.contents l.writer)) a.bytes.now l.from l.invariant (λ _. none_after a.bytes.now l.from c.loop-from-test.false)
