use Rattle.std.proofs.Common.{take, drop, option_and_then, sym, ◌∙◌}
use Rattle.script.specs.Answering.{work_of, lines_in}
use Rattle.script.specs.Archiving.{writer_in, whole_in}
use Rattle.script.proofs.Carried.{no_writer, none_whole, answered_some}
use Rattle.script.proofs.serving.Serving.answer_some.Goals as goal

pub returns-clause-some : goal.returns-clause-some
returns-clause-some g c =
    let a = c.args in
    let s = c.answer_lines-stop in
    let m = c.make_room.new in
    answered_some c.is_some.result (work_of a.self.now.work) (work_of s.new.work) (lines_in a.bytes.now) (lines_in (drop s.result.from a.bytes.now)) m.out.bytes m.out.len s.new.out.bytes s.new.out.len s.result.event
    s.ensures.outcome s.ensures.text (g.W.Write.contents a.writer.now) (g.W.Write.contents m.writer) (take a.self.now.out.len a.self.now.out.bytes) c.in_ok-make_room.ensures.sent
    (option_and_then writer_in a.self.now.archives) (option_and_then writer_in c.follow.new.archives) (λ none. no_writer a.self.now.archives (sym c.is_some.ensures ∙ none)) c.follow.ensures.records
    (whole_in a.self.now.archives) (whole_in c.follow.new.archives) (λ none. none_whole a.self.now.archives (sym c.is_some.ensures ∙ none)) c.follow.ensures.whole
