use Rattle.std.proofs.Common.{rules, ◌≡◌, ◌∙◌}
use Rattle.commands.specs.Effect.{line_outcome, running}
use Rattle.commands.specs.Turns.{run_in_place}
use Rattle.commands.proofs.Turning.{in_place_is, in_place_sound}
use Rattle.commands.proofs.Refusing.{left_in_place}
use Rattle.commands.proofs.effect.Session.run.Goals as goal

pub returns-in-Some-Some : goal.returns-in-Some-Some
unfolding run_in_place
returns-in-Some-Some c =
    let a = c.args in
    let t = c.turn in
    let outcome : line_outcome t.result (running t.new.m) t.new.memory t.new.owners t.new.holders
    ≡ run_in_place a.self.now a.memory.now a.owners.now a.holders.now a.command = search rules in
    record {
      outcome = outcome;
      as_the_rules = λ s. outcome ∙ in_place_is a.self.now a.memory.now a.owners.now a.holders.now a.command s;
      refused_leaves = left_in_place a.self.now a.memory.now a.owners.now a.holders.now a.command (line_outcome t.result (running t.new.m) t.new.memory t.new.owners t.new.holders) outcome;
      sound = λ s. in_place_sound a.self.now (running t.new.m) a.memory.now a.owners.now a.holders.now a.command t.result t.new.memory t.new.owners t.new.holders outcome s;
    }

pub returns-in_default : goal.returns-in_default
unfolding run_in_place
returns-in_default c =
    let a = c.args in
    let t = c.set_up in
    let outcome : line_outcome t.result t.new.session t.new.memory t.new.owners t.new.holders
    ≡ run_in_place a.self.now a.memory.now a.owners.now a.holders.now a.command = search rules in
    record {
      outcome = outcome;
      as_the_rules = λ s. outcome ∙ in_place_is a.self.now a.memory.now a.owners.now a.holders.now a.command s;
      refused_leaves = left_in_place a.self.now a.memory.now a.owners.now a.holders.now a.command (line_outcome t.result t.new.session t.new.memory t.new.owners t.new.holders) outcome;
      sound = λ s. in_place_sound a.self.now t.new.session a.memory.now a.owners.now a.holders.now a.command t.result t.new.memory t.new.owners t.new.holders outcome s;
    }
