use mathlib.Core.List.{[], ◌∷◌}
use native.Mathlib.Omega.{arith}
use Rattle.std.specs.Prelude.{Ok, codes}
use Rattle.commands.specs.Bytes.{newline}
use Rattle.commands.specs.Texts.{answer_words}
use Rattle.commands.proofs.Placed.{Put, one_digit}
use Rattle.commands.proofs.Numbered.{put_three}
use Rattle.commands.proofs.text.put_answered.Goals as goal

pub returns : goal.returns
unfolding Rattle.commands.specs.Texts.rest_of
returns c = let a = c.args in
    let one = c.put-first in
    let two = c.put_words-second in
    let three = c.put in
    let few = two.ensures.upper_bound in
    let p : Put (codes " 0 ") a.at a.out.now one.new.out one.result = record { bytes = one.ensures.out_after; ends = one.ensures.value } in
    let q : Put (answer_words (Ok a.answer)) one.result one.new.out two.new.out two.result = record { bytes = two.ensures.out_after; ends = two.ensures.value } in
    let r : Put (newline ∷ []) two.result two.new.out three.new.out three.result = record { bytes = three.ensures.out_after; ends = three.ensures.value } in
    let whole = put_three (codes " 0 ") (answer_words (Ok a.answer)) (newline ∷ []) a.at a.out.now _ _ _ _ _ _ p q r (let h = two.ensures.value in omega arith) in
    rw (one_digit 0 (omega arith)) (record { out_after = whole.bytes; value = whole.ends; upper_bound = omega arith })
