use mathlib.Core.List.{[], ◌∷◌, append_assoc}
use native.Mathlib.Omega.{arith}
use Rattle.std.specs.Prelude.{codes}
use Rattle.commands.specs.Bytes.{space, newline}
use Rattle.commands.specs.Words.{refused_word}
use Rattle.commands.specs.Texts.{number_text}
use Rattle.commands.proofs.Placed.{Put}
use Rattle.commands.proofs.Numbered.{put_three}
use Rattle.commands.proofs.text.put_refused.Goals as goal

pub returns : goal.returns
unfolding Rattle.commands.specs.Texts.rest_refused
returns c = let a = c.args in
    let one = c.put-first in
    let two = c.put_refusal-second in
    let three = c.put in
    let few = two.ensures.upper_bound in
    let p : Put (space ∷ []) a.at a.out.now one.new.out one.result = record { bytes = one.ensures.out_after; ends = one.ensures.value } in
    let q : Put (number_text a.refusal) one.result one.new.out two.new.out two.result = record { bytes = two.ensures.out_after; ends = two.ensures.value } in
    let r : Put (codes "refused\n") two.result two.new.out three.new.out three.result = record { bytes = three.ensures.out_after; ends = three.ensures.value } in
    let whole = put_three (space ∷ []) (number_text a.refusal) (codes "refused\n") a.at a.out.now _ _ _ _ _ _ p q r (let h = two.ensures.value in omega arith) in
    rw (append_assoc (number_text a.refusal) refused_word (newline ∷ [])) (record { out_after = whole.bytes; value = whole.ends; upper_bound = omega arith })
