use Rattle.std.proofs.Common.{◌≡◌, ℕ, List, ◌++◌, Some, inr, codes}
use Rattle.std.proofs.lemmas.Str.Pattern.{split_text_parts}
use Rattle.script.proofs.failure.reason.Goals as goal

pub returns-in-Some : goal.returns-in-Some
returns-in-Some c =
    let before = c.in-Some.before in
    let after = c.in-Some.field-0-1 in
    let p : List ℕ = codes " (os error " in
    let e : c.args.text.now ≡ before.now ++ (p ++ after.now) = split_text_parts p c.args.text.now (Some (before, after)) c.in-Some.ensures.cases in
    inr (after.now, e)
