use Rattle.std.proofs.Common.{rules, arith, ◌≡◌, ◌∙◌, sym, None, [], ◌∷◌, ◌-◌, option_map, length, take, drop}
use borrow.Author.Tests.{eqb-true, eqb-false}
use Rattle.commands.specs.Bytes.{after_text}
use Rattle.commands.specs.Decimal.{number_said, number_found}
use Rattle.commands.proofs.Fronts.{from_on, front_none, front_alone, front_other, front_then}
use Rattle.commands.proofs.decimal.number_ahead.Goals as goal

pub returns-in_err-number : goal.returns-in_err-number
returns-in_err-number c =
    let s = c.args.bytes.now in
    let d = c.digits_ahead-value in
    let count = d.result.1 in
    let gives : option_map number_found c.from_residual.result ≡ None = search rules in
    let none : number_said (take count s) ≡ None = search rules in
    gives ∙ front_none s count d.ensures.digits _ (from_on s count) d.ensures.within d.ensures.stops none

pub returns-then-is_empty : goal.returns-then-is_empty
returns-then-is_empty c =
    let s = c.args.bytes.now in
    let d = c.digits_ahead-value in
    let count = d.result.1 in
    let others = take (length s - count) (drop count s) in
    let none = eqb-true (length others) 0 (sym c.is_empty.ensures ∙ c.if-is_empty.true) in
    front_alone s count d.ensures.digits others (from_on s count) c.in_ok-number.number (sym c.in_ok-number.ensures) none

pub returns-in_err-after_text : goal.returns-in_err-after_text
returns-in_err-after_text c =
    let s = c.args.bytes.now in
    let d = c.digits_ahead-value in
    let count = d.result.1 in
    let others = take (length s - count) (drop count s) in
    let some = eqb-false (length others) 0 (sym c.is_empty.ensures ∙ c.if-is_empty.false) in
    let gives : option_map number_found c.from_residual-in_err-after_text.result ≡ None = search rules in
    let other : after_text (32 ∷ []) others ≡ None = search rules in
    let n = c.in_ok-number in
    gives ∙ front_other s count d.ensures.digits others (from_on s count) d.ensures.within d.ensures.stops n.number d.ensures.few (sym n.ensures) other (omega arith)

pub returns : goal.returns
returns c =
    let s = c.args.bytes.now in
    let d = c.digits_ahead-value in
    let count = d.result.1 in
    front_then s count d.ensures.digits _ (from_on s count) c.in_ok-number.number c.in_ok-after_text.field-0.now (sym c.in_ok-number.ensures) (sym c.in_ok-after_text.ensures)
