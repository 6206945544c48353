use Rattle.std.proofs.Common.{rules, arith, ◌≡◌, ◌+◌, Some, false, length, sym, ap, ◌∙◌}
use Rattle.std.proofs.lemmas.Option.{same_Some}
use Rattle.commands.specs.Decimal.{decimal}
use Rattle.commands.specs.Texts.{digits_stand}
use Rattle.commands.specs.declared.text.LineNumber.{LineNumber}
use Rattle.commands.proofs.Placed.{Put, decimal_few}
use Rattle.commands.proofs.Numbered.{standing_put, whole_put}
use Rattle.commands.proofs.text.put_line_number.Goals as goal
use Rattle.commands.proofs.text.put_line_number.Goals.{in_default-via-in-Some+else-line, in_default-via-in_default}

pub returns-in-Some : goal.returns-in-Some
returns-in-Some c = let a = c.args in
    let line = c.in-Some.line in
    let eight : length line.digits ≡ 8 = search rules in
    let one = c.put in
    let last = c.two_digits in
    let both = c.put-in-Some in
    let digits : Put line.digits a.at a.out.now one.new.out one.result = record { bytes = one.ensures.out_after; ends = one.ensures.value } in
    let two : Put last.result (a.at + line.places) one.new.out both.new.out both.result = record { bytes = both.ensures.out_after; ends = both.ensures.value } in
    let p = standing_put a.number line _ a.at a.out.now _ _ _ _ eight c.if-line.true last.ensures digits two in
    rw c.in-Some.is (record { put_before = p.0; value = p.1.0; upper_bound = p.1.1 })

pub put_decimal-requires : goal.put_decimal-requires
put_decimal-requires c = let few = decimal_few c.args.number 19 (let h = c.ranges.number in omega arith) in omega arith

pub returns-in_default : goal.returns-in_default
returns-in_default c = let a = c.args in
    let whole : (l : LineNumber) → a.line ≡ Some l → digits_stand l ≡ false =
    (λ l e. elim c.in_default.branch [
      | in_default-via-in-Some+else-line w ↦ ap digits_stand (same_Some l w.in-Some.line (sym e ∙ w.in-Some.is)) ∙ w.if-line.false
      | in_default-via-in_default w ↦ absurd (cc)
    ]) in
    let d = c.put_decimal in
    let put : Put (decimal a.number) a.at a.out.now d.new.out d.result = record { bytes = d.ensures.out_after; ends = d.ensures.value } in
    let p = whole_put a.number a.line a.at a.out.now _ _ (let h = c.ranges.number in omega arith) whole put in
    record { put_before = p.0; value = p.1.0; upper_bound = p.1.1 }
