-- The digits of a line's number, kept from line to line, and what follows them.
-- Assumes nothing.
use Rattle.std.specs.Prelude.{Option, Some, None, Result}
use Rattle.std.proofs.Common.{if◌then◌else◌}
use mathlib.Core.Path.{◌≡◌, refl, ap, ◌∙◌, sym}
use mathlib.Core.Bool.{Bool, true, false}
use mathlib.Core.List.{List, [], ◌∷◌, ◌++◌, append_assoc}
use Prim.Native.Nat.{ℕ, ◌+◌, ◌/◌, ◌%◌, ◌≤◌, ◌<◌}
use native.Mathlib.Omega.{arith}
use lib.ListN.{length, take, drop, replicate, length-append}
use lib.Seq.{take_at, length-take-le}
use lib.Dec.{leb, ltb}
use borrow.Author.Tests.{lt-ltb, le-leb, leb-true, ltb-true}
use Rattle.rules.specs.declared.answers.Answer.{Answer}
use Rattle.rules.specs.declared.refusals.Refusal.{Refusal}
use Rattle.commands.specs.Bytes.{put_in}
use Rattle.commands.specs.Decimal.{decimal}
use Rattle.commands.specs.Texts.{line_put, line_end, answer_put, answer_end}
use Rattle.commands.specs.Texts.{line_number_of, can_stand, two_digits, digits_stand, line_number, counted_on, digits_of, PutBefore}
use Rattle.commands.specs.Promises.{DigitsAre, CountsOn}
use Rattle.commands.specs.declared.text.LineNumber.{LineNumber}
use Rattle.rules.proofs.Bools.{and₂}
use Rattle.commands.proofs.Placed.{Put, is_put, length_put, put_put, put_after, put_then, decimal_few}
use Rattle.commands.proofs.Written.{decimal_on, one_some}

-- the digits before the last two
decimal_two : (n : ℕ) → 99 < n → decimal n ≡ decimal (n / 100) ++ two_digits (n % 100)
decimal_two n l =
    let h : n / 10 / 10 ≡ n / 100 = omega arith in
    let tens : n / 10 % 10 ≡ n % 100 / 10 = omega arith in
    let ones : n % 10 ≡ n % 100 % 10 = omega arith in
    decimal_on n (omega arith)
    ∙ ap (λ (s : List ℕ). s ++ (48 + n % 10) ∷ []) (decimal_on (n / 10) (omega arith))
    ∙ append_assoc (decimal (n / 10 / 10)) ((48 + n / 10 % 10) ∷ []) ((48 + n % 10) ∷ [])
    ∙ rw (h, tens, ones)

pub before_few : (n : ℕ) → can_stand n ≡ true → length (decimal n) ≤ 8
before_few n stand = decimal_few n 7 (ltb-true n 100000000 (and₂ (ltb 0 n) (ltb n 100000000) stand).1)

-- the digits that are kept are the number's own
pub digits_are : DigitsAre
unfolding digits_of line_number
digits_are n = go (can_stand (n / 100)) refl
  where
    d : List ℕ
    d = decimal (n / 100)

    go : (t : Bool) → can_stand (n / 100) ≡ t → digits_of n (if t then Some (line_number_of (n % 100) (put_in d 0 (replicate 8 0)) (length d)) else None) ≡ decimal n
    go false e = refl
    go true e =
        let low = ltb-true 0 (n / 100) (and₂ (ltb 0 (n / 100)) (ltb (n / 100) 100000000) e).0 in
        let few : length d ≤ 8 = before_few (n / 100) e in
        let eight = replicate 8 0 in
        let digits : take (length d) (put_in d 0 eight) ≡ d = ap (take (length d)) (is_put d 0 eight) ∙ take_at d (drop (0 + length d) eight) (length d) refl in
        let some = lt-ltb 0 (length d) (one_some (n / 100)) in
        rw (some, le-leb (length d) 8 few, digits) (sym (decimal_two n (omega arith)))

-- they are kept from a line to the next
pub counts_on : CountsOn
unfolding counted_on line_number
counts_on n = go (can_stand (n / 100)) refl (ltb (n % 100) 99) refl
  where
    standing : Option LineNumber
    standing = Some (line_number_of (n % 100) (put_in (decimal (n / 100)) 0 (replicate 8 0)) (length (decimal (n / 100))))

    go : (s : Bool) → can_stand (n / 100) ≡ s → (t : Bool) → ltb (n % 100) 99 ≡ t → counted_on (if s then standing else None) (n + 1) ≡ line_number (n + 1)
    go false f t e = refl
    go true f false e = rw e
    go true f true e =
        let l = ltb-true (n % 100) 99 e in
        let before : (n + 1) / 100 ≡ n / 100 = omega arith in
        let last : (n + 1) % 100 ≡ n % 100 + 1 = omega arith in
        rw (e, before, last, f)

-- so a line's answer is the one of its number
pub line_put_lem : (n : ℕ) (answer : Result Answer Refusal) (out : List ℕ) (at : ℕ) → line_put (digits_of n (line_number n)) answer out at ≡ answer_put n answer out at
line_put_lem n answer out at = rw (digits_are n)

pub line_end_lem : (n : ℕ) (answer : Result Answer Refusal) (lent at : ℕ) → line_end (digits_of n (line_number n)) answer lent at ≡ answer_end n answer lent at
line_end_lem n answer lent at = rw (digits_are n)

-- all eight bytes put in, and the last two digits after those that stand there
eight_before : (eight two : List ℕ) (places at : ℕ) (out : List ℕ) → length eight ≡ 8 → length two ≡ 2 → 0 < places → places ≤ 8
    → PutBefore (take places eight ++ two) at out (put_in two (at + places) (put_in eight at out))
eight_before eight two places at out e t low high text five room =
    let first = take places eight in
    let n : length first ≡ places = length-take-le places eight (omega arith) in
    let m : length (first ++ two) ≡ places + 2 = length-append first two ∙ (omega arith) in
    let same : length (put_in eight at out) ≡ length out = length_put eight at out (omega arith) in
    let last : at + length (first ++ two) ≡ at + places + length two = omega arith in
    let both : length (two ++ text) ≡ 2 + length text = length-append two text ∙ (omega arith) in
    ap (λ (j : ℕ). put_in text j (put_in two (at + places) (put_in eight at out))) last
    ∙ put_put two text (at + places) (put_in eight at out) (omega arith)
    ∙ put_after eight (two ++ text) places at out (omega arith) (omega arith) (omega arith)
    ∙ ap (λ (s : List ℕ). put_in s at out) (sym (append_assoc first two text))

few_places : (line : LineNumber) → digits_stand line ≡ true → (0 < line.places) × (line.places ≤ 8)
few_places line stand = let k = and₂ (ltb 0 line.places) (leb line.places 8) stand in (ltb-true 0 line.places k.0, leb-true line.places 8 k.1)

-- what is known once a line's number is put in
abbrev NumberPut : List ℕ → ℕ → List ℕ → List ℕ → ℕ → Type 0
NumberPut digits at out out' end = PutBefore digits at out out' × ((end ≡ at + length digits) × (end ≤ at + 20))

pub standing_put : (number : ℕ) (line : LineNumber) (two : List ℕ) (at : ℕ) (out out₁ out₂ : List ℕ) (e₁ e₂ : ℕ)
    → length line.digits ≡ 8 → digits_stand line ≡ true → two ≡ two_digits line.last
    → Put line.digits at out out₁ e₁ → Put two (at + line.places) out₁ out₂ e₂ → NumberPut (digits_of number (Some line)) at out out₂ e₂
unfolding digits_of
standing_put number line two at out out₁ out₂ e₁ e₂ eight stand is p q =
    let places = few_places line stand in
    let first = take line.places line.digits in
    let n : length first ≡ line.places = length-take-le line.places line.digits (omega arith) in
    let t : length two ≡ 2 = ap length is in
    let l : length (first ++ two) ≡ line.places + 2 = length-append first two ∙ (omega arith) in
    let end = q.ends in
    rw (stand, ← is, q.bytes, p.bytes) (eight_before line.digits two line.places at out eight t places.0 places.1, (omega arith, omega arith))

-- and where it is written whole
own_put : (number at : ℕ) (out out₁ : List ℕ) (e₁ : ℕ) → number < 18446744073709551616 → Put (decimal number) at out out₁ e₁ → NumberPut (decimal number) at out out₁ e₁
own_put number at out out₁ e₁ small p =
    let few = decimal_few number 19 (omega arith) in
    let end = p.ends in
    rw p.bytes ((λ text five room. put_put (decimal number) text at out room), (end, omega arith))

pub whole_put : (number : ℕ) (line : Option LineNumber) (at : ℕ) (out out₁ : List ℕ) (e₁ : ℕ)
    → number < 18446744073709551616 → ((l : LineNumber) → line ≡ Some l → digits_stand l ≡ false)
    → Put (decimal number) at out out₁ e₁ → NumberPut (digits_of number line) at out out₁ e₁
unfolding digits_of
whole_put number None at out out₁ e₁ small more p = own_put number at out out₁ e₁ small p
whole_put number (Some l) at out out₁ e₁ small more p = rw (more l refl) (own_put number at out out₁ e₁ small p)

-- three texts put in one after the other
pub put_three : (s t u : List ℕ) (at : ℕ) (out out₁ out₂ out₃ : List ℕ) (e₁ e₂ e₃ : ℕ) → Put s at out out₁ e₁ → Put t e₁ out₁ out₂ e₂ → Put u e₂ out₂ out₃ e₃
    → at + length s + length t + length u ≤ length out → Put (s ++ t ++ u) at out out₃ e₃
put_three s t u at out out₁ out₂ out₃ e₁ e₂ e₃ p q r room =
    let two = put_then s t at out out₁ out₂ e₁ e₂ p q (omega arith) in
    let l : length (s ++ t) ≡ length s + length t = length-append s t in
    put_then (s ++ t) u at out out₂ out₃ e₂ e₃ two r (omega arith)
