-- RULES 8, the script program: its numbers. RULES 8.4: "A number is in decimal, from 0 to 4,294,967,295, and begins with no zero that it does not need."
use Rattle.std.specs.Prelude.{ℕ, zero, suc, ◌+◌, ◌*◌, ◌-◌, ◌/◌, ◌%◌, Bool, true, not, ◌&&◌}
use Rattle.std.specs.Prelude.{Option, Some, None, option_map, List, [], ◌∷◌, length, get_or, leb, ltb, eqb, if◌then◌else◌}
use Rattle.commands.specs.Bytes.{first_field, more_fields, after_field}
use denote.Ref.{Bor}

abbrev pub largest : ℕ
largest = 4294967295

-- the digits `0` to `9`
abbrev pub is_digit : ℕ → Bool
is_digit b = leb 48 b && leb b 57

abbrev pub digit_of : ℕ → ℕ
digit_of b = if is_digit b then b - 48 else 0

unfoldable pub all_digits : List ℕ → Bool
all_digits [] = true
all_digits (b ∷ s) = is_digit b && all_digits s

-- what digits say, after others that said v
unfoldable pub value_from : ℕ → List ℕ → ℕ
value_from v [] = v
value_from v (b ∷ s) = value_from (10 * v + digit_of b) s

-- a needless zero: the first of several digits is 0
abbrev pub number_from : ℕ → Bool → Bool → ℕ → Option ℕ
number_from count digits zeroFirst value =
    if not (eqb count 0) && digits && not (ltb 1 count && zeroFirst) && leb value largest then Some value else None

-- the number that a field says, if it says one
unfoldable pub number_said : List ℕ → Option ℕ
number_said s = number_from (length s) (all_digits s) (eqb (get_or s 0 0) 48) (value_from 0 s)

-- a number at the number_found of some bytes, and what follows the space after it, if one follows
unfoldable pub number_ahead : List ℕ → Option (ℕ × Option (List ℕ))
number_ahead s = option_map (λ n. (n, if more_fields s then Some (after_field s) else None)) (number_said (first_field s))

-- the same, as the code has it
abbrev pub number_found : ℕ × Option (Bor (List ℕ)) → ℕ × Option (List ℕ)
number_found p = (p.0, option_map (λ rest. rest.now) p.1)

-- a number's digits before what follows them; a number has no more digits than the turns given
unfoldable pub digits_before : ℕ → ℕ → List ℕ → List ℕ
digits_before zero n s = s
digits_before (suc turns) n s = if ltb 9 n then digits_before turns (n / 10) ((48 + n % 10) ∷ s) else (48 + n) ∷ s

-- a number, written
unfoldable pub decimal : ℕ → List ℕ
decimal n = digits_before (suc n) n []
