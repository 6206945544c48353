-- A command that is written and read is the same command.
-- Assumes nothing.
use Rattle.std.specs.Prelude.{Some, None}
use mathlib.Core.Path.{◌≡◌}
use mathlib.Core.Bool.{false}
use mathlib.Core.List.{List, ◌∷◌, ◌++◌}
use Prim.Native.Nat.{ℕ, ◌≤◌}
use native.Mathlib.Omega.{arith}
use lib.ListN.{length, length-append}
use borrow.Author.Tests.{le-ltb}
use Rattle.rules.specs.declared.operations.Operation.{Operation}
use Rattle.rules.specs.Operations.{asked_of}
use Rattle.commands.specs.Bytes.{space}
use Rattle.commands.specs.Decimal.{number_ahead, decimal}
use Rattle.commands.specs.Words.{said, operation_words, new_word, step_word, poke_word, show_word, operation_row, operation_word}
use Rattle.commands.specs.Grammar.{numbers_of, operation_with, operation_in, give_command, too_long, command_of, numbers_text, numbers_taken, operation_text, line_of}
use Rattle.commands.specs.Promises.{Small, SmallNumbers, SmallOperation, Writable, RoundTrip}
use Rattle.commands.specs.declared.grammar.Numbers.{Numbers}
use Rattle.commands.specs.declared.grammar.Numbers.TheVariants.{One, Two, Three}
use Rattle.commands.specs.declared.grammar.Command.{Command}
use Rattle.commands.specs.declared.grammar.Command.TheVariants.{New, Give, Step, Poke, Show}
use Rattle.commands.proofs.Placed.{decimal_few}
use Rattle.commands.proofs.Decimals.{decimal_plain, decimal_reads}
use Rattle.commands.proofs.Fields.{before_alone, none_alone, before_then, some_then, after_then}

-- the last number of a line, and one before others
number_last : (n : ℕ) → Small n → number_ahead (decimal n) ≡ Some (n, None)
unfolding number_ahead
number_last n l = let h = decimal_plain n in rw (before_alone space (decimal n) h, none_alone space (decimal n) h, decimal_reads n l)

number_then : (n : ℕ) (t : List ℕ) → Small n → number_ahead (decimal n ++ space ∷ t) ≡ Some (n, Some t)
unfolding number_ahead
number_then n t l =
    let h = decimal_plain n in
    rw (before_then space (decimal n) t h, some_then space (decimal n) t h, after_then space (decimal n) t h, decimal_reads n l)

read_numbers : (n : Numbers) → SmallNumbers n → numbers_of (numbers_text n) ≡ Some n
unfolding numbers_of
read_numbers (One a) l = rw (number_last a l)
read_numbers (Two a b) l = rw (number_then a (decimal b) l.0, number_last b l.1)
read_numbers (Three a b c) l = rw (number_then a (decimal b ++ space ∷ decimal c) l.0, number_then b (decimal c) l.1, number_last c l.2)

-- the operation of a `give`: its word is found in the list, and its numbers make it
row_found : (o : Operation) (t : List ℕ) → said operation_words (operation_word o ++ space ∷ t) ≡ Some ((operation_row o).1, t)
unfolding said
row_found o t = grind arith

numbers_make : (o : Operation) → operation_with (operation_row o).1 (numbers_taken (operation_row o).1 o) ≡ Some o
unfolding asked_of
numbers_make o = grind arith

read_operation : (o : Operation) → SmallOperation o → operation_in (operation_text o) ≡ Some o
unfolding operation_in operation_text
read_operation o l =
    let n = numbers_taken (operation_row o).1 o in
    rw (row_found o (numbers_text n), read_numbers n l) (numbers_make o)

read_give : (core : ℕ) (o : Operation) → Small core → SmallOperation o → give_command (decimal core ++ space ∷ operation_text o) ≡ Some (Give core o)
unfolding give_command
read_give core o l k = rw (number_then core (operation_text o) l, read_operation o k)

-- no line of a command is too long
few : (n : ℕ) → Small n → length (decimal n) ≤ 10
few n l = decimal_few n 9 (omega (arith, l))

numbers_few : (n : Numbers) → SmallNumbers n → length (numbers_text n) ≤ 32
numbers_few (One a) l = let p = few a l in omega (arith, p)
numbers_few (Two a b) l = let p = few a l.0 in let q = few b l.1 in rw (length-append (decimal a) (space ∷ decimal b)) (omega (arith, p, q))
numbers_few (Three a b c) l =
    let p = few a l.0 in
    let q = few b l.1 in
    let r = few c l.2 in
    rw (length-append (decimal a) (space ∷ (decimal b ++ space ∷ decimal c)), length-append (decimal b) (space ∷ decimal c)) (omega (arith, p, q, r))

operation_word_few : (o : Operation) → length (operation_word o) ≤ 20
operation_word_few o = grind arith

operation_few : (o : Operation) → SmallOperation o → length (operation_text o) ≤ 53
unfolding operation_text
operation_few o l =
    let n = numbers_taken (operation_row o).1 o in
    let p = numbers_few n l in
    let q = operation_word_few o in
    rw (length-append (operation_word o) (space ∷ numbers_text n)) (omega (arith, p, q))

plain_few : (word : List ℕ) (n : Numbers) → length word ≤ 4 → SmallNumbers n → length (word ++ space ∷ numbers_text n) ≤ 80
plain_few word n h l = let p = numbers_few n l in rw (length-append word (space ∷ numbers_text n)) (omega (arith, h, p))

command_few : (c : Command) → Writable c → length (line_of c) ≤ 80
unfolding line_of
command_few (New cores bytes None) w = plain_few new_word (Two cores bytes) (omega arith) w
command_few (New cores bytes (Some entries)) w = plain_few new_word (Three cores bytes entries) (omega arith) w
command_few (Give core o) w =
    let p = few core w.0 in
    let q = operation_few o w.1 in
    rw (length-append (decimal core) (space ∷ operation_text o)) (omega (arith, p, q))
command_few (Step core) w = plain_few step_word (One core) (omega arith) w
command_few (Poke a v) w = plain_few poke_word (Two a.0 v) (omega arith) w
command_few (Show a) w = plain_few show_word (One a.0) (omega arith) w

-- where a line is not too long
within : (line : List ℕ) → length line ≤ 80 → too_long line ≡ false
within line l = le-ltb 80 (length line) l

pub round_trip : RoundTrip
unfolding command_of line_of said
round_trip (New cores bytes None) w = let c = New cores bytes None in rw (within (line_of c) (command_few c w), read_numbers (Two cores bytes) w)
round_trip (New cores bytes (Some entries)) w =
    let c = New cores bytes (Some entries) in
    rw (within (line_of c) (command_few c w), read_numbers (Three cores bytes entries) w)
round_trip (Give core o) w = let c = Give core o in rw (within (line_of c) (command_few c w), read_give core o w.0 w.1)
round_trip (Step core) w = let c = Step core in rw (within (line_of c) (command_few c w), read_numbers (One core) w)
round_trip (Poke a v) w = let c = Poke a v in rw (within (line_of c) (command_few c w), read_numbers (Two a.0 v) w)
round_trip (Show a) w = let c = Show a in rw (within (line_of c) (command_few c w), read_numbers (One a.0) w)
