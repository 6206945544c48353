-- RULES 8, the script program: the commands, "one on each line" (RULES 8.1).
use Rattle.std.specs.Prelude.{ℕ, ◌-◌, Bool, ◌&&◌, Option, Some, None, option_map, option_and_then, List, [], ◌∷◌, ◌++◌, length, ltb, if◌then◌else◌}
use Rattle.rules.specs.Operations.{code_of, asked_of, address_of, value_of}
use Rattle.rules.specs.declared.operations.Operation.{Operation}
use Rattle.commands.specs.Bytes.{space, is_newline}
use Rattle.commands.specs.Decimal.{is_digit, number_ahead, decimal}
use Rattle.commands.specs.Words.{after_word, said, command_words, new_word, give_word, step_word, poke_word, show_word, operation_words, operation_row, operation_word}
use Rattle.commands.specs.declared.grammar.Numbers.{Numbers}
use Rattle.commands.specs.declared.grammar.Numbers.TheVariants.{One, Two, Three}
use Rattle.commands.specs.declared.grammar.Command.{Command}
use Rattle.commands.specs.declared.grammar.Command.TheVariants.{New, Give, Step, Poke, Show}
use Rattle.commands.specs.declared.words.CommandName.{CommandName}
use Rattle.commands.specs.declared.words.CommandName.TheVariants as Name
use Rattle.commands.specs.declared.words.OperationForm.{OperationForm}
use Rattle.commands.specs.declared.words.OperationForm.TheVariants.{Address, AddressAndValue}

-- RULES 8.3: "Between two fields of a line stands one space, and there is no other": one to three numbers, each but the last with a space after it, and others after that
abbrev pub after_three : ℕ → ℕ → ℕ → Option (List ℕ) → Option Numbers
after_three a b c None = Some (Three a b c)
after_three a b c (Some s) = None

abbrev pub after_two : ℕ → ℕ → Option (List ℕ) → Option Numbers
after_two a b None = Some (Two a b)
after_two a b (Some s) = option_and_then (λ p. after_three a b p.0 p.1) (number_ahead s)

abbrev pub after_one : ℕ → Option (List ℕ) → Option Numbers
after_one a None = Some (One a)
after_one a (Some s) = option_and_then (λ p. after_two a p.0 p.1) (number_ahead s)

unfoldable pub numbers_of : List ℕ → Option Numbers
numbers_of s = option_and_then (λ p. after_one p.0 p.1) (number_ahead s)

-- an operation with the numbers that it takes: ADDRESS, or ADDRESS VALUE
abbrev pub operation_with : OperationForm → Numbers → Option Operation
operation_with (Address o) (One a) = asked_of (code_of o) (record { 0 = a }) 0
operation_with (AddressAndValue o) (Two a v) = asked_of (code_of o) (record { 0 = a }) v
operation_with form numbers = None

-- `load|ll ADDRESS`, `store|sc ADDRESS VALUE`: a word of the list, and the numbers that its operation takes
unfoldable pub operation_in : List ℕ → Option Operation
operation_in s = option_and_then (λ p. option_and_then (operation_with p.0) (numbers_of p.1)) (said operation_words s)

-- RULES 8.5: `give CORE load|ll ADDRESS` and `give CORE store|sc ADDRESS VALUE`
abbrev pub give_after : ℕ → Option (List ℕ) → Option Command
give_after core None = None
give_after core (Some s) = option_map (Give core) (operation_in s)

unfoldable pub give_command : List ℕ → Option Command
give_command s = option_and_then (λ p. give_after p.0 p.1) (number_ahead s)

-- RULES 8.5: `new CORES BYTES [ENTRIES]`, `step CORE`, `poke ADDRESS VALUE` and `show ADDRESS`
abbrev pub command_with : CommandName → Numbers → Option Command
command_with Name.New (Two cores bytes) = Some (New cores bytes None)
command_with Name.New (Three cores bytes entries) = Some (New cores bytes (Some entries))
command_with Name.Step (One core) = Some (Step core)
command_with Name.Poke (Two a v) = Some (Poke (record { 0 = a }) v)
command_with Name.Show (One a) = Some (Show (record { 0 = a }))
command_with name numbers = None

-- what follows a command's word
abbrev pub command_after : CommandName → List ℕ → Option Command
command_after Name.Give s = give_command s
command_after name s = option_and_then (command_with name) (numbers_of s)

-- RULES 8.2: "A line has 80 bytes at most; its newline is not counted. A longer one is no command"
abbrev pub too_long : List ℕ → Bool
too_long line = ltb 80 (length line)

-- the command that a line is, if it is understood: a word of the list, and what its command takes
unfoldable pub command_of : List ℕ → Option Command
command_of line = if too_long line then None else option_and_then (λ p. command_after p.0 p.1) (said command_words line)

-- The core of a step that the bytes begin with, if it has one digit and a newline follows it. No rule: such a line is what `command_of` says (`ShortSteps` in Promises.antt).
abbrev pub short_core : List ℕ → Option ℕ
short_core [] = None
short_core (digit ∷ []) = None
short_core (digit ∷ end ∷ s) = if is_digit digit && is_newline end then Some (digit - 48) else None

unfoldable pub short_step : List ℕ → Option ℕ
short_step s = option_and_then short_core (after_word step_word s)

-- the line that a command is written as
abbrev pub numbers_text : Numbers → List ℕ
numbers_text (One a) = decimal a
numbers_text (Two a b) = decimal a ++ space ∷ decimal b
numbers_text (Three a b c) = decimal a ++ space ∷ (decimal b ++ space ∷ decimal c)

abbrev pub numbers_taken : OperationForm → Operation → Numbers
numbers_taken (Address p) o = One (address_of o).0
numbers_taken (AddressAndValue p) o = Two (address_of o).0 (value_of o)

unfoldable pub operation_text : Operation → List ℕ
operation_text o = operation_word o ++ space ∷ numbers_text (numbers_taken (operation_row o).1 o)

unfoldable pub line_of : Command → List ℕ
line_of (New cores bytes None) = new_word ++ space ∷ numbers_text (Two cores bytes)
line_of (New cores bytes (Some entries)) = new_word ++ space ∷ numbers_text (Three cores bytes entries)
line_of (Give core operation) = give_word ++ space ∷ (decimal core ++ space ∷ operation_text operation)
line_of (Step core) = step_word ++ space ∷ numbers_text (One core)
line_of (Poke a v) = poke_word ++ space ∷ numbers_text (Two a.0 v)
line_of (Show a) = show_word ++ space ∷ numbers_text (One a.0)
