-- What a line of script promises, beside what each call's contract says of it.
-- The proofs are in proofs/Handed, ReadBack, ShortSteps, OneLine, Answers, Numbered, Begun and Refusing, under these names: FirstBytesDecide is proved by first_bytes_decide.
use Rattle.std.specs.Prelude.{ℕ, ◌+◌, ◌≤◌, ◌<◌, ◌≡◌, Bool, true, false, Option, Some, None, Result, Ok, List, [], ◌∷◌, ◌++◌, length, take, drop, replicate}
use Rattle.rules.specs.Refusals.{number_in}
use Rattle.rules.specs.Answers.{values_of}
use Rattle.rules.specs.Calls.{all_idle}
use Rattle.rules.specs.declared.answers.Answer.{Answer}
use Rattle.rules.specs.declared.answers.Answer.TheVariants.{Ready}
use Rattle.rules.specs.declared.refusals.Refusal.{Refusal}
use Rattle.rules.specs.declared.refusals.Refusal.TheVariants.{NotUnderstood, NoMachine}
use Rattle.rules.specs.declared.operations.Operation.{Operation}
use Rattle.rules.specs.declared.cores.Core.{Core}
use Rattle.machine.specs.declared.sizes.Sizes.{Sizes}
use Rattle.commands.specs.Bytes.{space, newline, first_field, more_fields, after_field}
use Rattle.commands.specs.Decimal.{decimal}
use Rattle.commands.specs.Words.{operation_row, step_word, refused_word}
use Rattle.commands.specs.Grammar.{numbers_taken, command_of, short_step, line_of}
use Rattle.commands.specs.Effect.{stands, LineOutcome, line_refused, running, new_of, run_command, run_line}
use Rattle.commands.specs.Turns.{TurnOutcome, set_up, act_on, run_in_place}
use Rattle.commands.specs.Texts.{answer_words, line_room, refused_text, answer_line, line_number, counted_on, digits_of}
use Rattle.commands.specs.declared.grammar.Numbers.{Numbers}
use Rattle.commands.specs.declared.grammar.Numbers.TheVariants.{One, Two, Three}
use Rattle.commands.specs.declared.grammar.Command.{Command}
use Rattle.commands.specs.declared.grammar.Command.TheVariants.{New, Give, Step, Poke, Show}
use Rattle.commands.specs.declared.effect.Session.{Session}

-- RULES 8.2: "A line has 80 bytes at most": a longer line is the same line for the rules as its first 81 bytes
abbrev pub FirstBytesDecide : Type 0
FirstBytesDecide =
    (session : Session) (memory owners holders line : List ℕ) → run_line session memory owners holders (take 81 line) ≡ run_line session memory owners holders line

-- RULES 8.4: "A number is in decimal, from 0 to 4,294,967,295"
abbrev pub Small : ℕ → Type 0
Small n = n < 4294967296

abbrev pub SmallNumbers : Numbers → Type 0
SmallNumbers (One a) = Small a
SmallNumbers (Two a b) = Small a × Small b
SmallNumbers (Three a b c) = Small a × Small b × Small c

abbrev pub SmallOperation : Operation → Type 0
SmallOperation o = SmallNumbers (numbers_taken (operation_row o).1 o)

-- a command with numbers that can be written
abbrev pub Writable : Command → Type 0
Writable (New cores bytes None) = Small cores × Small bytes
Writable (New cores bytes (Some entries)) = Small cores × Small bytes × Small entries
Writable (Give core operation) = Small core × SmallOperation operation
Writable (Step core) = Small core
Writable (Poke a v) = Small a.0 × Small v
Writable (Show a) = Small a.0

-- a command that is written and read is the same command
abbrev pub RoundTrip : Type 0
RoundTrip = (c : Command) → Writable c → command_of (line_of c) ≡ Some c

-- a step of one digit
abbrev pub short_line : ℕ → List ℕ
short_line core = step_word ++ space ∷ (48 + core) ∷ []

-- bytes that begin with it and a newline: that line's command
pub record ShortStep (s : List ℕ) (core : ℕ) : Type 0 where
  pub one_digit : core ≤ 9
  pub line : s ≡ short_line core ++ newline ∷ drop (length (short_line core) + 1) s
  pub command : command_of (short_line core) ≡ Some (Step core)

abbrev pub ShortSteps : Type 0
ShortSteps = (s : List ℕ) (core : ℕ) → short_step s ≡ Some core → ShortStep s core

-- a line that is understood is the line of its command
abbrev pub UnderstoodIsWritten : Type 0
UnderstoodIsWritten = (line : List ℕ) (c : Command) → command_of line ≡ Some c → line ≡ line_of c

-- RULES 8.3: "Between two fields of a line stands one space, and there is no other"; RULES 8.4: "begins with no zero that it does not need": two different lines are never the same command
abbrev pub OneLine : Type 0
OneLine = (line other : List ℕ) → command_of line ≡ command_of other → (command_of line ≡ None → ⊥) → line ≡ other

-- RULES 8.12: "the number of the line .. then the answer number, then words, with one space between", and a newline at the end
pub record LineParts (number answered : ℕ) (text line : List ℕ) : Type 0 where
  pub number_first : first_field line ≡ decimal number
  pub then_answer : more_fields line ≡ true
  pub answer_number : first_field (after_field line) ≡ decimal answered
  pub then_words : more_fields (after_field line) ≡ true
  pub words : after_field (after_field line) ≡ text ++ newline ∷ []

abbrev pub AnswerParts : ℕ → Result Answer Refusal → Type 0
AnswerParts number answer = LineParts number (number_in answer) (answer_words answer) (answer_line number answer)

abbrev pub AnswerReads : Type 0
AnswerReads = (number : ℕ) (answer : Result Answer Refusal) → AnswerParts number answer

-- the same of a refusal of any number, those that the rules don't have too
abbrev pub RefusedReads : Type 0
RefusedReads = (number refusal : ℕ) → LineParts number refusal refused_word (refused_text (decimal number) refusal)

abbrev pub AllSmall : List ℕ → Type 0
AllSmall [] = Unit
AllSmall (n ∷ s) = Small n × AllSmall s

-- the room for an answer line is enough for each that the code can write: a u64 line number, any answer's number, u32 values
abbrev pub AnswerFits : Type 0
AnswerFits =
    (number : ℕ) (answer : Result Answer Refusal) → number < 18446744073709551616 → AllSmall (values_of answer) → length (answer_line number answer) ≤ line_room

abbrev pub RefusedFits : Type 0
RefusedFits = (number refusal : ℕ) → number < 18446744073709551616 → Small refusal → length (refused_text (decimal number) refusal) ≤ line_room

-- a line's number is written in its own digits, which are kept from a line to the next
abbrev pub DigitsAre : Type 0
DigitsAre = (number : ℕ) → digits_of number (line_number number) ≡ decimal number

abbrev pub CountsOn : Type 0
CountsOn = (number : ℕ) → counted_on (line_number number) (number + 1) ≡ line_number (number + 1)

-- What a refusal leaves (RULES 6.2 to 6.5): session, memory and tables as found, no record, and no value but its number.
pub record Kept (session : Session) (memory owners holders : List ℕ) (o : LineOutcome) : Type 0 where
  pub same_session : o.session ≡ session
  pub same_memory : o.memory ≡ memory
  pub same_owners : o.owners ≡ owners
  pub same_holders : o.holders ≡ holders
  pub nothing_made : o.made ≡ None
  pub no_value : values_of o.answer ≡ []

-- by whatever number a line is refused
abbrev pub KeptIfRefused : Session → List ℕ → List ℕ → List ℕ → LineOutcome → Type 0
KeptIfRefused session memory owners holders o = (number_in o.answer ≡ 0 → ⊥) → Kept session memory owners holders o

-- the same of a command on one core that comes in and goes out: no core comes out
pub record TurnKept (memory owners holders : List ℕ) (t : TurnOutcome) : Type 0 where
  pub same_memory : t.memory ≡ memory
  pub same_owners : t.owners ≡ owners
  pub same_holders : t.holders ≡ holders

-- RULES 1.3: "A refusal leaves machine, memory, table .. as it found them.": each command, and each line, refused by any number, of any session, sound or not
pub record RefusedLinesLeave : Type 0 where
  pub command_leaves : (session : Session) (memory owners holders : List ℕ) (command : Option Command)
      → KeptIfRefused session memory owners holders (run_command session memory owners holders command)
  pub line_leaves : (session : Session) (memory owners holders line : List ℕ)
      → KeptIfRefused session memory owners holders (run_line session memory owners holders line)
  -- where the machine stands, as the code does it
  pub in_place_leaves : (session : Session) (memory owners holders : List ℕ) (command : Option Command)
      → KeptIfRefused session memory owners holders (run_in_place session memory owners holders command)
  pub set_up_leaves : (session : Session) (memory owners holders : List ℕ) (command : Option Command)
      → KeptIfRefused session memory owners holders (set_up session memory owners holders command)
  pub act_leaves : (sizes : Sizes) (c : Core) (memory owners holders : List ℕ) (command : Option Command)
      → (number_in (act_on sizes c memory owners holders command).did ≡ 0 → ⊥)
      → TurnKept memory owners holders (act_on sizes c memory owners holders command)

-- a new machine: all its cores idle, its memory and table 0; the rest of what is lent as before
pub record Afresh (memory owners holders : List ℕ) (cores bytes entries : ℕ) (o : LineOutcome) : Type 0 where
  pub ready : o.answer ≡ Ok Ready
  pub runs : o.session ≡ running (all_idle cores bytes entries)
  pub new_memory : o.memory ≡ replicate bytes 0 ++ drop bytes memory
  pub new_owners : o.owners ≡ replicate entries 0 ++ drop entries owners
  pub new_holders : o.holders ≡ replicate entries 0 ++ drop entries holders

-- RULES 8.10, of a `new`: "begins afresh where it is accepted"
abbrev pub AcceptedNewStartsAfresh : Type 0
AcceptedNewStartsAfresh =
    (session : Session) (memory owners holders : List ℕ) (cores bytes entries : ℕ)
    → number_in (new_of session memory owners holders cores bytes entries).answer ≡ 0
    → Afresh memory owners holders cores bytes entries (new_of session memory owners holders cores bytes entries)

-- RULES 8.5: `new CORES BYTES [ENTRIES]`
abbrev pub is_new : Option Command → Bool
is_new None = false
is_new (Some (New cores bytes entries)) = true
is_new (Some (Give core operation)) = false
is_new (Some (Step core)) = false
is_new (Some (Poke a v)) = false
is_new (Some (Show a)) = false

-- RULES 6.12, a line of script: "9, 10, and then its call's": a line that is not understood is answered 9 whether or not a machine stands; any other but a `new` is answered 10 where none stands (RULES 8.11)
pub record NineThenTen (session : Session) (memory owners holders line : List ℕ) : Type 0 where
  pub nine : command_of line ≡ None → run_line session memory owners holders line ≡ line_refused NotUnderstood session memory owners holders
  pub ten : stands session ≡ false → (command_of line ≡ None → ⊥) → is_new (command_of line) ≡ false
      → run_line session memory owners holders line ≡ line_refused NoMachine session memory owners holders

abbrev pub NineBeforeTen : Type 0
NineBeforeTen = (session : Session) (memory owners holders line : List ℕ) → NineThenTen session memory owners holders line
