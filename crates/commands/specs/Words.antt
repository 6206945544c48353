-- The words of the script, once: the grammar reads by these lists, and the answers and the listing of `records` print by them.
use Rattle.std.specs.Prelude.{ℕ, Option, Some, None, option_and_then, List, [], ◌∷◌, map, Result, Ok, Err, codes}
use Rattle.rules.specs.Entry.{nowhere}
use Rattle.rules.specs.Kinds.{kind_at}
use Rattle.rules.specs.declared.operations.Operation.{Operation}
use Rattle.rules.specs.declared.operations.Operation.TheVariants as Asked
use Rattle.rules.specs.declared.answers.Answer.{Answer}
use Rattle.rules.specs.declared.answers.Answer.TheVariants.{Ready, Taken, Moved, Waits, Done, Poked, Word}
use Rattle.rules.specs.declared.answers.Delivered.{Delivered}
use Rattle.rules.specs.declared.answers.Delivered.TheVariants.{Load, Ll, Store, Sc}
use Rattle.rules.specs.declared.kinds.Kind.{Kind}
use Rattle.rules.specs.declared.kinds.Kind.TheVariants as Kinds
use Rattle.rules.specs.declared.refusals.Refusal.{Refusal}
use Rattle.commands.specs.Bytes.{after_text}
use Rattle.commands.specs.declared.words.Row.{Row}
use Rattle.commands.specs.declared.words.CommandName.{CommandName}
use Rattle.commands.specs.declared.words.CommandName.TheVariants.{New, Give, Step, Poke, Show}
use Rattle.commands.specs.declared.words.OperationForm.{OperationForm}
use Rattle.commands.specs.declared.words.OperationForm.TheVariants.{Address, AddressAndValue}
use denote.Ref.{Bor}

-- a list of words, each with what it stands for
abbrev pub Words : Type 0 → Type 0
Words A = List (List ℕ × A)

-- what follows a word, and the space after it, that some bytes begin with
abbrev pub after_word : List ℕ → List ℕ → Option (List ℕ)
after_word word s = option_and_then (after_text (codes " ")) (after_text word s)

-- what such a word of a list stands for, and what follows it
abbrev pub said_or : {A : Type 0} → A → Option (List ℕ) → Option (A × List ℕ) → Option (A × List ℕ)
said_or meaning None others = others
said_or meaning (Some rest) others = Some (meaning, rest)

unfoldable pub said : {A : Type 0} → Words A → List ℕ → Option (A × List ℕ)
said [] s = None
said (row ∷ words) s = said_or row.1 (after_word row.0 s) (said words s)

-- a row of the code's lists, and what the code finds in one, as they stand here
abbrev pub listed : {A : Type 0} → Row A → List ℕ × A
listed row = (row.0.now, row.1)

abbrev pub word_found : {A : Type 0} → A × Bor (List ℕ) → A × List ℕ
word_found p = (p.0, p.1.now)

-- the commands
abbrev pub new_word : List ℕ
new_word = codes "new"

abbrev pub give_word : List ℕ
give_word = codes "give"

abbrev pub step_word : List ℕ
step_word = codes "step"

abbrev pub poke_word : List ℕ
poke_word = codes "poke"

abbrev pub show_word : List ℕ
show_word = codes "show"

abbrev pub command_words : Words CommandName
command_words = (give_word, Give) ∷ (show_word, Show) ∷ (poke_word, Poke) ∷ (step_word, Step) ∷ (new_word, New) ∷ []

-- The row of an operation: its word, and what it stands for, by the numbers that follow the word; those that stand here are 0.
abbrev pub operation_row : Operation → List ℕ × OperationForm
operation_row (Asked.Load a) = (codes "load", Address (Asked.Load nowhere))
operation_row (Asked.Ll a) = (codes "ll", Address (Asked.Ll nowhere))
operation_row (Asked.Store a v) = (codes "store", AddressAndValue (Asked.Store nowhere 0))
operation_row (Asked.Sc a v) = (codes "sc", AddressAndValue (Asked.Sc nowhere 0))

-- the operations in the order of the list, and the list
abbrev pub operations : List Operation
operations =
    Asked.Load nowhere
    ∷ Asked.Ll nowhere
    ∷ Asked.Store nowhere 0
    ∷ Asked.Sc nowhere 0
    ∷ []

abbrev pub operation_words : Words OperationForm
operation_words = map operation_row operations

-- an operation's word
abbrev pub operation_word : Operation → List ℕ
operation_word o = (operation_row o).0

-- the answers: that of a finished operation has the operation's word
abbrev pub delivered_word : Delivered → List ℕ
delivered_word (Load v) = operation_word (Asked.Load nowhere)
delivered_word (Ll v) = operation_word (Asked.Ll nowhere)
delivered_word Store = operation_word (Asked.Store nowhere 0)
delivered_word (Sc v) = operation_word (Asked.Sc nowhere 0)

abbrev pub refused_word : List ℕ
refused_word = codes "refused"

abbrev pub answer_word : Result Answer Refusal → List ℕ
answer_word (Err refusal) = refused_word
answer_word (Ok Ready) = codes "ready"
answer_word (Ok Taken) = codes "taken"
answer_word (Ok Moved) = codes "moved"
answer_word (Ok Waits) = codes "waits"
answer_word (Ok (Done delivered)) = delivered_word delivered
answer_word (Ok Poked) = codes "poked"
answer_word (Ok (Word v)) = codes "word"

-- the kinds of record, as `records` prints them
abbrev pub kind_word : Kind → List ℕ
kind_word Kinds.Load = operation_word (Asked.Load nowhere)
kind_word Kinds.Ll = operation_word (Asked.Ll nowhere)
kind_word Kinds.Store = operation_word (Asked.Store nowhere 0)
kind_word Kinds.Success = codes "sc-success"
kind_word Kinds.Failure = codes "sc-failure"
kind_word Kinds.Poke = poke_word

-- the word of a kind's number; no record of a block that is accepted has a number that is no kind's
abbrev pub word_or_unknown : Option Kind → List ℕ
word_or_unknown None = codes "unknown"
word_or_unknown (Some kind) = kind_word kind

abbrev pub number_word : ℕ → List ℕ
number_word number = word_or_unknown (kind_at number)
