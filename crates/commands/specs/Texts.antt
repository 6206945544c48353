-- RULES 8, the script program: its answers. RULES 8.12: "For each line there is one line of output: the number of the line, counted from 1, then the answer number, then words, with one space between."
use Rattle.std.specs.Prelude.{ℕ, ◌+◌, ◌/◌, ◌%◌, ◌≤◌, ◌≡◌, Bool, ◌&&◌, Option, Some, None, Result, List, [], ◌∷◌, ◌++◌, length, take, replicate, leb, ltb, if◌then◌else◌}
use Rattle.rules.specs.Answers.{values_of}
use Rattle.rules.specs.Refusals.{number_in}
use Rattle.rules.specs.declared.answers.Answer.{Answer}
use Rattle.rules.specs.declared.refusals.Refusal.{Refusal}
use Rattle.commands.specs.Bytes.{space, newline, put_in}
use Rattle.commands.specs.Decimal.{decimal}
use Rattle.commands.specs.Words.{refused_word, answer_word}
use Rattle.commands.specs.declared.text.LineNumber.{LineNumber}

-- the values of an answer, each after a space
abbrev pub values_text : List ℕ → List ℕ
values_text [] = []
values_text (v ∷ []) = space ∷ decimal v
values_text (v ∷ w ∷ values) = space ∷ decimal v ++ values_text (w ∷ values)

-- RULES 8.13, the words: the answer's word (Words.antt), and the values that the rules give it. RULES 8.14: "V is the value, in decimal"
unfoldable pub answer_words : Result Answer Refusal → List ℕ
answer_words answer = answer_word answer ++ values_text (values_of answer)

abbrev pub number_text : ℕ → List ℕ
number_text n = decimal n ++ space ∷ []

-- what follows a line's number: the answer's number, its words and a newline
abbrev pub rest_with : ℕ → List ℕ → List ℕ
rest_with number words = space ∷ number_text number ++ words ++ newline ∷ []

unfoldable pub rest_of : Result Answer Refusal → List ℕ
rest_of answer = rest_with (number_in answer) (answer_words answer)

-- the same of a refusal of any number
unfoldable pub rest_refused : ℕ → List ℕ
rest_refused refusal = rest_with refusal refused_word

-- a line whose number is written in these digits
unfoldable pub line_text : List ℕ → Result Answer Refusal → List ℕ
line_text digits answer = digits ++ rest_of answer

unfoldable pub refused_text : List ℕ → ℕ → List ℕ
refused_text digits refusal = digits ++ rest_refused refusal

-- room for the longest: words, as `word 4294967295`; what follows a line's number: a space, 10 digits, a space, words, a newline; and a line, whose number has 20 digits
abbrev pub words_room : ℕ
words_room = 15

abbrev pub rest_room : ℕ
rest_room = words_room + 13

abbrev pub line_room : ℕ
line_room = rest_room + 20

-- a line put in at a place, where there is room for the longest, and where it ends
abbrev pub text_put : List ℕ → List ℕ → ℕ → List ℕ
text_put text out at = if leb (at + line_room) (length out) then put_in text at out else out

abbrev pub text_end : List ℕ → ℕ → ℕ → ℕ
text_end text lent at = if leb (at + line_room) lent then at + length text else at

abbrev pub line_put : List ℕ → Result Answer Refusal → List ℕ → ℕ → List ℕ
line_put digits answer out at = text_put (line_text digits answer) out at

abbrev pub line_end : List ℕ → Result Answer Refusal → ℕ → ℕ → ℕ
line_end digits answer lent at = text_end (line_text digits answer) lent at

abbrev pub refused_put : List ℕ → ℕ → List ℕ → ℕ → List ℕ
refused_put digits refusal out at = text_put (refused_text digits refusal) out at

abbrev pub refused_end : List ℕ → ℕ → ℕ → ℕ → ℕ
refused_end digits refusal lent at = text_end (refused_text digits refusal) lent at

-- the same of a number, in its own digits
abbrev pub answer_line : ℕ → Result Answer Refusal → List ℕ
answer_line number answer = line_text (decimal number) answer

abbrev pub answer_put : ℕ → Result Answer Refusal → List ℕ → ℕ → List ℕ
answer_put number answer out at = line_put (decimal number) answer out at

abbrev pub answer_end : ℕ → Result Answer Refusal → ℕ → ℕ → ℕ
answer_end number answer lent at = line_end (decimal number) answer lent at

-- a number below 100 in two digits
abbrev pub two_digits : ℕ → List ℕ
two_digits n = (48 + n / 10) ∷ (48 + n % 10) ∷ []

abbrev pub line_number_of : ℕ → List ℕ → ℕ → LineNumber
line_number_of last digits places = record { last = last; digits = digits; places = places }

-- a number of one to eight digits, and not 0
abbrev pub can_stand : ℕ → Bool
can_stand before = ltb 0 before && ltb before 100000000

-- a line's number: its last two digits, and the digits before them, where they can stand
unfoldable pub line_number : ℕ → Option LineNumber
line_number number =
    if can_stand (number / 100)
    then Some (line_number_of (number % 100) (put_in (decimal (number / 100)) 0 (replicate 8 0)) (length (decimal (number / 100))))
    else None

-- the number after that of a line: only its last two digits change, but once in a hundred lines
unfoldable pub counted_on : Option LineNumber → ℕ → Option LineNumber
counted_on None number = line_number number
counted_on (Some line) number = if ltb line.last 99 then Some (line_number_of (line.last + 1) line.digits line.places) else line_number number

-- one to eight digits stand before its last two
abbrev pub digits_stand : LineNumber → Bool
digits_stand line = ltb 0 line.places && leb line.places 8

-- the digits that a line's number is written in: those that stand there, or else its own
unfoldable pub digits_of : ℕ → Option LineNumber → List ℕ
digits_of number None = decimal number
digits_of number (Some line) = if digits_stand line then take line.places line.digits ++ two_digits line.last else decimal number

-- digits were put in at a place, and with them up to five bytes more, which what is put in after them covers
abbrev pub PutBefore : List ℕ → ℕ → List ℕ → List ℕ → Type 0
PutBefore digits at out out' =
    (text : List ℕ) → 5 ≤ length text → at + length digits + length text ≤ length out
    → put_in text (at + length digits) out' ≡ put_in (digits ++ text) at out
