-- An answer line is read as it is written, and has room.
-- Assumes nothing.
use Rattle.std.specs.Prelude.{Result, Ok, Err}
use mathlib.Core.Path.{◌≡◌, ap, ◌∙◌}
use mathlib.Core.List.{List, [], ◌∷◌, ◌++◌, append_assoc}
use Prim.Native.Nat.{ℕ, ◌+◌, ◌*◌, ◌≤◌, ◌<◌}
use native.Mathlib.Omega.{arith}
use lib.ListN.{length, length-append}
use Rattle.rules.specs.Refusals.{refusal_number, number_in}
use Rattle.rules.specs.Answers.{values_of}
use Rattle.rules.specs.declared.answers.Answer.{Answer}
use Rattle.rules.specs.declared.refusals.Refusal.{Refusal}
use Rattle.commands.specs.Bytes.{space, newline, first_field, more_fields, after_field}
use Rattle.commands.specs.Decimal.{decimal}
use Rattle.commands.specs.Words.{refused_word, answer_word}
use Rattle.commands.specs.Texts.{values_text, answer_words, words_room, number_text, rest_with, rest_of, rest_refused, line_text, refused_text, line_room}
use Rattle.commands.specs.Promises.{LineParts, AnswerReads, RefusedReads, AllSmall, AnswerFits, RefusedFits}
use Rattle.commands.proofs.Placed.{decimal_few}
use Rattle.commands.proofs.Decimals.{decimal_plain}
use Rattle.commands.proofs.Fields.{before_then, some_then, after_then}

-- a number's text and what follows it
text_then : (n : ℕ) (s : List ℕ) → number_text n ++ s ≡ decimal n ++ space ∷ s
text_then n s = append_assoc (decimal n) (space ∷ []) s

-- a line of any words
line_split : (number answered : ℕ) (words : List ℕ)
    → decimal number ++ rest_with answered words ≡ decimal number ++ space ∷ (decimal answered ++ space ∷ (words ++ newline ∷ []))
line_split number answered words =
    let end = newline ∷ [] in
    ap (λ (s : List ℕ). decimal number ++ space ∷ s) (append_assoc (number_text answered) words end ∙ text_then answered (words ++ end))

line_reads : (number answered : ℕ) (words : List ℕ) → LineParts number answered words (decimal number ++ rest_with answered words)
line_reads number answered words =
    let split = line_split number answered words in
    let last = words ++ newline ∷ [] in
    let rest = decimal answered ++ space ∷ last in
    let line = decimal_plain number in
    let digits = decimal_plain answered in
    let after : after_field (decimal number ++ rest_with answered words) ≡ rest = ap after_field split ∙ after_then space (decimal number) rest line in
    record {
      number_first = ap first_field split ∙ before_then space (decimal number) rest line;
      then_answer = ap more_fields split ∙ some_then space (decimal number) rest line;
      answer_number = ap first_field after ∙ before_then space (decimal answered) last digits;
      then_words = ap more_fields after ∙ some_then space (decimal answered) last digits;
      words = ap after_field after ∙ after_then space (decimal answered) last digits;
    }

pub answer_reads : AnswerReads
unfolding line_text rest_of
answer_reads number answer = line_reads number (number_in answer) (answer_words answer)

pub refused_reads : RefusedReads
unfolding refused_text rest_refused
refused_reads number refusal = line_reads number refusal refused_word

-- a value's text, and room for it beside a word
values_few : (values : List ℕ) → AllSmall values → length (values_text values) ≤ 11 * length values
values_few [] h = omega arith
values_few (v ∷ []) h = let p = decimal_few v 9 (let l = h.0 in omega arith) in omega arith
values_few (v ∷ w ∷ values) h =
    let p = decimal_few v 9 (let l = h.0 in omega arith) in
    let q = values_few (w ∷ values) h.1 in
    rw (length-append (decimal v) (values_text (w ∷ values))) (omega arith)

word_few : (answer : Result Answer Refusal) → length (answer_word answer) + 11 * length (values_of answer) ≤ words_room
word_few (Err refusal) = omega arith
word_few (Ok answer) = few answer
  where
    few : (a : Answer) → length (answer_word (Ok a)) + 11 * length (values_of (Ok a)) ≤ words_room
    few a = grind arith

words_few : (answer : Result Answer Refusal) → AllSmall (values_of answer) → length (answer_words answer) ≤ words_room
unfolding answer_words
words_few answer h =
    let p = values_few (values_of answer) h in
    let q = word_few answer in
    rw (length-append (answer_word answer) (values_text (values_of answer))) (omega arith)

-- a refusal's number is one of eighteen
numbers_small : (answer : Result Answer Refusal) → number_in answer < 19
numbers_small (Ok answer) = omega arith
numbers_small (Err refusal) = small refusal
  where
    small : (r : Refusal) → refusal_number r < 19
    small r = grind arith

line_fits : (number answered : ℕ) (words : List ℕ) → number < 18446744073709551616 → answered < 4294967296 → length words ≤ words_room
    → length (decimal number ++ rest_with answered words) ≤ line_room
line_fits number answered words l m r =
    let p = decimal_few number 19 (omega (arith, l)) in
    let q = decimal_few answered 9 (omega (arith, m)) in
    let end = words ++ newline ∷ [] in
    let last : length end ≤ 16 = rw (length-append words (newline ∷ [])) (omega (arith, r)) in
    let rest : length (decimal answered ++ space ∷ end) ≤ words_room + 12 = rw (length-append (decimal answered) (space ∷ end)) (omega (arith, q, last)) in
    rw (line_split number answered words, length-append (decimal number) (space ∷ (decimal answered ++ space ∷ end))) (omega (arith, p, rest))

pub answer_fits : AnswerFits
unfolding line_text rest_of
answer_fits number answer l h = line_fits number (number_in answer) (answer_words answer) l (omega (arith, numbers_small answer)) (words_few answer h)

pub refused_fits : RefusedFits
unfolding refused_text rest_refused
refused_fits number refusal l m = line_fits number refusal refused_word l m (omega arith)
