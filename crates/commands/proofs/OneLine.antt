-- A line that is understood is the line of its command.
-- Assumes nothing.
use Rattle.std.specs.Prelude.{Option, Some, None, IfSome, option_map, option_and_then, map}
use Rattle.std.specs.List.{AllByRecursion}
use Rattle.std.proofs.lemmas.Option.{cond_some}
use Rattle.std.proofs.Common.{if◌then◌else◌}
use mathlib.Core.Path.{◌≡◌, refl, ap, ◌∙◌, sym, subst}
use mathlib.Core.Bool.{Bool, true, false, not, ◌&&◌}
use mathlib.Core.List.{List, [], ◌∷◌, ◌++◌, append_assoc, append-nil}
use Prim.Native.Nat.{ℕ, zero, suc, ◌+◌, ◌*◌, ◌/◌, ◌%◌, ◌≤◌}
use native.Mathlib.Omega.{arith}
use lib.ListN.{length}
use lib.Dec.{eqb, ltb, leb}
use borrow.Author.Tests.{eqb-false, lt-ltb, not-true}
use Rattle.rules.specs.declared.entry.GuestAddress.{GuestAddress}
use Rattle.rules.specs.declared.operations.Operation.{Operation}
use Rattle.rules.specs.declared.operations.Operation.TheVariants.{Load, Ll, Store, Sc}
use Rattle.rules.specs.Operations.{code_of, asked_of}
use Rattle.commands.specs.Bytes.{after_text, space, first_field, more_fields, after_field}
use Rattle.commands.specs.Decimal.{largest, is_digit, digit_of, all_digits, value_from, number_from, number_said, number_ahead, decimal}
use Rattle.commands.specs.Words.{Words, after_word, said_or, said, command_words, new_word, give_word, step_word, poke_word, show_word, operations, operation_words, operation_row, operation_word}
use Rattle.commands.specs.Grammar.{after_three, after_two, after_one, numbers_of, operation_with, operation_in, give_after, give_command, command_with, command_after}
use Rattle.commands.specs.Grammar.{too_long, command_of, numbers_text, operation_text, line_of}
use Rattle.commands.specs.Promises.{UnderstoodIsWritten, OneLine}
use Rattle.commands.specs.declared.grammar.Numbers.{Numbers}
use Rattle.commands.specs.declared.grammar.Numbers.TheVariants.{One, Two, Three}
use Rattle.commands.specs.declared.grammar.Command.{Command}
use Rattle.commands.specs.declared.grammar.Command.TheVariants.{Give}
use Rattle.commands.specs.declared.words.CommandName.{CommandName}
use Rattle.commands.specs.declared.words.CommandName.TheVariants as Name
use Rattle.commands.specs.declared.words.OperationForm.{OperationForm}
use Rattle.commands.specs.declared.words.OperationForm.TheVariants.{Address, AddressAndValue}
use Rattle.rules.proofs.Bools.{and₂}
use Rattle.commands.proofs.Digits.{digit_bounds}
use Rattle.commands.proofs.Fields.{only, splits}
use Rattle.commands.proofs.Fronts.{text_is}
use Rattle.commands.proofs.Placed.{one_digit}
use Rattle.commands.proofs.Written.{decimal_on}

-- one more digit
digit_byte : (b : ℕ) → is_digit b ≡ true → (digit_of b ≤ 9) × (48 + digit_of b ≡ b)
digit_byte b h = let k = digit_bounds b h in rw h (omega arith, omega arith)

digit_more : (v b : ℕ) → 1 ≤ v → is_digit b ≡ true → decimal (10 * v + digit_of b) ≡ decimal v ++ b ∷ []
digit_more v b p h =
    let d = digit_byte b h in
    let small = d.0 in
    let byte = d.1 in
    let q : (10 * v + digit_of b) / 10 ≡ v = omega (arith, small) in
    let r : 48 + (10 * v + digit_of b) % 10 ≡ b = omega (arith, small, byte) in
    decimal_on (10 * v + digit_of b) (omega (arith, p)) ∙ rw (q, r)

digits_more : (v : ℕ) (s : List ℕ) → 1 ≤ v → all_digits s ≡ true → decimal (value_from v s) ≡ decimal v ++ s
unfolding value_from all_digits
digits_more v [] p h = sym (append-nil (decimal v))
digits_more v (b ∷ s) p h =
    let k = and₂ (is_digit b) (all_digits s) h in
    digits_more (10 * v + digit_of b) s (omega (arith, p)) k.1 ∙ ap (λ (t : List ℕ). t ++ s) (digit_more v b p k.0) ∙ append_assoc (decimal v) (b ∷ []) s

digit_alone : (b : ℕ) → is_digit b ≡ true → decimal (digit_of b) ≡ b ∷ []
digit_alone b h = let d = digit_byte b h in one_digit (digit_of b) d.0 ∙ ap (λ (c : ℕ). c ∷ []) d.1

-- what a field that is a number says of its bytes
number_tests : (count : ℕ) (digits zeroFirst : Bool) (value n : ℕ) → number_from count digits zeroFirst value ≡ Some n
    → (digits ≡ true) × (not (ltb 1 count && zeroFirst) ≡ true) × (value ≡ n)
number_tests count digits zeroFirst value n e =
    let is = cond_some (not (eqb count 0) && digits && not (ltb 1 count && zeroFirst) && leb value largest) value n e in
    let front = (and₂ (not (eqb count 0) && digits && not (ltb 1 count && zeroFirst)) (leb value largest) is.0).0 in
    let tests = and₂ (not (eqb count 0) && digits) (not (ltb 1 count && zeroFirst)) front in
    ((and₂ (not (eqb count 0)) digits tests.0).1, tests.1, is.1)

number_bytes : (s : List ℕ) (n : ℕ) → number_said s ≡ Some n → s ≡ decimal n
unfolding number_said all_digits value_from
number_bytes [] n e = absurd (cc)
number_bytes (b ∷ []) n e =
    let t = number_tests 1 (all_digits (b ∷ [])) (eqb b 48) (value_from 0 (b ∷ [])) n e in
    let d = (and₂ (is_digit b) true t.0).0 in
    let v : digit_of b ≡ n = (let q = t.2 in omega (arith, q)) in
    sym (digit_alone b d) ∙ ap decimal v
number_bytes (b ∷ c ∷ s) n e =
    let t = number_tests (length (b ∷ c ∷ s)) (all_digits (b ∷ c ∷ s)) (eqb b 48) (value_from 0 (b ∷ c ∷ s)) n e in
    let k = and₂ (is_digit b) (all_digits (c ∷ s)) t.0 in
    let several : ltb 1 (length (b ∷ c ∷ s)) ≡ true = lt-ltb 1 (length (b ∷ c ∷ s)) (omega arith) in
    let first : eqb b 48 ≡ false = not-true (eqb b 48) (ap (λ (u : Bool). not (u && eqb b 48)) (sym several) ∙ t.1) in
    let other = eqb-false b 48 first in
    let byte = (digit_byte b k.0).1 in
    let some : 1 ≤ 10 * 0 + digit_of b = above (digit_of b) byte other in
    let v : 10 * 0 + digit_of b ≡ digit_of b = omega arith in
    sym (sym (ap decimal t.2) ∙ digits_more (10 * 0 + digit_of b) (c ∷ s) some k.1 ∙ ap (λ (w : ℕ). decimal w ++ c ∷ s) v ∙ ap (λ (r : List ℕ). r ++ c ∷ s) (digit_alone b k.0))
  where
    above : (d : ℕ) → 48 + d ≡ b → (b ≡ 48 → ⊥) → 1 ≤ 10 * 0 + d
    above zero q o = absurd (o (sym q))
    above (suc d) q o = omega arith

-- no value, or one whose text this is
abbrev Written : {A : Type 0} → (A → List ℕ) → List ℕ → Option A → Type 0
Written text s c = IfSome c (λ x. s ≡ text x)

-- a number at the front, and what follows it
ahead : ℕ → Option (List ℕ) → List ℕ
ahead n None = decimal n
ahead n (Some t) = decimal n ++ space ∷ t

first_says : (s : List ℕ) → IfSome {T = ℕ × Option (List ℕ)} (number_ahead s) (λ p. s ≡ ahead p.0 p.1)
unfolding number_ahead ahead
first_says s = go (number_said (first_field s)) refl (more_fields s) refl
  where
    go : (n : Option ℕ) → number_said (first_field s) ≡ n → (m : Bool) → more_fields s ≡ m
        → IfSome {T = ℕ × Option (List ℕ)} (option_map (λ k. (k, if m then Some (after_field s) else None)) n) (λ p. s ≡ ahead p.0 p.1)
    go None e m q = tt
    go (Some n) e true q = splits space s q ∙ ap (λ (t : List ℕ). t ++ space ∷ after_field s) (number_bytes (first_field s) n e)
    go (Some n) e false q = only space s q ∙ number_bytes (first_field s) n e

-- what is read of a number and of what follows it is written so: then of the bytes that they make
front_says : {B : Type 0} (text : B → List ℕ) (before : List ℕ → List ℕ) (read : ℕ → Option (List ℕ) → Option B)
    → ((n : ℕ) (t : Option (List ℕ)) → Written text (before (ahead n t)) (read n t))
    → (s : List ℕ) → Written text (before s) (option_and_then (λ p. read p.0 p.1) (number_ahead s))
front_says {B} text before read so s = go (number_ahead s) (first_says s)
  where
    go : (p : Option (ℕ × Option (List ℕ))) → IfSome p (λ q. s ≡ ahead q.0 q.1) → Written text (before s) (option_and_then (λ q. read q.0 q.1) p)
    go None h = tt
    go (Some q) h = let P : List ℕ → Type 0 = λ t. Written text (before t) (read q.0 q.1) in subst P (sym h) (so q.0 q.1)

third_says : (a b c : ℕ) (t : Option (List ℕ)) → Written numbers_text (decimal a ++ space ∷ (decimal b ++ space ∷ ahead c t)) (after_three a b c t)
unfolding ahead
third_says a b c None = refl
third_says a b c (Some s) = tt

second_says : (a b : ℕ) (t : Option (List ℕ)) → Written numbers_text (decimal a ++ space ∷ ahead b t) (after_two a b t)
unfolding ahead
second_says a b None = refl
second_says a b (Some s) = front_says numbers_text (λ u. decimal a ++ space ∷ (decimal b ++ space ∷ u)) (after_three a b) (third_says a b) s

first_number_says : (a : ℕ) (t : Option (List ℕ)) → Written numbers_text (ahead a t) (after_one a t)
unfolding ahead
first_number_says a None = refl
first_number_says a (Some s) = front_says numbers_text (λ u. decimal a ++ space ∷ u) (after_two a) (second_says a) s

numbers_say : (s : List ℕ) → Written numbers_text s (numbers_of s)
unfolding numbers_of
numbers_say s = front_says numbers_text (λ u. u) after_one first_number_says s

-- bytes that begin with a word and a space
pub word_is : (word s t : List ℕ) → after_word word s ≡ Some t → s ≡ word ++ space ∷ t
word_is word s t e = go (after_text word s) refl e
  where
    go : (u : Option (List ℕ)) → after_text word s ≡ u → option_and_then (after_text (space ∷ [])) u ≡ Some t → s ≡ word ++ space ∷ t
    go None q e = absurd (cc)
    go (Some u) q e = text_is word s u q ∙ ap (λ (v : List ℕ). word ++ v) (text_is (space ∷ []) u t e)

-- what is read of each word of a list, and of what follows it, is written so: then what is read by the list
abbrev Reads : {A B : Type 0} → (B → List ℕ) → (A → List ℕ → Option B) → List ℕ × A → Type 0
Reads text read row = (t : List ℕ) → Written text (row.0 ++ space ∷ t) (read row.1 t)

said_written : {A B : Type 0} (text : B → List ℕ) (read : A → List ℕ → Option B) (words : Words A) → AllByRecursion (Reads text read) words
    → (s : List ℕ) → Written text s (option_and_then (λ p. read p.0 p.1) (said words s))
unfolding said
said_written text read [] so s = tt
said_written text read (row ∷ words) so s = go (after_word row.0 s) refl (said_written text read words so.1 s)
  where
    go : (t : Option (List ℕ)) → after_word row.0 s ≡ t → Written text s (option_and_then (λ p. read p.0 p.1) (said words s))
        → Written text s (option_and_then (λ p. read p.0 p.1) (said_or row.1 t (said words s)))
    go None e others = others
    go (Some t) e others = let P : List ℕ → Type 0 = λ u. Written text u (read row.1 t) in subst P (sym (word_is row.0 s t e)) (so.0 t)

-- the operations
operation_after : OperationForm → List ℕ → Option Operation
operation_after form t = option_and_then (operation_with form) (numbers_of t)

address_reads : (word : List ℕ) (o : Operation)
    → ((a : GuestAddress) → Written operation_text (word ++ space ∷ decimal a.0) (asked_of (code_of o) a 0)) → Reads operation_text operation_after (word, Address o)
unfolding operation_after
address_reads word o e t = go (numbers_of t) (numbers_say t)
  where
    go : (n : Option Numbers) → Written numbers_text t n → Written operation_text (word ++ space ∷ t) (option_and_then (operation_with (Address o)) n)
    go None h = tt
    go (Some (One a)) h = let P : List ℕ → Type 0 = λ u. Written operation_text (word ++ space ∷ u) (asked_of (code_of o) (record { 0 = a }) 0) in subst P (sym h) (e (record { 0 = a }))
    go (Some (Two a v)) h = tt
    go (Some (Three a b c)) h = tt

value_reads : (word : List ℕ) (o : Operation)
    → ((a : GuestAddress) (v : ℕ) → Written operation_text (word ++ space ∷ (decimal a.0 ++ space ∷ decimal v)) (asked_of (code_of o) a v))
    → Reads operation_text operation_after (word, AddressAndValue o)
unfolding operation_after
value_reads word o e t = go (numbers_of t) (numbers_say t)
  where
    go : (n : Option Numbers) → Written numbers_text t n → Written operation_text (word ++ space ∷ t) (option_and_then (operation_with (AddressAndValue o)) n)
    go None h = tt
    go (Some (One a)) h = tt
    go (Some (Two a v)) h = let P : List ℕ → Type 0 = λ u. Written operation_text (word ++ space ∷ u) (asked_of (code_of o) (record { 0 = a }) v) in subst P (sym h) (e (record { 0 = a }) v)
    go (Some (Three a b c)) h = tt

operation_reads : (o : Operation) → Reads operation_text operation_after (operation_row o)
unfolding operation_text asked_of
operation_reads (Load b) = address_reads (operation_word (Load b)) _ (λ a. refl)
operation_reads (Ll b) = address_reads (operation_word (Ll b)) _ (λ a. refl)
operation_reads (Store b w) = value_reads (operation_word (Store b w)) _ (λ a v. refl)
operation_reads (Sc b w) = value_reads (operation_word (Sc b w)) _ (λ a v. refl)

-- each row of the list is the row of its operation
each_row : (P : List ℕ × OperationForm → Type 0) → ((o : Operation) → P (operation_row o)) → (os : List Operation) → AllByRecursion P (map operation_row os)
each_row P so [] = tt
each_row P so (o ∷ os) = (so o, each_row P so os)

operations_read : AllByRecursion (Reads operation_text operation_after) operation_words
operations_read = each_row (Reads operation_text operation_after) operation_reads operations

operation_written : (s : List ℕ) → Written operation_text s (operation_in s)
unfolding operation_in operation_after
operation_written s = said_written operation_text operation_after operation_words operations_read s

-- the commands
give_after_says : (core : ℕ) (t : Option (List ℕ)) → Written line_of (give_word ++ space ∷ ahead core t) (give_after core t)
unfolding ahead line_of
give_after_says core None = tt
give_after_says core (Some s) = go (operation_in s) (operation_written s)
  where
    go : (o : Option Operation) → Written operation_text s o → Written line_of (give_word ++ space ∷ (decimal core ++ space ∷ s)) (option_map (Give core) o)
    go None h = tt
    go (Some o) h = ap (λ (u : List ℕ). give_word ++ space ∷ (decimal core ++ space ∷ u)) h

give_reads : Reads line_of command_after (give_word, Name.Give)
unfolding give_command
give_reads t = front_says line_of (λ u. give_word ++ space ∷ u) give_after give_after_says t

plain_reads : (word : List ℕ) (name : CommandName) → ((n : Numbers) → Written line_of (word ++ space ∷ numbers_text n) (command_with name n))
    → (t : List ℕ) → Written line_of (word ++ space ∷ t) (option_and_then (command_with name) (numbers_of t))
plain_reads word name so t = go (numbers_of t) (numbers_say t)
  where
    go : (n : Option Numbers) → Written numbers_text t n → Written line_of (word ++ space ∷ t) (option_and_then (command_with name) n)
    go None h = tt
    go (Some n) h = let P : List ℕ → Type 0 = λ u. Written line_of (word ++ space ∷ u) (command_with name n) in subst P (sym h) (so n)

new_says : (n : Numbers) → Written line_of (new_word ++ space ∷ numbers_text n) (command_with Name.New n)
unfolding line_of
new_says (One a) = tt
new_says (Two cores bytes) = refl
new_says (Three cores bytes entries) = refl

step_says : (n : Numbers) → Written line_of (step_word ++ space ∷ numbers_text n) (command_with Name.Step n)
unfolding line_of
step_says (One core) = refl
step_says (Two a b) = tt
step_says (Three a b c) = tt

poke_says : (n : Numbers) → Written line_of (poke_word ++ space ∷ numbers_text n) (command_with Name.Poke n)
unfolding line_of
poke_says (One a) = tt
poke_says (Two a v) = refl
poke_says (Three a b c) = tt

show_says : (n : Numbers) → Written line_of (show_word ++ space ∷ numbers_text n) (command_with Name.Show n)
unfolding line_of
show_says (One a) = refl
show_says (Two a b) = tt
show_says (Three a b c) = tt

commands_read : AllByRecursion (Reads line_of command_after) command_words
commands_read = (
  give_reads,
  (
    plain_reads show_word Name.Show show_says,
    (
      plain_reads poke_word Name.Poke poke_says,
      (
        plain_reads step_word Name.Step step_says,
        (plain_reads new_word Name.New new_says, tt),
      ),
    ),
  ),
)

command_written : (line : List ℕ) → Written line_of line (command_of line)
unfolding command_of
command_written line = go (too_long line)
  where
    go : (t : Bool) → Written line_of line (if t then None else option_and_then (λ p. command_after p.0 p.1) (said command_words line))
    go true = tt
    go false = said_written line_of command_after command_words commands_read line

pub understood_is_written : UnderstoodIsWritten
understood_is_written line c e = let P : Option Command → Type 0 = Written line_of line in subst P e (command_written line)

pub one_line : OneLine
one_line line other e u = go (command_of line) refl
  where
    go : (c : Option Command) → command_of line ≡ c → line ≡ other
    go None n = absurd (u n)
    go (Some c) n = understood_is_written line c n ∙ sym (understood_is_written other c (sym e ∙ n))
