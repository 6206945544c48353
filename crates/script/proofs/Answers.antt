-- One more line answered: what is left to answer gives the same in the end.
-- Assumes nothing.
use mathlib.Core.Path.{◌≡◌, refl, ap, sym, ◌∙◌, subst}
use mathlib.Core.Bool.{Bool, true, false, true≢false}
use mathlib.Core.List.{List, [], ◌∷◌, ◌++◌, append_assoc}
use Prim.Native.Nat.{ℕ, ◌+◌, ◌≤◌}
use native.Mathlib.Omega.{arith}
use lib.ListN.{length, take, drop, length-drop}
use lib.Seq.{take-length, take-paste, drop-drop}
use lib.Dec.{leb, ltb}
use borrow.Author.Tests.{le-leb, leb-true}
use Rattle.std.specs.Prelude.{Option, None, is_some}
use Rattle.rules.proofs.Bools.{and₂}
use Rattle.commands.specs.Effect.{LineOutcome, run_command, run_line}
use Rattle.commands.specs.Bytes.{first_line, put_in}
use Rattle.commands.specs.Grammar.{command_of}
use Rattle.commands.specs.declared.grammar.Command.{Command}
use Rattle.commands.specs.Texts.{answer_line, answer_put, answer_end, line_room, line_put, line_end, line_number, counted_on, digits_of}
use Rattle.commands.specs.declared.text.LineNumber.{LineNumber}
use Rattle.commands.proofs.Numbered.{counts_on, line_put_lem, line_end_lem}
use Rattle.script.specs.declared.answering.Event.{Event}
use Rattle.script.specs.Output.{Work, work, after_line, text_of, texts_of, last_number}
use Rattle.script.specs.Lines.{handed, unfinished}
use Rattle.script.specs.Answering.{answer_room, can_answer, seen_of, lines_in, stopped, answer_lines}
use Rattle.script.proofs.Cutting.{next_line, next_left}

can_room : (lent at answered : ℕ) → can_answer lent at answered ≡ true → leb (at + answer_room) lent ≡ true
can_room lent at answered e = (and₂ (leb (at + answer_room) lent) (ltb answered last_number) e).0

-- where nothing can be answered, the answering stops
pub stops_full : (watch : Bool) (w : Work) (lines : List (List ℕ)) (out : List ℕ) (at : ℕ) → can_answer (length out) at w.answered ≡ false
    → stopped w lines out at None ≡ answer_lines watch w lines out at
unfolding answer_lines
stops_full watch w [] out at e = refl
stops_full watch w (line ∷ lines) out at e = rw e

pub stops_empty : (watch : Bool) (w : Work) (lines : List (List ℕ)) (out : List ℕ) (at : ℕ) → lines ≡ []
    → stopped w lines out at None ≡ answer_lines watch w lines out at
unfolding answer_lines
stops_empty watch w lines out at e = rw e

-- a text put in at a place with room for it
put_front : (out text : List ℕ) (at : ℕ) → at + length text ≤ length out → take (at + length text) (put_in text at out) ≡ take at out ++ text
put_front out text at h = take-paste out at text (length text) (omega arith) (omega arith) ∙ ap (λ (t : List ℕ). take at out ++ t) (take-length text)

-- a line is read, and its command is run
as_line : (w : Work) (line : List ℕ) (o : LineOutcome) (command : Option Command) → o ≡ run_command w.session w.memory w.owners w.holders command → command ≡ command_of line
    → o ≡ run_line w.session w.memory w.owners w.holders line
unfolding run_line
as_line w line o command d e = d ∙ ap (run_command w.session w.memory w.owners w.holders) e

abbrev pub work_left : LineOutcome → ℕ → Work
work_left o answered = work o.session o.memory o.owners o.holders answered

-- a line is answered: `o` is what it left, and `out₁` up to `at₁` the output with its answer
module _ (watch : Bool) (w : Work) (line : List ℕ) (lines : List (List ℕ)) (out : List ℕ) (at : ℕ) (o : LineOutcome) (out₁ : List ℕ) (at₁ : ℕ)
    (room : can_answer (length out) at w.answered ≡ true)
    (did : o ≡ run_line w.session w.memory w.owners w.holders line)
    (put : out₁ ≡ answer_put (w.answered + 1) o.answer out at) (ends : at₁ ≡ answer_end (w.answered + 1) o.answer (length out) at) (fits : at₁ ≤ at + answer_room) where
  next_work : after_line w line ≡ work_left o (w.answered + 1)
  unfolding after_line
  next_work = rw (← did)

  next_text : text_of w line ≡ answer_line (w.answered + 1) o.answer
  unfolding text_of
  next_text = rw (← did)

  -- the event goes unseen, or there is none
  answers_on : is_some (seen_of watch o.answer o.made) ≡ false
      → answer_lines watch w (line ∷ lines) out at ≡ answer_lines watch (work_left o (w.answered + 1)) lines out₁ at₁
  unfolding answer_lines
  answers_on e = rw (room, ← did, e, put, ends, next_work)

  answers_stop : is_some (seen_of watch o.answer o.made) ≡ true
      → stopped (work_left o (w.answered + 1)) lines out₁ at₁ (seen_of watch o.answer o.made) ≡ answer_lines watch w (line ∷ lines) out at
  unfolding answer_lines
  answers_stop e = rw (room, ← did, e, put, ends, next_work)

  texts_on : take at₁ out₁ ++ texts_of (work_left o (w.answered + 1)) lines ≡ take at out ++ texts_of w (line ∷ lines)
  texts_on =
      let text = answer_line (w.answered + 1) o.answer in
      let low : at + answer_room ≤ length out = leb-true (at + answer_room) (length out) (can_room (length out) at w.answered room) in
      let lr : leb (at + line_room) (length out) ≡ true = le-leb (at + line_room) (length out) (omega arith) in
      let p : out₁ ≡ put_in text at out = put ∙ rw lr in
      let q : at₁ ≡ at + length text = ends ∙ rw lr in
      let h : at + length text ≤ length out = omega arith in
      let front : take at₁ out₁ ≡ take at out ++ text = rw (q, p) (put_front out text at h) in
      rw (front, next_text, next_work, append_assoc)

-- Where the answering stands: what is left from here gives what the whole gives, and the line's number has its digits.
pub record Stands (watch : Bool) (start : Work) (input first : List ℕ) (at : ℕ) (w : Work) (next : ℕ) (out : List ℕ) (to : ℕ) (line : Option LineNumber) : Type 0 where
  pub outcome : answer_lines watch w (lines_in (drop next input)) out to ≡ answer_lines watch start (lines_in input) first at
  pub text : take to out ++ texts_of w (lines_in (drop next input)) ≡ take at first ++ texts_of start (lines_in input)
  pub left : unfinished (drop next input) ≡ unfinished input
  pub within : next ≤ length input
  pub digits : line ≡ line_number w.answered
  pub begun : next ≡ 0 → can_answer (length out) to w.answered ≡ can_answer (length first) at start.answered

pub stands_first : (watch : Bool) (start : Work) (input first : List ℕ) (at : ℕ) (line : Option LineNumber) → line ≡ line_number start.answered
    → Stands watch start input first at start 0 first at line
stands_first watch start input first at line digits = record { outcome = refl; text = refl; left = refl; within = omega arith; digits = digits; begun = λ e. refl }

-- What is known when one more line was answered: it goes on, or it ends there for the line's event.
pub record Further (watch : Bool) (start : Work) (input first : List ℕ) (at : ℕ) (o : LineOutcome) (answered next : ℕ) (out : List ℕ) (to : ℕ)
    (line : Option LineNumber) : Type 0 where
  pub goes_on : is_some (seen_of watch o.answer o.made) ≡ false → Stands watch start input first at (work_left o answered) next out to line
  pub ends : (event : Option Event) → event ≡ seen_of watch o.answer o.made → is_some event ≡ true
      → stopped (work_left o answered) (lines_in (drop next input)) out to event ≡ answer_lines watch start (lines_in input) first at
  pub text : take to out ++ texts_of (work_left o answered) (lines_in (drop next input)) ≡ take at first ++ texts_of start (lines_in input)
  pub left : unfinished (drop next input) ≡ unfinished input
  pub within : next ≤ length input

-- one more line
module _ (watch : Bool) (start : Work) (input first : List ℕ) (at : ℕ) (w : Work) (next : ℕ) (out : List ℕ) (to : ℕ) (line : Option LineNumber)
    (stands : Stands watch start input first at w next out to line) (room : can_answer (length out) to w.answered ≡ true)
    (n : ℕ) (found : n ≡ length (first_line (drop next input))) (more : n + 1 ≤ length (drop next input))
    (command : Option Command) (reads : command ≡ command_of (handed (first_line (drop next input))))
    (o : LineOutcome) (runs : o ≡ run_command w.session w.memory w.owners w.holders command)
    (line₁ : Option LineNumber) (counted : line₁ ≡ counted_on line (w.answered + 1)) (out₁ : List ℕ) (to₁ : ℕ)
    (put : out₁ ≡ line_put (digits_of (w.answered + 1) line₁) o.answer out to) (ends : to₁ ≡ line_end (digits_of (w.answered + 1) line₁) o.answer (length out) to)
    (fits : to₁ ≤ to + line_room) where
  abbrev this : List ℕ
  this = handed (first_line (drop next input))

  rest : drop (n + 1) (drop next input) ≡ drop (next + (n + 1)) input
  rest = drop-drop (n + 1) next input

  did : o ≡ run_line w.session w.memory w.owners w.holders this
  did = as_line w this o command runs reads

  the_lines : lines_in (drop next input) ≡ this ∷ lines_in (drop (next + (n + 1)) input)
  the_lines = next_line (drop next input) n found more ∙ ap (λ (l : List ℕ). this ∷ lines_in l) rest

  digits₁ : line₁ ≡ line_number (w.answered + 1)
  digits₁ = counted ∙ ap (λ (l : Option LineNumber). counted_on l (w.answered + 1)) stands.digits ∙ counts_on w.answered

  put₁ : out₁ ≡ answer_put (w.answered + 1) o.answer out to
  put₁ = put ∙ ap (λ (l : Option LineNumber). line_put (digits_of (w.answered + 1) l) o.answer out to) digits₁ ∙ line_put_lem (w.answered + 1) o.answer out to

  ends₁ : to₁ ≡ answer_end (w.answered + 1) o.answer (length out) to
  ends₁ = ends ∙ ap (λ (l : Option LineNumber). line_end (digits_of (w.answered + 1) l) o.answer (length out) to) digits₁ ∙ line_end_lem (w.answered + 1) o.answer (length out) to

  fits₁ : to₁ ≤ to + answer_room
  fits₁ = omega arith

  on_text : take to₁ out₁ ++ texts_of (work_left o (w.answered + 1)) (lines_in (drop (next + (n + 1)) input)) ≡ take at first ++ texts_of start (lines_in input)
  on_text =
      texts_on watch w this (lines_in (drop (next + (n + 1)) input)) out to o out₁ to₁ room did put₁ ends₁ fits₁
      ∙ ap (λ (l : List (List ℕ)). take to out ++ texts_of w l) (sym the_lines)
      ∙ stands.text

  on_left : unfinished (drop (next + (n + 1)) input) ≡ unfinished input
  on_left = sym (ap unfinished rest) ∙ next_left (drop next input) n found more ∙ stands.left

  on_within : next + (n + 1) ≤ length input
  on_within = let w = stands.within in omega (arith, length-drop next input)

  pub further : Further watch start input first at o (w.answered + 1) (next + (n + 1)) out₁ to₁ line₁
  further =
      record {
        goes_on = λ e. record {
          outcome =
              sym (answers_on watch w this (lines_in (drop (next + (n + 1)) input)) out to o out₁ to₁ room did put₁ ends₁ fits₁ e)
              ∙ ap (λ (l : List (List ℕ)). answer_lines watch w l out to) (sym the_lines)
              ∙ stands.outcome;
          text = on_text;
          left = on_left;
          within = on_within;
          digits = digits₁;
          begun = λ e. absurd (omega (arith, e));
        };
        ends = λ event is e.
            ap (λ (v : Option Event). stopped (work_left o (w.answered + 1)) (lines_in (drop (next + (n + 1)) input)) out₁ to₁ v) is
            ∙ answers_stop watch w this (lines_in (drop (next + (n + 1)) input)) out to o out₁ to₁ room did put₁ ends₁ fits₁ (sym (ap (λ (v : Option Event). is_some v) is) ∙ e)
            ∙ ap (λ (l : List (List ℕ)). answer_lines watch w l out to) (sym the_lines)
            ∙ stands.outcome;
        text = on_text;
        left = on_left;
        within = on_within;
      }

-- the same, where the number of lines answered is known otherwise
pub further_to : (watch : Bool) (start : Work) (input first : List ℕ) (at : ℕ) (w : Work) (next : ℕ) (out : List ℕ) (to : ℕ) (line : Option LineNumber)
    → Stands watch start input first at w next out to line → can_answer (length out) to w.answered ≡ true
    → (n : ℕ) → n ≡ length (first_line (drop next input)) → n + 1 ≤ length (drop next input)
    → (command : Option Command) → command ≡ command_of (handed (first_line (drop next input)))
    → (o : LineOutcome) → o ≡ run_command w.session w.memory w.owners w.holders command
    → (count : ℕ) → w.answered + 1 ≡ count
    → (line₁ : Option LineNumber) → line₁ ≡ counted_on line count → (out₁ : List ℕ) (to₁ : ℕ)
    → out₁ ≡ line_put (digits_of count line₁) o.answer out to → to₁ ≡ line_end (digits_of count line₁) o.answer (length out) to → to₁ ≤ to + line_room
    → Further watch start input first at o count (next + (n + 1)) out₁ to₁ line₁
further_to watch start input first at w next out to line stands room n found more command reads o runs count counts line₁ counted out₁ to₁ put ends fits =
    subst
    (λ (k : ℕ). line₁ ≡ counted_on line k → out₁ ≡ line_put (digits_of k line₁) o.answer out to → to₁ ≡ line_end (digits_of k line₁) o.answer (length out) to
    → Further watch start input first at o k (next + (n + 1)) out₁ to₁ line₁)
    counts
    (λ c p e. further watch start input first at w next out to line stands room n found more command reads o runs line₁ c out₁ to₁ p e fits)
    counted put ends

-- where nothing was answered though a line could be, there is none
pub none_yet : (watch : Bool) (start : Work) (input first : List ℕ) (at : ℕ) (w : Work) (next : ℕ) (out : List ℕ) (to : ℕ) (line : Option LineNumber)
    → Stands watch start input first at w next out to line → can_answer (length out) to w.answered ≡ false → next ≡ 0 → can_answer (length first) at start.answered ≡ true → ⊥
none_yet watch start input first at w next out to line stands stops e can = true≢false (sym can ∙ sym (stands.begun e) ∙ stops)
