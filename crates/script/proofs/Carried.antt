-- What answering lines makes of what is carried, piece after piece.
-- Assumes nothing.
use Rattle.std.specs.Prelude.{Option, Some, None, is_some, option_and_then}
use Rattle.std.proofs.lemmas.List.{append_cancel_right}
use Rattle.std.proofs.Common.{if◌then◌else◌}
use mathlib.Core.Path.{◌≡◌, refl, ap, ◌∙◌, sym, subst}
use mathlib.Core.Bool.{Bool, true, false, true≢false}
use mathlib.Core.List.{List, [], ◌∷◌, ◌++◌, append_assoc, append-nil}
use Prim.Native.Nat.{ℕ, ◌+◌, ◌-◌, ◌≤◌, ◌<◌}
use native.Mathlib.Omega.{arith}
use lib.ListN.{length, take, drop, length-drop}
use lib.Seq.{drop-drop}
use Rattle.std.proofs.lemmas.List.{take_rest, drop_all}
use lib.Dec.{leb, ltb}
use borrow.Author.Tests.{ltb-true, lt-ltb}
use Rattle.rules.proofs.Bools.{and₂}
use Rattle.archive.specs.declared.writer.Writer.{Writer}
use Rattle.script.specs.declared.answering.Event.{Event}
use Rattle.script.specs.Lines.{unfinished}
use Rattle.script.specs.Output.{Work, after_line, after_lines, texts_of, last_number, numbered}
use Rattle.script.specs.Answering.{answer_room, can_answer, lines_in, event_in, events_of, Stopped, stopped, answer_in, end_in, answer_lines}
use Rattle.script.specs.Archiving.{listed, writer_in, whole_in, Follows, StaysWhole}
use Rattle.script.specs.declared.archive_file.Archives.{Archives}
use Rattle.script.specs.Sending.{Sends}
use Rattle.script.specs.Serving.{State, state, Answered, AnsweredSome}
use Rattle.script.proofs.Outputs.{texts_append, answered_after}
use Rattle.script.proofs.Pieces.{no_whole}
use Rattle.script.proofs.Joining.{some_then, some_none, all_numbered}

-- which lines a stop answered
record Front (watch : Bool) (w : Work) (lines : List (List ℕ)) (s : Stopped) : Type 0 where
  front : List (List ℕ)
  in_order : lines ≡ front ++ s.lines
  few : length front ≤ last_number - w.answered
  work : s.work ≡ after_lines w front
  watched : watch ≡ true → events_of w front ≡ listed s.event
  unwatched : watch ≡ false → s.event ≡ None

no_front : (watch : Bool) (w : Work) (lines : List (List ℕ)) (out : List ℕ) (at : ℕ) → Front watch w lines (stopped w lines out at None)
no_front watch w lines out at = record { front = []; in_order = refl; few = omega arith; work = refl; watched = λ _. refl; unwatched = λ _. refl }

answered_one : (w : Work) (line : List ℕ) → (after_line w line).answered ≡ w.answered + 1
unfolding after_line
answered_one w line = refl

has_number : (lent at answered : ℕ) → can_answer lent at answered ≡ true → answered < last_number
has_number lent at answered e = ltb-true answered last_number (and₂ (leb (at + answer_room) lent) (ltb answered last_number) e).1

seen_some : (watch : Bool) (w : Work) (line : List ℕ) → is_some (event_in watch w line) ≡ true → watch ≡ true
seen_some true w line e = refl
seen_some false w line e = absurd (cc)

seen_alone : (watch : Bool) (w : Work) (line : List ℕ) → watch ≡ true → events_of w (line ∷ []) ≡ listed (event_in watch w line)
seen_alone watch w line t = append-nil (listed (event_in true w line)) ∙ ap (λ (b : Bool). listed (event_in b w line)) (sym t)

none_of : (o : Option Event) → is_some o ≡ false → o ≡ None
none_of None e = refl
none_of (Some x) e = absurd (true≢false e)

front_of : (watch : Bool) (w : Work) (lines : List (List ℕ)) (out : List ℕ) (at : ℕ) → Front watch w lines (answer_lines watch w lines out at)
unfolding answer_lines
front_of watch w [] out at = no_front watch w [] out at
front_of watch w (line ∷ lines) out at = go (can_answer (length out) at w.answered) refl (is_some (event_in watch w line)) refl (front_of watch (after_line w line) lines (answer_in w line out at) (end_in w line out at))
  where
    go : (c : Bool) → can_answer (length out) at w.answered ≡ c → (e : Bool) → is_some (event_in watch w line) ≡ e
        → Front watch (after_line w line) lines (answer_lines watch (after_line w line) lines (answer_in w line out at) (end_in w line out at))
        → Front watch w (line ∷ lines)
        (if c
        then
        (if e
        then stopped (after_line w line) lines (answer_in w line out at) (end_in w line out at) (event_in watch w line)
        else answer_lines watch (after_line w line) lines (answer_in w line out at) (end_in w line out at))
        else stopped w (line ∷ lines) out at None)
    go false can e seen rest = no_front watch w (line ∷ lines) out at
    go true can true seen rest =
        let h : w.answered < last_number = has_number (length out) at w.answered can in
        record { front = line ∷ []; in_order = refl; few = omega (arith, h); work = refl; watched = λ t. seen_alone watch w line t; unwatched = λ f. absurd (true≢false (sym (seen_some watch w line seen) ∙ f)) }
    go true can false seen rest =
        let h : w.answered < last_number = has_number (length out) at w.answered can in
        let n = answered_one w line in
        let f = rest.few in
        record {
          front = line ∷ rest.front;
          in_order = ap (λ (l : List (List ℕ)). line ∷ l) rest.in_order;
          few = omega (arith, h, n, f);
          work = rest.work;
          watched = λ t. ap (λ (o : Option Event). listed o ++ events_of (after_line w line) rest.front) (ap (λ (b : Bool). event_in b w line) (sym t) ∙ none_of (event_in watch w line) seen) ∙ rest.watched t;
          unwatched = rest.unwatched;
        }

-- no run has an archive where none is kept
follows_front : (watch : Bool) (w : Work) (lines : List (List ℕ)) (s : Stopped) (front : Front watch w lines s) (before after : Option Writer) → (watch ≡ false → before ≡ None)
    → Follows before (listed s.event) after → Follows before (events_of w front.front) after
follows_front true w lines s front before after none f = let P : List Event → Type 0 = λ e. Follows before e after in subst P (sym (front.watched refl)) f
follows_front false w lines s front before after none f = go after nothing
  where
    nothing : Follows None [] after
    nothing =
        let e : listed s.event ≡ [] = ap listed (front.unwatched refl) in
        let P : Option Writer → Type 0 = λ o. Follows o [] after in
        let Q : List Event → Type 0 = λ l. Follows before l after in
        subst P (none refl) (subst Q e f)

    go : (o : Option Writer) → Follows None [] o → Follows before (events_of w front.front) o
    go None h = tt
    go (Some x) h = absurd (cc)

-- nor are its archives whole
whole_front : (watch : Bool) (w : Work) (lines : List (List ℕ)) (s : Stopped) (front : Front watch w lines s) (t t₁ : Bool) (before after : Option Writer) → (watch ≡ false → t ≡ false)
    → StaysWhole t before (listed s.event) t₁ after → StaysWhole t before (events_of w front.front) t₁ after
whole_front true w lines s front t t₁ before after none f = let P : List Event → Type 0 = λ e. StaysWhole t before e t₁ after in subst P (sym (front.watched refl)) f
whole_front false w lines s front t t₁ before after none f = λ e. absurd (true≢false (sym (f e).0 ∙ none refl))

pub none_whole : (archives : Option Archives) → is_some archives ≡ false → whole_in archives ≡ false
none_whole None e = refl
none_whole (Some a) e = absurd (true≢false e)

pub no_writer : (archives : Option Archives) → is_some archives ≡ false → option_and_then writer_in archives ≡ None
no_writer None e = refl
no_writer (Some a) e = absurd (true≢false e)

-- as the code tells
pub answered_some : (watch : Bool) (w w₁ : Work) (lines left : List (List ℕ)) (out : List ℕ) (at : ℕ) (out₁ : List ℕ) (at₁ : ℕ) (event : Option Event)
    → stopped w₁ left out₁ at₁ event ≡ answer_lines watch w lines out at
    → take at₁ out₁ ++ texts_of w₁ left ≡ take at out ++ texts_of w lines
    → (written written₁ : Option (List ℕ)) (stood : List ℕ) → Sends written stood written₁ (take at out) []
    → (before after : Option Writer) → (watch ≡ false → before ≡ None) → Follows before (listed event) after
    → (t t₁ : Bool) → (watch ≡ false → t ≡ false) → StaysWhole t before (listed event) t₁ after
    → AnsweredSome (state w written stood before t) lines (state w₁ written₁ (take at₁ out₁) after t₁) left
answered_some watch w w₁ lines left out at out₁ at₁ event outcome text written written₁ stood sends before after none follows t t₁ none_whole stays =
    record {
      front = f.front;
      in_order = f.in_order;
      numbered = f.few;
      answered = record {
        work = f.work;
        text = (sends.0, sends.1, sent);
        records = follows_front watch w lines (stopped w₁ left out₁ at₁ event) f before after none follows;
        whole = whole_front watch w lines (stopped w₁ left out₁ at₁ event) f t t₁ before after none_whole stays;
      };
    }
  where
    f : Front watch w lines (stopped w₁ left out₁ at₁ event)
    f = let P : Stopped → Type 0 = Front watch w lines in subst P (sym outcome) (front_of watch w lines out at)

    put : take at₁ out₁ ≡ take at out ++ texts_of w f.front
    put =
        append_cancel_right (take at₁ out₁) (take at out ++ texts_of w f.front) (texts_of w₁ left)
        (text
        ∙ ap (λ (l : List (List ℕ)). take at out ++ texts_of w l) f.in_order
        ∙ ap (λ (l : List ℕ). take at out ++ l) (texts_append w f.front left)
        ∙ sym (append_assoc (take at out) (texts_of w f.front) (texts_of (after_lines w f.front) left))
        ∙ ap (λ (v : Work). (take at out ++ texts_of w f.front) ++ texts_of v left) (sym f.work))

    sent : sends.0 ++ take at₁ out₁ ≡ stood ++ texts_of w f.front
    sent =
        ap (λ (l : List ℕ). sends.0 ++ l) put
        ∙ sym (append_assoc sends.0 (take at out) (texts_of w f.front))
        ∙ ap (λ (l : List ℕ). l ++ texts_of w f.front) (sends.2 ∙ append-nil stood)

-- How far the lines of a piece are answered: up to a place, and the others are left.
pub record Came (x : State) (bytes : List ℕ) (from : ℕ) (y : State) : Type 0 where
  pub within : from ≤ length bytes
  pub some : AnsweredSome x (lines_in bytes) y (lines_in (drop from bytes))
  pub left : unfinished (drop from bytes) ≡ unfinished bytes

pub came_none : (x : State) (bytes : List ℕ) → Came x bytes 0 x
came_none x bytes = record { within = omega arith; some = some_none x (lines_in bytes); left = refl }

-- from a place on, as a slice has it
module _ (x y z : State) (bytes : List ℕ) (from count : ℕ) (came : Came x bytes from y) where
  abbrev rest : List ℕ
  rest = take (length bytes - from) (drop from bytes)

  pub came_on : count ≤ length rest → AnsweredSome y (lines_in rest) z (lines_in (drop count rest)) → unfinished (drop count rest) ≡ unfinished rest → Came x bytes (from + count) z
  came_on few some left =
      let all : rest ≡ drop from bytes = take_rest bytes from in
      let on : drop count rest ≡ drop (from + count) bytes = ap (drop count) all ∙ drop-drop count from bytes in
      let more : AnsweredSome y (lines_in (drop from bytes)) z (lines_in (drop (from + count) bytes))
      = (let P : List ℕ → Type 0 = λ l. AnsweredSome y (lines_in l) z (lines_in (drop (from + count) bytes)) in
      let Q : List ℕ → Type 0 = λ l. AnsweredSome y (lines_in rest) z (lines_in l) in subst P all (subst Q on some)) in
      let w = came.within in
      let n : length rest ≡ length (drop from bytes) = ap length all in
      record {
        within = omega (arith, few, n, w, length-drop from bytes);
        some = some_then x y z (lines_in bytes) (lines_in (drop from bytes)) (lines_in (drop (from + count) bytes)) came.some more;
        left = ap unfinished (sym on) ∙ left ∙ ap unfinished all ∙ came.left;
      }

  -- nothing more is answered
  pub came_here : count ≡ 0 → count ≤ length rest → AnsweredSome y (lines_in rest) z (lines_in (drop count rest)) → unfinished (drop count rest) ≡ unfinished rest → Came x bytes from z
  came_here none few some left =
      let n : from + count ≡ from = omega arith in let P : ℕ → Type 0 = λ k. Came x bytes k z in subst P n (came_on few some left)

  pub none_here : count ≡ 0 → AnsweredSome y (lines_in rest) z (lines_in (drop count rest)) → (count ≡ 0 → ltb y.work.answered last_number ≡ true → lines_in rest ≡ []) → ltb z.work.answered last_number ≡ true
      → lines_in (drop from bytes) ≡ []
  none_here zero some none e =
      let more : z.work.answered ≡ y.work.answered + length some.front = ap (λ (w : Work). w.answered) some.answered.work ∙ answered_after y.work some.front in
      let h : z.work.answered < last_number = ltb-true z.work.answered last_number e in
      ap lines_in (sym (take_rest bytes from)) ∙ none zero (lt-ltb y.work.answered last_number (omega (arith, more, h)))

-- all that have a number are answered
module _ (x y : State) (bytes : List ℕ) (from : ℕ) (came : Came x bytes from y) (none : ltb y.work.answered last_number ≡ true → lines_in (drop from bytes) ≡ []) where
  pub came_all : Answered x (numbered x.work (lines_in bytes)) y
  came_all = all_numbered x y (lines_in bytes) (lines_in (drop from bytes)) came.some none

  pub left_all : ltb y.work.answered last_number ≡ true → drop from bytes ≡ unfinished bytes
  left_all e = no_whole (drop from bytes) (none e) ∙ came.left

-- at the end of the bytes there is no line

pub none_after : (bytes : List ℕ) (from : ℕ) → length bytes ≤ from → lines_in (drop from bytes) ≡ []
none_after bytes from h = ap lines_in (drop_all from bytes h)
