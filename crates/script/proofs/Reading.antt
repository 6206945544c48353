-- The input is read piece by piece, and its lines are answered: what is known so far.
-- Assumes nothing.
use Rattle.std.specs.Prelude.{Option, Some, None, IfSome}
use Rattle.std.specs.Io.KnownBytes.{Appends, Consumes, IsAtEnd}
use mathlib.Core.Path.{◌≡◌, refl, ap, ◌∙◌, sym, subst}
use mathlib.Core.Bool.{true}
use mathlib.Core.List.{List, [], ◌++◌, map-append, append_assoc, append-nil}
use Prim.Native.Nat.{ℕ, zero, suc, ◌-◌, ◌≤◌}
use native.Mathlib.Omega.{arith}
use lib.ListN.{take, drop}
use lib.Seq.{take-take}
use lib.Dec.{ltb}
use borrow.Author.Tests.{lt-ltb}
use Rattle.std.proofs.lemmas.List.{take-append-drop}
use Rattle.script.specs.Lines.{whole_from, whole_lines, unfinished, last_line, lines_of, handed, handed_on, between}
use Rattle.script.specs.Output.{Work, texts_of, last_number, numbered, fresh, output_of}
use Rattle.script.specs.Answering.{lines_in}
use Rattle.script.specs.Serving.{State, Answered}
use Rattle.script.proofs.Whole.{whole_append}
use Rattle.script.proofs.Pieces.{handed_last, held_no_lines, whole_on, left_on}
use Rattle.script.proofs.Outputs.{numbered_append}
use Rattle.script.proofs.Cutting.{between_is}
use Rattle.script.proofs.Joining.{consumes_then, consumes_none, answered_then, answered_none}

-- Some bytes were read: their whole lines are answered, as far as they have a number, and what is left of them is held.
pub record SoFar (x : State) (unread unread₁ : Option (List ℕ)) (held : List ℕ) (y : State) : Type 0 where
  pub bytes : List ℕ
  pub read : Consumes unread unread₁ bytes
  pub lines : Answered x (numbered x.work (handed_on (whole_lines bytes))) y
  pub left : held ≡ handed (unfinished bytes)

-- there is none among no lines
no_lines : (n : ℕ) → take {A = List ℕ} n [] ≡ []
no_lines zero = refl
no_lines (suc n) = refl

pub so_far_none : (x : State) (unread : Option (List ℕ)) (held : List ℕ) → held ≡ [] → SoFar x unread unread held x
so_far_none x unread held none =
    let P : List (List ℕ) → Type 0 = λ l. Answered x l x in
    record { bytes = []; read = consumes_none unread; lines = subst P (sym (no_lines (last_number - x.work.answered))) (answered_none x); left = none }

-- the front of the buffer, as it was before the read
pub same_front : (held before : ℕ) (new old : List ℕ) → held ≡ before → take before new ≡ take before old → take held new ≡ take before old
same_front held before new old e f = ap (λ (k : ℕ). take k new) e ∙ f

pub held_plain : (x y : State) (unread unread₁ : Option (List ℕ)) (held held₁ : List ℕ) → SoFar x unread unread₁ held y → held₁ ≡ held → lines_in held₁ ≡ []
held_plain x y unread unread₁ held held₁ so_far e = ap lines_in (e ∙ so_far.left) ∙ held_no_lines so_far.bytes

pub nothing_between : (at end : ℕ) (buffer : List ℕ) → end ≡ at → between at end buffer ≡ []
nothing_between at end buffer e = let n : end - at ≡ 0 = omega arith in ap (λ (k : ℕ). take k (drop at buffer)) n

-- a number that is not the last is below it
pub below_last : (n : ℕ) → n ≤ last_number → (n ≡ last_number → ⊥) → ltb n last_number ≡ true
below_last n fits other = lt-ltb n last_number (omega (arith, fits, other))

numbered_none : (w : Work) (lines : List (List ℕ)) → last_number ≤ w.answered → numbered w lines ≡ []
numbered_none w lines full = let n : last_number - w.answered ≡ 0 = omega (arith, full) in ap (λ (k : ℕ). take k lines) n

-- lines that have a number, and then others
numbered_then : (x y z : State) (a b : List (List ℕ)) → Answered x (numbered x.work a) y → Answered y (numbered y.work b) z → Answered x (numbered x.work (a ++ b)) z
numbered_then x y z a b p q =
    let P : List (List ℕ) → Type 0 = λ l. Answered x l z in
    subst P
    (ap (λ (w : Work). numbered x.work a ++ numbered w b) p.work ∙ sym (numbered_append x.work a b))
    (answered_then x y z (numbered x.work a) (numbered y.work b) p q)

-- one more piece, which stands behind what was held
module _ (x y z : State) (unread unread₁ unread₂ : Option (List ℕ)) (held : List ℕ) (so_far : SoFar x unread unread₁ held y)
    (old new : List ℕ) (at end : ℕ) (front : take at new ≡ take at old) (is : take at old ≡ held) (within : at ≤ end) (came : Consumes unread₁ unread₂ (between at end new)) where
  -- what was read of the input, and the piece
  abbrev more : List ℕ
  more = between at end new

  piece_is : take end new ≡ handed (unfinished so_far.bytes) ++ more
  piece_is =
      let n : take at (take end new) ≡ take at new = take-take at end new within in
      sym (take-append-drop at (take end new))
      ∙ ap (λ (l : List ℕ). l ++ drop at (take end new)) (n ∙ front ∙ is ∙ so_far.left)
      ∙ ap (λ (l : List ℕ). handed (unfinished so_far.bytes) ++ l) (sym (between_is new at end within))

  all_read : Consumes unread unread₂ (so_far.bytes ++ more)
  all_read = consumes_then unread unread₁ unread₂ so_far.bytes more so_far.read came

  module _ (answered : Answered y (numbered y.work (lines_in (take end new))) z) where
    all_answered : Answered x (numbered x.work (handed_on (whole_lines (so_far.bytes ++ more)))) z
    all_answered =
        let P : List (List ℕ) → Type 0 = λ l. Answered x (numbered x.work l) z in
        subst P
        (ap (λ (l : List ℕ). handed_on (whole_lines so_far.bytes) ++ lines_in l) piece_is ∙ sym (whole_on so_far.bytes more))
        (numbered_then x y z (handed_on (whole_lines so_far.bytes)) (lines_in (take end new)) so_far.lines answered)

    pub so_far_on : (held₁ : List ℕ) → held₁ ≡ handed (unfinished (take end new)) → SoFar x unread unread₂ held₁ z
    so_far_on held₁ e =
        record {
          bytes = so_far.bytes ++ more;
          read = all_read;
          lines = all_answered;
          left = e ∙ ap (λ (l : List ℕ). handed (unfinished l)) piece_is ∙ sym (left_on so_far.bytes more);
        }

    -- no line can have a number any more, whatever else there is to read
    pub to_the_last : last_number ≤ z.work.answered → IfSome unread (λ input. Answered x (numbered x.work (handed_on (lines_of input))) z)
    to_the_last full = go unread unread₂ all_read
      where
        bytes : List ℕ
        bytes = so_far.bytes ++ more

        whole : List (List ℕ)
        whole = handed_on (whole_lines bytes)

        go : (u v : Option (List ℕ)) → Consumes u v bytes → IfSome u (λ input. Answered x (numbered x.work (handed_on (lines_of input))) z)
        go None v r = tt
        go (Some input) None r = absurd r
        go (Some input) (Some rest) r =
            let others : List (List ℕ) = whole_from (unfinished bytes) rest ++ last_line (unfinished input) in
            let lines : lines_of input ≡ whole_lines bytes ++ others
            = ap (λ (l : List ℕ). whole_lines l ++ last_line (unfinished input)) r
            ∙ ap (λ (l : List (List ℕ)). l ++ last_line (unfinished input)) (whole_append [] bytes rest)
            ∙ append_assoc (whole_lines bytes) (whole_from (unfinished bytes) rest) (last_line (unfinished input)) in
            let none : numbered z.work (handed_on others) ≡ [] = numbered_none z.work (handed_on others) full in
            let P : List (List ℕ) → Type 0 = λ l. Answered x (numbered x.work l) z in
            let Q : List (List ℕ) → Type 0 = λ l. Answered z l z in
            subst P (sym (ap handed_on lines ∙ map-append handed (whole_lines bytes) others))
            (numbered_then x z z whole (handed_on others) all_answered (subst Q (sym none) (answered_none z)))

-- the input is at its end, and what was held is its last line
pub to_the_end : (x y z : State) (unread unread₁ unread₂ : Option (List ℕ)) (before held : List ℕ) → SoFar x unread unread₁ before y → held ≡ before → (none : List ℕ) → none ≡ [] → Consumes unread₁ unread₂ none → IsAtEnd unread₂
    → Answered y (numbered y.work (handed_on (last_line held))) z → IfSome unread (λ input. Answered x (numbered x.work (handed_on (lines_of input))) z)
to_the_end x y z unread unread₁ unread₂ before held so_far same none is came ends answered =
    go unread unread₂ (let P : List ℕ → Type 0 = Consumes unread unread₂ in subst P (ap (λ (l : List ℕ). so_far.bytes ++ l) is ∙ append-nil so_far.bytes) (consumes_then unread unread₁ unread₂ so_far.bytes none so_far.read came)) ends
  where
    bytes : List ℕ
    bytes = so_far.bytes

    last : handed_on (last_line held) ≡ handed_on (last_line (unfinished bytes))
    last = ap (λ (l : List ℕ). handed_on (last_line l)) (same ∙ so_far.left) ∙ handed_last (unfinished bytes)

    go : (u v : Option (List ℕ)) → Consumes u v bytes → IsAtEnd v → IfSome u (λ input. Answered x (numbered x.work (handed_on (lines_of input))) z)
    go None v r e = tt
    go (Some input) None r e = absurd r
    go (Some input) (Some rest) r e =
        let input_is : input ≡ bytes = r ∙ ap (λ (l : List ℕ). bytes ++ l) e ∙ append-nil bytes in
        let P : List (List ℕ) → Type 0 = λ l. Answered x (numbered x.work l) z in
        subst P
        (ap (λ (l : List (List ℕ)). handed_on (whole_lines bytes) ++ l) last
        ∙ sym (map-append handed (whole_lines bytes) (last_line (unfinished bytes)))
        ∙ ap (λ (l : List ℕ). handed_on (lines_of l)) (sym input_is))
        (numbered_then x y z (handed_on (whole_lines bytes)) (handed_on (last_line held)) so_far.lines answered)

-- from the first line on, what went to the writer is the program's whole output
pub whole_output : (x z : State) (unread : Option (List ℕ)) → x.work ≡ fresh → x.stands ≡ [] → z.stands ≡ []
    → IfSome unread (λ input. Answered x (numbered x.work (handed_on (lines_of input))) z) → IfSome unread (λ input. Appends x.written z.written (output_of input))
whole_output x z None begins stood stands p = tt
whole_output x z (Some input) begins stood stands p =
    let t = p.text in
    let P : List ℕ → Type 0 = Appends x.written z.written in
    subst P
    (sym (append-nil t.0)
    ∙ ap (λ (l : List ℕ). t.0 ++ l) (sym stands)
    ∙ t.2
    ∙ ap (λ (l : List ℕ). l ++ texts_of x.work (numbered x.work (handed_on (lines_of input)))) stood
    ∙ ap (λ (w : Work). texts_of w (numbered w (handed_on (lines_of input)))) begins)
    t.1
