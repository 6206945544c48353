-- The output does not depend on the pieces, and is that of the lines themselves.
-- Assumes nothing.
use mathlib.Core.Path.{◌≡◌, refl, ap, sym, ◌∙◌}
use mathlib.Core.Bool.{Bool, true, false}
use mathlib.Core.List.{List, [], ◌∷◌, ◌++◌, append_assoc, append-nil}
use Prim.Native.Nat.{ℕ, ◌+◌, ◌-◌, ◌≤◌, ◌<◌}
use native.Mathlib.Omega.{arith}
use lib.ListN.{length, take, length-take}
use lib.Seq.{take_all}
use lib.Dec.{leb}
use borrow.Author.Tests.{leb-true, leb-false}
use Rattle.std.proofs.lemmas.List.{take-append-le, take-map}
use Rattle.std.proofs.Math.Seq.{take-append-add}
use Rattle.script.proofs.Pieces.{pieces_do_not_matter}
use Rattle.script.specs.Lines.{whole_lines, unfinished, handed, handed_on, lines_of, cut_from}
use Rattle.script.specs.Output.{Work, text_of, texts_of, after_line, after_lines, last_number, numbered, fresh, output_from, OutputIsWhole, OutputIsOfLines}
use Rattle.commands.proofs.Handed.{first_bytes_decide}

pub texts_append : (w : Work) (a b : List (List ℕ)) → texts_of w (a ++ b) ≡ texts_of w a ++ texts_of (after_lines w a) b
texts_append w [] b = refl
texts_append w (line ∷ a) b =
    ap (λ (l : List ℕ). text_of w line ++ l) (texts_append (after_line w line) a b)
    ∙ sym (append_assoc (text_of w line) (texts_of (after_line w line) a) (texts_of (after_lines (after_line w line) a) b))

-- the numbers go on from one lot of lines to the next
pub answered_after : (w : Work) (lines : List (List ℕ)) → (after_lines w lines).answered ≡ w.answered + length lines
unfolding after_line
answered_after w [] = omega arith
answered_after w (line ∷ lines) = let e = answered_after (after_line w line) lines in omega (arith, e)

take_both : (n : ℕ) (a b : List (List ℕ)) → take n (a ++ b) ≡ take n a ++ take (n - length a) b
take_both n a b = go (leb (length a) n) refl
  where
    go : (t : Bool) → leb (length a) n ≡ t → take n (a ++ b) ≡ take n a ++ take (n - length a) b
    go true e =
        let h : length a ≤ n = leb-true (length a) n e in
        let k : length a + (n - length a) ≡ n = omega (arith, h) in
        ap (λ (m : ℕ). take m (a ++ b)) (sym k) ∙ take-append-add a b (n - length a) ∙ ap (λ (l : List (List ℕ)). l ++ take (n - length a) b) (sym (take_all n a h))
    go false e =
        let h : n < length a = leb-false (length a) n e in
        let low : n ≤ length a = omega (arith, h) in
        let z : n - length a ≡ 0 = omega (arith, h) in
        take-append-le n a b low ∙ sym (append-nil (take n a)) ∙ ap (λ (m : ℕ). take n a ++ take m b) (sym z)

pub numbered_append : (w : Work) (a b : List (List ℕ)) → numbered w (a ++ b) ≡ numbered w a ++ numbered (after_lines w (numbered w a)) b
numbered_append w a b =
    let n : ℕ = last_number - w.answered in
    let k : (after_lines w (numbered w a)).answered ≡ w.answered + length (take n a) = answered_after w (take n a) in
    let l = length-take n a in
    let rest : n - length a ≡ last_number - (after_lines w (numbered w a)).answered = omega arith in
    take_both n a b ∙ ap (λ (m : ℕ). take n a ++ take m b) rest

output_cut : (w : Work) (held : List ℕ) (pieces : List (List ℕ)) → output_from w held pieces ≡ texts_of w (numbered w (cut_from held pieces))
output_cut w held [] = refl
output_cut w held (piece ∷ pieces) =
    let lines : List (List ℕ) = handed_on (whole_lines (held ++ piece)) in
    let next : List ℕ = handed (unfinished (held ++ piece)) in
    ap (λ (l : List ℕ). texts_of w (numbered w lines) ++ l) (output_cut (after_lines w (numbered w lines)) next pieces)
    ∙ sym (texts_append w (numbered w lines) (numbered (after_lines w (numbered w lines)) (cut_from next pieces)))
    ∙ ap (texts_of w) (sym (numbered_append w lines (cut_from next pieces)))

pub output_is_whole : OutputIsWhole
output_is_whole pieces = output_cut fresh [] pieces ∙ ap (λ (l : List (List ℕ)). texts_of fresh (numbered fresh l)) (pieces_do_not_matter pieces)

texts_handed : (w : Work) (lines : List (List ℕ)) → texts_of w (handed_on lines) ≡ texts_of w lines
unfolding text_of after_line
texts_handed w [] = refl
texts_handed w (line ∷ lines) =
    rw (first_bytes_decide w.session w.memory w.owners w.holders line) (ap (λ (l : List ℕ). text_of w line ++ l) (texts_handed (after_line w line) lines))

pub output_is_of_lines : OutputIsOfLines
output_is_of_lines input =
    ap (texts_of fresh) (take-map handed last_number (lines_of input)) ∙ texts_handed fresh (take last_number (lines_of input))
