-- What is handed on does not depend on the pieces.
-- Assumes nothing.
use Rattle.std.proofs.Common.{if◌then◌else◌}
use mathlib.Core.Path.{◌≡◌, refl, ap, sym, ◌∙◌}
use mathlib.Core.Bool.{Bool, true, false}
use mathlib.Core.List.{List, [], ◌∷◌, ◌++◌, map-append, append_assoc, append-nil}
use Prim.Native.Nat.{ℕ, zero, suc, ◌+◌, ◌<◌}
use native.Mathlib.Omega.{arith}
use lib.ListN.{length, take, set}
use lib.Seq.{take-take, length-take-le}
use Rattle.std.proofs.lemmas.List.{take_more_set}
use Rattle.commands.specs.Bytes.{newline, is_newline}
use Rattle.script.proofs.Whole.{by_test, whole_append, left_append, Plain, plain_take, plain_whole, plain_left, left_plain}
use Rattle.script.specs.Lines.{whole_from, whole_lines, left_from, unfinished, last_line, handed, handed_on, cut_from, joined, PiecesDoNotMatter}

-- what is held stands in front of a piece as it would stand in the line
held_whole : (held piece : List ℕ) → Plain held → whole_lines (held ++ piece) ≡ whole_from held piece
held_whole held piece p = whole_append [] held piece ∙ rw (plain_whole [] held p, plain_left [] held p)

held_left : (held piece : List ℕ) → Plain held → unfinished (held ++ piece) ≡ left_from held piece
held_left held piece p = left_append [] held piece ∙ rw (plain_left [] held p)

-- the first bytes of a line decide what is handed on of it
take_front : (n : ℕ) (a b : List ℕ) → take n (take n a ++ b) ≡ take n (a ++ b)
take_front zero a b = refl
take_front (suc n) [] b = refl
take_front (suc n) (x ∷ a) b = ap (λ (l : List ℕ). x ∷ l) (take_front n a b)

handed_append : (a b more : List ℕ) → handed a ≡ handed b → handed (a ++ more) ≡ handed (b ++ more)
handed_append a b more e = sym (take_front 81 a more) ∙ ap (λ (l : List ℕ). take 81 (l ++ more)) e ∙ take_front 81 b more

same_whole : (bytes a b : List ℕ) → handed a ≡ handed b → handed_on (whole_from a bytes) ≡ handed_on (whole_from b bytes)
same_whole [] a b e = refl
same_whole (x ∷ bytes) a b e =
    by_test
    (λ (t : Bool). handed_on (if t then a ∷ whole_from [] bytes else whole_from (a ++ x ∷ []) bytes)
    ≡ handed_on (if t then b ∷ whole_from [] bytes else whole_from (b ++ x ∷ []) bytes))
    (is_newline x)
    (ap (λ (l : List ℕ). l ∷ handed_on (whole_from [] bytes)) e)
    (same_whole bytes (a ++ x ∷ []) (b ++ x ∷ []) (handed_append a b (x ∷ []) e))

same_left : (bytes a b : List ℕ) → handed a ≡ handed b → handed (left_from a bytes) ≡ handed (left_from b bytes)
same_left [] a b e = e
same_left (x ∷ bytes) a b e =
    by_test
    (λ (t : Bool). handed (if t then left_from [] bytes else left_from (a ++ x ∷ []) bytes) ≡ handed (if t then left_from [] bytes else left_from (b ++ x ∷ []) bytes))
    (is_newline x)
    refl
    (same_left bytes (a ++ x ∷ []) (b ++ x ∷ []) (handed_append a b (x ∷ []) e))

handed_twice : (a : List ℕ) → handed (handed a) ≡ handed a
handed_twice a = take-take 81 81 a (omega arith)

-- bytes with no whole line are all unfinished
pub no_whole : (bytes : List ℕ) → handed_on (whole_lines bytes) ≡ [] → bytes ≡ unfinished bytes
no_whole bytes e = left_all [] bytes (none (whole_lines bytes) e)
  where
    none : (lines : List (List ℕ)) → handed_on lines ≡ [] → lines ≡ []
    none [] e = refl
    none (line ∷ lines) e = absurd (cc)

    left_all : (begun bytes : List ℕ) → whole_from begun bytes ≡ [] → begun ++ bytes ≡ left_from begun bytes
    left_all begun [] e = append-nil begun
    left_all begun (b ∷ bytes) e = go (is_newline b) e (left_all (begun ++ b ∷ []) bytes)
      where
        go : (t : Bool) → (if t then begun ∷ whole_from [] bytes else whole_from (begun ++ b ∷ []) bytes) ≡ []
            → (whole_from (begun ++ b ∷ []) bytes ≡ [] → (begun ++ b ∷ []) ++ bytes ≡ left_from (begun ++ b ∷ []) bytes)
            → begun ++ b ∷ bytes ≡ (if t then left_from [] bytes else left_from (begun ++ b ∷ []) bytes)
        go true e more = absurd (cc)
        go false e more = sym (append_assoc begun (b ∷ []) bytes) ∙ more e

-- one more piece, behind what is held of the bytes before it
plain_held : (bytes : List ℕ) → Plain (handed (unfinished bytes))
plain_held bytes = plain_take 81 (unfinished bytes) (left_plain [] bytes tt)

pub held_no_lines : (bytes : List ℕ) → handed_on (whole_lines (handed (unfinished bytes))) ≡ []
held_no_lines bytes = ap handed_on (plain_whole [] (handed (unfinished bytes)) (plain_held bytes))

pub whole_on : (bytes more : List ℕ) → handed_on (whole_lines (bytes ++ more)) ≡ handed_on (whole_lines bytes) ++ handed_on (whole_lines (handed (unfinished bytes) ++ more))
whole_on bytes more =
    let held : List ℕ = handed (unfinished bytes) in
    ap handed_on (whole_append [] bytes more)
    ∙ map-append handed (whole_lines bytes) (whole_from (unfinished bytes) more)
    ∙ ap (λ (l : List (List ℕ)). handed_on (whole_lines bytes) ++ l)
    (same_whole more (unfinished bytes) held (sym (handed_twice (unfinished bytes))) ∙ ap handed_on (sym (held_whole held more (plain_held bytes))))

pub left_on : (bytes more : List ℕ) → handed (unfinished (bytes ++ more)) ≡ handed (unfinished (handed (unfinished bytes) ++ more))
left_on bytes more =
    let held : List ℕ = handed (unfinished bytes) in
    ap handed (left_append [] bytes more)
    ∙ same_left more (unfinished bytes) held (sym (handed_twice (unfinished bytes)))
    ∙ ap handed (sym (held_left held more (plain_held bytes)))

pub handed_last : (a : List ℕ) → handed_on (last_line (handed a)) ≡ handed_on (last_line a)
handed_last [] = refl
handed_last (b ∷ a) = ap (λ (l : List ℕ). l ∷ []) (handed_twice (b ∷ a))

cut_from_lem : (pieces : List (List ℕ)) (begun : List ℕ) → Plain begun
    → cut_from (handed begun) pieces ≡ handed_on (whole_from begun (joined pieces) ++ last_line (left_from begun (joined pieces)))
cut_from_lem [] begun p = handed_last begun
cut_from_lem (piece ∷ pieces) begun p =
    let q : Plain (handed begun) = plain_take 81 begun p in
    let next : List ℕ = left_from begun piece in
    let whole : handed_on (whole_lines (handed begun ++ piece)) ≡ handed_on (whole_from begun piece)
    = ap handed_on (held_whole (handed begun) piece q) ∙ same_whole piece (handed begun) begun (handed_twice begun) in
    let left : handed (unfinished (handed begun ++ piece)) ≡ handed (left_from begun piece)
    = ap handed (held_left (handed begun) piece q) ∙ same_left piece (handed begun) begun (handed_twice begun) in
    let rest = cut_from_lem pieces (left_from begun piece) (left_plain begun piece p) in
    ap (λ (l : List (List ℕ)). l ++ cut_from (handed (unfinished (handed begun ++ piece))) pieces) whole
    ∙ ap (λ (l : List ℕ). handed_on (whole_from begun piece) ++ cut_from l pieces) left
    ∙ ap (λ (l : List (List ℕ)). handed_on (whole_from begun piece) ++ l) rest
    ∙ sym (map-append handed (whole_from begun piece) (whole_from next (joined pieces) ++ last_line (left_from next (joined pieces))))
    ∙ ap handed_on
    (sym (append_assoc (whole_from begun piece) (whole_from next (joined pieces)) (last_line (left_from next (joined pieces))))
    ∙ ap (λ (l : List (List ℕ)). l ++ last_line (left_from next (joined pieces))) (sym (whole_append begun piece (joined pieces)))
    ∙ ap (λ (l : List ℕ). whole_from begun (piece ++ joined pieces) ++ last_line l) (sym (left_append begun piece (joined pieces))))

pub pieces_do_not_matter : PiecesDoNotMatter
pieces_do_not_matter pieces = cut_from_lem pieces [] tt

-- a newline behind what is held makes it a line, if it has any byte
pub last_one : (buffer : List ℕ) (held : ℕ) → held < length buffer → (held ≡ 0 → ⊥) → handed_on (whole_lines (take held buffer)) ≡ []
    → handed_on (whole_lines (take (held + 1) (set buffer held newline))) ≡ handed_on (last_line (take held buffer))
last_one buffer held within some none =
    ap (λ (l : List ℕ). handed_on (whole_lines l)) (take_more_set buffer held newline within)
    ∙ whole_on (take held buffer) (newline ∷ [])
    ∙ ap (λ (l : List (List ℕ)). l ++ handed_on (whole_lines (handed (unfinished (take held buffer)) ++ newline ∷ []))) none
    ∙ one_line (take held buffer) (sym (no_whole (take held buffer) none)) count
  where
    count : length (take held buffer) ≡ 0 → ⊥
    count e = some (sym (length-take-le held buffer (omega (arith, within))) ∙ e)

    one_line : (line : List ℕ) → unfinished line ≡ line → (length line ≡ 0 → ⊥) → handed_on (whole_lines (handed (unfinished line) ++ newline ∷ [])) ≡ handed_on (last_line line)
    one_line [] e n = absurd (n refl)
    one_line (b ∷ line) e n =
        let held : List ℕ = handed (unfinished (b ∷ line)) in
        ap handed_on (held_whole held (newline ∷ []) (plain_held (b ∷ line)))
        ∙ ap (λ (l : List ℕ). l ∷ []) (handed_twice (unfinished (b ∷ line)) ∙ ap handed e)
