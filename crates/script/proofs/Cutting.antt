-- The first line of some bytes, and what comes after it.
-- Assumes nothing.
use mathlib.Core.Path.{◌≡◌, refl, ap, sym, ◌∙◌}
use mathlib.Core.Bool.{Bool, true, false, not, cond}
use mathlib.Core.List.{List, [], ◌∷◌, ◌++◌}
use Prim.Native.Nat.{ℕ, suc, ◌+◌, ◌-◌, ◌≤◌, ◌<◌, min}
use native.Mathlib.Omega.{arith}
use lib.ListN.{length, get_or, take, drop, length-take, length-drop}
use lib.Seq.{paste, take_all, take-paste, take-take}
use lib.Dec.{leb}
use borrow.Author.Tests.{ne_eqb, leb-true, leb-false, lt-ltb}
use Rattle.std.specs.Prelude.{Option, Some, is_some, position}
use Rattle.std.specs.List.{position_or_len}
use Rattle.std.proofs.lemmas.Bool.{false_from_ne_true}
use Rattle.std.proofs.lemmas.List.{drop-take}
use Rattle.std.proofs.lemmas.List.Folds.{length-prefix_len}
use Rattle.std.proofs.lemmas.List.Sums.{position_or_len_is}
use Rattle.memchr.specs.Find.{Nowhere, NoneBefore, Passes, is_byte}
use Rattle.commands.specs.Bytes.{newline, is_newline, first_line}
use Rattle.commands.specs.Grammar.{command_of, short_step}
use Rattle.commands.specs.Promises.{short_line, ShortStep}
use Rattle.commands.specs.declared.grammar.Command.{Command}
use Rattle.commands.specs.declared.grammar.Command.TheVariants.{Step}
use Rattle.commands.proofs.Fields.{Without, before_then, splits}
use Rattle.commands.proofs.ShortSteps.{short_steps}
use Rattle.script.proofs.Whole.{whole_append, left_append, Plain, plain_whole, plain_left}
use Rattle.script.specs.Lines.{whole_lines, unfinished, handed, handed_on, between}
use Rattle.script.specs.Answering.{lines_in}

-- it ends at the first newline
first_place : (bytes : List ℕ) → length (first_line bytes) ≡ position_or_len is_newline bytes
first_place bytes = length-prefix_len (λ b. not (is_newline b)) bytes

plain_first : (bytes : List ℕ) → Plain (first_line bytes)
plain_first [] = tt
plain_first (b ∷ bytes) = go (is_newline b) refl (plain_first bytes)
  where
    go : (t : Bool) → is_newline b ≡ t → Plain (first_line bytes) → Plain (take (cond (not t) (1 + position_or_len is_newline bytes) 0) (b ∷ bytes))
    go true e rest = tt
    go false e rest =
        let n : 1 + position_or_len is_newline bytes ≡ suc (position_or_len is_newline bytes) = omega arith in
        rw n (e, rest)

-- what a search for a newline answers
pub found_none : (bytes : List ℕ) → Nowhere (Passes (is_byte 10) bytes) 0 (length bytes) → length (first_line bytes) ≡ length bytes
found_none bytes none =
    first_place bytes
    ∙ position_or_len_is is_newline bytes (length bytes) 0 (omega arith)
    (λ k low. false_from_ne_true (is_newline (get_or bytes k 0)) (none k (omega arith) low))
    (λ h. absurd (omega arith))

pub found_some : (bytes : List ℕ) (n : ℕ) → NoneBefore (Passes (is_byte 10) bytes) 0 (length bytes) n → Passes (is_byte 10) bytes n
    → (n ≡ length (first_line bytes)) × (n + 1 ≤ length bytes)
found_some bytes n none here =
    let h : n < length bytes = none.high in (
      sym (first_place bytes
          ∙ position_or_len_is is_newline bytes n 0 (omega arith) (λ k low. false_from_ne_true (is_newline (get_or bytes k 0)) (none.before k (omega arith) low)) (λ _. here)),
      omega arith,
    )

take_min : (a b : ℕ) (l : List ℕ) → take a (take b l) ≡ take (min a b) l
take_min a b l = go (leb a b) refl
  where
    go : (t : Bool) → leb a b ≡ t → take a (take b l) ≡ take (min a b) l
    go true e = let h : a ≤ b = leb-true a b e in let m : min a b ≡ a = omega arith in rw (take-take a b l h, m)
    go false e =
        let h : b < a = leb-false a b e in
        let m : min a b ≡ b = omega arith in
        let f : length (take b l) ≤ a = rw length-take (omega arith) in
        rw (take_all a (take b l) f, m)

-- bytes that are no whole line
all_first : (bytes : List ℕ) → length (first_line bytes) ≡ length bytes → bytes ≡ first_line bytes
all_first bytes e = let p = first_place bytes in sym (take_all (position_or_len is_newline bytes) bytes (omega arith))

pub no_line : (bytes : List ℕ) → length (first_line bytes) ≡ length bytes → lines_in bytes ≡ []
no_line bytes e = ap lines_in (all_first bytes e) ∙ ap handed_on (plain_whole [] (first_line bytes) (plain_first bytes))

-- the next line of some bytes: what is handed on of it, and what comes after it
module _ (bytes : List ℕ) (n : ℕ) (found : n ≡ length (first_line bytes)) where
  pub line_handed : (cut : ℕ) → cut ≡ min n 81 → take cut bytes ≡ handed (first_line bytes)
  line_handed cut e =
      let k : cut ≡ min 81 (position_or_len is_newline bytes) = let p = first_place bytes in omega arith in
      rw k (sym (take_min 81 (position_or_len is_newline bytes) bytes))

  module _ (more : n + 1 ≤ length bytes) where
    abbrev rest : List ℕ
    rest = drop (n + 1) bytes

    split : bytes ≡ first_line bytes ++ newline ∷ rest
    split =
        let p = first_place bytes in
        let is : position_or_len is_newline bytes ≡ n = omega arith in
        let there : is_some (position is_newline bytes) ≡ true = rw (lt-ltb (position_or_len is_newline bytes) (length bytes) (omega arith)) in
        splits newline bytes there ∙ ap (λ (k : ℕ). first_line bytes ++ newline ∷ drop (k + 1) bytes) is

    pub next_line : lines_in bytes ≡ handed (first_line bytes) ∷ lines_in rest
    next_line =
        let first = first_line bytes in
        let plain = plain_first bytes in
        let whole : whole_lines (first ++ newline ∷ rest) ≡ first ∷ whole_lines rest
        = whole_append [] first (newline ∷ rest) ∙ rw (plain_whole [] first plain, plain_left [] first plain) in
        ap lines_in split ∙ ap handed_on whole

    pub next_left : unfinished rest ≡ unfinished bytes
    next_left = sym (ap unfinished split ∙ left_append [] (first_line bytes) (newline ∷ rest))

-- what is moved to the front of a buffer is what is handed on
pub kept_handed : (bytes : List ℕ) (from end held : ℕ) → from ≤ end → end ≤ length bytes → held ≡ min (end - from) 81
    → take held (paste bytes 0 (drop from bytes) (from + held - from)) ≡ handed (between from end bytes)
kept_handed bytes from end held low high h =
    let e : from + held - from ≡ held = omega arith in
    let z : 0 + held ≡ held = omega arith in
    let k : held ≡ min 81 (end - from) = omega arith in
    let f : held ≤ length (drop from bytes) = rw length-drop (omega arith) in
    rw e (ap (λ (c : ℕ). take c (paste bytes 0 (drop from bytes) held)) (sym z) ∙ take-paste bytes 0 (drop from bytes) held (omega arith) f
    ∙ ap (λ (c : ℕ). take c (drop from bytes)) k ∙ sym (take_min 81 (end - from) (drop from bytes)))

-- a line that is a step of one digit
module _ (s : List ℕ) (core : ℕ) (is : ShortStep s core) where
  abbrev line : List ℕ
  line = short_line core

  plain_step : Without newline line
  plain_step = rw (ne_eqb (48 + core) newline (λ e. omega (arith, e)))

  pub short_first : first_line s ≡ line
  short_first = ap first_line is.line ∙ before_then newline line (drop (length line + 1) s) plain_step

  pub short_length : 6 ≡ length (first_line s)
  short_length = rw short_first refl

  pub short_ends : 7 ≤ length s
  short_ends = let e = ap length is.line in omega (arith, e, length-drop {A = ℕ})

  pub short_command : ◌≡◌ {A = Option Command} (Some (Step core)) (command_of (handed (first_line s)))
  short_command = rw short_first (sym is.command)

pub short_is : (s : List ℕ) (core : ℕ) → short_step s ≡ Some core
    → (6 ≡ length (first_line s)) × (7 ≤ length s) × ◌≡◌ {A = Option Command} (Some (Step core)) (command_of (handed (first_line s)))
short_is s core e = let is = short_steps s core e in (short_length s core is, short_ends s core is, short_command s core is)

-- in a buffer, from a place on
pub between_is : (bytes : List ℕ) (from end : ℕ) → from ≤ end → between from end bytes ≡ drop from (take end bytes)
between_is bytes from end h =
    let n : from + (end - from) ≡ end = omega arith in
    sym (drop-take from (end - from) bytes) ∙ ap (λ (k : ℕ). drop from (take k bytes)) n
