-- A line's first 81 bytes decide what it is.
-- Assumes nothing.
use Rattle.std.specs.Prelude.{None}
use mathlib.Core.Path.{◌≡◌, refl, ap, ◌∙◌, sym}
use mathlib.Core.Bool.{Bool, true, false}
use mathlib.Core.List.{List}
use Prim.Native.Nat.{ℕ, ◌<◌}
use native.Mathlib.Omega.{arith}
use lib.ListN.{length, take}
use lib.Seq.{take_all, length-take-le}
use lib.Dec.{ltb}
use borrow.Author.Tests.{lt-ltb, ltb-true, ltb-false}
use Rattle.commands.specs.Grammar.{command_of}
use Rattle.commands.specs.Effect.{run_line, run_command}
use Rattle.commands.specs.Promises.{FirstBytesDecide}

-- a line of more than 80 bytes
pub long_line : (line : List ℕ) → 80 < length line → command_of line ≡ None
unfolding command_of
long_line line l = rw (lt-ltb 80 (length line) l)

pub first_bytes : (line : List ℕ) → command_of (take 81 line) ≡ command_of line
first_bytes line = go (ltb 80 (length line)) refl
  where
    go : (t : Bool) → ltb 80 (length line) ≡ t → command_of (take 81 line) ≡ command_of line
    go true e =
        let l = ltb-true 80 (length line) e in
        let n : length (take 81 line) ≡ 81 = length-take-le 81 line (omega (arith, l)) in
        long_line (take 81 line) (omega (arith, n)) ∙ sym (long_line line l)
    go false e = let l = ltb-false 80 (length line) e in ap command_of (take_all 81 line (omega (arith, l)))

pub first_bytes_decide : FirstBytesDecide
unfolding run_line
first_bytes_decide session memory owners holders line = ap (run_command session memory owners holders) (first_bytes line)
