-- A text that is copied in at its place is put there.
-- Assumes nothing.
use mathlib.Core.Path.{◌≡◌, ap, ◌∙◌}
use mathlib.Core.List.{List, ◌++◌}
use Prim.Native.Nat.{ℕ, ◌+◌, ◌-◌, ◌≤◌}
use native.Mathlib.Omega.{arith}
use lib.ListN.{length, take, drop, length-take}
use lib.Seq.{paste, take-take}
use borrow.Rule.Slice.PartMut.{put_mid}
use Rattle.std.proofs.lemmas.Slice.{put_mid-paste}
use Rattle.script.specs.Puts.{put_count, put_text}

pub put_is : (text out now : List ℕ) (at count : ℕ) → now ≡ take count text → count ≡ put_count text out at → at ≤ length out
    → put_mid at (at + count - at) out now ≡ put_text text out at
unfolding put_text
put_is text out now at count e n within =
    put_mid-paste at (at + count - at) out now (take count text) count e (omega arith) (rw length-take (omega arith))
    ∙ ap (λ l. take at out ++ l ++ drop (at + count) out) (take-take count count text (omega arith))
    ∙ ap (paste out at text) n
