-- A text is put into a buffer at a place, as far as there is room.
use Rattle.std.specs.Prelude.{List, ℕ, ◌+◌, ◌-◌, min, length}
use Rattle.std.proofs.Math.Seq.{paste}

-- how many bytes of the text have room
abbrev pub put_count : List ℕ → List ℕ → ℕ → ℕ
put_count text out at = min (length text) (length out - at)

unfoldable pub put_text : List ℕ → List ℕ → ℕ → List ℕ
put_text text out at = paste out at text (put_count text out at)

unfoldable pub put_end : List ℕ → List ℕ → ℕ → ℕ
put_end text out at = at + put_count text out at
