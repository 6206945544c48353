-- Bytes: what they begin with, what stands before and after the first byte of a kind, and bytes put in at a place.
use Rattle.std.specs.Prelude.{ℕ, Bool, Option, Some, None, is_some, List, length, take, drop, eqb, position, if◌then◌else◌}
use Rattle.std.specs.List.{before_first, after_first}
use Rattle.std.specs.Str.{bytes_eq, byte}
use Rattle.std.proofs.Math.Seq.{paste}

abbrev pub space : ℕ
space = byte " "

abbrev pub is_space : ℕ → Bool
is_space b = eqb b space

abbrev pub newline : ℕ
newline = byte "\n"

abbrev pub is_newline : ℕ → Bool
is_newline b = eqb b newline

-- the bytes begin with a text
abbrev pub begins : List ℕ → List ℕ → Bool
begins text s = bytes_eq (take (length text) s) text

-- what follows a text that the bytes begin with
abbrev pub after_text : List ℕ → List ℕ → Option (List ℕ)
after_text text s = if begins text s then Some (drop (length text) s) else None

-- the first field: what stands before the first space, or all
abbrev pub first_field : List ℕ → List ℕ
first_field = before_first is_space

-- a space follows it
abbrev pub more_fields : List ℕ → Bool
more_fields s = is_some (position is_space s)

-- what stands after that space
abbrev pub after_field : List ℕ → List ℕ
after_field = after_first is_space

-- the first line: what stands before the first newline, or all
abbrev pub first_line : List ℕ → List ℕ
first_line = before_first is_newline

-- the bytes with a text put in at a place
abbrev pub put_in : List ℕ → ℕ → List ℕ → List ℕ
put_in text at out = paste out at text (length text)
