-- RULES 8, the script program: how its input is cut into lines.
use Rattle.std.specs.Prelude.{◌≡◌, List, [], ◌∷◌, ◌++◌, map, ℕ, ◌-◌, take, drop, if◌then◌else◌}
use Rattle.commands.specs.Bytes.{is_newline}

-- the lines that a newline ends; of the first of them some bytes came before
abbrev pub whole_from : List ℕ → List ℕ → List (List ℕ)
whole_from begun [] = []
whole_from begun (b ∷ bytes) = if is_newline b then begun ∷ whole_from [] bytes else whole_from (begun ++ b ∷ []) bytes

abbrev pub whole_lines : List ℕ → List (List ℕ)
whole_lines bytes = whole_from [] bytes

-- the bytes after the last newline: a line that is not finished yet
abbrev pub left_from : List ℕ → List ℕ → List ℕ
left_from begun [] = begun
left_from begun (b ∷ bytes) = if is_newline b then left_from [] bytes else left_from (begun ++ b ∷ []) bytes

abbrev pub unfinished : List ℕ → List ℕ
unfinished bytes = left_from [] bytes

-- RULES 8.9: "What stands after the last newline is a line too, unless it is empty."
abbrev pub last_line : List ℕ → List (List ℕ)
last_line [] = []
last_line (b ∷ bytes) = (b ∷ bytes) ∷ []

-- the lines of the whole input
abbrev pub lines_of : List ℕ → List (List ℕ)
lines_of input = whole_lines input ++ last_line (unfinished input)

-- What is handed on of a line: 81 bytes are enough to know that it has more than 80.
abbrev pub handed : List ℕ → List ℕ
handed line = take 81 line

abbrev pub handed_on : List (List ℕ) → List (List ℕ)
handed_on lines = map handed lines

-- The input comes in pieces. What is held of an unfinished line stands in front of the next piece.
abbrev pub cut_from : List ℕ → List (List ℕ) → List (List ℕ)
cut_from held [] = handed_on (last_line held)
cut_from held (piece ∷ pieces) = handed_on (whole_lines (held ++ piece)) ++ cut_from (handed (unfinished (held ++ piece))) pieces

abbrev pub cut_pieces : List (List ℕ) → List (List ℕ)
cut_pieces pieces = cut_from [] pieces

abbrev pub joined : List (List ℕ) → List ℕ
joined [] = []
joined (piece ∷ pieces) = piece ++ joined pieces

-- What is handed on does not depend on how the input came in pieces.
abbrev pub PiecesDoNotMatter : Type 0
PiecesDoNotMatter = (pieces : List (List ℕ)) → cut_pieces pieces ≡ handed_on (lines_of (joined pieces))

-- In a buffer, from one place up to another.
abbrev pub between : ℕ → ℕ → List ℕ → List ℕ
between from end bytes = take (end - from) (drop from bytes)
