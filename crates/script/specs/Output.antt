-- What the program puts out: an answer line for each line, numbered from 1.
use Rattle.std.specs.Prelude.{◌≡◌, List, [], ◌∷◌, ◌++◌, ℕ, ◌+◌, ◌-◌, take, replicate}
use Rattle.commands.specs.Effect.{LineOutcome, run_line, no_machine}
use Rattle.commands.specs.Texts.{answer_line}
use Rattle.commands.specs.declared.effect.Session.{Session}
use Rattle.script.specs.Lines.{lines_of, whole_lines, unfinished, last_line, handed, handed_on, joined}

-- what the lines run on, and how many were answered
pub record Work : Type 0 where
  pub session : Session
  pub memory : List ℕ
  pub owners : List ℕ
  pub holders : List ℕ
  pub answered : ℕ

abbrev pub work : Session → List ℕ → List ℕ → List ℕ → ℕ → Work
work session memory owners holders answered = record { session = session; memory = memory; owners = owners; holders = holders; answered = answered }

abbrev pub outcome_on : Work → List ℕ → LineOutcome
outcome_on w line = run_line w.session w.memory w.owners w.holders line

-- what a line leaves, and the text of its answer
unfoldable pub after_line : Work → List ℕ → Work
after_line w line =
    work (outcome_on w line).session (outcome_on w line).memory (outcome_on w line).owners (outcome_on w line).holders (w.answered + 1)

unfoldable pub text_of : Work → List ℕ → List ℕ
text_of w line = answer_line (w.answered + 1) (outcome_on w line).answer

abbrev pub after_lines : Work → List (List ℕ) → Work
after_lines w [] = w
after_lines w (line ∷ lines) = after_lines (after_line w line) lines

abbrev pub texts_of : Work → List (List ℕ) → List ℕ
texts_of w [] = []
texts_of w (line ∷ lines) = text_of w line ++ texts_of (after_line w line) lines

-- RULES 8.16: "The last number of a line is 18,446,744,073,709,551,615; the program then stops"
abbrev pub last_number : ℕ
last_number = 18446744073709551615

-- so the lines that are answered are those that have a number
abbrev pub numbered : Work → List (List ℕ) → List (List ℕ)
numbered w lines = take (last_number - w.answered) lines

-- no machine yet, and the lent buffers all 0
abbrev pub fresh : Work
fresh = work no_machine (replicate 16384 0) (replicate 4096 0) (replicate 4096 0) 0

-- the program's whole output for an input
abbrev pub output_of : List ℕ → List ℕ
output_of input = texts_of fresh (numbered fresh (handed_on (lines_of input)))

-- The input comes in pieces: after each, the whole lines are answered.
abbrev pub output_from : Work → List ℕ → List (List ℕ) → List ℕ
output_from w held [] = texts_of w (numbered w (handed_on (last_line held)))
output_from w held (piece ∷ pieces) =
    texts_of w (numbered w (handed_on (whole_lines (held ++ piece))))
    ++ output_from (after_lines w (numbered w (handed_on (whole_lines (held ++ piece))))) (handed (unfinished (held ++ piece))) pieces

-- The output does not depend on how the input came in pieces.
abbrev pub OutputIsWhole : Type 0
OutputIsWhole = (pieces : List (List ℕ)) → output_from fresh [] pieces ≡ output_of (joined pieces)

-- What is handed on of a line decides what it is, so the output is that of the lines themselves.
abbrev pub OutputIsOfLines : Type 0
OutputIsOfLines = (input : List ℕ) → output_of input ≡ texts_of fresh (numbered fresh (lines_of input))
