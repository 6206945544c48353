-- Bytes that begin with a step of one digit and its newline begin with a line that is that step.
-- Assumes nothing.
use Rattle.std.specs.Prelude.{Option, Some, None, option_and_then}
use Rattle.std.proofs.lemmas.Option.{cond_some}
use mathlib.Core.Path.{◌≡◌, refl, sym, ap, ◌∙◌}
use mathlib.Core.Bool.{◌&&◌}
use mathlib.Core.List.{List, [], ◌∷◌, ◌++◌}
use Prim.Native.Nat.{ℕ, ◌+◌, ◌-◌, ◌≤◌}
use native.Mathlib.Omega.{arith}
use lib.ListN.{length, drop}
use borrow.Author.Tests.{eqb-true}
use Rattle.rules.proofs.Bools.{and₂}
use Rattle.commands.specs.Bytes.{space, newline, is_newline}
use Rattle.commands.specs.Decimal.{is_digit}
use Rattle.commands.specs.Words.{after_word, step_word}
use Rattle.commands.specs.Grammar.{command_of, short_core, short_step, line_of}
use Rattle.commands.specs.Promises.{short_line, ShortStep, ShortSteps}
use Rattle.commands.specs.declared.grammar.Command.TheVariants.{Step}
use Rattle.commands.proofs.Digits.{digit_bounds}
use Rattle.commands.proofs.OneLine.{word_is}
use Rattle.commands.proofs.Placed.{one_digit}
use Rattle.commands.proofs.ReadBack.{round_trip}

step_read : (d : ℕ) → d ≤ 9 → command_of (short_line d) ≡ Some (Step d)
unfolding line_of
step_read d l = ap (λ (s : List ℕ). command_of (step_word ++ space ∷ s)) (sym (one_digit d l)) ∙ round_trip (Step d) (omega arith)

-- what follows the word
step_is : (s t : List ℕ) (core : ℕ) → s ≡ step_word ++ space ∷ t → short_core t ≡ Some core → ShortStep s core
step_is s [] core e h = absurd (cc)
step_is s (digit ∷ []) core e h = absurd (cc)
step_is s (digit ∷ end ∷ t) core e h =
    let told = cond_some (is_digit digit && is_newline end) (digit - 48) core h in
    let tests = and₂ (is_digit digit) (is_newline end) told.0 in
    let bounds = digit_bounds digit tests.0 in
    let byte : digit ≡ 48 + core = let c = told.1 in omega arith in
    let whole : s ≡ short_line core ++ newline ∷ t = e ∙ (λ i. step_word ++ space ∷ byte i ∷ eqb-true end newline tests.1 i ∷ t) in
    record {
      one_digit = let c = told.1 in omega arith;
      line = whole ∙ ap (λ (u : List ℕ). short_line core ++ newline ∷ u) (sym (ap (drop (length (short_line core) + 1)) whole));
      command = step_read core (let c = told.1 in omega arith);
    }

pub short_steps : ShortSteps
unfolding short_step
short_steps s core h = go (after_word step_word s) refl h
  where
    go : (t : Option (List ℕ)) → after_word step_word s ≡ t → option_and_then short_core t ≡ Some core → ShortStep s core
    go None e h = absurd (cc)
    go (Some t) e h = step_is s t core (word_is step_word s t e) h
