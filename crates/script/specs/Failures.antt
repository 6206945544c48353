-- What is said of a call that failed.
use Rattle.std.specs.Prelude.{◌≡◌, ◌⊎◌, ℕ, ℤ, pos, List, ◌++◌, codes}
use Rattle.std.specs.declared.env.FillError.{FillError}
use Rattle.std.specs.declared.env.FillError.TheVariants.{NotPresent, TooLong}

-- the system's number for an argument that could not be copied
abbrev pub system_number : FillError → ℤ
system_number NotPresent = pos 22
system_number TooLong = pos 36

-- RULES 8.28: "REASON is the system's": an error's text, without the number that is put in brackets behind it
abbrev pub ReasonOf : List ℕ → List ℕ → Type 0
ReasonOf text reason = (reason ≡ text) ⊎ ((rest : List ℕ) × (text ≡ reason ++ (codes " (os error " ++ rest)))
