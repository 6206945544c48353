-- RULES 4 and 6: the values of each answer; its number is 0, and a refusal's is the refusal's (Refusals.antt).
use Rattle.std.specs.Prelude.{ℕ, List, [], ◌∷◌, Result, Ok, Err}
use Rattle.rules.specs.declared.answers.Answer.{Answer}
use Rattle.rules.specs.declared.answers.Answer.TheVariants.{Ready, Taken, Moved, Waits, Done, Poked, Word}
use Rattle.rules.specs.declared.answers.Delivered.{Delivered}
use Rattle.rules.specs.declared.answers.Delivered.TheVariants.{Load, Ll, Store, Sc}
use Rattle.rules.specs.declared.refusals.Refusal.{Refusal}

-- RULES 4.18: "A load and an ll answer the word that they read. A store answers no value."; an sc's is 0 or 1 (RULES 4.19)
abbrev pub values_delivered : Delivered → List ℕ
values_delivered (Load v) = v ∷ []
values_delivered (Ll v) = v ∷ []
values_delivered Store = []
values_delivered (Sc v) = v ∷ []

-- RULES 6.2: "A refusal returns its number and no value."
-- RULES 4.34: "A show answers the word at an address"
abbrev pub values_of : Result Answer Refusal → List ℕ
values_of (Err refusal) = []
values_of (Ok Ready) = []
values_of (Ok Taken) = []
values_of (Ok Moved) = []
values_of (Ok Waits) = []
values_of (Ok (Done d)) = values_delivered d
values_of (Ok Poked) = []
values_of (Ok (Word v)) = v ∷ []
