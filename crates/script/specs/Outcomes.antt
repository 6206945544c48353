-- How the program ends, and the status that says so.
use Rattle.std.specs.Prelude.{ℕ, Option, Some, None, if◌then◌else◌}
use Rattle.rules.specs.declared.refusals.Refusal.{Refusal}
use Rattle.script.specs.declared.archive_file.Archives.{Archives}
use Rattle.script.specs.declared.outcome.Outcome.{Outcome}
use Rattle.script.specs.declared.outcome.Outcome.TheVariants.{Done, ArchiveRefused, WrongArguments, Failed}

-- RULES 8.32: "The program ends with the status": where all was done, an archive is refused, the arguments are others, something could not be read, written or archived
abbrev pub status_of : Outcome → ℕ
status_of Done = 0
status_of ArchiveRefused = 1
status_of WrongArguments = 2
status_of Failed = 3

-- RULES 8.32: 3 where "something could not be read, written or archived": all is done where no archives are kept, or they are whole
abbrev pub outcome_of : Option Archives → Outcome
outcome_of None = Done
outcome_of (Some archives) = if archives.whole then Done else Failed

-- RULES 8.32: 1 where "an archive is refused": of a listing, by the refusal that it came to, if it came to one
abbrev pub outcome_by : Option Refusal → Outcome
outcome_by None = Done
outcome_by (Some refusal) = ArchiveRefused
