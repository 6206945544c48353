-- RULES 1.18: "In the evening the run is put into an archive": the records of every run are good records, so a run can always be archived, up to 17 (RULES 7.22).
use Rattle.std.specs.Prelude.{◌≡◌, List, [], ◌∷◌, ◌++◌, reverse, ℕ, ◌≤◌, ◌<◌, ◌^◌, length}
use Rattle.rules.specs.Operations.{value_of}
use Rattle.rules.specs.Calls.{Outcome}
use Rattle.rules.specs.Runs.{Call, give, step, poke, Fresh, records}
use Rattle.archive.specs.Promises.{AllGood, most_records, run, fresh_run, adds, Close}
use Rattle.archive.specs.Archive.{encode_archive}
use Rattle.archive.specs.declared.records.Side.TheVariants.{Writing}

-- the values given and poked are words of 32 bits, as the code's are
abbrev pub WordsGiven : List Call → Type 0
WordsGiven [] = Unit {0}
WordsGiven (give core operation ∷ calls) = (value_of operation < 2 ^ 32) × WordsGiven calls
WordsGiven (step core ∷ calls) = WordsGiven calls
WordsGiven (poke a value ∷ calls) = (value < 2 ^ 32) × WordsGiven calls

abbrev pub RecordsAreGood : Type 0
RecordsAreGood = (fresh : Outcome) → Fresh fresh → (calls : List Call) → WordsGiven calls → AllGood Writing (records fresh calls)

-- added in access order, with any block of 512 bytes lent, and closed, they are put out as their archive
abbrev pub RunsAreArchived : Type 0
RunsAreArchived = (fresh : Outcome) → Fresh fresh → (calls : List Call) → WordsGiven calls → length (records fresh calls) ≤ most_records → (block : List ℕ) → length block ≡ 512
    → (run fresh_run (adds block (reverse (records fresh calls)) ++ Close block ∷ [])).out ≡ encode_archive (reverse (records fresh calls))
