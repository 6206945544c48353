-- What goes to a writer by way of a buffer.
use Rattle.std.specs.Prelude.{◌≡◌, List, ◌++◌, ℕ, Option}
use Rattle.std.specs.Io.KnownBytes.{Appends}

-- Some bytes went to the writer: these, and what stands in the buffer now, are what stood there and then a text.
abbrev pub Sends : Option (List ℕ) → List ℕ → Option (List ℕ) → List ℕ → List ℕ → Type 0
Sends written stood written₁ stands text = (sent : List ℕ) × Appends written written₁ sent × (sent ++ stands ≡ stood ++ text)
