-- A file's folder.
use Rattle.std.specs.Prelude.{◌≡◌, ◌+◌, ℕ, List, Option, Some, None, codes, take}
use Rattle.memchr.specs.Find.{IsLastByte, is_byte}

-- the byte of a slash
abbrev pub slash : ℕ
slash = 47

abbrev pub folder_at : List ℕ → Option ℕ → List ℕ
folder_at path None = codes "."
folder_at path (Some last) = take (last + 1) path

-- RULES 8.23a: "what stands up to the last slash of FILE, and without a slash the folder that the program was started in"
abbrev pub FolderOf : List ℕ → List ℕ → Type 0
FolderOf path folder = (last : Option ℕ) × IsLastByte (is_byte slash) path last × (folder ≡ folder_at path last)
