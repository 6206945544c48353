-- RULES 8.34 to 8.36: what the program's arguments ask for.
use Rattle.std.specs.Prelude.{ℕ, Bool, true, not, ◌&&◌, ◌||◌, List, [], ◌∷◌, codes, ◌==◌, bytes_eq, if◌then◌else◌}
use Rattle.script.specs.declared.arguments.Asked.{Asked}
use Rattle.script.specs.declared.arguments.Asked.TheVariants.{Script, Archive, Records, Help, Version, Other}

-- the byte of a dash
abbrev pub dash : ℕ
dash = 45

-- RULES 8.36: "A FILE begins with no dash"
abbrev pub is_file : List ℕ → Bool
is_file [] = true
is_file (b ∷ bytes) = not (b == dash)

-- of how many arguments there are, and the first two of them; RULES 8.35: "first or second"
abbrev pub asked_of : ℕ → List ℕ → List ℕ → Asked
asked_of count first second =
    if count == 0 then Script
    else (if bytes_eq first (codes "--help") || bytes_eq second (codes "--help") then Help
    else (if bytes_eq first (codes "--version") || bytes_eq second (codes "--version") then Version
    else (if (count == 2 && bytes_eq first (codes "archive")) && is_file second then Archive
    else (if (count == 2 && bytes_eq first (codes "records")) && is_file second then Records
    else Other))))
