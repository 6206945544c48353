-- RULES 8.33: "A read or a write that a signal interrupted is tried again, and one that would block after a short sleep."
use Rattle.std.specs.Prelude.{◌≡◌, Bool, true, false}
use Rattle.std.specs.declared.io.ErrorKind.{ErrorKind}
use Rattle.std.specs.declared.io.ErrorKind.TheVariants.{Interrupted, WouldBlock}

-- the errors that pass by themselves
abbrev pub passes : ErrorKind → Bool
passes Interrupted = true
passes WouldBlock = true
passes kind = false

-- the others, which are said
abbrev pub Stays : ErrorKind → Type 0
Stays kind = passes kind ≡ false
