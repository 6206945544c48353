-- RULES 3.9: "Memory is lent as bytes, and a word is four of them, the lowest first"
use Rattle.std.specs.Prelude.{ℕ, List}
use Rattle.rules.specs.Bytes.{read_bytes, write_bytes}
use Rattle.rules.specs.declared.entry.GuestAddress.{GuestAddress}

-- the word at an address
unfoldable pub read_word : List ℕ → GuestAddress → ℕ
read_word memory a = read_bytes 4 memory a.0

-- memory with a word written at an address
unfoldable pub write_word : List ℕ → GuestAddress → ℕ → List ℕ
write_word memory a value = write_bytes 4 memory a.0 value
