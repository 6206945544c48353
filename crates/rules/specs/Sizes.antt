-- RULES 3, sizes.
use Rattle.std.specs.Prelude.{ℕ, ◌+◌, ◌%◌, ◌^◌, Bool, ◌&&◌, ◌==◌, nat_eq, nat_le}
use Rattle.rules.specs.Basics.{any_below}

-- RULES 3.1: "There are 1 to 8 cores, and the first has the number 0."
abbrev pub cores_fit : ℕ → Bool
cores_fit count = nat_le 1 count && nat_le count 8

-- RULES 3.2: "Memory has 4 to 65,536 bytes, in whole words: its size is a multiple of 4."
abbrev pub bytes_fit : ℕ → Bool
bytes_fit bytes = nat_le 4 bytes && nat_le bytes 65536 && bytes % 4 == 0

-- RULES 3.4: "The number of entries, E, is a power of two from 1 to 4,096."
unfoldable pub entries_fit : ℕ → Bool
entries_fit e = any_below 13 (λ k. nat_eq e (2 ^ k))

-- RULES 3.5: "The table is two buffers that are lent, each of E bytes: one has the owner marks, the other the holders of the locks."
abbrev pub tables_fit : ℕ → ℕ → Bool
tables_fit owners holders = entries_fit owners && holders == owners

-- RULES 3.6: "In either of them 0 says that there is no core, and c + 1 says that it is core c."
abbrev pub written : ℕ → ℕ
written core = core + 1
