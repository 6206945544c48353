-- Numbers in bytes, the lowest byte first, over the width: how many bytes a number takes. A place may be any: a byte that is not there is read as 0 and not written.
use Rattle.std.specs.Prelude.{◌≡◌, ℕ, zero, suc, ◌+◌, ◌*◌, ◌/◌, ◌%◌, ◌^◌, ◌<◌, ◌≤◌, ◌⊎◌, List, [], ◌∷◌, length, take, drop, slice_index, slice_set}
use Rattle.std.proofs.Math.Seq.{paste}

-- a list of bytes, which a lent slice always is
abbrev pub Bytes : List ℕ → Type 0
Bytes s = (i : ℕ) → slice_index s i < 256

-- the part of so many bytes from a place on
abbrev pub part : ℕ → ℕ → List ℕ → List ℕ
part at size s = take size (drop at s)

-- the number that the bytes from a place on make
unfoldable pub read_bytes : ℕ → List ℕ → ℕ → ℕ
read_bytes zero s at = 0
read_bytes (suc width) s at = slice_index s at + 256 * read_bytes width s (at + 1)

-- the bytes with a number's from a place on
unfoldable pub write_bytes : ℕ → List ℕ → ℕ → ℕ → List ℕ
write_bytes zero s at n = s
write_bytes (suc width) s at n = write_bytes width (slice_set s at (n % 256)) (at + 1) (n / 256)

-- the bytes of a number
abbrev pub bytes_of : ℕ → ℕ → List ℕ
bytes_of zero n = []
bytes_of (suc width) n = n % 256 ∷ bytes_of width (n / 256)

-- What is written is read back, every other byte and the length stay, and bytes make a number of their width and stay bytes.
-- Written are the bytes of the number; it is read from them, and they are those that it was read from.
pub record ByteLaws (width : ℕ) : Type 0 where
  pub read_back : (s : List ℕ) (at n : ℕ) → n < 256 ^ width → at + width ≤ length s → read_bytes width (write_bytes width s at n) at ≡ n
  pub others_stay : (s : List ℕ) (at n i : ℕ) → (i < at) ⊎ (at + width ≤ i) → slice_index (write_bytes width s at n) i ≡ slice_index s i
  pub length_stays : (s : List ℕ) (at n : ℕ) → length (write_bytes width s at n) ≡ length s
  pub a_number : (s : List ℕ) (at : ℕ) → Bytes s → read_bytes width s at < 256 ^ width
  pub bytes_stay : (s : List ℕ) (at n : ℕ) → Bytes s → Bytes (write_bytes width s at n)
  pub pasted : (s : List ℕ) (at n : ℕ) → at + width ≤ length s → write_bytes width s at n ≡ paste s at (bytes_of width n) width
  pub decoded : (n : ℕ) → n < 256 ^ width → read_bytes width (bytes_of width n) 0 ≡ n
  pub encoded : (s : List ℕ) (at : ℕ) → Bytes s → at + width ≤ length s → bytes_of width (read_bytes width s at) ≡ part at width s

abbrev pub EachWidth : Type 0
EachWidth = (width : ℕ) → ByteLaws width
