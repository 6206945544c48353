-- The laws of numbers in bytes, once over the width; and the bytes that the code reads and writes at once.
-- Assumes nothing.
use Rattle.std.proofs.Common.{◌≡◌, ◌≢◌, ℕ, zero, suc, ◌+◌, ◌-◌, ◌*◌, ◌/◌, ◌%◌, ◌^◌, ◌<◌, ◌≤◌, ◌⊎◌, inl, inr, Bool, true, false, eqb, ltb}
use Rattle.std.proofs.Common.{List, ◌∷◌, ◌++◌, length, get_or, set, take, drop, length-set, get_or-set_other, get_or-set_same, drop-cons}
use Rattle.std.proofs.Common.{refl, sym, ap, ap₂, ◌∙◌, arith, ltb-false, ltb-true, eqb-true}
use native.Mathlib.Nat.{pow-succ'}
use native.Mathlib.Numerals.{add-one}
use lib.Seq.{set_out, sets, sets-eq, paste, take_all, get_or-drop, get_or-take}
use Rattle.std.specs.Int.{w16, w32, from_le_bytes}
use borrow.Author.Tests.{eqb-false}
use borrow.Rule.Slice.PartMut.{put_mid}
use Rattle.std.proofs.lemmas.Slice.{put_mid-paste}
use Rattle.rules.specs.Bytes.{Bytes, part, read_bytes, write_bytes, bytes_of, EachWidth}

length-written : (w : ℕ) (s : List ℕ) (at n : ℕ) → length (write_bytes w s at n) ≡ length s
unfolding write_bytes
length-written zero s at n = refl
length-written (suc w) s at n = length-written w (set s at (n % 256)) (at + 1) (n / 256) ∙ length-set s at (n % 256)

-- a byte outside of what is written stays
outside_stays : (w : ℕ) (s : List ℕ) (at n i : ℕ) → (i < at) ⊎ (at + w ≤ i) → get_or (write_bytes w s at n) i 0 ≡ get_or s i 0
unfolding write_bytes
outside_stays zero s at n i out = refl
outside_stays (suc w) s at n i out = outside_stays w (set s at (n % 256)) (at + 1) (n / 256) i (of_the_rest out) ∙ get_or-set_other s at i (n % 256) 0 (apart out)
  where
    of_the_rest : (i < at) ⊎ (at + suc w ≤ i) → (i < at + 1) ⊎ (at + 1 + w ≤ i)
    of_the_rest (inl l) = inl (omega arith)
    of_the_rest (inr l) = inr (omega arith)

    apart : (i < at) ⊎ (at + suc w ≤ i) → i ≢ at
    apart (inl l) e = omega arith
    apart (inr l) e = omega arith

read_written : (w : ℕ) (s : List ℕ) (at n : ℕ) → n < 256 ^ w → at + w ≤ length s → read_bytes w (write_bytes w s at n) at ≡ n
unfolding read_bytes write_bytes
read_written zero s at n l r = omega arith
read_written (suc w) s at n l r =
    let one : List ℕ = set s at (n % 256) in
    let all : List ℕ = write_bytes w one (at + 1) (n / 256) in
    let low : get_or all at 0 ≡ n % 256
    = outside_stays w one (at + 1) (n / 256) at (inl (omega arith)) ∙ get_or-set_same s at (n % 256) 0 (omega arith) in
    let fits : n < 256 * 256 ^ w = rw (pow-succ' 256 w) at l in
    let inside : at + 1 + w ≤ length one = rw length-set (omega arith) in
    let high : read_bytes w all (at + 1) ≡ n / 256 = read_written w one (at + 1) (n / 256) (omega arith) inside in
    omega arith

-- what is read goes by its bytes alone: by as many from another place of other bytes
pub read_same : (w : ℕ) (s t : List ℕ) (a b : ℕ) → ((i : ℕ) → i < w → get_or s (a + i) 0 ≡ get_or t (b + i) 0) → read_bytes w s a ≡ read_bytes w t b
unfolding read_bytes
read_same zero s t a b same = refl
read_same (suc w) s t a b same =
    let low : get_or s a 0 ≡ get_or t b 0 = let e : a + 0 ≡ a = omega arith in let f : b + 0 ≡ b = omega arith in rw (e, f) at (same 0 (omega arith)) in
    let next : (i : ℕ) → i < w → get_or s (a + 1 + i) 0 ≡ get_or t (b + 1 + i) 0 =
    λ i l. let e : a + (1 + i) ≡ a + 1 + i = omega arith in let f : b + (1 + i) ≡ b + 1 + i = omega arith in rw (e, f) at (same (1 + i) (omega arith)) in
    ap₂ (λ (x y : ℕ). x + 256 * y) low (read_same w s t (a + 1) (b + 1) next)

pub read_dropped : (w : ℕ) (s : List ℕ) (at : ℕ) → read_bytes w (drop at s) 0 ≡ read_bytes w s at
read_dropped w s at = read_same w (drop at s) s 0 at (λ i l. let e : 0 + i ≡ i = omega arith in rw (e) (get_or-drop at s i 0))

-- what the library makes of the bytes from a place on is the number there
bytes_there : (w : ℕ) (s : List ℕ) (at i : ℕ) → i < w → get_or (part at w s) (0 + i) 0 ≡ get_or s (at + i) 0
bytes_there w s at i l = let e : 0 + i ≡ i = omega arith in rw (e, get_or-take w (drop at s) i 0 l, get_or-drop at s i 0)

two : (b : List ℕ) → from_le_bytes w16 b ≡ read_bytes 2 b 0
unfolding read_bytes
two b = omega arith

four : (b : List ℕ) → from_le_bytes w32 b ≡ read_bytes 4 b 0
unfolding read_bytes
four b = omega arith

pub two_read : (s : List ℕ) (at : ℕ) → from_le_bytes w16 (take 2 (drop at s)) ≡ read_bytes 2 s at
two_read s at = two (part at 2 s) ∙ read_same 2 (part at 2 s) s 0 at (bytes_there 2 s at)

pub four_read : (s : List ℕ) (at : ℕ) → from_le_bytes w32 (take 4 (drop at s)) ≡ read_bytes 4 s at
four_read s at = four (part at 4 s) ∙ read_same 4 (part at 4 s) s 0 at (bytes_there 4 s at)

-- bytes make a number of their width, and stay bytes
byte_set : (s : List ℕ) (at x : ℕ) → x < 256 → Bytes s → Bytes (set s at x)
byte_set s at x small bytes i = go (eqb i at) refl (ltb at (length s)) refl
  where
    go : (t : Bool) → eqb i at ≡ t → (u : Bool) → ltb at (length s) ≡ u → get_or (set s at x) i 0 < 256
    go true e true l = rw (eqb-true i at e, get_or-set_same s at x 0 (ltb-true at (length s) l)) small
    go true e false l = rw (set_out s at x (ltb-false at (length s) l)) (bytes i)
    go false e u l = rw (get_or-set_other s at i x 0 (eqb-false i at e)) (bytes i)

bytes_written : (w : ℕ) (s : List ℕ) (at n : ℕ) → Bytes s → Bytes (write_bytes w s at n)
unfolding write_bytes
bytes_written zero s at n bytes = bytes
bytes_written (suc w) s at n bytes = bytes_written w (set s at (n % 256)) (at + 1) (n / 256) (byte_set s at (n % 256) (omega arith) bytes)

read_fits : (w : ℕ) (s : List ℕ) (at : ℕ) → Bytes s → read_bytes w s at < 256 ^ w
unfolding read_bytes
read_fits zero s at bytes = omega arith
read_fits (suc w) s at bytes =
    let b = bytes at in
    let h = read_fits w s (at + 1) bytes in
    rw (pow-succ' 256 w) (omega arith)

-- the bytes of a number, and the number
number_decoded : (w n : ℕ) → n < 256 ^ w → read_bytes w (bytes_of w n) 0 ≡ n
unfolding read_bytes
number_decoded zero n l = omega arith
number_decoded (suc w) n l =
    let fits : n < 256 * 256 ^ w = rw (pow-succ' 256 w) at l in
    let rest : read_bytes w (bytes_of (suc w) n) 1 ≡ n / 256 = sym (read_dropped w (bytes_of (suc w) n) 1) ∙ number_decoded w (n / 256) (omega arith) in
    omega arith

encoded_there : (w : ℕ) (s : List ℕ) (at : ℕ) → Bytes s → at + w ≤ length s → bytes_of w (read_bytes w s at) ≡ part at w s
unfolding read_bytes
encoded_there zero s at bytes l = refl
encoded_there (suc w) s at bytes l =
    let b = bytes at in
    let x : ℕ = get_or s at 0 in
    let y : ℕ = read_bytes w s (at + 1) in
    let low : (x + 256 * y) % 256 ≡ x = omega arith in
    let high : (x + 256 * y) / 256 ≡ y = omega arith in
    let e : suc at ≡ at + 1 = omega arith in
    (λ i. low i ∷ bytes_of w (high i)) ∙ ap (λ (l : List ℕ). x ∷ l) (encoded_there w s (at + 1) bytes (omega arith))
    ∙ sym (ap (take (suc w)) (drop-cons s at 0 (omega arith)) ∙ ap (λ (k : ℕ). x ∷ take w (drop k s)) e)

-- what is written is the number's bytes, one after another, and so they are pasted
length-bytes : (w n : ℕ) → length (bytes_of w n) ≡ w
length-bytes zero n = refl
length-bytes (suc w) n = ap suc (length-bytes w (n / 256))

written_sets : (w : ℕ) (s : List ℕ) (at n : ℕ) → write_bytes w s at n ≡ sets s at (bytes_of w n)
unfolding write_bytes
written_sets zero s at n = refl
written_sets (suc w) s at n = written_sets w (set s at (n % 256)) (at + 1) (n / 256) ∙ ap (λ (k : ℕ). sets (set s at (n % 256)) k (bytes_of w (n / 256))) (add-one at)

written_pasted : (w : ℕ) (s : List ℕ) (at n : ℕ) → at + w ≤ length s → write_bytes w s at n ≡ paste s at (bytes_of w n) w
written_pasted w s at n l =
    let b : List ℕ = bytes_of w n in
    let e : length b ≡ w = length-bytes w n in
    written_sets w s at n ∙ sets-eq b s at (omega arith)
    ∙ (λ i. take at s ++ sym (take_all w b (omega arith)) i ++ drop (at + e i) s)

pub four_written : (s : List ℕ) (at n : ℕ) → at + 4 ≤ length s → put_mid at (at + 4 - at) s (bytes_of 4 n) ≡ write_bytes 4 s at n
four_written s at n l =
    let e : 4 ≡ at + 4 - at = omega arith in
    put_mid-paste at (at + 4 - at) s (bytes_of 4 n) (bytes_of 4 n) 4 refl e refl ∙ sym (written_pasted 4 s at n l)

pub byte_laws : EachWidth
byte_laws w =
    record {
      read_back = read_written w;
      others_stay = outside_stays w;
      length_stays = length-written w;
      a_number = read_fits w;
      bytes_stay = bytes_written w;
      pasted = written_pasted w;
      decoded = number_decoded w;
      encoded = encoded_there w;
    }
