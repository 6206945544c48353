-- The laws of a word of memory.
-- Assumes nothing.
use Rattle.std.proofs.Common.{inl, inr, ◌≡◌, ℕ, ◌+◌, ◌%◌, ◌<◌, Bool, true, false, ltb, ◌≢◌, List, get_or, refl, arith, ltb-false, ltb-true}
use Rattle.rules.specs.Bytes.{read_bytes, write_bytes}
use Rattle.rules.specs.Word.{read_word, write_word}
use Rattle.rules.specs.Laws.{WordLaws}
use Rattle.rules.proofs.Widths.{read_same, byte_laws}

-- two aligned words that differ share no byte
words_apart : (memory : List ℕ) (a b value : ℕ) → a % 4 ≡ 0 → b % 4 ≡ 0 → a ≢ b → read_bytes 4 (write_bytes 4 memory a value) b ≡ read_bytes 4 memory b
words_apart memory a b value p q apart = read_same 4 (write_bytes 4 memory a value) memory b b (λ i l. same i l (ltb a b) refl)
  where
    same : (i : ℕ) → i < 4 → (t : Bool) → ltb a b ≡ t → get_or (write_bytes 4 memory a value) (b + i) 0 ≡ get_or memory (b + i) 0
    same i l true e = let k = ltb-true a b e in (byte_laws 4).others_stay memory a value (b + i) (inr (omega arith))
    same i l false e = let k = ltb-false a b e in (byte_laws 4).others_stay memory a value (b + i) (inl (omega arith))

pub word_laws : WordLaws read_word write_word
unfolding read_word write_word
word_laws =
    record {
      read_back = λ memory a value small inside. (byte_laws 4).read_back memory a.0 value small inside;
      others_stay = λ memory a b value p q apart. words_apart memory a.0 b.0 value p q apart;
      length_stays = λ memory a value. (byte_laws 4).length_stays memory a.0 value;
      a_word = λ memory a bytes. (byte_laws 4).a_number memory a.0 bytes;
      bytes_stay = λ memory a value bytes. (byte_laws 4).bytes_stay memory a.0 value bytes;
    }
