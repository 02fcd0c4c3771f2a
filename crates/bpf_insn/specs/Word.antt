-- Instruction words (RFC 9669, section 3.1, little-endian).
use Rattle.std.specs.Prelude.{◌≡◌, ◌<◌, ℕ, zero, suc, ◌*◌, ◌/◌, ◌%◌, List, [], ◌∷◌, ◌++◌, All, length, slice_index, drop}
use Rattle.std.specs.Int.{cast_signed, w16, w32}
use Rattle.byteorder.specs.Endian.{little_number}
use Rattle.bpf_insn.specs.declared.word.Word.{Word}

-- the word in the first eight bytes: the opcode, the destination in the low four bits and the source in the high four bits of the second byte, the
-- offset, and the immediate
abbrev pub word_of : List ℕ → Word
word_of bytes = record {
  opcode = slice_index bytes 0;
  destination = slice_index bytes 1 % 16;
  source = slice_index bytes 1 / 16;
  offset = cast_signed w16 (little_number 2 (drop 2 bytes));
  immediate = cast_signed w32 (little_number 4 (drop 4 bytes));
}

-- the first `count` words of the bytes
unfoldable pub first_words : ℕ → List ℕ → List Word
first_words zero bytes = []
first_words (suc count) bytes = word_of bytes ∷ first_words count (drop 8 bytes)

-- the words of the bytes, if these are a whole number of words
abbrev pub words_of : List ℕ → List Word
words_of bytes = first_words (length bytes / 8) bytes

-- eight bytes that encode this word
pub record IsWritten (word : Word) (bytes : List ℕ) : Type 0 where
  pub long : length bytes ≡ 8
  pub is_word : word_of bytes ≡ word
  pub small : All (λ byte. byte < 256) bytes

-- bytes that encode these words, one after the other
pub record AreWords (words : List Word) (bytes : List ℕ) : Type 0 where
  pub long : length bytes ≡ length words * 8
  pub same : first_words (length words) bytes ≡ words
  pub small : All (λ byte. byte < 256) bytes

-- bytes with these words appended
abbrev pub AppendsWords : List Word → List ℕ → List ℕ → Type 0
AppendsWords words old new = (more : List ℕ) × AreWords words more × (new ≡ old ++ more)
