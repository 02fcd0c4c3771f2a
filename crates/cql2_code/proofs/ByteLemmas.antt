-- A question about bytes answers whether the record has them.
use Rattle.std.proofs.Common.{◌≡◌, ℕ, zero, suc, ◌+◌, ◌*◌, ◌<◌, ◌≤◌, ◌^◌, ◌==◌, pos, Bool, true, false, ◌&&◌, List, [], ◌∷◌, ◌++◌, length}
use Rattle.std.proofs.Common.{get_or, take, drop, replicate, slice_index, refl, sym, ap, ◌∙◌, arith, length-take, length-drop}
use Rattle.std.specs.Int.{w64, cast_signed, cast_unsigned}
use Rattle.std.specs.Ordering.{int_eq}
use Rattle.std.proofs.Math.Nat.{pow-succ'}
use Rattle.std.proofs.lemmas.Bool.Decides.{Decides-int_eq, nat_tests}
use Rattle.std.proofs.lemmas.Int.{of_z-to_z}
use Rattle.std.proofs.lemmas.List.{drop-drop, drop_more, length-replicate}
use Rattle.bpf_insn.specs.Arithmetic.{condition_holds, low_bits}
use Rattle.bpf_insn.specs.declared.instruction.Width.TheVariants.{Bits64}
use Rattle.tl_fields.specs.Number.{is_blank as are_blank}
use Rattle.tl_segments.specs.Segment.{SegmentParts, IsSegment}
use Rattle.cql2.specs.Filter.{compares}
use Rattle.cql2.specs.declared.filter.Comparison.{Comparison}
use Rattle.cql2.specs.declared.filter.Comparison.TheVariants.{Equal}
use Rattle.cql2_code.specs.Lowering.{byte_test, chunk_test, has_bytes, has_each, has_few, is_blank}
use Rattle.cql2_code.specs.Question.{answer, bytes_value, chunk_length, condition_of}
use Rattle.cql2_code.specs.declared.question.Chunk.{Chunk}
use Rattle.cql2_code.specs.declared.question.Chunk.TheVariants.{Byte, Word, DoubleWord}
use Rattle.cql2_code.proofs.JoinLemmas.{and_assoc, and_true, both_answers}
use Rattle.cql2_code.proofs.NumberLemmas.{compared, small_fits}

-- every number in the list is a byte
abbrev pub AreSmall : List ℕ → Type 0
AreSmall [] = Unit {0}
AreSmall (byte ∷ bytes) = (byte < 2 ^ 8) × AreSmall bytes

small_from : (bytes : List ℕ) → ((i : ℕ) → slice_index bytes i < 2 ^ 8) → AreSmall bytes
small_from [] each = tt
small_from (byte ∷ bytes) each = (each 0, small_from bytes (λ i. each (suc i)))

small_take : (count : ℕ) (bytes : List ℕ) → AreSmall bytes → AreSmall (take count bytes)
small_take zero bytes small = tt
small_take (suc count) [] small = tt
small_take (suc count) (byte ∷ bytes) small = (small.0, small_take count bytes small.1)

small_drop : (count : ℕ) (bytes : List ℕ) → AreSmall bytes → AreSmall (drop count bytes)
small_drop zero bytes small = small
small_drop (suc count) [] small = tt
small_drop (suc count) (byte ∷ bytes) small = small_drop count bytes small.1

pub small_blanks : (count : ℕ) → AreSmall (replicate count 32)
small_blanks zero = tt
small_blanks (suc count) = (omega arith, small_blanks count)

-- a list of bytes begins with another
abbrev pub begins : List ℕ → List ℕ → Bool
begins bytes [] = true
begins [] (required ∷ others) = false
begins (byte ∷ bytes) (required ∷ others) = byte == required && begins bytes others

begins_append : (bytes first second : List ℕ)
    → begins bytes (first ++ second) ≡ (begins bytes first && begins (drop (length first) bytes) second)
begins_append bytes [] second = refl
begins_append [] (required ∷ first) second = refl
begins_append (byte ∷ bytes) (required ∷ first) second =
    ap (λ (rest : Bool). byte == required && rest) (begins_append bytes first second)
    ∙ and_assoc (byte == required) (begins bytes first) (begins (drop (length first) bytes) second)

begins_blank : (count : ℕ) (bytes : List ℕ) → count ≤ length bytes → begins bytes (replicate count 32) ≡ are_blank (take count bytes)
begins_blank zero bytes long = refl
begins_blank (suc count) [] long = absurd (omega arith)
begins_blank (suc count) (byte ∷ bytes) long = ap (λ (rest : Bool). byte == 32 && rest) (begins_blank count bytes (omega arith))

-- Bytes as little-endian numbers

same_numbers : (x y v w : ℕ) → x < 2 ^ 8 → y < 2 ^ 8 → (x + 256 * v == y + 256 * w) ≡ (x == y && v == w)
same_numbers x y v w small others = grind (arith, nat_tests)

value_begins : (bytes required : List ℕ) → AreSmall bytes → AreSmall required → length required ≤ length bytes
    → (bytes_value (take (length required) bytes) == bytes_value required) ≡ begins bytes required
value_begins bytes [] small others long = refl
value_begins [] (required ∷ rest) small others long = absurd (omega arith)
value_begins (byte ∷ bytes) (required ∷ rest) small others long =
    same_numbers byte required (bytes_value (take (length rest) bytes)) (bytes_value rest) small.0 others.0
    ∙ ap (λ (same : Bool). byte == required && same) (value_begins bytes rest small.1 others.1 (omega arith))

value_below : (count : ℕ) (bytes : List ℕ) → length bytes ≤ count → AreSmall bytes → bytes_value bytes < 256 ^ count
value_below zero [] short small = omega arith
value_below zero (byte ∷ bytes) short small = absurd (omega arith)
value_below (suc count) [] short small = let rest = value_below count [] (omega arith) tt in rw pow-succ' (omega arith)
value_below (suc count) (byte ∷ bytes) short small =
    let rest = value_below count bytes (omega arith) small.1 in
    let first = small.0 in
    rw pow-succ' (omega arith)

-- a chunk is compared with an operand of the same bits
equal_words : (x y : ℕ) → x < 2 ^ 64 → y < 2 ^ 64
    → condition_holds (condition_of Equal) Bits64 x (cast_unsigned w64 (cast_signed w64 y)) ≡ (x == y)
equal_words x y small others =
    let unchanged : low_bits w64 x ≡ x = omega arith in
    let same : low_bits w64 y ≡ y = omega arith in
    ap (λ (z : ℕ). z == low_bits w64 (cast_unsigned w64 (cast_signed w64 y))) unchanged
    ∙ ap (λ (z : ℕ). x == low_bits w64 z) (of_z-to_z w64 y others) ∙ ap (λ (z : ℕ). x == z) same

chunk_short : (chunk : Chunk) → chunk_length chunk ≤ 8
chunk_short Byte = omega arith
chunk_short Word = omega arith
chunk_short DoubleWord = omega arith

pub equal_numbers : (m n : ℕ) → int_eq (pos m) (pos n) ≡ (m == n)
equal_numbers m n = grind (arith, nat_tests, Decides-int_eq)

module _ (segment : SegmentParts) (is : IsSegment segment) where
  long : length segment.bytes ≡ 228
  long = is.bytes.length

  small_rest : (at : ℕ) → AreSmall (drop at segment.bytes)
  small_rest at = small_drop at segment.bytes (small_from segment.bytes is.bytes.bytes)

  -- the first byte from an offset on, and the rest
  pub first_byte : (at : ℕ) → at < 228 → drop at segment.bytes ≡ get_or segment.bytes at 0 ∷ drop (at + 1) segment.bytes
  first_byte at within = drop_more segment.bytes at 0 (omega (arith, long))

  pub first_of : (at count : ℕ) → at < 228
      → take (suc count) (drop at segment.bytes) ≡ get_or segment.bytes at 0 ∷ take count (drop (at + 1) segment.bytes)
  first_of at count within = ap (take (suc count)) (first_byte at within)

  pub byte_read : (at : ℕ) → at < 228 → bytes_value (take 1 (drop at segment.bytes)) ≡ get_or segment.bytes at 0
  byte_read at within =
      let one : get_or segment.bytes at 0 + 256 * 0 ≡ get_or segment.bytes at 0 = omega arith in
      ap bytes_value (first_of at 0 within) ∙ one

  -- a test of a byte compares its value
  pub byte_answer : (at : ℕ) (comparison : Comparison) (byte : ℕ) → at < 228 → byte < 2 ^ 8
      → answer (byte_test at comparison byte) segment ≡ compares comparison (pos (get_or segment.bytes at 0)) (pos byte)
  byte_answer at comparison byte within small =
      let below = is.bytes.bytes at in
      ap (λ (number : ℕ). condition_holds (condition_of comparison) Bits64 number (cast_unsigned w64 (pos byte))) (byte_read at within)
      ∙ compared comparison (pos (get_or segment.bytes at 0)) (pos byte) (small_fits _ (omega arith)) (small_fits byte (omega arith))

  pub byte_equals : (at byte : ℕ) → at < 228 → byte < 2 ^ 8
      → answer (byte_test at Equal byte) segment ≡ (get_or segment.bytes at 0 == byte)
  byte_equals at byte within small = byte_answer at Equal byte within small ∙ equal_numbers (get_or segment.bytes at 0) byte

  chunk_below : (chunk : Chunk) (at : ℕ) → bytes_value (take (chunk_length chunk) (drop at segment.bytes)) < 2 ^ 64
  chunk_below chunk at =
      let rest = drop at segment.bytes in
      let short = chunk_short chunk in
      value_below 8 (take (chunk_length chunk) rest) (omega (arith, length-take (chunk_length chunk) rest))
      (small_take (chunk_length chunk) rest (small_rest at))

  -- the record has these bytes, which are as long as a chunk
  chunk_found : (chunk : Chunk) (at : ℕ) (bytes : List ℕ) → length bytes ≡ chunk_length chunk → AreSmall bytes → at + length bytes ≤ 228
      → answer (chunk_test chunk at bytes) segment ≡ begins (drop at segment.bytes) bytes
  chunk_found chunk at bytes same small within =
      let rest = drop at segment.bytes in
      let short = chunk_short chunk in
      equal_words (bytes_value (take (chunk_length chunk) rest)) (bytes_value bytes) (chunk_below chunk at)
      (value_below 8 bytes (omega arith) small)
      ∙ ap (λ (count : ℕ). bytes_value (take count rest) == bytes_value bytes) (sym same)
      ∙ value_begins rest bytes (small_rest at) small (omega (arith, length-drop at segment.bytes, long))

  -- bytes in two parts
  found_parts : (at : ℕ) (first second : List ℕ) → begins (drop at segment.bytes) (first ++ second)
      ≡ (begins (drop at segment.bytes) first && begins (drop (at + length first) segment.bytes) second)
  found_parts at first second =
      begins_append (drop at segment.bytes) first second
      ∙ ap (λ (bytes : List ℕ). begins (drop at segment.bytes) first && begins bytes second) (drop-drop (length first) at segment.bytes)

  first_found : (at byte : ℕ) (bytes : List ℕ) → at < 228
      → begins (drop at segment.bytes) (byte ∷ bytes) ≡ (get_or segment.bytes at 0 == byte && begins (drop (at + 1) segment.bytes) bytes)
  first_found at byte bytes within = ap (λ (rest : List ℕ). begins rest (byte ∷ bytes)) (first_byte at within)

  each_found : (at : ℕ) (bytes : List ℕ) → AreSmall bytes → at + length bytes ≤ 228
      → answer (has_each at bytes) segment ≡ begins (drop at segment.bytes) bytes
  each_found at [] small within = refl
  each_found at (byte ∷ []) small within =
      byte_equals at byte (omega arith) small.0
      ∙ sym (and_true (get_or segment.bytes at 0 == byte)) ∙ sym (first_found at byte [] (omega arith))
  each_found at (byte ∷ next ∷ bytes) small within =
      both_answers (byte_equals at byte (omega arith) small.0) (each_found (at + 1) (next ∷ bytes) small.1 (omega arith))
      ∙ sym (first_found at byte (next ∷ bytes) (omega arith))

  few_found : (at : ℕ) (bytes : List ℕ) → AreSmall bytes → at + length bytes ≤ 228
      → answer (has_few at bytes) segment ≡ begins (drop at segment.bytes) bytes
  few_found at (a ∷ b ∷ c ∷ d ∷ []) small within = chunk_found Word at (a ∷ b ∷ c ∷ d ∷ []) refl small within
  few_found at (a ∷ b ∷ c ∷ d ∷ next ∷ bytes) (sa, (sb, (sc, (sd, small)))) within =
      both_answers
      (chunk_found Word at (a ∷ b ∷ c ∷ d ∷ []) refl (sa, (sb, (sc, (sd, tt)))) (omega arith))
      (each_found (at + 4) (next ∷ bytes) small (omega arith))
      ∙ sym (found_parts at (a ∷ b ∷ c ∷ d ∷ []) (next ∷ bytes))
  few_found at bytes small within = each_found at bytes small within

  -- the record has these bytes at an offset
  pub bytes_found : (at : ℕ) (bytes : List ℕ) → AreSmall bytes → at + length bytes ≤ 228
      → answer (has_bytes at bytes) segment ≡ begins (drop at segment.bytes) bytes
  bytes_found at (a ∷ b ∷ c ∷ d ∷ e ∷ f ∷ g ∷ h ∷ []) small within =
      chunk_found DoubleWord at (a ∷ b ∷ c ∷ d ∷ e ∷ f ∷ g ∷ h ∷ []) refl small within
  bytes_found at (a ∷ b ∷ c ∷ d ∷ e ∷ f ∷ g ∷ h ∷ next ∷ bytes) (sa, (sb, (sc, (sd, (se, (sf, (sg, (sh, small)))))))) within =
      let eight = a ∷ b ∷ c ∷ d ∷ e ∷ f ∷ g ∷ h ∷ [] in
      both_answers
      (chunk_found DoubleWord at eight refl (sa, (sb, (sc, (sd, (se, (sf, (sg, (sh, tt)))))))) (omega arith))
      (bytes_found (at + 8) (next ∷ bytes) small (omega arith))
      ∙ sym (found_parts at eight (next ∷ bytes))
  bytes_found at bytes small within = few_found at bytes small within

  -- bytes of the record are blank
  pub blank_found : (at count : ℕ) → at + count ≤ 228
      → answer (is_blank at count) segment ≡ are_blank (take count (drop at segment.bytes))
  blank_found at count within =
      bytes_found at (replicate count 32) (small_blanks count) (omega (arith, length-replicate {A = ℕ} count 32))
      ∙ begins_blank count (drop at segment.bytes) (omega (arith, length-drop at segment.bytes, long))
