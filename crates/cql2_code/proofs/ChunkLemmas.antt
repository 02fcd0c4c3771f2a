-- Bytes as little-endian numbers, and questions about several bytes at once.
use Rattle.std.proofs.Common.{◌≡◌, ℕ, zero, suc, ◌+◌, ◌-◌, ◌<◌, ◌≤◌, List, [], ◌∷◌, ◌++◌, length, true, false, refl, ap, ◌∙◌, arith}
use Rattle.std.specs.Prelude.{take, replicate}
use Rattle.std.proofs.lemmas.List.{take-replicate}
use Rattle.cql2.specs.declared.filter.Comparison.TheVariants.{Equal, Greater, Less}
use Rattle.cql2_code.specs.Lowering.{byte_test, chunk_test, has_bytes, has_each, has_few, is_blank, is_greater, is_less}
use Rattle.cql2_code.specs.Question.{Joined, Opposite}
use Rattle.cql2_code.specs.declared.question.Chunk.TheVariants.{DoubleWord, Word}

-- one byte, and more
pub has_each-more : (at : ℕ) (bytes : List ℕ) (byte : ℕ) (rest : List ℕ) → bytes ≡ byte ∷ rest → 0 < length rest
    → has_each at bytes ≡ Joined true (byte_test at Equal byte) (has_each (at + 1) rest)
has_each-more at bytes byte [] is some = absurd (omega arith)
has_each-more at bytes byte (next ∷ rest) is some = ap (has_each at) is

-- four bytes, and more
pub has_few-more : (at : ℕ) (bytes front rest : List ℕ) → bytes ≡ front ++ rest → length front ≡ 4 → 0 < length rest
    → has_few at bytes ≡ Joined true (chunk_test Word at front) (has_each (at + 4) rest)
has_few-more at bytes front [] is count some = absurd (omega arith)
has_few-more at bytes (a ∷ b ∷ c ∷ d ∷ []) (next ∷ rest) is count some = ap (has_few at) is
has_few-more at bytes (a ∷ b ∷ c ∷ d ∷ e ∷ more) (next ∷ rest) is count some = absurd (omega arith)
has_few-more at bytes (a ∷ b ∷ c ∷ []) (next ∷ rest) is count some = absurd (omega arith)
has_few-more at bytes (a ∷ b ∷ []) (next ∷ rest) is count some = absurd (omega arith)
has_few-more at bytes (a ∷ []) (next ∷ rest) is count some = absurd (omega arith)
has_few-more at bytes [] (next ∷ rest) is count some = absurd (omega arith)

-- eight bytes, and more
pub has_bytes-more : (at : ℕ) (bytes front rest : List ℕ) → bytes ≡ front ++ rest → length front ≡ 8 → 0 < length rest
    → has_bytes at bytes ≡ Joined true (chunk_test DoubleWord at front) (has_bytes (at + 8) rest)
has_bytes-more at bytes front [] is count some = absurd (omega arith)
has_bytes-more at bytes (a ∷ b ∷ c ∷ d ∷ e ∷ f ∷ g ∷ h ∷ []) (next ∷ rest) is count some = ap (has_bytes at) is
has_bytes-more at bytes (a ∷ b ∷ c ∷ d ∷ e ∷ f ∷ g ∷ h ∷ i ∷ more) (next ∷ rest) is count some = absurd (omega arith)
has_bytes-more at bytes (a ∷ b ∷ c ∷ d ∷ e ∷ f ∷ g ∷ []) (next ∷ rest) is count some = absurd (omega arith)
has_bytes-more at bytes (a ∷ b ∷ c ∷ d ∷ e ∷ f ∷ []) (next ∷ rest) is count some = absurd (omega arith)
has_bytes-more at bytes (a ∷ b ∷ c ∷ d ∷ e ∷ []) (next ∷ rest) is count some = absurd (omega arith)
has_bytes-more at bytes (a ∷ b ∷ c ∷ d ∷ []) (next ∷ rest) is count some = absurd (omega arith)
has_bytes-more at bytes (a ∷ b ∷ c ∷ []) (next ∷ rest) is count some = absurd (omega arith)
has_bytes-more at bytes (a ∷ b ∷ []) (next ∷ rest) is count some = absurd (omega arith)
has_bytes-more at bytes (a ∷ []) (next ∷ rest) is count some = absurd (omega arith)
has_bytes-more at bytes [] (next ∷ rest) is count some = absurd (omega arith)

-- as many blanks as are asked about
pub blank_bytes : (at count : ℕ) → count ≤ 30 → has_bytes at (take count (replicate 30 32)) ≡ is_blank at count
blank_bytes at count few = ap (has_bytes at) (take-replicate count 30 32 few)

-- the rest of a field is greater than an empty text if it isn't blank
pub greater_blank : (at left : ℕ) (text : List ℕ) → 0 < left → length text ≡ 0 → is_greater at left text ≡ Opposite (is_blank at left)
greater_blank at zero text some none = absurd (omega arith)
greater_blank at (suc left) [] some none = refl
greater_blank at (suc left) (byte ∷ text) some none = absurd (omega arith)

-- the rest of a field is less than a text, by the first byte or by the bytes after it
pub less_more : (at left : ℕ) (text : List ℕ) (byte : ℕ) (rest : List ℕ) → 0 < left → text ≡ byte ∷ rest
    → is_less at left text ≡ Joined false (byte_test at Less byte) (Joined true (byte_test at Equal byte) (is_less (at + 1) (left - 1) rest))
less_more at zero text byte rest some is = absurd (omega arith)
less_more at (suc left) text byte rest some is =
    let fewer : left ≡ suc left - 1 = omega arith in
    ap (is_less at (suc left)) is
    ∙ ap (λ (n : ℕ). Joined false (byte_test at Less byte) (Joined true (byte_test at Equal byte) (is_less (at + 1) n rest))) fewer

-- the rest of a field is greater than a text, by the first byte or by the bytes after it
pub greater_more : (at left : ℕ) (text : List ℕ) (byte : ℕ) (rest : List ℕ) → 0 < left → text ≡ byte ∷ rest
    → is_greater at left text
    ≡ Joined false (byte_test at Greater byte) (Joined true (byte_test at Equal byte) (is_greater (at + 1) (left - 1) rest))
greater_more at zero text byte rest some is = absurd (omega arith)
greater_more at (suc left) text byte rest some is =
    let fewer : left ≡ suc left - 1 = omega arith in
    ap (is_greater at (suc left)) is
    ∙ ap (λ (n : ℕ). Joined false (byte_test at Greater byte) (Joined true (byte_test at Equal byte) (is_greater (at + 1) n rest))) fewer
