-- The questions about a text column and a text have the answers of a comparison.
use Rattle.std.proofs.Common.{◌≡◌, ℕ, zero, suc, ◌+◌, ◌<◌, ◌≤◌, ◌==◌, nat_le, nat_lt, Bool, true, false, not, ◌&&◌, ◌||◌, List, [], ◌∷◌}
use Rattle.std.proofs.Common.{length, map, get_or, take, drop, option_map, if◌then◌else◌, refl, sym, ap, ◌∙◌, arith}
use Rattle.std.specs.Bool.{beq}
use Rattle.std.specs.List.{list_all}
use Rattle.std.proofs.lemmas.Bool.{and_parts, false≢true, leb-true, lt-ltb, ltb-true}
use Rattle.std.proofs.lemmas.Bool.Decides.{nat_tests}
use Rattle.tl_fields.specs.Number.{is_blank as are_blank}
use Rattle.tl_segments.specs.Segment.{SegmentParts, IsSegment}
use Rattle.cql2.specs.Column.{text_value}
use Rattle.cql2.specs.Filter.{compares_text as text_compares}
use Rattle.cql2.specs.Pattern.{is_like as is_text_like}
use Rattle.cql2.specs.Text.{ends_filled, is_less as is_text_less, is_same, is_text}
use Rattle.cql2.specs.Truth.{is as is_truth}
use Rattle.cql2.specs.declared.column.TextColumn.{TextColumn}
use Rattle.cql2.specs.declared.filter.Comparison.{Comparison}
use Rattle.cql2.specs.declared.filter.Comparison.TheVariants.{Equal, NotEqual, Less, LessOrEqual, Greater, GreaterOrEqual}
use Rattle.cql2.specs.declared.pattern.PatternPart.TheVariants.{Exactly}
use Rattle.cql2_code.specs.Layout.{opposite}
use Rattle.cql2_code.specs.Lowering.{compares_bytes, compares_text, holds_of_blanks, is_greater, is_less, is_piece}
use Rattle.cql2_code.specs.Question.{answer}
use Rattle.cql2_code.specs.declared.field.Field.{Field}
use Rattle.cql2_code.proofs.ByteLemmas.{AreSmall, blank_found, byte_equals, byte_answer, first_of}
use Rattle.cql2_code.proofs.FieldLemmas.{IsInside, bytes_in, has_text}
use Rattle.cql2_code.proofs.JoinLemmas.{both_answers, either_answers, is_it, isnt_it, not_not}
use Rattle.cql2_code.proofs.PieceLemmas.{IsPiece}
use Rattle.cql2_code.proofs.TextColumnLemmas.{about_found, text_bytes, value_asked}
use Rattle.cql2_code.proofs.TrimLemmas.{trimmed, trimmed_blank}
use Rattle.cql2_code.proofs.RequiredLemmas.{ending, piece_found}

-- Texts that a filter can hold

-- no byte is below a blank, and the last one is above it
abbrev pub IsFine : List ℕ → Type 0
IsFine [] = Unit {0}
IsFine (byte ∷ []) = 32 < byte
IsFine (byte ∷ next ∷ text) = (32 ≤ byte) × IsFine (next ∷ text)

fine_first : (byte : ℕ) (text : List ℕ) → IsFine (byte ∷ text) → 32 ≤ byte
fine_first byte [] fine = omega arith
fine_first byte (next ∷ text) fine = fine.0

fine_rest : (byte : ℕ) (text : List ℕ) → IsFine (byte ∷ text) → IsFine text
fine_rest byte [] fine = tt
fine_rest byte (next ∷ text) fine = fine.1

pub record IsRequired (text : List ℕ) : Type 0 where
  pub small : AreSmall text
  pub fine : IsFine text
  pub some : 1 ≤ length text
  pub few : length text ≤ 30

abbrev is_printable : ℕ → Bool
is_printable byte = nat_le 32 byte && nat_lt byte 256

small_text : (text : List ℕ) → list_all is_printable text ≡ true → AreSmall text
small_text [] printable = tt
small_text (byte ∷ text) printable =
    let parts = and_parts (is_printable byte) (list_all is_printable text) printable in
    (ltb-true byte 256 (and_parts (nat_le 32 byte) (nat_lt byte 256) parts.0).1, small_text text parts.1)

above_blank : (byte : ℕ) → is_printable byte ≡ true → not (byte == 32) ≡ true → 32 < byte
above_blank byte printable filled = grind (arith, nat_tests)

fine_text : (text : List ℕ) → list_all is_printable text ≡ true → ends_filled text ≡ true → IsFine text
fine_text [] printable filled = tt
fine_text (byte ∷ []) printable filled = above_blank byte (and_parts (is_printable byte) true printable).0 filled
fine_text (byte ∷ next ∷ text) printable filled =
    let parts = and_parts (is_printable byte) (list_all is_printable (next ∷ text)) printable in
    (leb-true 32 byte (and_parts (nat_le 32 byte) (nat_lt byte 256) parts.0).0, fine_text (next ∷ text) parts.1 filled)

some_text : (text : List ℕ) → ends_filled text ≡ true → 1 ≤ length text
some_text [] filled = absurd (false≢true filled)
some_text (byte ∷ text) filled = omega arith

pub text_required : (text : List ℕ) → is_text text ≡ true → IsRequired text
text_required text is =
    let ends = and_parts (list_all is_printable text && nat_le (length text) 30) (ends_filled text) is in
    let parts = and_parts (list_all is_printable text) (nat_le (length text) 30) ends.0 in
    record {
      small = small_text text parts.0;
      fine = fine_text text parts.0 ends.1;
      some = some_text text ends.1;
      few = leb-true (length text) 30 parts.1;
    }

-- The order of texts: blanks after a text make no difference

less_by_byte : (first byte : ℕ) (rest : Bool) → (first == 32) ≡ true → 32 < byte → (nat_lt first byte || first == byte && rest) ≡ true
less_by_byte first byte rest blank above = grind (arith, nat_tests)

less_or_equal : (first byte : ℕ) (rest : Bool) → (first == 32) ≡ true → 32 ≤ byte → rest ≡ true
    → (nat_lt first byte || first == byte && rest) ≡ true
less_or_equal first byte rest blank least is = grind (arith, nat_tests)

not_greater : (first byte : ℕ) (rest : Bool) → (first == 32) ≡ true → 32 ≤ byte → rest ≡ false
    → (nat_lt byte first || first == byte && rest) ≡ false
not_greater first byte rest blank least is = grind (arith, nat_tests)

equal_swap : (m n : ℕ) → (m == n) ≡ (n == m)
equal_swap m n = grind (arith, nat_tests)

blank_less : (field : List ℕ) (byte : ℕ) (text : List ℕ) → are_blank field ≡ true → IsFine (byte ∷ text)
    → is_text_less field (byte ∷ text) ≡ true
blank_less [] byte text blank fine = refl
blank_less (first ∷ field) byte [] blank fine =
    less_by_byte first byte (is_text_less field []) (and_parts (first == 32) (are_blank field) blank).0 fine
blank_less (first ∷ field) byte (next ∷ text) blank fine =
    let parts = and_parts (first == 32) (are_blank field) blank in
    less_or_equal first byte (is_text_less field (next ∷ text)) parts.0 fine.0 (blank_less field next text parts.1 fine.1)

less_trimmed : (field text : List ℕ) → IsFine text → is_text_less field text ≡ is_text_less (trimmed field) text
less_trimmed field [] fine = refl
less_trimmed [] (byte ∷ text) fine = refl
less_trimmed (first ∷ field) (byte ∷ text) fine =
    by_blank (are_blank (first ∷ field)) refl (less_trimmed field text (fine_rest byte text fine))
  where
    by_blank : (blank : Bool) → are_blank (first ∷ field) ≡ blank → is_text_less field text ≡ is_text_less (trimmed field) text
        → is_text_less (first ∷ field) (byte ∷ text) ≡ is_text_less (if blank then [] else first ∷ trimmed field) (byte ∷ text)
    by_blank true is rest = blank_less (first ∷ field) byte text is fine
    by_blank false is rest = ap (λ (less : Bool). nat_lt first byte || first == byte && less) rest

-- a text is less than the text in a field, by their first bytes
greater_more : (first : ℕ) (field : List ℕ) (byte : ℕ) (text : List ℕ) → 32 ≤ byte
    → (nat_lt byte first || first == byte && is_text_less text (trimmed field)) ≡ is_text_less (byte ∷ text) (trimmed (first ∷ field))
greater_more first field byte text least = by_blank (are_blank (first ∷ field)) refl
  where
    by_blank : (blank : Bool) → are_blank (first ∷ field) ≡ blank
        → (nat_lt byte first || first == byte && is_text_less text (trimmed field))
        ≡ is_text_less (byte ∷ text) (if blank then [] else first ∷ trimmed field)
    by_blank true is =
        let parts = and_parts (first == 32) (are_blank field) is in
        not_greater first byte _ parts.0 least (ap (is_text_less text) (trimmed_blank field parts.1))
    by_blank false is = ap (λ (same : Bool). nat_lt byte first || same && is_text_less text (trimmed field)) (equal_swap first byte)

nothing_less : (first : ℕ) (field : List ℕ) → not (are_blank (first ∷ field)) ≡ is_text_less [] (trimmed (first ∷ field))
nothing_less first field = by_blank (are_blank (first ∷ field))
  where
    by_blank : (blank : Bool) → not blank ≡ is_text_less [] (if blank then [] else first ∷ trimmed field)
    by_blank true = refl
    by_blank false = refl

module _ (segment : SegmentParts) (is : IsSegment segment) where
  less_found : (at left : ℕ) (text : List ℕ) → at + left ≤ 228 → AreSmall text
      → answer (is_less at left text) segment ≡ is_text_less (take left (drop at segment.bytes)) text
  less_found at left [] within small = refl
  less_found at zero (byte ∷ text) within small = refl
  less_found at (suc left) (byte ∷ text) within small =
      either_answers (byte_answer segment is at Less byte (omega arith) small.0)
      (both_answers (byte_equals segment is at byte (omega arith) small.0) (less_found (at + 1) left text (omega arith) small.1))
      ∙ sym (ap (λ (field : List ℕ). is_text_less field (byte ∷ text)) (first_of segment is at left (omega arith)))

  greater_found : (at left : ℕ) (text : List ℕ) → at + left ≤ 228 → AreSmall text → IsFine text
      → answer (is_greater at left text) segment ≡ is_text_less text (trimmed (take left (drop at segment.bytes)))
  greater_found at zero text within small fine = refl
  greater_found at (suc left) [] within small fine =
      let first = first_of segment is at left (omega arith) in
      ap not (blank_found segment is at (suc left) within) ∙ ap (λ (field : List ℕ). not (are_blank field)) first
      ∙ nothing_less (get_or segment.bytes at 0) (take left (drop (at + 1) segment.bytes))
      ∙ sym (ap (λ (field : List ℕ). is_text_less [] (trimmed field)) first)
  greater_found at (suc left) (byte ∷ text) within small fine =
      let others = greater_found (at + 1) left text (omega arith) small.1 (fine_rest byte text fine) in
      either_answers (byte_answer segment is at Greater byte (omega arith) small.0)
      (both_answers (byte_equals segment is at byte (omega arith) small.0) others)
      ∙ greater_more (get_or segment.bytes at 0) (take left (drop (at + 1) segment.bytes)) byte text (fine_first byte text fine)
      ∙ sym (ap (λ (field : List ℕ). is_text_less (byte ∷ text) (trimmed field)) (first_of segment is at left (omega arith)))

-- Equality is LIKE without wildcards

like_same : (text required : List ℕ) → is_text_like (ending (map Exactly required) false) text ≡ is_same text required
like_same [] [] = refl
like_same (byte ∷ text) [] = refl
like_same [] (byte ∷ required) = refl
like_same (first ∷ text) (byte ∷ required) = ap (λ (rest : Bool). first == byte && rest) (like_same text required)

pub exactly_piece : (text : List ℕ) → AreSmall text → IsPiece (map Exactly text)
exactly_piece [] small = tt
exactly_piece (byte ∷ text) small = (record { single = refl; is_byte = lt-ltb byte 256 small.0 }, exactly_piece text small.1)

-- a blank field

same_blank : (text : List ℕ) → 1 ≤ length text → is_same [] text ≡ false
same_blank [] some = absurd (omega arith)
same_blank (byte ∷ text) some = refl

compares_blank : (comparison : Comparison) (text : List ℕ) → holds_of_blanks comparison ≡ false → 1 ≤ length text
    → text_compares comparison [] text ≡ false
compares_blank comparison [] fails some = absurd (omega arith)
compares_blank Equal (byte ∷ text) fails some = refl
compares_blank NotEqual (byte ∷ text) fails some = fails
compares_blank Less (byte ∷ text) fails some = fails
compares_blank LessOrEqual (byte ∷ text) fails some = fails
compares_blank Greater (byte ∷ text) fails some = refl
compares_blank GreaterOrEqual (byte ∷ text) fails some = refl

-- a property that the empty text doesn't have implies that the field isn't blank
unless_blank : (property : List ℕ → Bool) (field : List ℕ) → property [] ≡ false → has_text property field ≡ property (trimmed field)
unless_blank property field fails = by_blank (are_blank field) refl
  where
    by_blank : (blank : Bool) → are_blank field ≡ blank → (not blank && property (trimmed field)) ≡ property (trimmed field)
    by_blank true is = sym (ap property (trimmed_blank field is) ∙ fails)
    by_blank false is = refl

pub opposite_compares_text : (comparison : Comparison) (text other : List ℕ)
    → text_compares (opposite comparison) text other ≡ not (text_compares comparison text other)
opposite_compares_text Equal text other = refl
opposite_compares_text NotEqual text other = sym (not_not (is_same text other))
opposite_compares_text Less text other = refl
opposite_compares_text LessOrEqual text other = sym (not_not (is_text_less other text))
opposite_compares_text Greater text other = refl
opposite_compares_text GreaterOrEqual text other = sym (not_not (is_text_less text other))

module _ (segment : SegmentParts) (is : IsSegment segment) (field : Field) (lies : IsInside field) (text : List ℕ)
    (required : IsRequired text) where
  same_here : answer (is_piece field (map Exactly text) false) segment ≡ is_same (trimmed (bytes_in field segment)) text
  same_here =
      piece_found segment is field lies (map Exactly text) (exactly_piece text required.small) false
      ∙ ap (λ (like : Bool). not (are_blank (bytes_in field segment)) && like) (like_same (trimmed (bytes_in field segment)) text)
      ∙ unless_blank (λ found. is_same found text) (bytes_in field segment) (same_blank text required.some)

  less_here : answer (is_less field.offset field.width text) segment
      ≡ is_text_less (trimmed (bytes_in field segment)) text
  less_here =
      less_found segment is field.offset field.width text lies required.small
      ∙ less_trimmed (bytes_in field segment) text required.fine

  greater_here : answer (is_greater field.offset field.width text) segment
      ≡ is_text_less text (trimmed (bytes_in field segment))
  greater_here = greater_found segment is field.offset field.width text lies required.small required.fine

  bytes_compared : (comparison : Comparison) → answer (compares_bytes field comparison text) segment
      ≡ text_compares comparison (trimmed (bytes_in field segment)) text
  bytes_compared Equal = same_here
  bytes_compared NotEqual = ap not same_here
  bytes_compared Less = less_here
  bytes_compared LessOrEqual = ap not greater_here
  bytes_compared Greater = greater_here
  bytes_compared GreaterOrEqual = ap not less_here

  bytes_blank : (comparison : Comparison) → holds_of_blanks comparison ≡ false → are_blank (bytes_in field segment) ≡ true
      → answer (compares_bytes field comparison text) segment ≡ false
  bytes_blank comparison fails blank =
      bytes_compared comparison
      ∙ ap (λ (found : List ℕ). text_compares comparison found text) (trimmed_blank (bytes_in field segment) blank)
      ∙ compares_blank comparison text fails required.some

module _ (segment : SegmentParts) (is : IsSegment segment) (column : TextColumn) (text : List ℕ) (required : IsRequired text) where
  text_compared : (comparison : Comparison) → answer (compares_text column comparison text) segment
      ≡ has_text (λ found. text_compares comparison found text) (text_bytes column segment)
  text_compared comparison =
      about_found segment is (holds_of_blanks comparison) (λ field. compares_bytes field comparison text)
      (λ found. text_compares comparison found text)
      (λ field lies filled. bytes_compared segment is field lies text required comparison)
      (λ fails field lies blank. bytes_blank segment is field lies text required comparison fails blank) column

  compared_asked : (comparison : Comparison) (asked : Bool)
      → answer (compares_text column (if asked then comparison else opposite comparison) text) segment
      ≡ has_text (λ found. beq (text_compares comparison found text) asked) (text_bytes column segment)
  compared_asked comparison true =
      text_compared comparison ∙ ap (λ (holds : Bool). not (are_blank (text_bytes column segment)) && holds) (is_it _)
  compared_asked comparison false =
      text_compared (opposite comparison) ∙ ap (λ (holds : Bool). not (are_blank (text_bytes column segment)) && holds)
      (opposite_compares_text comparison (trimmed (text_bytes column segment)) text ∙ isnt_it _)

  -- a comparison with a column, asked for either truth value
  pub compares_text_rightly : (comparison : Comparison) (asked : Bool)
      → answer (compares_text column (if asked then comparison else opposite comparison) text) segment
      ≡ is_truth (option_map (λ found. text_compares comparison found text) (text_value column segment.bytes)) asked
  compares_text_rightly comparison asked =
      compared_asked comparison asked ∙ value_asked (λ found. text_compares comparison found text) column segment asked
