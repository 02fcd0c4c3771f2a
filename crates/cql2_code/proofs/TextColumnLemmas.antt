-- The questions about the texts of columns, which in some columns begin after blanks.
use Rattle.std.proofs.Common.{◌≡◌, ℕ, zero, suc, ◌+◌, ◌<◌, ◌≤◌, ◌==◌, Bool, true, false, not, ◌&&◌, ◌||◌, List, [], ◌∷◌, take, drop, get_or, Option, Some, None}
use Rattle.std.proofs.Common.{option_map, is_none, if◌then◌else◌, refl, sym, ap, ◌∙◌, arith, lit≤}
use Rattle.std.specs.Bool.{beq}
use Rattle.tl_fields.specs.Number.{is_blank as are_blank, trim, without_blanks_before}
use Rattle.tl_records.specs.Layout.{field_at}
use Rattle.tl_segments.specs.Segment.{SegmentParts, IsSegment}
use Rattle.cql2.specs.Column.{is_right_justified, text_in as column_text, text_places, text_value, trim_end}
use Rattle.cql2.specs.Truth.{is as is_truth}
use Rattle.cql2.specs.declared.column.TextColumn.{TextColumn}
use Rattle.cql2.specs.declared.column.TextColumn.TheVariants.{Rt}
use Rattle.cql2.specs.declared.filter.Comparison.TheVariants.{NotEqual}
use Rattle.cql2_code.specs.Lowering.{asks_about, asks_without_blanks_before, byte_test, field_of, is_blank_field}
use Rattle.cql2_code.specs.Question.{Joined, Opposite, Question, answer}
use Rattle.cql2_code.specs.declared.field.Field.{Field}
use Rattle.cql2_code.proofs.ByteLemmas.{byte_answer, byte_equals, equal_numbers, first_of}
use Rattle.cql2_code.proofs.FieldLemmas.{IsInside, bytes_in, has_text, null_found, text_asked, text_in, text_null}
use Rattle.cql2_code.proofs.JoinLemmas.{both_answers, either_answers}
use Rattle.cql2_code.proofs.TrimLemmas.{trim_end_is, trimmed}

-- a column's field is within the record
pub column_within : (column : TextColumn) → IsInside (field_of column)
column_within Rt = lit≤ tt
column_within column = lit≤ tt

field_at_is : (column : TextColumn) (segment : SegmentParts)
    → field_at (text_places column) segment.bytes ≡ bytes_in (field_of column) segment
field_at_is Rt segment = refl
field_at_is column segment = refl

-- the bytes of a column from where its text begins
abbrev pub text_bytes : TextColumn → SegmentParts → List ℕ
text_bytes column segment =
    if is_right_justified column then without_blanks_before (bytes_in (field_of column) segment) else bytes_in (field_of column) segment

blank_before : (field : List ℕ) → are_blank (without_blanks_before field) ≡ are_blank field
blank_before [] = refl
blank_before (byte ∷ field) = by_byte (blank_before field) (byte == 32) refl
  where
    by_byte : are_blank (without_blanks_before field) ≡ are_blank field → (blank : Bool) → (byte == 32) ≡ blank
        → are_blank (if blank then without_blanks_before field else byte ∷ field) ≡ (blank && are_blank field)
    by_byte rest true is = rest
    by_byte rest false is = ap (λ (blank : Bool). blank && are_blank field) is

text_is : (right : Bool) (field : List ℕ)
    → (if are_blank field then None else Some (if right then trim field else trim_end field))
    ≡ text_in (if right then without_blanks_before field else field)
text_is true field =
    ap (λ (text : List ℕ). if are_blank field then None else Some text) (trim_end_is (without_blanks_before field))
    ∙ ap (λ (blank : Bool). if blank then None else Some (trimmed (without_blanks_before field))) (sym (blank_before field))
text_is false field = ap (λ (text : List ℕ). if are_blank field then None else Some text) (trim_end_is field)

pub text_value_is : (column : TextColumn) (segment : SegmentParts) → text_value column segment.bytes ≡ text_in (text_bytes column segment)
text_value_is column segment =
    ap (λ (field : List ℕ). if are_blank field then None else Some (column_text column field)) (field_at_is column segment)
    ∙ text_is (is_right_justified column) (bytes_in (field_of column) segment)

-- whether a column's value has the property, asked for either truth value
pub value_asked : (property : List ℕ → Bool) (column : TextColumn) (segment : SegmentParts) (asked : Bool)
    → has_text (λ text. beq (property text) asked) (text_bytes column segment)
    ≡ is_truth (option_map property (text_value column segment.bytes)) asked
value_asked property column segment asked =
    text_asked property (text_bytes column segment) asked
    ∙ sym (ap (λ (text : Option (List ℕ)). is_truth (option_map property text) asked) (text_value_is column segment))

null_is : (right : Bool) (field : List ℕ) → are_blank (if right then without_blanks_before field else field) ≡ are_blank field
null_is true field = blank_before field
null_is false field = refl

pub column_null : (segment : SegmentParts) → IsSegment segment → (column : TextColumn)
    → answer (is_blank_field (field_of column)) segment ≡ is_none (text_value column segment.bytes)
column_null segment is column =
    null_found segment is (field_of column) (column_within column)
    ∙ sym (null_is (is_right_justified column) (bytes_in (field_of column) segment))
    ∙ sym (text_null (text_bytes column segment)) ∙ sym (ap is_none (text_value_is column segment))

or_false : (a : Bool) → (a || false) ≡ a
or_false true = refl
or_false false = refl

-- A question has the answer of a property of the text in a field, if the field isn't blank. If it is blank, the answer is no, unless blanks are
-- excluded.
module _ (segment : SegmentParts) (is : IsSegment segment) (of_blanks : Bool) (ask : Field → Question) (property : List ℕ → Bool)
    (asked : (field : Field) → IsInside field → are_blank (bytes_in field segment) ≡ false
    → answer (ask field) segment ≡ property (trimmed (bytes_in field segment)))
    (no_blanks : of_blanks ≡ false → (field : Field) → IsInside field → are_blank (bytes_in field segment) ≡ true
    → answer (ask field) segment ≡ false) where
  -- the bytes of a part of the record
  abbrev bytes_at : ℕ → ℕ → List ℕ
  bytes_at at left = take left (drop at segment.bytes)

  byte_differs : (at : ℕ) → at < 228 → answer (byte_test at NotEqual 32) segment ≡ not (get_or segment.bytes at 0 == 32)
  byte_differs at within =
      byte_answer segment is at NotEqual 32 within (omega arith) ∙ ap not (equal_numbers (get_or segment.bytes at 0) 32)

  -- a blank first byte isn't part of the text, and any other one begins it
  chosen : (at left : ℕ) → at + suc left ≤ 228 → (blank : Bool) → (get_or segment.bytes at 0 == 32) ≡ blank
      → ((not blank && answer (ask (record { offset = at; width = suc left })) segment)
      || (blank && has_text property (without_blanks_before (bytes_at (at + 1) left))))
      ≡ has_text property (if blank then without_blanks_before (bytes_at (at + 1) left) else get_or segment.bytes at 0 ∷ bytes_at (at + 1) left)
  chosen at left lies true is_blank = refl
  chosen at left lies false is_blank =
      let first = first_of segment is at left (omega arith) in
      let filled = ap (λ (blank : Bool). blank && are_blank (bytes_at (at + 1) left)) is_blank in
      or_false (answer (ask (record { offset = at; width = suc left })) segment)
      ∙ asked (record { offset = at; width = suc left }) lies (ap are_blank first ∙ filled)
      ∙ ap (λ (field : List ℕ). property (trimmed field)) first
      ∙ sym (ap (λ (blank : Bool). not blank && property (trimmed (get_or segment.bytes at 0 ∷ bytes_at (at + 1) left))) filled)

  without_found : (at left : ℕ) → at + left ≤ 228
      → answer (asks_without_blanks_before ask at left) segment ≡ has_text property (without_blanks_before (bytes_at at left))
  without_found at zero lies = refl
  without_found at (suc left) lies =
      either_answers (both_answers (byte_differs at (omega arith)) refl)
      (both_answers (byte_equals segment is at 32 (omega arith) (omega arith)) (without_found (at + 1) left (omega arith)))
      ∙ chosen at left lies (get_or segment.bytes at 0 == 32) refl
      ∙ sym (ap (λ (field : List ℕ). has_text property (without_blanks_before field)) (first_of segment is at left (omega arith)))

  -- the text begins with the field
  filled_by : (field : Field) → IsInside field → (blanks : Bool) → of_blanks ≡ blanks
      → answer (if blanks then Joined true (Opposite (is_blank_field field)) (ask field) else ask field) segment
      ≡ has_text property (bytes_in field segment)
  filled_by field lies true are =
      both_answers (ap not (null_found segment is field lies)) refl ∙ by_blank (are_blank (bytes_in field segment)) refl
    where
      by_blank : (blank : Bool) → are_blank (bytes_in field segment) ≡ blank
          → (not blank && answer (ask field) segment) ≡ (not blank && property (trimmed (bytes_in field segment)))
      by_blank true blank = refl
      by_blank false blank = asked field lies blank
  filled_by field lies false are = by_blank (are_blank (bytes_in field segment)) refl
    where
      by_blank : (blank : Bool) → are_blank (bytes_in field segment) ≡ blank
          → answer (ask field) segment ≡ (not blank && property (trimmed (bytes_in field segment)))
      by_blank true blank = no_blanks are field lies blank
      by_blank false blank = asked field lies blank

  about_by : (right : Bool) (field : Field) → IsInside field
      → answer (if right then asks_without_blanks_before ask field.offset field.width
      else if of_blanks then Joined true (Opposite (is_blank_field field)) (ask field)
      else ask field) segment
      ≡ has_text property (if right then without_blanks_before (bytes_in field segment) else bytes_in field segment)
  about_by true field lies = without_found field.offset field.width lies
  about_by false field lies = filled_by field lies of_blanks refl

  pub about_found : (column : TextColumn)
      → answer (asks_about of_blanks ask column) segment ≡ has_text property (text_bytes column segment)
  about_found column = about_by (is_right_justified column) (field_of column) (column_within column)
