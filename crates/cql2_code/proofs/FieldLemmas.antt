-- Fields of the record, and the texts in them.
use Rattle.std.proofs.Common.{◌≡◌, ℕ, ◌+◌, ◌-◌, ◌≤◌, Bool, true, false, not, ◌&&◌, List, length, take, drop, Option, Some, None}
use Rattle.std.proofs.Common.{option_map, is_none, if◌then◌else◌, refl, sym, ap, ◌∙◌, arith, length-take, length-drop}
use Rattle.std.specs.Bool.{beq}
use Rattle.std.proofs.lemmas.List.{drop-drop, drop-take}
use Rattle.tl_fields.specs.Number.{is_blank as are_blank}
use Rattle.tl_segments.specs.Segment.{SegmentParts, IsSegment}
use Rattle.cql2.specs.Truth.{is as is_truth}
use Rattle.cql2_code.specs.Lowering.{is_blank, is_blank_field}
use Rattle.cql2_code.specs.Question.{answer}
use Rattle.cql2_code.specs.declared.field.Field.{Field}
use Rattle.cql2_code.proofs.ByteLemmas.{blank_found}
use Rattle.cql2_code.proofs.TrimLemmas.{trimmed}

-- a field is within the record
abbrev pub IsInside : Field → Type 0
IsInside field = field.offset + field.width ≤ 228

-- the bytes of a field
abbrev pub bytes_in : Field → SegmentParts → List ℕ
bytes_in field segment = take field.width (drop field.offset segment.bytes)

-- the text in a field, if it isn't blank
abbrev pub text_in : List ℕ → Option (List ℕ)
text_in field = if are_blank field then None else Some (trimmed field)

-- the field isn't blank, and its text has the property
abbrev pub has_text : (List ℕ → Bool) → List ℕ → Bool
has_text property field = not (are_blank field) && property (trimmed field)

pub text_asked : (property : List ℕ → Bool) (field : List ℕ) (asked : Bool)
    → has_text (λ text. beq (property text) asked) field ≡ is_truth (option_map property (text_in field)) asked
text_asked property field asked = by_blank (are_blank field)
  where
    by_blank : (blank : Bool)
        → (not blank && beq (property (trimmed field)) asked)
        ≡ is_truth (option_map property (if blank then None else Some (trimmed field))) asked
    by_blank true = refl
    by_blank false = refl

pub text_null : (field : List ℕ) → is_none (text_in field) ≡ are_blank field
text_null field = by_blank (are_blank field)
  where
    by_blank : (blank : Bool) → is_none (if blank then None else Some (trimmed field)) ≡ blank
    by_blank true = refl
    by_blank false = refl

module _ (segment : SegmentParts) (is : IsSegment segment) (field : Field) (lies : IsInside field) where
  pub field_long : length (bytes_in field segment) ≡ field.width
  field_long = omega (
    arith,
    is.bytes.length,
    length-take field.width (drop field.offset segment.bytes),
    length-drop field.offset segment.bytes,
  )

  -- the rest of a field after some bytes is blank
  pub rest_found : (count : ℕ) → count ≤ field.width
      → answer (is_blank (field.offset + count) (field.width - count)) segment ≡ are_blank (drop count (bytes_in field segment))
  rest_found count few =
      let rest = field.width - count in
      let whole : count + rest ≡ field.width = omega arith in
      blank_found segment is (field.offset + count) rest (omega arith)
      ∙ ap (λ (bytes : List ℕ). are_blank (take rest bytes)) (sym (drop-drop count field.offset segment.bytes))
      ∙ ap are_blank (sym (drop-take count rest (drop field.offset segment.bytes)))
      ∙ ap (λ (width : ℕ). are_blank (drop count (take width (drop field.offset segment.bytes)))) whole

  pub null_found : answer (is_blank_field field) segment ≡ are_blank (bytes_in field segment)
  null_found = blank_found segment is field.offset field.width lies
