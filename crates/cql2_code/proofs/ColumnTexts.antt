-- The questions about two text columns are sound, and have the answers of a comparison.
use Rattle.std.proofs.Common.{◌≡◌, ℕ, zero, suc, ◌+◌, ◌≤◌, ◌<◌, ◌==◌, nat_lt, Bool, true, false, not, ◌&&◌, ◌||◌, List, [], ◌∷◌, take, drop}
use Rattle.std.proofs.Common.{get_or, Option, Some, None, if◌then◌else◌, refl, sym, ap, ◌∙◌, arith}
use Rattle.std.proofs.lemmas.Bool.{and_parts, false≢true}
use Rattle.std.proofs.lemmas.Bool.Decides.{nat_tests}
use Rattle.tl_fields.specs.Number.{is_blank as are_blank}
use Rattle.tl_segments.specs.Segment.{SegmentParts, IsSegment}
use Rattle.cql2.specs.Column.{text_value}
use Rattle.cql2.specs.Filter.{compares_text as text_compares}
use Rattle.cql2.specs.Text.{is_less as is_text_less, is_same}
use Rattle.cql2.specs.Truth.{if_both, is as is_truth}
use Rattle.cql2.specs.declared.column.TextColumn.{TextColumn}
use Rattle.cql2.specs.declared.filter.Comparison.{Comparison}
use Rattle.cql2.specs.declared.filter.Comparison.TheVariants.{Equal, NotEqual, Less, LessOrEqual, Greater, GreaterOrEqual}
use Rattle.cql2_code.specs.BytePairs.{compares_pair}
use Rattle.cql2_code.specs.Layout.{opposite}
use Rattle.cql2_code.specs.Lowering.{asks_about, compares_columns, compares_fields, is_less_field, is_same_field}
use Rattle.cql2_code.specs.Question.{answer}
use Rattle.cql2_code.specs.declared.field.Field.{Field}
use Rattle.cql2_code.proofs.ByteLemmas.{blank_found, equal_numbers, first_of}
use Rattle.cql2_code.proofs.FieldLemmas.{IsInside, bytes_in, has_text, text_in}
use Rattle.cql2_code.proofs.JoinLemmas.{both_answers, either_answers, is_it, isnt_it}
use Rattle.cql2_code.proofs.PairLemmas.{pair_answer}
use Rattle.cql2_code.proofs.TextColumnLemmas.{about_found, text_bytes, text_value_is}
use Rattle.cql2_code.proofs.TextLemmas.{opposite_compares_text}
use Rattle.cql2_code.proofs.TrimLemmas.{trimmed, trimmed_blank}

-- texts in fields, by their first bytes

same_none : (field : List ℕ) → are_blank field ≡ is_same [] (trimmed field)
same_none [] = refl
same_none (byte ∷ field) = by_blank (are_blank (byte ∷ field))
  where
    by_blank : (blank : Bool) → blank ≡ is_same [] (if blank then [] else byte ∷ trimmed field)
    by_blank true = refl
    by_blank false = refl

none_same : (field : List ℕ) → are_blank field ≡ is_same (trimmed field) []
none_same [] = refl
none_same (byte ∷ field) = by_blank (are_blank (byte ∷ field))
  where
    by_blank : (blank : Bool) → blank ≡ is_same (if blank then [] else byte ∷ trimmed field) []
    by_blank true = refl
    by_blank false = refl

less_none : (field : List ℕ) → false ≡ is_text_less (trimmed field) []
less_none [] = refl
less_none (byte ∷ field) = by_blank (are_blank (byte ∷ field))
  where
    by_blank : (blank : Bool) → false ≡ is_text_less (if blank then [] else byte ∷ trimmed field) []
    by_blank true = refl
    by_blank false = refl

none_less : (field : List ℕ) → not (are_blank field) ≡ is_text_less [] (trimmed field)
none_less [] = refl
none_less (byte ∷ field) = by_blank (are_blank (byte ∷ field))
  where
    by_blank : (blank : Bool) → not blank ≡ is_text_less [] (if blank then [] else byte ∷ trimmed field)
    by_blank true = refl
    by_blank false = refl

less_more : (x : ℕ) (field : List ℕ) (y : ℕ) (other : List ℕ)
    → (not (are_blank (y ∷ other)) && (are_blank (x ∷ field) || (nat_lt x y || x == y && is_text_less (trimmed field) (trimmed other))))
    ≡ is_text_less (trimmed (x ∷ field)) (trimmed (y ∷ other))
less_more x field y other = by_blank (are_blank (x ∷ field)) (are_blank (y ∷ other))
  where
    by_blank : (blank blank_too : Bool)
        → (not blank_too && (blank || (nat_lt x y || x == y && is_text_less (trimmed field) (trimmed other))))
        ≡ is_text_less (if blank then [] else x ∷ trimmed field) (if blank_too then [] else y ∷ trimmed other)
    by_blank true true = refl
    by_blank true false = refl
    by_blank false true = refl
    by_blank false false = refl

both_blank : (x y : ℕ) → (x == 32) ≡ true → (y == 32) ≡ true → (x == y && true) ≡ true
both_blank x y first second = grind (arith, nat_tests)

one_blank : (x y : ℕ) (rest : Bool) → (x == 32) ≡ true → (y == 32 && rest) ≡ false → (x == y && rest) ≡ false
one_blank x y rest first second = grind (arith, nat_tests)

other_blank : (x y : ℕ) (rest : Bool) → (y == 32) ≡ true → (x == 32 && rest) ≡ false → (x == y && rest) ≡ false
other_blank x y rest first second = grind (arith, nat_tests)

same_more : (x : ℕ) (field : List ℕ) (y : ℕ) (other : List ℕ)
    → (x == y && is_same (trimmed field) (trimmed other)) ≡ is_same (trimmed (x ∷ field)) (trimmed (y ∷ other))
same_more x field y other = by_blank (are_blank (x ∷ field)) (are_blank (y ∷ other)) refl refl
  where
    by_blank : (blank blank_too : Bool) → are_blank (x ∷ field) ≡ blank → are_blank (y ∷ other) ≡ blank_too
        → (x == y && is_same (trimmed field) (trimmed other))
        ≡ is_same (if blank then [] else x ∷ trimmed field) (if blank_too then [] else y ∷ trimmed other)
    by_blank true true is is_too =
        let parts = and_parts (x == 32) (are_blank field) is in
        let parts_too = and_parts (y == 32) (are_blank other) is_too in
        ap (λ (text : List ℕ). x == y && is_same text (trimmed other)) (trimmed_blank field parts.1)
        ∙ ap (λ (text : List ℕ). x == y && is_same [] text) (trimmed_blank other parts_too.1) ∙ both_blank x y parts.0 parts_too.0
    by_blank true false is is_too =
        let parts = and_parts (x == 32) (are_blank field) is in
        ap (λ (text : List ℕ). x == y && is_same text (trimmed other)) (trimmed_blank field parts.1)
        ∙ ap (λ (rest : Bool). x == y && rest) (sym (same_none other)) ∙ one_blank x y (are_blank other) parts.0 is_too
    by_blank false true is is_too =
        let parts = and_parts (y == 32) (are_blank other) is_too in
        ap (λ (text : List ℕ). x == y && is_same (trimmed field) text) (trimmed_blank other parts.1)
        ∙ ap (λ (rest : Bool). x == y && rest) (sym (none_same field)) ∙ other_blank x y (are_blank field) parts.0 is
    by_blank false false is is_too = refl

module _ (segment : SegmentParts) (is : IsSegment segment) where
  -- the bytes of a field
  abbrev bytes_at : ℕ → ℕ → List ℕ
  bytes_at at left = take left (drop at segment.bytes)

  pair_equals : (at other : ℕ) → at < 228 → other < 228
      → answer (compares_pair at Equal other) segment ≡ (get_or segment.bytes at 0 == get_or segment.bytes other 0)
  pair_equals at other within inside =
      pair_answer segment is at Equal other within inside ∙ equal_numbers (get_or segment.bytes at 0) (get_or segment.bytes other 0)

  same_found : (at left other more : ℕ) → at + left ≤ 228 → other + more ≤ 228
      → answer (is_same_field at left other more) segment ≡ is_same (trimmed (bytes_at at left)) (trimmed (bytes_at other more))
  same_found at zero other more within inside = blank_found segment is other more inside ∙ same_none (bytes_at other more)
  same_found at (suc left) other zero within inside = blank_found segment is at (suc left) within ∙ none_same (bytes_at at (suc left))
  same_found at (suc left) other (suc more) within inside =
      both_answers (pair_equals at other (omega arith) (omega arith)) (same_found (at + 1) left (other + 1) more (omega arith) (omega arith))
      ∙ same_more (get_or segment.bytes at 0) (bytes_at (at + 1) left) (get_or segment.bytes other 0) (bytes_at (other + 1) more)
      ∙ ap (λ (field : List ℕ). is_same (trimmed field) (trimmed (get_or segment.bytes other 0 ∷ bytes_at (other + 1) more)))
      (sym (first_of segment is at left (omega arith)))
      ∙ ap (λ (field : List ℕ). is_same (trimmed (bytes_at at (suc left))) (trimmed field)) (sym (first_of segment is other more (omega arith)))

  less_found : (at left other more : ℕ) → at + left ≤ 228 → other + more ≤ 228
      → answer (is_less_field at left other more) segment ≡ is_text_less (trimmed (bytes_at at left)) (trimmed (bytes_at other more))
  less_found at zero other zero within inside = less_none (bytes_at at 0)
  less_found at (suc left) other zero within inside = less_none (bytes_at at (suc left))
  less_found at zero other (suc more) within inside =
      ap not (blank_found segment is other (suc more) inside) ∙ none_less (bytes_at other (suc more))
  less_found at (suc left) other (suc more) within inside =
      let here = first_of segment is at left (omega arith) in
      let there = first_of segment is other more (omega arith) in
      both_answers
      (ap not (blank_found segment is other (suc more) inside ∙ ap are_blank there))
      (either_answers (blank_found segment is at (suc left) within ∙ ap are_blank here)
      (either_answers (pair_answer segment is at Less other (omega arith) (omega arith))
      (both_answers (pair_equals at other (omega arith) (omega arith))
      (less_found (at + 1) left (other + 1) more (omega arith) (omega arith)))))
      ∙ less_more (get_or segment.bytes at 0) (bytes_at (at + 1) left) (get_or segment.bytes other 0) (bytes_at (other + 1) more)
      ∙ ap (λ (field : List ℕ). is_text_less (trimmed field) (trimmed (get_or segment.bytes other 0 ∷ bytes_at (other + 1) more))) (sym here)
      ∙ ap (λ (field : List ℕ). is_text_less (trimmed (bytes_at at (suc left))) (trimmed field)) (sym there)

  fields_compared : (first second : Field) → IsInside first → IsInside second → (comparison : Comparison)
      → answer (compares_fields first comparison second) segment
      ≡ text_compares comparison (trimmed (bytes_in first segment)) (trimmed (bytes_in second segment))
  fields_compared first second lies lies_too Equal = same_found _ _ _ _ lies lies_too
  fields_compared first second lies lies_too NotEqual = ap not (same_found _ _ _ _ lies lies_too)
  fields_compared first second lies lies_too Less = less_found _ _ _ _ lies lies_too
  fields_compared first second lies lies_too LessOrEqual = ap not (less_found _ _ _ _ lies_too lies)
  fields_compared first second lies lies_too Greater = less_found _ _ _ _ lies_too lies
  fields_compared first second lies lies_too GreaterOrEqual = ap not (less_found _ _ _ _ lies lies_too)

-- a comparison of two texts, each of which may be missing
both_filled : (comparison : Comparison) (blank blank_too : Bool) (text text_too : List ℕ)
    → (not blank && (not blank_too && text_compares comparison text text_too))
    ≡ is_truth (if_both (text_compares comparison) (if blank then None else Some text) (if blank_too then None else Some text_too)) true
both_filled comparison true blank_too text text_too = refl
both_filled comparison false true text text_too = refl
both_filled comparison false false text text_too = is_it _

opposite_of_both : (comparison : Comparison) (left right : Option (List ℕ))
    → is_truth (if_both (text_compares (opposite comparison)) left right) true ≡ is_truth (if_both (text_compares comparison) left right) false
opposite_of_both comparison None right = refl
opposite_of_both comparison (Some text) None = refl
opposite_of_both comparison (Some text) (Some other) =
    sym (is_it _) ∙ opposite_compares_text comparison text other ∙ isnt_it (text_compares comparison text other)

module _ (segment : SegmentParts) (is : IsSegment segment) (first second : TextColumn) where
  -- a text is compared with a column
  column_compared : (field : Field) → IsInside field → (comparison : Comparison)
      → answer (asks_about true (compares_fields field comparison) second) segment
      ≡ has_text (text_compares comparison (trimmed (bytes_in field segment))) (text_bytes second segment)
  column_compared field lies comparison =
      about_found segment is true (compares_fields field comparison) (text_compares comparison (trimmed (bytes_in field segment)))
      (λ other inside filled. fields_compared segment is field other lies inside comparison) (λ of. absurd (false≢true (sym of))) second

  columns_compared : (comparison : Comparison) → answer (compares_columns first comparison second) segment
      ≡ is_truth (if_both (text_compares comparison) (text_value first segment.bytes) (text_value second segment.bytes)) true
  columns_compared comparison =
      about_found segment is true (λ field. asks_about true (compares_fields field comparison) second)
      (λ text. has_text (text_compares comparison text) (text_bytes second segment))
      (λ field lies filled. column_compared field lies comparison) (λ of. absurd (false≢true (sym of))) first
      ∙ both_filled comparison (are_blank (text_bytes first segment)) (are_blank (text_bytes second segment)) (trimmed (text_bytes first segment))
      (trimmed (text_bytes second segment))
      ∙ ap (λ (text : Option (List ℕ)). is_truth (if_both (text_compares comparison) text (text_in (text_bytes second segment))) true)
      (sym (text_value_is first segment))
      ∙ ap (λ (text : Option (List ℕ)). is_truth (if_both (text_compares comparison) (text_value first segment.bytes) text) true)
      (sym (text_value_is second segment))

  -- a comparison of two columns, asked for either truth value
  pub compares_columns_rightly : (comparison : Comparison) (asked : Bool)
      → answer (compares_columns first (if asked then comparison else opposite comparison) second) segment
      ≡ is_truth (if_both (text_compares comparison) (text_value first segment.bytes) (text_value second segment.bytes)) asked
  compares_columns_rightly comparison true = columns_compared comparison
  compares_columns_rightly comparison false =
      columns_compared (opposite comparison)
      ∙ opposite_of_both comparison (text_value first segment.bytes) (text_value second segment.bytes)
