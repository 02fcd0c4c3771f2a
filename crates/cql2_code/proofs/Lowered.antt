-- A filter's questions have the answers that its truth determines.
use Rattle.std.proofs.Common.{◌≡◌, Bool, not, refl, ap, ◌∙◌}
use Rattle.std.specs.Bool.{beq}
use Rattle.tl_segments.specs.Segment.{SegmentParts, IsSegment}
use Rattle.cql2.specs.Column.{numeric_value}
use Rattle.cql2.specs.Truth.{is, is_null as is_column_null, truth}
use Rattle.cql2.specs.declared.column.Column.{Column}
use Rattle.cql2.specs.declared.column.Column.TheVariants.{Numeric, Text}
use Rattle.cql2.specs.declared.filter.Filter.{Filter}
use Rattle.cql2.specs.declared.filter.Filter.TheVariants.{Constant, And', Or', Not', IsNull, CompareNumber, CompareNumbers, CompareText, CompareTexts}
use Rattle.cql2.specs.declared.filter.Filter.TheVariants.{Like, Function}
use Rattle.cql2_code.specs.Lowering.{asks_whether, is_null}
use Rattle.cql2_code.specs.Question.{answer}
use Rattle.cql2_code.proofs.ColumnTexts.{compares_columns_rightly}
use Rattle.cql2_code.proofs.ExactLemmas.{exact_bounded}
use Rattle.cql2_code.proofs.ExpressionLemmas.{compares_numbers_rightly}
use Rattle.cql2_code.proofs.FunctionLemmas.{function_rightly}
use Rattle.cql2_code.proofs.JoinLemmas.{and_joins, asked_answers, joined_answers, not_exchanges, or_joins}
use Rattle.cql2_code.proofs.LikeLemmas.{asks_like_rightly}
use Rattle.cql2_code.proofs.NumberLemmas.{compares_number_rightly, has_value_rightly, none_is}
use Rattle.cql2_code.proofs.TextColumnLemmas.{column_null}
use Rattle.cql2_code.proofs.TextLemmas.{compares_text_rightly, text_required}

null_rightly : (segment : SegmentParts) → IsSegment segment → (column : Column)
    → answer (is_null column) segment ≡ is_column_null column segment.bytes
null_rightly segment is (Numeric column) = ap not (has_value_rightly column segment) ∙ none_is (numeric_value column segment.bytes)
null_rightly segment is (Text column) = column_null segment is column

-- the questions whether a filter is true and whether it is false
pub asks_rightly : {A : Type 0} (segment : SegmentParts) → IsSegment segment → (filter : Filter A) (asked : Bool)
    → answer (asks_whether filter asked) segment ≡ is (truth filter segment) asked
asks_rightly segment is (Constant value) asked = refl
asks_rightly segment is (And' p first q second) asked =
    joined_answers asked (asks_rightly segment is first asked) (asks_rightly segment is second asked)
    ∙ and_joins (truth first segment) (truth second segment) asked
asks_rightly segment is (Or' p first q second) asked =
    joined_answers (not asked) (asks_rightly segment is first asked) (asks_rightly segment is second asked)
    ∙ or_joins (truth first segment) (truth second segment) asked
asks_rightly segment is (Not' p inner) asked = asks_rightly segment is inner (not asked) ∙ not_exchanges (truth inner segment) asked
asks_rightly segment is (IsNull column) asked =
    asked_answers (is_null column) segment asked ∙ ap (λ (null : Bool). beq null asked) (null_rightly segment is column)
asks_rightly segment is (CompareNumber column comparison literal) asked =
    compares_number_rightly column comparison literal.number segment literal.fits asked
asks_rightly segment is (CompareNumbers first comparison second) asked =
    compares_numbers_rightly first.expression second.expression segment (exact_bounded first.expression first.is_exact)
    (exact_bounded second.expression second.is_exact) comparison asked
asks_rightly segment is (CompareTexts first comparison second) asked = compares_columns_rightly segment is first second comparison asked
asks_rightly segment is (CompareText column comparison text) asked =
    compares_text_rightly segment is column text.bytes.items (text_required text.bytes.items text.is_text) comparison asked
asks_rightly segment is (Like column pattern) asked =
    asks_like_rightly segment is column pattern.parts.items pattern.are_bytes asked
asks_rightly segment is (Function function) asked = function_rightly segment is function asked
