-- The truth of a filter on a segment (CQL2, 21-065r2: an expression is true, false or NULL). A filter selects a segment if it is true on it.
use Rattle.std.specs.Prelude.{ℕ, Bool, true, false, not, List, Option, Some, None, is_none, option_map}
use Rattle.std.specs.Bool.{beq}
use Rattle.tl_segments.specs.Segment.{SegmentParts}
use Rattle.cql2.specs.Column.{numeric_value, text_value}
use Rattle.cql2.specs.Expression.{value_of}
use Rattle.cql2.specs.Filter.{compares, compares_text}
use Rattle.cql2.specs.Function.{truth_of}
use Rattle.cql2.specs.Pattern.{is_like}
use Rattle.cql2.specs.declared.column.Column.{Column}
use Rattle.cql2.specs.declared.column.Column.TheVariants.{Numeric, Text}
use Rattle.cql2.specs.declared.filter.Filter.{Filter}
use Rattle.cql2.specs.declared.filter.Filter.TheVariants.{Constant, And', Or', Not', IsNull, CompareNumber, CompareNumbers, CompareText, CompareTexts, Like}
use Rattle.cql2.specs.declared.filter.Filter.TheVariants.{Function}

-- the truth tables of AND, OR and NOT: false decides AND, and true decides OR, whatever the other operand is
abbrev pub and : Option Bool → Option Bool → Option Bool
and (Some true) other = other
and (Some false) other = Some false
and None (Some false) = Some false
and None (Some true) = None
and None None = None

abbrev pub or : Option Bool → Option Bool → Option Bool
or (Some true) other = Some true
or (Some false) other = other
or None (Some true) = Some true
or None (Some false) = None
or None None = None

abbrev pub negation : Option Bool → Option Bool
negation truth = option_map not truth

abbrev pub is_null : Column → List ℕ → Bool
is_null (Numeric column) line = is_none (numeric_value column line)
is_null (Text column) line = is_none (text_value column line)

-- a comparison of two values is unknown if one of them is NULL
abbrev pub if_both : {T : Type 0} → (T → T → Bool) → Option T → Option T → Option Bool
if_both compare (Some x) (Some y) = Some (compare x y)
if_both compare x y = None

-- the truth of a filter; none if it is neither true nor false
abbrev pub truth : {A : Type 0} → Filter A → SegmentParts → Option Bool
truth (Constant value) segment = Some value
truth (And' p first q second) segment = and (truth first segment) (truth second segment)
truth (Or' p first q second) segment = or (truth first segment) (truth second segment)
truth (Not' p inner) segment = negation (truth inner segment)
truth (IsNull column) segment = Some (is_null column segment.bytes)
truth (CompareNumber column comparison literal) segment =
    option_map (λ value. compares comparison value literal.number) (numeric_value column segment.bytes)
truth (CompareNumbers first comparison second) segment =
    if_both (compares comparison) (value_of first.expression segment.bytes) (value_of second.expression segment.bytes)
truth (CompareText column comparison text) segment =
    option_map (λ value. compares_text comparison value text.bytes.items) (text_value column segment.bytes)
truth (CompareTexts first comparison second) segment =
    if_both (compares_text comparison) (text_value first segment.bytes) (text_value second segment.bytes)
truth (Like column pattern) segment =
    option_map (λ value. is_like pattern.parts.items value) (text_value column segment.bytes)
truth (Function function) segment = truth_of function segment

-- the truth is known to be this
abbrev pub is : Option Bool → Bool → Bool
is None asked = false
is (Some truth) asked = beq truth asked

-- a filter selects a segment
abbrev pub selects : {A : Type 0} → Filter A → SegmentParts → Bool
selects filter segment = is (truth filter segment) true
