-- The content of a filter, regardless of where its parts are in memory.
use Rattle.std.specs.Prelude.{ℕ, ℤ, Bool, List}
use Rattle.cql2.specs.declared.column.Column.{Column}
use Rattle.cql2.specs.declared.column.NumericColumn.{NumericColumn}
use Rattle.cql2.specs.declared.column.TextColumn.{TextColumn}
use Rattle.cql2.specs.declared.filter.Comparison.{Comparison}
use Rattle.cql2.specs.declared.filter.Filter.{Filter}
use Rattle.cql2.specs.declared.filter.Filter.TheVariants as filter
use Rattle.cql2.specs.declared.pattern.PatternPart.{PatternPart}
use Rattle.cql2_text.specs.ExpressionContent.{ExpressionContent, expression_content}
use Rattle.cql2_text.specs.Function.{FunctionContent, function_content}

pub data Content : Type 0 where
  Constant : Bool → Content
  And : Content → Content → Content
  Or : Content → Content → Content
  Not : Content → Content
  IsNull : Column → Content
  CompareNumber : NumericColumn → Comparison → ℤ → Content
  CompareNumbers : ExpressionContent → Comparison → ExpressionContent → Content
  CompareText : TextColumn → Comparison → List ℕ → Content
  CompareTexts : TextColumn → Comparison → TextColumn → Content
  Like : TextColumn → List PatternPart → Content
  Function : FunctionContent → Content

abbrev pub content : {A : Type 0} → Filter A → Content
content (filter.Constant value) = Constant value
content (filter.And' p first q second) = And (content first) (content second)
content (filter.Or' p first q second) = Or (content first) (content second)
content (filter.Not' p inner) = Not (content inner)
content (filter.IsNull column) = IsNull column
content (filter.CompareNumber column comparison literal) = CompareNumber column comparison literal.number
content (filter.CompareNumbers first comparison second) =
    CompareNumbers (expression_content first.expression) comparison (expression_content second.expression)
content (filter.CompareText column comparison text) = CompareText column comparison text.bytes.items
content (filter.CompareTexts first comparison second) = CompareTexts first comparison second
content (filter.Like column pattern) = Like column pattern.parts.items
content (filter.Function function) = Function (function_content function)
