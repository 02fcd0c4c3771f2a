-- The content of a numeric expression, regardless of where its parts are in memory.
use Rattle.std.specs.Prelude.{ℤ}
use Rattle.cql2.specs.declared.column.NumericColumn.{NumericColumn}
use Rattle.cql2.specs.declared.expression.Expression.{Expression}
use Rattle.cql2.specs.declared.expression.Expression.TheVariants as expression
use Rattle.cql2.specs.declared.expression.Operator.{Operator}

pub data ExpressionContent : Type 0 where
  Literal : ℤ → ExpressionContent
  Column : NumericColumn → ExpressionContent
  Negated : ExpressionContent → ExpressionContent
  Combined : Operator → ExpressionContent → ExpressionContent → ExpressionContent

abbrev pub expression_content : {A : Type 0} → Expression A → ExpressionContent
expression_content (expression.Literal literal) = Literal literal.number
expression_content (expression.Column column) = Column column
expression_content (expression.Negated' p inner) = Negated (expression_content inner)
expression_content (expression.Combined' operator p first q second) =
    Combined operator (expression_content first) (expression_content second)
