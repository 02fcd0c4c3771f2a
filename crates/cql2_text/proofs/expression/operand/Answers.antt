use Rattle.std.proofs.Common.{sym, ap, rules}
use Rattle.cql2.specs.declared.column.Column.TheVariants as column
use Rattle.cql2.specs.declared.column.NumericColumn.{NumericColumn}
use Rattle.cql2_text.specs.Expression.{literal, property_name}
use Rattle.cql2_text.specs.ExpressionContent.{Literal}
use Rattle.cql2_text.specs.ReadNumber.{IsNotFirst}
use Rattle.cql2_tokens.specs.declared.token.Token.TheVariants.{Column}
use Rattle.cql2_text.proofs.NumberLemmas.{literal-of}
use Rattle.cql2_text.proofs.TokenLemmas.{column-is}
use Rattle.cql2_text.proofs.expression.operand.Goals as goal

pub returns-in_err-literal-in_default-clause-reads : goal.returns-in_err-literal-in_default-clause-reads
returns-in_err-literal-in_default-clause-reads g c =
    let named : (k : NumericColumn) → IsNotFirst (Column (column.Numeric k)) c.args.words.now = search rules in
    λ depth rest made parens minus spelled.
    let is = literal-of parens minus named spelled in
    absurd (c.in_err-literal-in_default.ensures.reads rest is.value.number is.spelled)

pub returns-else-not-has-clause-ok : goal.returns-else-not-has-clause-ok
returns-else-not-has-clause-ok g c =
    let k = c.in-Some-Column-Numeric-default in
    let is = column-is _ _ _ _ _ k.ensures k.field-0-0-is k.field-0-0-0-is in
    λ depth. rw (is, c.column_subexpression.ensures) (property_name (sym c.if-not-has.ensures))

pub returns-in_ok-literal-in_default-clause-ok : goal.returns-in_ok-literal-in_default-clause-ok
returns-in_ok-literal-in_default-clause-ok g c =
    λ depth. rw c.literal_subexpression.ensures (literal c.in_ok-literal-in_default.ensures.ok)

pub returns-in_ok-literal-in_default-clause-reads : goal.returns-in_ok-literal-in_default-clause-reads
returns-in_ok-literal-in_default-clause-reads g c =
    let named : (k : NumericColumn) → IsNotFirst (Column (column.Numeric k)) c.args.words.now = search rules in
    λ depth rest made parens minus spelled.
    let is = literal-of parens minus named spelled in
    let read = c.in_ok-literal-in_default.ensures.reads rest is.value.number is.spelled in
    (read.0, rw (c.literal_subexpression.ensures, is.is) (ap Literal read.1))
