-- The tokens of an expression, gone over before it is read.
use Rattle.std.proofs.Common.{◌≡◌, ◌+◌, ◌-◌, ℕ, true, false, List, [], ◌∷◌, Option, Some, None, refl, ap, ◌∙◌, arith}
use Rattle.std.specs.Prelude.{nat_lt}
use Rattle.std.proofs.lemmas.Bool.{lt-ltb}
use Rattle.cql2.specs.declared.column.NumericColumn.{NumericColumn}
use Rattle.cql2.specs.declared.expression.Expression.{Expression}
use Rattle.cql2.specs.declared.expression.Number.{Number as ANumber}
use Rattle.cql2.specs.declared.expression.Operator.{Operator}
use Rattle.cql2_text.specs.Compared.{first_column, or_else}
use Rattle.cql2_text.specs.Expression.{Chain, Factor, IsExpression, Production, SpellsNumber, binds, goes_on, level_at, operator_of}
use Rattle.cql2_text.specs.Expression.{literal, property_name, opposite, grouped, one_part, combined}
use Rattle.cql2_text.specs.Numeral.{IsNumeral, negative, positive, unsigned}
use Rattle.cql2_text.specs.Scan.{after_number, column_ahead, column_of, scanned, step}
use Rattle.cql2_text.specs.declared.expression.Level.TheVariants.{Sum}
use Rattle.cql2_text.specs.declared.unit.Unit.{Unit as AUnit}
use Rattle.cql2_tokens.specs.declared.token.Keyword.TheVariants as word
use Rattle.cql2_tokens.specs.declared.token.Numeral.{Numeral}
use Rattle.cql2_tokens.specs.declared.token.Sign.TheVariants.{Plus, Minus, Asterisk, Percent}
use Rattle.cql2_tokens.specs.declared.token.Token.{Token}
use Rattle.cql2_tokens.specs.declared.token.Token.TheVariants.{Keyword, Column, Sign, Close}

or_else-none : (found : Option NumericColumn) → or_else found None ≡ found
or_else-none None = refl
or_else-none (Some column) = refl

or_else-assoc : (one two three : Option NumericColumn) → or_else (or_else one two) three ≡ or_else one (or_else two three)
or_else-assoc None two three = refl
or_else-assoc (Some column) two three = refl

-- an operator is followed by an operand
operator-step : (token : Token) (d : ℕ) (operator : Operator) → operator_of token ≡ Some operator → step false d token ≡ Some (true, d)
operator-step (Sign sign) d operator known = refl
operator-step (Keyword word.Div) d operator known = refl
operator-step token d operator known = cc

operator-column : (token : Token) (operator : Operator) → operator_of token ≡ Some operator → column_of token ≡ None
operator-column (Column named) operator known = cc
operator-column token operator known = refl

module _ (d : ℕ) (found : Option NumericColumn) where
  operator-over : (token : Token) (words : List Token) (operator : Operator) → operator_of token ≡ Some operator
      → scanned false d found (token ∷ words) ≡ scanned true d found words
  operator-over token words operator known =
      rw (operator-step token d operator known, scanned, operator-column token operator known, or_else-none found) refl

  close-over : (words : List Token) → scanned false (d + 1) found (Close ∷ words) ≡ scanned false d found words
  close-over words =
      let some : nat_lt 0 (d + 1) ≡ true = lt-ltb 0 (d + 1) (omega arith) in
      let less : d + 1 - 1 ≡ d = omega arith in
      rw (some, scanned, less, or_else-none found) refl

  numeral-over : (words rest : List Token) (numeral : Numeral) → IsNumeral words rest numeral
      → scanned true d found words ≡ scanned false d found rest
  numeral-over _ rest numeral unsigned = rw (or_else-none found) refl
  numeral-over _ rest numeral positive = rw (or_else-none found, or_else-none found) refl
  numeral-over _ rest _ negative = rw (or_else-none found, or_else-none found) refl

module _ {A : Type 0} {unit : AUnit} where
  expression-over : (depth : ℕ) (production : Production) (words rest : List Token) (made : Expression A)
      → SpellsNumber unit depth production words rest made → (d : ℕ) (found : Option NumericColumn)
      → scanned true d found words ≡ scanned false d (or_else found (first_column made)) rest
  expression-over depth _ words rest _ (literal is) d found =
      rw or_else-none (numeral-over d found words rest is.numeral is.spelled)
  expression-over depth _ _ rest _ (property_name is) d found = refl
  expression-over _ _ _ rest _ (opposite {depth = depth} {words = words} {inner = inner} none few is) d found =
      ap (λ f. scanned true d f words) (or_else-none found) ∙ expression-over depth Factor words rest inner is d found
  expression-over _ _ _ rest made (grouped {depth = depth} {words = words} is) d found =
      ap (λ f. scanned true (d + 1) f words) (or_else-none found)
      ∙ expression-over depth (Chain Sum) words (Close ∷ rest) made is (d + 1) found
      ∙ close-over d (or_else found (first_column made)) rest
  expression-over depth _ words rest made (one_part is) d found = expression-over depth _ words rest made is d found
  expression-over depth _ words rest _
      (combined {token = token} {operator = operator} {middle = middle} {first = first} {second = second} known at allowed left right fits) d found =
      let before = or_else found (first_column first) in
      expression-over depth _ words (token ∷ middle) first left d found ∙ operator-over d before token middle operator known
      ∙ expression-over depth _ middle rest second right d before
      ∙ ap (λ f. scanned false d f rest) (or_else-assoc found (first_column first) (first_column second))

stop-step : (token : Token) → binds Sum (level_at (operator_of token)) ≡ false → step false 0 token ≡ None
stop-step (Sign Plus) stop = cc
stop-step (Sign Minus) stop = cc
stop-step (Sign Asterisk) stop = cc
stop-step (Sign Percent) stop = cc
stop-step (Keyword word.Div) stop = cc
stop-step token stop = refl

stop-over : (words : List Token) (found : Option NumericColumn) → goes_on Sum words ≡ false → scanned false 0 found words ≡ (found, words)
stop-over [] found stop = refl
stop-over (token ∷ words) found stop = rw (stop-step token stop, scanned) refl

module _ {A : Type 0} {unit : AUnit} (words rest : List Token) (number : ANumber A) where
  -- going over an expression finds its end and its first column
  expression-scanned : IsExpression unit words rest number → scanned true 0 None words ≡ (first_column number.expression, rest)
  expression-scanned is =
      expression-over _ _ words rest number.expression is.spelled 0 None ∙ stop-over rest (first_column number.expression) is.longest

  pub expression-ends : IsExpression unit words rest number → after_number words ≡ rest
  expression-ends is = ap (λ (s : Option NumericColumn × List Token). s.1) (expression-scanned is)

  pub expression-column : IsExpression unit words rest number → column_ahead words ≡ first_column number.expression
  expression-column is = ap (λ (s : Option NumericColumn × List Token). s.0) (expression-scanned is)
