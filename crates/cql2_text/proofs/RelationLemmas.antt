-- How a predicate about a text or a number begins.
use Rattle.std.proofs.Common.{◌≡◌, ◌≢◌, ◌≤◌, arith, ℕ, true, false, List, ◌∷◌, refl, sym, ◌∙◌, subst}
use denote.Ref.{Bor}
use Rattle.cql2.specs.declared.column.Column.TheVariants as column
use Rattle.cql2.specs.declared.column.NumericColumn.{NumericColumn}
use Rattle.cql2.specs.declared.expression.Expression.{Expression}
use Rattle.cql2.specs.declared.filter.Filter.{Filter}
use Rattle.cql2.specs.declared.pattern.Folding.{Folding}
use Rattle.cql2_text.specs.Clause.{Opens, accenti, casei, closed, inside}
use Rattle.cql2_text.specs.Compared.{SpellsAmong, SpellsNumbers, SpellsOfNumber, among, comparison, is_between, is_in_list, more, not_among, one}
use Rattle.cql2_text.specs.Expression.{Production, SpellsNumber, combined, grouped, literal, one_part, opposite, property_name}
use Rattle.cql2_text.specs.Numeral.{IsNumeral, negative, positive, unsigned}
use Rattle.cql2_text.specs.Predicate.{IsSubject, IsTextLiteral, SpellsNull, SpellsOf, SpellsOfText, SpellsRelation}
use Rattle.cql2_text.specs.Predicate.{of_number, number_null, of_subject, text_first}
use Rattle.cql2_text.specs.Scan.{begins_operand}
use Rattle.cql2_text.specs.declared.predicate.CharacterExpression.{CharacterExpression}
use Rattle.cql2_text.specs.declared.predicate.CharacterExpression.TheVariants as subject
use Rattle.cql2_text.specs.declared.unit.Unit.{Unit as AUnit}
use Rattle.cql2_tokens.specs.declared.token.Keyword.TheVariants as word
use Rattle.cql2_tokens.specs.declared.token.Numeral.{Numeral}
use Rattle.cql2_tokens.specs.declared.token.Token.{Token}
use Rattle.cql2_tokens.specs.declared.token.Token.TheVariants.{Column, Comma, Close, Keyword, Text}
use Rattle.cql2_text.proofs.ComparedLemmas.{is-number-of, number-end}

numeral-begins : (words rest : List Token) (numeral : Numeral) → IsNumeral words rest numeral → begins_operand words ≡ true
numeral-begins _ rest numeral unsigned = refl
numeral-begins _ rest numeral positive = refl
numeral-begins _ rest _ negative = refl

-- CASEI or ACCENTI at the start is no operand
opens-operand : (depth : ℕ) (folding : Folding) (words inner : List Token) → Opens depth folding words inner → 1 ≤ depth
    → begins_operand words ≡ false
opens-operand _ _ _ _ (inside inner) some = absurd (omega arith)
opens-operand _ _ _ _ (casei is) some = refl
opens-operand _ _ _ _ (accenti is) some = refl

-- and neither is a literal
literal-operand : (depth : ℕ) (folding : Folding) (words inner after : List Token) (spelling : Bor (List ℕ)) → inner ≡ Text spelling ∷ after
    → Opens depth folding words inner → begins_operand words ≡ false
literal-operand _ _ _ _ after spelling is (inside inner) = rw is refl
literal-operand _ _ _ _ after spelling is (casei opens) = refl
literal-operand _ _ _ _ after spelling is (accenti opens) = refl

text-operand : (words rest : List Token) → IsTextLiteral words rest → begins_operand words ≡ false
text-operand words rest is = literal-operand is.depth is.folding words is.inner (closed is.depth rest) is.inside.spelling is.inside.is is.opens

no-subject : (s : CharacterExpression) (words middle : List Token) → IsSubject s words middle → begins_operand words ≡ true → ⊥
no-subject (subject.Text c) words middle is begins =
    let e : begins_operand (Column (column.Text c) ∷ middle) ≡ true = rw is at begins in cc e
no-subject (subject.Folded folding c) words middle is begins =
    let e = sym (opens-operand is.depth folding words is.inner is.opened.opens is.opened.some) ∙ begins in cc e

module _ {A : Type 0} where
  expression-begins : {unit : AUnit} (depth : ℕ) (production : Production) (words rest : List Token) (made : Expression A)
      → SpellsNumber unit depth production words rest made → begins_operand words ≡ true
  expression-begins depth _ words rest _ (literal is) = numeral-begins words rest is.numeral is.spelled
  expression-begins depth _ _ rest _ (property_name is) = refl
  expression-begins _ _ _ rest _ (opposite none few is) = refl
  expression-begins _ _ _ rest made (grouped is) = refl
  expression-begins depth _ words rest made (one_part is) = expression-begins depth _ words rest made is
  expression-begins depth _ words rest _ (combined {token = token} {middle = middle} {first = first} known at allowed left right fits) =
      expression-begins depth _ words (token ∷ middle) first left

  numbers-begin : (start «end» words rest : List Token) (made : Filter A) → SpellsNumbers start «end» words rest made
      → begins_operand start ≡ true
  numbers-begin start «end» words rest made (one is) = expression-begins _ _ start «end» is.first.expression is.is_first.spelled
  numbers-begin start «end» words rest made (more {middle = middle} {first = first} front is joined) =
      numbers-begin start «end» words (Comma ∷ middle) first front

  among-begins : (start «end» words rest : List Token) (made : Filter A) → SpellsAmong start «end» words rest made
      → begins_operand start ≡ true
  among-begins start «end» _ rest made (is_between is) =
      expression-begins _ _ start «end» is.at_least.first.expression is.at_least.is_first.spelled
  among-begins start «end» _ rest made (is_in_list {words = words} is) = numbers-begin start «end» words (Close ∷ rest) made is

  pub operand-begins : (start «end» words rest : List Token) (made : Filter A) → SpellsOfNumber start «end» words rest made
      → begins_operand start ≡ true
  operand-begins start «end» _ rest made (comparison is) = expression-begins _ _ start «end» is.first.expression is.is_first.spelled
  operand-begins start «end» words rest made (among is) = among-begins start «end» words rest made is
  operand-begins start «end» _ rest made (not_among {words = words} {inner = inner} is negation) =
      among-begins start «end» words rest inner is

  -- a predicate about a number
  pub record IsOfNumber (words rest : List Token) (made : Filter A) : Type 0 where
    pub middle : List Token
    pub is_of : SpellsOfNumber words middle middle rest made

  -- a predicate about a subject
  pub record IsOfSubject (words rest : List Token) (made : Filter A) : Type 0 where
    pub s : CharacterExpression
    pub middle : List Token
    pub is_subject : IsSubject s words middle
    pub is_of : SpellsOf s middle rest made

  -- a predicate about a literal
  pub record IsTextFirst (words rest : List Token) (made : Filter A) : Type 0 where
    pub middle : List Token
    pub literal : IsTextLiteral words middle
    pub is_of : SpellsOfText words middle rest made

  pub relation-number : (words rest : List Token) (made : Filter A) → begins_operand words ≡ true
      → ((c : NumericColumn) (w : List Token) → words ≢ Column (column.Numeric c) ∷ Keyword word.Is ∷ w) → SpellsRelation words rest made
      → IsOfNumber words rest made
  relation-number words rest made begins none (of_subject {s = s} {middle = middle} known is) = absurd (no-subject s words middle known begins)
  relation-number words rest made begins none (text_first {middle = middle} begun is) =
      let e = sym (text-operand words middle begun) ∙ begins in absurd (cc e)
  relation-number words rest made begins none (of_number {middle = middle} is) = record { middle = middle; is_of = is }
  relation-number _ rest made begins none (number_null is) = absurd (none _ _ refl)

  pub relation-null : {c : NumericColumn} {words rest : List Token} {made : Filter A}
      → SpellsRelation (Column (column.Numeric c) ∷ Keyword word.Is ∷ words) rest made → SpellsNull (column.Numeric c) words rest made
  relation-null (of_subject {s = subject.Text c} known is) = cc
  relation-null (of_subject {s = subject.Folded folding c} {middle = middle} known is) =
      absurd (no-subject (subject.Folded folding c) _ middle known refl)
  relation-null (text_first {middle = middle} begun is) = let e = text-operand _ middle begun in absurd (cc e)
  relation-null (number_null is) = is
  relation-null {c = c} {words = words} {rest = rest} {made = made} (of_number {middle = middle} is) =
      let start = Column (column.Numeric c) ∷ Keyword word.Is ∷ words in
      let ends : Keyword word.Is ∷ words ≡ middle = number-end start middle middle rest made is in
      absurd (is-number-of (subst (λ (w : List Token). SpellsOfNumber start middle w rest made) (sym ends) is))

  pub relation-text : (words rest : List Token) (made : Filter A) → begins_operand words ≡ false
      → ((s : CharacterExpression) (middle : List Token) → IsSubject s words middle → ⊥) → SpellsRelation words rest made → IsTextFirst words rest made
  relation-text words rest made stop none (of_subject {s = s} {middle = middle} known is) = absurd (none s middle known)
  relation-text words rest made stop none (text_first {middle = middle} begun is) =
      record { middle = middle; literal = begun; is_of = is }
  relation-text words rest made stop none (of_number {middle = middle} is) =
      let e = sym (operand-begins words middle middle rest made is) ∙ stop in absurd (cc e)
  relation-text _ rest made stop none (number_null is) = cc

  pub relation-subject : (words rest : List Token) (made : Filter A) → begins_operand words ≡ false
      → ((middle : List Token) → IsTextLiteral words middle → ⊥) → SpellsRelation words rest made → IsOfSubject words rest made
  relation-subject words rest made stop none (of_subject {s = s} {middle = middle} known is) =
      record { s = s; middle = middle; is_subject = known; is_of = is }
  relation-subject words rest made stop none (text_first {middle = middle} begun is) = absurd (none middle begun)
  relation-subject words rest made stop none (of_number {middle = middle} is) =
      let e = sym (operand-begins words middle middle rest made is) ∙ stop in absurd (cc e)
  relation-subject _ rest made stop none (number_null is) = cc
