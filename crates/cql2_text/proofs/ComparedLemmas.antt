-- Comparisons of numeric expressions.
use Rattle.std.proofs.Common.{◌≡◌, ◌<◌, List, ◌∷◌, Option, length, refl, sym, ap, ◌∙◌, subst, arith}
use Rattle.cql2.specs.declared.column.NumericColumn.{NumericColumn}
use Rattle.cql2.specs.declared.expression.Expression.{Expression}
use Rattle.cql2.specs.declared.expression.Expression.TheVariants as expression
use Rattle.cql2.specs.declared.expression.Number.{Number}
use Rattle.cql2.specs.declared.filter.Comparison.{Comparison}
use Rattle.cql2.specs.declared.filter.Comparison.TheVariants.{Equal}
use Rattle.cql2.specs.declared.filter.Filter.{Filter}
use Rattle.cql2_text.specs.Compared.{SpellsAmong, SpellsBetween, SpellsCompared, SpellsNumbers, SpellsOfNumber, comparison_of, compared_as, first_column}
use Rattle.cql2_text.specs.Compared.{among, comparison, is_between, is_in_list, converse, more, not_among, one, or_else}
use Rattle.cql2_text.specs.Connective.{IsEither, IsNot}
use Rattle.cql2_text.specs.ReadNumber.{IsNotFirst}
use Rattle.cql2_text.specs.Content.{CompareNumber, CompareNumbers, Content, content}
use Rattle.cql2_text.specs.Expression.{IsExpression}
use Rattle.cql2_text.specs.ExpressionContent.{Column, ExpressionContent, Literal, expression_content}
use Rattle.cql2_text.specs.Scan.{after_number, column_ahead}
use Rattle.cql2_text.specs.Unit.{unit_of}
use Rattle.cql2_text.specs.declared.unit.Unit.{Unit as AUnit}
use Rattle.cql2_tokens.specs.declared.token.Keyword.TheVariants as word
use Rattle.cql2_tokens.specs.declared.token.Token.{Token}
use Rattle.cql2_tokens.specs.declared.token.Token.TheVariants.{Close, Comma, Compared, Keyword, Open}
use Rattle.cql2_text.proofs.ChainLemmas.{FirstPart, ends, later-part}
use Rattle.cql2_text.proofs.NumberLemmas.{expression-shorter}
use Rattle.cql2_text.proofs.ScanLemmas.{expression-column, expression-ends}

abbrev compared_content : ExpressionContent → Comparison → ExpressionContent → Content
compared_content (Column column) sign (Literal number) = CompareNumber column sign number
compared_content (Literal number) sign (Column column) = CompareNumber column (converse sign) number
compared_content first sign second = CompareNumbers first sign second

module _ {A : Type 0} (first second : Number A) (k : Comparison) where
  compared-by : (left right : Expression A) → first.expression ≡ left → second.expression ≡ right
      → content (compared_as first k second left right) ≡ compared_content (expression_content left) k (expression_content right)
  compared-by (expression.Column column) (expression.Literal literal) is also = refl
  compared-by (expression.Literal literal) (expression.Column column) is also = refl
  compared-by (expression.Column column) (expression.Column another) is also = rw (is, also) refl
  compared-by (expression.Column column) (expression.Negated' p inner) is also = rw (is, also) refl
  compared-by (expression.Column column) (expression.Combined' o p left q right) is also = rw (is, also) refl
  compared-by (expression.Literal literal) (expression.Literal another) is also = rw (is, also) refl
  compared-by (expression.Literal literal) (expression.Negated' p inner) is also = rw (is, also) refl
  compared-by (expression.Literal literal) (expression.Combined' o p left q right) is also = rw (is, also) refl
  compared-by (expression.Negated' r inner) (expression.Literal literal) is also = rw (is, also) refl
  compared-by (expression.Negated' r inner) (expression.Column column) is also = rw (is, also) refl
  compared-by (expression.Negated' r inner) (expression.Negated' p another) is also = rw (is, also) refl
  compared-by (expression.Negated' r inner) (expression.Combined' o p left q right) is also = rw (is, also) refl
  compared-by (expression.Combined' n r before s after) (expression.Literal literal) is also = rw (is, also) refl
  compared-by (expression.Combined' n r before s after) (expression.Column column) is also = rw (is, also) refl
  compared-by (expression.Combined' n r before s after) (expression.Negated' p another) is also = rw (is, also) refl
  compared-by (expression.Combined' n r before s after) (expression.Combined' o p left q right) is also = rw (is, also) refl

  compared-content : content (comparison_of first k second)
      ≡ compared_content (expression_content first.expression) k (expression_content second.expression)
  compared-content = compared-by first.expression second.expression refl refl

module _ {A : Type 0} (first second left right : Number A) (k : Comparison) where
  pub same-compared : expression_content first.expression ≡ expression_content left.expression
      → expression_content second.expression ≡ expression_content right.expression
      → content (comparison_of first k second) ≡ content (comparison_of left k right)
  same-compared same also =
      compared-content first second k
      ∙ ap (λ (e : ExpressionContent). compared_content e k (expression_content second.expression)) same
      ∙ ap (λ (e : ExpressionContent). compared_content (expression_content left.expression) k e) also
      ∙ sym (compared-content left right k)

module _ {A : Type 0} (start words «end» rest : List Token) (first second : Number A) where
  -- the unit that the columns ahead give is that of the columns in the expressions
  pub unit-read : {unit given : AUnit} {left right both : Option NumericColumn} → left ≡ column_ahead start → right ≡ column_ahead words
      → both ≡ or_else left right → given ≡ unit_of both → IsExpression unit start «end» first → IsExpression unit words rest second
      → given ≡ unit_of (or_else (first_column first.expression) (first_column second.expression))
  unit-read is also joined known is_first is_second =
      let left = is ∙ expression-column start «end» first is_first in
      let right = also ∙ expression-column words rest second is_second in
      rw (← left, ← right, ← joined) known

module _ {A : Type 0} (start «end» after words rest : List Token) (k : Comparison) (first second : Number A) (made : Filter A) where
  pub compared-at : {unit : AUnit} → after ≡ «end» → unit ≡ unit_of (or_else (first_column first.expression) (first_column second.expression))
      → IsExpression unit start after first → IsExpression unit words rest second → made ≡ comparison_of first k second
      → SpellsCompared start «end» k words rest made
  compared-at {unit = unit} same in_unit is_first is_second is =
      record {
        first = first;
        second = second;
        unit = unit;
        in_unit = in_unit;
        is_first = subst (λ (w : List Token). IsExpression unit start w first) same is_first;
        is_second = is_second;
        is = is;
      }

-- a comparison in this unit
pub record ComparedIn {A : Type 0} (unit : AUnit) (start «end» : List Token) (k : Comparison) (words rest : List Token) (made : Filter A) : Type 0 where
  pub first : Number A
  pub second : Number A
  pub is_first : IsExpression unit start «end» first
  pub is_second : IsExpression unit words rest second
  pub is : made ≡ comparison_of first k second

module _ {A : Type 0} (start «end» words rest : List Token) (k : Comparison) (made : Filter A) where
  -- a spelled comparison is one in the unit that the columns ahead give
  pub compared-in : {given : AUnit} {left right both : Option NumericColumn} → left ≡ column_ahead start → right ≡ column_ahead words
      → both ≡ or_else left right → given ≡ unit_of both → SpellsCompared start «end» k words rest made
      → ComparedIn given start «end» k words rest made
  compared-in {given = given} is also joined known spelled =
      let unit = unit-read start words «end» rest spelled.first spelled.second is also joined known spelled.is_first spelled.is_second in
      let same : spelled.unit ≡ given = spelled.in_unit ∙ sym unit in
      record {
        first = spelled.first;
        second = spelled.second;
        is_first = subst (λ (u : AUnit). IsExpression u start «end» spelled.first) same spelled.is_first;
        is_second = subst (λ (u : AUnit). IsExpression u words rest spelled.second) same spelled.is_second;
        is = spelled.is;
      }

  pub compared-shorter : SpellsCompared start «end» k words rest made → length rest < length words
  compared-shorter is = expression-shorter _ _ words rest is.second.expression is.is_second.spelled

module _ {A : Type 0} where
  numbers-end : (start «end» words rest : List Token) (made : Filter A) → SpellsNumbers start «end» words rest made → after_number start ≡ «end»
  numbers-end start «end» words rest made (one is) = expression-ends start «end» is.first is.is_first
  numbers-end start «end» words rest made (more {middle = middle} {first = first} front is joined) =
      numbers-end start «end» words (Comma ∷ middle) first front

  among-end : (start «end» words rest : List Token) (made : Filter A) → SpellsAmong start «end» words rest made → after_number start ≡ «end»
  among-end start «end» _ rest made (is_between is) = expression-ends start «end» is.at_least.first is.at_least.is_first
  among-end start «end» _ rest made (is_in_list {words = words} is) = numbers-end start «end» words (Close ∷ rest) made is

  -- a predicate about a number begins where the number ends
  pub number-end : (start «end» words rest : List Token) (made : Filter A) → SpellsOfNumber start «end» words rest made
      → after_number start ≡ «end»
  number-end start «end» _ rest made (comparison is) = expression-ends start «end» is.first is.is_first
  number-end start «end» words rest made (among is) = among-end start «end» words rest made is
  number-end start «end» _ rest made (not_among {words = words} {inner = inner} is opposite) = among-end start «end» words rest inner is

  module _ {start «end» : List Token} where
    pub compared-number-of : {words rest : List Token} {k : Comparison} {made : Filter A} → SpellsOfNumber start «end» (Compared k ∷ words) rest made
        → SpellsCompared start «end» k words rest made
    compared-number-of (comparison is) = is
    compared-number-of (among is) = elim is [ ]

    pub not-number-of : {words rest : List Token} {made : Filter A} → SpellsOfNumber start «end» (Keyword word.Not ∷ words) rest made
        → (inner : Filter A) × SpellsAmong start «end» words rest inner × IsNot inner made
    not-number-of (not_among {inner = inner} is opposite) = (inner, is, opposite)
    not-number-of (among is) = elim is [ ]

    pub is-number-of : {words rest : List Token} {made : Filter A} → SpellsOfNumber start «end» (Keyword word.Is ∷ words) rest made → ⊥
    is-number-of (among is) = elim is [ ]

    pub among-of : {words rest : List Token} {made : Filter A} → ((k : Comparison) → IsNotFirst (Compared k) words)
        → IsNotFirst (Keyword word.Not) words → SpellsOfNumber start «end» words rest made → SpellsAmong start «end» words rest made
    among-of sign not (comparison is) = absurd (sign _ _ refl)
    among-of sign not (among is) = is
    among-of sign not (not_among is opposite) = absurd (not _ refl)

    pub between-number-of : {words rest : List Token} {made : Filter A} → SpellsAmong start «end» (Keyword word.Between ∷ words) rest made
        → SpellsBetween start «end» words rest made
    between-number-of (is_between is) = is

    pub list-number-of : {words rest : List Token} {made : Filter A} → SpellsAmong start «end» (Keyword word.In ∷ words) rest made
        → (inner : List Token) × (words ≡ Open ∷ inner) × SpellsNumbers start «end» inner (Close ∷ rest) made
    list-number-of (is_in_list {words = words} is) = (words, refl, is)

    pub among-begins : {words rest : List Token} {made : Filter A} → IsNotFirst (Keyword word.Between) words → IsNotFirst (Keyword word.In) words
        → SpellsAmong start «end» words rest made → ⊥
    among-begins between members (is_between is) = between _ refl
    among-begins between members (is_in_list is) = members _ refl

module _ {A : Type 0} {start «end» : List Token} where
  pub numbers-parts : {words rest : List Token} {made : Filter A} → SpellsNumbers start «end» words rest made
      → FirstPart Comma (SpellsCompared start «end» Equal) IsEither words rest made
  numbers-parts {rest = rest} (one {made = made} is) = record { first = made; after = rest; part = is; chain = ends }
  numbers-parts (more before is joins) = later-part (numbers-parts before) is joins

  module _ {rest words found : List Token} {made : Filter A} where
    pub number-at : found ≡ after_number start → found ≡ words → SpellsOfNumber start «end» «end» rest made
        → SpellsOfNumber start «end» words rest made
    number-at scanned known spelled =
        let same : «end» ≡ words = sym (number-end start «end» «end» rest made spelled) ∙ sym scanned ∙ known in
        subst (λ (w : List Token). SpellsOfNumber start «end» w rest made) same spelled

module _ {A : Type 0} {start rest words found : List Token} {made : Filter A} where
  pub number-from : found ≡ after_number start → found ≡ words → SpellsOfNumber start (after_number start) words rest made
      → SpellsOfNumber start (after_number start) (after_number start) rest made
  number-from scanned known spelled =
      let same : words ≡ after_number start = sym known ∙ scanned in
      subst (λ (w : List Token). SpellsOfNumber start (after_number start) w rest made) same spelled

module _ {A : Type 0} where
  between-shorter : (start «end» words rest : List Token) (made : Filter A) → SpellsBetween start «end» words rest made
      → length rest < length words
  between-shorter start «end» words rest made is =
      let first = compared-shorter start «end» words _ _ is.low is.at_least in
      let second = compared-shorter start «end» is.middle rest _ is.high is.at_most in
      omega arith

  numbers-shorter : (start «end» words rest : List Token) (made : Filter A) → SpellsNumbers start «end» words rest made
      → length rest < length words
  numbers-shorter start «end» words rest made (one is) = compared-shorter start «end» words rest _ made is
  numbers-shorter start «end» words rest made (more {middle = middle} {first = first} {second = second} front is joined) =
      let before = numbers-shorter start «end» words _ first front in
      let last = compared-shorter start «end» middle rest _ second is in
      omega arith

  among-shorter : (start «end» words rest : List Token) (made : Filter A) → SpellsAmong start «end» words rest made → length rest < length words
  among-shorter start «end» _ rest made (is_between {words = words} is) =
      let inner = between-shorter start «end» words rest made is in omega arith
  among-shorter start «end» _ rest made (is_in_list {words = words} is) =
      let inner = numbers-shorter start «end» words _ made is in omega arith

  -- a predicate about a number has a token after the number
  pub after-shorter : (start «end» words rest : List Token) (made : Filter A) → SpellsOfNumber start «end» words rest made
      → length rest < length words
  after-shorter start «end» _ rest made (comparison {sign = k} {words = words} is) =
      let inner = compared-shorter start «end» words rest k made is in omega arith
  after-shorter start «end» words rest made (among is) = among-shorter start «end» words rest made is
  after-shorter start «end» _ rest made (not_among {words = words} {inner = inner} is opposite) =
      let before = among-shorter start «end» words rest inner is in omega arith

  -- a number has at least one token
  numbers-operand : (start «end» words rest : List Token) (made : Filter A) → SpellsNumbers start «end» words rest made
      → length «end» < length start
  numbers-operand start «end» words rest made (one is) = expression-shorter _ _ start «end» is.first.expression is.is_first.spelled
  numbers-operand start «end» words rest made (more {middle = middle} {first = first} front is joined) =
      numbers-operand start «end» words (Comma ∷ middle) first front

  among-operand : (start «end» words rest : List Token) (made : Filter A) → SpellsAmong start «end» words rest made
      → length «end» < length start
  among-operand start «end» _ rest made (is_between is) =
      expression-shorter _ _ start «end» is.at_least.first.expression is.at_least.is_first.spelled
  among-operand start «end» _ rest made (is_in_list {words = words} is) = numbers-operand start «end» words (Close ∷ rest) made is

  pub operand-shorter : (start «end» words rest : List Token) (made : Filter A) → SpellsOfNumber start «end» words rest made
      → length «end» < length start
  operand-shorter start «end» _ rest made (comparison is) = expression-shorter _ _ start «end» is.first.expression is.is_first.spelled
  operand-shorter start «end» words rest made (among is) = among-operand start «end» words rest made is
  operand-shorter start «end» _ rest made (not_among {words = words} {inner = inner} is opposite) =
      among-operand start «end» words rest inner is
