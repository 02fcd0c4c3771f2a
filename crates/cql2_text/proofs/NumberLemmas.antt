-- Chains of operators: an expression that combines from the left, read from its first part on.
use Rattle.std.proofs.Common.{◌≡◌, ℕ, ◌+◌, ◌<◌, Bool, true, false, suc, ◌-◌, ◌≤◌, List, [], ◌∷◌, Option, Some, None, length, refl, sym, ap, ◌∙◌, subst, arith}
use Rattle.std.specs.Prelude.{unsigned_abs}
use Rattle.std.specs.declared.boxed.Box.{Box}
use Rattle.std.specs.Prelude.{IsTrue, max, nat_le}
use Rattle.std.proofs.lemmas.Bool.{and_parts, leb-true}
use Rattle.cql2.specs.Expression.{MAX_DEPTH, bound, column_bound, combined_bound, is_bounded, is_exact, saved_for}
use Rattle.cql2.specs.Expression.{depth as depth_of}
use Rattle.cql2.specs.declared.expression.Expression.{Expression}
use Rattle.cql2.specs.declared.expression.Expression.TheVariants as expression
use Rattle.cql2.specs.declared.expression.Operator.{Operator}
use Rattle.cql2_text.specs.Expression.{BeginsWith, Chain, Factor, Fits, IsCombined, IsOpposite, Production, begins_number, binds, SpellsNumber}
use Rattle.cql2_text.specs.Expression.{operator_of, level_of, level_at, operators, part_of}
use Rattle.cql2_text.specs.Expression.{goes_on, part_goes_on, literal, property_name, opposite, grouped, one_part, combined}
use Rattle.cql2_text.specs.ExpressionContent.{ExpressionContent, Literal, Column, Negated, Combined, expression_content}
use Rattle.cql2_text.specs.Unit.{allows}
use Rattle.cql2_text.specs.declared.expression.Level.{Level}
use Rattle.cql2_text.specs.declared.expression.Level.TheVariants.{Sum, Product}
use Rattle.cql2_text.specs.declared.unit.Unit.{Unit as AUnit}
use Rattle.cql2.specs.declared.column.Column.TheVariants as column
use Rattle.cql2.specs.declared.column.NumericColumn.{NumericColumn}
use Rattle.cql2.specs.declared.number.Literal.{Literal as AValue}
use Rattle.cql2_text.specs.Numeral.{IsNumber, IsNumeral, negative, positive, unsigned}
use Rattle.cql2_text.specs.ReadNumber.{IsNotFirst}
use Rattle.cql2_tokens.specs.declared.token.Numeral.{Numeral}
use Rattle.cql2_tokens.specs.declared.token.Sign.TheVariants.{Minus}
use Rattle.cql2_tokens.specs.declared.token.Token.{Token}
use Rattle.cql2_tokens.specs.declared.token.Token.TheVariants.{Close, Column as AColumn, Number, Open, Sign}
use Rattle.cql2_text.proofs.NumeralLemmas.{number-shorter}

-- what is known of an expression's values is known by its content
abbrev content_bound : ExpressionContent → ℕ
content_bound (Literal number) = unsigned_abs number
content_bound (Column column) = column_bound column
content_bound (Negated inner) = content_bound inner
content_bound (Combined operator first second) = combined_bound operator (content_bound first) (content_bound second)

abbrev content_operators : ExpressionContent → ℕ
content_operators (Literal number) = 0
content_operators (Column column) = 0
content_operators (Negated inner) = content_operators inner + 1
content_operators (Combined operator first second) = content_operators first + content_operators second + 1

abbrev content_kept : ExpressionContent → ℕ → ℕ
content_kept (Literal number) depth = 0
content_kept second depth = suc depth

abbrev content_depth : ExpressionContent → ℕ
content_depth (Literal number) = 0
content_depth (Column column) = 0
content_depth (Negated inner) = content_depth inner
content_depth (Combined operator first second) = max (content_depth first) (content_kept second (content_depth second))

module _ {A : Type 0} where
  kept-by : (second : Expression A) (depth : ℕ) → saved_for second depth ≡ content_kept (expression_content second) depth
  kept-by (expression.Literal value) depth = refl
  kept-by (expression.Column column) depth = refl
  kept-by (expression.Negated' p inner) depth = refl
  kept-by (expression.Combined' operator p first q second) depth = refl

  depth-by : (made : Expression A) → depth_of made ≡ content_depth (expression_content made)
  depth-by (expression.Literal value) = refl
  depth-by (expression.Column column) = refl
  depth-by (expression.Negated' p inner) = depth-by inner
  depth-by (expression.Combined' operator p first q second) =
      let one = depth-by first in
      let kept = kept-by second (depth_of second) ∙ ap (content_kept (expression_content second)) (depth-by second) in
      ap (λ (d : ℕ). max d (saved_for second (depth_of second))) one ∙ ap (λ (d : ℕ). max (content_depth (expression_content first)) d) kept

  pub same-depth : (made other : Expression A) → expression_content made ≡ expression_content other → depth_of made ≡ depth_of other
  same-depth made other same = depth-by made ∙ ap content_depth same ∙ sym (depth-by other)

  pub exact-shallow : (made : Expression A) → IsTrue (is_exact made) → depth_of made ≤ MAX_DEPTH
  exact-shallow made exact =
      leb-true (depth_of made) MAX_DEPTH (and_parts (is_bounded made) (nat_le (depth_of made) MAX_DEPTH) exact).1

  bound-by : (made : Expression A) → bound made ≡ content_bound (expression_content made)
  bound-by (expression.Literal value) = refl
  bound-by (expression.Column column) = refl
  bound-by (expression.Negated' p inner) = bound-by inner
  bound-by (expression.Combined' operator p first q second) = rw (bound-by first, bound-by second) refl

  operators-by : (made : Expression A) → operators made ≡ content_operators (expression_content made)
  operators-by (expression.Literal value) = refl
  operators-by (expression.Column column) = refl
  operators-by (expression.Negated' p inner) = rw (operators-by inner) refl
  operators-by (expression.Combined' operator p first q second) = rw (operators-by first, operators-by second) refl

  pub same-bound : (made other : Expression A) → expression_content made ≡ expression_content other → bound made ≡ bound other
  same-bound made other same = bound-by made ∙ ap content_bound same ∙ sym (bound-by other)

  pub same-operators : (made other : Expression A) → expression_content made ≡ expression_content other → operators made ≡ operators other
  same-operators made other same = operators-by made ∙ ap content_operators same ∙ sym (operators-by other)

  pub same-fits : (operator : Operator) (first second one other : Expression A) → expression_content one ≡ expression_content first
      → expression_content other ≡ expression_content second → Fits operator first second → Fits operator one other
  same-fits operator first second one other left right fits =
      record {
        few = omega (arith, fits.few, same-operators one first left, same-operators other second right);
        small = rw (same-bound one first left, same-bound other second right) fits.small;
      }

-- a spelled expression has at least one token
module _ {A : Type 0} {unit : AUnit} where
  pub expression-shorter : (depth : ℕ) (production : Production) (words rest : List Token) (made : Expression A)
      → SpellsNumber unit depth production words rest made → length rest < length words
  expression-shorter depth _ words rest _ (literal {value = value} is) = number-shorter unit words rest value.number is
  expression-shorter depth _ _ rest _ (property_name is) = omega arith
  expression-shorter _ _ _ rest _ (opposite {depth = depth} {words = words} {inner = inner} stop few is) =
      let before = expression-shorter depth _ words rest inner is in omega arith
  expression-shorter _ _ _ rest made (grouped {depth = depth} {words = words} is) =
      let before = expression-shorter depth _ words _ made is in omega arith
  expression-shorter depth _ words rest made (one_part is) = expression-shorter depth _ words rest made is
  expression-shorter depth _ words rest _ (combined {middle = middle} {first = first} {second = second} known at allowed left right fits) =
      let before = expression-shorter depth _ words _ first left in
      let after = expression-shorter depth _ middle rest second right in
      omega arith

-- the operators and parts after a first part
pub data Links {A : Type 0} (unit : AUnit) (depth : ℕ) (level : Level) : List Token → Expression A → List Token → Expression A → Type 0 where
  ends : {words : List Token} {made : Expression A} → Links unit depth level words made words made
  link : {token : Token} {operator : Operator} {middle after rest : List Token} {first second made : Expression A} (p q : Box (Unit {0}) A)
      → operator_of token ≡ Some operator → level_of operator ≡ level → allows unit operator ≡ true
      → SpellsNumber unit depth (part_of level) middle after second → Fits operator first second
      → Links unit depth level after (expression.Combined' operator p first q second) rest made
      → Links unit depth level (token ∷ middle) first rest made

-- a first part and what is linked to it
pub record FirstOf {A : Type 0} (unit : AUnit) (depth : ℕ) (level : Level) (words rest : List Token) (made : Expression A) : Type 0 where
  pub first : Expression A
  pub after : List Token
  pub part : SpellsNumber unit depth (part_of level) words after first
  pub links : Links unit depth level after first rest made

-- the same, from an expression with the same content as the first part
pub record ReadLinks {A : Type 0} (unit : AUnit) (depth : ℕ) (level : Level) (words : List Token) (read : Expression A) (rest : List Token)
    (made : Expression A) : Type 0 where
  pub first : Expression A
  pub same : expression_content read ≡ expression_content first
  pub links : Links unit depth level words first rest made

-- the next part
pub record NextOf {A : Type 0} (unit : AUnit) (depth : ℕ) (level : Level) (operator : Operator) (words : List Token) (first : Expression A)
    (rest : List Token) (made : Expression A) : Type 0 where
  pub second : Expression A
  pub after : List Token
  pub p : Box (Unit {0}) A
  pub q : Box (Unit {0}) A
  pub allowed : allows unit operator ≡ true
  pub part : SpellsNumber unit depth (part_of level) words after second
  pub fits : Fits operator first second
  pub links : Links unit depth level after (expression.Combined' operator p first q second) rest made

module _ {A : Type 0} {unit : AUnit} {depth : ℕ} {level : Level} where
  pub extended : {token : Token} {operator : Operator} {words middle rest : List Token} {first before second : Expression A} (p q : Box (Unit {0}) A)
      → operator_of token ≡ Some operator → level_of operator ≡ level → allows unit operator ≡ true
      → Links unit depth level words first (token ∷ middle) before
      → SpellsNumber unit depth (part_of level) middle rest second → Fits operator before second
      → Links unit depth level words first rest (expression.Combined' operator p before q second)
  extended p q known at allowed ends is fits = link p q known at allowed is fits ends
  extended p q known at allowed (link r s first_known first_at first_allowed part first_fits links) is fits =
      link r s first_known first_at first_allowed part first_fits (extended p q known at allowed links is fits)

module _ {A : Type 0} {unit : AUnit} where
  first-by : (depth : ℕ) (production : Production) (level : Level) (words rest : List Token) (made : Expression A)
      → SpellsNumber unit depth production words rest made → production ≡ Chain level → FirstOf unit depth level words rest made
  first-by depth _ level words rest _ (literal is) chain = cc
  first-by depth _ level words rest _ (property_name is) chain = cc
  first-by _ _ level words rest _ (opposite stop few is) chain = cc
  first-by _ _ level words rest made (grouped is) chain = cc
  first-by depth _ level words rest made (one_part {level = given} is) chain =
      let same : given ≡ level = cc in
      let part = subst (λ (l : Level). SpellsNumber unit depth (part_of l) words rest made) same is in
      record { first = made; after = rest; part = part; links = ends }
  first-by depth _ level words rest _
      (combined {level = given} {token = token} {middle = middle} {p = p} {q = q} {first = first} {second = second} known at allowed front is fits)
      chain =
      let same : given ≡ level = cc in
      let before = first-by depth (Chain given) level words (token ∷ middle) first front chain in
      let part = subst (λ (l : Level). SpellsNumber unit depth (part_of l) middle rest second) same is in
      record {
        first = before.first;
        after = before.after;
        part = before.part;
        links = extended p q known (at ∙ same) allowed before.links part fits;
      }

  pub first-of : {depth : ℕ} {level : Level} {words rest : List Token} {made : Expression A}
      → SpellsNumber unit depth (Chain level) words rest made → FirstOf unit depth level words rest made
  first-of {depth = depth} {level = level} {words = words} {rest = rest} {made = made} is =
      first-by depth (Chain level) level words rest made is refl

level-binds : (level : Level) → binds level (Some level) ≡ true
level-binds Sum = refl
level-binds Product = refl

abbrev part_binds : Level → Option Level → Bool
part_binds Sum found = binds Product found
part_binds Product found = false

not-binds : (level found : Level) → part_binds level (Some found) ≡ false → (found ≡ level → ⊥) → binds level (Some found) ≡ false
not-binds Sum Sum stops other = absurd (other refl)
not-binds Sum Product stops other = cc
not-binds Product Sum stops other = refl
not-binds Product Product stops other = absurd (other refl)

part-stops-by : (found : Option Level) → binds Sum found ≡ false → binds Product found ≡ false
part-stops-by None stop = refl
part-stops-by (Some level) stop = cc

part-stops : (level : Level) (words : List Token) → goes_on level words ≡ false → part_goes_on level words ≡ false
part-stops Product words stop = refl
part-stops Sum [] stop = refl
part-stops Sum (token ∷ rest) stop = part-stops-by (level_at (operator_of token)) stop

operator-stops : (level : Level) (operator : Operator) (token : Token) (rest : List Token) → operator_of token ≡ Some operator
    → level_of operator ≡ level → part_goes_on level (token ∷ rest) ≡ false
operator-stops Product operator token rest known at = refl
operator-stops Sum operator token rest known at = rw (known, at) refl

begins-goes : (level : Level) (operator : Operator) (words rest : List Token) → BeginsWith level operator words rest
    → goes_on level words ≡ true
begins-goes level operator words rest begins =
    rw (begins.is, begins.known, begins.at_level) (level-binds level)

-- no operator of the level follows
abbrev pub IsNoneOf : Level → List Token → Type 0
IsNoneOf level words = (rest : List Token) (operator : Operator) → BeginsWith level operator words rest → ⊥

no-more-by : (level : Level) (operator : Operator) (words rest : List Token) (token : Token) → operator_of token ≡ Some operator
    → words ≡ token ∷ rest → part_binds level (Some (level_of operator)) ≡ false → IsNoneOf level words
    → binds level (Some (level_of operator)) ≡ false
no-more-by level operator words rest token known is stops none =
    not-binds level (level_of operator) stops
    (λ same. none rest operator (record { token = token; is = is; known = known; at_level = same }))

no-more-at : (level : Level) (rest : List Token) (token : Token) (found : Option Operator) → operator_of token ≡ found
    → part_goes_on level (token ∷ rest) ≡ false → IsNoneOf level (token ∷ rest) → binds level (level_at found) ≡ false
no-more-at Sum rest token None known stops none = refl
no-more-at Product rest token None known stops none = refl
no-more-at Sum rest token (Some operator) known stops none =
    no-more-by Sum operator (token ∷ rest) rest token known refl (rw known at stops) none
no-more-at Product rest token (Some operator) known stops none =
    no-more-by Product operator (token ∷ rest) rest token known refl refl none

pub no-more : (level : Level) (words : List Token) → part_goes_on level words ≡ false → IsNoneOf level words → goes_on level words ≡ false
no-more level [] stops none = refl
no-more level (token ∷ rest) stops none = no-more-at level rest token (operator_of token) refl stops none

module _ {A : Type 0} {unit : AUnit} {depth : ℕ} {level : Level} where
  -- a part stops where the next operator of its chain follows, or where the chain ends
  pub links-stop : {words rest : List Token} {first made : Expression A} → Links unit depth level words first rest made
      → goes_on level rest ≡ false → part_goes_on level words ≡ false
  links-stop {words = words} ends stop = part-stops level words stop
  links-stop (link {token = token} {operator = operator} {middle = middle} p q known at allowed part fits links) stop =
      operator-stops level operator token middle known at

  pub read-links : {words after rest : List Token} {read first made : Expression A} → words ≡ after
      → expression_content read ≡ expression_content first → Links unit depth level after first rest made
      → ReadLinks unit depth level words read rest made
  read-links {first = first} is same links = rw is (record { first = first; same = same; links = links })

  next-by : {words after rest : List Token} {operator : Operator} {first made : Expression A} → Links unit depth level words first rest made
      → BeginsWith level operator words after → goes_on level rest ≡ false → NextOf unit depth level operator after first rest made
  next-by {words = words} {after = after} {operator = operator} ends begins stop =
      let goes = begins-goes level operator words after begins in
      let both : true ≡ false = sym goes ∙ stop in
      absurd (cc both)
  next-by {after = after} {rest = rest} {operator = operator} {first = first} {made = made}
      (link {token = token} {operator = given} {middle = middle} {after = later} {second = second} p q known at allowed part fits links) begins stop =
      let tokens : token ≡ begins.token = cc (begins.is) in
      let rests : middle ≡ after = cc (begins.is) in
      let found : Some given ≡ Some operator = sym known ∙ ap operator_of tokens ∙ begins.known in
      let same : given ≡ operator = cc found in
      let next : NextOf unit depth level given middle first rest made = record {
        second = second;
        after = later;
        p = p;
        q = q;
        allowed = allowed;
        part = part;
        fits = fits;
        links = links;
      } in
      let moved = subst (λ (o : Operator). NextOf unit depth level o middle first rest made) same next in
      subst (λ (w : List Token). NextOf unit depth level operator w first rest made) rests moved

  pub next-of : {words after rest : List Token} {operator : Operator} {read made : Expression A}
      (are : ReadLinks unit depth level words read rest made) → BeginsWith level operator words after → goes_on level rest ≡ false
      → NextOf unit depth level operator after are.first rest made
  next-of are begins stop = next-by are.links begins stop

  last-by : {words rest : List Token} {first made : Expression A} → Links unit depth level words first rest made → IsNoneOf level words
      → (words ≡ rest) × (expression_content first ≡ expression_content made)
  last-by ends none = (refl, refl)
  last-by (link {token = token} {operator = operator} {middle = middle} p q known at allowed part fits links) none =
      absurd (none middle operator (record { token = token; is = refl; known = known; at_level = at }))

  pub last-of : {words rest : List Token} {read made : Expression A} → ReadLinks unit depth level words read rest made
      → IsNoneOf level words → (words ≡ rest) × (expression_content read ≡ expression_content made)
  last-of are none = let last = last-by are.links none in (last.0, are.same ∙ last.1)

  -- a part joined to those before it
  pub joined-links : {operator : Operator} {after middle rest : List Token} {read second joined first made : Expression A}
      (next : NextOf unit depth level operator middle first rest made) → after ≡ next.after
      → expression_content read ≡ expression_content first → expression_content second ≡ expression_content next.second
      → IsCombined operator read second joined → ReadLinks unit depth level after joined rest made
  joined-links {operator = operator} {second = second} {first = first} next is same also joins =
      let left = ap (λ x. Combined operator x (expression_content second)) same in
      let right = ap (λ x. Combined operator (expression_content first) x) also in
      read-links is (rw joins.1.1 (left ∙ right)) next.links

-- an expression in parentheses, after the first of them
pub record IsNumberGroup {A : Type 0} (unit : AUnit) (depth : ℕ) (words rest : List Token) (made : Expression A) : Type 0 where
  pub some : 1 ≤ depth
  pub spelled : SpellsNumber unit (depth - 1) (Chain Sum) words (Close ∷ rest) made

-- a minus as an operator, after it
pub record IsOppositeOf {A : Type 0} (unit : AUnit) (depth : ℕ) (words rest : List Token) (made : Expression A) : Type 0 where
  pub some : 1 ≤ depth
  pub inner : Expression A
  pub few : operators inner < 64
  pub spelled : SpellsNumber unit (depth - 1) Factor words rest inner
  pub is : IsOpposite inner made

-- a literal
pub record IsLiteral {A : Type 0} (unit : AUnit) (words rest : List Token) (made : Expression A) : Type 0 where
  pub value : AValue
  pub spelled : IsNumber unit words rest value.number
  pub is : made ≡ expression.Literal value

numeral-first : (words rest after : List Token) (numeral : Numeral) → IsNumeral words rest numeral → words ≡ Sign Minus ∷ after
    → begins_number after ≡ true
numeral-first _ rest after numeral unsigned is = cc
numeral-first _ rest after numeral positive is = cc
numeral-first _ rest after _ (negative {numeral = numeral}) is =
    let e : Number numeral ∷ rest ≡ after = cc in subst (λ (l : List Token). begins_number l ≡ true) e refl

numeral-open : (words rest after : List Token) (numeral : Numeral) → IsNumeral words rest numeral → words ≡ Open ∷ after → ⊥
numeral-open _ rest after numeral unsigned is = cc
numeral-open _ rest after numeral positive is = cc
numeral-open _ rest after _ negative is = cc

module _ {A : Type 0} {unit : AUnit} where
  pub group-number-of : {depth : ℕ} {words rest : List Token} {made : Expression A}
      → SpellsNumber unit depth Factor (Open ∷ words) rest made → IsNumberGroup unit depth words rest made
  group-number-of {words = words} {rest = rest} {made = made} (grouped {depth = inner} is) =
      let same : inner ≡ suc inner - 1 = omega arith in
      record { some = omega arith; spelled = subst (λ (n : ℕ). SpellsNumber unit n (Chain Sum) words (Close ∷ rest) made) same is }
  group-number-of {words = words} {rest = rest} (literal is) =
      absurd (numeral-open _ rest words is.numeral is.spelled refl)

  opposite-of : {depth : ℕ} {words rest : List Token} {made : Expression A} → begins_number words ≡ false
      → SpellsNumber unit depth Factor (Sign Minus ∷ words) rest made → IsOppositeOf unit depth words rest made
  opposite-of {words = words} {rest = rest} stop (opposite {depth = depth} {p = p} {inner = inner} none few is) =
      let same : depth ≡ suc depth - 1 = omega arith in
      record {
        some = omega arith;
        inner = inner;
        few = few;
        spelled = subst (λ (n : ℕ). SpellsNumber unit n Factor words rest inner) same is;
        is = (p, refl);
      }
  opposite-of {words = words} {rest = rest} stop (literal is) =
      let starts = numeral-first _ rest words is.numeral is.spelled refl in
      let both : true ≡ false = sym starts ∙ stop in
      absurd (cc both)

  signed-of : {depth : ℕ} {words rest : List Token} {made : Expression A} → begins_number words ≡ true
      → SpellsNumber unit depth Factor (Sign Minus ∷ words) rest made → IsLiteral unit (Sign Minus ∷ words) rest made
  signed-of starts (literal {value = value} is) = record { value = value; spelled = is; is = refl }
  signed-of starts (opposite stop few is) = let both : true ≡ false = sym starts ∙ stop in absurd (cc both)

  pub opposite-at : {depth : ℕ} {minus words rest : List Token} {made : Expression A} → minus ≡ Sign Minus ∷ words
      → begins_number words ≡ false → SpellsNumber unit depth Factor minus rest made → IsOppositeOf unit depth words rest made
  opposite-at {depth = depth} {rest = rest} {made = made} is stop spelled =
      opposite-of stop (subst (λ (w : List Token). SpellsNumber unit depth Factor w rest made) is spelled)

  pub signed-at : {depth : ℕ} {minus words rest : List Token} {made : Expression A} → minus ≡ Sign Minus ∷ words
      → begins_number words ≡ true → SpellsNumber unit depth Factor minus rest made → IsLiteral unit minus rest made
  signed-at {depth = depth} {rest = rest} {made = made} is starts spelled =
      let literal = signed-of starts (subst (λ (w : List Token). SpellsNumber unit depth Factor w rest made) is spelled) in
      subst (λ (w : List Token). IsLiteral unit w rest made) (sym is) literal

  pub literal-of : {depth : ℕ} {words rest : List Token} {made : Expression A} → IsNotFirst Open words → IsNotFirst (Sign Minus) words
      → ((c : NumericColumn) → IsNotFirst (AColumn (column.Numeric c)) words) → SpellsNumber unit depth Factor words rest made
      → IsLiteral unit words rest made
  literal-of parens minus named (literal {value = value} is) = record { value = value; spelled = is; is = refl }
  literal-of parens minus named (property_name {named = c} is) = absurd (named c _ refl)
  literal-of parens minus named (opposite stop few is) = absurd (minus _ refl)
  literal-of parens minus named (grouped is) = absurd (parens _ refl)

-- how deeply a chain is nested in another one
abbrev pub rank : Level → ℕ
rank Sum = 2
rank Product = 0
