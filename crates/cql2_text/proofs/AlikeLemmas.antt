-- Tokens that differ only in where their bytes are in memory spell the same predicate.
use Rattle.std.proofs.Common.{◌≡◌, ℕ, zero, suc, ℤ, Bool, true, false, List, [], ◌∷◌, Some, refl, sym, ap, ◌∙◌, subst}
use denote.Ref.{Bor}
use Rattle.std.specs.Prelude.{◌+◌, ◌-◌, nat_lt, not, if◌then◌else◌}
use Rattle.cql2.specs.declared.column.Column.{Column as AColumn}
use Rattle.cql2.specs.declared.column.Column.TheVariants as column
use Rattle.cql2.specs.declared.expression.Expression.{Expression}
use Rattle.cql2.specs.declared.expression.Number.{Number as ANumber}
use Rattle.cql2.specs.declared.expression.Operator.{Operator}
use Rattle.cql2_text.specs.Compared.{SpellsAmong, SpellsBetween, SpellsCompared, SpellsNumbers, SpellsOfNumber, among, comparison, converse, not_among}
use Rattle.cql2_text.specs.Compared as compared_of
use Rattle.cql2_text.specs.Expression.{Chain, Factor, IsExpression, SpellsNumber, begins_number, goes_on, operator_of}
use Rattle.cql2_text.specs.Expression.{Production as NumberProduction}
use Rattle.cql2_text.specs.Expression.{combined, literal, one_part, opposite, property_name}
use Rattle.cql2_text.specs.Expression as number
use Rattle.cql2_text.specs.Parenthesis.{closing, follows_closing, follows_number, opens_filter}
use Rattle.cql2_text.specs.Scan.{after_number}
use Rattle.cql2_text.specs.declared.expression.Level.{Level}
use Rattle.cql2_text.specs.declared.expression.Level.TheVariants.{Sum}
use Rattle.cql2.specs.declared.column.TextColumn.{TextColumn}
use Rattle.cql2.specs.declared.filter.Comparison.{Comparison}
use Rattle.cql2.specs.declared.filter.Comparison.TheVariants.{Equal, NotEqual, Less, LessOrEqual, Greater, GreaterOrEqual}
use Rattle.cql2.specs.declared.filter.Filter.{Filter}
use Rattle.cql2.specs.declared.pattern.Folding.{Folding}
use Rattle.cql2.specs.declared.pattern.Pattern.{Pattern}
use Rattle.cql2.specs.declared.text.Text.{Text as AText}
use Rattle.cql2_tokens.specs.Alike.{AreLike, IsLike, next, none, numbers, same, texts}
use Rattle.cql2_text.specs.Text.{IsComparedText}
use Rattle.cql2_text.specs.Number.{number_of}
use Rattle.cql2_text.specs.Clause.{IsClause, Opens, accenti, casei, closed, inside, nothing}
use Rattle.cql2_text.specs.Numeral.{IsNumber, IsNumeral, below_zero, negative, positive, unsigned}
use Rattle.cql2_text.specs.Pattern.{IsLikePattern}
use Rattle.cql2_text.specs.Predicate.{IsFoldedText, IsLikeColumn, IsSubject, IsText, IsTextColumn, SpellsComparison, SpellsNull, SpellsRelation}
use Rattle.cql2_text.specs.Predicate.{SpellsTextComparison}
use Rattle.cql2_text.specs.Predicate.{SpellsLike, SpellsList, SpellsNegatable, SpellsOf}
use Rattle.cql2_text.specs.Predicate.{width_of}
use Rattle.cql2_text.specs.Predicate.{one, more, is_like, is_in_list, binary_comparison, with_column, with_literal}
use Rattle.cql2_text.specs.Predicate.{negatable, negated, null_test, is_null, is_not_null}
use Rattle.cql2_text.specs.Predicate.{of_subject, of_number, number_null, text_first, text_compared, text_among, text_not_among, text_in_list}
use Rattle.cql2_text.specs.Predicate.{IsTextLiteral, SpellsExchangedComparison, SpellsOfText, SpellsTextAmong}
use Rattle.cql2_text.specs.declared.unit.Unit.{Unit}
use Rattle.cql2_text.specs.declared.unit.Unit.TheVariants.{Degrees, Femtodegrees, Whole}
use Rattle.cql2_text.specs.declared.predicate.CharacterExpression.{CharacterExpression}
use Rattle.cql2_text.specs.declared.predicate.CharacterExpression.TheVariants as subject
use Rattle.cql2_tokens.specs.declared.token.Keyword.TheVariants as word
use Rattle.cql2_tokens.specs.declared.token.Numeral.{Numeral}
use Rattle.cql2_tokens.specs.declared.token.Sign.TheVariants.{Minus, Plus}
use Rattle.cql2_tokens.specs.declared.token.Token.{Token}
use Rattle.cql2_tokens.specs.declared.token.Token.TheVariants.{Close, Column, Comma, Compared, Keyword, Number, Open, Sign, Text}
use Rattle.cql2_text.proofs.ScanLemmas.{expression-ends}

-- a token that holds no bytes
abbrev pub is_plain : Token → Bool
is_plain (Number numeral) = false
is_plain (Text spelling) = false
is_plain token = true

plain-same : (token other : Token) → IsLike token other → is_plain token ≡ true → token ≡ other
plain-same _ _ (same token) plain = refl
plain-same _ _ (numbers numeral other sign whole decimals) plain = cc
plain-same _ _ (texts spelling other bytes) plain = cc

-- the same first token, followed by tokens that are alike
pub record SameFirst (token : Token) (tokens others : List Token) : Type 0 where
  pub later : List Token
  pub is : others ≡ token ∷ later
  pub alike : AreLike tokens later

pub first-by : (words others : List Token) (token : Token) (tokens : List Token) → AreLike words others → words ≡ token ∷ tokens
    → is_plain token ≡ true → SameFirst token tokens others
first-by _ _ token tokens none is plain = cc
first-by _ _ token tokens (next first other rest later like alike) is plain =
    let firsts : first ≡ token = cc in
    let rests : rest ≡ tokens = cc in
    let e : first ≡ other = plain-same first other like (rw firsts plain) in
    record {
      later = later;
      is = ap (λ (t : Token). t ∷ later) (sym e ∙ firsts);
      alike = subst (λ (l : List Token). AreLike l later) rests alike;
    }

pub same-first : (token : Token) (tokens others : List Token) → is_plain token ≡ true → AreLike (token ∷ tokens) others
    → SameFirst token tokens others
same-first token tokens others plain alike = first-by (token ∷ tokens) others token tokens alike refl plain

-- a number that is alike, and the tokens after it
pub record LikeNumber (numeral : Numeral) (tokens others : List Token) : Type 0 where
  pub another : Numeral
  pub later : List Token
  pub is : others ≡ Number another ∷ later
  pub sign : numeral.is_negative ≡ another.is_negative
  pub whole : numeral.whole.now ≡ another.whole.now
  pub decimals : numeral.decimals.now ≡ another.decimals.now
  pub alike : AreLike tokens later

number-by : (first another : Token) (numeral : Numeral) (tokens later : List Token) → IsLike first another → first ≡ Number numeral
    → AreLike tokens later → LikeNumber numeral tokens (another ∷ later)
number-by _ _ numeral tokens later (same token) is alike =
    record {
      another = numeral;
      later = later;
      is = ap (λ (t : Token). t ∷ later) is;
      sign = refl;
      whole = refl;
      decimals = refl;
      alike = alike;
    }
number-by _ _ numeral tokens later (numbers first another sign whole decimals) is alike =
    let e : first ≡ numeral = cc in
    record {
      another = another;
      later = later;
      is = refl;
      sign = rw (← e) sign;
      whole = rw (← e) whole;
      decimals = rw (← e) decimals;
      alike = alike;
    }
number-by _ _ numeral tokens later (texts spelling other bytes) is alike = cc

like-number-by : (words others : List Token) (numeral : Numeral) (tokens : List Token) → AreLike words others
    → words ≡ Number numeral ∷ tokens
    → LikeNumber numeral tokens others
like-number-by _ _ numeral tokens none is = cc
like-number-by _ _ numeral tokens (next first other rest later like alike) is =
    let firsts : first ≡ Number numeral = cc in
    let rests : rest ≡ tokens = cc in
    number-by first other numeral tokens later like firsts (subst (λ (l : List Token). AreLike l later) rests alike)

-- a text that is alike, and the tokens after it
pub record LikeText (spelling : Bor (List ℕ)) (tokens others : List Token) : Type 0 where
  pub another : Bor (List ℕ)
  pub later : List Token
  pub is : others ≡ Text another ∷ later
  pub bytes : spelling.now ≡ another.now
  pub alike : AreLike tokens later

text-by : (first another : Token) (spelling : Bor (List ℕ)) (tokens later : List Token) → IsLike first another → first ≡ Text spelling
    → AreLike tokens later → LikeText spelling tokens (another ∷ later)
text-by _ _ spelling tokens later (same token) is alike =
    record { another = spelling; later = later; is = ap (λ (t : Token). t ∷ later) is; bytes = refl; alike = alike }
text-by _ _ spelling tokens later (numbers first another sign whole decimals) is alike = cc
text-by _ _ spelling tokens later (texts first another bytes) is alike =
    let e : first ≡ spelling = cc in
    record { another = another; later = later; is = refl; bytes = rw (← e) bytes; alike = alike }

like-text-by : (words others : List Token) (spelling : Bor (List ℕ)) (tokens : List Token) → AreLike words others
    → words ≡ Text spelling ∷ tokens
    → LikeText spelling tokens others
like-text-by _ _ spelling tokens none is = cc
like-text-by _ _ spelling tokens (next first other rest later like alike) is =
    let firsts : first ≡ Text spelling = cc in
    let rests : rest ≡ tokens = cc in
    text-by first other spelling tokens later like firsts (subst (λ (l : List Token). AreLike l later) rests alike)

-- the other tokens spell the same, and the remaining tokens are alike
pub record Moved (Spelled : List Token → List Token → Type 0) (words rest : List Token) : Type 0 where
  pub after : List Token
  pub alike : AreLike rest after
  pub is : Spelled words after

pub moved-at : (Spelled : List Token → List Token → Type 0) (others known rest : List Token) → others ≡ known → Moved Spelled known rest
    → Moved Spelled others rest
moved-at Spelled others known rest is moved = rw is moved

module _ {P Q : List Token → List Token → Type 0} where
  -- a token that holds no bytes, followed by tokens that are moved
  pub moved-after : (token : Token) (words others rest : List Token) → is_plain token ≡ true → AreLike (token ∷ words) others
      → ((later : List Token) → AreLike words later → Moved P later rest) → ((w r : List Token) → P w r → Q (token ∷ w) r)
      → Moved Q others rest
  moved-after token words others rest plain alike inner whole =
      let first = same-first token words others plain alike in
      let moved = inner first.later first.alike in
      moved-at Q others _ rest first.is
      (record { after = moved.after; alike = moved.alike; is = whole first.later moved.after moved.is })

-- a number with or without a sign that is alike, and the tokens after it
pub record SignedLike (numeral : Numeral) (rest others : List Token) : Type 0 where
  pub another : Numeral
  pub later : List Token
  pub is : IsNumeral others later another
  pub sign : numeral.is_negative ≡ another.is_negative
  pub whole : numeral.whole.now ≡ another.whole.now
  pub decimals : numeral.decimals.now ≡ another.decimals.now
  pub alike : AreLike rest later

pub signed-like : (words others rest : List Token) (numeral : Numeral) → AreLike words others → IsNumeral words rest numeral
    → SignedLike numeral rest others
signed-like _ others rest numeral alike unsigned =
    let like = like-number-by (Number numeral ∷ rest) others numeral rest alike refl in
    record {
      another = like.another;
      later = like.later;
      is = subst (λ (l : List Token). IsNumeral l like.later like.another) (sym like.is) unsigned;
      sign = like.sign;
      whole = like.whole;
      decimals = like.decimals;
      alike = like.alike;
    }
signed-like _ others rest numeral alike positive =
    let first = same-first (Sign Plus) (Number numeral ∷ rest) others refl alike in
    let like = like-number-by (Number numeral ∷ rest) first.later numeral rest first.alike refl in
    let words_are = first.is ∙ ap (λ (l : List Token). Sign Plus ∷ l) like.is in
    record {
      another = like.another;
      later = like.later;
      is = subst (λ (l : List Token). IsNumeral l like.later like.another) (sym words_are) positive;
      sign = like.sign;
      whole = like.whole;
      decimals = like.decimals;
      alike = like.alike;
    }
signed-like _ others rest _ alike (negative {numeral = numeral}) =
    let first = same-first (Sign Minus) (Number numeral ∷ rest) others refl alike in
    let like = like-number-by (Number numeral ∷ rest) first.later numeral rest first.alike refl in
    let words_are = first.is ∙ ap (λ (l : List Token). Sign Minus ∷ l) like.is in
    record {
      another = below_zero like.another;
      later = like.later;
      is = subst (λ (l : List Token). IsNumeral l like.later (below_zero like.another)) (sym words_are) negative;
      sign = refl;
      whole = like.whole;
      decimals = like.decimals;
      alike = like.alike;
    }

pub number_of-like : (unit : Unit) (numeral another : Numeral) → numeral.is_negative ≡ another.is_negative
    → numeral.whole.now ≡ another.whole.now → numeral.decimals.now ≡ another.decimals.now → number_of unit numeral ≡ number_of unit another
number_of-like Whole numeral another sign whole decimals = rw (sign, whole, decimals) refl
number_of-like Degrees numeral another sign whole decimals = rw (sign, whole, decimals) refl
number_of-like Femtodegrees numeral another sign whole decimals = rw (sign, whole, decimals) refl

pub moved-number : (unit : Unit) (words others rest : List Token) (number : ℤ) → AreLike words others
    → IsNumber unit words rest number → Moved (λ w r. IsNumber unit w r number) others rest
moved-number unit words others rest number alike is =
    let like = signed-like words others rest is.numeral alike is.spelled in
    record {
      after = like.later;
      alike = like.alike;
      is = record {
        numeral = like.another;
        spelled = like.is;
        value = sym (number_of-like unit is.numeral like.another like.sign like.whole like.decimals) ∙ is.value;
      };
    }

-- an operator holds no bytes
operator-plain : (token : Token) (operator : Operator) → operator_of token ≡ Some operator → is_plain token ≡ true
operator-plain (Number numeral) operator known = cc
operator-plain (Text spelling) operator known = cc
operator-plain token operator known = refl

begins-number-first : (token : Token) (left right : List Token) → begins_number (token ∷ left) ≡ begins_number (token ∷ right)
begins-number-first (Number numeral) left right = refl
begins-number-first token left right = refl

begins-number-like : (words others : List Token) → AreLike words others → begins_number words ≡ begins_number others
begins-number-like _ _ none = refl
begins-number-like _ _ (next _ _ tokens later (same token) alike) = begins-number-first token tokens later
begins-number-like _ _ (next _ _ tokens later (numbers numeral other sign whole decimals) alike) = refl
begins-number-like _ _ (next _ _ tokens later (texts spelling other bytes) alike) = refl

goes-like : (level : Level) (words others : List Token) → AreLike words others → goes_on level words ≡ goes_on level others
goes-like level _ _ none = refl
goes-like level _ _ (next _ _ tokens later (same token) alike) = refl
goes-like level _ _ (next _ _ tokens later (numbers numeral other sign whole decimals) alike) = refl
goes-like level _ _ (next _ _ tokens later (texts spelling other bytes) alike) = refl

module _ {A : Type 0} {unit : Unit} where
  moved-number-text : (depth : ℕ) (production : NumberProduction) (words others rest : List Token) (made : Expression A) → AreLike words others
      → SpellsNumber unit depth production words rest made → Moved (λ w r. SpellsNumber unit depth production w r made) others rest
  moved-number-text depth _ words others rest _ alike (literal {value = value} is) =
      let moved = moved-number unit words others rest value.number alike is in
      record { after = moved.after; alike = moved.alike; is = literal moved.is }
  moved-number-text depth _ _ others rest _ alike (property_name {named = named} is) =
      let first = same-first (Column (column.Numeric named)) rest others refl alike in
      moved-at _ others _ rest first.is (record { after = first.later; alike = first.alike; is = property_name is })
  moved-number-text _ _ _ others rest _ alike (opposite {depth = depth} {words = words} {inner = inner} stop few is) =
      let first = same-first (Sign Minus) words others refl alike in
      let moved = moved-number-text depth Factor words first.later rest inner first.alike is in
      let stops = sym (begins-number-like words first.later first.alike) ∙ stop in
      moved-at _ others _ rest first.is (record { after = moved.after; alike = moved.alike; is = opposite stops few moved.is })
  moved-number-text _ _ _ others rest made alike (number.grouped {depth = depth} {words = words} is) =
      let first = same-first Open words others refl alike in
      let inner = moved-number-text depth (Chain Sum) words first.later (Close ∷ rest) made first.alike is in
      let closed = same-first Close rest inner.after refl inner.alike in
      moved-at _ others _ rest first.is
      (record { after = closed.later; alike = closed.alike; is = number.grouped (rw closed.is at inner.is) })
  moved-number-text depth _ words others rest made alike (one_part is) =
      let moved = moved-number-text depth _ words others rest made alike is in
      record { after = moved.after; alike = moved.alike; is = one_part moved.is }
  moved-number-text depth _ words others rest _ alike
      (combined {token = token} {operator = operator} {middle = middle} {first = first} {second = second} known at allowed left right fits) =
      let before = moved-number-text depth _ words others (token ∷ middle) first alike left in
      let between = same-first token middle before.after (operator-plain token operator known) before.alike in
      let moved = moved-number-text depth _ middle between.later rest second between.alike right in
      record { after = moved.after; alike = moved.alike; is = combined known at allowed (rw between.is at before.is) moved.is fits }

  moved-expression : (words others rest : List Token) (made : ANumber A) → AreLike words others → IsExpression unit words rest made
      → Moved (λ w r. IsExpression unit w r made) others rest
  moved-expression words others rest made alike is =
      let moved = moved-number-text _ _ words others rest made.expression alike is.spelled in
      record {
        after = moved.after;
        alike = moved.alike;
        is = record { spelled = moved.is; longest = sym (goes-like Sum rest moved.after moved.alike) ∙ is.longest };
      }

module _ {A : Type 0} (start others «end» : List Token) (alike : AreLike start others) where
  -- the number at the start, moved
  moved-operand : {unit : Unit} (made : ANumber A) → IsExpression unit start «end» made
      → IsExpression unit others (after_number others) made × AreLike «end» (after_number others)
  moved-operand {unit = unit} made is =
      let moved = moved-expression start others «end» made alike is in
      let ends = expression-ends others moved.after made moved.is in (
        subst (λ (w : List Token). IsExpression unit others w made) (sym ends) moved.is,
        subst (λ (w : List Token). AreLike «end» w) (sym ends) moved.alike,
      )

  moved-compared : (k : Comparison) (words later rest : List Token) (made : Filter A) → AreLike words later
      → SpellsCompared start «end» k words rest made → Moved (λ w r. SpellsCompared others (after_number others) k w r made) later rest
  moved-compared k words later rest made also is =
      let first = moved-operand is.first is.is_first in
      let second = moved-expression words later rest is.second also is.is_second in
      record {
        after = second.after;
        alike = second.alike;
        is = record {
          first = is.first;
          second = is.second;
          unit = is.unit;
          in_unit = is.in_unit;
          is_first = first.0;
          is_second = second.is;
          is = is.is;
        };
      }

  moved-between : (words later rest : List Token) (made : Filter A) → AreLike words later → SpellsBetween start «end» words rest made
      → Moved (λ w r. SpellsBetween others (after_number others) w r made) later rest
  moved-between words later rest made also is =
      let low = moved-compared GreaterOrEqual words later (Keyword word.And ∷ is.middle) is.low also is.at_least in
      let between = same-first (Keyword word.And) is.middle low.after refl low.alike in
      let high = moved-compared LessOrEqual is.middle between.later rest is.high between.alike is.at_most in
      record {
        after = high.after;
        alike = high.alike;
        is = record {
          low = is.low;
          high = is.high;
          middle = between.later;
          at_least = rw between.is at low.is;
          at_most = high.is;
          both = is.both;
        };
      }

  moved-numbers : (words later rest : List Token) (made : Filter A) → AreLike words later → SpellsNumbers start «end» words rest made
      → Moved (λ w r. SpellsNumbers others (after_number others) w r made) later rest
  moved-numbers words later rest made also (compared_of.one is) =
      let item = moved-compared Equal words later rest made also is in
      record { after = item.after; alike = item.alike; is = compared_of.one item.is }
  moved-numbers words later rest made also (compared_of.more {middle = middle} {first = first} {second = second} front is joined) =
      let before = moved-numbers words later (Comma ∷ middle) first also front in
      let between = same-first Comma middle before.after refl before.alike in
      let item = moved-compared Equal middle between.later rest second between.alike is in
      record { after = item.after; alike = item.alike; is = compared_of.more (rw between.is at before.is) item.is joined }

  moved-among : (words later rest : List Token) (made : Filter A) → AreLike words later → SpellsAmong start «end» words rest made
      → Moved (λ w r. SpellsAmong others (after_number others) w r made) later rest
  moved-among _ later rest made also (compared_of.is_between {words = words} is) =
      moved-after (Keyword word.Between) words later rest refl also (λ l a. moved-between words l rest made a is)
      (λ w r it. compared_of.is_between it)
  moved-among _ later rest made also (compared_of.is_in_list {words = words} is) =
      let first = same-first (Keyword word.In) (Open ∷ words) later refl also in
      let second = same-first Open words first.later refl first.alike in
      let inner = moved-numbers words second.later (Close ∷ rest) made second.alike is in
      let closed = same-first Close rest inner.after refl inner.alike in
      moved-at _ later _ rest (first.is ∙ ap (λ (l : List Token). Keyword word.In ∷ l) second.is)
      (record { after = closed.later; alike = closed.alike; is = compared_of.is_in_list (rw closed.is at inner.is) })

  moved-of-number : (words later rest : List Token) (made : Filter A) → AreLike words later → SpellsOfNumber start «end» words rest made
      → Moved (λ w r. SpellsOfNumber others (after_number others) w r made) later rest
  moved-of-number _ later rest made also (comparison {sign = k} {words = words} is) =
      moved-after (Compared k) words later rest refl also (λ l a. moved-compared k words l rest made a is) (λ w r it. comparison it)
  moved-of-number words later rest made also (among is) =
      let inner = moved-among words later rest made also is in
      record { after = inner.after; alike = inner.alike; is = among inner.is }
  moved-of-number _ later rest made also (not_among {words = words} {inner = inner} is inverted) =
      moved-after (Keyword word.Not) words later rest refl also (λ l a. moved-among words l rest inner a is)
      (λ w r it. not_among it inverted)

  numbers-alike : (words rest : List Token) (made : Filter A) → SpellsNumbers start «end» words rest made → AreLike «end» (after_number others)
  numbers-alike words rest made (compared_of.one is) = (moved-operand is.first is.is_first).1
  numbers-alike words rest made (compared_of.more {middle = middle} {first = first} front is joined) =
      numbers-alike words (Comma ∷ middle) first front

  among-alike : (words rest : List Token) (made : Filter A) → SpellsAmong start «end» words rest made → AreLike «end» (after_number others)
  among-alike _ rest made (compared_of.is_between is) = (moved-operand is.at_least.first is.at_least.is_first).1
  among-alike _ rest made (compared_of.is_in_list {words = words} is) = numbers-alike words (Close ∷ rest) made is

  -- the tokens after the number are alike
  operand-alike : (words rest : List Token) (made : Filter A) → SpellsOfNumber start «end» words rest made → AreLike «end» (after_number others)
  operand-alike _ rest made (comparison is) = (moved-operand is.first is.is_first).1
  operand-alike words rest made (among is) = among-alike words rest made is
  operand-alike _ rest made (not_among {words = words} {inner = inner} is inverted) = among-alike words rest inner is

-- the openings of CASEI and ACCENTI
pub record LikeOpens (depth : ℕ) (folding : Folding) (inner others : List Token) : Type 0 where
  pub later : List Token
  pub opens : Opens depth folding others later
  pub alike : AreLike inner later

opens-at : {depth : ℕ} {folding : Folding} (others known inner : List Token) → others ≡ known → LikeOpens depth folding inner known
    → LikeOpens depth folding inner others
opens-at others known inner is like = rw is like

like-opens : (depth : ℕ) (folding : Folding) (words others inner : List Token) → AreLike words others → Opens depth folding words inner
    → LikeOpens depth folding inner others
like-opens _ _ _ others inner alike (inside _) = record { later = others; opens = inside others; alike = alike }
like-opens _ _ _ others inner alike (casei {depth = depth} {folding = folding} {words = words} is) =
    let first = same-first (Keyword word.Casei) (Open ∷ words) others refl alike in
    let second = same-first Open words first.later refl first.alike in
    let more = like-opens depth folding words second.later inner second.alike is in
    opens-at others _ inner (first.is ∙ ap (λ (l : List Token). Keyword word.Casei ∷ l) second.is)
    (record { later = more.later; opens = casei more.opens; alike = more.alike })
like-opens _ _ _ others inner alike (accenti {depth = depth} {folding = folding} {words = words} is) =
    let first = same-first (Keyword word.Accenti) (Open ∷ words) others refl alike in
    let second = same-first Open words first.later refl first.alike in
    let more = like-opens depth folding words second.later inner second.alike is in
    opens-at others _ inner (first.is ∙ ap (λ (l : List Token). Keyword word.Accenti ∷ l) second.is)
    (record { later = more.later; opens = accenti more.opens; alike = more.alike })

-- closing parentheses
like-closed : (depth : ℕ) (rest others : List Token) → AreLike (closed depth rest) others
    → (later : List Token) × (others ≡ closed depth later) × AreLike rest later
like-closed zero rest others alike = (others, refl, alike)
like-closed (suc depth) rest others alike =
    let first = same-first Close (closed depth rest) others refl alike in
    let more = like-closed depth rest first.later first.alike in
    (more.0, first.is ∙ ap (λ (l : List Token). Close ∷ l) more.1, more.2)

module _ (Inner : List Token → List Token → Type 0) where
  moved-clause : (folding : Folding) (words others rest : List Token)
      → ((w o r : List Token) → AreLike w o → Inner w r → Moved Inner o r)
      → AreLike words others → IsClause Inner folding words rest → Moved (λ w r. IsClause Inner folding w r) others rest
  moved-clause folding words others rest move alike is =
      let opened = like-opens is.depth folding words others is.inner alike is.opened.opens in
      let inner = move is.inner opened.later (closed is.depth rest) opened.alike is.inside in
      let ends = like-closed is.depth rest inner.after inner.alike in
      record {
        after = ends.0;
        alike = ends.2;
        is = record {
          depth = is.depth;
          inner = opened.later;
          opened = record { opens = opened.opens; some = is.opened.some; few = is.opened.few };
          inside = rw ends.1 at inner.is;
        };
      }

moved-column : (c : TextColumn) (words others rest : List Token) → AreLike words others → IsTextColumn c words rest
    → Moved (IsTextColumn c) others rest
moved-column c words others rest alike is =
    let first = first-by words others _ rest alike is refl in
    record { after = first.later; alike = first.alike; is = first.is }

moved-subject : (s : CharacterExpression) (words others rest : List Token) → AreLike words others → IsSubject s words rest
    → Moved (λ w r. IsSubject s w r) others rest
moved-subject (subject.Text c) words others rest alike is = moved-column c words others rest alike is
moved-subject (subject.Folded folding c) words others rest alike is =
    moved-clause (IsTextColumn c) folding words others rest (moved-column c) alike is

module _ {A : Type 0} where
  pub moved-text : (width : ℕ) (words others rest : List Token) (text : AText A) → AreLike words others → IsText width words rest text
      → Moved (λ w r. IsText width w r text) others rest
  moved-text width words others rest text alike is =
      let like = like-text-by words others is.spelling rest alike is.spelled in
      record {
        after = like.later;
        alike = like.alike;
        is = record {
          spelling = like.another;
          spelled = like.is;
          compared = subst (λ (s : List ℕ). IsComparedText width s text.bytes.items) like.bytes is.compared;
        };
      }

  moved-pattern : (c : TextColumn) (folding : Folding) (words others rest : List Token) (pattern : Pattern A) → AreLike words others
      → IsLikeColumn c folding words rest pattern → Moved (λ w r. IsLikeColumn c folding w r pattern) others rest
  moved-pattern c folding words others rest pattern alike is =
      let like = like-text-by words others is.spelling rest alike is.spelled in
      record {
        after = like.later;
        alike = like.alike;
        is = record {
          spelling = like.another;
          spelled = like.is;
          like = subst (λ (s : List ℕ). IsLikePattern (width_of c) folding s pattern) like.bytes is.like;
        };
      }

  moved-folded : (folding : Folding) (c : TextColumn) (words others rest : List Token) (pattern : Pattern A) → AreLike words others
      → IsFoldedText folding c words rest pattern → Moved (λ w r. IsFoldedText folding c w r pattern) others rest
  moved-folded folding c words others rest pattern alike is =
      let Inner = λ (w r : List Token). IsText (width_of c) w r is.text in
      let move : (w o r : List Token) → AreLike w o → Inner w r → Moved Inner o r =
      λ w o r also it. moved-text (width_of c) w o r is.text also it in
      let moved = moved-clause Inner folding words others rest move alike is.clause in
      record { after = moved.after; alike = moved.alike; is = record { text = is.text; clause = moved.is; letters = is.letters } }

  moved-text-comparison : (c : TextColumn) (k : Comparison) (words others rest : List Token) (made : Filter A) → AreLike words others
      → SpellsTextComparison c k words rest made → Moved (λ w r. SpellsTextComparison c k w r made) others rest
  moved-text-comparison c k words others rest _ alike (with_literal {text = text} is) =
      let moved = moved-text (width_of c) words others rest text alike is in
      record { after = moved.after; alike = moved.alike; is = with_literal moved.is }
  moved-text-comparison c k _ others rest _ alike (with_column {other = other}) =
      let first = same-first (Column (column.Text other)) rest others refl alike in
      moved-at _ others _ rest first.is (record { after = first.later; alike = first.alike; is = with_column })

  moved-comparison : (s : CharacterExpression) (k : Comparison) (words others rest : List Token) (made : Filter A) → AreLike words others
      → SpellsComparison s k words rest made → Moved (λ w r. SpellsComparison s k w r made) others rest
  moved-comparison (subject.Text c) k words others rest made alike is = moved-text-comparison c k words others rest made alike is
  moved-comparison (subject.Folded folding c) Equal words others rest made alike is =
      let text = moved-folded folding c words others rest is.0 alike is.1 in
      record { after = text.after; alike = text.alike; is = (is.0, text.is, is.2) }
  moved-comparison (subject.Folded folding c) NotEqual words others rest made alike is =
      let text = moved-folded folding c words others rest is.0 alike is.1 in
      record { after = text.after; alike = text.alike; is = (is.0, text.is, is.2) }
  moved-comparison (subject.Folded folding c) Less words others rest made alike is = absurd is
  moved-comparison (subject.Folded folding c) LessOrEqual words others rest made alike is = absurd is
  moved-comparison (subject.Folded folding c) Greater words others rest made alike is = absurd is
  moved-comparison (subject.Folded folding c) GreaterOrEqual words others rest made alike is = absurd is

  moved-list : (Item Other : List Token → List Token → Filter A → Type 0) (words others rest : List Token) (made : Filter A)
      → ((w o r : List Token) (m : Filter A) → AreLike w o → Item w r m → Moved (λ w r. Other w r m) o r) → AreLike words others
      → SpellsList Item words rest made → Moved (λ w r. SpellsList Other w r made) others rest
  moved-list Item Other words others rest made move alike (one is) =
      let item = move words others rest made alike is in
      record { after = item.after; alike = item.alike; is = one item.is }
  moved-list Item Other words others rest made move alike (more {middle = middle} {first = first} {second = second} front is joined) =
      let before = moved-list Item Other words others (Comma ∷ middle) first move alike front in
      let between = same-first Comma middle before.after refl before.alike in
      let item = move middle between.later rest second between.alike is in
      record { after = item.after; alike = item.alike; is = more (rw between.is at before.is) item.is joined }

  moved-like : (s : CharacterExpression) (words others rest : List Token) (made : Filter A) → AreLike words others → SpellsLike s words rest made
      → Moved (λ w r. SpellsLike s w r made) others rest
  moved-like (subject.Text c) words others rest made alike is =
      let pattern = moved-pattern c nothing words others rest is.0 alike is.1 in
      record { after = pattern.after; alike = pattern.alike; is = (is.0, pattern.is, is.2) }
  moved-like (subject.Folded folding c) words others rest made alike is =
      let Inner = λ (w r : List Token). IsLikeColumn c folding w r is.0 in
      let move : (w o r : List Token) → AreLike w o → Inner w r → Moved Inner o r =
      λ w o r also it. moved-pattern c folding w o r is.0 also it in
      let moved = moved-clause Inner folding words others rest move alike is.1 in
      record { after = moved.after; alike = moved.alike; is = (is.0, moved.is, is.2) }

  moved-negatable : (s : CharacterExpression) (words others rest : List Token) (made : Filter A) → AreLike words others
      → SpellsNegatable s words rest made → Moved (λ w r. SpellsNegatable s w r made) others rest
  moved-negatable s _ others rest made alike (is_like {words = words} is) =
      moved-after (Keyword word.Like) words others rest refl alike (λ later also. moved-like s words later rest made also is)
      (λ w r it. is_like it)
  moved-negatable s _ others rest made alike (is_in_list {words = words} is) =
      let first = same-first (Keyword word.In) (Open ∷ words) others refl alike in
      let second = same-first Open words first.later refl first.alike in
      let Item = SpellsComparison s Equal in
      let inner = moved-list Item Item words second.later (Close ∷ rest) made (moved-comparison s Equal) second.alike is in
      let closed = same-first Close rest inner.after refl inner.alike in
      moved-at _ others _ rest (first.is ∙ ap (λ (l : List Token). Keyword word.In ∷ l) second.is)
      (record { after = closed.later; alike = closed.alike; is = is_in_list (rw closed.is at inner.is) })

  moved-null : (c : AColumn) (words others rest : List Token) (made : Filter A) → AreLike words others → SpellsNull c words rest made
      → Moved (λ w r. SpellsNull c w r made) others rest
  moved-null c _ others rest _ alike is_null =
      let first = same-first (Keyword word.Null) rest others refl alike in
      moved-at _ others _ rest first.is (record { after = first.later; alike = first.alike; is = is_null })
  moved-null c _ others rest made alike (is_not_null inverted) =
      let first = same-first (Keyword word.Not) (Keyword word.Null ∷ rest) others refl alike in
      let second = same-first (Keyword word.Null) rest first.later refl first.alike in
      moved-at _ others _ rest (first.is ∙ ap (λ (l : List Token). Keyword word.Not ∷ l) second.is)
      (record { after = second.later; alike = second.alike; is = is_not_null inverted })

  moved-of : (s : CharacterExpression) (words others rest : List Token) (made : Filter A) → AreLike words others → SpellsOf s words rest made
      → Moved (λ w r. SpellsOf s w r made) others rest
  moved-of s _ others rest made alike (binary_comparison {comparison = k} {words = words} is) =
      moved-after (Compared k) words others rest refl alike (λ later also. moved-comparison s k words later rest made also is)
      (λ w r it. binary_comparison it)
  moved-of s words others rest made alike (negatable is) =
      let inner = moved-negatable s words others rest made alike is in
      record { after = inner.after; alike = inner.alike; is = negatable inner.is }
  moved-of s _ others rest made alike (negated {words = words} {inner = inner} is inverted) =
      moved-after (Keyword word.Not) words others rest refl alike (λ later also. moved-negatable s words later rest inner also is)
      (λ w r it. negated it inverted)
  moved-of s _ others rest made alike (null_test {words = words} {c = c} known is) =
      moved-after (Keyword word.Is) words others rest refl alike (λ later also. moved-null c words later rest made also is)
      (λ w r it. null_test known it)

moved-text-literal : (words others rest : List Token) → AreLike words others → IsTextLiteral words rest
    → Moved IsTextLiteral others rest
moved-text-literal words others rest alike is =
    let opened = like-opens is.depth is.folding words others is.inner alike is.opens in
    let text = like-text-by is.inner opened.later is.inside.spelling (closed is.depth rest) opened.alike is.inside.is in
    let ends = like-closed is.depth rest text.later text.alike in
    record {
      after = ends.0;
      alike = ends.2;
      is = record {
        depth = is.depth;
        folding = is.folding;
        inner = opened.later;
        opens = opened.opens;
        few = is.few;
        inside = record { spelling = text.another; is = rw ends.1 at text.is };
      };
    }

module _ {A : Type 0} (start others : List Token) (alike : AreLike start others) where
  moved-exchanged : (k : Comparison) (words later rest : List Token) (made : Filter A) → AreLike words later
      → SpellsExchangedComparison start k words rest made → Moved (λ w r. SpellsExchangedComparison others k w r made) later rest
  moved-exchanged k words later rest made also is =
      let first = moved-subject is.s words later rest also is.is_subject in
      let second = moved-comparison is.s (converse k) start others is.after made alike is.is_comparison in
      record {
        after = first.after;
        alike = first.alike;
        is = record { s = is.s; after = second.after; is_subject = first.is; is_comparison = second.is };
      }

  moved-text-among : (words later rest : List Token) (made : Filter A) → AreLike words later → SpellsTextAmong start words rest made
      → Moved (λ w r. SpellsTextAmong others w r made) later rest
  moved-text-among _ later rest made also (text_in_list {words = words} is) =
      let first = same-first (Keyword word.In) (Open ∷ words) later refl also in
      let second = same-first Open words first.later refl first.alike in
      let inner = moved-list (SpellsExchangedComparison start Equal) (SpellsExchangedComparison others Equal) words second.later (Close ∷ rest) made
      (moved-exchanged Equal) second.alike is in
      let closed = same-first Close rest inner.after refl inner.alike in
      moved-at _ later _ rest (first.is ∙ ap (λ (l : List Token). Keyword word.In ∷ l) second.is)
      (record { after = closed.later; alike = closed.alike; is = text_in_list (rw closed.is at inner.is) })

  moved-of-text : (words later rest : List Token) (made : Filter A) → AreLike words later → SpellsOfText start words rest made
      → Moved (λ w r. SpellsOfText others w r made) later rest
  moved-of-text _ later rest made also (text_compared {k = k} {words = words} is) =
      moved-after (Compared k) words later rest refl also (λ l a. moved-exchanged k words l rest made a is) (λ w r it. text_compared it)
  moved-of-text words later rest made also (text_among is) =
      let inner = moved-text-among words later rest made also is in
      record { after = inner.after; alike = inner.alike; is = text_among inner.is }
  moved-of-text _ later rest made also (text_not_among {words = words} {inner = inner} is inverted) =
      moved-after (Keyword word.Not) words later rest refl also (λ l a. moved-text-among words l rest inner a is)
      (λ w r it. text_not_among it inverted)

-- what closes a parenthesis, and what follows it, is alike
close-like : (d : ℕ) (test : Bool) (tokens others : List Token) → AreLike tokens others → AreLike (closing (d - 1) tokens) (closing (d - 1) others)
    → AreLike (if test then closing (d - 1) tokens else Close ∷ tokens) (if test then closing (d - 1) others else Close ∷ others)
close-like d true tokens others alike inner = inner
close-like d false tokens others alike inner = next Close Close tokens others (same Close) alike

closing-like : (words others : List Token) → AreLike words others → (d : ℕ) → AreLike (closing d words) (closing d others)
closing-like _ _ none d = none
closing-like _ _ (next _ _ tokens later (same Open) alike) d = closing-like tokens later alike (d + 1)
closing-like _ _ (next _ _ tokens later (same Close) alike) d =
    close-like d (nat_lt 0 d) tokens later alike (closing-like tokens later alike (d - 1))
closing-like _ _ (next _ _ tokens later (same token) alike) d = closing-like tokens later alike d
closing-like _ _ (next _ _ tokens later (numbers numeral other sign whole decimals) alike) d = closing-like tokens later alike d
closing-like _ _ (next _ _ tokens later (texts spelling other bytes) alike) d = closing-like tokens later alike d

follows-first : (token : Token) (left right : List Token) → follows_number (token ∷ left) ≡ follows_number (token ∷ right)
follows-first (Keyword keyword) left right = refl
follows-first token left right = refl

follows-like : (words others : List Token) → AreLike words others → follows_number words ≡ follows_number others
follows-like _ _ none = refl
follows-like _ _ (next _ _ tokens later (same token) alike) = follows-first token tokens later
follows-like _ _ (next _ _ tokens later (numbers numeral other sign whole decimals) alike) = refl
follows-like _ _ (next _ _ tokens later (texts spelling other bytes) alike) = refl

follows-closing-like : (words others : List Token) → AreLike words others → follows_closing words ≡ follows_closing others
follows-closing-like _ _ none = refl
follows-closing-like _ _ (next _ _ tokens later like alike) = follows-like tokens later alike

pub opens-like : (words others : List Token) → AreLike words others → opens_filter words ≡ opens_filter others
opens-like _ _ none = refl
opens-like _ _ (next _ _ tokens later (same Open) alike) =
    ap not (follows-closing-like (closing 0 tokens) (closing 0 later) (closing-like tokens later alike 0))
opens-like _ _ (next _ _ tokens later (same token) alike) = refl
opens-like _ _ (next _ _ tokens later (numbers numeral other sign whole decimals) alike) = refl
opens-like _ _ (next _ _ tokens later (texts spelling other bytes) alike) = refl

pub none-like : (others : List Token) → AreLike [] others → others ≡ []
none-like _ none = refl

module _ {A : Type 0} where
  pub moved-relation : (words others rest : List Token) (made : Filter A) → AreLike words others → SpellsRelation words rest made
      → Moved (λ w r. SpellsRelation w r made) others rest
  moved-relation words others rest made alike (of_subject {s = s} {middle = middle} known is) =
      let first = moved-subject s words others middle alike known in
      let inner = moved-of s middle first.after rest made first.alike is in
      record { after = inner.after; alike = inner.alike; is = of_subject first.is inner.is }
  moved-relation words others rest made alike (text_first {middle = middle} begun is) =
      let first = moved-text-literal words others middle alike begun in
      let inner = moved-of-text words others alike middle first.after rest made first.alike is in
      record { after = inner.after; alike = inner.alike; is = text_first first.is inner.is }
  moved-relation words others rest made alike (of_number {middle = middle} is) =
      let later = operand-alike words others middle alike middle rest made is in
      let moved = moved-of-number words others middle alike middle (after_number others) rest made later is in
      record { after = moved.after; alike = moved.alike; is = of_number moved.is }
  moved-relation _ others rest made alike (number_null {words = words} {c = c} is) =
      let first = same-first (Column (column.Numeric c)) (Keyword word.Is ∷ words) others refl alike in
      let second = same-first (Keyword word.Is) words first.later refl first.alike in
      let moved = moved-null (column.Numeric c) words second.later rest made second.alike is in
      moved-at _ others _ rest (first.is ∙ ap (λ (l : List Token). Column (column.Numeric c) ∷ l) second.is)
      (record { after = moved.after; alike = moved.alike; is = number_null moved.is })
