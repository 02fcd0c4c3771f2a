-- Every production consumes tokens.
use Rattle.std.proofs.Common.{ℕ, zero, suc, ◌<◌, ◌≤◌, List, ◌∷◌, length, ap, arith}
use Rattle.cql2.specs.declared.column.Column.{Column as AColumn}
use Rattle.cql2.specs.declared.column.TextColumn.{TextColumn}
use Rattle.cql2.specs.declared.filter.Comparison.{Comparison}
use Rattle.cql2.specs.declared.filter.Comparison.TheVariants.{Equal, NotEqual, Less, LessOrEqual, Greater, GreaterOrEqual}
use Rattle.cql2.specs.declared.filter.Filter.{Filter}
use Rattle.cql2.specs.declared.pattern.Folding.{Folding}
use Rattle.cql2.specs.declared.pattern.Pattern.{Pattern}
use Rattle.cql2.specs.declared.text.Text.{Text as AText}
use Rattle.cql2_text.specs.Predicate.{IsFoldedText, IsLikeColumn, IsSubject, IsText, IsTextColumn, SpellsComparison, SpellsNull, SpellsRelation, width_of}
use Rattle.cql2_text.specs.Predicate.{SpellsLike, SpellsList, SpellsNegatable, SpellsOf, SpellsTextComparison}
use Rattle.cql2_text.specs.Clause.{IsClause, Opens, accenti, casei, closed, inside}
use Rattle.cql2_text.specs.Predicate.{one, more, is_like, is_in_list, binary_comparison, with_column, with_literal}
use Rattle.cql2_text.specs.Predicate.{negatable, negated, null_test, is_null, is_not_null}
use Rattle.cql2_text.specs.Spelled.{SpellsPredicate, false_literal, function, relation, true_literal}
use Rattle.cql2_text.specs.Predicate.{of_subject, of_number, number_null, text_first, text_compared, text_among, text_not_among, text_in_list}
use Rattle.cql2_text.specs.Predicate.{IsTextLiteral, SpellsExchangedComparison, SpellsOfText, SpellsTextAmong}
use Rattle.cql2_text.specs.Spelled.{Production, Spells, one_term, either, one_factor, both, one_primary, not_primary, grouped, predicate}
use Rattle.cql2_text.specs.declared.predicate.CharacterExpression.{CharacterExpression}
use Rattle.cql2_text.specs.declared.predicate.CharacterExpression.TheVariants as subject
use Rattle.cql2_tokens.specs.declared.token.Token.{Token}
use Rattle.cql2_tokens.specs.declared.token.Token.TheVariants.{Close, Comma}
use Rattle.cql2_text.proofs.ComparedLemmas.{after-shorter, operand-shorter}
use Rattle.cql2_text.proofs.FunctionLemmas.{function-shorter}

text-shorter : {A : Type 0} (width : ℕ) (words rest : List Token) (text : AText A) → IsText width words rest text
    → length rest < length words
text-shorter width words rest text is = omega (arith, ap length is.spelled)

opens-shorter : (depth : ℕ) (folding : Folding) (words inner : List Token) → Opens depth folding words inner → length inner ≤ length words
opens-shorter _ _ _ inner (inside _) = omega arith
opens-shorter _ _ _ inner (casei {depth = depth} {folding = folding} {words = words} is) =
    let more = opens-shorter depth folding words inner is in omega arith
opens-shorter _ _ _ inner (accenti {depth = depth} {folding = folding} {words = words} is) =
    let more = opens-shorter depth folding words inner is in omega arith

closed-longer : (depth : ℕ) (rest : List Token) → length rest ≤ length (closed depth rest)
closed-longer zero rest = omega arith
closed-longer (suc depth) rest = let more = closed-longer depth rest in omega arith

module _ (Inner : List Token → List Token → Type 0) where
  clause-shorter : (folding : Folding) (words rest : List Token) → ((w r : List Token) → Inner w r → length r < length w)
      → IsClause Inner folding words rest → length rest < length words
  clause-shorter folding words rest shorter is =
      omega (
        arith,
        opens-shorter is.depth folding words is.inner is.opened.opens,
        shorter is.inner (closed is.depth rest) is.inside,
        closed-longer is.depth rest,
      )

column-shorter : (c : TextColumn) (words rest : List Token) → IsTextColumn c words rest → length rest < length words
column-shorter c words rest is = omega (arith, ap length is)

folded-shorter : {A : Type 0} (folding : Folding) (c : TextColumn) (words rest : List Token) (pattern : Pattern A)
    → IsFoldedText folding c words rest pattern → length rest < length words
folded-shorter folding c words rest pattern is =
    clause-shorter (λ w r. IsText (width_of c) w r is.text) folding words rest (λ w r it. text-shorter (width_of c) w r is.text it) is.clause

pattern-shorter : {A : Type 0} (c : TextColumn) (folding : Folding) (words rest : List Token) (pattern : Pattern A)
    → IsLikeColumn c folding words rest pattern → length rest < length words
pattern-shorter c folding words rest pattern is = omega (arith, ap length is.spelled)

text-comparison-shorter : {A : Type 0} (c : TextColumn) (k : Comparison) (words rest : List Token) (made : Filter A)
    → SpellsTextComparison c k words rest made → length rest < length words
text-comparison-shorter c k words rest _ (with_literal {text = text} is) = text-shorter _ words rest text is
text-comparison-shorter c k _ rest _ with_column = omega arith

pub comparison-shorter : {A : Type 0} (s : CharacterExpression) (k : Comparison) (words rest : List Token) (made : Filter A)
    → SpellsComparison s k words rest made → length rest < length words
comparison-shorter (subject.Text c) k words rest made is = text-comparison-shorter c k words rest made is
comparison-shorter (subject.Folded folding c) Equal words rest made is = folded-shorter folding c words rest is.0 is.1
comparison-shorter (subject.Folded folding c) NotEqual words rest made is = folded-shorter folding c words rest is.0 is.1
comparison-shorter (subject.Folded folding c) Less words rest made is = absurd is
comparison-shorter (subject.Folded folding c) LessOrEqual words rest made is = absurd is
comparison-shorter (subject.Folded folding c) Greater words rest made is = absurd is
comparison-shorter (subject.Folded folding c) GreaterOrEqual words rest made is = absurd is

module _ {A : Type 0} (Item : List Token → List Token → Filter A → Type 0) where
  list-shorter : (words rest : List Token) (made : Filter A) → ((w r : List Token) (m : Filter A) → Item w r m → length r < length w)
      → SpellsList Item words rest made → length rest < length words
  list-shorter words rest made shorter (one is) = shorter words rest made is
  list-shorter words rest made shorter (more {middle = middle} {first = first} {second = second} front is joined) =
      let before = list-shorter words (Comma ∷ middle) first shorter front in
      let last = shorter middle rest second is in
      omega arith

like-shorter : {A : Type 0} (s : CharacterExpression) (words rest : List Token) (made : Filter A) → SpellsLike s words rest made
    → length rest < length words
like-shorter (subject.Text c) words rest made is = pattern-shorter _ _ _ _ _ is.1
like-shorter (subject.Folded folding c) words rest made is =
    clause-shorter (λ w r. IsLikeColumn c folding w r is.0) folding words rest (λ w r it. pattern-shorter c folding w r is.0 it) is.1

negatable-shorter : {A : Type 0} (s : CharacterExpression) (words rest : List Token) (made : Filter A) → SpellsNegatable s words rest made
    → length rest < length words
negatable-shorter s _ _ _ (is_like {words = words} {rest = rest} {made = made} is) =
    let inner = like-shorter s words rest made is in omega arith
negatable-shorter s _ _ _ (is_in_list {words = words} {rest = rest} {made = made} is) =
    let inner = list-shorter (SpellsComparison s Equal) words (Close ∷ rest) made (comparison-shorter s Equal) is in omega arith

null-shorter : {A : Type 0} (c : AColumn) (words rest : List Token) (made : Filter A) → SpellsNull c words rest made
    → length rest < length words
null-shorter c _ _ _ is_null = omega arith
null-shorter c _ _ _ (is_not_null opposite) = omega arith

of-shorter : {A : Type 0} (s : CharacterExpression) (words rest : List Token) (made : Filter A) → SpellsOf s words rest made
    → length rest < length words
of-shorter s _ _ _ (binary_comparison {comparison = k} {words = words} {rest = rest} {made = made} is) =
    let inner = comparison-shorter s k words rest made is in omega arith
of-shorter s words rest made (negatable is) = negatable-shorter s words rest made is
of-shorter s _ _ _ (negated {words = words} {rest = rest} {inner = first} is opposite) =
    let inner = negatable-shorter s words rest first is in omega arith
of-shorter s _ _ _ (null_test {words = words} {rest = rest} {c = c} {made = made} known is) =
    let inner = null-shorter c words rest made is in omega arith

subject-shorter : (s : CharacterExpression) (words rest : List Token) → IsSubject s words rest → length rest < length words
subject-shorter (subject.Text c) words rest is = column-shorter c words rest is
subject-shorter (subject.Folded folding c) words rest is = clause-shorter (IsTextColumn c) folding words rest (column-shorter c) is

text-literal-shorter : (words rest : List Token) → IsTextLiteral words rest → length rest < length words
text-literal-shorter words rest is =
    omega (
      arith,
      opens-shorter is.depth is.folding words is.inner is.opens,
      ap length is.inside.is,
      closed-longer is.depth rest,
    )

pub exchanged-shorter : {A : Type 0} (start : List Token) (k : Comparison) (words rest : List Token) (made : Filter A)
    → SpellsExchangedComparison start k words rest made → length rest < length words
exchanged-shorter start k words rest made is = subject-shorter is.s words rest is.is_subject

text-among-shorter : {A : Type 0} (start words rest : List Token) (made : Filter A) → SpellsTextAmong start words rest made
    → length rest < length words
text-among-shorter start _ rest made (text_in_list {words = words} is) =
    let inner = list-shorter (SpellsExchangedComparison start Equal) words (Close ∷ rest) made (exchanged-shorter start Equal) is in omega arith

of-text-shorter : {A : Type 0} (start words rest : List Token) (made : Filter A) → SpellsOfText start words rest made
    → length rest < length words
of-text-shorter start _ rest made (text_compared {k = k} {words = words} is) =
    let inner = exchanged-shorter start k words rest made is in omega arith
of-text-shorter start words rest made (text_among is) = text-among-shorter start words rest made is
of-text-shorter start _ rest made (text_not_among {words = words} {inner = inner} is opposite) =
    let before = text-among-shorter start words rest inner is in omega arith

relation-shorter : {A : Type 0} (words rest : List Token) (made : Filter A) → SpellsRelation words rest made → length rest < length words
relation-shorter words rest made (of_subject {s = s} {middle = middle} known is) =
    let first = subject-shorter s words middle known in
    let second = of-shorter s middle rest made is in
    omega arith
relation-shorter words rest made (text_first {middle = middle} begun is) =
    let first = text-literal-shorter words middle begun in
    let second = of-text-shorter words middle rest made is in
    omega arith
relation-shorter words rest made (of_number {middle = middle} is) =
    let first = operand-shorter words middle middle rest made is in
    let second = after-shorter words middle middle rest made is in
    omega arith
relation-shorter _ rest made (number_null {words = words} {c = c} is) =
    let inner = null-shorter _ words rest made is in omega arith

predicate-shorter : {A : Type 0} (words rest : List Token) (made : Filter A) → SpellsPredicate words rest made → length rest < length words
predicate-shorter _ _ _ true_literal = omega arith
predicate-shorter _ _ _ false_literal = omega arith
predicate-shorter _ _ _ (function {name = n} {words = words} {rest = rest} {made = made} is) =
    let inner = function-shorter n words rest made is in omega arith
predicate-shorter words rest made (relation is) = relation-shorter words rest made is

pub spells-shorter : {A : Type 0} (depth : ℕ) (production : Production) (words rest : List Token) (made : Filter A)
    → Spells depth production words rest made
    → length rest < length words
spells-shorter depth _ words rest made (one_term is) = spells-shorter depth _ words rest made is
spells-shorter depth _ words rest _ (either {middle = middle} {first = first} {second = second} left right joined) =
    let before = spells-shorter depth _ words _ first left in
    let after = spells-shorter depth _ middle rest second right in
    omega arith
spells-shorter depth _ words rest made (one_factor is) = spells-shorter depth _ words rest made is
spells-shorter depth _ words rest _ (both {middle = middle} {first = first} {second = second} left right joined) =
    let before = spells-shorter depth _ words _ first left in
    let after = spells-shorter depth _ middle rest second right in
    omega arith
spells-shorter depth _ words rest made (one_primary is) = spells-shorter depth _ words rest made is
spells-shorter depth _ _ rest _ (not_primary {words = words} {inner = inner} is opposite) =
    let before = spells-shorter depth _ words rest inner is in omega arith
spells-shorter _ _ _ rest made (grouped {depth = depth} {words = words} opens is) =
    let before = spells-shorter depth _ words _ made is in omega arith
spells-shorter depth _ words rest made (predicate opens is) = predicate-shorter words rest made is
