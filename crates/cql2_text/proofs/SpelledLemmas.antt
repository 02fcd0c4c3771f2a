-- What is spelled if the first tokens are known.
use Rattle.std.proofs.Common.{◌≡◌, ◌≢◌, ◌≤◌, ◌-◌, ℕ, suc, true, false, sym, Result, Ok, Err, IfOk, [], List, ◌∷◌, Some, refl, ap, ◌∙◌, subst, arith}
use Rattle.cql2.specs.declared.column.Column.{Column as AColumn}
use Rattle.cql2.specs.declared.column.Column.TheVariants as column
use Rattle.cql2.specs.declared.filter.Comparison.{Comparison}
use Rattle.cql2.specs.declared.filter.Comparison.TheVariants.{Equal, NotEqual, Less, LessOrEqual, Greater, GreaterOrEqual}
use Rattle.cql2.specs.declared.column.TextColumn.{TextColumn}
use Rattle.cql2.specs.declared.pattern.Folding.{Folding}
use Rattle.cql2.specs.declared.pattern.Pattern.{Pattern}
use Rattle.cql2.specs.declared.filter.Filter.{Filter}
use Rattle.cql2.specs.declared.filter.Filter.TheVariants as filter
use Rattle.cql2_text.specs.Content.{And, Like, Not, Or, content}
use Rattle.cql2_text.specs.Connective.{IsBoth, IsEither, IsNot}
use Rattle.cql2_text.specs.Predicate.{IsSubject, IsText, SpellsComparison, SpellsLike, SpellsList, SpellsNegatable}
use Rattle.cql2_text.specs.Function.{SpellsFunction}
use Rattle.cql2_text.specs.Spelled.{SpellsPredicate, false_literal, function, relation, true_literal}
use Rattle.cql2_text.specs.Predicate.{SpellsOf, SpellsNull, SpellsRelation}
use Rattle.cql2_text.specs.Predicate.{SpellsTextComparison, width_of, with_column, with_literal}
use Rattle.cql2_text.specs.Predicate.{binary_comparison, is_in_list, is_like, is_not_null, is_null, negatable, negated, null_test, column_of}
use Rattle.cql2_text.specs.Predicate.{of_subject, of_number, text_first}
use Rattle.cql2.specs.declared.text.Text.{Text as AText}
use denote.Ref.{Bor}
use Rattle.cql2_text.specs.declared.syntax_fault.SyntaxFault.{SyntaxFault}
use Rattle.cql2_text.specs.Parenthesis.{opens_filter}
use Rattle.cql2_text.proofs.ClauseLemmas.{none-opens}
use Rattle.cql2_text.specs.Read.{IsNotNext}
use Rattle.cql2_text.specs.Scan.{begins_operand}
use Rattle.cql2_text.specs.Spelled.{Expression, Factor, Primary, Spells, grouped, not_primary, one_primary, predicate}
use Rattle.cql2_text.specs.declared.predicate.CharacterExpression.{CharacterExpression}
use Rattle.cql2_text.specs.declared.predicate.CharacterExpression.TheVariants as subject
use Rattle.cql2_tokens.specs.declared.token.FunctionName.{FunctionName}
use Rattle.cql2_tokens.specs.declared.token.Keyword.{Keyword as AKeyword}
use Rattle.cql2_tokens.specs.declared.token.Keyword.TheVariants as word
use Rattle.cql2_tokens.specs.declared.token.Token.{Token}
use Rattle.cql2_tokens.specs.declared.token.Token.TheVariants.{Close, Column, Compared, Keyword, Open}
use Rattle.cql2_text.proofs.RelationLemmas.{operand-begins}

module _ {A : Type 0} (one other made spelled : Filter A) where
  pub same-not : content one ≡ content other → IsNot one made → IsNot other spelled → content made ≡ content spelled
  same-not same is also = rw (is.1, also.1) (ap Not same)

module _ {A : Type 0} (one other first second made spelled : Filter A) where
  pub same-both : content one ≡ content first → content other ≡ content second → IsBoth one other made → IsBoth first second spelled
      → content made ≡ content spelled
  same-both left right is also = rw (is.1.1, also.1.1) (ap (λ x. And x (content other)) left ∙ ap (λ x. And (content first) x) right)

  pub same-either : content one ≡ content first → content other ≡ content second → IsEither one other made → IsEither first second spelled
      → content made ≡ content spelled
  same-either left right is also = rw (is.1.1, also.1.1) (ap (λ x. Or x (content other)) left ∙ ap (λ x. Or (content first) x) right)

module _ {A : Type 0} where
  pub negatable-begins : {s : CharacterExpression} {words rest : List Token} {made : Filter A} → ((w : List Token) → words ≢ Keyword word.Like ∷ w)
      → ((w : List Token) → words ≢ Keyword word.In ∷ w) → SpellsNegatable s words rest made → ⊥
  negatable-begins like members (is_like is) = like _ refl
  negatable-begins like members (is_in_list is) = members _ refl

  pub like-of : {s : CharacterExpression} {words rest : List Token} {made : Filter A} → SpellsNegatable s (Keyword word.Like ∷ words) rest made
      → SpellsLike s words rest made
  like-of (is_like is) = is

  pub in-of : {s : CharacterExpression} {words rest : List Token} {made : Filter A} → SpellsNegatable s (Keyword word.In ∷ Open ∷ words) rest made
      → SpellsList (SpellsComparison s Equal) words (Close ∷ rest) made
  in-of (is_in_list is) = is

  pub compared-of : {s : CharacterExpression} {words rest : List Token} {made : Filter A} → {k : Comparison}
      → SpellsOf s (Compared k ∷ words) rest made → SpellsComparison s k words rest made
  compared-of (binary_comparison is) = is
  compared-of (negatable is) = elim is [ ]

  pub negated-of : {s : CharacterExpression} {words rest : List Token} {made : Filter A} → SpellsOf s (Keyword word.Not ∷ words) rest made
      → (inner : Filter A) × SpellsNegatable s words rest inner × IsNot inner made
  negated-of (negated {inner = inner} is opposite) = (inner, is, opposite)
  negated-of (negatable is) = elim is [ ]

  pub text-comparison-of : {c : TextColumn} {k : Comparison} {words rest : List Token} {made : Filter A}
      → ((other : TextColumn) (w : List Token) → words ≢ Column (column.Text other) ∷ w) → SpellsTextComparison c k words rest made
      → (text : AText A) × IsText (width_of c) words rest text × (made ≡ filter.CompareText c k text)
  text-comparison-of none (with_literal {text = text} is) = (text, is, refl)
  text-comparison-of none with_column = absurd (none _ _ refl)

  pub null-of : {s : CharacterExpression} {words rest : List Token} {made : Filter A} → SpellsOf s (Keyword word.Is ∷ words) rest made
      → (c : AColumn) × (column_of s ≡ Some c) × SpellsNull c words rest made
  null-of (null_test {c = c} known is) = (c, known, is)
  null-of (negatable is) = elim is [ ]

  pub not-null-of : {c : AColumn} {words rest : List Token} {made read : Filter A}
      → SpellsNull c (Keyword word.Not ∷ Keyword word.Null ∷ words) rest made → IsNot (filter.IsNull c) read
      → (words ≡ rest) × (content read ≡ content made)
  not-null-of {c = c} {made = made} {read = read} (is_not_null opposite) is_read =
      (refl, same-not (filter.IsNull c) (filter.IsNull c) read made refl is_read opposite)

  pub null-begins : {c : AColumn} {words rest : List Token} {made : Filter A} → ((w : List Token) → words ≢ Keyword word.Null ∷ w)
      → ((w : List Token) → words ≢ Keyword word.Not ∷ w) → SpellsNull c words rest made → ⊥
  null-begins null not is_null = null _ refl
  null-begins null not (is_not_null opposite) = not _ refl

  pub operator-of : {s : CharacterExpression} {words rest : List Token} {made : Filter A} → ((k : Comparison) (w : List Token)
      → words ≢ Compared k ∷ w) → ((w : List Token) → words ≢ Keyword word.Is ∷ w)
      → ((w : List Token) → words ≢ Keyword word.Not ∷ w) → SpellsOf s words rest made → SpellsNegatable s words rest made
  operator-of compared is_word not (binary_comparison is) = absurd (compared _ _ refl)
  operator-of compared is_word not (negatable is) = is
  operator-of compared is_word not (negated is opposite) = absurd (not _ refl)
  operator-of compared is_word not (null_test known is) = absurd (is_word _ refl)

no-subject : (s : CharacterExpression) (k : AKeyword) (words middle : List Token) → k ≢ word.Casei → k ≢ word.Accenti
    → IsSubject s (Keyword k ∷ words) middle → ⊥
no-subject (subject.Text c) k words middle no_casei no_accenti is = cc
no-subject (subject.Folded folding c) k words middle no_casei no_accenti is =
    let none = none-opens (λ w e. no_casei (cc)) (λ w e. no_accenti (cc)) is.opened.opens in omega (arith, none.1, is.opened.some)

module _ {A : Type 0} where
  no-keyword : (k : AKeyword) (words rest : List Token) (made : Filter A) → k ≢ word.Casei → k ≢ word.Accenti
      → SpellsRelation (Keyword k ∷ words) rest made → ⊥
  no-keyword k words rest made no_casei no_accenti (of_subject {s = s} {middle = middle} known is) =
      no-subject s k words middle no_casei no_accenti known
  no-keyword k words rest made no_casei no_accenti (text_first begun is) =
      let none = none-opens (λ w e. no_casei (cc)) (λ w e. no_accenti (cc)) begun.opens in
      let e = none.2 ∙ begun.inside.is in
      cc e
  no-keyword k words rest made no_casei no_accenti (of_number {middle = middle} is) =
      let begins : begins_operand (Keyword k ∷ words) ≡ true = operand-begins (Keyword k ∷ words) middle middle rest made is in cc begins

-- an expression in parentheses, after the first of them
pub record IsGroup {A : Type 0} (depth : ℕ) (words rest : List Token) (made : Filter A) : Type 0 where
  pub some : 1 ≤ depth
  pub spelled : Spells (depth - 1) Expression words (Close ∷ rest) made
  pub no_and : IsNotNext word.And (Close ∷ rest)
  pub no_or : IsNotNext word.Or (Close ∷ rest)

pub record BeginsNoFunction (words : List Token) : Type 0 where
  pub no_true : (w : List Token) → words ≢ Keyword word.True ∷ w
  pub no_false : (w : List Token) → words ≢ Keyword word.False ∷ w
  pub no_function : (n : FunctionName) (w : List Token) → words ≢ Keyword (word.Function n) ∷ w

module _ {A : Type 0} where
  pub relation-of : {words rest : List Token} {made : Filter A} → BeginsNoFunction words → SpellsPredicate words rest made
      → SpellsRelation words rest made
  relation-of none true_literal = absurd (none.no_true _ refl)
  relation-of none false_literal = absurd (none.no_false _ refl)
  relation-of none (function is) = absurd (none.no_function _ _ refl)
  relation-of none (relation is) = is

  pub true-of : {words rest : List Token} {made : Filter A} → SpellsPredicate (Keyword word.True ∷ words) rest made
      → (words ≡ rest) × (filter.Constant true ≡ made)
  true-of true_literal = (refl, refl)
  true-of {words = words} (relation is) = absurd (no-keyword word.True words _ _ (λ e. cc) (λ e. cc) is)

  pub false-of : {words rest : List Token} {made : Filter A} → SpellsPredicate (Keyword word.False ∷ words) rest made
      → (words ≡ rest) × (filter.Constant false ≡ made)
  false-of false_literal = (refl, refl)
  false-of {words = words} (relation is) = absurd (no-keyword word.False words _ _ (λ e. cc) (λ e. cc) is)

  pub function-of : {n : FunctionName} {words rest : List Token} {made : Filter A} → SpellsPredicate (Keyword (word.Function n) ∷ words) rest made
      → SpellsFunction n words rest made
  function-of (function is) = is
  function-of {n = n} {words = words} (relation is) = absurd (no-keyword (word.Function n) words _ _ (λ e. cc) (λ e. cc) is)

  pub same-like : (c : TextColumn) (read pattern : Pattern A) (made : Filter A) → read.parts.items ≡ pattern.parts.items
      → made ≡ filter.Like c pattern
      → content (filter.Like c read) ≡ content made
  same-like c read pattern made same is = rw is (ap (Like c) same)

  pub text-at : {width : ℕ} (words rest : List Token) (text : AText A) (given : ℕ) (inner : List Token) → given ≡ width → inner ≡ words
      → IsText width inner rest text → IsText given words rest text
  text-at words rest text given inner same starts is = rw same (rw starts at is)

  pub folded-of : (folding : Folding) (c : TextColumn) (k : Comparison) (words rest : List Token) (made : Filter A)
      → SpellsComparison (subject.Folded folding c) k words rest made
      → (inner : Filter A) × SpellsComparison (subject.Folded folding c) Equal words rest inner
  folded-of folding c Equal words rest made is = (made, is)
  folded-of folding c NotEqual words rest made is = (filter.Like c is.0, (is.0, is.1, refl))
  folded-of folding c Less words rest made is = absurd is
  folded-of folding c LessOrEqual words rest made is = absurd is
  folded-of folding c Greater words rest made is = absurd is
  folded-of folding c GreaterOrEqual words rest made is = absurd is

  pub of-at : {given s : CharacterExpression} {words middle rest : List Token} {made : Filter A} → given ≡ s → words ≡ middle
      → SpellsOf s middle rest made
      → SpellsOf given words rest made
  of-at same starts is = rw (same, starts) is

  no-not : {words rest : List Token} {made : Filter A} → SpellsPredicate (Keyword word.Not ∷ words) rest made → ⊥
  no-not {words = words} (relation is) = no-keyword word.Not words _ _ (λ e. cc) (λ e. cc) is

  pub group-of : {depth : ℕ} {words rest : List Token} {made : Filter A} → opens_filter (Open ∷ words) ≡ true
      → Spells depth Primary (Open ∷ words) rest made → IsGroup depth words rest made
  group-of {words = words} {rest = rest} {made = made} opens (grouped {depth = inner} is_filter is) =
      let depth : inner ≡ suc inner - 1 = omega arith in
      record {
        some = omega arith;
        spelled = subst (λ (n : ℕ). Spells n Expression words (Close ∷ rest) made) depth is;
        no_and = λ w f. cc;
        no_or = λ w f. cc;
      }
  group-of opens (predicate stop is) = let both : true ≡ false = sym opens ∙ stop in absurd (cc both)

  pub predicate-of : {depth : ℕ} {words rest : List Token} {made : Filter A} → opens_filter words ≡ false
      → Spells depth Primary words rest made → SpellsPredicate words rest made
  predicate-of stop (grouped opens is) = let both : true ≡ false = sym opens ∙ stop in absurd (cc both)
  predicate-of stop (predicate opens is) = is

  pub negation-of : {depth : ℕ} {words rest : List Token} {made : Filter A} → Spells depth Factor (Keyword word.Not ∷ words) rest made
      → (inner : Filter A) × Spells depth Primary words rest inner × IsNot inner made
  negation-of (not_primary {inner = inner} is opposite) = (inner, is, opposite)
  negation-of (one_primary (predicate opens is)) = absurd (no-not is)

  pub primary-of : {depth : ℕ} {words rest : List Token} {made : Filter A} → ((w : List Token) → words ≢ Keyword word.Not ∷ w)
      → Spells depth Factor words rest made → Spells depth Primary words rest made
  primary-of no_not (one_primary is) = is
  primary-of no_not (not_primary is opposite) = absurd (no_not _ refl)

  pub predicate-spells : (depth : ℕ) (words : List Token) (result : Result (Filter A × Bor (List Token)) SyntaxFault) → opens_filter words ≡ false
      → IfOk result (λ read. SpellsPredicate words read.1.now read.0) → IfOk result (λ read. Spells depth Primary words read.1.now read.0)
  predicate-spells depth words (Ok read) stop is = predicate stop is
  predicate-spells depth words (Err fault) stop is = tt

pub opens-none : (words : List Token) → ((w : List Token) → words ≢ Open ∷ w) → opens_filter words ≡ false
opens-none [] none = refl
opens-none (Open ∷ words) none = absurd (none words refl)
opens-none (token ∷ words) none = refl
