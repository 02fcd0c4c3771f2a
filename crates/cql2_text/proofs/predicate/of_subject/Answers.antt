use Rattle.cql2_tokens.specs.declared.token.Keyword.TheVariants as word
use Rattle.cql2_tokens.specs.declared.token.Token.{Token}
use Rattle.cql2_tokens.specs.declared.token.Token.TheVariants.{Compared, Keyword}
use Rattle.cql2.specs.declared.filter.Comparison.{Comparison}
use Rattle.cql2_text.proofs.SpelledLemmas.{compared-of, negated-of, null-of, operator-of, same-not}
use Rattle.cql2_text.specs.declared.syntax_fault.SyntaxFault.TheVariants.{Memory}
use Rattle.std.proofs.Common.{◌≡◌, ◌≢◌, ◌∷◌, ◌∙◌, List, sym, rules}
use Rattle.cql2_text.specs.Predicate.{binary_comparison, negatable, negated, null_test}
use Rattle.cql2_text.proofs.TokenLemmas.{first-is, word-is}
use Rattle.cql2_text.proofs.predicate.of_subject.Goals as goal

pub returns-in_ok-filter-in-Some-Compared-default-clause-ok : goal.returns-in_ok-filter-in-Some-Compared-default-clause-ok
returns-in_ok-filter-in-Some-Compared-default-clause-ok g c =
    let k = c.in-Some-Compared-default in
    let is = first-is _ _ _ _ k.ensures k.field-0-0-is in
    rw is (binary_comparison c.in_ok-filter-in-Some-Compared-default.ensures.ok)

pub returns-in_ok-filter-in-Some-Keyword-Not-default-clause-ok : goal.returns-in_ok-filter-in-Some-Keyword-Not-default-clause-ok
returns-in_ok-filter-in-Some-Keyword-Not-default-clause-ok g c =
    let k = c.in-Some-Keyword-Not-default in
    let is = word-is _ _ _ _ _ k.ensures k.field-0-0-is k.field-0-0-0-is in
    rw is (negated c.in_ok-inner-in-Some-Keyword-Not-default.ensures.ok c.in_ok-filter-in-Some-Keyword-Not-default.ensures)

pub returns-in_ok-filter-in_default-clause-ok : goal.returns-in_ok-filter-in_default-clause-ok
returns-in_ok-filter-in_default-clause-ok g c = negatable c.in_ok-filter-in_default.ensures.ok

pub returns-in_err-filter-in-Some-Compared-default-clause-reads : goal.returns-in_err-filter-in-Some-Compared-default-clause-reads
returns-in_err-filter-in-Some-Compared-default-clause-reads g c =
    let k = c.in-Some-Compared-default in
    let is = first-is _ _ _ _ k.ensures k.field-0-0-is in
    λ rest made spelled.
    let comparison = compared-of (rw is at spelled) in
    let memory : c.in_err-filter-in-Some-Compared-default.field-0.0 ≡ Memory =
    c.in_err-filter-in-Some-Compared-default.ensures.reads rest made comparison in
    search rules

pub returns-in_ok-filter-in-Some-Compared-default-clause-reads : goal.returns-in_ok-filter-in-Some-Compared-default-clause-reads
returns-in_ok-filter-in-Some-Compared-default-clause-reads g c =
    let k = c.in-Some-Compared-default in
    let is = first-is _ _ _ _ k.ensures k.field-0-0-is in
    λ rest made spelled.
    let comparison = compared-of (rw is at spelled) in
    c.in_ok-filter-in-Some-Compared-default.ensures.reads rest made comparison

pub returns-in_ok-filter-in-Some-Keyword-Not-default-clause-reads : goal.returns-in_ok-filter-in-Some-Keyword-Not-default-clause-reads
returns-in_ok-filter-in-Some-Keyword-Not-default-clause-reads g c =
    let k = c.in-Some-Keyword-Not-default in
    let is = word-is _ _ _ _ _ k.ensures k.field-0-0-is k.field-0-0-0-is in
    λ rest made spelled.
    let inner = negated-of (rw is at spelled) in
    let read = c.in_ok-inner-in-Some-Keyword-Not-default.ensures.reads rest inner.0 inner.1 in (
      read.0,
      same-not c.in_ok-inner-in-Some-Keyword-Not-default.inner inner.0 _ made read.1
          c.in_ok-filter-in-Some-Keyword-Not-default.ensures inner.2,
    )

pub returns-in_err-filter-in_default-clause-reads : goal.returns-in_err-filter-in_default-clause-reads
returns-in_err-filter-in_default-clause-reads g c =
    let words = c.args.words.now in
    let no_comparison : (k : Comparison) (w : List Token) → words ≢ Compared k ∷ w = search rules in
    let no_is : (w : List Token) → words ≢ Keyword word.Is ∷ w = search rules in
    let no_not : (w : List Token) → words ≢ Keyword word.Not ∷ w = search rules in
    λ rest made spelled.
    let is = operator-of no_comparison no_is no_not spelled in
    let memory : c.in_err-filter-in_default.field-0.0 ≡ Memory =
    c.in_err-filter-in_default.ensures.reads rest made is in
    search rules

pub returns-in_ok-filter-in_default-clause-reads : goal.returns-in_ok-filter-in_default-clause-reads
returns-in_ok-filter-in_default-clause-reads g c =
    let words = c.args.words.now in
    let no_comparison : (k : Comparison) (w : List Token) → words ≢ Compared k ∷ w = search rules in
    let no_is : (w : List Token) → words ≢ Keyword word.Is ∷ w = search rules in
    let no_not : (w : List Token) → words ≢ Keyword word.Not ∷ w = search rules in
    λ rest made spelled.
    let is = operator-of no_comparison no_is no_not spelled in
    c.in_ok-filter-in_default.ensures.reads rest made is

pub returns-in_ok-filter-in-Some-Keyword-Is-default-clause-ok : goal.returns-in_ok-filter-in-Some-Keyword-Is-default-clause-ok
returns-in_ok-filter-in-Some-Keyword-Is-default-clause-ok g c =
    let k = c.in-Some-Keyword-Is-default in
    let is = word-is _ _ _ _ _ k.ensures k.field-0-0-is k.field-0-0-0-is in
    rw is (null_test (sym c.in-Some.ensures) c.in_ok-filter-in-Some-Keyword-Is-default.ensures.ok)

pub returns-in_ok-filter-in-Some-Keyword-Is-default-clause-reads : goal.returns-in_ok-filter-in-Some-Keyword-Is-default-clause-reads
returns-in_ok-filter-in-Some-Keyword-Is-default-clause-reads g c =
    let k = c.in-Some-Keyword-Is-default in
    let is = word-is _ _ _ _ _ k.ensures k.field-0-0-is k.field-0-0-0-is in
    λ rest made spelled.
    let null = null-of (rw is at spelled) in
    let both = c.in-Some.ensures ∙ null.1 in
    let same : c.in-Some.column ≡ null.0 = cc both in
    c.in_ok-filter-in-Some-Keyword-Is-default.ensures.reads rest made (rw (← same) at null.2)
