use Rattle.std.proofs.Common.{◌≡◌, rules}
use Rattle.cql2.specs.declared.filter.Comparison.{Comparison}
use Rattle.cql2_text.specs.Predicate.{text_among, text_compared, text_not_among}
use Rattle.cql2_text.specs.ReadNumber.{IsNotFirst}
use Rattle.cql2_text.specs.declared.syntax_fault.SyntaxFault.TheVariants.{Memory}
use Rattle.cql2_tokens.specs.declared.token.Keyword.TheVariants as word
use Rattle.cql2_tokens.specs.declared.token.Token.TheVariants.{Compared, Keyword}
use Rattle.cql2_text.proofs.SpelledLemmas.{same-not}
use Rattle.cql2_text.proofs.TextFirstLemmas.{text-among-of, text-compared-of, text-not-of}
use Rattle.cql2_text.proofs.TokenLemmas.{first-is, word-is}
use Rattle.cql2_text.proofs.text_first.of_text.Goals as goal

pub returns-in_ok-filter-in-Some-Compared-default-clause-ok : goal.returns-in_ok-filter-in-Some-Compared-default-clause-ok
returns-in_ok-filter-in-Some-Compared-default-clause-ok g c =
    let k = c.in-Some-Compared-default in
    let is = first-is _ _ _ _ k.ensures k.field-0-0-is in
    rw is (text_compared c.in_ok-filter-in-Some-Compared-default.ensures.ok)

pub returns-in_err-filter-in-Some-Compared-default-clause-reads : goal.returns-in_err-filter-in-Some-Compared-default-clause-reads
returns-in_err-filter-in-Some-Compared-default-clause-reads g c =
    let k = c.in-Some-Compared-default in
    let is = first-is _ _ _ _ k.ensures k.field-0-0-is in
    λ rest made spelled.
    let memory : c.in_err-filter-in-Some-Compared-default.field-0.0 ≡ Memory =
    c.in_err-filter-in-Some-Compared-default.ensures.reads rest made (text-compared-of (rw is at spelled)) in
    search rules

pub returns-in_ok-filter-in-Some-Compared-default-clause-reads : goal.returns-in_ok-filter-in-Some-Compared-default-clause-reads
returns-in_ok-filter-in-Some-Compared-default-clause-reads g c =
    let k = c.in-Some-Compared-default in
    let is = first-is _ _ _ _ k.ensures k.field-0-0-is in
    λ rest made spelled.
    c.in_ok-filter-in-Some-Compared-default.ensures.reads rest made (text-compared-of (rw is at spelled))

pub returns-in_ok-filter-in-Some-Keyword-Not-default-clause-ok : goal.returns-in_ok-filter-in-Some-Keyword-Not-default-clause-ok
returns-in_ok-filter-in-Some-Keyword-Not-default-clause-ok g c =
    let k = c.in-Some-Keyword-Not-default in
    let is = word-is _ _ _ _ _ k.ensures k.field-0-0-is k.field-0-0-0-is in
    rw is (text_not_among c.in_ok-inner-in-Some-Keyword-Not-default.ensures.ok c.in_ok-filter-in-Some-Keyword-Not-default.ensures)

pub returns-in_err-inner-in-Some-Keyword-Not-default-clause-reads : goal.returns-in_err-inner-in-Some-Keyword-Not-default-clause-reads
returns-in_err-inner-in-Some-Keyword-Not-default-clause-reads g c =
    let k = c.in-Some-Keyword-Not-default in
    let is = word-is _ _ _ _ _ k.ensures k.field-0-0-is k.field-0-0-0-is in
    λ rest made spelled.
    let inner = text-not-of (rw is at spelled) in
    let memory : c.in_err-inner-in-Some-Keyword-Not-default.field-0.0 ≡ Memory =
    c.in_err-inner-in-Some-Keyword-Not-default.ensures.reads rest inner.0 inner.1 in
    search rules

pub returns-in_ok-filter-in-Some-Keyword-Not-default-clause-reads : goal.returns-in_ok-filter-in-Some-Keyword-Not-default-clause-reads
returns-in_ok-filter-in-Some-Keyword-Not-default-clause-reads g c =
    let k = c.in-Some-Keyword-Not-default in
    let is = word-is _ _ _ _ _ k.ensures k.field-0-0-is k.field-0-0-0-is in
    λ rest made spelled.
    let inner = text-not-of (rw is at spelled) in
    let read = c.in_ok-inner-in-Some-Keyword-Not-default.ensures.reads rest inner.0 inner.1 in (
      read.0,
      same-not c.in_ok-inner-in-Some-Keyword-Not-default.inner inner.0 _ made read.1
          c.in_ok-filter-in-Some-Keyword-Not-default.ensures inner.2,
    )

pub returns-in_ok-filter-in_default-clause-ok : goal.returns-in_ok-filter-in_default-clause-ok
returns-in_ok-filter-in_default-clause-ok g c = text_among c.in_ok-filter-in_default.ensures.ok

pub returns-in_err-filter-in_default-clause-reads : goal.returns-in_err-filter-in_default-clause-reads
returns-in_err-filter-in_default-clause-reads g c =
    let words = c.args.words.now in
    let no_comparison : (k : Comparison) → IsNotFirst (Compared k) words = search rules in
    let no_not : IsNotFirst (Keyword word.Not) words = search rules in
    λ rest made spelled.
    let memory : c.in_err-filter-in_default.field-0.0 ≡ Memory =
    c.in_err-filter-in_default.ensures.reads rest made (text-among-of no_comparison no_not spelled) in
    search rules

pub returns-in_ok-filter-in_default-clause-reads : goal.returns-in_ok-filter-in_default-clause-reads
returns-in_ok-filter-in_default-clause-reads g c =
    let words = c.args.words.now in
    let no_comparison : (k : Comparison) → IsNotFirst (Compared k) words = search rules in
    let no_not : IsNotFirst (Keyword word.Not) words = search rules in
    λ rest made spelled. c.in_ok-filter-in_default.ensures.reads rest made (text-among-of no_comparison no_not spelled)
