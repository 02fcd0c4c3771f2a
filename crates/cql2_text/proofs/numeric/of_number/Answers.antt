use Rattle.std.proofs.Common.{◌≡◌, refl, rules}
use Rattle.cql2.specs.declared.filter.Comparison.{Comparison}
use Rattle.cql2_text.specs.Compared.{among, comparison, not_among}
use Rattle.cql2_text.specs.ReadNumber.{IsNotFirst}
use Rattle.cql2_text.specs.declared.syntax_fault.SyntaxFault.TheVariants.{Memory}
use Rattle.cql2_tokens.specs.declared.token.Keyword.TheVariants as word
use Rattle.cql2_tokens.specs.declared.token.Token.TheVariants.{Compared, Keyword}
use Rattle.cql2_text.proofs.ComparedLemmas.{among-of, compared-number-of, is-number-of, not-number-of, number-at, number-from}
use Rattle.cql2_text.proofs.SpelledLemmas.{same-not}
use Rattle.cql2_text.proofs.TokenLemmas.{first-is, word-is}
use Rattle.cql2_text.proofs.numeric.of_number.Goals as goal

pub returns-in_ok-filter-in-Some-Compared-default-clause-ok : goal.returns-in_ok-filter-in-Some-Compared-default-clause-ok
returns-in_ok-filter-in-Some-Compared-default-clause-ok g c =
    let k = c.in-Some-Compared-default in
    let is = first-is _ _ _ _ k.ensures k.field-0-0-is in
    number-from c.scan-column.ensures.rest is (comparison c.in_ok-filter-in-Some-Compared-default.ensures.ok)

pub returns-in_err-filter-in-Some-Compared-default-clause-reads : goal.returns-in_err-filter-in-Some-Compared-default-clause-reads
returns-in_err-filter-in-Some-Compared-default-clause-reads g c =
    let k = c.in-Some-Compared-default in
    let is = first-is _ _ _ _ k.ensures k.field-0-0-is in
    λ after rest made spelled.
    let at = number-at c.scan-column.ensures.rest is spelled in
    let memory : c.in_err-filter-in-Some-Compared-default.field-0.0 ≡ Memory =
    c.in_err-filter-in-Some-Compared-default.ensures.reads after rest made (compared-number-of at) in
    search rules

pub returns-in_ok-filter-in-Some-Compared-default-clause-reads : goal.returns-in_ok-filter-in-Some-Compared-default-clause-reads
returns-in_ok-filter-in-Some-Compared-default-clause-reads g c =
    let k = c.in-Some-Compared-default in
    let is = first-is _ _ _ _ k.ensures k.field-0-0-is in
    λ after rest made spelled.
    let at = number-at c.scan-column.ensures.rest is spelled in
    c.in_ok-filter-in-Some-Compared-default.ensures.reads after rest made (compared-number-of at)

pub returns-in-Some-Keyword-Is-default-clause-reads : goal.returns-in-Some-Keyword-Is-default-clause-reads
returns-in-Some-Keyword-Is-default-clause-reads g c =
    let k = c.in-Some-Keyword-Is-default in
    let is = word-is _ _ _ _ _ k.ensures k.field-0-0-is k.field-0-0-0-is in
    λ after rest made spelled.
    let at = number-at c.scan-column.ensures.rest is spelled in
    absurd (is-number-of at)

pub returns-in_ok-filter-in-Some-Keyword-Not-default-clause-ok : goal.returns-in_ok-filter-in-Some-Keyword-Not-default-clause-ok
returns-in_ok-filter-in-Some-Keyword-Not-default-clause-ok g c =
    let k = c.in-Some-Keyword-Not-default in
    let is = word-is _ _ _ _ _ k.ensures k.field-0-0-is k.field-0-0-0-is in
    number-from c.scan-column.ensures.rest is
    (not_among c.in_ok-inner-in-Some-Keyword-Not-default.ensures.ok c.in_ok-filter-in-Some-Keyword-Not-default.ensures)

pub returns-in_err-inner-in-Some-Keyword-Not-default-clause-reads : goal.returns-in_err-inner-in-Some-Keyword-Not-default-clause-reads
returns-in_err-inner-in-Some-Keyword-Not-default-clause-reads g c =
    let k = c.in-Some-Keyword-Not-default in
    let is = word-is _ _ _ _ _ k.ensures k.field-0-0-is k.field-0-0-0-is in
    λ after rest made spelled.
    let at = number-at c.scan-column.ensures.rest is spelled in
    let inner = not-number-of at in
    let memory : c.in_err-inner-in-Some-Keyword-Not-default.field-0.0 ≡ Memory =
    c.in_err-inner-in-Some-Keyword-Not-default.ensures.reads after rest inner.0 inner.1 in
    search rules

pub returns-in_ok-filter-in-Some-Keyword-Not-default-clause-reads : goal.returns-in_ok-filter-in-Some-Keyword-Not-default-clause-reads
returns-in_ok-filter-in-Some-Keyword-Not-default-clause-reads g c =
    let k = c.in-Some-Keyword-Not-default in
    let is = word-is _ _ _ _ _ k.ensures k.field-0-0-is k.field-0-0-0-is in
    λ after rest made spelled.
    let at = number-at c.scan-column.ensures.rest is spelled in
    let inner = not-number-of at in
    let read = c.in_ok-inner-in-Some-Keyword-Not-default.ensures.reads after rest inner.0 inner.1 in (
      read.0,
      same-not c.in_ok-inner-in-Some-Keyword-Not-default.inner inner.0 _ made read.1
          c.in_ok-filter-in-Some-Keyword-Not-default.ensures inner.2,
    )

pub returns-in_ok-filter-in_default-clause-ok : goal.returns-in_ok-filter-in_default-clause-ok
returns-in_ok-filter-in_default-clause-ok g c =
    number-from c.scan-column.ensures.rest refl (among c.in_ok-filter-in_default.ensures.ok)

pub returns-in_err-filter-in_default-clause-reads : goal.returns-in_err-filter-in_default-clause-reads
returns-in_err-filter-in_default-clause-reads g c =
    let found = c.scan-column.result.1.now in
    let no_comparison : (k : Comparison) → IsNotFirst (Compared k) found = search rules in
    let no_not : IsNotFirst (Keyword word.Not) found = search rules in
    λ after rest made spelled.
    let at = number-at c.scan-column.ensures.rest refl spelled in
    let memory : c.in_err-filter-in_default.field-0.0 ≡ Memory =
    c.in_err-filter-in_default.ensures.reads after rest made (among-of no_comparison no_not at) in
    search rules

pub returns-in_ok-filter-in_default-clause-reads : goal.returns-in_ok-filter-in_default-clause-reads
returns-in_ok-filter-in_default-clause-reads g c =
    let found = c.scan-column.result.1.now in
    let no_comparison : (k : Comparison) → IsNotFirst (Compared k) found = search rules in
    let no_not : IsNotFirst (Keyword word.Not) found = search rules in
    λ after rest made spelled.
    let at = number-at c.scan-column.ensures.rest refl spelled in
    c.in_ok-filter-in_default.ensures.reads after rest made (among-of no_comparison no_not at)
