use Rattle.std.proofs.Common.{◌≡◌, List, sym, subst, rules}
use Rattle.cql2_text.specs.Predicate.{SpellsOfText, text_first}
use Rattle.cql2_text.specs.declared.syntax_fault.SyntaxFault.TheVariants.{Memory}
use Rattle.cql2_tokens.specs.declared.token.Token.{Token}
use Rattle.cql2_text.proofs.text_first.text_first.Goals as goal

pub returns-clause-ok : goal.returns-clause-ok
returns-clause-ok g c = text_first c.in_ok-after.ensures.ok c.in_ok-filter.ensures.ok

pub returns-in_err-after-clause-reads : goal.returns-in_err-after-clause-reads
returns-in_err-after-clause-reads g c = λ after rest made begun is. absurd (c.in_err-after.ensures.reads after begun)

pub returns-in_err-filter-clause-reads : goal.returns-in_err-filter-clause-reads
returns-in_err-filter-clause-reads g c =
    λ after rest made begun is.
    let same = c.in_ok-after.ensures.reads after begun in
    let of = subst (λ (w : List Token). SpellsOfText c.args.words.now w rest made) (sym same) is in
    let memory : c.in_err-filter.field-0.0 ≡ Memory = c.in_err-filter.ensures.reads rest made of in
    search rules

pub returns-clause-reads : goal.returns-clause-reads
returns-clause-reads g c =
    λ after rest made begun is.
    let same = c.in_ok-after.ensures.reads after begun in
    let of = subst (λ (w : List Token). SpellsOfText c.args.words.now w rest made) (sym same) is in
    c.in_ok-filter.ensures.reads rest made of
