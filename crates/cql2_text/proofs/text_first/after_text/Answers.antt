use Rattle.std.proofs.Common.{◌≡◌, ◌∙◌, ℕ, sym, ap}
use Rattle.cql2_text.specs.Clause.{closed}
use Rattle.cql2_text.proofs.ClauseLemmas.{closed-same, text-begins}
use Rattle.cql2_text.proofs.text_first.after_text.Goals as goal

pub returns-clause-reads : goal.returns-clause-reads
returns-clause-reads c =
    λ after is.
    let depth = c.in_ok-_folding.depth in
    let opened = c.in_ok-_folding.ensures.reads is.depth is.folding is.inner is.opens is.few (text-begins _ _ _ is.inside.is) in
    let rests : c.in_ok-_spelling.rest.now ≡ closed is.depth after = cc (opened.2, is.inside.is, c.in_ok-_spelling.ensures) in
    let both : closed depth c.in_ok-rest.rest.now ≡ closed depth after =
    sym c.in_ok-rest.ensures ∙ rests ∙ ap (λ (n : ℕ). closed n after) (sym opened.1) in
    closed-same depth c.in_ok-rest.rest.now after both
