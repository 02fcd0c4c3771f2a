use Rattle.std.proofs.Common.{◌≡◌, ◌≤◌, ◌∙◌, List, ◌∷◌, sym, ap, arith}
use Rattle.cql2.specs.declared.column.Column.TheVariants.{Text}
use Rattle.cql2_tokens.specs.declared.token.Token.{Token}
use Rattle.cql2_tokens.specs.declared.token.Token.TheVariants.{Column}
use Rattle.cql2_text.specs.Clause.{closed}
use Rattle.cql2_text.specs.Predicate.{IsTextColumn}
use Rattle.cql2_text.proofs.ClauseLemmas.{closed-same, column-begins, read-inside}
use Rattle.cql2_text.proofs.predicate.folded_column.Goals as goal

pub returns-clause-ok : goal.returns-clause-ok
returns-clause-ok c =
    let some : 1 ≤ c.in_ok-folding.depth = omega (arith, c.if-depth-eq0.false) in
    record {
      depth = c.in_ok-folding.depth;
      inner = c.in_ok-folding.inner.now;
      opened = record { opens = c.in_ok-folding.ensures.ok; some = some; few = c.in_ok-folding.ensures.few };
      inside = c.in_ok-column.ensures ∙ ap (λ (l : List Token). Column (Text c.in_ok-column.column) ∷ l) c.in_ok-rest.ensures;
    }

pub returns-clause-reads : goal.returns-clause-reads
returns-clause-reads c =
    λ folding column rest is.
    let read = c.in_ok-folding.ensures.reads _ _ _ is.opened.opens is.opened.few (column-begins _ _ _ is.inside) in
    let inside = read-inside (IsTextColumn column) is _ _ read.1 read.2 in
    let columns : c.in_ok-column.column ≡ column = cc (inside, c.in_ok-column.ensures) in
    let after : c.in_ok-column.rest.now ≡ closed c.in_ok-folding.depth rest = cc (inside, c.in_ok-column.ensures) in
    (read.0, columns, closed-same c.in_ok-folding.depth c.in_ok-rest.rest.now rest (sym c.in_ok-rest.ensures ∙ after))
