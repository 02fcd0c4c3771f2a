use Rattle.std.proofs.Common.{◌≡◌, ◌≢◌, ◌∷◌, List, ap, refl, rules}
use Rattle.cql2.specs.declared.column.Column.TheVariants as column
use Rattle.cql2.specs.declared.column.TextColumn.{TextColumn}
use Rattle.cql2_text.specs.Content.{CompareText}
use Rattle.cql2_text.specs.Predicate.{with_column, with_literal}
use Rattle.cql2_text.specs.declared.syntax_fault.SyntaxFault.TheVariants.{Memory}
use Rattle.cql2_tokens.specs.declared.token.Token.{Token}
use Rattle.cql2_tokens.specs.declared.token.Token.TheVariants.{Column}
use Rattle.cql2_text.proofs.SpelledLemmas.{text-at, text-comparison-of}
use Rattle.cql2_text.proofs.TokenLemmas.{column-is}
use Rattle.cql2_text.proofs.predicate.compared_text.Goals as goal

pub returns-in-Some-Column-Text-default-clause-ok : goal.returns-in-Some-Column-Text-default-clause-ok
returns-in-Some-Column-Text-default-clause-ok g c =
    let k = c.in-Some-Column-Text-default in
    let is = column-is _ _ _ _ _ k.ensures k.field-0-0-is k.field-0-0-0-is in
    rw is with_column

pub returns-in_ok-text-in_default-clause-ok : goal.returns-in_ok-text-in_default-clause-ok
returns-in_ok-text-in_default-clause-ok g c =
    with_literal (rw c.width.ensures.value at c.in_ok-text-in_default.ensures.ok)

pub returns-in_err-text-in_default-clause-reads : goal.returns-in_err-text-in_default-clause-reads
returns-in_err-text-in_default-clause-reads g c =
    let none : (other : TextColumn) (w : List Token) → c.args.words.now ≢ Column (column.Text other) ∷ w = search rules in
    λ rest made spelled.
    let is = text-comparison-of none spelled in
    let text = text-at c.args.words.now rest is.0 _ _ c.width.ensures.value refl is.1 in
    let memory : c.in_err-text-in_default.field-0.0 ≡ Memory = c.in_err-text-in_default.ensures.reads rest is.0 text in
    search rules

pub returns-in_ok-text-in_default-clause-reads : goal.returns-in_ok-text-in_default-clause-reads
returns-in_ok-text-in_default-clause-reads g c =
    let none : (other : TextColumn) (w : List Token) → c.args.words.now ≢ Column (column.Text other) ∷ w = search rules in
    λ rest made spelled.
    let is = text-comparison-of none spelled in
    let text = text-at c.args.words.now rest is.0 _ _ c.width.ensures.value refl is.1 in
    let read = c.in_ok-text-in_default.ensures.reads rest is.0 text in
    (read.0, rw is.2 (ap (CompareText c.args.column c.args.comparison) read.1))
