use Rattle.std.proofs.Common.{◌≡◌, ◌≢◌, List, ◌∷◌, rules}
use Rattle.cql2_text.specs.declared.syntax_fault.SyntaxFault.TheVariants.{Memory}
use Rattle.cql2_tokens.specs.declared.token.Keyword.TheVariants as word
use Rattle.cql2_tokens.specs.declared.token.Token.{Token}
use Rattle.cql2_tokens.specs.declared.token.Token.TheVariants.{Keyword}
use Rattle.cql2_text.proofs.OperandLemmas.{operands-open}
use Rattle.cql2_text.proofs.TokenLemmas.{word-is}
use Rattle.cql2_text.proofs.function.operands.Goals as goal

pub returns-in_err-inner-clause-reads : goal.returns-in_err-inner-clause-reads
returns-in_err-inner-clause-reads g c =
    λ rest content is.
    let opened = operands-open is in
    absurd (c.in_err-inner.ensures _ opened.1)

pub returns-in_ok-shape-in-Some-Keyword-Geometry-default-clause-ok : goal.returns-in_ok-shape-in-Some-Keyword-Geometry-default-clause-ok
returns-in_ok-shape-in-Some-Keyword-Geometry-default-clause-ok g c =
    let k = c.in-Some-Keyword-Geometry-default in
    let is = word-is _ _ _ _ _ k.ensures k.field-0-0-is k.field-0-0-0-is in
    rw (c.in_ok-inner.ensures, is) c.in_ok-shape-in-Some-Keyword-Geometry-default.ensures.ok

pub returns-in_err-shape-in-Some-Keyword-Geometry-default-clause-reads : goal.returns-in_err-shape-in-Some-Keyword-Geometry-default-clause-reads
returns-in_err-shape-in-Some-Keyword-Geometry-default-clause-reads g c =
    let k = c.in-Some-Keyword-Geometry-default in
    let property = word-is _ _ _ _ _ k.ensures k.field-0-0-is k.field-0-0-0-is in
    λ rest content is.
    let memory : c.in_err-shape-in-Some-Keyword-Geometry-default.field-0.0 ≡ Memory =
    c.in_err-shape-in-Some-Keyword-Geometry-default.ensures.reads rest content (rw (c.in_ok-inner.ensures, property) at is) in
    search rules

pub returns-in_ok-shape-in-Some-Keyword-Geometry-default-clause-reads : goal.returns-in_ok-shape-in-Some-Keyword-Geometry-default-clause-reads
returns-in_ok-shape-in-Some-Keyword-Geometry-default-clause-reads g c =
    let k = c.in-Some-Keyword-Geometry-default in
    let property = word-is _ _ _ _ _ k.ensures k.field-0-0-is k.field-0-0-0-is in
    λ rest content is.
    c.in_ok-shape-in-Some-Keyword-Geometry-default.ensures.reads rest content (rw (c.in_ok-inner.ensures, property) at is)

pub returns-in_ok-shape-in_default-clause-ok : goal.returns-in_ok-shape-in_default-clause-ok
returns-in_ok-shape-in_default-clause-ok g c = rw c.in_ok-inner.ensures c.in_ok-shape-in_default.ensures.ok

pub returns-in_err-shape-in_default-clause-reads : goal.returns-in_err-shape-in_default-clause-reads
returns-in_err-shape-in_default-clause-reads g c =
    let inner = c.in_ok-inner.inner.now in
    let no_property : (w : List Token) → inner ≢ Keyword word.Geometry ∷ w = search rules in
    λ rest content is.
    let memory : c.in_err-shape-in_default.field-0.0 ≡ Memory =
    c.in_err-shape-in_default.ensures.reads rest content no_property (rw c.in_ok-inner.ensures at is) in
    search rules

pub returns-in_ok-shape-in_default-clause-reads : goal.returns-in_ok-shape-in_default-clause-reads
returns-in_ok-shape-in_default-clause-reads g c =
    let inner = c.in_ok-inner.inner.now in
    let no_property : (w : List Token) → inner ≢ Keyword word.Geometry ∷ w = search rules in
    λ rest content is.
    c.in_ok-shape-in_default.ensures.reads rest content no_property (rw c.in_ok-inner.ensures at is)
