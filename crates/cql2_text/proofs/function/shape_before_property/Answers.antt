use Rattle.std.proofs.Common.{◌≡◌, ◌∷◌, refl, rules}
use Rattle.cql2_text.specs.Function.{geometry_last}
use Rattle.cql2_text.specs.declared.syntax_fault.SyntaxFault.TheVariants.{Memory}
use Rattle.cql2_tokens.specs.declared.token.Keyword.TheVariants as word
use Rattle.cql2_tokens.specs.declared.token.Token.TheVariants.{Close, Keyword}
use Rattle.cql2_text.proofs.OperandLemmas.{operands-last}
use Rattle.cql2_text.proofs.function.shape_before_property.Goals as goal

pub returns-clause-ok : goal.returns-clause-ok
returns-clause-ok g c =
    geometry_last (rw (c.in_ok-rest.ensures, c.in_ok-rest-2.ensures, c.in_ok-rest-3.ensures) at c.in_ok-shape.ensures.ok)

pub returns-in_err-shape-clause-reads : goal.returns-in_err-shape-clause-reads
returns-in_err-shape-clause-reads g c =
    λ rest content no_property is.
    let memory : c.in_err-shape.field-0.0 ≡ Memory = c.in_err-shape.ensures.reads _ _ (operands-last is refl no_property) in
    search rules

pub returns-in_err-rest-clause-reads : goal.returns-in_err-rest-clause-reads
returns-in_err-rest-clause-reads g c =
    λ rest content no_property is.
    let read = c.in_ok-shape.ensures.reads _ _ (operands-last is refl no_property) in
    absurd (c.in_err-rest.ensures _ read.0)

pub returns-in_err-rest-2-clause-reads : goal.returns-in_err-rest-2-clause-reads
returns-in_err-rest-2-clause-reads g c =
    λ rest content no_property is.
    let read = c.in_ok-shape.ensures.reads _ _ (operands-last is refl no_property) in
    let property : c.in_ok-rest.rest.now ≡ Keyword word.Geometry ∷ Close ∷ rest = cc (read.0, c.in_ok-rest.ensures) in
    absurd (c.in_err-rest-2.ensures _ property)

pub returns-in_err-rest-3-clause-reads : goal.returns-in_err-rest-3-clause-reads
returns-in_err-rest-3-clause-reads g c =
    λ rest content no_property is.
    let read = c.in_ok-shape.ensures.reads _ _ (operands-last is refl no_property) in
    let closed : c.in_ok-rest-2.rest.now ≡ Close ∷ rest = cc (read.0, c.in_ok-rest.ensures, c.in_ok-rest-2.ensures) in
    absurd (c.in_err-rest-3.ensures _ closed)

pub returns-clause-reads : goal.returns-clause-reads
returns-clause-reads g c =
    λ rest content no_property is.
    let read = c.in_ok-shape.ensures.reads _ _ (operands-last is refl no_property) in
    (cc (read.0, c.in_ok-rest.ensures, c.in_ok-rest-2.ensures, c.in_ok-rest-3.ensures), read.1)
