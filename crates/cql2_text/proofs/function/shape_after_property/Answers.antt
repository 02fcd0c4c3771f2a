use Rattle.std.proofs.Common.{◌≡◌, refl, rules}
use Rattle.cql2_text.specs.Function.{geometry_first}
use Rattle.cql2_text.specs.declared.syntax_fault.SyntaxFault.TheVariants.{Memory}
use Rattle.cql2_text.proofs.OperandLemmas.{operands-first}
use Rattle.cql2_text.proofs.function.shape_after_property.Goals as goal

pub returns-clause-ok : goal.returns-clause-ok
returns-clause-ok g c = rw c.in_ok-words.ensures (geometry_first (rw c.in_ok-rest.ensures at c.in_ok-shape.ensures.ok))

pub returns-in_err-words-clause-reads : goal.returns-in_err-words-clause-reads
returns-in_err-words-clause-reads g c =
    λ rest content is.
    let first = operands-first is refl in
    absurd (c.in_err-words.ensures _ first.1)

pub returns-in_err-shape-clause-reads : goal.returns-in_err-shape-clause-reads
returns-in_err-shape-clause-reads g c =
    λ rest content is.
    let first = operands-first is refl in
    let inner : first.0 ≡ c.in_ok-words.words.now = cc (first.1, c.in_ok-words.ensures) in
    let memory : c.in_err-shape.field-0.0 ≡ Memory = c.in_err-shape.ensures.reads _ _ (rw inner at first.2) in
    search rules

pub returns-in_err-rest-clause-reads : goal.returns-in_err-rest-clause-reads
returns-in_err-rest-clause-reads g c =
    λ rest content is.
    let first = operands-first is refl in
    let inner : first.0 ≡ c.in_ok-words.words.now = cc (first.1, c.in_ok-words.ensures) in
    let read = c.in_ok-shape.ensures.reads _ _ (rw inner at first.2) in
    absurd (c.in_err-rest.ensures _ read.0)

pub returns-clause-reads : goal.returns-clause-reads
returns-clause-reads g c =
    λ rest content is.
    let first = operands-first is refl in
    let inner : first.0 ≡ c.in_ok-words.words.now = cc (first.1, c.in_ok-words.ensures) in
    let read = c.in_ok-shape.ensures.reads _ _ (rw inner at first.2) in
    (cc (read.0, c.in_ok-rest.ensures), read.1)
