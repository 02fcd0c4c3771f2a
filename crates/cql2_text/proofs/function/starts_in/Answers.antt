use Rattle.std.proofs.Common.{◌≡◌, ap, sym, ◌∙◌, rules}
use Rattle.cql2_text.specs.Content.{Function}
use Rattle.cql2_text.specs.Function.{StartsIn, in_box, in_polygons}
use Rattle.cql2_text.specs.Geometry.{shape_content}
use Rattle.cql2_text.specs.declared.syntax_fault.SyntaxFault.TheVariants.{Memory}
use Rattle.cql2_text.proofs.OperandLemmas.{area-of}
use Rattle.cql2_text.proofs.function.starts_in.Goals as goal

pub returns-in_err-shape-clause-reads : goal.returns-in_err-shape-clause-reads
returns-in_err-shape-clause-reads g c =
    λ rest made is.
    let area = area-of is in
    let inner : area.inner ≡ c.in_ok-inner.inner.now = cc (area.opened, c.in_ok-inner.ensures) in
    let memory : c.in_err-shape.field-0.0 ≡ Memory = c.in_err-shape.ensures.reads _ _ (rw inner at area.spelled) in
    search rules

pub returns-in_err-rest-in-Bounds-clause-reads : goal.returns-in_err-rest-in-Bounds-clause-reads
returns-in_err-rest-in-Bounds-clause-reads g c =
    λ rest made is.
    let area = area-of is in
    let inner : area.inner ≡ c.in_ok-inner.inner.now = cc (area.opened, c.in_ok-inner.ensures) in
    let read = c.in_ok-shape.ensures.reads _ _ (rw inner at area.spelled) in
    absurd (c.in_err-rest-in-Bounds.ensures _ read.0)

pub returns-in-Bounds-clause-ok : goal.returns-in-Bounds-clause-ok
returns-in-Bounds-clause-ok g c =
    let spelled = rw (c.in_ok-rest-in-Bounds.ensures, ap shape_content c.in-Bounds.is) at c.in_ok-shape.ensures.ok in
    rw c.in_ok-inner.ensures (in_box spelled)

pub returns-in-Bounds-clause-reads : goal.returns-in-Bounds-clause-reads
returns-in-Bounds-clause-reads g c =
    λ rest made is.
    let area = area-of is in
    let inner : area.inner ≡ c.in_ok-inner.inner.now = cc (area.opened, c.in_ok-inner.ensures) in
    let read = c.in_ok-shape.ensures.reads _ _ (rw inner at area.spelled) in
    let same = sym (ap shape_content c.in-Bounds.is) ∙ read.1 in
    (cc (read.0, c.in_ok-rest-in-Bounds.ensures), ap (λ s. Function (StartsIn s)) same ∙ sym area.same)

pub returns-in_err-rest-in-Polygons-clause-reads : goal.returns-in_err-rest-in-Polygons-clause-reads
returns-in_err-rest-in-Polygons-clause-reads g c =
    λ rest made is.
    let area = area-of is in
    let inner : area.inner ≡ c.in_ok-inner.inner.now = cc (area.opened, c.in_ok-inner.ensures) in
    let read = c.in_ok-shape.ensures.reads _ _ (rw inner at area.spelled) in
    absurd (c.in_err-rest-in-Polygons.ensures _ read.0)

pub returns-in-Polygons-clause-ok : goal.returns-in-Polygons-clause-ok
returns-in-Polygons-clause-ok g c =
    let spelled = rw (c.in_ok-rest-in-Polygons.ensures, ap shape_content c.in-Polygons.is) at c.in_ok-shape.ensures.ok in
    rw c.in_ok-inner.ensures (in_polygons spelled)

pub returns-in-Polygons-clause-reads : goal.returns-in-Polygons-clause-reads
returns-in-Polygons-clause-reads g c =
    λ rest made is.
    let area = area-of is in
    let inner : area.inner ≡ c.in_ok-inner.inner.now = cc (area.opened, c.in_ok-inner.ensures) in
    let read = c.in_ok-shape.ensures.reads _ _ (rw inner at area.spelled) in
    let same = sym (ap shape_content c.in-Polygons.is) ∙ read.1 in
    (cc (read.0, c.in_ok-rest-in-Polygons.ensures), ap (λ s. Function (StartsIn s)) same ∙ sym area.same)
