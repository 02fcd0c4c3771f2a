use Rattle.std.proofs.Common.{◌≢◌, List, [], ◌∷◌, ◌++◌, map, ap, length, arith, rules}
use Rattle.cql2.specs.Geometry.{point_of}
use Rattle.cql2_text.specs.Geometry.{one}
use Rattle.cql2_tokens.specs.declared.token.Token.{Token}
use Rattle.cql2_tokens.specs.declared.token.Token.TheVariants.{Comma}
use Rattle.cql2_text.proofs.GeometryLemmas.{first-item, items-more, last-item, left-at, map-snoc, next-item, position-shorter}
use Rattle.cql2_text.proofs.TokenLemmas.{first-is}
use Rattle.cql2_text.proofs.coordinates.positions.Goals as goal

pub returns-in_err-inner-clause-reads : goal.returns-in_err-inner-clause-reads
returns-in_err-inner-clause-reads g c = λ rest all is. absurd (c.in_err-inner.ensures _ is.opened)

pub returns-in_err-first-clause-reads : goal.returns-in_err-first-clause-reads
returns-in_err-first-clause-reads g c =
    λ rest all is.
    let first = first-item is c.in_ok-inner.ensures in
    absurd (c.in_err-first.ensures.reads _ _ first.part)

pub loop-after-init : goal.loop-after-init
loop-after-init g c =
    record {
      spelled = (c.in_ok-inner.inner.now, c.in_ok-inner.ensures, rw (c.in_ok-push.ensures.items, c.new-vertices.ensures.items) (one c.in_ok-first.ensures.ok));
      reads = λ rest all is.
          let first = first-item is c.in_ok-inner.ensures in
          let read = c.in_ok-first.ensures.reads _ _ first.part in
          left-at read.0 (rw (c.in_ok-push.ensures.items, c.new-vertices.ensures.items) (ap (λ x. x ∷ []) read.1)) first.left;
    }

pub returns-in_err-vertex-clause-reads : goal.returns-in_err-vertex-clause-reads
returns-in_err-vertex-clause-reads g c =
    let k = c.in-Some-Comma-default in
    let is = first-is _ _ _ _ k.ensures k.field-0-0-is in
    λ rest all spelled.
    let next = next-item (c.loop-after.invariant.reads rest all spelled) is in
    absurd (c.in_err-vertex.ensures.reads _ _ next.part)

pub loop-after-preserved : goal.loop-after-preserved
loop-after-preserved g c =
    let k = c.in-Some-Comma-default in
    let is = first-is _ _ _ _ k.ensures k.field-0-0-is in
    let so_far = c.loop-after.invariant.spelled in
    let more = map-snoc point_of c.loop-after.vertices.items c.in_ok-vertex.vertex in
    record {
      spelled = (so_far.0, so_far.1, rw (c.in_ok-push-2.ensures.items, more) (items-more (rw is at so_far.2) c.in_ok-vertex.ensures.ok));
      reads = λ rest all spelled.
          let next = next-item (c.loop-after.invariant.reads rest all spelled) is in
          let read = c.in_ok-vertex.ensures.reads _ _ next.part in
          left-at read.0 (rw (c.in_ok-push-2.ensures.items, more) (ap (λ x. map point_of c.loop-after.vertices.items ++ x ∷ []) read.1)) next.left;
    }

pub loop-after-smaller : goal.loop-after-smaller
loop-after-smaller g c =
    let k = c.in-Some-Comma-default in
    let is = first-is _ _ _ _ k.ensures k.field-0-0-is in
    omega (arith, ap length is, position-shorter _ _ _ c.in_ok-vertex.ensures.ok)

pub returns-in_err-rest-clause-reads : goal.returns-in_err-rest-clause-reads
returns-in_err-rest-clause-reads g c =
    let no_comma : (w : List Token) → c.loop-after.rest.now ≢ Comma ∷ w = search rules in
    λ rest all spelled.
    let last = last-item (c.loop-after.invariant.reads rest all spelled) no_comma in
    absurd (c.in_err-rest.ensures _ last.0)

pub returns-clause-ok : goal.returns-clause-ok
returns-clause-ok g c =
    let so_far = c.loop-after.invariant.spelled in
    record { inner = so_far.0; opened = so_far.1; inside = rw c.in_ok-rest.ensures at so_far.2 }

pub returns-clause-reads : goal.returns-clause-reads
returns-clause-reads g c =
    let no_comma : (w : List Token) → c.loop-after.rest.now ≢ Comma ∷ w = search rules in
    λ rest all spelled.
    let last = last-item (c.loop-after.invariant.reads rest all spelled) no_comma in
    (cc (last.0, c.in_ok-rest.ensures), last.1)
