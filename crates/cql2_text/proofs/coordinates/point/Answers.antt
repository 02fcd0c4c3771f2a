use Rattle.cql2_text.proofs.GeometryLemmas.{inside-at}
use Rattle.cql2_text.proofs.coordinates.point.Goals as goal

pub returns-clause-ok : goal.returns-clause-ok
returns-clause-ok c =
    record {
      inner = c.in_ok-inner.inner.now;
      opened = c.in_ok-inner.ensures;
      inside = rw c.in_ok-rest.ensures at c.in_ok-vertex.ensures.ok;
    }

pub returns-in_err-inner-clause-reads : goal.returns-in_err-inner-clause-reads
returns-in_err-inner-clause-reads c = λ rest point is. absurd (c.in_err-inner.ensures _ is.opened)

pub returns-in_err-vertex-clause-reads : goal.returns-in_err-vertex-clause-reads
returns-in_err-vertex-clause-reads c =
    λ rest point is. absurd (c.in_err-vertex.ensures.reads _ _ (inside-at is c.in_ok-inner.ensures))

pub returns-in_err-rest-clause-reads : goal.returns-in_err-rest-clause-reads
returns-in_err-rest-clause-reads c =
    λ rest point is.
    let read = c.in_ok-vertex.ensures.reads _ _ (inside-at is c.in_ok-inner.ensures) in
    absurd (c.in_err-rest.ensures _ read.0)

pub returns-clause-reads : goal.returns-clause-reads
returns-clause-reads c =
    λ rest point is.
    let read = c.in_ok-vertex.ensures.reads _ _ (inside-at is c.in_ok-inner.ensures) in
    (cc (read.0, c.in_ok-rest.ensures), read.1)
