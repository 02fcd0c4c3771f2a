use Rattle.std.proofs.Common.{◌≡◌, refl}
use Rattle.cql2_text.proofs.GeometryLemmas.{inside-at}
use Rattle.cql2_text.proofs.shape.bbox.Goals as goal

pub returns-clause-ok : goal.returns-clause-ok
returns-clause-ok c =
    record {
      inner = c.in_ok-inner.inner.now;
      opened = c.in_ok-inner.ensures;
      inside = record {
        from_east = c.in_ok-rest.rest.now;
        southwest = rw c.in_ok-rest.ensures at c.in_ok-west.ensures.ok;
        northeast = rw c.in_ok-rest-2.ensures at c.in_ok-east.ensures.ok;
      };
    }

pub returns-in_err-inner-clause-reads : goal.returns-in_err-inner-clause-reads
returns-in_err-inner-clause-reads c = λ rest box is. absurd (c.in_err-inner.ensures _ is.opened)

pub returns-in_err-west-clause-reads : goal.returns-in_err-west-clause-reads
returns-in_err-west-clause-reads c =
    λ rest box is.
    let corners = inside-at is c.in_ok-inner.ensures in
    absurd (c.in_err-west.ensures.reads _ _ _ corners.southwest)

pub returns-in_err-rest-clause-reads : goal.returns-in_err-rest-clause-reads
returns-in_err-rest-clause-reads c =
    λ rest box is.
    let corners = inside-at is c.in_ok-inner.ensures in
    let southwest = c.in_ok-west.ensures.reads _ _ _ corners.southwest in
    absurd (c.in_err-rest.ensures _ southwest.0)

pub returns-in_err-east-clause-reads : goal.returns-in_err-east-clause-reads
returns-in_err-east-clause-reads c =
    λ rest box is.
    let corners = inside-at is c.in_ok-inner.ensures in
    let southwest = c.in_ok-west.ensures.reads _ _ _ corners.southwest in
    let from_east : corners.from_east ≡ c.in_ok-rest.rest.now = cc (southwest.0, c.in_ok-rest.ensures) in
    absurd (c.in_err-east.ensures.reads _ _ _ (rw from_east at corners.northeast))

pub returns-in_err-rest-2-clause-reads : goal.returns-in_err-rest-2-clause-reads
returns-in_err-rest-2-clause-reads c =
    λ rest box is.
    let corners = inside-at is c.in_ok-inner.ensures in
    let southwest = c.in_ok-west.ensures.reads _ _ _ corners.southwest in
    let from_east : corners.from_east ≡ c.in_ok-rest.rest.now = cc (southwest.0, c.in_ok-rest.ensures) in
    let northeast = c.in_ok-east.ensures.reads _ _ _ (rw from_east at corners.northeast) in
    absurd (c.in_err-rest-2.ensures _ northeast.0)

pub returns-clause-reads : goal.returns-clause-reads
returns-clause-reads c =
    λ rest box is.
    let corners = inside-at is c.in_ok-inner.ensures in
    let southwest = c.in_ok-west.ensures.reads _ _ _ corners.southwest in
    let from_east : corners.from_east ≡ c.in_ok-rest.rest.now = cc (southwest.0, c.in_ok-rest.ensures) in
    let northeast = c.in_ok-east.ensures.reads _ _ _ (rw from_east at corners.northeast) in
    (cc (northeast.0, c.in_ok-rest-2.ensures), rw (southwest.1, southwest.2, northeast.1, northeast.2) refl)
