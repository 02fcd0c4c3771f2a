use Rattle.cql2_text.proofs.GeometryLemmas.{point-is, position-is}
use Rattle.cql2_text.proofs.coordinates.position.Goals as goal

pub returns-clause-ok : goal.returns-clause-ok
returns-clause-ok c =
    position-is c.in_ok-longitude.longitude.number c.in_ok-latitude.latitude.number c.in_ok-longitude.ensures.small
    c.in_ok-latitude.ensures.small c.in_ok-longitude.ensures.ok c.in_ok-latitude.ensures.ok

pub returns-in_err-longitude-clause-reads : goal.returns-in_err-longitude-clause-reads
returns-in_err-longitude-clause-reads c = λ rest point is. absurd (c.in_err-longitude.ensures.reads _ _ is.x)

pub returns-in_err-latitude-clause-reads : goal.returns-in_err-latitude-clause-reads
returns-in_err-latitude-clause-reads c =
    λ rest point is.
    let x = c.in_ok-longitude.ensures.reads _ _ is.x in
    absurd (c.in_err-latitude.ensures.reads _ _ (rw (← x.0) at is.y))

pub returns-clause-reads : goal.returns-clause-reads
returns-clause-reads c =
    λ rest point is.
    let x = c.in_ok-longitude.ensures.reads _ _ is.x in
    let y = c.in_ok-latitude.ensures.reads _ _ (rw (← x.0) at is.y) in (
      y.0,
      point-is point c.in_ok-longitude.longitude.number c.in_ok-latitude.latitude.number c.in_ok-longitude.ensures.small
          c.in_ok-latitude.ensures.small x.1 y.1,
    )
