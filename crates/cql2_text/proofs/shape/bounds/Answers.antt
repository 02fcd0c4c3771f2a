use Rattle.std.proofs.Common.{◌∙◌}
use Rattle.cql2_text.proofs.ShapeLemmas.{turned}
use Rattle.cql2_text.proofs.shape.bounds.Goals as goal

pub returns-in_err-corners-clause-reads : goal.returns-in_err-corners-clause-reads
returns-in_err-corners-clause-reads c = λ rest box is. absurd (c.in_err-corners.ensures.reads _ _ is.corners)

pub returns-then-corners-clause-reads : goal.returns-then-corners-clause-reads
returns-then-corners-clause-reads c =
    λ rest box is.
    let read = c.in_ok-corners.ensures.reads _ _ is.corners in
    let own = c.in_ok-corners.corners in
    turned own.east own.west c.if-corners.true (rw (← read.1) at is.longitudes)

pub returns-then-corners-2-clause-reads : goal.returns-then-corners-2-clause-reads
returns-then-corners-2-clause-reads c =
    λ rest box is.
    let read = c.in_ok-corners.ensures.reads _ _ is.corners in
    let own = c.in_ok-corners.corners in
    turned own.north own.south c.if-corners-2.true (rw (← read.1) at is.latitudes)

pub returns-clause-reads : goal.returns-clause-reads
returns-clause-reads c =
    λ rest box is.
    let read = c.in_ok-corners.ensures.reads _ _ is.corners in
    (read.0, c.bounds_of.ensures ∙ read.1)
