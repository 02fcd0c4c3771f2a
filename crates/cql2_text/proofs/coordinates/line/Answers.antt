use Rattle.std.proofs.Common.{◌<◌, length, arith}
use Rattle.cql2_text.proofs.GeometryLemmas.{line-some}
use Rattle.cql2_text.proofs.coordinates.line.Goals as goal

pub returns-then-len-lt-MIN_LINE_POSITIONS-clause-reads : goal.returns-then-len-lt-MIN_LINE_POSITIONS-clause-reads
returns-then-len-lt-MIN_LINE_POSITIONS-clause-reads g c =
    λ rest points is.
    let read = c.in_ok-vertices.ensures.reads _ _ is.positions in
    let few : length c.in_ok-vertices.vertices.items < 2 = omega (arith, c.len.ensures, c.in_ok-vertices.vertices.ok.0, c.if-len-lt-MIN_LINE_POSITIONS.true) in
    absurd (line-some c.in_ok-vertices.vertices.items points read.1 is.some few)

pub returns-clause-reads : goal.returns-clause-reads
returns-clause-reads g c = λ rest points is. c.in_ok-vertices.ensures.reads _ _ is.positions
