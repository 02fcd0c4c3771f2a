use Rattle.cql2_code.proofs.ShapeWritten.{ring_closed}
use Rattle.cql2_code.proofs.shapes.closing_edge.Goals as goal

pub returns : goal.returns
returns c =
    ring_closed c.args.vertices.now c.index-vertices-vertices.result c.index-vertices-0.result c.requires c.index-vertices-vertices.is
    c.index-vertices-0.is
