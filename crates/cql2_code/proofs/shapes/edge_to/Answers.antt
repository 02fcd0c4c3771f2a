use Rattle.cql2_code.proofs.ShapeWritten.{edges_last}
use Rattle.cql2_code.proofs.shapes.edge_to.Goals as goal

pub returns : goal.returns
returns c =
    edges_last c.args.vertices.now c.args.next c.index-vertices-next.result c.index-vertices-next-2.result c.requires.some c.requires.inside
    c.index-vertices-next.is c.index-vertices-next-2.is
