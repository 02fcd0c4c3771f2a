use Rattle.cql2.specs.Geometry.{edge_of}
use Rattle.cql2.proofs.Edges.{edge_short}
use Rattle.cql2_code.proofs.SideWords.{difference_fits, east_product_fits, north_product_fits, start_reread}
use Rattle.cql2_code.proofs.edges.start_across.Goals as goal

pub overflow_mul-east : goal.overflow_mul-east
overflow_mul-east c = east_product_fits (edge_of c.args.edge.start c.args.edge.end) (edge_short c.args.edge.start c.args.edge.end)

pub overflow_mul-north : goal.overflow_mul-north
overflow_mul-north c = north_product_fits (edge_of c.args.edge.start c.args.edge.end) (edge_short c.args.edge.start c.args.edge.end)

pub overflow_sub-result : goal.overflow_sub-result
overflow_sub-result c = difference_fits (edge_of c.args.edge.start c.args.edge.end) (edge_short c.args.edge.start c.args.edge.end)

pub returns : goal.returns
returns c = start_reread (edge_of c.args.edge.start c.args.edge.end) (edge_short c.args.edge.start c.args.edge.end)
