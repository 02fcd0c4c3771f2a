use Rattle.std.proofs.Common.{◌-◌, List, ◌++◌, sym, ap, ◌∙◌}
use Rattle.std.specs.List.{flat_map}
use Rattle.cql2.specs.Geometry.{Edge, edge_of}
use Rattle.cql2_code.specs.ShapeCode.{polygon_edge_code}
use Rattle.cql2_code.proofs.ShapeWritten.{edges_none, edges_refused, edges_written}
use Rattle.cql2_code.proofs.shapes.prepend_ring_edges.Goals as goal

pub loop-next-init : goal.loop-next-init
loop-next-init g c = ap (λ (edges : List Edge). flat_map polygon_edge_code edges ++ c.args.code.now) (sym (edges_none c.args.vertices.now))

pub loop-next-preserved : goal.loop-next-preserved
loop-next-preserved g c =
    let edge = c.edge_to.result in
    c.in_ok-prepend_polygon_edge.ensures
    ∙ edges_written polygon_edge_code c.args.vertices.now (c.loop-next.next - 1) (edge_of edge.start edge.end) c.args.code.now c.loop-next.code
    c.edge_to.ensures c.loop-next.invariant

pub returns-in_err-prepend_polygon_edge : goal.returns-in_err-prepend_polygon_edge
returns-in_err-prepend_polygon_edge g c =
    let edge = c.edge_to.result in
    edges_refused polygon_edge_code c.args.vertices.now (c.loop-next.next - 1) (edge_of edge.start edge.end) c.args.code.now c.loop-next.code c.edge_to.ensures
    c.loop-next.invariant c.from_residual.result _ c.from_residual.ensures.1 c.in_err-prepend_polygon_edge.ensures
