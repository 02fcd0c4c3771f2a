use Rattle.std.proofs.Common.{◌++◌, List, length, sym, ap, ◌∙◌, subst, arith}
use Rattle.std.specs.List.{flat_map}
use Rattle.std.proofs.lemmas.Bool.{eqb-false}
use Rattle.bpf_insn.specs.declared.instruction.Insn.{Insn}
use Rattle.cql2.specs.Geometry.{edge_of, edges_of_ring, edges_through}
use Rattle.cql2_code.specs.Layout.{IsPrepended}
use Rattle.cql2_code.specs.ShapeCode.{polygon_edge_code}
use Rattle.cql2_code.proofs.ShapeWritten.{part_refused, ring_written}
use Rattle.cql2_code.proofs.shapes.prepend_ring.Goals as goal

pub closing_edge-requires : goal.closing_edge-requires
closing_edge-requires g c =
    let other = eqb-false (length c.args.vertices.now) 0 (sym c.is_empty.ensures ∙ c.if-is_empty.false) in omega arith

pub returns-in_err-prepend_polygon_edge : goal.returns-in_err-prepend_polygon_edge
returns-in_err-prepend_polygon_edge g c =
    let edge = c.closing_edge.result in
    part_refused (flat_map polygon_edge_code (edges_through c.args.vertices.now)) c.from_residual.result _
    (ring_written polygon_edge_code (edges_of_ring c.args.vertices.now) (edges_through c.args.vertices.now) (edge_of edge.start edge.end) c.args.code.now
    c.closing_edge.ensures) c.from_residual.ensures.1 c.in_err-prepend_polygon_edge.ensures

pub returns : goal.returns
returns g c =
    let edge = c.closing_edge.result in
    subst (λ (code : List Insn). IsPrepended c.prepend_ring_edges.result code c.prepend_ring_edges.new.code)
    (ap (λ (code : List Insn). flat_map polygon_edge_code (edges_through c.args.vertices.now) ++ code) c.in_ok-prepend_polygon_edge.ensures
    ∙ sym (ring_written polygon_edge_code (edges_of_ring c.args.vertices.now) (edges_through c.args.vertices.now) (edge_of edge.start edge.end)
    c.args.code.now c.closing_edge.ensures))
    c.prepend_ring_edges.ensures
