use Rattle.std.proofs.Common.{List, ◌++◌, sym, ap, ◌∙◌, subst}
use Rattle.bpf_insn.specs.declared.instruction.Insn.{Insn}
use Rattle.cql2_code.specs.Layout.{IsPrepended}
use Rattle.cql2_code.specs.ShapeCode.{bounds_edge_code, east_edge, north_edge, south_edge, west_edge}
use Rattle.cql2_code.specs.declared.bounds.Rectangle.{Rectangle}
use Rattle.cql2_code.proofs.ShapeWritten.{four_written}
use Rattle.cql2_code.proofs.bounds.prepend_edges.Goals as goal

pub returns : goal.returns
returns g c =
    let bounds = c.args.bounds in
    subst (λ (code : List Insn). IsPrepended c.prepend_edge-4.result code c.prepend_edge-4.new.code)
    (ap (λ (edge : Rectangle). bounds_edge_code edge ++ c.prepend_edge-3.new.code) c.south_edge.ensures
    ∙ ap (λ (code : List Insn). bounds_edge_code (south_edge bounds) ++ code)
    (c.in_ok-prepend_edge-3.ensures ∙ ap (λ (edge : Rectangle). bounds_edge_code edge ++ c.prepend_edge-2.new.code) c.east_edge.ensures
    ∙ ap (λ (code : List Insn). bounds_edge_code (east_edge bounds) ++ code)
    (c.in_ok-prepend_edge-2.ensures ∙ ap (λ (edge : Rectangle). bounds_edge_code edge ++ c.prepend_edge.new.code) c.north_edge.ensures
    ∙ ap (λ (code : List Insn). bounds_edge_code (north_edge bounds) ++ code)
    (c.in_ok-prepend_edge.ensures ∙ ap (λ (edge : Rectangle). bounds_edge_code edge ++ c.args.code.now) c.west_edge.ensures)))
    ∙ sym (four_written bounds_edge_code (south_edge bounds) (east_edge bounds) (north_edge bounds) (west_edge bounds) c.args.code.now))
    c.prepend_edge-4.ensures
