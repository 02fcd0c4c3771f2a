use Rattle.std.proofs.Common.{◌++◌, List, sym, ap, ◌∙◌, subst}
use Rattle.std.specs.List.{flat_map}
use Rattle.bpf_insn.specs.declared.instruction.Insn.{Insn}
use Rattle.cql2_code.specs.Layout.{IsPrepended, MayBeRefused}
use Rattle.cql2_code.specs.ShapeCode.{ring_code}
use Rattle.cql2_code.proofs.ShapeWritten.{part_refused, polygon_written}
use Rattle.cql2_code.proofs.shapes.prepend_polygon.Goals as goal

pub returns-in_err-prepend_all : goal.returns-in_err-prepend_all
returns-in_err-prepend_all g c =
    part_refused (flat_map ring_code c.args.polygon.now.rings.items) c.from_residual.result _ (polygon_written c.args.polygon.now c.args.code.now)
    c.from_residual.ensures.1
    (subst (λ (insns : List Insn). MayBeRefused (insns ++ c.args.code.now) c.in_err-prepend_all.field-0.0) c.inside.ensures c.in_err-prepend_all.ensures)

pub returns : goal.returns
returns g c =
    subst (λ (code : List Insn). IsPrepended c.prepend_rings.result code c.prepend_rings.new.code)
    (ap (λ (code : List Insn). flat_map ring_code c.args.polygon.now.rings.items ++ code)
    (c.in_ok-prepend_all.ensures ∙ ap (λ (insns : List Insn). insns ++ c.args.code.now) c.inside.ensures)
    ∙ sym (polygon_written c.args.polygon.now c.args.code.now))
    c.prepend_rings.ensures
