use Rattle.std.proofs.Common.{List, ◌++◌, ap, ◌∙◌, subst}
use Rattle.bpf_insn.specs.declared.instruction.Insn.{Insn}
use Rattle.cql2_code.specs.Layout.{IsPrepended}
use Rattle.cql2_code.specs.ShapeCode.{point_across, rest_point, round_first}
use Rattle.cql2_code.proofs.bounds.prepend_rounded.Goals as goal

pub returns : goal.returns
returns g c =
    subst (λ (code : List Insn). IsPrepended c.prepend_all-3.result code c.prepend_all-3.new.self)
    (ap (λ (insns : List Insn). insns ++ c.prepend_all-2.new.self) c.rest_across.ensures
    ∙ ap (λ (code : List Insn). point_across (rest_point c.args.corner) ++ code)
    (c.in_ok-prepend_all-2.ensures ∙ ap (λ (insns : List Insn). insns ++ c.prepend_all.new.self) c.round_first.ensures
    ∙ ap (λ (code : List Insn). round_first c.args.rounding ++ code)
    (c.in_ok-prepend_all.ensures ∙ ap (λ (insns : List Insn). insns ++ c.args.code.now) c.add_whole.ensures)))
    c.prepend_all-3.ensures
