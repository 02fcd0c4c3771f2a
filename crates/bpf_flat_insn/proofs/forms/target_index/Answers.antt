use Rattle.std.proofs.Common.{ap, sym, ◌∙◌, subst, arith, length, List, IsSome}
use Rattle.bpf_insn.specs.declared.instruction.Insn.{Insn}
use Rattle.bpf_insn.specs.Code.{index_at, instruction_at}
use Rattle.bpf_insn.proofs.PlaceLemmas.{few_instructions}
use Rattle.bpf_flat_insn.proofs.FormLemmas.{jumps_to, nothing_found}
use Rattle.bpf_flat_insn.proofs.forms.target_index.Goals as goal

pub overflow_cast-result : goal.overflow_cast-result
overflow_cast-result g c =
    let same = ap length c.code.ensures.value in
    let few = few_instructions c.args.flow.now.code in
    let sized = c.requires.sized in
    let within = c.in-Some-index_at.ensures.within in
    omega (arith, sized.1)

pub unreachable-requires : goal.unreachable-requires
unreachable-requires g c = nothing_found c.code.result.now c.in-Some.target (sym c.in-None.ensures.value)
    (subst (λ (code : List Insn). IsSome (instruction_at code c.in-Some.target)) (sym c.code.ensures.value) c.in-Some.ensures.begins)

pub returns : goal.returns
returns g c = jumps_to c.args.flow.now.code c.args.place c.in-Some.target c.in-Some-index_at.index _ c.in-Some.ensures.value
    (c.in-Some-index_at.ensures.value ∙ ap (λ code. index_at code c.in-Some.target) c.code.ensures.value)
