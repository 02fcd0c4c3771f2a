use Rattle.std.proofs.Common.{◌≢◌, sym, ap, subst, IsSome, Some, ℕ, ◌+◌, List}
use Rattle.bpf_insn.specs.Code.{instruction_at}
use Rattle.bpf_insn.specs.declared.instruction.Insn.{Insn}
use Rattle.bpf_insn.specs.declared.instruction.Insn.TheVariants.{Exit}
use Rattle.bpf_flow.proofs.FlowLemmas.{continues}
use Rattle.bpf_flow.proofs.flow.Flow.next.Goals as goal

pub returns-clause-begins : goal.returns-clause-begins
returns-clause-begins g c =
    let code = ap (λ flow. flow.code) c.self.view_is in
    subst (λ (code : List Insn). instruction_at code c.args.place ≢ Some Exit
    → IsSome (instruction_at code (c.args.place + c.words.result))) code
    (λ other. subst (λ (n : ℕ). IsSome (instruction_at c.self.inside.code (c.args.place + n))) (sym c.words.ensures)
    (continues c.self.inside.code c.args.place c.in-Some.insn c.self.invariant.last (sym c.in-Some.ensures.value) other))
