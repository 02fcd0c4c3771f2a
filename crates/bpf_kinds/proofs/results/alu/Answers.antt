use Rattle.std.proofs.Common.{◌≡◌, subst, sym}
use Rattle.bpf_insn.specs.Arithmetic.{result_of}
use Rattle.bpf_kinds.specs.Interval.{IsProper, Admits}
use Rattle.bpf_kinds.specs.Results.{alu}
use Rattle.bpf_kinds.specs.declared.interval.Interval.{Interval}
use Rattle.bpf_kinds.proofs.ResultLemmas.{alu-admits, alu-proper}
use Rattle.bpf_kinds.proofs.results.alu.Goals as goal

value : (c : goal.After-result_on) → c.result_on.result ≡ alu c.args.operation c.args.width c.args.x c.args.y
value c = cc

pub returns-clause-admits : goal.returns-clause-admits
returns-clause-admits c = λ m n left right.
    let P : Interval → Type 0 = λ z. Admits z (result_of c.args.operation c.args.width m n) in
    subst P (sym (value c)) (alu-admits c.args.operation c.args.width left right)

pub returns-clause-proper : goal.returns-clause-proper
returns-clause-proper c = subst IsProper (sym (value c))
    (alu-proper c.args.operation c.args.width c.args.x c.args.y c.requires.x c.requires.y)
