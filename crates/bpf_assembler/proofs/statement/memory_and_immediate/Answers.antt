use Rattle.std.proofs.Common.{sym}
use Rattle.bpf_assembler.specs.Number.{immediate_in}
use Rattle.bpf_assembler.specs.Operand.{memory_in}
use Rattle.bpf_assembler.proofs.OperandPairLemmas.{two-split}
use Rattle.bpf_assembler.proofs.statement.memory_and_immediate.Goals as goal

pub returns : goal.returns
returns c =
    let split = two-split memory_in immediate_in c.args.operands.now c.in_ok-left.left.now c.in_ok-left.right.now c.in_ok-left.ensures in
    rw (c.both.ensures, c.memory_in.ensures, c.immediate_in.ensures) (sym split)
