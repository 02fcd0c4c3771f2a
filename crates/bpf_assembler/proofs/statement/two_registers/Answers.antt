use Rattle.std.proofs.Common.{sym}
use Rattle.bpf_assembler.specs.Operand.{register_in}
use Rattle.bpf_assembler.proofs.OperandPairLemmas.{two-split}
use Rattle.bpf_assembler.proofs.statement.two_registers.Goals as goal

pub returns : goal.returns
returns c =
    let split = two-split register_in register_in c.args.operands.now c.in_ok-left.left.now c.in_ok-left.right.now c.in_ok-left.ensures in
    rw (c.both.ensures, c.register_in.ensures, c.register_in-2.ensures) (sym split)
