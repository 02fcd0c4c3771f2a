use Rattle.std.proofs.Common.{sym}
use Rattle.bpf_assembler.specs.Number.{wide_in}
use Rattle.bpf_assembler.specs.Operand.{register_in}
use Rattle.bpf_assembler.proofs.OperandPairLemmas.{two-split}
use Rattle.bpf_assembler.proofs.statement.register_and_wide.Goals as goal

pub returns : goal.returns
returns c =
    let split = two-split register_in wide_in c.args.operands.now c.in_ok-left.left.now c.in_ok-left.right.now c.in_ok-left.ensures in
    rw (c.both.ensures, c.register_in.ensures, c.wide_in.ensures) (sym split)
