use Rattle.std.proofs.Common.{sym}
use Rattle.bpf_assembler.specs.Number.{limit_of_16_bits}
use Rattle.bpf_assembler.specs.Operand.{source_in, target_in}
use Rattle.bpf_assembler.proofs.OperandPairLemmas.{two-split, both-view}
use Rattle.bpf_assembler.proofs.statement.source_and_target.Goals as goal

pub returns : goal.returns
returns c =
    let split = two-split source_in (target_in limit_of_16_bits) c.args.operands.now c.in_ok-left.left.now c.in_ok-left.right.now
    c.in_ok-left.ensures in
    rw (c.both.ensures, both-view, c.source_in.ensures, c.target_16.ensures) (sym split)
