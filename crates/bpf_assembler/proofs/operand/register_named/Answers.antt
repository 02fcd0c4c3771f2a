use Rattle.std.proofs.Common.{sym, ap, ◌∙◌}
use Rattle.bpf_assembler.specs.Operand.{option_and_then, register_at}
use Rattle.bpf_assembler.proofs.OperandLemmas.{register_at-same}
use Rattle.bpf_assembler.proofs.operand.register_named.Goals as goal

pub returns : goal.returns
returns c = sym (ap (option_and_then register_at) (sym c.in_ok-number.ensures.value) ∙ register_at-same _)
