use Rattle.std.proofs.Common.{ap, sym}
use Rattle.bpf_assembler.specs.Operand.{or_fault}
use Rattle.bpf_assembler.specs.declared.fault.TextFaultKind.TheVariants.{WritesFramePointer}
use Rattle.bpf_assembler.proofs.OperandLemmas.{writable_at-same}
use Rattle.bpf_assembler.proofs.operand.destination_of.Goals as goal

pub returns : goal.returns
returns c = sym (ap (or_fault WritesFramePointer) (writable_at-same _))
