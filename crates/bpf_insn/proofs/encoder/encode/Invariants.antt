use Rattle.std.proofs.Common.{take}
use Rattle.bpf_insn.specs.Word.{AreWords}
use Rattle.bpf_insn.specs.Code.{code_words}
use Rattle.bpf_insn.proofs.encoder.encode.Given as goal

-- the bytes so far are those of the instructions
abbrev pub invariant-loop-instruction : goal.invariant-loop-instruction
invariant-loop-instruction g l = AreWords (code_words (take l.instruction-index l.instruction-items)) l.bytes.items
