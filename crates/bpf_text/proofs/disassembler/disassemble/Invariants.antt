use Rattle.std.proofs.Common.{◌≡◌, take}
use Rattle.std.specs.String.{string_bytes}
use Rattle.bpf_text.specs.CodeText.{text_of}
use Rattle.bpf_text.proofs.RoundTripLemmas.{AreReadBack}
use Rattle.bpf_text.proofs.disassembler.disassemble.Given as goal

-- the lines so far, each of which is read back
abbrev pub invariant-loop-insn : goal.invariant-loop-insn
invariant-loop-insn g l = record {
  written : string_bytes l.text ≡ text_of (take l.insn-index l.instructions);
  read : AreReadBack (take l.insn-index l.instructions);
}
