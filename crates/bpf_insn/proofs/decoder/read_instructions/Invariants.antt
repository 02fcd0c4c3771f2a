use Rattle.std.proofs.Common.{◌≡◌, ◌-◌, ◌/◌, ◌≤◌, length}
use Rattle.bpf_insn.specs.Word.{first_words}
use Rattle.bpf_insn.specs.Code.{code_words}
use Rattle.bpf_insn.proofs.decoder.read_instructions.Given as goal

-- the words so far are those of the instructions
abbrev pub invariant-loop-place : goal.invariant-loop-place
invariant-loop-place g l = record {
  words : first_words l.place l.bytes ≡ code_words l.code;
  within : l.place ≤ l.count;
  count : l.count ≡ length l.bytes / 8;
}

abbrev pub decreases-loop-place : goal.decreases-loop-place
decreases-loop-place g l = l.count - l.place
