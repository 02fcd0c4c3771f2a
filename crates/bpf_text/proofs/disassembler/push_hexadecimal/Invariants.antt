use Rattle.std.proofs.Common.{◌≡◌, ◌≤◌, ◌++◌}
use Rattle.std.specs.String.{string_bytes}
use Rattle.bpf_text.specs.CodeText.{hexadecimal}
use Rattle.bpf_text.proofs.disassembler.push_hexadecimal.Given as goal

-- the digits that are written, and those that remain
abbrev pub invariant-loop-remaining : goal.invariant-loop-remaining
invariant-loop-remaining g l = record {
  written : string_bytes l.text ++ hexadecimal l.remaining l.number ≡ string_bytes l.initial.text ++ hexadecimal 16 l.number;
  few : l.remaining ≤ 16;
}

abbrev pub decreases-loop-remaining : goal.decreases-loop-remaining
decreases-loop-remaining g l = l.remaining
