use Rattle.std.proofs.Common.{◌≡◌}
use Rattle.bpf_insn.specs.Code.{place_of}
use Rattle.bpf_flow.specs.Flow.{JumpsAreForwardBefore}
use Rattle.bpf_flow.proofs.flow.check_jumps.Given as goal

-- the jumps so far lead on
abbrev pub invariant-loop-insn : goal.invariant-loop-insn
invariant-loop-insn g l = record { place : l.place ≡ place_of l.code l.insn-index; jumps : JumpsAreForwardBefore l.code l.place }
