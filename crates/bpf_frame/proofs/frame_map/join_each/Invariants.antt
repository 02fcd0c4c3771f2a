use Rattle.std.proofs.Common.{◌≡◌, ℕ, ◌<◌, ◌≤◌, length, get_or}
use Rattle.bpf_insn.specs.declared.memory.TheConstants.{SLOTS}
use Rattle.bpf_kinds.specs.Kind as kind
use Rattle.bpf_kinds.specs.declared.kind.Kind.TheVariants.{Nothing}
use Rattle.bpf_frame.proofs.frame_map.join_each.Given as goal

-- the kinds so far are joined, and the others are unchanged
abbrev pub invariant-loop-slot : goal.invariant-loop-slot
invariant-loop-slot l = record {
  count : length l.kinds ≡ SLOTS;
  joined : (slot : ℕ) → slot < l.slot → get_or l.kinds slot Nothing ≡ kind.join (get_or l.initial.kinds slot Nothing)
      (get_or l.others slot Nothing);
  rest : (slot : ℕ) → l.slot ≤ slot → get_or l.kinds slot Nothing ≡ get_or l.initial.kinds slot Nothing;
}
