use Rattle.std.proofs.Common.{◌≡◌, ℕ, ◌<◌, ◌≤◌, length}
use Rattle.bpf_kinds.specs.Kind as kind
use Rattle.bpf_meaning.specs.declared.state.TheConstants.{REGISTERS}
use Rattle.bpf_verify.specs.LiftedState.{kind_of}
use Rattle.bpf_verify.proofs.abstract_state.AbstractState.join_with.Given as goal

-- the registers so far are joined, and the others are unchanged
abbrev pub invariant-loop-register : goal.invariant-loop-register
invariant-loop-register l = record {
  count : length l.self.registers ≡ REGISTERS;
  joined : (register : ℕ) → register < l.register → kind_of l.self register ≡ kind.join (kind_of l.initial.self register)
      (kind_of l.other register);
  rest : (register : ℕ) → l.register ≤ register → kind_of l.self register ≡ kind_of l.initial.self register;
  frame : l.self.frame ≡ l.initial.self.frame;
}
