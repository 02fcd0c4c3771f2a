-- What is known of the registers after one is set, and after one is narrowed.
use Rattle.std.proofs.Common.{ℕ, arith}
use Rattle.bpf_insn.specs.declared.register.WritableRegister.{WritableRegister}
use Rattle.bpf_insn.specs.declared.value.Value.{Value}
use Rattle.bpf_insn.specs.declared.value.Value.TheVariants as value
use Rattle.bpf_kinds.specs.Kind as kind
use Rattle.bpf_kinds.specs.declared.kind.Kind.{Kind}
use Rattle.bpf_kinds.specs.declared.kind.Kind.TheVariants.{Nothing}
use Rattle.tl_segments.specs.Segment.{SegmentParts}
use Rattle.bpf_meaning.specs.State.{register_value}
use Rattle.bpf_meaning.specs.Step.{carry_out}
use Rattle.bpf_meaning.specs.declared.effect.Change.TheVariants.{SetRegister}
use Rattle.bpf_meaning.specs.declared.state.State.{State}
use Rattle.bpf_verify.specs.LiftedState.{with_kind, AdmitsState}
use Rattle.bpf_verify.specs.declared.abstract_state.AbstractState.{AbstractState}
use Rattle.bpf_verify.proofs.SoundChecks.{HasState}
use Rattle.bpf_kinds.proofs.ListLemmas.{set_both, set_each}

-- a register is set in both states
pub writes_admit : (segment : SegmentParts) (known : AbstractState) (state : State) → HasState known state
    → (register : WritableRegister) (x : Kind) (v : Value) → kind.Admits x v
    → AdmitsState (with_kind known register.number x) (carry_out segment state (SetRegister register v))
writes_admit segment known state has register x v admits = record {
  registers = set_both kind.Admits Nothing value.Empty known.registers state.registers register.number x v
      (let many = has.proper.count in let all = has.whole.registers in omega arith) admits has.admits.registers;
  frame = has.admits.frame;
}

-- a register's kind is narrowed
pub narrowed_still_admits : (known : AbstractState) (state : State) → AdmitsState known state → (register : ℕ) (x : Kind)
    → kind.Admits x (register_value state register) → AdmitsState (with_kind known register x) state
narrowed_still_admits known state admits register x a =
    record {
      registers = set_each (λ number held. kind.Admits held (register_value state number)) Nothing known.registers register x a
          admits.registers;
      frame = admits.frame;
    }
