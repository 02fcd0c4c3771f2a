-- Checks on kinds are sound: if they pass, the same checks on values pass, and the resulting kinds admit the resulting values.
use Rattle.std.proofs.Common.{◌≡◌, ℕ, refl}
use Rattle.bpf_insn.specs.declared.value.Value.{Value}
use Rattle.bpf_insn.specs.declared.value.Value.TheVariants as value
use Rattle.bpf_kinds.specs.Interval as interval
use Rattle.bpf_kinds.specs.Kind as kind
use Rattle.bpf_kinds.specs.declared.interval.Interval.{Interval}
use Rattle.bpf_kinds.specs.declared.kind.Kind.{Kind}
use Rattle.bpf_kinds.specs.declared.kind.Kind.TheVariants.{Number, Record, Frame, Nothing}
use Rattle.bpf_meaning.specs.Effect as effect
use Rattle.bpf_meaning.specs.Checks.{Sound}
use Rattle.bpf_meaning.proofs.CheckLemmas.{weaker}
use Rattle.bpf_meaning.specs.State.{IsWellFormed, HoldsBytes, register_value}
use Rattle.bpf_meaning.specs.declared.cause.Cause.{Cause}
use Rattle.bpf_meaning.specs.declared.state.State.{State}
use Rattle.bpf_verify.specs.Transfer.{read_kind, read, number_or}
use Rattle.bpf_verify.specs.LiftedState.{kind_of, IsProperState, AdmitsState}
use Rattle.bpf_verify.specs.declared.abstract_state.AbstractState.{AbstractState}

-- a proper interval and one of its numbers
pub record HasNumber (x : Interval) (n : ℕ) : Type 0 where
  pub proper : interval.IsProper x
  pub admits : interval.Admits x n

-- a proper kind and one of its values
pub record HasValue (known : Kind) (held : Value) : Type 0 where
  pub proper : kind.IsProper known
  pub admits : kind.Admits known held

-- a proper abstract state and a whole state that it admits
pub record HasState (known : AbstractState) (state : State) : Type 0 where
  pub proper : IsProperState known
  pub admits : AdmitsState known state
  pub whole : IsWellFormed state
  pub bytes : HoldsBytes state

pub has_value : (known : AbstractState) (state : State) → HasState known state → (register : ℕ)
    → HasValue (kind_of known register) (register_value state register)
has_value known state has register = record { proper = has.proper.kinds register; admits = has.admits.registers register }

-- a value that is read, which the register holds

pub record IsReadOf (held : Value) (known : Kind) (found : Value) : Type 0 where
  pub has : HasValue known found
  pub same : held ≡ found

read_kind_sound : (register : ℕ) (known : Kind) (held : Value) → HasValue known held
    → Sound (IsReadOf held) (read_kind register known) (effect.read_value register held)
read_kind_sound register Nothing held has = tt
read_kind_sound register (Number x) (value.Number n) has = record { has = has; same = refl }
read_kind_sound register (Record x) (value.Pointer pointer) has = record { has = has; same = refl }
read_kind_sound register (Frame x) (value.Pointer pointer) has = record { has = has; same = refl }
read_kind_sound register known held has = absurd has.admits

pub read_holds : (known : AbstractState) (state : State) → HasState known state → (register : ℕ)
    → Sound (IsReadOf (register_value state register)) (read known register) (effect.read state register)
read_holds known state has register = read_kind_sound register _ _ (has_value known state has register)

pub read_sound : (known : AbstractState) (state : State) → HasState known state → (register : ℕ)
    → Sound HasValue (read known register) (effect.read state register)
read_sound known state has register = weaker (IsReadOf (register_value state register)) HasValue _ _ (λ x v is. is.has)
    (read_holds known state has register)

pub number_or_sound : (cause : Cause) (known : Kind) (held : Value) → HasValue known held
    → Sound HasNumber (number_or cause known) (effect.number_or cause held)
number_or_sound cause (Number x) (value.Number n) has = record { proper = has.proper; admits = has.admits }
number_or_sound cause (Number x) held has = absurd has.admits
number_or_sound cause known held has = tt
