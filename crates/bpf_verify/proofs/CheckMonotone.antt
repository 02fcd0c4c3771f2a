-- Each check is monotone, as its law states.
use Rattle.std.proofs.Common.{ℕ, ℤ, Some}
use Rattle.bpf_helpers.specs.declared.helper.Helper.{Helper}
use Rattle.bpf_helpers.specs.declared.signature.Argument.{Argument}
use Rattle.bpf_insn.specs.declared.instruction.LoadFormat.{LoadFormat}
use Rattle.bpf_kinds.specs.Kind as kind
use Rattle.bpf_kinds.specs.Offsets as offsets
use Rattle.bpf_meaning.proofs.CheckLemmas.{weaker}
use Rattle.bpf_meaning.specs.Checks.{Sound}
use Rattle.bpf_verify.specs.LiftedState.{IsBelow, IsWithinState}
use Rattle.bpf_verify.specs.Transfer.{ArePointersWithin, argument_in, call, load_from, pointers_in, read}
use Rattle.bpf_verify.specs.declared.memory.Pointers.{Pointers}
use Rattle.bpf_verify.specs.declared.abstract_state.AbstractState.{AbstractState}
use Rattle.bpf_verify.proofs.MonotoneCalls.{argument_in_lower, call_lower}
use Rattle.bpf_verify.proofs.MonotoneChecks.{IsLower, is_within, read_lower}
use Rattle.bpf_verify.proofs.MonotoneMemory.{ArePointersLower, load_from_lower, pointers_lower}

pub read_is_monotone : (lower higher : AbstractState) (register : ℕ) → IsBelow lower higher
    → Sound (λ x n. kind.IsWithin n x) (read higher register) (read lower register)
read_is_monotone lower higher register below = weaker IsLower (λ x n. kind.IsWithin n x) _ _ is_within (read_lower higher lower below register)

pub base_is_monotone : (lower higher : AbstractState) (base : ℕ) → IsBelow lower higher
    → Sound (λ x n. ArePointersWithin n x) (pointers_in higher base) (pointers_in lower base)
base_is_monotone lower higher base below = weaker ArePointersLower (λ x n. ArePointersWithin n x) _ _
    (λ x n is. record { into = is.into; offsets = is.offsets.within }) (pointers_lower higher lower below base)

pub load_is_monotone : {lower higher : AbstractState} (format : LoadFormat) {x n : Pointers} (offset : ℤ) → IsBelow lower higher
    → offsets.IsProper n.offsets → ArePointersWithin n x
    → Sound (λ x n. kind.IsWithin n x) (load_from higher format x offset) (load_from lower format n offset)
load_is_monotone format offset below proper within =
    weaker IsLower (λ x n. kind.IsWithin n x) _ _ is_within
    (load_from_lower _ _ below format _ _ offset
    (record { into = within.into; offsets = record { within = within.offsets; ordered = proper.ordered } }))

pub argument_is_monotone : (lower higher : AbstractState) (number : ℕ) (required : Argument) → IsBelow lower higher
    → Sound (λ x n. kind.IsWithin n x) (argument_in higher number required) (argument_in lower number required)
argument_is_monotone lower higher number required below = weaker IsLower (λ x n. kind.IsWithin n x) _ _ is_within
    (argument_in_lower higher lower below number required)

pub call_is_monotone : (lower higher : AbstractState) (helper : Helper) → IsBelow lower higher
    → Sound (λ x n. IsWithinState n x) (call higher (Some helper)) (call lower (Some helper))
call_is_monotone lower higher helper below = call_lower higher lower below helper
