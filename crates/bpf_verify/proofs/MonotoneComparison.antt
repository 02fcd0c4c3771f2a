-- Conditional jumps are monotone: a lower state has lower edges.
use Rattle.std.proofs.Common.{◌≡◌, ℕ, Bool, true, false, length, Option, Some, None, if◌then◌else◌, refl, sym, ◌∙◌, subst}
use Rattle.bpf_insn.specs.declared.instruction.Source.{Source}
use Rattle.bpf_insn.specs.declared.instruction.Source.TheVariants.{Immediate, Register}
use Rattle.std.proofs.lemmas.List.{length-set}
use Rattle.bpf_kinds.specs.Interval as interval
use Rattle.bpf_kinds.specs.Narrowing.{refine}
use Rattle.bpf_kinds.specs.declared.interval.Interval.{Interval}
use Rattle.bpf_kinds.specs.declared.kind.Kind.{Kind}
use Rattle.bpf_kinds.specs.declared.kind.Kind.TheVariants.{Number}
use Rattle.bpf_kinds.specs.declared.narrowing.Narrowed.{Narrowed}
use Rattle.bpf_kinds.proofs.NarrowingMonotone.{refine_is_monotone}
use Rattle.bpf_meaning.specs.Checks.{Sound}
use Rattle.bpf_verify.specs.LiftedState.{IsBelow, Edges, AreEdgesWithin, IsWithin, IsWithinState, with_kind}
use Rattle.bpf_verify.specs.Transfer.{is_register, with_narrowed, narrowed, branch, on_edge, compare}
use Rattle.bpf_verify.specs.declared.comparison.JumpCondition.{JumpCondition}
use Rattle.bpf_verify.specs.declared.abstract_state.AbstractState.{AbstractState}
use Rattle.bpf_verify.specs.declared.comparison.Edge.TheVariants.{Unchanged}
use Rattle.bpf_kinds.proofs.LowerLemmas.{IsLowerInterval}
use Rattle.bpf_verify.proofs.MonotoneChecks.{IsLower, lower_cases}
use Rattle.bpf_verify.proofs.MonotoneMemory.{with_kind_lower}

-- the states on the edges
abbrev pub EdgesBelow : Edges → Edges → Type 0
EdgesBelow higher lower = AreEdgesWithin lower higher

-- a lower state
module _ {higher lower : AbstractState} (below : IsBelow lower higher) where
  same_registers : length lower.registers ≡ length higher.registers
  same_registers = below.proper.count ∙ sym below.proper_higher.count

  with_narrowed_lower : (left : ℕ) (right : Source) (wider both : Narrowed) → interval.IsWithin both.left wider.left
      → interval.IsWithin both.right wider.right → IsWithinState (with_narrowed lower left right both) (with_narrowed higher left right wider)
  with_narrowed_lower left (Immediate immediate) wider both first second =
      with_kind_lower higher lower left (Number wider.left) (Number both.left) same_registers below.within first
  with_narrowed_lower left (Register right) wider both first second =
      with_kind_lower (with_kind higher left (Number wider.left)) (with_kind lower left (Number both.left)) right.number (Number wider.right)
      (Number both.right)
      (length-set lower.registers left (Number both.left) ∙ same_registers ∙ sym (length-set higher.registers left (Number wider.left)))
      (with_kind_lower higher lower left (Number wider.left) (Number both.left) same_registers below.within first) second

  branch_lower : (comparison : JumpCondition) {x y m n : Interval} → IsLowerInterval x m → IsLowerInterval y n → (taken : Bool)
      → IsWithin (on_edge lower comparison (branch comparison m n taken)) (on_edge higher comparison (branch comparison x y taken))
  branch_lower comparison {x} {y} {m} {n} first second taken = by_test (is_register comparison.left.number comparison.right)
    where
      by_refined : (found : Option Narrowed) → refine comparison.condition comparison.width m n taken ≡ found
          → IsWithin (on_edge lower comparison (narrowed found))
          (on_edge higher comparison (narrowed (refine comparison.condition comparison.width x y taken)))
      by_refined None found = tt
      by_refined (Some both) found =
          let there = refine_is_monotone comparison.condition comparison.width taken first second found in
          subst (λ (refined : Option Narrowed). IsWithin (on_edge lower comparison (narrowed (Some both)))
          (on_edge higher comparison (narrowed refined))) (sym there.1)
          (with_narrowed_lower comparison.left.number comparison.right there.0 both there.2 there.3)

      by_test : (one : Bool) → IsWithin (on_edge lower comparison
          (if one then Unchanged else narrowed (refine comparison.condition comparison.width m n taken)))
          (on_edge higher comparison (if one then Unchanged else narrowed (refine comparison.condition comparison.width x y taken)))
      by_test true = below.within
      by_test false = by_refined (refine comparison.condition comparison.width m n taken) refl

  pub compare_lower : (comparison : JumpCondition) (x y m n : Kind) → IsLower x m → IsLower y n
      → Sound EdgesBelow (compare higher comparison x y) (compare lower comparison m n)
  compare_lower comparison x y m n first second =
      lower_cases (λ x m. Sound EdgesBelow (compare higher comparison x y) (compare lower comparison m n))
      (λ x m first. lower_cases (λ y n. Sound EdgesBelow (compare higher comparison (Number x) y) (compare lower comparison (Number m) n))
      (λ y n second. record {
        next = branch_lower comparison first second false;
        target = branch_lower comparison first second true;
      })
      (λ y n are. tt) (λ y n are. tt) (λ n. tt) y n second)
      (λ x m are. tt) (λ x m are. tt) (λ m. tt) x m first
