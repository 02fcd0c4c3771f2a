-- Conditional jumps are sound: the abstract state on the edge that is taken admits the state.
use Rattle.std.proofs.Common.{◌≡◌, ℕ, ℤ, Bool, true, false, Option, if◌then◌else◌, refl, sym, ap, subst, arith}
use Rattle.bpf_insn.specs.Arithmetic as arithmetic
use Rattle.bpf_insn.specs.Arithmetic.{operand_bits, low_bits, condition_holds}
use Rattle.bpf_insn.specs.declared.instruction.Condition.{Condition}
use Rattle.bpf_insn.specs.declared.instruction.Source.{Source}
use Rattle.bpf_insn.specs.declared.instruction.Source.TheVariants.{Immediate, Register}
use Rattle.bpf_insn.specs.declared.instruction.Width.{Width}
use Rattle.bpf_insn.specs.declared.instruction.Width.TheVariants.{Bits32, Bits64}
use Rattle.bpf_insn.specs.declared.register.Register.{Register as RegisterParts}
use Rattle.bpf_insn.specs.declared.value.Value.{Value}
use Rattle.bpf_insn.specs.declared.value.Value.TheVariants as value
use Rattle.bpf_kinds.specs.Interval.{IsProper, Admits, single}
use Rattle.bpf_kinds.specs.Kind as kind
use Rattle.bpf_kinds.specs.Narrowing.{refine}
use Rattle.bpf_kinds.specs.declared.interval.Interval.{Interval}
use Rattle.bpf_kinds.specs.declared.kind.Kind.{Kind}
use Rattle.bpf_kinds.specs.declared.kind.Kind.TheVariants.{Number}
use Rattle.bpf_kinds.specs.declared.narrowing.Narrowed.{Narrowed}
use Rattle.bpf_kinds.proofs.NarrowingLaws.{refine-still_admits}
use Rattle.bpf_meaning.specs.Effect as effect
use Rattle.bpf_meaning.specs.State.{register_value}
use Rattle.bpf_meaning.specs.declared.state.State.{State}
use Rattle.bpf_verify.specs.Transfer.{is_register, with_narrowed, narrowed, on_edge, edges_to, branch, compare}
use Rattle.bpf_verify.specs.LiftedState as lifted
use Rattle.bpf_verify.specs.declared.abstract_state.AbstractState.{AbstractState}
use Rattle.bpf_verify.specs.declared.comparison.JumpCondition.{JumpCondition}
use Rattle.bpf_verify.specs.LiftedState.{Edges}
use Rattle.bpf_verify.specs.declared.comparison.Edge.TheVariants.{Unchanged}
use Rattle.bpf_verify.specs.declared.successors.Successors.TheVariants.{Branch}
use Rattle.bpf_verify.proofs.SoundArithmetic.{low_twice}
use Rattle.bpf_meaning.specs.Checks.{Sound}
use Rattle.bpf_verify.proofs.SoundChecks.{HasNumber, HasState, IsReadOf}
use Rattle.bpf_verify.proofs.SoundStates.{narrowed_still_admits}

-- the abstract state on the edge that a comparison takes
abbrev pub TakesEdge : State → Edges → Bool → Type 0
TakesEdge state edges true = lifted.Admits edges.target state
TakesEdge state edges false = lifted.Admits edges.next state

-- the right operand, if it's a register, holds this number
abbrev RightHolds : State → Source → ℕ → Type 0
RightHolds state (Immediate immediate) n = Unit {0}
RightHolds state (Register register) n = register_value state register.number ≡ value.Number n

-- the operands of a comparison: numbers in these intervals
record Operands (state : State) (left : ℕ) (right : Source) (x y : Interval) (m n : ℕ) : Type 0 where
  first : HasNumber x m
  second : HasNumber y n
  on_left : register_value state left ≡ value.Number m
  on_right : RightHolds state right n

-- both edges, if the operands are numbers
abbrev edges_of : AbstractState → JumpCondition → Interval → Interval → Edges
edges_of known comparison x y = edges_to known (Branch comparison (branch comparison x y false) (branch comparison x y true))

-- an admitted state
module _ {known : AbstractState} {state : State} (has : HasState known state) where
  with_narrowed_admits : (left : ℕ) (right : Source) (both : Narrowed) {m n : ℕ} → register_value state left ≡ value.Number m
      → RightHolds state right n → Admits both.left m → Admits both.right n
      → lifted.AdmitsState (with_narrowed known left right both) state
  with_narrowed_admits left (Immediate immediate) both holds other first second =
      narrowed_still_admits known state has.admits left (Number both.left) (subst (kind.Admits (Number both.left)) (sym holds) first)
  with_narrowed_admits left (Register register) both holds other first second =
      narrowed_still_admits (lifted.with_kind known left (Number both.left)) state
      (narrowed_still_admits known state has.admits left (Number both.left) (subst (kind.Admits (Number both.left)) (sym holds) first))
      register.number (Number both.right) (subst (kind.Admits (Number both.right)) (sym other) second)

  -- an edge of a conditional jump
  branch_admits : (comparison : JumpCondition) {x y : Interval} {m n : ℕ} {taken : Bool}
      → Operands state comparison.left.number comparison.right x y m n → condition_holds comparison.condition comparison.width m n ≡ taken
      → lifted.Admits (on_edge known comparison (branch comparison x y taken)) state
  branch_admits comparison {x} {y} {taken} operands answer = by_test (is_register left right)
    where
      left : ℕ
      left = comparison.left.number

      right : Source
      right = comparison.right

      by_test : (same : Bool) → lifted.Admits (on_edge known comparison
          (if same then Unchanged else narrowed (refine comparison.condition comparison.width x y taken))) state
      by_test true = has.admits
      by_test false =
          let admitted = refine-still_admits comparison.condition comparison.width taken
          (record { left = operands.first.admits; right = operands.second.admits; answer = answer }) in
          subst (λ (refined : Option Narrowed). lifted.Admits (on_edge known comparison (narrowed refined)) state) (sym admitted.1)
          (with_narrowed_admits left right admitted.0 operands.on_left operands.on_right admitted.2 admitted.3)

  edges_take : (comparison : JumpCondition) {x y : Interval} {m n : ℕ}
      → Operands state comparison.left.number comparison.right x y m n
      → TakesEdge state (edges_of known comparison x y) (condition_holds comparison.condition comparison.width m n)
  edges_take comparison {x} {y} {m} {n} operands = by_answer (condition_holds comparison.condition comparison.width m n) refl
    where
      by_answer : (taken : Bool) → condition_holds comparison.condition comparison.width m n ≡ taken
          → TakesEdge state (edges_of known comparison x y) taken
      by_answer true answer = branch_admits comparison operands answer
      by_answer false answer = branch_admits comparison operands answer

-- An immediate is compared by its low bits.

single_admits : (n : ℕ) → Admits (single n) n
single_admits n = record { above = omega arith; below = omega arith }

low_proper : (width : Width) (n : ℕ) → IsProper (single (low_bits (operand_bits width) n))
low_proper Bits32 n = record { ordered = omega arith; fits = omega arith }
low_proper Bits64 n = record { ordered = omega arith; fits = omega arith }

condition_holds_low : (condition : Condition) (width : Width) (m n : ℕ) → condition_holds condition width m (low_bits (operand_bits width) n) ≡ condition_holds condition
    width m n
condition_holds_low condition width m n = ap (λ (k : ℕ). arithmetic.condition_holds_on condition (operand_bits width) (low_bits (operand_bits width) m) k)
    (low_twice width n)

abbrev pub with_source : Condition → Width → RegisterParts → Source → JumpCondition
with_source condition width left right = record { condition = condition; width = width; left = left; right = right }

-- a register's value is compared
module _ {known : AbstractState} {state : State} (has : HasState known state) (condition : Condition) (width : Width) (left : RegisterParts) where
  pub with_immediate : (immediate : ℤ) (x : Kind) (v : Value) → IsReadOf (register_value state left.number) x v
      → Sound (TakesEdge state)
      (compare known (with_source condition width left (Immediate immediate)) x
      (Number (single (low_bits (operand_bits width) (arithmetic.immediate_operand immediate)))))
      (effect.compare condition width v (value.Number (arithmetic.immediate_operand immediate)))
  with_immediate immediate (Number x) (value.Number m) first =
      let n = arithmetic.immediate_operand immediate in
      let low = low_bits (operand_bits width) n in
      subst (TakesEdge state (edges_of known (with_source condition width left (Immediate immediate)) x (single low)))
      (condition_holds_low condition width m n)
      (edges_take has (with_source condition width left (Immediate immediate))
      (record {
        first = record { proper = first.has.proper; admits = first.has.admits };
        second = record { proper = low_proper width n; admits = single_admits low };
        on_left = first.same;
        on_right = tt;
      }))
  with_immediate immediate (Number x) v first = absurd first.has.admits
  with_immediate immediate x v first = tt

  pub with_register : (right : RegisterParts) (x y : Kind) (v w : Value) → IsReadOf (register_value state left.number) x v
      → IsReadOf (register_value state right.number) y w
      → Sound (TakesEdge state) (compare known (with_source condition width left (Register right)) x y) (effect.compare condition width v w)
  with_register right (Number x) (Number y) (value.Number m) (value.Number n) first second =
      edges_take has (with_source condition width left (Register right))
      (record {
        first = record { proper = first.has.proper; admits = first.has.admits };
        second = record { proper = second.has.proper; admits = second.has.admits };
        on_left = first.same;
        on_right = second.same;
      })
  with_register right (Number x) (Number y) (value.Number m) w first second = absurd second.has.admits
  with_register right (Number x) (Number y) v w first second = absurd first.has.admits
  with_register right x y v w first second = tt
