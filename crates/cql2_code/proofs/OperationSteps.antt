-- What a run does at the instructions of arithmetic.
use Rattle.std.proofs.Common.{◌≡◌, ℕ, zero, suc, ℤ, Bool, true, false, List, [], ◌∷◌, if◌then◌else◌, refl, subst}
use Rattle.std.specs.Prelude.{FitsSigned}
use Rattle.std.specs.Int.{w64}
use Rattle.bpf_insn.specs.Arithmetic.{immediate_operand, negate, result_of}
use Rattle.bpf_insn.specs.declared.instruction.Insn.{Insn}
use Rattle.bpf_insn.specs.declared.instruction.Insn.TheVariants.{Negate}
use Rattle.bpf_insn.specs.declared.instruction.Source.TheVariants.{Immediate, Register}
use Rattle.bpf_insn.specs.declared.instruction.Width.TheVariants.{Bits64}
use Rattle.bpf_insn.specs.declared.value.Value.{Value}
use Rattle.bpf_insn.specs.declared.value.Value.TheVariants as value
use Rattle.bpf_meaning.specs.declared.effect.Change.TheVariants.{SetRegister}
use Rattle.cql2.specs.declared.expression.Operator.{Operator}
use Rattle.cql2.specs.declared.expression.Operator.TheVariants.{Add, Subtract, Multiply, Divide, Remainder}
use Rattle.cql2_code.specs.Expressions.{operate, operation_of, set_literal, combine_literal}
use Rattle.cql2_code.specs.Layout.{copy, from_argument_1, from_saved, into_argument_1, into_result, is_narrow, move, wide_load}
use Rattle.cql2_code.proofs.Operands.{operand_fits, wide_is}
use Rattle.cql2_code.proofs.Steps.{with_0, with_1, Does, Runs, Scratch, Setting, changes, loads_wide_1, no_more, one_more}

-- what is saved at a level
abbrev pub saved_at : ℕ → Scratch → Value
saved_at zero scratch = scratch.v7
saved_at (suc zero) scratch = scratch.v8
saved_at (suc (suc level)) scratch = scratch.v9

module _ (on : Setting) where
  -- a number that was saved is read
  pub reads_saved : (level : ℕ) (from : Scratch) (number : ℕ) → saved_at level from ≡ value.Number number
      → Does on (copy into_result (from_saved level)) from (with_0 from number)
  reads_saved zero from number is =
      changes on (copy into_result (from_saved 0)) (SetRegister into_result (value.Number number)) from (with_0 from number)
      (λ place. rw is) (λ place next. refl)
  reads_saved (suc zero) from number is =
      changes on (copy into_result (from_saved 1)) (SetRegister into_result (value.Number number)) from (with_0 from number)
      (λ place. rw is) (λ place next. refl)
  reads_saved (suc (suc level)) from number is =
      changes on (copy into_result (from_saved 2)) (SetRegister into_result (value.Number number)) from (with_0 from number)
      (λ place. rw is) (λ place next. refl)

  -- registers 0 and 1 are combined
  pub combines : (operator : Operator) (from : Scratch) (x y : ℕ)
      → (let both : Scratch = with_0 (with_1 from y) x in
      Does on (operate operator (Register from_argument_1)) both (with_0 both (result_of (operation_of operator) Bits64 x y)))
  combines Add from x y = changes on _ (SetRegister into_result (value.Number _)) _ _ (λ place. refl) (λ place next. refl)
  combines Subtract from x y = changes on _ (SetRegister into_result (value.Number _)) _ _ (λ place. refl) (λ place next. refl)
  combines Multiply from x y = changes on _ (SetRegister into_result (value.Number _)) _ _ (λ place. refl) (λ place next. refl)
  combines Divide from x y = changes on _ (SetRegister into_result (value.Number _)) _ _ (λ place. refl) (λ place next. refl)
  combines Remainder from x y = changes on _ (SetRegister into_result (value.Number _)) _ _ (λ place. refl) (λ place next. refl)

  -- register 0 and an immediate
  pub combines_immediate : (operator : Operator) (from : Scratch) (x : ℕ) (literal : ℤ)
      → Does on (operate operator (Immediate literal)) (with_0 from x)
      (with_0 from (result_of (operation_of operator) Bits64 x (immediate_operand literal)))
  combines_immediate Add from x literal = changes on _ (SetRegister into_result (value.Number _)) _ _ (λ place. refl) (λ place next. refl)
  combines_immediate Subtract from x literal = changes on _ (SetRegister into_result (value.Number _)) _ _ (λ place. refl) (λ place next. refl)
  combines_immediate Multiply from x literal = changes on _ (SetRegister into_result (value.Number _)) _ _ (λ place. refl) (λ place next. refl)
  combines_immediate Divide from x literal = changes on _ (SetRegister into_result (value.Number _)) _ _ (λ place. refl) (λ place next. refl)
  combines_immediate Remainder from x literal = changes on _ (SetRegister into_result (value.Number _)) _ _ (λ place. refl) (λ place next. refl)

  -- register 0 is negated
  pub negates : (from : Scratch) (x : ℕ) → Does on (Negate Bits64 into_result) (with_0 from x) (with_0 from (negate Bits64 x))
  negates from x = changes on _ (SetRegister into_result (value.Number _)) _ _ (λ place. refl) (λ place next. refl)

  loads_literal : (from : Scratch) (literal : ℤ) → FitsSigned w64 literal
      → Does on (wide_load into_argument_1 (immediate_operand literal)) from (with_1 from (immediate_operand literal))
  loads_literal from literal fits =
      subst (λ (n : ℕ). Does on (wide_load into_argument_1 (immediate_operand literal)) from (with_1 from n))
      (wide_is (immediate_operand literal) (operand_fits literal fits)) (loads_wide_1 on from _ _)

  -- a literal is put into register 0
  pub sets_literal : (from : Scratch) (literal : ℤ) → FitsSigned w64 literal
      → Does on (set_literal literal) from (with_0 from (immediate_operand literal))
  sets_literal from literal fits = by_size (is_narrow literal)
    where
      number : ℕ
      number = immediate_operand literal

      by_size : (narrow : Bool) → Does on (if narrow then move into_result literal else wide_load into_result number) from (with_0 from number)
      by_size true = changes on _ (SetRegister into_result (value.Number number)) _ _ (λ place. refl) (λ place next. refl)
      by_size false =
          subst (λ (n : ℕ). Does on (wide_load into_result number) from (with_0 from n)) (wide_is number (operand_fits literal fits))
          (changes on _ (SetRegister into_result (value.Number _)) _ _ (λ place. refl) (λ place next. refl))

  -- register 0 and a literal are combined; register 1 may change
  pub record Combines (operator : Operator) (literal : ℤ) (from : Scratch) (x : ℕ) : Type 0 where
    pub argument : Value
    pub runs : (let to : Scratch = record from { v1 = argument } in
        Runs on (combine_literal operator literal) (with_0 from x)
        (with_0 to (result_of (operation_of operator) Bits64 x (immediate_operand literal))))

  pub combines_literal : (operator : Operator) (literal : ℤ) (from : Scratch) (x : ℕ) → FitsSigned w64 literal
      → Combines operator literal from x
  combines_literal operator literal from x fits = record { argument = argument_of (is_narrow literal); runs = runs_of (is_narrow literal) }
    where
      number : ℕ
      number = immediate_operand literal

      code_of : Bool → List Insn
      code_of narrow = if narrow then operate operator (Immediate literal) ∷ []
          else wide_load into_argument_1 number ∷ operate operator (Register from_argument_1) ∷ []

      argument_of : Bool → Value
      argument_of narrow = if narrow then from.v1 else value.Number number

      runs_of : (narrow : Bool) → (let to : Scratch = record from { v1 = argument_of narrow } in
          Runs on (code_of narrow) (with_0 from x) (with_0 to (result_of (operation_of operator) Bits64 x number)))
      runs_of true = one_more (combines_immediate operator from x literal) no_more
      runs_of false = one_more (loads_literal (with_0 from x) literal fits) (one_more (combines operator from x number) no_more)
