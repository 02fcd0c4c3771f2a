-- The instructions of arithmetic pass the verifier's checks.
use Rattle.std.proofs.Common.{◌≡◌, ℕ, zero, suc, ◌-◌, ◌<◌, ◌^◌, ℤ, Bool, true, false, [], ◌∷◌, None, Ok, if◌then◌else◌, refl, sym, subst, arith}
use Rattle.std.specs.Prelude.{FitsSigned}
use Rattle.std.specs.Int.{w64}
use Rattle.bpf_frame.specs.FrameMap as map
use Rattle.bpf_frame.specs.OrderLaws as maps
use Rattle.bpf_insn.specs.Arithmetic.{immediate_operand}
use Rattle.bpf_insn.specs.Jump.{jump_distance}
use Rattle.bpf_insn.specs.declared.instruction.Insn.{Insn}
use Rattle.bpf_insn.specs.declared.instruction.Insn.TheVariants.{Negate}
use Rattle.bpf_insn.specs.declared.instruction.Source.TheVariants.{Immediate, Register}
use Rattle.bpf_insn.specs.declared.instruction.Width.TheVariants.{Bits64}
use Rattle.bpf_kinds.proofs.KindLemmas as kinds
use Rattle.bpf_kinds.proofs.ResultLemmas.{alu-proper, negate-proper}
use Rattle.bpf_kinds.specs.Interval as interval
use Rattle.bpf_kinds.specs.Interval.{between, single}
use Rattle.bpf_kinds.specs.Kind as kind
use Rattle.bpf_kinds.specs.Results.{alu, negate}
use Rattle.bpf_kinds.specs.declared.interval.Interval.{Interval}
use Rattle.bpf_kinds.specs.declared.kind.Kind.TheVariants.{Number}
use Rattle.bpf_verify.specs.LiftedState.{Unreached}
use Rattle.bpf_verify.specs.Transfer.{transfer}
use Rattle.cql2.specs.declared.expression.Operator.{Operator}
use Rattle.cql2.specs.declared.expression.Operator.TheVariants.{Add, Subtract, Multiply, Divide, Remainder}
use Rattle.cql2_code.specs.Expressions.{operate, operation_of, set_literal, combine_saved, combine_literal}
use Rattle.cql2_code.specs.Layout.{copy, from_argument_1, from_saved, from_result, into_argument_1, into_saved, into_result, is_narrow, move, wide_load}
use Rattle.cql2_code.proofs.AbstractState.{Held, KnowsMore, answered, any_number, before, compared, forgets, given_any, knowing}
use Rattle.cql2_code.proofs.AbstractState.{nothing, resting}
use Rattle.cql2_code.proofs.Operands.{operand_fits, wide_is}
use Rattle.cql2_code.proofs.Passes.{AllPass, Passes, needed_by, passes, passes_copy_0, passes_wide_load_1}

-- all 64-bit numbers
abbrev full : Interval
full = between 0 (2 ^ 64 - 1)

full_proper : interval.IsProper full
full_proper = record { ordered = omega arith; fits = omega arith }

proper_within : (x : Interval) → interval.IsProper x → kind.IsWithin (Number x) any_number
proper_within x proper = let below = proper.fits in record { low = omega arith; high = omega arith }

literal_proper : (literal : ℤ) → FitsSigned w64 literal → interval.IsProper (single (immediate_operand literal))
literal_proper literal fits = record { ordered = omega arith; fits = operand_fits literal fits }

-- an operation's result is known to be a number
abbrev result_by_register : Operator → Held
result_by_register operator = record nothing { v0 = Number (alu (operation_of operator) Bits64 full full); v1 = any_number }

abbrev result_by_literal : Operator → ℤ → Held
result_by_literal operator literal =
    record nothing { v0 = Number (alu (operation_of operator) Bits64 full (single (immediate_operand literal))) }

module _ (keeps : Bool) where
  before_register : (operator : Operator) → before keeps (operate operator (Register from_argument_1)) ≡ compared keeps
  before_register Add = refl
  before_register Subtract = refl
  before_register Multiply = refl
  before_register Divide = refl
  before_register Remainder = refl

  before_literal : (operator : Operator) (literal : ℤ) → before keeps (operate operator (Immediate literal)) ≡ answered keeps
  before_literal Add literal = refl
  before_literal Subtract literal = refl
  before_literal Multiply literal = refl
  before_literal Divide literal = refl
  before_literal Remainder literal = refl

  register_transfers : (operator : Operator)
      → transfer (before keeps (operate operator (Register from_argument_1))) (operate operator (Register from_argument_1))
      ≡ Ok (record { next = knowing keeps (result_by_register operator); target = Unreached })
  register_transfers Add = refl
  register_transfers Subtract = refl
  register_transfers Multiply = refl
  register_transfers Divide = refl
  register_transfers Remainder = refl

  literal_transfers : (operator : Operator) (literal : ℤ)
      → transfer (before keeps (operate operator (Immediate literal))) (operate operator (Immediate literal))
      ≡ Ok (record { next = knowing keeps (result_by_literal operator literal); target = Unreached })
  literal_transfers Add literal = refl
  literal_transfers Subtract literal = refl
  literal_transfers Multiply literal = refl
  literal_transfers Divide literal = refl
  literal_transfers Remainder literal = refl

  register_passes : (operator : Operator) → Passes keeps (operate operator (Register from_argument_1)) (answered keeps)
  register_passes operator =
      passes keeps (operate operator (Register from_argument_1)) (result_by_register operator) (record nothing { v0 = any_number })
      (register_transfers operator) refl
      (record {
        v0 = proper_within _ (alu-proper (operation_of operator) Bits64 full full full_proper full_proper);
        v1 = tt;
        v2 = tt;
        v3 = tt;
        frame = maps.reflexive map.unwritten;
      })

  immediate_passes : (operator : Operator) (literal : ℤ) → FitsSigned w64 literal
      → Passes keeps (operate operator (Immediate literal)) (answered keeps)
  immediate_passes operator literal fits =
      passes keeps (operate operator (Immediate literal)) (result_by_literal operator literal) (record nothing { v0 = any_number })
      (literal_transfers operator literal) refl
      (record {
        v0 = proper_within _ (alu-proper (operation_of operator) Bits64 full _ full_proper (literal_proper literal fits));
        v1 = tt;
        v2 = tt;
        v3 = tt;
        frame = maps.reflexive map.unwritten;
      })

  -- an operation on a literal, by whether an immediate holds it
  pub literal_passes : (operator : Operator) (literal : ℤ) → FitsSigned w64 literal
      → AllPass keeps (combine_literal operator literal) (answered keeps)
  literal_passes operator literal fits = by_size (is_narrow literal)
    where
      number : ℕ
      number = immediate_operand literal

      by_size : (narrow : Bool) → AllPass keeps (if narrow then operate operator (Immediate literal) ∷ []
          else wide_load into_argument_1 number ∷ operate operator (Register from_argument_1) ∷ []) (answered keeps)
      by_size true = (immediate_passes operator literal fits, tt)
      by_size false = (
        subst (Passes keeps (wide_load into_argument_1 number)) (sym (before_register operator))
            (passes_wide_load_1 keeps number (operand_fits literal fits)),
        (register_passes operator, tt),
      )

  pub literal_needs : (operator : Operator) (literal : ℤ) → needed_by keeps (combine_literal operator literal) (answered keeps) ≡ answered keeps
  literal_needs operator literal = by_size (is_narrow literal)
    where
      by_size : (narrow : Bool) → needed_by keeps (if narrow then operate operator (Immediate literal) ∷ []
          else wide_load into_argument_1 (immediate_operand literal) ∷ operate operator (Register from_argument_1) ∷ []) (answered keeps)
          ≡ answered keeps
      by_size true = before_literal operator literal
      by_size false = refl

  -- a literal is put into register 0
  pub set_passes : (literal : ℤ) → FitsSigned w64 literal → Passes keeps (set_literal literal) (answered keeps)
  set_passes literal fits = by_size (is_narrow literal)
    where
      number : ℕ
      number = immediate_operand literal

      sets : (insn : Insn) (n : ℕ) → n < 2 ^ 64
          → (let held : Held = record nothing { v0 = Number (single n) } in
          transfer (before keeps insn) insn ≡ Ok (record { next = knowing keeps held; target = Unreached }))
          → jump_distance insn ≡ None → Passes keeps insn (answered keeps)
      sets insn n small is straight =
          passes keeps insn (record nothing { v0 = Number (single n) }) (record nothing { v0 = any_number }) is straight
          (record {
            v0 = proper_within _ (record { ordered = omega arith; fits = small });
            v1 = tt;
            v2 = tt;
            v3 = tt;
            frame = maps.reflexive map.unwritten;
          })

      by_size : (narrow : Bool) → Passes keeps (if narrow then move into_result literal else wide_load into_result number) (answered keeps)
      by_size true = sets (move into_result literal) number (operand_fits literal fits) refl refl
      by_size false =
          let is = wide_is number (operand_fits literal fits) in
          sets (wide_load into_result number) _ (let fits = operand_fits literal fits in omega arith) refl refl

  pub set_rests : (literal : ℤ) → before keeps (set_literal literal) ≡ resting keeps
  set_rests literal = by_size (is_narrow literal)
    where
      by_size : (narrow : Bool)
          → before keeps (if narrow then move into_result literal else wide_load into_result (immediate_operand literal)) ≡ resting keeps
      by_size true = refl
      by_size false = refl

  -- register 0 is negated
  pub negate_passes : Passes keeps (Negate Bits64 into_result) (answered keeps)
  negate_passes =
      passes keeps (Negate Bits64 into_result) (record nothing { v0 = Number (negate Bits64 full) }) (record nothing { v0 = any_number }) refl refl
      (record {
        v0 = proper_within _ (negate-proper Bits64 full full_proper);
        v1 = tt;
        v2 = tt;
        v3 = tt;
        frame = maps.reflexive map.unwritten;
      })

  pub before_keeping : (level : ℕ) → before keeps (copy (into_saved level) from_result) ≡ answered keeps
  before_keeping zero = refl
  before_keeping (suc zero) = refl
  before_keeping (suc (suc level)) = refl

-- a program that keeps numbers may keep register 0, and read a number that it saved

keeping_transfers : (level : ℕ) → (let held : Held = record nothing { v0 = any_number } in
    transfer (before true (copy (into_saved level) from_result)) (copy (into_saved level) from_result)
    ≡ Ok (record { next = knowing true held; target = Unreached }))
keeping_transfers zero = refl
keeping_transfers (suc zero) = refl
keeping_transfers (suc (suc level)) = refl

pub keeping_passes : (level : ℕ) → Passes true (copy (into_saved level) from_result) (resting true)
keeping_passes level =
    let held : Held = record nothing { v0 = any_number } in
    passes true (copy (into_saved level) from_result) held nothing (keeping_transfers level) refl (forgets held)

both_known : KnowsMore (record nothing { v0 = any_number; v1 = any_number }) (record nothing { v0 = any_number; v1 = any_number })
both_known = record {
  v0 = kinds.reflexive any_number;
  v1 = kinds.reflexive any_number;
  v2 = tt;
  v3 = tt;
  frame = maps.reflexive map.unwritten;
}

reading_passes : (level : ℕ) → Passes true (copy into_result (from_saved level)) (compared true)
reading_passes zero = passes true (copy into_result (from_saved 0)) _ (record nothing { v0 = any_number; v1 = any_number }) refl refl both_known
reading_passes (suc zero) =
    passes true (copy into_result (from_saved 1)) _ (record nothing { v0 = any_number; v1 = any_number }) refl refl both_known
reading_passes (suc (suc level)) =
    passes true (copy into_result (from_saved 2)) _ (record nothing { v0 = any_number; v1 = any_number }) refl refl both_known

before_reading : (level : ℕ) → before true (copy into_result (from_saved level)) ≡ given_any true
before_reading zero = refl
before_reading (suc zero) = refl
before_reading (suc (suc level)) = refl

pub saved_passes : (operator : Operator) (level : ℕ) → AllPass true (combine_saved operator level) (answered true)
saved_passes operator level = (
  subst (Passes true (copy into_argument_1 from_result)) (sym (before_reading level)) (passes_copy_0 true),
  (
    subst (Passes true (copy into_result (from_saved level))) (sym (before_register true operator)) (reading_passes level),
    (register_passes true operator, tt),
  ),
)
