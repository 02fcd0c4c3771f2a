-- The parts of a shape's code pass the verifier's checks.
use Rattle.std.proofs.Common.{◌≡◌, ℕ, ◌-◌, ◌/◌, ◌%◌, ◌^◌, ◌<◌, ℤ, Bool, true, false, [], ◌∷◌, Option, Some, None, Ok, refl}
use Rattle.std.proofs.Common.{ap, ◌∙◌, arith}
use Rattle.std.specs.Prelude.{FitsSigned, IfSome}
use Rattle.std.specs.Int.{w64, cast_signed, w32}
use Rattle.bpf_frame.specs.FrameMap.{unwritten}
use Rattle.bpf_insn.specs.Arithmetic.{immediate_operand, low_bits, wide_number}
use Rattle.bpf_insn.specs.Jump.{jump_distance}
use Rattle.bpf_insn.specs.declared.instruction.Condition.{Condition}
use Rattle.bpf_insn.specs.declared.instruction.Insn.{Insn}
use Rattle.bpf_insn.specs.declared.instruction.Operation.{Operation}
use Rattle.bpf_insn.specs.declared.instruction.Operation.TheVariants as operation
use Rattle.bpf_insn.specs.declared.instruction.Source.{Source}
use Rattle.bpf_insn.specs.declared.instruction.Source.TheVariants.{Immediate, Register}
use Rattle.bpf_insn.specs.declared.instruction.Width.TheVariants.{Bits64}
use Rattle.bpf_kinds.proofs.NarrowingLaws.{refined-within}
use Rattle.bpf_kinds.proofs.ResultLemmas.{alu-proper}
use Rattle.bpf_kinds.specs.Interval as interval
use Rattle.bpf_kinds.specs.Interval.{between, single}
use Rattle.bpf_kinds.specs.Narrowing.{refine}
use Rattle.bpf_kinds.specs.Results.{alu}
use Rattle.bpf_kinds.specs.declared.interval.Interval.{Interval}
use Rattle.bpf_kinds.specs.declared.kind.Kind.{Kind}
use Rattle.bpf_kinds.specs.declared.kind.Kind.TheVariants.{Number}
use Rattle.bpf_kinds.specs.declared.narrowing.Narrowed.{Narrowed}
use Rattle.bpf_verify.specs.LiftedState.{Edges, IsWithin, LiftedState, Unreached}
use Rattle.bpf_verify.specs.Transfer.{narrowed, on_edge, transfer}
use Rattle.cql2.specs.declared.filter.Comparison.{Comparison}
use Rattle.cql2_code.specs.Layout.{copy, from_argument_1, from_result, into_argument_1, into_result, wide_load}
use Rattle.cql2_code.specs.Question.{condition_of}
use Rattle.cql2_code.specs.ShapeCode.{combine, combine_number, compare, compare_number, from_end_latitude, from_end_longitude, from_first}
use Rattle.cql2_code.specs.ShapeCode.{from_second, from_side, from_start_latitude, from_start_longitude, into_first, into_second, into_side}
use Rattle.cql2_code.specs.Skipping.{Compared, skip}
use Rattle.cql2_code.proofs.AbstractState.{before, drawn}
use Rattle.cql2_code.proofs.Drawn.{AreNumbers, Draws, IsNumber, Nine, Skips, any_is, draws_one, holding, nine_numbers, nine_registers, numbers_within}
use Rattle.cql2_code.proofs.Operands.{operand_fits, wide_is}

-- all 64-bit numbers
abbrev pub full : Interval
full = between 0 (2 ^ 64 - 1)

pub full_proper : interval.IsProper full
full_proper = record { ordered = omega arith; fits = omega arith }

pub proper_is : (x : Interval) → interval.IsProper x → IsNumber (Number x)
proper_is x proper = let below = proper.fits in record { low = omega arith; high = omega arith }

one_proper : (n : ℕ) → n < 2 ^ 64 → interval.IsProper (single n)
one_proper n fits = record { ordered = omega arith; fits = fits }

numbers : {k0 k1 k2 k3 k4 k5 k7 k8 k9 : Kind} → IsNumber k0 → IsNumber k1 → IsNumber k2 → IsNumber k3 → IsNumber k4
    → IsNumber k5 → IsNumber k7 → IsNumber k8 → IsNumber k9
    → AreNumbers (record { k0 = k0; k1 = k1; k2 = k2; k3 = k3; k4 = k4; k5 = k5; k7 = k7; k8 = k8; k9 = k9 })
numbers i0 i1 i2 i3 i4 i5 i7 i8 i9 =
    record { k0 = i0; k1 = i1; k2 = i2; k3 = i3; k4 = i4; k5 = i5; k7 = i7; k8 = i8; k9 = i9 }

-- an instruction after which these numbers are known
draws : (insn : Insn) (nine : Nine) → before true insn ≡ drawn true → transfer (drawn true) insn ≡ Ok (record { next = holding nine; target = Unreached })
    → jump_distance insn ≡ None → AreNumbers nine → Draws (insn ∷ [])
draws insn nine needs is straight are = draws_one insn needs (record {
  after = holding nine;
  passes = ap (λ (state : LiftedState). transfer state insn) needs ∙ is;
  straight = straight;
  within = numbers_within nine are;
})

all_numbers : AreNumbers nine_numbers
all_numbers = numbers any_is any_is any_is any_is any_is any_is any_is any_is any_is

-- copies

pub copies_start_latitude_to_first : Draws (copy into_first from_start_latitude ∷ [])
copies_start_latitude_to_first = draws (copy into_first from_start_latitude) nine_numbers refl refl refl all_numbers

pub copies_end_latitude_to_first : Draws (copy into_first from_end_latitude ∷ [])
copies_end_latitude_to_first = draws (copy into_first from_end_latitude) nine_numbers refl refl refl all_numbers

pub copies_end_longitude_to_first : Draws (copy into_first from_end_longitude ∷ [])
copies_end_longitude_to_first = draws (copy into_first from_end_longitude) nine_numbers refl refl refl all_numbers

pub copies_argument_1_to_first : Draws (copy into_first from_argument_1 ∷ [])
copies_argument_1_to_first = draws (copy into_first from_argument_1) nine_numbers refl refl refl all_numbers

pub copies_start_longitude_to_second : Draws (copy into_second from_start_longitude ∷ [])
copies_start_longitude_to_second = draws (copy into_second from_start_longitude) nine_numbers refl refl refl all_numbers

pub copies_end_longitude_to_second : Draws (copy into_second from_end_longitude ∷ [])
copies_end_longitude_to_second = draws (copy into_second from_end_longitude) nine_numbers refl refl refl all_numbers

pub copies_end_latitude_to_second : Draws (copy into_second from_end_latitude ∷ [])
copies_end_latitude_to_second = draws (copy into_second from_end_latitude) nine_numbers refl refl refl all_numbers

pub copies_first_to_side : Draws (copy into_side from_first ∷ [])
copies_first_to_side = draws (copy into_side from_first) nine_numbers refl refl refl all_numbers

pub copies_first_to_result : Draws (copy into_result from_first ∷ [])
copies_first_to_result = draws (copy into_result from_first) nine_numbers refl refl refl all_numbers

-- operations on two registers

result_is : (operation : Operation) → IsNumber (Number (alu operation Bits64 full full))
result_is operation = proper_is _ (alu-proper operation Bits64 full full full_proper full_proper)

pub subtracts_second_from_first : Draws (combine operation.Subtract into_first from_second ∷ [])
subtracts_second_from_first = draws (combine operation.Subtract into_first from_second)
    (record nine_numbers { k3 = Number (alu operation.Subtract Bits64 full full) }) refl refl refl
    (numbers any_is any_is any_is (result_is operation.Subtract) any_is any_is any_is any_is any_is)

pub adds_second_to_first : Draws (combine operation.Add into_first from_second ∷ [])
adds_second_to_first = draws (combine operation.Add into_first from_second)
    (record nine_numbers { k3 = Number (alu operation.Add Bits64 full full) }) refl refl refl
    (numbers any_is any_is any_is (result_is operation.Add) any_is any_is any_is any_is any_is)

pub subtracts_start_longitude_from_first : Draws (combine operation.Subtract into_first from_start_longitude ∷ [])
subtracts_start_longitude_from_first = draws (combine operation.Subtract into_first from_start_longitude)
    (record nine_numbers { k3 = Number (alu operation.Subtract Bits64 full full) }) refl refl refl
    (numbers any_is any_is any_is (result_is operation.Subtract) any_is any_is any_is any_is any_is)

pub subtracts_start_longitude_from_second : Draws (combine operation.Subtract into_second from_start_longitude ∷ [])
subtracts_start_longitude_from_second = draws (combine operation.Subtract into_second from_start_longitude)
    (record nine_numbers { k4 = Number (alu operation.Subtract Bits64 full full) }) refl refl refl
    (numbers any_is any_is any_is any_is (result_is operation.Subtract) any_is any_is any_is any_is)

pub subtracts_start_latitude_from_second : Draws (combine operation.Subtract into_second from_start_latitude ∷ [])
subtracts_start_latitude_from_second = draws (combine operation.Subtract into_second from_start_latitude)
    (record nine_numbers { k4 = Number (alu operation.Subtract Bits64 full full) }) refl refl refl
    (numbers any_is any_is any_is any_is (result_is operation.Subtract) any_is any_is any_is any_is)

pub multiplies_first_by_start_latitude : Draws (combine operation.Multiply into_first from_start_latitude ∷ [])
multiplies_first_by_start_latitude = draws (combine operation.Multiply into_first from_start_latitude)
    (record nine_numbers { k3 = Number (alu operation.Multiply Bits64 full full) }) refl refl refl
    (numbers any_is any_is any_is (result_is operation.Multiply) any_is any_is any_is any_is any_is)

pub multiplies_second_by_start_longitude : Draws (combine operation.Multiply into_second from_start_longitude ∷ [])
multiplies_second_by_start_longitude = draws (combine operation.Multiply into_second from_start_longitude)
    (record nine_numbers { k4 = Number (alu operation.Multiply Bits64 full full) }) refl refl refl
    (numbers any_is any_is any_is any_is (result_is operation.Multiply) any_is any_is any_is any_is)

-- operations on a register and a number

by_number_is : (operation : Operation) (number : ℤ) → FitsSigned w64 number
    → IsNumber (Number (alu operation Bits64 full (single (immediate_operand number))))
by_number_is operation number fits =
    proper_is _ (alu-proper operation Bits64 full _ full_proper (one_proper (immediate_operand number) (operand_fits number fits)))

pub multiplies_first : (number : ℤ) → FitsSigned w64 number → Draws (combine_number operation.Multiply into_first number ∷ [])
multiplies_first number fits = draws (combine_number operation.Multiply into_first number)
    (record nine_numbers { k3 = Number (alu operation.Multiply Bits64 full (single (immediate_operand number))) }) refl refl refl
    (numbers any_is any_is any_is (by_number_is operation.Multiply number fits) any_is any_is any_is any_is any_is)

pub multiplies_second : (number : ℤ) → FitsSigned w64 number → Draws (combine_number operation.Multiply into_second number ∷ [])
multiplies_second number fits = draws (combine_number operation.Multiply into_second number)
    (record nine_numbers { k4 = Number (alu operation.Multiply Bits64 full (single (immediate_operand number))) }) refl refl refl
    (numbers any_is any_is any_is any_is (by_number_is operation.Multiply number fits) any_is any_is any_is any_is)

pub divides_first : (number : ℤ) → FitsSigned w64 number → Draws (combine_number operation.SignedDivide into_first number ∷ [])
divides_first number fits = draws (combine_number operation.SignedDivide into_first number)
    (record nine_numbers { k3 = Number (alu operation.SignedDivide Bits64 full (single (immediate_operand number))) }) refl refl refl
    (numbers any_is any_is any_is (by_number_is operation.SignedDivide number fits) any_is any_is any_is any_is any_is)

pub lowers_first : (number : ℤ) → FitsSigned w64 number → Draws (combine_number operation.Subtract into_first number ∷ [])
lowers_first number fits = draws (combine_number operation.Subtract into_first number)
    (record nine_numbers { k3 = Number (alu operation.Subtract Bits64 full (single (immediate_operand number))) }) refl refl refl
    (numbers any_is any_is any_is (by_number_is operation.Subtract number fits) any_is any_is any_is any_is any_is)

pub masks_first : (number : ℤ) → FitsSigned w64 number → Draws (combine_number operation.And into_first number ∷ [])
masks_first number fits = draws (combine_number operation.And into_first number)
    (record nine_numbers { k3 = Number (alu operation.And Bits64 full (single (immediate_operand number))) }) refl refl refl
    (numbers any_is any_is any_is (by_number_is operation.And number fits) any_is any_is any_is any_is any_is)

pub marks_argument_1 : (number : ℤ) → FitsSigned w64 number → Draws (combine_number operation.Or into_argument_1 number ∷ [])
marks_argument_1 number fits = draws (combine_number operation.Or into_argument_1 number)
    (record nine_numbers { k1 = Number (alu operation.Or Bits64 full (single (immediate_operand number))) }) refl refl refl
    (numbers any_is (by_number_is operation.Or number fits) any_is any_is any_is any_is any_is any_is any_is)

pub exchanges_argument_1 : (number : ℤ) → FitsSigned w64 number → Draws (combine_number operation.ExclusiveOr into_argument_1 number ∷ [])
exchanges_argument_1 number fits = draws (combine_number operation.ExclusiveOr into_argument_1 number)
    (record nine_numbers { k1 = Number (alu operation.ExclusiveOr Bits64 full (single (immediate_operand number))) }) refl refl refl
    (numbers any_is (by_number_is operation.ExclusiveOr number fits) any_is any_is any_is any_is any_is any_is any_is)

pub masks_argument_1 : (number : ℤ) → FitsSigned w64 number → Draws (combine_number operation.And into_argument_1 number ∷ [])
masks_argument_1 number fits = draws (combine_number operation.And into_argument_1 number)
    (record nine_numbers { k1 = Number (alu operation.And Bits64 full (single (immediate_operand number))) }) refl refl refl
    (numbers any_is (by_number_is operation.And number fits) any_is any_is any_is any_is any_is any_is any_is)

-- a number of 64 bits

abbrev wide : ℕ → ℕ
wide number = wide_number (cast_signed w32 (number % 2 ^ 32)) (cast_signed w32 (number / 2 ^ 32))

pub loads_second : (number : ℕ) → number < 2 ^ 64 → Draws (wide_load into_second number ∷ [])
loads_second number fits =
    let is = wide_is number fits in
    draws (wide_load into_second number) (record nine_numbers { k4 = Number (single (wide number)) }) refl refl refl
    (numbers any_is any_is any_is any_is (proper_is _ (one_proper (wide number) (omega arith))) any_is any_is any_is any_is)

-- comparisons

-- what a comparison implies for its operands if it holds, and if it doesn't
abbrev right_of : Source → Interval
right_of (Immediate number) = single (low_bits w64 (immediate_operand number))
right_of (Register register) = full

unfoldable implied : Condition → Source → Bool → Option Narrowed
implied condition right taken = refine condition Bits64 full (right_of right) taken

abbrev Narrow : Source → Option Narrowed → Type 0
Narrow right result = IfSome result (λ both. interval.IsWithin both.left full × interval.IsWithin both.right (right_of right))

implied_narrow : (condition : Condition) (right : Source) (taken : Bool) → Narrow right (implied condition right taken)
unfolding implied
implied_narrow condition right taken = refined-within condition Bits64 full (right_of right) taken (refine condition Bits64 full (right_of right) taken) refl

abbrev edge_by : Compared → Option Narrowed → LiftedState
edge_by compared result =
    on_edge (record { registers = nine_registers nine_numbers; frame = unwritten })
    (record { condition = condition_of compared.comparison; width = Bits64; left = compared.left; right = compared.right }) (narrowed result)

abbrev edge : Compared → Bool → LiftedState
edge compared taken = edge_by compared (implied (condition_of compared.comparison) compared.right taken)

abbrev edges_of : Compared → Edges
edges_of compared = record { next = edge compared false; target = edge compared true }

-- a comparison skips if the kinds of its operands stay numbers
skips : (compared : Compared) → ((words : ℕ) → before true (skip compared words) ≡ drawn true)
    → ((words : ℕ) → transfer (drawn true) (skip compared words) ≡ Ok (edges_of compared))
    → ((result : Option Narrowed) → Narrow compared.right result → IsWithin (edge_by compared result) (drawn true)) → Skips compared
skips compared needs transfers within = record {
  needs = needs;
  edges = edges_of compared;
  transfers = transfers;
  next = within _ (implied_narrow (condition_of compared.comparison) compared.right false);
  target = within _ (implied_narrow (condition_of compared.comparison) compared.right true);
}

module _ (comparison : Comparison) where
  first_second_edges : (words : ℕ) → transfer (drawn true) (skip (compare comparison from_first from_second) words)
      ≡ Ok (edges_of (compare comparison from_first from_second))
  unfolding implied
  first_second_edges words = refl

  first_second_within : (result : Option Narrowed) → Narrow (Register from_second) result
      → IsWithin (edge_by (compare comparison from_first from_second) result) (drawn true)
  first_second_within None narrow = tt
  first_second_within (Some both) narrow = numbers_within
      (record nine_numbers { k3 = Number both.left; k4 = Number both.right })
      (numbers any_is any_is any_is narrow.0 narrow.1 any_is any_is any_is any_is)

  pub first_second_skips : Skips (compare comparison from_first from_second)
  first_second_skips = skips (compare comparison from_first from_second) (λ words. refl) first_second_edges first_second_within

  side_second_edges : (words : ℕ) → transfer (drawn true) (skip (compare comparison from_side from_second) words)
      ≡ Ok (edges_of (compare comparison from_side from_second))
  unfolding implied
  side_second_edges words = refl

  side_second_within : (result : Option Narrowed) → Narrow (Register from_second) result
      → IsWithin (edge_by (compare comparison from_side from_second) result) (drawn true)
  side_second_within None narrow = tt
  side_second_within (Some both) narrow = numbers_within
      (record nine_numbers { k2 = Number both.left; k4 = Number both.right })
      (numbers any_is any_is narrow.0 any_is narrow.1 any_is any_is any_is any_is)

  pub side_second_skips : Skips (compare comparison from_side from_second)
  side_second_skips = skips (compare comparison from_side from_second) (λ words. refl) side_second_edges side_second_within

  first_result_edges : (words : ℕ) → transfer (drawn true) (skip (compare comparison from_first from_result) words)
      ≡ Ok (edges_of (compare comparison from_first from_result))
  unfolding implied
  first_result_edges words = refl

  first_result_within : (result : Option Narrowed) → Narrow (Register from_result) result
      → IsWithin (edge_by (compare comparison from_first from_result) result) (drawn true)
  first_result_within None narrow = tt
  first_result_within (Some both) narrow = numbers_within
      (record nine_numbers { k3 = Number both.left; k0 = Number both.right })
      (numbers narrow.1 any_is any_is narrow.0 any_is any_is any_is any_is any_is)

  pub first_result_skips : Skips (compare comparison from_first from_result)
  first_result_skips = skips (compare comparison from_first from_result) (λ words. refl) first_result_edges first_result_within

  side_result_edges : (words : ℕ) → transfer (drawn true) (skip (compare comparison from_side from_result) words)
      ≡ Ok (edges_of (compare comparison from_side from_result))
  unfolding implied
  side_result_edges words = refl

  side_result_within : (result : Option Narrowed) → Narrow (Register from_result) result
      → IsWithin (edge_by (compare comparison from_side from_result) result) (drawn true)
  side_result_within None narrow = tt
  side_result_within (Some both) narrow = numbers_within
      (record nine_numbers { k2 = Number both.left; k0 = Number both.right })
      (numbers narrow.1 any_is narrow.0 any_is any_is any_is any_is any_is any_is)

  pub side_result_skips : Skips (compare comparison from_side from_result)
  side_result_skips = skips (compare comparison from_side from_result) (λ words. refl) side_result_edges side_result_within

module _ (comparison : Comparison) (number : ℤ) where
  first_edges : (words : ℕ) → transfer (drawn true) (skip (compare_number comparison from_first number) words)
      ≡ Ok (edges_of (compare_number comparison from_first number))
  unfolding implied
  first_edges words = refl

  first_within : (result : Option Narrowed) → Narrow (Immediate number) result
      → IsWithin (edge_by (compare_number comparison from_first number) result) (drawn true)
  first_within None narrow = tt
  first_within (Some both) narrow = numbers_within
      (record nine_numbers { k3 = Number both.left })
      (numbers any_is any_is any_is narrow.0 any_is any_is any_is any_is any_is)

  pub first_skips : Skips (compare_number comparison from_first number)
  first_skips = skips (compare_number comparison from_first number) (λ words. refl) first_edges first_within

  start_longitude_edges : (words : ℕ) → transfer (drawn true) (skip (compare_number comparison from_start_longitude number) words)
      ≡ Ok (edges_of (compare_number comparison from_start_longitude number))
  unfolding implied
  start_longitude_edges words = refl

  start_longitude_within : (result : Option Narrowed) → Narrow (Immediate number) result
      → IsWithin (edge_by (compare_number comparison from_start_longitude number) result) (drawn true)
  start_longitude_within None narrow = tt
  start_longitude_within (Some both) narrow = numbers_within
      (record nine_numbers { k7 = Number both.left })
      (numbers any_is any_is any_is any_is any_is any_is narrow.0 any_is any_is)

  pub start_longitude_skips : Skips (compare_number comparison from_start_longitude number)
  start_longitude_skips = skips (compare_number comparison from_start_longitude number) (λ words. refl) start_longitude_edges start_longitude_within

  start_latitude_edges : (words : ℕ) → transfer (drawn true) (skip (compare_number comparison from_start_latitude number) words)
      ≡ Ok (edges_of (compare_number comparison from_start_latitude number))
  unfolding implied
  start_latitude_edges words = refl

  start_latitude_within : (result : Option Narrowed) → Narrow (Immediate number) result
      → IsWithin (edge_by (compare_number comparison from_start_latitude number) result) (drawn true)
  start_latitude_within None narrow = tt
  start_latitude_within (Some both) narrow = numbers_within
      (record nine_numbers { k8 = Number both.left })
      (numbers any_is any_is any_is any_is any_is any_is any_is narrow.0 any_is)

  pub start_latitude_skips : Skips (compare_number comparison from_start_latitude number)
  start_latitude_skips = skips (compare_number comparison from_start_latitude number) (λ words. refl) start_latitude_edges start_latitude_within

  end_longitude_edges : (words : ℕ) → transfer (drawn true) (skip (compare_number comparison from_end_longitude number) words)
      ≡ Ok (edges_of (compare_number comparison from_end_longitude number))
  unfolding implied
  end_longitude_edges words = refl

  end_longitude_within : (result : Option Narrowed) → Narrow (Immediate number) result
      → IsWithin (edge_by (compare_number comparison from_end_longitude number) result) (drawn true)
  end_longitude_within None narrow = tt
  end_longitude_within (Some both) narrow = numbers_within
      (record nine_numbers { k9 = Number both.left })
      (numbers any_is any_is any_is any_is any_is any_is any_is any_is narrow.0)

  pub end_longitude_skips : Skips (compare_number comparison from_end_longitude number)
  end_longitude_skips = skips (compare_number comparison from_end_longitude number) (λ words. refl) end_longitude_edges end_longitude_within

  end_latitude_edges : (words : ℕ) → transfer (drawn true) (skip (compare_number comparison from_end_latitude number) words)
      ≡ Ok (edges_of (compare_number comparison from_end_latitude number))
  unfolding implied
  end_latitude_edges words = refl

  end_latitude_within : (result : Option Narrowed) → Narrow (Immediate number) result
      → IsWithin (edge_by (compare_number comparison from_end_latitude number) result) (drawn true)
  end_latitude_within None narrow = tt
  end_latitude_within (Some both) narrow = numbers_within
      (record nine_numbers { k5 = Number both.left })
      (numbers any_is any_is any_is any_is any_is narrow.0 any_is any_is any_is)

  pub end_latitude_skips : Skips (compare_number comparison from_end_latitude number)
  end_latitude_skips = skips (compare_number comparison from_end_latitude number) (λ words. refl) end_latitude_edges end_latitude_within
