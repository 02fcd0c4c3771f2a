-- Results are monotone: the result of an instruction on intervals lies within its result on wider ones. Only the narrower intervals must contain a
-- number, and no end must have 64 bits.
use Rattle.std.proofs.Common.{◌≡◌, ℕ, ◌+◌, ◌/◌, ◌^◌, ◌<◌, ◌≤◌, ◌==◌, ◌&&◌, false, if◌then◌else◌, subst, sym, arith}
use Rattle.std.proofs.Math.Nat.{mod-lt}
use Rattle.std.proofs.lemmas.Nat.{pow_pos}
use Rattle.std.proofs.lemmas.Bool.{cond_both, cond-false}
use Rattle.std.proofs.lemmas.Bool.Decides.{nat_tests}
use Rattle.std.specs.Int.{Width as Bits}
use mir.Val.{bits}
use Rattle.bpf_insn.specs.Arithmetic as arithmetic
use Rattle.bpf_insn.specs.Arithmetic.{operand_bits, low_bits, swap_bits, extension_of}
use Rattle.bpf_insn.specs.declared.instruction.Operation.{Operation}
use Rattle.bpf_insn.specs.declared.instruction.Operation.TheVariants.{Add, Subtract, Multiply, Divide, SignedDivide, Or, And, ShiftLeft}
use Rattle.bpf_insn.specs.declared.instruction.Operation.TheVariants.{ShiftRight, Modulo, SignedModulo, ExclusiveOr, Move}
use Rattle.bpf_insn.specs.declared.instruction.Operation.TheVariants.{ArithmeticShiftRight}
use Rattle.bpf_insn.specs.declared.instruction.Width.{Width}
use Rattle.bpf_insn.specs.declared.instruction.SignExtension.{SignExtension}
use Rattle.bpf_insn.specs.declared.instruction.ByteOrder.{ByteOrder}
use Rattle.bpf_insn.specs.declared.instruction.ByteOrder.TheVariants.{LittleEndian, BigEndian, Swapped}
use Rattle.bpf_insn.specs.declared.instruction.SwapWidth.{SwapWidth}
use Rattle.bpf_kinds.specs.Interval.{Admits, IsWithin, between, single, is_single, full, cut}
use Rattle.bpf_kinds.specs.Results.{operation_on, result_on, alu, negate, source_bits, target_bits, extend_low, extend_on, extend, reversal}
use Rattle.bpf_kinds.specs.Results.{byte_swap}
use Rattle.bpf_kinds.specs.declared.interval.Interval.{Interval}
use Rattle.bpf_kinds.proofs.HoldLemmas.{Holds, quotient_le, cut-holds}
use Rattle.bpf_kinds.proofs.AluLemmas.{some_bits, result_on-holds}
use Rattle.bpf_kinds.proofs.ResultLemmas.{least, operands_wide, alu-holds, negate-holds, extends, extend_low-holds}
use Rattle.bpf_kinds.proofs.ResultLemmas.{extend-holds, swap-fits, byte_swap-holds}
use Rattle.bpf_kinds.proofs.LowerLemmas.{IsLowerInterval}
use Rattle.bpf_kinds.proofs.MonotoneLemmas.{Covers, holds_low, within_held, within_same, within_full, full_within, if_single-within}
use Rattle.bpf_kinds.proofs.MonotoneLemmas.{sum_of-within, difference_of-within, product_of-within, quotient_of-within, remainder_of-within}
use Rattle.bpf_kinds.proofs.MonotoneLemmas.{and-within, or-within, exclusive_or-within, left_shift_of-within, right_shift_of-within}
use Rattle.bpf_kinds.proofs.MonotoneLemmas.{arithmetic_shift_of-within}

-- an interval that contains a number isn't empty
ordered_held : {limit : ℕ} (x : Interval) (n : ℕ) → Holds limit x n → x.low ≤ x.high
ordered_held x n held = omega arith

-- the ends of an interval are numbers in a wider one
low_admitted : (x a : Interval) → x.low ≤ x.high → IsWithin x a → Admits a x.low
low_admitted x a ordered within = record { above = within.low; below = omega arith }

high_admitted : (x a : Interval) → x.low ≤ x.high → IsWithin x a → Admits a x.high
high_admitted x a ordered within = record { above = omega arith; below = within.high }

-- low bits

pub cut_is_monotone : (w : Bits) (x a : Interval) → x.low ≤ x.high → IsWithin x a → IsWithin (cut w x) (cut w a)
cut_is_monotone w x a ordered within =
    let limit = 2 ^ bits w in
    let some : 0 < limit = pow_pos (bits w) in
    let below = quotient_le a.low x.low limit limit within.low some (omega arith) in
    let between_ends = quotient_le x.low x.high limit limit ordered some (omega arith) in
    let above = quotient_le x.high a.high limit limit within.high some (omega arith) in
    cond_both (x.low / limit == x.high / limit) (between (low_bits w x.low) (low_bits w x.high)) (full w) (λ z. IsWithin z (cut w a))
    (λ known. within_held (cut w a) _ _ (cut-holds w a x.low (low_admitted x a ordered within))
    (cut-holds w a x.high (high_admitted x a ordered within)))
    (λ unknown.
    let as_unknown : (a.low / limit == a.high / limit) ≡ false = grind (arith, nat_tests) in
    full_within w _ _ as_unknown)

pub cut_ordered : (w : Bits) (x : Interval) → x.low ≤ x.high → (cut w x).low ≤ (cut w x).high
cut_ordered w x ordered = ordered_held _ _ (cut-holds w x x.low (least x ordered))

cut_covers : (w : Bits) (x a : Interval) → x.low ≤ x.high → IsWithin x a → Covers (2 ^ bits w) (cut w a) (cut w x)
cut_covers w x a ordered within =
    let narrow = cut-holds w x x.low (least x ordered) in
    let wide = cut-holds w a x.low (low_admitted x a ordered within) in
    let is_monotone = cut_is_monotone w x a ordered within in
    record { ordered = ordered_held (cut w x) _ narrow; low = is_monotone.low; high = is_monotone.high; fits = wide.fits }

-- operations

operation_on-within : (operation : Operation) (width : Width) (x y a b : Interval) → Covers (2 ^ bits (operand_bits width)) a x
    → Covers (2 ^ bits (operand_bits width)) b y → IsWithin (operation_on operation (operand_bits width) x y)
    (operation_on operation (operand_bits width) a b)
operation_on-within Add width x y a b left right = sum_of-within (operand_bits width) x y a b left right
operation_on-within Subtract width x y a b left right = difference_of-within (operand_bits width) x y a b left right
operation_on-within Multiply width x y a b left right = product_of-within (operand_bits width) x y a b left right
operation_on-within Divide width x y a b left right = quotient_of-within x y a b left right
operation_on-within SignedDivide width x y a b left right = within_same (full (operand_bits width))
operation_on-within Or width x y a b left right = or-within x y a b (operands_wide width) left right
operation_on-within And width x y a b left right = and-within x y a b left right
operation_on-within ShiftLeft width x y a b left right = left_shift_of-within (operand_bits width) x y a b (some_bits width) left right
operation_on-within ShiftRight width x y a b left right = right_shift_of-within (operand_bits width) x y a b left right
operation_on-within Modulo width x y a b left right = remainder_of-within x y a b left right
operation_on-within SignedModulo width x y a b left right = within_same (full (operand_bits width))
operation_on-within ExclusiveOr width x y a b left right = exclusive_or-within x y a b (operands_wide width) left right
operation_on-within Move width x y a b left right = record { low = right.low; high = right.high }
operation_on-within ArithmeticShiftRight width x y a b left right = arithmetic_shift_of-within width x y a b left right

result_on-within : (operation : Operation) (width : Width) (x y a b : Interval) → Covers (2 ^ bits (operand_bits width)) a x
    → Covers (2 ^ bits (operand_bits width)) b y → IsWithin (result_on operation (operand_bits width) x y)
    (result_on operation (operand_bits width) a b)
result_on-within operation width x y a b left right =
    let w = operand_bits width in
    let result = result_on operation w a b in
    let number = arithmetic.operation_on operation w x.low y.low in
    cond_both (is_single x && is_single y) (single number) (operation_on operation w x y) (λ z. IsWithin z result)
    (λ known.
    let held = result_on-holds operation width a b x.low y.low (holds_low a x left) (holds_low b y right) in
    within_held result number number held held)
    (λ unknown.
    let as_unknown : (is_single a && is_single b) ≡ false = grind (arith, nat_tests) in
    let P : Interval → Type 0 = λ z. IsWithin (operation_on operation w x y) z in
    subst P (sym (cond-false _ _ _ as_unknown)) (operation_on-within operation width x y a b left right))

pub alu_is_monotone : (operation : Operation) (width : Width) {x y a b : Interval} → IsLowerInterval a x → IsLowerInterval b y
    → IsWithin (alu operation width x y) (alu operation width a b)
alu_is_monotone operation width {x} {y} {a} {b} left right =
    let w = operand_bits width in
    result_on-within operation width (cut w x) (cut w y) (cut w a) (cut w b) (cut_covers w x a left.ordered left.within)
    (cut_covers w y b right.ordered right.within)

pub alu_ordered : (operation : Operation) (width : Width) (x y : Interval) → x.low ≤ x.high → y.low ≤ y.high
    → (alu operation width x y).low ≤ (alu operation width x y).high
alu_ordered operation width x y x_ordered y_ordered =
    ordered_held _ _ (alu-holds operation width x y x.low y.low (least x x_ordered) (least y y_ordered))

-- what is known only for one number

if_known-within : {limit : ℕ} (w : Bits) (f : ℕ → ℕ) (x a : Interval) → ((n : ℕ) → f n < 2 ^ bits w) → Covers limit a x
    → IsWithin (if is_single x then single (f x.low) else full w) (if is_single a then single (f a.low) else full w)
if_known-within w f x a fits covers =
    if_single-within covers (record {
      both = λ is.
          let same : x.low ≡ a.low = omega arith in
          let P : ℕ → Type 0 = λ k. IsWithin (single (f x.low)) (single (f k)) in
          subst P same (within_same (single (f x.low)));
      one = λ is. within_full w _ (fits x.low);
      neither = within_same (full w);
    })

pub negate_is_monotone : (width : Width) (x a : Interval) → x.low ≤ x.high → IsWithin x a → IsWithin (negate width x) (negate width a)
negate_is_monotone width x a ordered within =
    let w = operand_bits width in
    if_known-within w (arithmetic.negate width) (cut w x) (cut w a) (λ n. mod-lt _ (pow_pos (bits w))) (cut_covers w x a ordered within)

pub negate_ordered : (width : Width) (x : Interval) → x.low ≤ x.high → (negate width x).low ≤ (negate width x).high
negate_ordered width x ordered = ordered_held _ _ (negate-holds width x x.low (least x ordered))

-- sign extension

extend_low-within : (from to : Bits) (x a : Interval) → 2 ^ bits from ≤ 2 ^ bits to → Covers (2 ^ bits from) a x
    → IsWithin (extend_low from to x) (extend_low from to a)
extend_low-within from to x a wide covers = record { low = grind (arith, nat_tests); high = grind (arith, nat_tests) }

extend_on-within : (extension : SignExtension) (x a : Interval) → Covers (2 ^ bits (target_bits extension)) a x
    → IsWithin (extend_on extension x) (extend_on extension a)
extend_on-within extension x a covers =
    let from = source_bits extension in
    let to = target_bits extension in
    let within : IsWithin x a = record { low = covers.low; high = covers.high } in
    let number = extension_of extension x.low in
    if_single-within covers (record {
      both = λ is.
          let same : x.low ≡ a.low = omega arith in
          let P : ℕ → Type 0 = λ k. IsWithin (single number) (single (extension_of extension k)) in
          subst P same (within_same (single number));
      one = λ is.
          let ends = extend_low from to (cut from a) in
          let held = extend_low-holds extension (cut from a) (low_bits from x.low)
          (cut-holds from a x.low (low_admitted x a covers.ordered within)) in
          let P : ℕ → Type 0 = λ k. IsWithin (single k) ends in
          subst P (sym ((extends extension).is x.low)) (within_held ends _ _ held held);
      neither = extend_low-within from to (cut from x) (cut from a) (extends extension).wider (cut_covers from x a covers.ordered within);
    })

pub extend_is_monotone : (extension : SignExtension) (x a : Interval) → x.low ≤ x.high → IsWithin x a
    → IsWithin (extend extension x) (extend extension a)
extend_is_monotone extension x a ordered within =
    let to = target_bits extension in
    extend_on-within extension (cut to x) (cut to a) (cut_covers to x a ordered within)

pub extend_ordered : (extension : SignExtension) (x : Interval) → x.low ≤ x.high → (extend extension x).low ≤ (extend extension x).high
extend_ordered extension x ordered = ordered_held _ _ (extend-holds extension x x.low (least x ordered))

-- byte swaps

reversal-within : (order : ByteOrder) (width : SwapWidth) (x a : Interval) → x.low ≤ x.high → IsWithin x a
    → IsWithin (reversal order width x) (reversal order width a)
reversal-within order width x a ordered within =
    let covers : Covers (a.high + 1) a x = record { ordered = ordered; low = within.low; high = within.high; fits = omega arith } in
    if_known-within (swap_bits width) (arithmetic.byte_swap order width) x a (swap-fits order width) covers

pub byte_swap_is_monotone : (order : ByteOrder) (width : SwapWidth) (x a : Interval) → x.low ≤ x.high → IsWithin x a
    → IsWithin (byte_swap order width x) (byte_swap order width a)
byte_swap_is_monotone LittleEndian width x a ordered within = cut_is_monotone (swap_bits width) x a ordered within
byte_swap_is_monotone BigEndian width x a ordered within = reversal-within BigEndian width x a ordered within
byte_swap_is_monotone Swapped width x a ordered within = reversal-within Swapped width x a ordered within

pub byte_swap_ordered : (order : ByteOrder) (width : SwapWidth) (x : Interval) → x.low ≤ x.high
    → (byte_swap order width x).low ≤ (byte_swap order width x).high
byte_swap_ordered order width x ordered = ordered_held _ _ (byte_swap-holds order width x x.low (least x ordered))
