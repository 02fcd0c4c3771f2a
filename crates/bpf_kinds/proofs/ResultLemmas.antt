-- The interval that results from intervals admits the results of the numbers in them. It is proper if they are.
use Rattle.std.proofs.Common.{◌≡◌, ℕ, ℤ, pos, negsuc, suc, ◌-◌, ◌%◌, ◌^◌, ◌<◌, ◌≤◌, FitsSigned, w16, w32, w64, nat_lt, subst, sym, ◌∙◌, ap}
use Rattle.std.proofs.Common.{refl, lit≤, lit<, inl, inr, arith}
use Rattle.std.proofs.Math.Nat.{mod-lt, mod-mod}
use Rattle.std.proofs.Math.Pow.{mod-mod-pow}
use Rattle.std.proofs.lemmas.Nat.{pow_pos}
use Rattle.std.proofs.lemmas.Int.{to_z_pos}
use Rattle.std.proofs.lemmas.Bool.{cases_lt, cond-false, le-ltb}
use Rattle.std.specs.Int.{Width as Bits, swap_bytes, cast_signed, cast_unsigned}
use mir.Val.{bits, hbits}
use Rattle.bpf_insn.specs.Arithmetic as arithmetic
use Rattle.bpf_insn.specs.Arithmetic.{operand_bits, low_bits, swap_bits, result_of, sign_extension, extension_of, load_extension}
use Rattle.bpf_insn.specs.Memory.{load_length}
use Rattle.bpf_insn.specs.declared.instruction.Operation.{Operation}
use Rattle.bpf_insn.specs.declared.instruction.Width.{Width}
use Rattle.bpf_insn.specs.declared.instruction.Width.TheVariants as width
use Rattle.bpf_insn.specs.declared.instruction.SignExtension.{SignExtension}
use Rattle.bpf_insn.specs.declared.instruction.SignExtension.TheVariants.{Bits8To32, Bits16To32, Bits8To64, Bits16To64, Bits32To64}
use Rattle.bpf_insn.specs.declared.instruction.ByteOrder.{ByteOrder}
use Rattle.bpf_insn.specs.declared.instruction.ByteOrder.TheVariants.{LittleEndian, BigEndian, Swapped}
use Rattle.bpf_insn.specs.declared.instruction.SwapWidth.{SwapWidth}
use Rattle.bpf_insn.specs.declared.instruction.SwapWidth.TheVariants.{Bits16}
use Rattle.bpf_insn.specs.declared.instruction.LoadFormat.{LoadFormat}
use Rattle.bpf_insn.specs.declared.instruction.LoadFormat.TheVariants.{Byte, HalfWord, Word, DoubleWord, SignedByte, SignedHalfWord}
use Rattle.bpf_insn.specs.declared.instruction.LoadFormat.TheVariants.{SignedWord}
use Rattle.bpf_kinds.specs.Interval.{IsProper, Admits, single, full, cut}
use Rattle.bpf_kinds.specs.Results.{alu, negate, source_bits, target_bits, extend_low, extend, reversal, byte_swap, load, wide_number}
use Rattle.bpf_kinds.specs.Results.{immediate_operand}
use Rattle.bpf_kinds.specs.declared.interval.Interval.{Interval}
use Rattle.bpf_kinds.proofs.AluLemmas.{result_on-holds}
use Rattle.bpf_kinds.proofs.HoldLemmas.{Holds, full-holds, single-holds, if_lt-holds, if_single-holds, cut-holds}

-- an interval of numbers below a limit of at most 64 bits admits the numbers in it, and is proper
admits_held : {limit : ℕ} (x : Interval) (n : ℕ) → Holds limit x n → Admits x n
admits_held x n held = record { above = held.above; below = held.below }

proper_since : {limit : ℕ} (x : Interval) (n : ℕ) → limit ≤ 2 ^ 64 → Holds limit x n → IsProper x
proper_since x n wide held = record { ordered = omega arith; fits = omega arith }

-- the lower end of a nonempty interval
pub least : (x : Interval) → x.low ≤ x.high → Admits x x.low
least x ordered = record { above = omega arith; below = ordered }

admitted-holds : (x : Interval) (n : ℕ) → Admits x n → Holds (suc x.high) x n
admitted-holds x n held = record { above = held.above; below = held.below; fits = omega arith }

-- low bits

pub cut-admits : (w : Bits) (x : Interval) (n : ℕ) → IsProper x → Admits x n → Admits (cut w x) (low_bits w n)
cut-admits w x n proper held = admits_held (cut w x) (low_bits w n) (cut-holds w x n held)

pub operands_wide : (width : Width) → 2 ^ bits (operand_bits width) ≤ 2 ^ 64
operands_wide width.Bits32 = lit≤ tt
operands_wide width.Bits64 = lit≤ tt

-- operations

pub alu-holds : (operation : Operation) (width : Width) (x y : Interval) (m n : ℕ) → Admits x m → Admits y n
    → Holds (2 ^ bits (operand_bits width)) (alu operation width x y) (result_of operation width m n)
alu-holds operation width x y m n left right =
    let w = operand_bits width in
    result_on-holds operation width (cut w x) (cut w y) (low_bits w m) (low_bits w n) (cut-holds w x m left) (cut-holds w y n right)

pub alu-admits : (operation : Operation) (width : Width) {x y : Interval} {m n : ℕ} → Admits x m → Admits y n
    → Admits (alu operation width x y) (result_of operation width m n)
alu-admits operation width {x} {y} {m} {n} left right = admits_held _ _ (alu-holds operation width x y m n left right)

pub alu-proper : (operation : Operation) (width : Width) (x y : Interval) → IsProper x → IsProper y → IsProper (alu operation width x y)
alu-proper operation width x y x_proper y_proper =
    proper_since _ _ (operands_wide width) (alu-holds operation width x y x.low y.low (least x x_proper.ordered) (least y y_proper.ordered))

-- negation

pub negate-holds : (width : Width) (x : Interval) (n : ℕ) → Admits x n
    → Holds (2 ^ bits (operand_bits width)) (negate width x) (arithmetic.negate width n)
negate-holds width x n held =
    let w = operand_bits width in
    let limit = 2 ^ bits w in
    let below : arithmetic.negate width n < limit = mod-lt _ (pow_pos (bits w)) in
    let P : ℕ → Type 0 = λ k. Holds limit (single ((limit - k) % limit)) (arithmetic.negate width n) in
    if_single-holds _ (cut-holds w x n held)
    (λ same. subst P (sym (mod-mod n limit) ∙ ap (λ k. k % limit) same) (single-holds limit (arithmetic.negate width n) below))
    (full-holds w _ below)

pub negate-admits : (width : Width) (x : Interval) (n : ℕ) → IsProper x → Admits x n → Admits (negate width x) (arithmetic.negate width n)
negate-admits width x n proper held = admits_held _ _ (negate-holds width x n held)

pub negate-proper : (width : Width) (x : Interval) → IsProper x → IsProper (negate width x)
negate-proper width x proper = proper_since _ _ (operands_wide width) (negate-holds width x x.low (least x proper.ordered))

-- sign extension

-- what each sign extension has in common: its result, and the widths of its source and its target
pub record Extends (extension : SignExtension) : Type 0 where
  pub is : (n : ℕ) → extension_of extension n ≡ sign_extension (source_bits extension) (target_bits extension) n
  pub again : (n : ℕ) → low_bits (source_bits extension) (low_bits (target_bits extension) n) ≡ low_bits (source_bits extension) n
  pub wider : 2 ^ bits (source_bits extension) ≤ 2 ^ bits (target_bits extension)
  pub wide : 2 ^ bits (target_bits extension) ≤ 2 ^ 64
  pub half : 2 ^ (bits (source_bits extension) - 1) ≡ 2 ^ hbits (source_bits extension)

pub extends : (extension : SignExtension) → Extends extension
extends Bits8To32 = record { is = λ n. refl; again = λ n. mod-mod-pow n 24 8; wider = lit≤ tt; wide = lit≤ tt; half = refl }
extends Bits16To32 = record { is = λ n. refl; again = λ n. mod-mod-pow n 16 16; wider = lit≤ tt; wide = lit≤ tt; half = refl }
extends Bits8To64 = record { is = λ n. refl; again = λ n. mod-mod-pow n 56 8; wider = lit≤ tt; wide = lit≤ tt; half = refl }
extends Bits16To64 = record { is = λ n. refl; again = λ n. mod-mod-pow n 48 16; wider = lit≤ tt; wide = lit≤ tt; half = refl }
extends Bits32To64 = record { is = λ n. refl; again = λ n. mod-mod-pow n 32 32; wider = lit≤ tt; wide = lit≤ tt; half = refl }

cast-fits : (from to : Bits) (n : ℕ) → n < 2 ^ bits from → 2 ^ bits from ≤ 2 ^ bits to → cast_unsigned to (cast_signed from n) < 2 ^ bits to
cast-fits from to n below wide =
    let some : 0 < 2 ^ bits to = pow_pos (bits to) in
    elim (cases_lt n (2 ^ hbits from)) [
      | inl small ↦ let same : cast_unsigned to (cast_signed from n) ≡ n = ap (cast_unsigned to) (to_z_pos from n small) in omega arith
      | inr large ↦
          let signed : cast_signed from n ≡ negsuc (2 ^ bits from - suc n) =
          cond-false (nat_lt n (2 ^ hbits from)) _ _ (le-ltb n (2 ^ hbits from) large) in
          let same : cast_unsigned to (cast_signed from n) ≡ 2 ^ bits to - suc (2 ^ bits from - suc n) = ap (cast_unsigned to) signed in
          omega arith
    ]

pub extend_low-holds : (extension : SignExtension) (low : Interval) (n : ℕ) → Holds (2 ^ bits (source_bits extension)) low n
    → Holds (2 ^ bits (target_bits extension)) (extend_low (source_bits extension) (target_bits extension) low)
    (cast_unsigned (target_bits extension) (cast_signed (source_bits extension) n))
extend_low-holds extension low n held =
    let from = source_bits extension in
    let to = target_bits extension in
    let half = (extends extension).half in
    let wide = (extends extension).wider in
    if_lt-holds low.high (2 ^ (bits from - 1)) low (full to) (2 ^ bits to) (cast_unsigned to (cast_signed from n))
    (λ positive.
    let same : cast_unsigned to (cast_signed from n) ≡ n = ap (cast_unsigned to) (to_z_pos from n (omega arith)) in
    record { above = omega arith; below = omega arith; fits = omega arith })
    (λ some_negative. full-holds to _ (cast-fits from to n (omega arith) wide))

pub extend-holds : (extension : SignExtension) (x : Interval) (n : ℕ) → Admits x n
    → Holds (2 ^ bits (target_bits extension)) (extend extension x) (extension_of extension n)
extend-holds extension x n held =
    let from = source_bits extension in
    let to = target_bits extension in
    let limit = 2 ^ bits to in
    let value = λ (k : ℕ). cast_unsigned to (cast_signed from k) in
    let again = (extends extension).again n in
    let wide = (extends extension).wider in
    let below : value (low_bits from n) < limit = cast-fits from to (low_bits from n) (mod-lt n (pow_pos (bits from))) wide in
    let within = cut-holds to x n held in
    let P : ℕ → Type 0 = λ k. Holds limit (extend extension x) k in
    subst P (sym ((extends extension).is n))
    (if_single-holds _ within
    (λ same.
    let one : value (low_bits from n) ≡ extension_of extension (cut to x).low =
    ap value (sym again ∙ ap (low_bits from) same) ∙ sym ((extends extension).is (cut to x).low) in
    let Q : ℕ → Type 0 = λ k. Holds limit (single k) (value (low_bits from n)) in
    subst Q one (single-holds limit (value (low_bits from n)) below))
    (let R : ℕ → Type 0 = λ k. Holds limit (extend_low from to (cut from (cut to x))) (value k) in
    subst R again (extend_low-holds extension (cut from (cut to x)) (low_bits from (low_bits to n))
    (cut-holds from (cut to x) (low_bits to n) (admits_held _ _ within)))))

pub extend-admits : (extension : SignExtension) (x : Interval) (n : ℕ) → IsProper x → Admits x n
    → Admits (extend extension x) (extension_of extension n)
extend-admits extension x n proper held = admits_held _ _ (extend-holds extension x n held)

pub extend-proper : (extension : SignExtension) (x : Interval) → IsProper x → IsProper (extend extension x)
extend-proper extension x proper = proper_since _ _ (extends extension).wide (extend-holds extension x x.low (least x proper.ordered))

-- byte swaps

swaps_wide : (width : SwapWidth) → 2 ^ bits (swap_bits width) ≤ 2 ^ 64
swaps_wide Bits16 = lit≤ tt
swaps_wide width = lit≤ tt

swap_bytes-fits : (width : SwapWidth) (n : ℕ) → swap_bytes (swap_bits width) n < 2 ^ bits (swap_bits width)
swap_bytes-fits Bits16 n = omega arith
swap_bytes-fits width n = omega arith

pub swap-fits : (order : ByteOrder) (width : SwapWidth) (n : ℕ) → arithmetic.byte_swap order width n < 2 ^ bits (swap_bits width)
swap-fits LittleEndian width n = mod-lt n (pow_pos (bits (swap_bits width)))
swap-fits BigEndian width n = swap_bytes-fits width _
swap-fits Swapped width n = swap_bytes-fits width _

reversal-holds : (order : ByteOrder) (width : SwapWidth) (x : Interval) (n : ℕ) → Admits x n
    → Holds (2 ^ bits (swap_bits width)) (reversal order width x) (arithmetic.byte_swap order width n)
reversal-holds order width x n held =
    let limit = 2 ^ bits (swap_bits width) in
    let result = arithmetic.byte_swap order width n in
    let below = swap-fits order width n in
    let P : ℕ → Type 0 = λ k. Holds limit (single (arithmetic.byte_swap order width k)) result in
    if_single-holds _ (admitted-holds x n held)
    (λ same. subst P same (single-holds limit result below))
    (full-holds (swap_bits width) result below)

pub byte_swap-holds : (order : ByteOrder) (width : SwapWidth) (x : Interval) (n : ℕ) → Admits x n
    → Holds (2 ^ bits (swap_bits width)) (byte_swap order width x) (arithmetic.byte_swap order width n)
byte_swap-holds LittleEndian width x n held = cut-holds (swap_bits width) x n held
byte_swap-holds BigEndian width x n held = reversal-holds BigEndian width x n held
byte_swap-holds Swapped width x n held = reversal-holds Swapped width x n held

pub byte_swap-admits : (order : ByteOrder) (width : SwapWidth) (x : Interval) (n : ℕ) → IsProper x → Admits x n
    → Admits (byte_swap order width x) (arithmetic.byte_swap order width n)
byte_swap-admits order width x n proper held = admits_held _ _ (byte_swap-holds order width x n held)

pub byte_swap-proper : (order : ByteOrder) (width : SwapWidth) (x : Interval) → IsProper x → IsProper (byte_swap order width x)
byte_swap-proper order width x proper = proper_since _ _ (swaps_wide width) (byte_swap-holds order width x x.low (least x proper.ordered))

-- loads

full-admits : (w : Bits) (n : ℕ) → n < 2 ^ bits w → Admits (full w) n
full-admits w n below = admits_held (full w) n (full-holds w n below)

signed_load-fits : (from : Bits) (n : ℕ) → 2 ^ bits from ≤ 2 ^ 64 → sign_extension from w64 n < 2 ^ 64
signed_load-fits from n wide = cast-fits from w64 (low_bits from n) (mod-lt n (pow_pos (bits from))) wide

pub load-admits : (format : LoadFormat) (n : ℕ) → n < 256 ^ load_length format → Admits (load format) (load_extension format n)
load-admits Byte n below = full-admits (source_bits Bits8To64) n below
load-admits HalfWord n below = full-admits w16 n below
load-admits Word n below = full-admits w32 n below
load-admits DoubleWord n below = full-admits w64 n below
load-admits SignedByte n below = full-admits w64 _ (signed_load-fits (source_bits Bits8To64) n (lit≤ tt))
load-admits SignedHalfWord n below = full-admits w64 _ (signed_load-fits w16 n (lit≤ tt))
load-admits SignedWord n below = full-admits w64 _ (signed_load-fits w32 n (lit≤ tt))

pub load-proper : (format : LoadFormat) → IsProper (load format)
load-proper Byte = record { ordered = lit≤ tt; fits = lit< tt }
load-proper format = record { ordered = lit≤ tt; fits = lit< tt }

-- numbers of immediates

single-admits : (n : ℕ) → Admits (single n) n
single-admits n = record { above = omega arith; below = omega arith }

single-proper : (n : ℕ) → n < 2 ^ 64 → IsProper (single n)
single-proper n below = record { ordered = omega arith; fits = below }

pub wide_number-admits : (immediate next_immediate : ℤ) → Admits (wide_number immediate next_immediate)
    (arithmetic.wide_number immediate next_immediate)
wide_number-admits immediate next_immediate = single-admits _

unsigned-fits : (w : Bits) (z : ℤ) → FitsSigned w z → 2 ^ hbits w ≤ 2 ^ bits w → cast_unsigned w z < 2 ^ bits w
unsigned-fits w (pos n) fits wide = let below = fits.sfits in omega arith
unsigned-fits w (negsuc n) fits wide = let some : 0 < 2 ^ bits w = pow_pos (bits w) in omega arith

pub wide_number-proper : (immediate next_immediate : ℤ) → FitsSigned w32 immediate → FitsSigned w32 next_immediate
    → IsProper (wide_number immediate next_immediate)
wide_number-proper immediate next_immediate fits next_fits =
    let low = unsigned-fits w32 immediate fits (lit≤ tt) in
    let high = unsigned-fits w32 next_immediate next_fits (lit≤ tt) in
    single-proper _ (omega arith)

pub immediate_operand-admits : (immediate : ℤ) → Admits (immediate_operand immediate) (arithmetic.immediate_operand immediate)
immediate_operand-admits immediate = single-admits _

operand-fits : (z : ℤ) → FitsSigned w32 z → cast_unsigned w64 z < 2 ^ 64
operand-fits (pos n) fits = let below = fits.sfits in omega arith
operand-fits (negsuc n) fits = omega arith

pub immediate_operand-proper : (immediate : ℤ) → FitsSigned w32 immediate → IsProper (immediate_operand immediate)
immediate_operand-proper immediate fits = single-proper _ (operand-fits immediate fits)
