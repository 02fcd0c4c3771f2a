-- What a row allows, from the tests that find no fault.
use Rattle.std.proofs.Common.{◌≡◌, ℕ, ◌≤◌, ◌==◌, ◌&&◌, ◌||◌, not, nat_lt, Bool, true, false, ℤ, pos, Option, Some, None, MatchBool}
use Rattle.std.proofs.Common.{if◌then◌else◌, refl, sym, arith}
use Rattle.std.proofs.lemmas.Bool.Decides.{nat_tests, Decides-int_eq, Decides-or}
use Rattle.std.specs.Bool.{⊤, Decides}
use Rattle.std.proofs.lemmas.Bool.{true≢false}
use Rattle.std.proofs.lemmas.Option.{none-some}
use Rattle.bpf_insn.specs.Row.{fault, names_bad_register, writes_frame_pointer, has_bad_width, has_unused_field, is_bad_width}
use Rattle.bpf_insn.specs.Row.{is_disallowed, is_used, is_written, IsAllowed, Fits}
use Rattle.bpf_insn.specs.declared.row.Row.{Row}
use Rattle.bpf_insn.specs.declared.row.Use.{Use}
use Rattle.bpf_insn.specs.declared.row.Use.TheVariants.{Unused, Any, ZeroOrOne, MoveBits, SwapBits}
use Rattle.bpf_insn.specs.declared.word.Word.{Word}
use Rattle.bpf_insn.specs.declared.fault.WordFault.{WordFault}
use Rattle.bpf_insn.specs.declared.fault.WordFault.TheVariants.{BadRegister, WritesFramePointer, BadWidth, UnusedNotZero}
use Rattle.bpf_insn.specs.declared.instruction.Width.TheVariants.{Bits32, Bits64}

-- a chain of tests without a result
no_fault : (test : Bool) (found : WordFault) (rest : Option WordFault) → (if test then Some found else rest) ≡ None → (test ≡ false)
    × (rest ≡ None)
no_fault true found rest e = absurd (none-some found (sym e))
no_fault false found rest e = (refl, e)

neither : (a b : Bool) → (a || b) ≡ false → (a ≡ false) × (b ≡ false)
neither true b e = absurd (true≢false e)
neither false b e = (refl, e)

-- a register field
names_register : (uses : Bool) (n : ℕ) → (uses && nat_lt 10 n) ≡ false → (not uses && not (n == 0)) ≡ false
    → MatchBool uses (n ≤ 10) (n ≡ 0)
names_register true n low zero = grind (arith, nat_tests)
names_register false n low zero = grind (arith, nat_tests)

names_writable : (uses writes : Bool) (n : ℕ) → (uses && nat_lt 10 n) ≡ false → (writes && n == 10) ≡ false
    → (not uses && not (n == 0)) ≡ false → MatchBool writes (n ≤ 9) ⊤
names_writable uses false n low ten zero = tt
names_writable true true n low ten zero = grind (arith, nat_tests)
names_writable false true n low ten zero = grind (arith, nat_tests)

-- a test that doesn't fail
holds : {P : Type 0} (test : Bool) → Decides test P → not test ≡ false → P
holds true decides e = decides.0 refl
holds false decides e = absurd (true≢false e)

allowed : (role : Use) (z : ℤ) → is_bad_width role z ≡ false → is_disallowed role z ≡ false → IsAllowed role z
allowed Unused z wide out = holds _ (Decides-int_eq z (pos 0)) out
allowed Any z wide out = tt
allowed ZeroOrOne z wide out = holds _ (Decides-or _ _ (Decides-int_eq z (pos 0)) (Decides-int_eq z (pos 1))) out
allowed (MoveBits Bits32) z wide out =
    holds _ (Decides-or _ _ (Decides-or _ _ (Decides-int_eq z (pos 0)) (Decides-int_eq z (pos 8))) (Decides-int_eq z (pos 16))) wide
allowed (MoveBits Bits64) z wide out =
    holds _ (Decides-or _ _ (Decides-or _ _ (Decides-or _ _ (Decides-int_eq z (pos 0)) (Decides-int_eq z (pos 8)))
    (Decides-int_eq z (pos 16))) (Decides-int_eq z (pos 32))) wide
allowed SwapBits z wide out =
    holds _ (Decides-or _ _ (Decides-or _ _ (Decides-int_eq z (pos 16)) (Decides-int_eq z (pos 32))) (Decides-int_eq z (pos 64))) wide

-- a word without a fault fits
pub fits : (row : Row) (word : Word) → fault row word ≡ None → Fits row word
fits row word e =
    let registers = no_fault (names_bad_register row word) BadRegister _ e in
    let written = no_fault (writes_frame_pointer row word) WritesFramePointer _ registers.1 in
    let widths = no_fault (has_bad_width row word) BadWidth _ written.1 in
    let unused = no_fault (has_unused_field row word) UnusedNotZero None widths.1 in
    let named = neither _ _ registers.0 in
    let wide = neither _ _ widths.0 in
    let last = neither _ _ unused.0 in
    let third = neither _ _ last.0 in
    let first = neither _ _ third.0 in
    record {
      destination = names_register (is_used row.destination) word.destination named.0 first.0;
      written = names_writable (is_used row.destination) (is_written row.destination) word.destination named.0 written.0 first.0;
      source = names_register row.uses_source word.source named.1 first.1;
      offset = allowed row.offset word.offset wide.0 third.1;
      immediate = allowed row.immediate word.immediate wide.1 last.1;
    }
