-- One instruction on words: if it passes its checks, its result on words holds its result.
use Rattle.std.proofs.Common.{◌≡◌, ℕ, ◌+◌, ℤ, pos, ◌+ℤ◌, Bool, true, false, IsTrue, List, is_some}
use Rattle.std.proofs.Common.{nat_lt, Result, Ok, Err, if◌then◌else◌, refl, sym, ap, subst, arith}
use Rattle.std.specs.Prelude.{FitsSigned}
use Rattle.std.specs.Int.{cast_signed, cast_unsigned, w32, w64}
use Rattle.std.proofs.Math.ListN.{length-set}
use Rattle.std.proofs.lemmas.Bool.Decides.{nat_tests}
use Rattle.std.proofs.lemmas.Int.{ints}
use Rattle.bpf_insn.specs.Arithmetic as arithmetic
use Rattle.bpf_insn.specs.Arithmetic.{condition_holds}
use Rattle.bpf_insn.specs.Code.{instruction_at, place_of, word_count}
use Rattle.bpf_insn.specs.Pointer.{is_offset}
use Rattle.bpf_insn.specs.declared.instruction.Insn.{Insn}
use Rattle.bpf_insn.specs.declared.instruction.ByteOrder.{ByteOrder}
use Rattle.bpf_insn.specs.declared.instruction.SignExtension.{SignExtension}
use Rattle.bpf_insn.specs.declared.instruction.SwapWidth.{SwapWidth}
use Rattle.bpf_insn.specs.declared.instruction.Width.{Width}
use Rattle.bpf_insn.specs.declared.instruction.Source.TheVariants.{Immediate, Register}
use Rattle.bpf_insn.specs.declared.register.WritableRegister.{WritableRegister}
use Rattle.bpf_insn.specs.declared.value.Area.{Area}
use Rattle.bpf_insn.specs.declared.value.Area.TheVariants as area
use Rattle.bpf_insn.specs.declared.value.Pointer.{Pointer as PointerParts}
use Rattle.bpf_insn.specs.declared.value.Value.{Value}
use Rattle.bpf_insn.specs.declared.value.Value.TheVariants as value
use Rattle.bpf_kinds.specs.Interval.{single}
use Rattle.bpf_kinds.proofs.ListLemmas.{set_both}
use Rattle.bpf_kinds.proofs.ResultLemmas.{extend-proper, extend-admits, negate-proper, negate-admits, byte_swap-proper, byte_swap-admits}
use Rattle.bpf_kinds.proofs.ResultLemmas.{immediate_operand-proper, wide_number-proper}
use Rattle.bpf_insn.specs.Immediates.{HasImmediates}
use Rattle.bpf_flat_insn.specs.Flat.{JumpsTo}
use Rattle.tl_segments.specs.Segment.{SegmentParts, IsSegment}
use Rattle.bpf_meaning.specs.Checks.{◌>>=◌, Sound}
use Rattle.bpf_meaning.specs.Effect as effect
use Rattle.bpf_meaning.specs.State.{HoldsBytes, IsWellFormed}
use Rattle.bpf_meaning.specs.Step.{carry_out}
use Rattle.bpf_meaning.specs.Walk.{ConditionalJump}
use Rattle.bpf_meaning.specs.declared.cause.Cause.{Cause}
use Rattle.bpf_meaning.specs.declared.cause.Cause.TheVariants.{OutOfProgram, IntoWide}
use Rattle.bpf_meaning.specs.declared.effect.Change.{Change}
use Rattle.bpf_meaning.specs.declared.effect.Change.TheVariants.{Nothing, SetRegister}
use Rattle.bpf_meaning.specs.declared.effect.Effect.{Effect}
use Rattle.bpf_meaning.specs.declared.effect.Effect.TheVariants.{Continue}
use Rattle.bpf_meaning.specs.declared.state.State.{State}
use Rattle.bpf_meaning.proofs.WalkForesees.{Foresees, against, walk_foreseen}
use Rattle.bpf_machine.specs.Words.{Continues, HasAreas, Holds, HoldsEffect, IsWordOf, Next, PointsOnlyInto, Words, area_bytes, bare_words}
use Rattle.bpf_machine.specs.Words.{load_bytes, next_words, pointer_of, store_at, with_word}
use Rattle.bpf_machine.proofs.WordCalls.{call_held}
use Rattle.bpf_machine.proofs.WordMemory.{HoldsChange, load_held, store_held}
use Rattle.bpf_machine.proofs.WordArithmetic.{IsNumber, admitted_fits, move_held, operate_held, single-admits, single-proper}

-- what is read

read_held : (register : ℕ) (v : Value) (word : ℕ) → IsWordOf v word → Sound IsWordOf (effect.read_value register v) (Ok word)
read_held register value.Empty word held = tt
read_held register v word held = held

number_held : (cause : Cause) (v : Value) (word : ℕ) → IsWordOf v word → Sound IsNumber (effect.number_or cause v) (Ok word)
number_held cause (value.Number n) word held = held
number_held cause v word held = tt

abbrev IsPointer : PointerParts → PointerParts → Type 0
IsPointer pointer other = other ≡ pointer

offset_is : (offset : ℤ) (word : ℕ) → word ≡ cast_unsigned w64 offset → IsTrue (is_offset offset) → cast_signed w64 word ≡ offset
offset_is offset word is near = grind (arith, ints, nat_tests)

same_pointer : (into area : Area) (at offset : ℤ) → into ≡ area → at ≡ offset
    → IsPointer (record { area = area; offset = offset }) (record { area = into; offset = at })
same_pointer into area at offset same is = cc

pointer_held : (register : ℕ) (into : Area) (v : Value) (word : ℕ) → IsWordOf v word → PointsOnlyInto v into
    → Sound IsPointer (effect.read_value register v >>= effect.only_pointer) (Ok (pointer_of into word))
pointer_held register into (value.Pointer pointer) word held is =
    same_pointer into pointer.area _ pointer.offset is (offset_is pointer.offset word held.0 held.1)
pointer_held register into v word held is = tt

-- arithmetic on one number

extended_held : (extension : SignExtension) (n word : ℕ) → IsNumber n word
    → IsNumber (arithmetic.extension_of extension n) (arithmetic.extension_of extension word)
extended_held extension n word is =
    let proper = single-proper n is.1 in (
      ap (arithmetic.extension_of extension) is.0,
      admitted_fits _ _ (extend-proper extension (single n) proper)
          (extend-admits extension (single n) n proper (single-admits n)),
    )

negated_held : (width : Width) (n word : ℕ) → IsNumber n word → IsNumber (arithmetic.negate width n) (arithmetic.negate width word)
negated_held width n word is =
    let proper = single-proper n is.1 in (
      ap (arithmetic.negate width) is.0,
      admitted_fits _ _ (negate-proper width (single n) proper)
          (negate-admits width (single n) n proper (single-admits n)),
    )

swapped_held : (order : ByteOrder) (width : SwapWidth) (n word : ℕ) → IsNumber n word
    → IsNumber (arithmetic.byte_swap order width n) (arithmetic.byte_swap order width word)
swapped_held order width n word is =
    let proper = single-proper n is.1 in (
      ap (arithmetic.byte_swap order width) is.0,
      admitted_fits _ _ (byte_swap-proper order width (single n) proper)
          (byte_swap-admits order width (single n) n proper (single-admits n)),
    )

-- a register is set

register_held : (segment : SegmentParts) (state : State) (words : Words) → Holds state words
    → (destination : WritableRegister) (v : Value) (word : ℕ) → IsWordOf v word
    → HoldsChange segment state (SetRegister destination v) (with_word words destination.number word)
register_held segment state words holds destination v word held = record {
  count = let same = holds.count in omega (
    arith,
    length-set state.registers destination.number v,
    length-set words.registers destination.number word,
  );
  registers = set_both IsWordOf value.Empty 0 state.registers words.registers destination.number v word (sym holds.count) held
      holds.registers;
  whole = holds.whole;
  frame = holds.frame;
  slots = holds.slots;
  score = holds.score;
}

-- where a store begins
frame_held : (into : Area) (pointer other : PointerParts) (offset : ℤ) → IsPointer pointer other
    → Sound (λ (at from : ℤ). from ≡ at) (effect.frame_offset into (pointer.offset +ℤ offset)) (Ok (other.offset +ℤ offset))
frame_held area.Frame pointer other offset same = ap (λ (p : PointerParts). p.offset +ℤ offset) same
frame_held area.Record pointer other offset same = tt

-- what comes next

placed : (state : State) (place : ℕ) (words : Words) → Holds state words → Holds (record state { place = place }) words
placed state place words holds = record {
  count = holds.count;
  registers = holds.registers;
  whole = holds.whole;
  frame = holds.frame;
  slots = holds.slots;
  score = holds.score;
}

module _ (code : List Insn) (segment : SegmentParts) (state : State) where
  continues_held : (place at : ℕ) (change : Change) (words : Words) → place ≡ place_of code at → HoldsChange segment state change words
      → Sound (HoldsEffect code segment state) (effect.continue_with code place change) (Ok (Continues words at))
  continues_held place at change words same holds = by_tests (is_some (instruction_at code place)) (nat_lt place (word_count code))
    where
      by_tests : (begins inside : Bool)
          → Sound (HoldsEffect code segment state)
          (if begins then Ok (Continue change place) else (if inside then Err IntoWide else Err OutOfProgram)) (Ok (Continues words at))
      by_tests true inside = (same, placed (carry_out segment state change) place words holds)
      by_tests false true = tt
      by_tests false false = tt

  jump_held : (to : ℤ) (at : ℕ) (words : Words) → to ≡ pos (place_of code at) → Holds state words
      → Sound (HoldsEffect code segment state) (effect.continue_at code to) (Ok (Continues words at))
  jump_held to at words leads holds =
      subst (λ (z : ℤ). Sound (HoldsEffect code segment state) (effect.continue_at code z) (Ok (Continues words at))) (sym leads)
      (continues_held (place_of code at) at Nothing words refl holds)

  -- words that hold the state, the entry of the next instruction, and the entry that the instruction jumps to
  module _ (words : Words) (holds : Holds state words) (next next_at target : ℕ) (same : next ≡ place_of code next_at) where
    branch_held : (jump : ConditionalJump) → pos (state.place + 1) +ℤ jump.distance ≡ pos (place_of code target) → (v w : Value) (m n : ℕ)
        → IsWordOf v m → IsWordOf w n
        → Sound (HoldsEffect code segment state) ((effect.values code segment state next).branch jump v w)
        (Ok (Continues words (if condition_holds jump.condition jump.width m n then target else next_at)))
    branch_held jump leads (value.Number x) (value.Number y) m n left right =
        subst (λ (k : ℕ). Sound (HoldsEffect code segment state) (taken (condition_holds jump.condition jump.width x y))
        (Ok (branches (condition_holds jump.condition jump.width k n)))) (sym left.0)
        (subst (λ (k : ℕ). Sound (HoldsEffect code segment state) (taken (condition_holds jump.condition jump.width x y))
        (Ok (branches (condition_holds jump.condition jump.width x k)))) (sym right.0)
        (by_answer (condition_holds jump.condition jump.width x y)))
      where
        taken : Bool → Result Effect Cause
        taken answer = if answer then effect.jump code state.place jump.distance else effect.continue_with code next Nothing

        branches : Bool → Next
        branches answer = Continues words (if answer then target else next_at)

        by_answer : (answer : Bool) → Sound (HoldsEffect code segment state) (taken answer) (Ok (branches answer))
        by_answer true = jump_held _ target words leads holds
        by_answer false = continues_held next next_at Nothing words same holds
    branch_held jump leads v w m n left right = tt

    -- each step of an instruction
    values_foresee : (areas : ℕ → Area) (insn : Insn) → IsSegment segment → IsWellFormed state → HoldsBytes state → HasAreas state areas
        → JumpsTo code state.place insn target
        → Foresees (effect.values code segment state next) (bare_words segment areas words next_at target) insn
    values_foresee areas insn is whole bytes points leads = record {
      Fits = FitsSigned w32;
      Read = λ register. IsWordOf;
      Values = IsWordOf;
      Numbers = IsNumber;
      Stored = IsWordOf;
      Pointers = IsPointer;
      Offsets = λ offset at from. from ≡ at;
      Changes = HoldsChange segment state;
      Outcomes = HoldsEffect code segment state;
      read = λ register. read_held register _ _ (holds.registers register);
      any = λ register v word held. held;
      number_or = λ cause register. number_held cause;
      stored = λ register v word held. held;
      stored_immediate = λ immediate fits. (refl, (immediate_operand-proper immediate fits).fits);
      pointer_in = λ register. pointer_held register _ _ _ (holds.registers register) (points register);
      immediate = λ immediate fits. (refl, (immediate_operand-proper immediate fits).fits);
      wide = λ immediate next_immediate fits. (refl, (wide_number-proper immediate next_immediate fits.0 fits.1).fits);
      extend = extended_held;
      negate = negated_held;
      byte_swap = swapped_held;
      move = move_held;
      operate = operate_held;
      load = λ format p q offset alike.
          subst (λ (x : PointerParts). Sound IsWordOf (effect.load_from segment state format p.area (p.offset +ℤ offset))
          (load_bytes format (area_bytes segment words x.area) (x.offset +ℤ offset))) (sym alike)
          (load_held state words whole bytes holds segment is format p.area (p.offset +ℤ offset));
      frame = λ p q offset alike. frame_held p.area p q offset alike;
      store_at = λ at from offset size v word is stored.
          subst (λ (k : ℤ). Sound (HoldsChange segment state) (effect.store_at at size v) (store_at words k size word)) (sym is)
          (store_held segment state words whole holds at size v word stored);
      call = call_held segment state words is whole holds;
      set = λ continues destination v word held.
          continues_held next next_at _ _ same (register_held segment state words holds destination v word held);
      continue_with = λ continues change updated holds. continues_held next next_at change updated same holds;
      jump = λ distance jumps. jump_held _ target words (leads distance jumps) holds;
      with_immediate = λ jump immediate may fits left.
          branch_held (against jump (Immediate immediate)) (leads jump.distance may.leads) left.first _ left.second _ left.is
          (refl, (immediate_operand-proper immediate fits).fits);
      with_register = λ jump right may left compared.
          branch_held (against jump (Register right)) (leads jump.distance may.leads) left.first compared.first left.second
          compared.second left.is compared.is;
      end = λ n word alike. (alike.0, holds.score);
    }

    pub walk_held : (areas : ℕ → Area) (insn : Insn) → IsSegment segment → IsWellFormed state → HoldsBytes state → HasImmediates insn
        → HasAreas state areas → JumpsTo code state.place insn target
        → Sound (HoldsEffect code segment state) (effect.instruction_effect code segment state next insn)
        (next_words segment areas words next_at target insn)
    unfolding values_foresee next_words
    walk_held areas insn is whole bytes fits points jumps =
        walk_foreseen (effect.values code segment state next) (bare_words segment areas words next_at target) insn
        (values_foresee areas insn is whole bytes points jumps) fits
