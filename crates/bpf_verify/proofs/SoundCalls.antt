-- Calls of helper functions are sound: if their checks pass on kinds, they pass on values, and the abstract state after a call admits the state
-- after it.
use Rattle.std.proofs.Common.{◌≡◌, ℕ, zero, suc, ◌+◌, ◌≤◌, ℤ, pos, negsuc, ◌+ℤ◌, ◌≤ℤ◌, ◌&&◌, int_le, unsigned_abs, Bool, true, false, List}
use Rattle.std.proofs.Common.{[], ◌∷◌, ◌++◌, length, drop, get_or, replicate, Option, Some, None, Result, Ok, Err, if◌then◌else◌, refl, sym}
use Rattle.std.proofs.Common.{subst, arith}
use Rattle.std.specs.Int.{cast_signed, cast_unsigned, w64}
use Rattle.std.proofs.lemmas.Bool.Decides.{nat_tests}
use Rattle.std.proofs.lemmas.Int.{ints}
use Rattle.std.proofs.lemmas.List.{get_or-drop}
use Rattle.bpf_insn.specs.declared.memory.TheConstants.{FRAME_LENGTH}
use Rattle.bpf_insn.specs.declared.value.Area.{Area}
use Rattle.bpf_insn.specs.declared.value.Area.TheVariants as area
use Rattle.bpf_insn.specs.declared.value.Value.{Value}
use Rattle.bpf_insn.specs.declared.value.Value.TheVariants as value
use Rattle.bpf_kinds.specs.Interval as interval
use Rattle.bpf_kinds.specs.Kind as kind
use Rattle.bpf_kinds.specs.Offsets as offsets
use Rattle.bpf_kinds.specs.declared.interval.Interval.{Interval}
use Rattle.bpf_kinds.specs.declared.kind.Kind.{Kind}
use Rattle.bpf_kinds.specs.declared.kind.Kind.TheVariants.{Number, Record, Frame, Nothing}
use Rattle.bpf_kinds.specs.declared.offsets.Offsets.{Offsets}
use Rattle.bpf_helpers.specs.Call.{MeetsSignature, bytes_read, second, third, written_length}
use Rattle.bpf_helpers.specs.Helper.{signature}
use Rattle.bpf_helpers.specs.Group.{frame_use}
use Rattle.bpf_helpers.specs.declared.helper.Helper.{Helper}
use Rattle.bpf_helpers.specs.declared.signature.Argument.{Argument}
use Rattle.bpf_helpers.specs.declared.signature.Argument.TheVariants as argument
use Rattle.bpf_helpers.specs.declared.signature.FrameUse.{FrameUse}
use Rattle.bpf_helpers.specs.declared.signature.FrameUse.TheVariants as frame_use
use Rattle.bpf_meaning.specs.Effect as effect
use Rattle.bpf_meaning.specs.Effect.{◌>>=◌}
use Rattle.bpf_insn.specs.Frame.{FrameByte, FrameContents}
use Rattle.bpf_meaning.specs.Memory.{write_bytes, all_written, written_bytes}
use Rattle.bpf_meaning.specs.Step as step
use Rattle.bpf_meaning.specs.declared.cause.Cause.{Cause}
use Rattle.bpf_meaning.specs.declared.cause.Cause.TheVariants.{OutOfBounds, UnwrittenFrame, BadArgument}
use Rattle.bpf_meaning.specs.declared.effect.Change.TheVariants.{CallHelper}
use Rattle.bpf_meaning.specs.declared.state.State.{State}
use Rattle.bpf_helpers.proofs.CallLemmas.{answer-admits, written-length}
use Rattle.bpf_helpers.proofs.WriteLemmas.{write-nothing}
use Rattle.bpf_meaning.proofs.CallLemmas.{IfPasses, called_can_be_made}
use Rattle.bpf_meaning.proofs.FrameLemmas.{all_written-part, written_unchanged, is_written-write_inside}
use Rattle.tl_segments.specs.Segment.{SegmentParts, IsSegment}
use Rattle.bpf_frame.specs.FrameMap as map
use Rattle.bpf_verify.specs.Transfer.{are_allowed, argument_kind, argument_in, arguments_in, lie_within, lend_bytes, lend_read, lend_frame}
use Rattle.bpf_verify.specs.Transfer.{all_marked, state_after, call}
use Rattle.bpf_verify.specs.Transfer as transfer
use Rattle.bpf_verify.specs.LiftedState.{AdmitsState}
use Rattle.bpf_verify.specs.declared.calls.LentBytes.{LentBytes}
use Rattle.bpf_verify.specs.declared.abstract_state.AbstractState.{AbstractState}
use Rattle.bpf_meaning.specs.Checks.{Sound}
use Rattle.bpf_meaning.proofs.CheckLemmas.{then_sound, passes_if}
use Rattle.bpf_verify.proofs.SoundChecks.{HasValue, HasState, read_sound}
use Rattle.bpf_verify.proofs.SoundMarks.{marked_are_written, writes_admit}
use Rattle.bpf_meaning.proofs.SlotLemmas.{slot_value-write_bytes_apart}
use Rattle.bpf_verify.proofs.SoundMemory.{Stores}

-- arguments

-- a word that represents a pointer at one of the offsets
record IsOffset (x : Offsets) (word : ℕ) : Type 0 where
  proper : offsets.IsProper x
  offset : ℤ
  admits : offsets.Admits x offset
  is : word ≡ cast_unsigned w64 offset

-- a word that represents a value of a kind
abbrev IsWord : Kind → ℕ → Type 0
IsWord (Number x) word = interval.Admits x word
IsWord (Frame x) word = IsOffset x word
IsWord (Record x) word = ⊥
IsWord Nothing word = Unit {0}

allowed_within : (allowed x : Interval) (n : ℕ) → interval.Admits x n → are_allowed allowed x ≡ true → effect.is_allowed allowed n ≡ true
allowed_within allowed x n admits within = let above = admits.above in let below = admits.below in grind (arith, nat_tests)

number_sound : (number : ℕ) (allowed x : Interval) (n : ℕ) → interval.Admits x n
    → Sound IsWord (argument_kind number (argument.Number allowed) (Number x))
    (effect.argument_word number (argument.Number allowed) (value.Number n))
number_sound number allowed x n admits = by_test (are_allowed allowed x) refl
  where
    by_test : (within : Bool) → are_allowed allowed x ≡ within → Sound IsWord (if within then Ok (Number x) else Err (BadArgument number))
        (effect.argument_word number (argument.Number allowed) (value.Number n))
    by_test true within = passes_if IsWord (Ok (Number x)) (Ok n) (effect.is_allowed allowed n) (BadArgument number)
        (allowed_within allowed x n admits within) admits
    by_test false without = tt

pointer_sound : (number : ℕ) (x : Offsets) (into : Area) (offset : ℤ) → offsets.IsProper x → into ≡ area.Frame → offsets.Admits x offset
    → Sound IsWord (argument_kind number argument.Frame (Frame x))
    (effect.argument_word number argument.Frame (value.Pointer (record { area = into; offset = offset })))
pointer_sound number x area.Frame offset proper into admits = record { proper = proper; offset = offset; admits = admits; is = refl }
pointer_sound number x area.Record offset proper into admits = cc

argument_sound : (number : ℕ) (required : Argument) (x : Kind) (v : Value) → HasValue x v
    → Sound IsWord (argument_kind number required x) (effect.argument_word number required v)
argument_sound number (argument.Number allowed) (Number x) (value.Number n) has = number_sound number allowed x n has.admits
argument_sound number (argument.Number allowed) (Number x) v has = absurd has.admits
argument_sound number argument.Frame (Frame x) (value.Pointer pointer) has =
    pointer_sound number x pointer.area pointer.offset has.proper has.admits.0 has.admits.1
argument_sound number argument.Frame (Frame x) v has = absurd has.admits
argument_sound number required x v has = tt

argument_in_sound : (known : AbstractState) (state : State) → HasState known state → (number : ℕ) (required : Argument)
    → Sound IsWord (argument_in known number required) (effect.argument_in state number required)
argument_in_sound known state has number argument.Unused = tt
argument_in_sound known state has number (argument.Number allowed) =
    then_sound HasValue IsWord _ _ _ _ (read_sound known state has number) (argument_sound number (argument.Number allowed))
argument_in_sound known state has number argument.Frame = then_sound HasValue IsWord _ _ _ _ (read_sound known state has number)
    (argument_sound number argument.Frame)

-- the words that represent bytes of the frame: where they begin, and how many there are
record AreWords (kinds : List Kind) (words : List ℕ) : Type 0 where
  second : IsWord (get_or kinds 1 Nothing) (second words)
  third : IsWord (get_or kinds 2 Nothing) (third words)

arguments_sound : (known : AbstractState) (state : State) → HasState known state → (required : List Argument)
    → Sound AreWords (arguments_in known required) (effect.arguments_in state required)
arguments_sound known state has required =
    then_sound IsWord AreWords _ _ _ _ (argument_in_sound known state has 1 (get_or required 0 argument.Unused)) (λ x a one.
    then_sound IsWord AreWords _ _ _ _ (argument_in_sound known state has 2 (get_or required 1 argument.Unused)) (λ y b two.
    then_sound IsWord AreWords _ _ _ _ (argument_in_sound known state has 3 (get_or required 2 argument.Unused)) (λ z c three.
    record { second = two; third = three })))

-- bytes of the frame

-- bytes that begin at one of the offsets, with a count that the interval allows
record AreLent (bytes : LentBytes) (words : List ℕ) : Type 0 where
  offset : IsOffset bytes.offsets (second words)
  count : interval.Admits bytes.count (third words)
  within : lie_within bytes.offsets (pos 0) bytes.count.high FRAME_LENGTH ≡ true

-- where they begin and end
record IsInside (at : ℤ) (word count : ℕ) : Type 0 where
  same : unsigned_abs (at +ℤ pos 0) ≡ word
  ends : word + count ≤ FRAME_LENGTH
  inside : effect.lie_within (cast_signed w64 word) count FRAME_LENGTH ≡ true

small_inside : (n word count : ℕ) → n + count ≤ FRAME_LENGTH → word ≡ cast_unsigned w64 (pos n) → IsInside (pos n) word count
small_inside n word count ends is =
    let same : word ≡ n = omega (arith, ints) in
    subst (λ (w : ℕ). IsInside (pos n) w count) (sym same)
    (record { same = omega (arith, ints); ends = ends; inside = grind (arith, ints, nat_tests) })

module _ (low high : ℤ) (most : ℕ) {word count : ℕ} where
  is_inside : {at : ℤ} → low ≤ℤ at → at ≤ℤ high → word ≡ cast_unsigned w64 at → count ≤ most
      → (int_le (pos 0) (low +ℤ pos 0) && int_le ((high +ℤ pos 0) +ℤ pos most) (pos FRAME_LENGTH)) ≡ true → IsInside at word count
  is_inside {at = pos n} above below is less within = small_inside n word count (grind (arith, ints, nat_tests)) is
  is_inside {at = negsuc n} above below is less within = let no : ⊥ = grind (arith, ints, nat_tests) in absurd no

lent_inside : (bytes : LentBytes) (words : List ℕ) (lent : AreLent bytes words) → IsInside lent.offset.offset (second words) (third words)
lent_inside bytes words lent =
    is_inside bytes.offsets.low bytes.offsets.high bytes.count.high lent.offset.admits.above lent.offset.admits.below lent.offset.is
    lent.count.below lent.within

lend_bytes_sound : (x y : Kind) (words : List ℕ) → IsWord x (second words) → IsWord y (third words)
    → Sound AreLent (lend_bytes x y) (effect.lend_bytes words)
lend_bytes_sound (Frame x) (Number y) words offset count = by_test (lie_within x (pos 0) y.high FRAME_LENGTH) refl
  where
    by_test : (within : Bool) → lie_within x (pos 0) y.high FRAME_LENGTH ≡ within
        → Sound AreLent (if within then Ok (record { offsets = x; count = y }) else Err OutOfBounds) (effect.lend_bytes words)
    by_test true within =
        let lent : AreLent (record { offsets = x; count = y }) words = record { offset = offset; count = count; within = within } in
        passes_if AreLent (Ok (record { offsets = x; count = y })) (Ok words)
        (effect.lie_within (cast_signed w64 (second words)) (third words) FRAME_LENGTH) OutOfBounds
        (lent_inside (record { offsets = x; count = y }) words lent).inside lent
    by_test false outside = tt
lend_bytes_sound x y words offset count = tt

-- a state with bytes written where a call's second argument points

abbrev written : State → List ℕ → List ℕ → State
written state words bytes = record state { frame = write_bytes state.frame (second words) bytes }

-- the state after a call's use of the frame, whatever it writes
record IsLent (state : State) (frame : FrameUse) (after : AbstractState) (words : List ℕ) : Type 0 where
  admits : (bytes : List ℕ) → length bytes ≡ written_length frame words → AdmitsState after (written state words bytes)

writes_none : (known : AbstractState) (state : State) (words : List ℕ) → AdmitsState known state → (bytes : List ℕ) → length bytes ≡ 0
    → AdmitsState known (written state words bytes)
writes_none known state words admits [] none = record {
  registers = admits.registers;
  frame = subst (λ (memory : List FrameByte). let frame : FrameContents = record { bytes = memory; slots = state.frame.slots } in
      map.Admits known.frame frame) (sym (write-nothing state.frame.bytes (second words))) admits.frame;
}
writes_none known state words admits (byte ∷ bytes) none = absurd (omega arith)

writes_some : (known : AbstractState) (state : State) → HasState known state → (lent : LentBytes) (words : List ℕ) → AreLent lent words
    → (bytes : List ℕ) → length bytes ≡ third words
    → AdmitsState (transfer.write_bytes known lent.offsets (pos 0) lent.count.low lent.count.high) (written state words bytes)
writes_some known state has lent words is bytes count =
    let at = is.offset.offset in
    let inside = lent_inside lent words is in
    let ends = inside.ends in let same = inside.same in let most = is.count.below in let least = is.count.above in
    let fits : second words + length bytes ≤ length state.frame.bytes = (let whole = has.whole.frame in omega arith) in
    writes_admit (pos 0) is.offset.admits (record { proper = has.proper; registers = has.admits.registers; frame = has.admits.frame })
    (length bytes) lent.count.low lent.count.high is.within (omega arith) (omega arith)
    (record {
      still_written = λ i before. written_unchanged state.frame.bytes (second words) bytes i fits before;
      written = λ i above below. is_written-write_inside state.frame.bytes (second words) bytes i fits (omega arith) (omega arith);
      preserved = λ slot inside apart. slot_value-write_bytes_apart state.frame (second words) bytes slot fits inside has.whole.slots
          (λ i above below lies. apart i (omega arith) (omega arith) lies);
    })

reads_sound : (known : AbstractState) (state : State) → HasState known state → (lent : LentBytes) (words : List ℕ) → AreLent lent words
    → Sound (IsLent state frame_use.Reads) (lend_read known lent) (effect.lend_written state words)
reads_sound known state has lent words is = by_test (all_marked known lent.offsets (pos 0) lent.count.high) refl
  where
    by_test : (marked : Bool) → all_marked known lent.offsets (pos 0) lent.count.high ≡ marked
        → Sound (IsLent state frame_use.Reads) (if marked then Ok known else Err UnwrittenFrame) (effect.lend_written state words)
    by_test true marked =
        let inside = lent_inside lent words is in
        let same = inside.same in let most = is.count.below in
        let written = marked_are_written (pos 0) is.offset.admits has lent.count.high is.within marked in
        passes_if (IsLent state frame_use.Reads) (Ok known) (Ok words)
        (all_written (bytes_read frame_use.Reads words state.frame.bytes)) UnwrittenFrame
        (all_written-part state.frame.bytes (second words) (third words) (λ i above below. written i (omega arith) (omega arith)))
        (record { admits = writes_none known state words has.admits })
    by_test false unmarked = tt

then_known : {A B C : Type 0} (First : A → B → Type 0) (Second : C → B → Type 0) (abstract : Result A Cause) (concrete : Result B Cause)
    (f : A → C) → Sound First abstract concrete → ((x : A) (y : B) → First x y → Second (f x) y)
    → Sound Second (abstract >>= λ x. Ok (f x)) concrete
then_known First Second (Err cause) concrete f first second = tt
then_known First Second (Ok x) (Ok y) f first second = second x y first
then_known First Second (Ok x) (Err cause) f first second = absurd first

lend_frame_sound : (known : AbstractState) (state : State) → HasState known state → (frame : FrameUse) (kinds : List Kind) (words : List ℕ)
    → AreWords kinds words → Sound (IsLent state frame) (lend_frame known frame kinds) (effect.lend_frame state frame words)
lend_frame_sound known state has frame_use.Nothing kinds words are = record { admits = writes_none known state words has.admits }
lend_frame_sound known state has frame_use.Writes kinds words are =
    then_known AreLent (IsLent state frame_use.Writes) _ _
    (λ lent. transfer.write_bytes known lent.offsets (pos 0) lent.count.low lent.count.high)
    (lend_bytes_sound (get_or kinds 1 Nothing) (get_or kinds 2 Nothing) words are.second are.third)
    (λ lent words is. record { admits = writes_some known state has lent words is })
lend_frame_sound known state has frame_use.Reads kinds words are =
    then_sound AreLent (IsLent state frame_use.Reads) _ _ _ _
    (lend_bytes_sound (get_or kinds 1 Nothing) (get_or kinds 2 Nothing) words are.second are.third)
    (reads_sound known state has)

-- calls

-- the registers after a call
registers_admit : (kinds : List Kind) (values : List Value) (x : Interval) (n : ℕ) → interval.Admits x n
    → ((register : ℕ) → kind.Admits (get_or kinds register Nothing) (get_or values register value.Empty))
    → (register : ℕ) → kind.Admits (get_or (Number x ∷ replicate 5 Nothing ++ drop 6 kinds) register Nothing)
    (get_or (step.registers_after n values) register value.Empty)
registers_admit kinds values x n admits all zero = admits
registers_admit kinds values x n admits all (suc (suc (suc (suc (suc (suc register)))))) =
    subst (λ (k : Kind). kind.Admits k (get_or (drop 6 values) register value.Empty)) (sym (get_or-drop 6 kinds register Nothing))
    (subst (kind.Admits (get_or kinds (6 + register) Nothing)) (sym (get_or-drop 6 values register value.Empty)) (all (6 + register)))
registers_admit kinds values x n admits all register = tt

call_admits : (segment : SegmentParts) (state : State) (helper : Helper) (after : AbstractState) (words : List ℕ) → IsSegment segment
    → MeetsSignature helper words → IsLent state (frame_use (signature helper).group) after words
    → Stores segment state (state_after (signature helper).answer after) (CallHelper helper words)
call_admits segment state helper after words is_segment meets lent =
    let called = step.called segment state helper words in
    let bytes = written_bytes (bytes_read (frame_use (signature helper).group) words state.frame.bytes) in
    let admits = lent.admits called.written (written-length helper segment words bytes state.score is_segment meets) in
    record {
      registers = registers_admit after.registers state.registers (signature helper).answer called.answer
          (answer-admits helper segment words bytes state.score is_segment meets) admits.registers;
      frame = admits.frame;
    }

made_sound : (segment : SegmentParts) (state : State) (helper : Helper) → IsSegment segment
    → (abstract : Result AbstractState Cause) (concrete : Result (List ℕ) Cause)
    → Sound (IsLent state (frame_use (signature helper).group)) abstract concrete
    → IfPasses (effect.CanBeMade state) (concrete >>= λ words. Ok (CallHelper helper words))
    → Sound (Stores segment state) (abstract >>= λ after. Ok (state_after (signature helper).answer after))
    (concrete >>= λ words. Ok (CallHelper helper words))
made_sound segment state helper is (Err cause) concrete sound can = tt
made_sound segment state helper is (Ok after) (Err cause) sound can = absurd sound
made_sound segment state helper is (Ok after) (Ok words) lent can = call_admits segment state helper after words is can.meets lent

pub call_sound : (segment : SegmentParts) (known : AbstractState) (state : State) → IsSegment segment → HasState known state → (found : Option Helper)
    → Sound (Stores segment state) (call known found) (effect.call_change state found)
call_sound segment known state is has None = tt
call_sound segment known state is has (Some helper) =
    made_sound segment state helper is _ _
    (then_sound AreWords (IsLent state (frame_use (signature helper).group)) _ _ _ _
    (arguments_sound known state has (signature helper).arguments) (lend_frame_sound known state has (frame_use (signature helper).group)))
    (called_can_be_made state (Some helper))
