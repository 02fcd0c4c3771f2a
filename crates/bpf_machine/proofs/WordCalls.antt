-- Calls of helper functions on words represent those on values.
use Rattle.std.proofs.Common.{◌≡◌, ℕ, zero, suc, ◌+◌, ◌^◌, ◌<◌, ℤ, Bool, true, false, List, [], ◌∷◌, length, take, drop, get_or, Some}
use Rattle.std.proofs.Common.{Result, Ok, Err, if◌then◌else◌, refl, sym, ap, ◌∙◌, subst, arith}
use Rattle.std.specs.Prelude.{slice_set}
use Rattle.std.specs.Int.{cast_unsigned, w64}
use Rattle.std.proofs.Math.ListN.{length-set}
use Rattle.std.proofs.lemmas.Bool.{false≢true}
use Rattle.std.proofs.lemmas.List.{get_or-drop, length-drop}
use Rattle.bpf_insn.specs.declared.memory.TheConstants.{FRAME_LENGTH, SLOTS}
use Rattle.bpf_insn.specs.declared.value.Area.{Area}
use Rattle.bpf_insn.specs.declared.value.Area.TheVariants as area
use Rattle.bpf_insn.specs.declared.value.Value.{Value}
use Rattle.bpf_insn.specs.declared.value.Value.TheVariants as value
use Rattle.bpf_kinds.specs.declared.interval.Interval.{Interval}
use Rattle.bpf_helpers.specs.Call.{LieWithin, MeetsSignature, bytes_read, call, second, third, write, written_length}
use Rattle.bpf_helpers.specs.Helper.{signature}
use Rattle.bpf_helpers.specs.Group.{frame_use}
use Rattle.bpf_helpers.specs.declared.helper.Helper.{Helper}
use Rattle.bpf_helpers.specs.declared.signature.Argument.{Argument}
use Rattle.bpf_helpers.specs.declared.signature.Argument.TheVariants as argument
use Rattle.bpf_helpers.specs.declared.signature.FrameUse.{FrameUse}
use Rattle.bpf_helpers.specs.declared.signature.FrameUse.TheVariants as frame_use
use Rattle.bpf_helpers.proofs.CallLemmas.{answer-fits, written-length}
use Rattle.bpf_helpers.proofs.WriteLemmas.{length-write, write-nothing}
use Rattle.tl_segments.specs.Segment.{SegmentParts, IsSegment}
use Rattle.bpf_meaning.specs.Checks.{◌>>=◌, Sound}
use Rattle.bpf_meaning.specs.Effect as effect
use Rattle.bpf_insn.specs.Frame.{FrameByte, FrameContents, Unwritten, Byte}
use Rattle.bpf_meaning.specs.Memory.{all_written, write_bytes, written_bytes}
use Rattle.bpf_meaning.specs.State.{IsWellFormed}
use Rattle.bpf_meaning.specs.Step as step
use Rattle.bpf_meaning.specs.declared.cause.Cause.{Cause}
use Rattle.bpf_meaning.specs.declared.cause.Cause.TheVariants.{BadArgument, OutOfBounds, UnwrittenFrame}
use Rattle.bpf_meaning.specs.declared.effect.Change.TheVariants.{CallHelper}
use Rattle.bpf_meaning.specs.declared.state.State.{State}
use Rattle.bpf_meaning.proofs.CallLemmas.{IfPasses, called_can_be_made, then_keeps}
use Rattle.bpf_machine.specs.Words.{Holds, IsWordOf, Words, argument_word, argument_words, call_helper, called, words_after}
use Rattle.bpf_machine.proofs.WordMemory.{HoldsChange, AreBytesOf, write-bytes_of}
use Rattle.bpf_machine.proofs.WordSlots.{AreWordsOfSlots, overwrite-words_of}

-- arguments

frame_argument : (number : ℕ) (into : Area) (offset : ℤ) (word : ℕ) → word ≡ cast_unsigned w64 offset
    → IfPasses (λ argument. argument ≡ word) (effect.argument_word number argument.Frame
    (value.Pointer (record { area = into; offset = offset })))
frame_argument number area.Frame offset word is = sym is
frame_argument number area.Record offset word is = tt

number_argument : (number : ℕ) (allowed : Interval) (n word : ℕ) → word ≡ n
    → IfPasses (λ argument. argument ≡ word) (effect.argument_word number (argument.Number allowed) (value.Number n))
number_argument number allowed n word is = by_test (effect.is_allowed allowed n)
  where
    by_test : (inside : Bool) → IfPasses (λ argument. argument ≡ word) (if inside then Ok n else Err (BadArgument number))
    by_test true = sym is
    by_test false = tt

-- an argument read from a register
number_read : (number : ℕ) (allowed : Interval) (v : Value) (word : ℕ) → IsWordOf v word
    → IfPasses (λ argument. argument ≡ word) (effect.read_value number v >>= effect.argument_word number (argument.Number allowed))
number_read number allowed (value.Number n) word held = number_argument number allowed n word held.0
number_read number allowed v word held = tt

frame_read : (number : ℕ) (v : Value) (word : ℕ) → IsWordOf v word
    → IfPasses (λ argument. argument ≡ word) (effect.read_value number v >>= effect.argument_word number argument.Frame)
frame_read number (value.Pointer pointer) word held = frame_argument number pointer.area pointer.offset word held.0
frame_read number v word held = tt

argument_held : (state : State) (words : Words) → Holds state words → (number : ℕ) (required : Argument)
    → IfPasses (λ argument. argument ≡ argument_word words number required) (effect.argument_in state number required)
argument_held state words holds number argument.Unused = refl
argument_held state words holds number (argument.Number allowed) = number_read number allowed _ _ (holds.registers number)
argument_held state words holds number argument.Frame = frame_read number _ _ (holds.registers number)

arguments_held : (state : State) (words : Words) → Holds state words → (required : List Argument)
    → IfPasses (λ arguments. arguments ≡ argument_words words required) (effect.arguments_in state required)
arguments_held state words holds required =
    let a = get_or required 0 argument.Unused in
    let b = get_or required 1 argument.Unused in
    let c = get_or required 2 argument.Unused in
    then_keeps (λ x. x ≡ argument_word words 1 a) (λ arguments. arguments ≡ argument_words words required) (effect.argument_in state 1 a) _
    (argument_held state words holds 1 a) (λ x one.
    then_keeps (λ y. y ≡ argument_word words 2 b) (λ arguments. arguments ≡ argument_words words required) (effect.argument_in state 2 b) _
    (argument_held state words holds 2 b) (λ y two.
    then_keeps (λ z. z ≡ argument_word words 3 c) (λ arguments. arguments ≡ argument_words words required) (effect.argument_in state 3 c) _
    (argument_held state words holds 3 c) (λ z three. cc)))

-- lending bytes of the frame keeps the arguments as they are

lent_if : (test : Bool) (cause : Cause) (arguments : List ℕ)
    → IfPasses (λ lent. lent ≡ arguments) (if test then Ok arguments else Err cause)
lent_if true cause arguments = refl
lent_if false cause arguments = tt

lend_bytes_held : (arguments words : List ℕ) → arguments ≡ words → IfPasses (λ lent. lent ≡ words) (effect.lend_bytes arguments)
lend_bytes_held arguments words same = subst (λ (w : List ℕ). IfPasses (λ lent. lent ≡ w) (effect.lend_bytes arguments)) same
    (lent_if _ OutOfBounds arguments)

lend_frame_held : (state : State) (frame : FrameUse) (words : List ℕ) (arguments : List ℕ) → arguments ≡ words
    → IfPasses (λ lent. lent ≡ words) (effect.lend_frame state frame arguments)
lend_frame_held state frame_use.Nothing words arguments same = same
lend_frame_held state frame_use.Writes words arguments same = lend_bytes_held arguments words same
lend_frame_held state frame_use.Reads words arguments same =
    then_keeps (λ lent. lent ≡ words) (λ lent. lent ≡ words) (effect.lend_bytes arguments) (effect.lend_written state)
    (lend_bytes_held arguments words same)
    (λ lent is. subst (λ (w : List ℕ). IfPasses (λ other. other ≡ w) (effect.lend_written state lent)) is (lent_if _ UnwrittenFrame lent))

-- what a call reads: written bytes equal the bytes that represent them

front_read : (memory : List FrameByte) (bytes : List ℕ) (count : ℕ) → AreBytesOf memory bytes → length bytes ≡ length memory
    → all_written (take count memory) ≡ true → take count bytes ≡ written_bytes (take count memory)
front_read memory bytes zero represent same all = refl
front_read [] [] (suc count) represent same all = refl
front_read (Unwritten ∷ memory) (byte ∷ bytes) (suc count) represent same all = absurd (false≢true all)
front_read (Byte written ∷ memory) (byte ∷ bytes) (suc count) represent same all =
    let first = represent 0 in let rest = front_read memory bytes count (λ i. represent (suc i)) (omega arith) all in
    ap (λ (b : ℕ). b ∷ take count bytes) first ∙ ap (λ (l : List ℕ). written ∷ l) rest
front_read memory bytes count represent same all = absurd (omega arith)

part_read : (memory : List FrameByte) (bytes : List ℕ) (at count : ℕ) → AreBytesOf memory bytes → length bytes ≡ length memory
    → all_written (take count (drop at memory)) ≡ true → take count (drop at bytes) ≡ written_bytes (take count (drop at memory))
part_read memory bytes zero count represent same all = front_read memory bytes count represent same all
part_read [] [] (suc at) count represent same all = front_read [] [] count represent same all
part_read (other ∷ memory) (byte ∷ bytes) (suc at) count represent same all =
    part_read memory bytes at count (λ i. represent (suc i)) (omega arith) all
part_read memory bytes at count represent same all = absurd (omega arith)

bytes_read_held : (memory : List FrameByte) (bytes : List ℕ) (frame : FrameUse) (arguments : List ℕ) → AreBytesOf memory bytes
    → length bytes ≡ length memory → all_written (bytes_read frame arguments memory) ≡ true
    → bytes_read frame arguments bytes ≡ written_bytes (bytes_read frame arguments memory)
bytes_read_held memory bytes frame_use.Reads arguments represent same all =
    part_read memory bytes (second arguments) (third arguments) represent same all
bytes_read_held memory bytes frame arguments represent same all = refl

-- what a call writes, if anything, lies within the frame

record HoldFrame (frame : FrameContents) (bytes : List ℕ) : Type 0 where
  whole : length bytes ≡ FRAME_LENGTH
  represent : AreBytesOf frame.bytes bytes
  slots : AreWordsOfSlots frame.slots bytes

module _ (frame : FrameContents) (bytes : List ℕ) (hold : HoldFrame frame bytes) where
  nothing_written : (new : List ℕ) (at : ℕ) → length new ≡ 0 → HoldFrame (write_bytes frame at new) (write bytes at new)
  nothing_written [] at none = record {
    whole = ap length (write-nothing bytes at) ∙ hold.whole;
    represent = subst (λ (m : List FrameByte). AreBytesOf m (write bytes at [])) (sym (write-nothing frame.bytes at))
        (subst (AreBytesOf frame.bytes) (sym (write-nothing bytes at)) hold.represent);
    slots = subst (AreWordsOfSlots frame.slots) (sym (write-nothing bytes at)) hold.slots;
  }
  nothing_written (byte ∷ new) at none = absurd (omega arith)

  bytes_written : (new : List ℕ) (lent : FrameUse) (arguments : List ℕ) → length frame.bytes ≡ FRAME_LENGTH → length frame.slots ≡ SLOTS
      → LieWithin lent arguments → length new ≡ written_length lent arguments
      → HoldFrame (write_bytes frame (second arguments) new) (write bytes (second arguments) new)
  bytes_written new frame_use.Writes arguments long many within count =
      let whole = hold.whole in
      record {
        whole = length-write bytes new (second arguments) (omega arith) ∙ hold.whole;
        represent = write-bytes_of frame.bytes bytes new (second arguments) (omega arith) (omega arith) hold.represent;
        slots = overwrite-words_of frame.slots bytes new (second arguments) (omega arith) (omega arith) hold.slots;
      }
  bytes_written new lent arguments long many within count = nothing_written new (second arguments) count

-- the registers after a call

registers_held : (values : List Value) (words : List ℕ) (answer : ℕ) → 0 < length words → answer < 2 ^ 64
    → ((register : ℕ) → IsWordOf (get_or values register value.Empty) (get_or words register 0))
    → (register : ℕ) → IsWordOf (get_or (step.registers_after answer values) register value.Empty)
    (get_or (slice_set words 0 answer) register 0)
registers_held values [] answer some fits all register = absurd (omega arith)
registers_held values (word ∷ words) answer some fits all zero = (refl, fits)
registers_held values (word ∷ words) answer some fits all (suc (suc (suc (suc (suc (suc register)))))) =
    let place : 6 + register ≡ suc (suc (suc (suc (suc (suc register))))) = omega arith in
    subst (λ (v : Value). IsWordOf v (get_or words (suc (suc (suc (suc (suc register))))) 0))
    (sym (get_or-drop 6 values register value.Empty ∙ ap (λ (n : ℕ). get_or values n value.Empty) place))
    (all (suc (suc (suc (suc (suc (suc register)))))))
registers_held values (word ∷ words) answer some fits all register = tt

-- a call whose checks have passed

module _ (segment : SegmentParts) (state : State) (words : Words) (is : IsSegment segment) (whole : IsWellFormed state) (holds : Holds state words)
    (helper : Helper) where
  called_alike : (arguments : List ℕ) → effect.CanBeCalled state helper arguments
      → called segment words helper arguments ≡ step.called segment state helper arguments
  called_alike arguments can =
      let bytes = bytes_read_held state.frame.bytes words.frame (frame_use (signature helper).group) arguments holds.frame
      (holds.whole ∙ sym whole.frame) can.written in
      ap (λ (read : List ℕ). call helper segment arguments read words.score) bytes
      ∙ ap (λ (score : ℕ). call helper segment arguments
      (written_bytes (bytes_read (frame_use (signature helper).group) arguments state.frame.bytes)) score) holds.score

  after_held : (arguments : List ℕ) → effect.CanBeCalled state helper arguments
      → HoldsChange segment state (CallHelper helper arguments)
      (words_after words (second arguments) (step.called segment state helper arguments))
  after_held arguments can =
      let read = written_bytes (bytes_read (frame_use (signature helper).group) arguments state.frame.bytes) in
      let done = step.called segment state helper arguments in
      let frame =
      bytes_written state.frame words.frame (record { whole = holds.whole; represent = holds.frame; slots = holds.slots }) done.written
      (frame_use (signature helper).group) arguments whole.frame whole.slots can.meets.within
      (written-length helper segment arguments read state.score is can.meets) in
      let registers = whole.registers in
      let count = holds.count in
      record {
        count = omega (arith, length-set words.registers 0 done.answer, length-drop 6 state.registers);
        registers = registers_held state.registers words.registers done.answer (omega arith)
            (answer-fits helper segment arguments read state.score is can.meets) holds.registers;
        whole = frame.whole;
        frame = frame.represent;
        slots = frame.slots;
        score = refl;
      }

  made_held : (result : Result (List ℕ) Cause) → IfPasses (λ arguments. arguments ≡ argument_words words (signature helper).arguments)
      result → IfPasses (effect.CanBeMade state) (result >>= λ arguments. Ok (CallHelper helper arguments))
      → Sound (HoldsChange segment state) (result >>= λ arguments. Ok (CallHelper helper arguments)) (Ok (call_helper segment words helper))
  made_held (Err cause) same can = tt
  made_held (Ok arguments) same can =
      subst (λ (others : List ℕ). HoldsChange segment state (CallHelper helper arguments)
      (words_after words (second others) (called segment words helper others))) same
      (subst (λ done. HoldsChange segment state (CallHelper helper arguments) (words_after words (second arguments) done))
      (sym (called_alike arguments can)) (after_held arguments can))

  pub call_held : Sound (HoldsChange segment state) (effect.call_helper state helper) (Ok (call_helper segment words helper))
  call_held =
      made_held (effect.arguments_in state (signature helper).arguments >>= effect.lend_frame state (frame_use (signature helper).group))
      (then_keeps _ _ (effect.arguments_in state (signature helper).arguments) _
      (arguments_held state words holds (signature helper).arguments) (lend_frame_held state (frame_use (signature helper).group) _))
      (called_can_be_made state (Some helper))

  made_meets : (result : Result (List ℕ) Cause) → IfPasses (λ arguments. arguments ≡ argument_words words (signature helper).arguments)
      result → IfPasses (effect.CanBeMade state) (result >>= λ arguments. Ok (CallHelper helper arguments))
      → IfPasses (λ change. MeetsSignature helper (argument_words words (signature helper).arguments))
      (result >>= λ arguments. Ok (CallHelper helper arguments))
  made_meets (Err cause) same can = tt
  made_meets (Ok arguments) same can = subst (MeetsSignature helper) same can.meets

  pub call_meets : IfPasses (λ change. MeetsSignature helper (argument_words words (signature helper).arguments))
      (effect.call_helper state helper)
  call_meets =
      made_meets (effect.arguments_in state (signature helper).arguments >>= effect.lend_frame state (frame_use (signature helper).group))
      (then_keeps _ _ (effect.arguments_in state (signature helper).arguments) _
      (arguments_held state words holds (signature helper).arguments) (lend_frame_held state (frame_use (signature helper).group) _))
      (called_can_be_made state (Some helper))
