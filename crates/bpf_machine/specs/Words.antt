-- A machine over bare words: registers 0 to 10 (RFC 9669, section 3.1), of 64 bits each, and a frame of plain bytes. A word doesn't show whether it
-- represents a number or a pointer, nor a byte whether it was written. So the machine only checks that bytes lie within their area: its words are
-- right if the checks of the instruction's meaning pass.
use Rattle.std.specs.Prelude.{◌≡◌, ℕ, ◌+◌, ◌*◌, ◌^◌, ◌<◌, ℤ, ◌+ℤ◌, unsigned_abs, IsTrue, List, [], ◌∷◌, length, take, drop, get_or, slice_set, Option, Some, None, IfSome, Result, Ok, Err, if◌then◌else◌}
use Rattle.std.specs.Int.{bytes_low_first, cast_signed, cast_unsigned, w32, w64}
use Rattle.tl_segments.specs.Segment.{SegmentParts}
use Rattle.bpf_insn.specs.Arithmetic.{result_of, negate, extension_of, byte_swap, low_bits, operand_bits, condition_holds, immediate_operand, wide_number, load_extension}
use Rattle.bpf_insn.specs.Code.{place_of}
use Rattle.bpf_insn.specs.Memory.{load_length, store_length}
use Rattle.bpf_insn.specs.Pointer.{is_offset}
use Rattle.bpf_insn.specs.declared.instruction.Insn.{Insn}
use Rattle.bpf_insn.specs.declared.instruction.Insn.TheVariants.{Call}
use Rattle.bpf_insn.specs.declared.instruction.LoadFormat.{LoadFormat}
use Rattle.bpf_insn.specs.declared.instruction.StoreSize.{StoreSize}
use Rattle.bpf_insn.specs.declared.memory.TheConstants.{FRAME_LENGTH}
use Rattle.bpf_insn.specs.declared.value.Area.{Area}
use Rattle.bpf_insn.specs.declared.value.Area.TheVariants.{Record, Frame}
use Rattle.bpf_insn.specs.declared.value.Pointer.{Pointer as PointerParts}
use Rattle.bpf_insn.specs.declared.value.Value.{Value}
use Rattle.bpf_insn.specs.declared.value.Value.TheVariants.{Empty, Number, Pointer}
use Rattle.bpf_helpers.specs.Call.{Called, MeetsSignature, bytes_read, call, second, write}
use Rattle.bpf_helpers.specs.Helper.{by_number, signature}
use Rattle.bpf_helpers.specs.Group.{frame_use}
use Rattle.bpf_helpers.specs.declared.helper.Helper.{Helper}
use Rattle.bpf_helpers.specs.declared.signature.Argument.{Argument}
use Rattle.bpf_helpers.specs.declared.signature.Argument.TheVariants as argument
use Rattle.bpf_meaning.specs.Effect.{lie_within}
use Rattle.bpf_insn.specs.Frame.{FrameByte, Unwritten, Byte, slot_bytes, slot_pointer}
use Rattle.bpf_meaning.specs.State.{register_value}
use Rattle.bpf_meaning.specs.Step.{Configuration, Running, Exited, apply}
use Rattle.bpf_meaning.specs.Walk.{Registers, Domain, walk}
use Rattle.bpf_meaning.specs.declared.cause.Cause.{Cause}
use Rattle.bpf_meaning.specs.declared.cause.Cause.TheVariants.{OutOfBounds}
use Rattle.bpf_meaning.specs.declared.effect.Effect.{Effect}
use Rattle.bpf_meaning.specs.declared.state.State.{State}
use Rattle.bpf_machine.specs.declared.bare.Bare.{Bare}

-- the words in the registers, the bytes of the frame, and the score
pub record Words : Type 0 where
  pub registers : List ℕ
  pub frame : List ℕ
  pub score : ℕ

-- the result of an instruction: words at an entry, or the end with an answer
pub data Next : Type 0 where
  Continues : (words : Words) (at : ℕ) → Next
  Ends : (answer score : ℕ) → Next

-- the words of a machine
abbrev pub words_of : Bare → Words
words_of bare = record { registers = bare.registers.words; frame = bare.frame; score = bare.score }

-- the word in a register
abbrev pub word_in : Words → ℕ → ℕ
word_in words register = get_or words.registers register 0

-- words with a register set
abbrev pub with_word : Words → ℕ → ℕ → Words
with_word words register word = record words { registers = slice_set words.registers register word }

-- the pointer into an area that a word represents
abbrev pub pointer_of : Area → ℕ → PointerParts
pointer_of area word = record { area = area; offset = cast_signed w64 word }

-- the end of a program with these words
abbrev pub end_of : Words → Next
end_of words = Ends (word_in words 0) words.score

-- the result of an instruction, with the words after it: at an entry, or at the end
abbrev pub next_of : Option ℕ → Words → Next
next_of (Some at) words = Continues words at
next_of None words = end_of words

-- the registers as words that point into these areas: every word can be read, and is its own number
abbrev pub word_registers : (ℕ → Area) → Words → Registers
word_registers areas words = record {
  Value = ℕ;
  Number = ℕ;
  Pointer = PointerParts;
  read = λ register. Ok (word_in words register);
  number = λ word. word;
  number_or = λ cause word. Ok word;
  pointer_in = λ register. Ok (pointer_of (areas register) (word_in words register));
  immediate = immediate_operand;
  compared = λ width immediate. immediate_operand immediate;
  wide = wide_number;
  extend = extension_of;
  negate = negate;
  byte_swap = byte_swap;
  move = λ width word. Ok (low_bits (operand_bits width) word);
  operate = λ operation width x y. Ok (result_of operation width x y);
}

-- the little-endian number that bytes represent
abbrev pub number_of : List ℕ → ℕ
number_of [] = 0
number_of (byte ∷ bytes) = byte + 256 * number_of bytes

-- the bytes of an area
abbrev pub area_bytes : SegmentParts → Words → Area → List ℕ
area_bytes segment words Record = segment.bytes
area_bytes segment words Frame = words.frame

-- where a base register plus an offset points
abbrev pub address : Words → ℕ → ℤ → ℤ
address words base offset = cast_signed w64 (word_in words base) +ℤ offset

-- a load of bytes from an offset on
abbrev pub loaded : LoadFormat → List ℕ → ℕ → ℕ
loaded format bytes at = load_extension format (number_of (take (load_length format) (drop at bytes)))

abbrev pub load_bytes : LoadFormat → List ℕ → ℤ → Result ℕ Cause
load_bytes format bytes from =
    if lie_within from (load_length format) (length bytes) then Ok (loaded format bytes (unsigned_abs from)) else Err OutOfBounds

-- the low bytes of a number stored in the frame from an offset on, lowest first
abbrev pub stored : Words → ℕ → StoreSize → ℕ → Words
stored words at size number = record words { frame = write words.frame at (bytes_low_first 0 (store_length size) number) }

abbrev pub store_at : Words → ℤ → StoreSize → ℕ → Result Words Cause
store_at words from size number =
    if lie_within from (store_length size) FRAME_LENGTH then Ok (stored words (unsigned_abs from) size number) else Err OutOfBounds

-- an argument, in the register of its number; an unused one is 0
abbrev pub argument_word : Words → ℕ → Argument → ℕ
argument_word words number argument.Unused = 0
argument_word words number required = word_in words number

-- the arguments that a prototype requires, in order
abbrev pub argument_words : Words → List Argument → List ℕ
argument_words words required =
    argument_word words 1 (get_or required 0 argument.Unused) ∷ argument_word words 2 (get_or required 1 argument.Unused) ∷ argument_word words 3 (get_or required 2 argument.Unused) ∷ []

-- what a call with these arguments does on the segment, with the bytes that it reads of the frame
abbrev pub called : SegmentParts → Words → Helper → List ℕ → Called
called segment words helper arguments = call helper segment arguments (bytes_read (frame_use (signature helper).group) arguments words.frame) words.score

-- The words after a call whose bytes are written from an offset on. Only register 0 is set: the other registers that a call empties may hold
-- anything.
abbrev pub words_after : Words → ℕ → Called → Words
words_after words at called = record {
  registers = slice_set words.registers 0 called.answer;
  frame = write words.frame at called.written;
  score = called.score;
}

-- the call of a helper function
abbrev pub call_helper : SegmentParts → Words → Helper → Words
call_helper segment words helper =
    let arguments = argument_words words (signature helper).arguments in words_after words (second arguments) (called segment words helper arguments)

-- the arguments of a call meet the prototype of its helper function, if there is one
abbrev pub MeetsCall : Words → Insn → Type 0
MeetsCall words (Call immediate) =
    IfSome (by_number (cast_unsigned w32 immediate)) (λ helper. MeetsSignature helper (argument_words words (signature helper).arguments))
MeetsCall words insn = Unit {0}

-- What an instruction sees and can do if registers hold words, with the areas that they point into, the entry of the next instruction, and the
-- entry that it jumps to, if it jumps. An entry is an instruction's index.
abbrev pub bare_words : SegmentParts → (ℕ → Area) → Words → ℕ → ℕ → Domain
bare_words segment areas words next target = record {
  registers = word_registers areas words;
  Offset = ℤ;
  Change = Words;
  Outcome = Next;
  load = λ format pointer offset. load_bytes format (area_bytes segment words pointer.area) (pointer.offset +ℤ offset);
  frame = λ pointer offset. Ok (pointer.offset +ℤ offset);
  store_at = λ from offset size number. store_at words from size number;
  call = λ helper. Ok (call_helper segment words helper);
  set = λ destination word. Ok (Continues (with_word words destination.number word) next);
  continue_with = λ updated. Ok (Continues updated next);
  jump = λ distance. Ok (Continues words target);
  branch = λ jump x y. Ok (Continues words (if condition_holds jump.condition jump.width x y then target else next));
  end = λ answer. Ok (Ends answer words.score);
}

-- the result of an instruction on bare words; it fails only if it accesses memory outside an area, or calls a number that no helper has
unfoldable pub next_words : SegmentParts → (ℕ → Area) → Words → ℕ → ℕ → Insn → Result Next Cause
next_words segment areas words next target insn = walk (bare_words segment areas words next target) insn

-- A word represents a value: a number of 64 bits, or a pointer by its offset in two's complement. If there is no value, any word will do.
abbrev pub IsWordOf : Value → ℕ → Type 0
IsWordOf Empty word = Unit {0}
IsWordOf (Number n) word = (word ≡ n) × (n < 2 ^ 64)
IsWordOf (Pointer pointer) word = (word ≡ cast_unsigned w64 pointer.offset) × IsTrue (is_offset pointer.offset)

-- a byte represents a byte of a frame: the one that is written, or any if none is
abbrev pub IsByteOf : FrameByte → ℕ → Type 0
IsByteOf Unwritten byte = Unit {0}
IsByteOf (Byte written) byte = byte ≡ written

-- a word represents the pointer in a slot, by its offset in two's complement; if there is none, any word will do
abbrev pub IsWordOfSlot : Option PointerParts → ℕ → Type 0
IsWordOfSlot None word = Unit {0}
IsWordOfSlot (Some pointer) word = IsWordOf (Pointer pointer) word

-- words hold a state: register by register, byte by byte, slot by slot, and with its score
pub record Holds (state : State) (words : Words) : Type 0 where
  pub count : length words.registers ≡ length state.registers
  pub registers : (register : ℕ) → IsWordOf (register_value state register) (word_in words register)
  pub whole : length words.frame ≡ FRAME_LENGTH
  pub frame : (at : ℕ) → IsByteOf (get_or state.frame.bytes at Unwritten) (get_or words.frame at 0)
  pub slots : (slot : ℕ) → IsWordOfSlot (slot_pointer state.frame slot) (number_of (slot_bytes words.frame slot))
  pub score : words.score ≡ state.score

-- a result holds a configuration: its words are at the entry of the state's place and hold the state, or it is the end with the same answer and
-- score
abbrev pub HoldsNext : List Insn → Configuration → Next → Type 0
HoldsNext code (Running state) (Continues words at) = (state.place ≡ place_of code at) × Holds state words
HoldsNext code (Exited answer score) (Ends word word_score) = (word ≡ answer) × (word_score ≡ score)
HoldsNext code configuration next = ⊥

-- a result holds what an effect leads to
abbrev pub HoldsEffect : List Insn → SegmentParts → State → Effect → Next → Type 0
HoldsEffect code segment state effect next = HoldsNext code (apply segment state effect) next

-- a value points into this area, if it's a pointer
abbrev pub PointsOnlyInto : Value → Area → Type 0
PointsOnlyInto (Pointer pointer) area = area ≡ pointer.area
PointsOnlyInto value area = Unit {0}

-- each register of a state that holds a pointer points into the register's area
abbrev pub HasAreas : State → (ℕ → Area) → Type 0
HasAreas state areas = (register : ℕ) → PointsOnlyInto (register_value state register) (areas register)
