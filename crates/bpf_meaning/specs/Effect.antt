-- The effects of instructions (RFC 9669, sections 4 and 5). Which checks precede an effect, and in which order, is this project's own choice.
use Rattle.std.specs.Prelude.{ℕ, ◌+◌, ◌≤◌, ◌<◌, ℤ, pos, negsuc, ◌+ℤ◌, ◌-ℤ◌, ◌&&◌, Bool, List, [], ◌∷◌, map, take, drop, get_or, length, unsigned_abs, int_le, nat_le, nat_lt, Option, Some, None, Result, Ok, Err, is_some, IsTrue, if◌then◌else◌}
use Rattle.std.specs.Int.{cast_signed, cast_unsigned, w32, w64}
use Rattle.bpf_insn.specs.Arithmetic.{result_of, negate, extension_of, byte_swap, low_bits, condition_holds, immediate_operand, wide_number, load_extension}
use Rattle.bpf_insn.specs.Memory.{load_length, store_length}
use Rattle.bpf_insn.specs.Pointer.{is_offset}
use Rattle.bpf_insn.specs.Code.{instruction_at, spelling, word_count}
use Rattle.bpf_insn.specs.declared.instruction.Insn.{Insn}
use Rattle.bpf_insn.specs.declared.instruction.Width.{Width}
use Rattle.bpf_insn.specs.declared.instruction.Source.{Source}
use Rattle.bpf_insn.specs.declared.instruction.Condition.{Condition}
use Rattle.bpf_insn.specs.declared.instruction.LoadFormat.{LoadFormat}
use Rattle.bpf_insn.specs.declared.instruction.StoreSize.{StoreSize}
use Rattle.bpf_insn.specs.declared.register.WritableRegister.{WritableRegister}
use Rattle.bpf_insn.specs.declared.value.Area.{Area}
use Rattle.bpf_insn.specs.declared.value.Area.TheVariants.{Record, Frame}
use Rattle.bpf_insn.specs.declared.value.Pointer.{Pointer as PointerParts}
use Rattle.bpf_insn.specs.declared.value.Value.{Value}
use Rattle.bpf_insn.specs.declared.value.Value.TheVariants.{Empty, Number, Pointer}
use Rattle.tl_segments.specs.Segment.{SegmentParts}
use Rattle.bpf_kinds.specs.declared.interval.Interval.{Interval}
use Rattle.bpf_helpers.specs.Call.{MeetsSignature, bytes_read, second, third}
use Rattle.bpf_helpers.specs.Helper.{signature}
use Rattle.bpf_helpers.specs.Group.{frame_use}
use Rattle.bpf_helpers.specs.declared.helper.Helper.{Helper}
use Rattle.bpf_helpers.specs.declared.signature.Argument.{Argument}
use Rattle.bpf_helpers.specs.declared.signature.Argument.TheVariants as argument
use Rattle.bpf_helpers.specs.declared.signature.FrameUse.{FrameUse}
use Rattle.bpf_helpers.specs.declared.signature.FrameUse.TheVariants as frame_use
use Rattle.bpf_helpers.specs.declared.signature.FrameUse.TheVariants.{Writes, Reads}
use Rattle.bpf_meaning.specs.Tags as tags
use Rattle.bpf_meaning.specs.Walk as walk
use Rattle.bpf_meaning.specs.Walk.{Registers, Domain}
use Rattle.bpf_insn.specs.Frame as memory
use Rattle.bpf_insn.specs.Frame.{FrameByte, FrameContents, number_of, slot_at, slot_value}
use Rattle.bpf_meaning.specs.Memory.{all_written}
use Rattle.bpf_meaning.specs.State.{register_value}
use Rattle.bpf_meaning.specs.declared.cause.Cause.{Cause}
use Rattle.bpf_meaning.specs.declared.cause.Cause.TheVariants.{OutOfProgram, IntoWide, ReadsNothing, PointerArithmetic, LeavesArea, NotPointer, OutOfBounds, UnwrittenFrame, WritesRecord, StoresPointer, ComparesPointer, UnknownHelper, BadArgument}
use Rattle.bpf_meaning.specs.declared.effect.Change.{Change}
use Rattle.bpf_meaning.specs.declared.effect.Change.TheVariants.{Nothing, SetRegister, StoreBytes, StorePointer, CallHelper}
use Rattle.bpf_meaning.specs.declared.effect.Effect.{Effect}
use Rattle.bpf_meaning.specs.declared.effect.Effect.TheVariants.{Continue, End}
use Rattle.bpf_insn.specs.declared.memory.TheConstants.{FRAME_LENGTH, SLOTS}
use Rattle.bpf_meaning.specs.declared.state.State.{State}
pub use Rattle.bpf_meaning.specs.Checks.{◌>>=◌}

-- the value read from a register, if the register holds one
abbrev pub read_value : ℕ → Value → Result Value Cause
read_value register Empty = Err (ReadsNothing register)
read_value register (Number n) = Ok (Number n)
read_value register (Pointer pointer) = Ok (Pointer pointer)

-- the value of a register that is read
abbrev pub read : State → ℕ → Result Value Cause
read state register = read_value register (register_value state register)

-- the number that a value is, or the cause if it is none
abbrev pub number_or : Cause → Value → Result ℕ Cause
number_or cause (Number n) = Ok n
number_or cause value = Err cause

-- an offset, which must lie in the range of offsets
abbrev pub offset_or : ℤ → Result ℤ Cause
offset_or offset = if is_offset offset then Ok offset else Err LeavesArea

-- a number that a pointer may be moved by, read as two's complement: it must lie in the range of offsets too
abbrev pub near_distance : ℕ → Result ℤ Cause
near_distance number = if is_offset (cast_signed w64 number) then Ok (cast_signed w64 number) else Err PointerArithmetic

-- a value as a tagged one
abbrev pub tagged_value : Value → tags.Tagged ℕ ℤ
tagged_value Empty = tags.Empty
tagged_value (Number n) = tags.Number n
tagged_value (Pointer pointer) = tags.Pointer pointer.area pointer.offset

-- values, with numbers and offsets
abbrev pub value_tags : tags.Tags
value_tags = record {
  Values = Value;
  Numbers = ℕ;
  Offsets = ℤ;
  Distances = ℤ;
  tagged = tagged_value;
  number = Number;
  pointer = λ area offset. Pointer (record { area = area; offset = offset });
  result = result_of;
  low_half = low_bits w32;
  distance = near_distance;
  forwards = λ offset distance. offset_or (offset +ℤ distance);
  backwards = λ offset distance. offset_or (offset -ℤ distance);
}

-- whether a conditional jump is taken
abbrev pub compare : Condition → Width → Value → Value → Result Bool Cause
compare condition width (Number x) (Number y) = Ok (condition_holds condition width x y)
compare condition width x y = Err ComparesPointer

-- the pointer in the base register of a load or a store
abbrev pub only_pointer : Value → Result PointerParts Cause
only_pointer (Pointer pointer) = Ok pointer
only_pointer value = Err NotPointer

abbrev pub pointer_in : State → ℕ → Result PointerParts Cause
pointer_in state register = read state register >>= only_pointer

-- `count` bytes from an offset on lie within the first `bytes` bytes of an area
abbrev pub lie_within : ℤ → ℕ → ℕ → Bool
lie_within offset count bytes = int_le (pos 0) offset && int_le (offset +ℤ pos count) (pos bytes)

-- the value that a load yields for the number in the bytes, if they are all written
abbrev pub load_number : LoadFormat → Option ℕ → Result Value Cause
load_number format None = Err UnwrittenFrame
load_number format (Some n) = Ok (Number (load_extension format n))

-- a load of bytes from an offset on, which must lie within the area and be written
abbrev pub load_bytes : LoadFormat → List FrameByte → ℤ → Result Value Cause
load_bytes format bytes offset =
    if lie_within offset (load_length format) (length bytes)
    then load_number format (number_of (take (load_length format) (drop (unsigned_abs offset) bytes)))
    else Err OutOfBounds

-- the value that a load of a whole slot yields, if the slot holds one
abbrev pub load_slot : Value → Result Value Cause
load_slot Empty = Err UnwrittenFrame
load_slot (Number n) = Ok (Number n)
load_slot (Pointer pointer) = Ok (Pointer pointer)

-- a load of bytes within the frame, from an offset on; a load of a whole slot yields the slot's contents
abbrev pub load_within : LoadFormat → FrameContents → ℕ → Result Value Cause
load_within format frame at = by_slot (slot_at at (load_length format))
  where
    by_slot : Option ℕ → Result Value Cause
    by_slot None = load_number format (number_of (take (load_length format) (drop at frame.bytes)))
    by_slot (Some slot) = load_slot (slot_value frame slot)

-- a load from the frame, from an offset on
abbrev pub load_frame : LoadFormat → FrameContents → ℤ → Result Value Cause
load_frame format frame offset =
    if lie_within offset (load_length format) (length frame.bytes) then load_within format frame (unsigned_abs offset) else Err OutOfBounds

-- a load from an area, from an offset on; all bytes of the record are written
abbrev pub load_from : SegmentParts → State → LoadFormat → Area → ℤ → Result Value Cause
load_from segment state format Record offset = load_bytes format (map memory.Byte segment.bytes) offset
load_from segment state format Frame offset = load_frame format state.frame offset

-- the value that a load yields; it begins where its base points, plus an offset
abbrev pub load_value : SegmentParts → State → LoadFormat → ℕ → ℤ → Result Value Cause
load_value segment state format base offset =
    pointer_in state base >>= λ pointer. load_from segment state format pointer.area (pointer.offset +ℤ offset)

-- what registers hold, if they hold values
abbrev pub value_registers : State → Registers
value_registers state = record {
  Value = Value;
  Number = ℕ;
  Pointer = PointerParts;
  read = read state;
  number = Number;
  number_or = number_or;
  pointer_in = pointer_in state;
  immediate = λ immediate. Number (immediate_operand immediate);
  compared = λ width immediate. Number (immediate_operand immediate);
  wide = wide_number;
  extend = extension_of;
  negate = negate;
  byte_swap = byte_swap;
  move = tags.move value_tags;
  operate = tags.operate value_tags;
}

abbrev pub operand : State → Source → Result Value Cause
operand state source = walk.operand (value_registers state) source

-- an offset into the frame: the record is read-only
abbrev pub frame_offset : Area → ℤ → Result ℤ Cause
frame_offset Frame offset = Ok offset
frame_offset Record offset = Err WritesRecord

-- a number stored in the frame from an offset on, whose bytes must lie within it
abbrev pub store_number : ℤ → StoreSize → ℕ → Result Change Cause
store_number offset size number =
    if lie_within offset (store_length size) FRAME_LENGTH then Ok (StoreBytes (unsigned_abs offset) size number) else Err OutOfBounds

-- a pointer stored in the frame from an offset on: only a whole slot can hold one, and it must lie within the frame
abbrev pub store_pointer : ℤ → StoreSize → PointerParts → Result Change Cause
store_pointer offset size pointer = by_slot (slot_at (unsigned_abs offset) (store_length size))
  where
    by_slot : Option ℕ → Result Change Cause
    by_slot None = Err StoresPointer
    by_slot (Some slot) = if lie_within offset (store_length size) FRAME_LENGTH then Ok (StorePointer slot pointer) else Err OutOfBounds

-- a value stored in the frame from an offset on
abbrev pub store_at : ℤ → StoreSize → Value → Result Change Cause
store_at offset size Empty = Err StoresPointer
store_at offset size (Number n) = store_number offset size n
store_at offset size (Pointer pointer) = store_pointer offset size pointer

-- the change that a store makes to the frame; it begins where its base points, plus an offset
abbrev pub store_change : State → StoreSize → ℕ → ℤ → Source → Result Change Cause
store_change state size base offset source =
    pointer_in state base >>= λ pointer. frame_offset pointer.area (pointer.offset +ℤ offset) >>= λ from. operand state source >>= store_at from size

-- a number lies in an interval that a prototype allows
abbrev pub is_allowed : Interval → ℕ → Bool
is_allowed x n = nat_le x.low n && nat_le n x.high

-- The word for an argument: a number that the prototype allows, or a pointer into the frame as its offset in two's complement. Any other value is a
-- bad argument.
abbrev pub argument_word : ℕ → Argument → Value → Result ℕ Cause
argument_word number argument.Unused value = Ok 0
argument_word number (argument.Number allowed) (Number n) = if is_allowed allowed n then Ok n else Err (BadArgument number)
argument_word number argument.Frame (Pointer pointer) = frame_word pointer.area
  where
    frame_word : Area → Result ℕ Cause
    frame_word Frame = Ok (cast_unsigned w64 pointer.offset)
    frame_word Record = Err (BadArgument number)
argument_word number required value = Err (BadArgument number)

-- the argument with a number, counted from 1, in the register of that number; an unused argument isn't read
abbrev pub argument_in : State → ℕ → Argument → Result ℕ Cause
argument_in state number argument.Unused = Ok 0
argument_in state number (argument.Number allowed) = read state number >>= argument_word number (argument.Number allowed)
argument_in state number argument.Frame = read state number >>= argument_word number argument.Frame

-- the arguments that a prototype requires, in order
abbrev pub arguments_in : State → List Argument → Result (List ℕ) Cause
arguments_in state required =
    argument_in state 1 (get_or required 0 argument.Unused) >>= λ one.
    argument_in state 2 (get_or required 1 argument.Unused) >>= λ two.
    argument_in state 3 (get_or required 2 argument.Unused) >>= λ three. Ok (one ∷ two ∷ three ∷ [])

-- the bytes of the frame that a call reads or writes lie within it
abbrev pub lend_bytes : List ℕ → Result (List ℕ) Cause
lend_bytes arguments =
    if lie_within (cast_signed w64 (second arguments)) (third arguments) FRAME_LENGTH then Ok arguments else Err OutOfBounds

-- the bytes that it reads are written
abbrev pub lend_written : State → List ℕ → Result (List ℕ) Cause
lend_written state arguments = if all_written (bytes_read Reads arguments state.frame.bytes) then Ok arguments else Err UnwrittenFrame

abbrev pub lend_frame : State → FrameUse → List ℕ → Result (List ℕ) Cause
lend_frame state frame_use.Nothing arguments = Ok arguments
lend_frame state Writes arguments = lend_bytes arguments
lend_frame state Reads arguments = lend_bytes arguments >>= lend_written state

-- the call of a helper function whose arguments meet its prototype
abbrev pub call_helper : State → Helper → Result Change Cause
call_helper state helper =
    arguments_in state (signature helper).arguments >>= lend_frame state (frame_use (signature helper).group) >>= λ arguments. Ok (CallHelper helper arguments)

-- a call by a number (section 4.3.1)
abbrev pub call_change : State → Option Helper → Result Change Cause
call_change state None = Err UnknownHelper
call_change state (Some helper) = call_helper state helper

-- The program goes on at a place, with a change, if an instruction begins there. A place within the code at which none begins is the second word of
-- a wide load.
abbrev pub continue_with : List Insn → ℕ → Change → Result Effect Cause
continue_with code place change =
    if is_some (instruction_at code place) then Ok (Continue change place) else (if nat_lt place (word_count code) then Err IntoWide else Err OutOfProgram)

-- going on with a register set
abbrev pub set_register : List Insn → ℕ → WritableRegister → Value → Result Effect Cause
set_register code place register value = continue_with code place (SetRegister register value)

-- going on without a change, at a place that may lie before the code
abbrev pub continue_at : List Insn → ℤ → Result Effect Cause
continue_at code (pos place) = continue_with code place Nothing
continue_at code (negsuc before) = Err OutOfProgram

-- a jump from a place, whose distance counts words from the word after it (section 4.3)
abbrev pub jump : List Insn → ℕ → ℤ → Result Effect Cause
jump code place distance = continue_at code (pos (place + 1) +ℤ distance)

-- what an instruction sees and can do if registers hold values, in a state, with the next instruction beginning at this place
abbrev pub values : List Insn → SegmentParts → State → ℕ → Domain
values code segment state next = record {
  registers = value_registers state;
  Offset = ℤ;
  Change = Change;
  Outcome = Effect;
  load = λ format pointer offset. load_from segment state format pointer.area (pointer.offset +ℤ offset);
  frame = λ pointer offset. frame_offset pointer.area (pointer.offset +ℤ offset);
  store_at = λ from offset size. store_at from size;
  call = call_helper state;
  set = set_register code next;
  continue_with = continue_with code next;
  jump = jump code state.place;
  branch = λ conditional x y. compare conditional.condition conditional.width x y >>= λ taken.
      if taken then jump code state.place conditional.distance else continue_with code next Nothing;
  end = λ answer. Ok (End answer);
}

-- the effect of an instruction, with the next one beginning at this place
abbrev pub instruction_effect : List Insn → SegmentParts → State → ℕ → Insn → Result Effect Cause
instruction_effect code segment state next insn = walk.walk (values code segment state next) insn

-- the effect of the instruction at the place, if there is one
abbrev pub effect_of : List Insn → SegmentParts → State → Option Insn → Result Effect Cause
effect_of code segment state None = Err OutOfProgram
effect_of code segment state (Some insn) = instruction_effect code segment state (state.place + length (spelling insn)) insn

-- the effect of the instruction at the state's place, or the first check that fails
abbrev pub effect : List Insn → SegmentParts → State → Result Effect Cause
effect code segment state = effect_of code segment state (instruction_at code state.place)

-- a call can be made: its arguments meet its prototype, and what it reads of the frame is written
pub record CanBeCalled (state : State) (helper : Helper) (arguments : List ℕ) : Type 0 where
  pub meets : MeetsSignature helper arguments
  pub written : IsTrue (all_written (bytes_read (frame_use (signature helper).group) arguments state.frame.bytes))

-- a change can be made: stored bytes lie within the frame, so does the slot of a pointer, and a call can be made
abbrev pub CanBeMade : State → Change → Type 0
CanBeMade state Nothing = Unit {0}
CanBeMade state (SetRegister register value) = Unit {0}
CanBeMade state (StoreBytes at size number) = at + store_length size ≤ FRAME_LENGTH
CanBeMade state (StorePointer slot pointer) = slot < SLOTS
CanBeMade state (CallHelper helper arguments) = CanBeCalled state helper arguments

abbrev pub CanBeCarriedOut : State → Effect → Type 0
CanBeCarriedOut state (Continue change place) = CanBeMade state change
CanBeCarriedOut state (End answer) = Unit {0}
