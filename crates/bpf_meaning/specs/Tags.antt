-- Values with a tag: nothing, a number, or a pointer into an area. Operations on them are defined once, for any representation of numbers and
-- offsets.
use Rattle.std.specs.Prelude.{Result, Ok, Err}
use Rattle.bpf_insn.specs.declared.instruction.Operation.{Operation}
use Rattle.bpf_insn.specs.declared.instruction.Operation.TheVariants.{Add, Subtract}
use Rattle.bpf_insn.specs.declared.instruction.Width.{Width}
use Rattle.bpf_insn.specs.declared.instruction.Width.TheVariants.{Bits32, Bits64}
use Rattle.bpf_insn.specs.declared.value.Area.{Area}
use Rattle.bpf_meaning.specs.Checks.{◌>>=◌}
use Rattle.bpf_meaning.specs.declared.cause.Cause.{Cause}
use Rattle.bpf_meaning.specs.declared.cause.Cause.TheVariants.{PointerArithmetic}

-- the tag of a value, with its contents
pub data Tagged (Numbers Offsets : Type 0) : Type 0 where
  Empty : Tagged Numbers Offsets
  Number : (number : Numbers) → Tagged Numbers Offsets
  Pointer : (area : Area) (offset : Offsets) → Tagged Numbers Offsets

-- values that consist of numbers, and of offsets into areas
pub record Tags : Type 1 where
  pub Values : Type 0
  pub Numbers : Type 0
  pub Offsets : Type 0
  pub Distances : Type 0
  pub tagged : Values → Tagged Numbers Offsets
  pub number : Numbers → Values
  pub pointer : Area → Offsets → Values
  -- an operation on numbers, and the low half of one
  pub result : Operation → Width → Numbers → Numbers → Numbers
  pub low_half : Numbers → Numbers
  -- how far a number moves a pointer; an offset that is moved, forward and backward
  pub distance : Numbers → Result Distances Cause
  pub forwards : Offsets → Distances → Result Offsets Cause
  pub backwards : Offsets → Distances → Result Offsets Cause

-- an offset moved by a number of bytes, forward and backward
abbrev pub move_pointer : (T : Tags) → T.Offsets → T.Numbers → Result T.Offsets Cause
move_pointer T offset y = T.distance y >>= T.forwards offset

abbrev pub move_pointer_back : (T : Tags) → T.Offsets → T.Numbers → Result T.Offsets Cause
move_pointer_back T offset y = T.distance y >>= T.backwards offset

-- a 64-bit operation on a pointer and a number
abbrev pub operate_on_pointer : (T : Tags) → Operation → T.Offsets → T.Numbers → Result T.Offsets Cause
operate_on_pointer T Add offset y = move_pointer T offset y
operate_on_pointer T Subtract offset y = move_pointer_back T offset y
operate_on_pointer T operation offset y = Err PointerArithmetic

-- a 64-bit operation on a number and a pointer
abbrev pub operate_with_pointer : (T : Tags) → Operation → T.Numbers → T.Offsets → Result T.Offsets Cause
operate_with_pointer T Add x offset = move_pointer T offset x
operate_with_pointer T operation x offset = Err PointerArithmetic

-- An operation on two values. With 64 bits, a number may be added to a pointer, in either order, and subtracted from one. No other operation takes
-- a pointer.
abbrev pub operate_tagged : (T : Tags) → Operation → Width → Tagged T.Numbers T.Offsets → Tagged T.Numbers T.Offsets → Result T.Values Cause
operate_tagged T operation width (Number x) (Number y) = Ok (T.number (T.result operation width x y))
operate_tagged T operation Bits64 (Pointer area offset) (Number y) = operate_on_pointer T operation offset y >>= λ moved. Ok (T.pointer area moved)
operate_tagged T operation Bits64 (Number x) (Pointer area offset) = operate_with_pointer T operation x offset >>= λ moved. Ok (T.pointer area moved)
operate_tagged T operation width x y = Err PointerArithmetic

abbrev pub operate : (T : Tags) → Operation → Width → T.Values → T.Values → Result T.Values Cause
operate T operation width x y = operate_tagged T operation width (T.tagged x) (T.tagged y)

-- a move copies any value with 64 bits, and the low half of a number with 32 (section 4.1: MOV)
abbrev pub move_tagged : (T : Tags) → Width → T.Values → Tagged T.Numbers T.Offsets → Result T.Values Cause
move_tagged T Bits64 value tagged = Ok value
move_tagged T Bits32 value (Number x) = Ok (T.number (T.low_half x))
move_tagged T Bits32 value tagged = Err PointerArithmetic

abbrev pub move : (T : Tags) → Width → T.Values → Result T.Values Cause
move T width value = move_tagged T width value (T.tagged value)
