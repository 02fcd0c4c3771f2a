-- Instructions in flat form, and the instruction that each stands for. A flat form also keeps a jump's target, and the area that the base of a load
-- points into.
use Rattle.std.specs.Prelude.{◌≡◌, ℕ, ◌+◌, ◌<◌, ℤ, pos, ◌+ℤ◌, List, length, map, get_or, Option, Some, None}
use Rattle.bpf_insn.specs.Code.{place_of}
use Rattle.bpf_insn.specs.Immediates.{HasImmediates}
use Rattle.bpf_insn.specs.Jump.{jump_distance}
use Rattle.bpf_insn.specs.declared.instruction.ByteOrder.TheVariants.{LittleEndian, BigEndian, Swapped}
use Rattle.bpf_insn.specs.declared.instruction.Condition.{Condition}
use Rattle.bpf_insn.specs.declared.instruction.Condition.TheVariants.{Equal, Greater, GreaterOrEqual, SharesBit, NotEqual, SignedGreater, SignedGreaterOrEqual, Less, LessOrEqual, SignedLess, SignedLessOrEqual}
use Rattle.bpf_insn.specs.declared.instruction.Insn.{Insn}
use Rattle.bpf_insn.specs.declared.instruction.Insn.TheVariants as insn
use Rattle.bpf_insn.specs.declared.instruction.Insn.TheVariants.{Alu, MoveSignExtended, Negate, ByteSwap, JumpIf, Load, Store}
use Rattle.bpf_insn.specs.declared.instruction.LoadFormat.{LoadFormat}
use Rattle.bpf_insn.specs.declared.instruction.LoadFormat.TheVariants as format
use Rattle.bpf_insn.specs.declared.instruction.Operation.{Operation}
use Rattle.bpf_insn.specs.declared.instruction.Operation.TheVariants.{Add, Subtract, Multiply, Divide, SignedDivide, Or, And, ShiftLeft, ShiftRight, Modulo, SignedModulo, ExclusiveOr, Move, ArithmeticShiftRight}
use Rattle.bpf_insn.specs.declared.instruction.SignExtension.{SignExtension}
use Rattle.bpf_insn.specs.declared.instruction.SignExtension.TheVariants.{Bits8To32, Bits16To32, Bits8To64, Bits16To64, Bits32To64}
use Rattle.bpf_insn.specs.declared.instruction.Source.TheVariants.{Immediate, Register}
use Rattle.bpf_insn.specs.declared.instruction.StoreSize.{StoreSize}
use Rattle.bpf_insn.specs.declared.instruction.StoreSize.TheVariants as size
use Rattle.bpf_insn.specs.declared.instruction.SwapWidth.TheVariants as swap
use Rattle.bpf_insn.specs.declared.instruction.Width.{Width}
use Rattle.bpf_insn.specs.declared.instruction.Width.TheVariants.{Bits32, Bits64}
use Rattle.bpf_insn.specs.declared.value.Area.{Area}
use Rattle.bpf_insn.specs.declared.value.Area.TheVariants.{Record, Frame}
use Rattle.bpf_flat_insn.specs.declared.flat.FlatInsn.{FlatInsn}
use Rattle.bpf_flat_insn.specs.declared.flat.FlatInsn.TheVariants as flat
use Rattle.bpf_flat_insn.specs.declared.operands.WithImmediate.{WithImmediate}
use Rattle.bpf_flat_insn.specs.declared.operands.WithRegister.{WithRegister}
use Rattle.bpf_flat_insn.specs.declared.operands.JumpWithImmediate.{JumpWithImmediate}
use Rattle.bpf_flat_insn.specs.declared.operands.JumpWithRegister.{JumpWithRegister}
use Rattle.bpf_flat_insn.specs.declared.operands.LoadOperands.{LoadOperands}
use Rattle.bpf_flat_insn.specs.declared.operands.StoreImmediateOperands.{StoreImmediateOperands}
use Rattle.bpf_flat_insn.specs.declared.operands.StoreRegisterOperands.{StoreRegisterOperands}

-- ALU operations and conditional jumps, with either source
abbrev pub alu_immediate : Operation → Width → WithImmediate → Insn
alu_immediate operation width operands = Alu operation width operands.destination (Immediate operands.immediate)

abbrev pub alu_register : Operation → Width → WithRegister → Insn
alu_register operation width operands = Alu operation width operands.destination (Register operands.source)

abbrev pub jump_immediate : Condition → Width → JumpWithImmediate → Insn
jump_immediate condition width jump = JumpIf condition width jump.left (Immediate jump.immediate) jump.offset

abbrev pub jump_register : Condition → Width → JumpWithRegister → Insn
jump_register condition width jump = JumpIf condition width jump.left (Register jump.right) jump.offset

abbrev pub move_extended : SignExtension → WithRegister → Insn
move_extended extension operands = MoveSignExtended extension operands.destination operands.source

-- loads and stores
abbrev pub load : LoadFormat → LoadOperands → Insn
load format operands = Load format operands.destination operands.base operands.offset

abbrev pub store_immediate : StoreSize → StoreImmediateOperands → Insn
store_immediate size operands = insn.StoreImmediate size operands.base operands.offset operands.immediate

abbrev pub store_register : StoreSize → StoreRegisterOperands → Insn
store_register size operands = Store size operands.base operands.offset operands.source

-- what a flat form stands for: an instruction, the area that the base of a load points into, and the index of the instruction that a jump leads to
pub record Parts : Type 0 where
  pub insn : Insn
  pub area : Area
  pub target : ℕ

-- an instruction that is neither a load nor a jump; the area of a store is the frame
abbrev pub plain : Insn → Parts
plain insn = record { insn = insn; area = Frame; target = 0 }

abbrev pub leads : ℕ → Insn → Parts
leads target insn = record { insn = insn; area = Frame; target = target }

abbrev pub from : Area → Insn → Parts
from area insn = record { insn = insn; area = area; target = 0 }

-- the table of flat forms, one row per form
unfoldable pub parts_of : FlatInsn → Parts
parts_of (flat.Add32Immediate operands) = plain (alu_immediate Add Bits32 operands)
parts_of (flat.Add32Register operands) = plain (alu_register Add Bits32 operands)
parts_of (flat.Add64Immediate operands) = plain (alu_immediate Add Bits64 operands)
parts_of (flat.Add64Register operands) = plain (alu_register Add Bits64 operands)
parts_of (flat.Subtract32Immediate operands) = plain (alu_immediate Subtract Bits32 operands)
parts_of (flat.Subtract32Register operands) = plain (alu_register Subtract Bits32 operands)
parts_of (flat.Subtract64Immediate operands) = plain (alu_immediate Subtract Bits64 operands)
parts_of (flat.Subtract64Register operands) = plain (alu_register Subtract Bits64 operands)
parts_of (flat.Multiply32Immediate operands) = plain (alu_immediate Multiply Bits32 operands)
parts_of (flat.Multiply32Register operands) = plain (alu_register Multiply Bits32 operands)
parts_of (flat.Multiply64Immediate operands) = plain (alu_immediate Multiply Bits64 operands)
parts_of (flat.Multiply64Register operands) = plain (alu_register Multiply Bits64 operands)
parts_of (flat.Divide32Immediate operands) = plain (alu_immediate Divide Bits32 operands)
parts_of (flat.Divide32Register operands) = plain (alu_register Divide Bits32 operands)
parts_of (flat.Divide64Immediate operands) = plain (alu_immediate Divide Bits64 operands)
parts_of (flat.Divide64Register operands) = plain (alu_register Divide Bits64 operands)
parts_of (flat.SignedDivide32Immediate operands) = plain (alu_immediate SignedDivide Bits32 operands)
parts_of (flat.SignedDivide32Register operands) = plain (alu_register SignedDivide Bits32 operands)
parts_of (flat.SignedDivide64Immediate operands) = plain (alu_immediate SignedDivide Bits64 operands)
parts_of (flat.SignedDivide64Register operands) = plain (alu_register SignedDivide Bits64 operands)
parts_of (flat.Or32Immediate operands) = plain (alu_immediate Or Bits32 operands)
parts_of (flat.Or32Register operands) = plain (alu_register Or Bits32 operands)
parts_of (flat.Or64Immediate operands) = plain (alu_immediate Or Bits64 operands)
parts_of (flat.Or64Register operands) = plain (alu_register Or Bits64 operands)
parts_of (flat.And32Immediate operands) = plain (alu_immediate And Bits32 operands)
parts_of (flat.And32Register operands) = plain (alu_register And Bits32 operands)
parts_of (flat.And64Immediate operands) = plain (alu_immediate And Bits64 operands)
parts_of (flat.And64Register operands) = plain (alu_register And Bits64 operands)
parts_of (flat.ShiftLeft32Immediate operands) = plain (alu_immediate ShiftLeft Bits32 operands)
parts_of (flat.ShiftLeft32Register operands) = plain (alu_register ShiftLeft Bits32 operands)
parts_of (flat.ShiftLeft64Immediate operands) = plain (alu_immediate ShiftLeft Bits64 operands)
parts_of (flat.ShiftLeft64Register operands) = plain (alu_register ShiftLeft Bits64 operands)
parts_of (flat.ShiftRight32Immediate operands) = plain (alu_immediate ShiftRight Bits32 operands)
parts_of (flat.ShiftRight32Register operands) = plain (alu_register ShiftRight Bits32 operands)
parts_of (flat.ShiftRight64Immediate operands) = plain (alu_immediate ShiftRight Bits64 operands)
parts_of (flat.ShiftRight64Register operands) = plain (alu_register ShiftRight Bits64 operands)
parts_of (flat.Modulo32Immediate operands) = plain (alu_immediate Modulo Bits32 operands)
parts_of (flat.Modulo32Register operands) = plain (alu_register Modulo Bits32 operands)
parts_of (flat.Modulo64Immediate operands) = plain (alu_immediate Modulo Bits64 operands)
parts_of (flat.Modulo64Register operands) = plain (alu_register Modulo Bits64 operands)
parts_of (flat.SignedModulo32Immediate operands) = plain (alu_immediate SignedModulo Bits32 operands)
parts_of (flat.SignedModulo32Register operands) = plain (alu_register SignedModulo Bits32 operands)
parts_of (flat.SignedModulo64Immediate operands) = plain (alu_immediate SignedModulo Bits64 operands)
parts_of (flat.SignedModulo64Register operands) = plain (alu_register SignedModulo Bits64 operands)
parts_of (flat.ExclusiveOr32Immediate operands) = plain (alu_immediate ExclusiveOr Bits32 operands)
parts_of (flat.ExclusiveOr32Register operands) = plain (alu_register ExclusiveOr Bits32 operands)
parts_of (flat.ExclusiveOr64Immediate operands) = plain (alu_immediate ExclusiveOr Bits64 operands)
parts_of (flat.ExclusiveOr64Register operands) = plain (alu_register ExclusiveOr Bits64 operands)
parts_of (flat.Move32Immediate operands) = plain (alu_immediate Move Bits32 operands)
parts_of (flat.Move32Register operands) = plain (alu_register Move Bits32 operands)
parts_of (flat.Move64Immediate operands) = plain (alu_immediate Move Bits64 operands)
parts_of (flat.Move64Register operands) = plain (alu_register Move Bits64 operands)
parts_of (flat.ArithmeticShiftRight32Immediate operands) = plain (alu_immediate ArithmeticShiftRight Bits32 operands)
parts_of (flat.ArithmeticShiftRight32Register operands) = plain (alu_register ArithmeticShiftRight Bits32 operands)
parts_of (flat.ArithmeticShiftRight64Immediate operands) = plain (alu_immediate ArithmeticShiftRight Bits64 operands)
parts_of (flat.ArithmeticShiftRight64Register operands) = plain (alu_register ArithmeticShiftRight Bits64 operands)
parts_of (flat.Extend8To32 operands) = plain (move_extended Bits8To32 operands)
parts_of (flat.Extend16To32 operands) = plain (move_extended Bits16To32 operands)
parts_of (flat.Extend8To64 operands) = plain (move_extended Bits8To64 operands)
parts_of (flat.Extend16To64 operands) = plain (move_extended Bits16To64 operands)
parts_of (flat.Extend32To64 operands) = plain (move_extended Bits32To64 operands)
parts_of (flat.Negate32 destination) = plain (Negate Bits32 destination)
parts_of (flat.Negate64 destination) = plain (Negate Bits64 destination)
parts_of (flat.LittleEndian16 destination) = plain (ByteSwap LittleEndian swap.Bits16 destination)
parts_of (flat.LittleEndian32 destination) = plain (ByteSwap LittleEndian swap.Bits32 destination)
parts_of (flat.LittleEndian64 destination) = plain (ByteSwap LittleEndian swap.Bits64 destination)
parts_of (flat.BigEndian16 destination) = plain (ByteSwap BigEndian swap.Bits16 destination)
parts_of (flat.BigEndian32 destination) = plain (ByteSwap BigEndian swap.Bits32 destination)
parts_of (flat.BigEndian64 destination) = plain (ByteSwap BigEndian swap.Bits64 destination)
parts_of (flat.Swapped16 destination) = plain (ByteSwap Swapped swap.Bits16 destination)
parts_of (flat.Swapped32 destination) = plain (ByteSwap Swapped swap.Bits32 destination)
parts_of (flat.Swapped64 destination) = plain (ByteSwap Swapped swap.Bits64 destination)
parts_of (flat.JumpIfEqual32Immediate jump) = leads jump.target (jump_immediate Equal Bits32 jump)
parts_of (flat.JumpIfEqual32Register jump) = leads jump.target (jump_register Equal Bits32 jump)
parts_of (flat.JumpIfEqual64Immediate jump) = leads jump.target (jump_immediate Equal Bits64 jump)
parts_of (flat.JumpIfEqual64Register jump) = leads jump.target (jump_register Equal Bits64 jump)
parts_of (flat.JumpIfGreater32Immediate jump) = leads jump.target (jump_immediate Greater Bits32 jump)
parts_of (flat.JumpIfGreater32Register jump) = leads jump.target (jump_register Greater Bits32 jump)
parts_of (flat.JumpIfGreater64Immediate jump) = leads jump.target (jump_immediate Greater Bits64 jump)
parts_of (flat.JumpIfGreater64Register jump) = leads jump.target (jump_register Greater Bits64 jump)
parts_of (flat.JumpIfGreaterOrEqual32Immediate jump) = leads jump.target (jump_immediate GreaterOrEqual Bits32 jump)
parts_of (flat.JumpIfGreaterOrEqual32Register jump) = leads jump.target (jump_register GreaterOrEqual Bits32 jump)
parts_of (flat.JumpIfGreaterOrEqual64Immediate jump) = leads jump.target (jump_immediate GreaterOrEqual Bits64 jump)
parts_of (flat.JumpIfGreaterOrEqual64Register jump) = leads jump.target (jump_register GreaterOrEqual Bits64 jump)
parts_of (flat.JumpIfSharesBit32Immediate jump) = leads jump.target (jump_immediate SharesBit Bits32 jump)
parts_of (flat.JumpIfSharesBit32Register jump) = leads jump.target (jump_register SharesBit Bits32 jump)
parts_of (flat.JumpIfSharesBit64Immediate jump) = leads jump.target (jump_immediate SharesBit Bits64 jump)
parts_of (flat.JumpIfSharesBit64Register jump) = leads jump.target (jump_register SharesBit Bits64 jump)
parts_of (flat.JumpIfNotEqual32Immediate jump) = leads jump.target (jump_immediate NotEqual Bits32 jump)
parts_of (flat.JumpIfNotEqual32Register jump) = leads jump.target (jump_register NotEqual Bits32 jump)
parts_of (flat.JumpIfNotEqual64Immediate jump) = leads jump.target (jump_immediate NotEqual Bits64 jump)
parts_of (flat.JumpIfNotEqual64Register jump) = leads jump.target (jump_register NotEqual Bits64 jump)
parts_of (flat.JumpIfSignedGreater32Immediate jump) = leads jump.target (jump_immediate SignedGreater Bits32 jump)
parts_of (flat.JumpIfSignedGreater32Register jump) = leads jump.target (jump_register SignedGreater Bits32 jump)
parts_of (flat.JumpIfSignedGreater64Immediate jump) = leads jump.target (jump_immediate SignedGreater Bits64 jump)
parts_of (flat.JumpIfSignedGreater64Register jump) = leads jump.target (jump_register SignedGreater Bits64 jump)
parts_of (flat.JumpIfSignedGreaterOrEqual32Immediate jump) = leads jump.target (jump_immediate SignedGreaterOrEqual Bits32 jump)
parts_of (flat.JumpIfSignedGreaterOrEqual32Register jump) = leads jump.target (jump_register SignedGreaterOrEqual Bits32 jump)
parts_of (flat.JumpIfSignedGreaterOrEqual64Immediate jump) = leads jump.target (jump_immediate SignedGreaterOrEqual Bits64 jump)
parts_of (flat.JumpIfSignedGreaterOrEqual64Register jump) = leads jump.target (jump_register SignedGreaterOrEqual Bits64 jump)
parts_of (flat.JumpIfLess32Immediate jump) = leads jump.target (jump_immediate Less Bits32 jump)
parts_of (flat.JumpIfLess32Register jump) = leads jump.target (jump_register Less Bits32 jump)
parts_of (flat.JumpIfLess64Immediate jump) = leads jump.target (jump_immediate Less Bits64 jump)
parts_of (flat.JumpIfLess64Register jump) = leads jump.target (jump_register Less Bits64 jump)
parts_of (flat.JumpIfLessOrEqual32Immediate jump) = leads jump.target (jump_immediate LessOrEqual Bits32 jump)
parts_of (flat.JumpIfLessOrEqual32Register jump) = leads jump.target (jump_register LessOrEqual Bits32 jump)
parts_of (flat.JumpIfLessOrEqual64Immediate jump) = leads jump.target (jump_immediate LessOrEqual Bits64 jump)
parts_of (flat.JumpIfLessOrEqual64Register jump) = leads jump.target (jump_register LessOrEqual Bits64 jump)
parts_of (flat.JumpIfSignedLess32Immediate jump) = leads jump.target (jump_immediate SignedLess Bits32 jump)
parts_of (flat.JumpIfSignedLess32Register jump) = leads jump.target (jump_register SignedLess Bits32 jump)
parts_of (flat.JumpIfSignedLess64Immediate jump) = leads jump.target (jump_immediate SignedLess Bits64 jump)
parts_of (flat.JumpIfSignedLess64Register jump) = leads jump.target (jump_register SignedLess Bits64 jump)
parts_of (flat.JumpIfSignedLessOrEqual32Immediate jump) = leads jump.target (jump_immediate SignedLessOrEqual Bits32 jump)
parts_of (flat.JumpIfSignedLessOrEqual32Register jump) = leads jump.target (jump_register SignedLessOrEqual Bits32 jump)
parts_of (flat.JumpIfSignedLessOrEqual64Immediate jump) = leads jump.target (jump_immediate SignedLessOrEqual Bits64 jump)
parts_of (flat.JumpIfSignedLessOrEqual64Register jump) = leads jump.target (jump_register SignedLessOrEqual Bits64 jump)
parts_of (flat.LoadFromRecordByte operands) = from Record (load format.Byte operands)
parts_of (flat.LoadFromFrameByte operands) = from Frame (load format.Byte operands)
parts_of (flat.LoadFromRecordHalfWord operands) = from Record (load format.HalfWord operands)
parts_of (flat.LoadFromFrameHalfWord operands) = from Frame (load format.HalfWord operands)
parts_of (flat.LoadFromRecordWord operands) = from Record (load format.Word operands)
parts_of (flat.LoadFromFrameWord operands) = from Frame (load format.Word operands)
parts_of (flat.LoadFromRecordDoubleWord operands) = from Record (load format.DoubleWord operands)
parts_of (flat.LoadFromFrameDoubleWord operands) = from Frame (load format.DoubleWord operands)
parts_of (flat.LoadFromRecordSignedByte operands) = from Record (load format.SignedByte operands)
parts_of (flat.LoadFromFrameSignedByte operands) = from Frame (load format.SignedByte operands)
parts_of (flat.LoadFromRecordSignedHalfWord operands) = from Record (load format.SignedHalfWord operands)
parts_of (flat.LoadFromFrameSignedHalfWord operands) = from Frame (load format.SignedHalfWord operands)
parts_of (flat.LoadFromRecordSignedWord operands) = from Record (load format.SignedWord operands)
parts_of (flat.LoadFromFrameSignedWord operands) = from Frame (load format.SignedWord operands)
parts_of (flat.StoreByteImmediate operands) = plain (store_immediate size.Byte operands)
parts_of (flat.StoreHalfWordImmediate operands) = plain (store_immediate size.HalfWord operands)
parts_of (flat.StoreWordImmediate operands) = plain (store_immediate size.Word operands)
parts_of (flat.StoreDoubleWordImmediate operands) = plain (store_immediate size.DoubleWord operands)
parts_of (flat.StoreByteRegister operands) = plain (store_register size.Byte operands)
parts_of (flat.StoreHalfWordRegister operands) = plain (store_register size.HalfWord operands)
parts_of (flat.StoreWordRegister operands) = plain (store_register size.Word operands)
parts_of (flat.StoreDoubleWordRegister operands) = plain (store_register size.DoubleWord operands)
parts_of (flat.Jump distance target) = leads target (insn.Jump distance)
parts_of (flat.Call immediate) = plain (insn.Call immediate)
parts_of flat.Exit = plain insn.Exit
parts_of (flat.WideLoad destination immediate next_immediate) = plain (insn.WideLoad destination immediate next_immediate)

-- the instruction that a flat form stands for
abbrev pub insn_of : FlatInsn → Insn
insn_of flat = (parts_of flat).insn

-- the index of the instruction that a jump leads to; 0 for any other instruction
abbrev pub target_of : FlatInsn → ℕ
target_of flat = (parts_of flat).target

-- the area that the base of a load points into; stores write the frame
abbrev pub area_of : FlatInsn → Area
area_of flat = (parts_of flat).area

-- the base of a load points into the area of its flat form, if that's known
abbrev pub KeepsArea : Insn → Option Area → FlatInsn → Type 0
KeepsArea (Load format destination base offset) (Some area) flat = area_of flat ≡ area
KeepsArea insn area flat = Unit {0}

-- if the instruction at a place jumps, it jumps to the one with an index: the distance counts words from the next word (section 4.3)
abbrev pub JumpsTo : List Insn → ℕ → Insn → ℕ → Type 0
JumpsTo code place insn target = (distance : ℤ) → jump_distance insn ≡ Some distance → pos (place + 1) +ℤ distance ≡ pos (place_of code target)

-- the flat form of the instruction at a place of a code; `area` is the one that its base points into, if that's known
pub record IsFlatForm (code : List Insn) (place : ℕ) (insn : Insn) (area : Option Area) (flat : FlatInsn) : Type 0 where
  pub represents : insn_of flat ≡ insn
  pub immediates : HasImmediates insn
  pub jumps : JumpsTo code place insn (target_of flat)
  pub keeps_area : KeepsArea insn area flat

-- the instructions that flat forms stand for
abbrev pub instructions_in : List FlatInsn → List Insn
instructions_in flats = map insn_of flats

-- the flat forms of the first `count` instructions of a code, in order
pub record AreFlatForms (code : List Insn) (areas : List (Option Area)) (count : ℕ) (flats : List FlatInsn) : Type 0 where
  pub count_is : length flats ≡ count
  pub each : (index : ℕ) (insn : Insn) (flat : FlatInsn) → index < count → insn ≡ get_or code index insn → flat ≡ get_or flats index flat
      → IsFlatForm code (place_of code index) insn (get_or areas index None) flat
