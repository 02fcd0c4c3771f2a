-- The instruction table (RFC 9669, sections 4 and 5): the checks of each instruction in order, and what it does when they pass. It is defined once,
-- over a domain, which defines what a register holds and what each step of an instruction yields. Over values it is the meaning of an instruction,
-- over what is known of values it is the abstract step, and over bare words it is what a machine does. A domain contains a state, the one before
-- the instruction. Which checks there are, and their order, is this project's own choice.
use Rattle.std.specs.Prelude.{ℕ, ℤ, Option, Some, None, Result, Ok, Err}
use Rattle.std.specs.Int.{cast_unsigned, w32}
use Rattle.bpf_insn.specs.Jump.{words}
use Rattle.bpf_insn.specs.declared.instruction.Insn.{Insn}
use Rattle.bpf_insn.specs.declared.instruction.Insn.TheVariants.{Alu, MoveSignExtended, Negate, ByteSwap, JumpIf, Jump, Call, Exit, Load, StoreImmediate, Store, WideLoad}
use Rattle.bpf_insn.specs.declared.instruction.Operation.{Operation}
use Rattle.bpf_insn.specs.declared.instruction.Operation.TheVariants.{Move}
use Rattle.bpf_insn.specs.declared.instruction.Width.{Width}
use Rattle.bpf_insn.specs.declared.instruction.Source.{Source}
use Rattle.bpf_insn.specs.declared.instruction.Source.TheVariants.{Immediate, Register}
use Rattle.bpf_insn.specs.declared.instruction.Condition.{Condition}
use Rattle.bpf_insn.specs.declared.instruction.SignExtension.{SignExtension}
use Rattle.bpf_insn.specs.declared.instruction.ByteOrder.{ByteOrder}
use Rattle.bpf_insn.specs.declared.instruction.SwapWidth.{SwapWidth}
use Rattle.bpf_insn.specs.declared.instruction.LoadFormat.{LoadFormat}
use Rattle.bpf_insn.specs.declared.instruction.StoreSize.{StoreSize}
use Rattle.bpf_insn.specs.declared.register.Register.{Register as RegisterParts}
use Rattle.bpf_insn.specs.declared.register.WritableRegister.{WritableRegister}
use Rattle.bpf_helpers.specs.Helper.{by_number}
use Rattle.bpf_helpers.specs.declared.helper.Helper.{Helper}
use Rattle.bpf_meaning.specs.Checks.{◌>>=◌}
use Rattle.bpf_meaning.specs.declared.cause.Cause.{Cause}
use Rattle.bpf_meaning.specs.declared.cause.Cause.TheVariants.{PointerArithmetic, UnknownHelper, ExitNotNumber}

-- a conditional jump: its condition, its operands, and the distance in words that it jumps if the condition holds
pub record ConditionalJump : Type 0 where
  pub condition : Condition
  pub width : Width
  pub left : RegisterParts
  pub right : Source
  pub distance : ℤ

-- registers, and the operations on what they hold
pub record Registers : Type 1 where
  -- what a register holds, what represents a number, and what represents a pointer for reading or writing memory
  pub Value : Type 0
  pub Number : Type 0
  pub Pointer : Type 0
  -- the value read from the register with a number
  pub read : ℕ → Result Value Cause
  -- a number as a value; the number that a value is, or the cause if it is none; the pointer in a register
  pub number : Number → Value
  pub number_or : Cause → Value → Result Number Cause
  pub pointer_in : ℕ → Result Pointer Cause
  -- an immediate as an operand, and as an operand of a comparison with a width; the two immediates of a wide load
  pub immediate : ℤ → Value
  pub compared : Width → ℤ → Value
  pub wide : ℤ → ℤ → Number
  -- arithmetic
  pub extend : SignExtension → Number → Number
  pub negate : Width → Number → Number
  pub byte_swap : ByteOrder → SwapWidth → Number → Number
  pub move : Width → Value → Result Value Cause
  pub operate : Operation → Width → Value → Value → Result Value Cause

-- what an instruction sees and can do
pub record Domain : Type 1 where
  pub registers : Registers
  pub open registers use *
  -- where a store begins, what an instruction changes besides a register, and what it leads to
  pub Offset : Type 0
  pub Change : Type 0
  pub Outcome : Type 0
  -- the value that a load yields; where a pointer plus an offset points in the frame; a store of a value there; a call of a helper function
  pub load : LoadFormat → Pointer → ℤ → Result Value Cause
  pub frame : Pointer → ℤ → Result Offset Cause
  pub store_at : Offset → ℤ → StoreSize → Value → Result Change Cause
  pub call : Helper → Result Change Cause
  -- on to the next instruction with a register set, or with another change; to a jump's target; to either one; to the end
  pub set : WritableRegister → Value → Result Outcome Cause
  pub continue_with : Change → Result Outcome Cause
  pub jump : ℤ → Result Outcome Cause
  pub branch : ConditionalJump → Value → Value → Result Outcome Cause
  pub end : Number → Result Outcome Cause

-- the number in a register that an instruction computes with; a pointer isn't allowed there
abbrev pub number_in : (R : Registers) → ℕ → Result R.Number Cause
number_in R register = R.read register >>= R.number_or PointerArithmetic

-- the second operand
abbrev pub operand : (R : Registers) → Source → Result R.Value Cause
operand R (Immediate value) = Ok (R.immediate value)
operand R (Register register) = R.read register.number

-- the second operand of a comparison
abbrev pub compared_operand : (R : Registers) → Width → Source → Result R.Value Cause
compared_operand R width (Immediate value) = Ok (R.compared width value)
compared_operand R width (Register register) = R.read register.number

-- the result of an arithmetic instruction; a move doesn't read its destination
abbrev pub operation_value : (R : Registers) → Operation → Width → ℕ → Source → Result R.Value Cause
operation_value R Move width destination source = operand R source >>= R.move width
operation_value R operation width destination source = R.read destination >>= λ x. operand R source >>= λ y. R.operate operation width x y

-- both operands of a conditional jump are read before they are compared
abbrev pub compare : (D : Domain) → ConditionalJump → Result D.Outcome Cause
compare D jump = D.read jump.left.number >>= λ x. compared_operand D.registers jump.width jump.right >>= λ y. D.branch jump x y

-- a load begins where its base points, plus an offset
abbrev pub load_value : (D : Domain) → LoadFormat → ℕ → ℤ → Result D.Value Cause
load_value D format base offset = D.pointer_in base >>= λ pointer. D.load format pointer offset

-- a store begins where its base points, plus an offset
abbrev pub store : (D : Domain) → StoreSize → ℕ → ℤ → Source → Result D.Change Cause
store D size base offset source =
    D.pointer_in base >>= λ pointer. D.frame pointer offset >>= λ from.
    operand D.registers source >>= D.store_at from offset size

-- a call of a helper function, if there is one (section 4.3.1)
abbrev pub call : (D : Domain) → Option Helper → Result D.Change Cause
call D None = Err UnknownHelper
call D (Some helper) = D.call helper

-- the instruction table, one row per instruction
abbrev pub walk : (D : Domain) → Insn → Result D.Outcome Cause
walk D (Alu operation width destination source) = operation_value D.registers operation width destination.number source >>= D.set destination
walk D (MoveSignExtended extension destination source) = number_in D.registers source.number >>= λ x. D.set destination (D.number (D.extend extension x))
walk D (Negate width destination) = number_in D.registers destination.number >>= λ x. D.set destination (D.number (D.negate width x))
walk D (ByteSwap order width destination) = number_in D.registers destination.number >>= λ x. D.set destination (D.number (D.byte_swap order width x))
walk D (JumpIf condition width left right distance) = compare D (record { condition = condition; width = width; left = left; right = right; distance = distance })
walk D (Jump distance) = D.jump (words distance)
walk D (Call immediate) = call D (by_number (cast_unsigned w32 immediate)) >>= D.continue_with
walk D Exit = D.read 0 >>= D.number_or ExitNotNumber >>= D.end
walk D (Load format destination base offset) = load_value D format base.number offset >>= D.set destination
walk D (StoreImmediate size base offset immediate) = store D size base.number offset (Immediate immediate) >>= D.continue_with
walk D (Store size base offset source) = store D size base.number offset (Register source) >>= D.continue_with
walk D (WideLoad destination immediate next_immediate) = D.set destination (D.number (D.wide immediate next_immediate))
