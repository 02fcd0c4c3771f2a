-- The immediates that become operands.
use Rattle.std.specs.Prelude.{◌≡◌, ℕ, List, Some, FitsSigned}
use Rattle.std.specs.Int.{w32}
use Rattle.bpf_insn.specs.Code.{instruction_at}
use Rattle.bpf_insn.specs.declared.instruction.Insn.{Insn}
use Rattle.bpf_insn.specs.declared.instruction.Insn.TheVariants as insn
use Rattle.bpf_insn.specs.declared.instruction.Insn.TheVariants.{Alu, JumpIf}
use Rattle.bpf_insn.specs.declared.instruction.Source.{Source}
use Rattle.bpf_insn.specs.declared.instruction.Source.TheVariants.{Immediate, Register}

-- they are signed numbers of 32 bits, like those of every instruction in a code
abbrev pub HasImmediate : Source → Type 0
HasImmediate (Immediate immediate) = FitsSigned w32 immediate
HasImmediate (Register register) = Unit {0}

abbrev pub HasImmediates : Insn → Type 0
HasImmediates (Alu operation width destination source) = HasImmediate source
HasImmediates (JumpIf condition width left right distance) = HasImmediate right
HasImmediates (insn.StoreImmediate size base offset immediate) = FitsSigned w32 immediate
HasImmediates (insn.WideLoad destination immediate next_immediate) = FitsSigned w32 immediate × FitsSigned w32 next_immediate
HasImmediates insn = Unit {0}

-- those of each instruction of a code
abbrev pub HaveImmediates : List Insn → Type 0
HaveImmediates code = (place : ℕ) (insn : Insn) → instruction_at code place ≡ Some insn → HasImmediates insn
