-- Programs that are accepted, and why a program is refused.
use Rattle.std.specs.Prelude.{◌≢◌, ℕ, List}
use Rattle.bpf_insn.specs.Code as code
use Rattle.bpf_insn.specs.Code.{IsCodeOf}
use Rattle.bpf_insn.specs.declared.fault.CodeFault.TheVariants as code_fault
use Rattle.bpf_insn.specs.declared.instruction.Insn.{Insn}
use Rattle.bpf_flow.specs.Flow as flow
use Rattle.bpf_flow.specs.Flow.{IsForward}
use Rattle.bpf_meaning.specs.Run.{IsSafe}
use Rattle.bpf_verify.specs.Annotation.{HasGoodAnnotation, IsVerifyFault}
use Rattle.bpf_verify.specs.declared.fault.VerifyFault.TheVariants as verify_fault
use Rattle.bpf_program.specs.declared.program.ProgramFault.{ProgramFault}
use Rattle.bpf_program.specs.declared.program.ProgramFault.TheVariants.{Code, Flow, Verify, Memory}

-- The code is forward: its jumps go forward, and its last instruction is EXIT. It is accepted: what is known before each instruction makes every
-- check pass. Therefore it is safe: on every segment no run ends stuck, and some run exits in at most as many steps as the code has instructions.
pub record IsSafeCode (code : List Insn) : Type 0 where
  pub forward : IsForward code
  pub accepted : HasGoodAnnotation code
  pub safe : IsSafe code

-- the bytes encode this code, which is safe
pub record IsSafeProgram (program : List ℕ) (code : List Insn) : Type 0 where
  pub is_code : IsCodeOf program code
  pub safe_code : IsSafeCode code

-- 30 to 33 are the first fault of the code, and 40 to 51 occur only in forward code; 10 to 18 are faults of the bytes
abbrev pub IsFaultOfCode : List Insn → ProgramFault → Type 0
IsFaultOfCode code (Code fault) = ⊥
IsFaultOfCode code (Flow fault) = flow.IsFirstFault code fault
IsFaultOfCode code (Verify fault) = IsForward code × IsVerifyFault code fault × (fault ≢ verify_fault.Memory)
IsFaultOfCode code Memory = Unit {0}

-- the first fault of the bytes, or a fault of the code that they encode
abbrev pub IsProgramFault : List ℕ → ProgramFault → Type 0
IsProgramFault program (Code fault) = code.IsFirstFault program fault × (fault ≢ code_fault.Memory)
IsProgramFault program Memory = Unit {0}
IsProgramFault program fault = (code : List Insn) × IsCodeOf program code × IsFaultOfCode code fault
