-- What `verify` writes, and why it is refused.
use Rattle.std.specs.Prelude.{◌≡◌, ℕ, List, [], ◌∷◌, ◌++◌, codes, Option, Some, Result}
use Rattle.std.specs.Io.KnownBytes.{Keeps}
use Rattle.bpf_insn.specs.declared.instruction.Insn.{Insn}
use Rattle.bpf_program.specs.Program.{IsSafeProgram, IsProgramFault}
use Rattle.bpf_program.specs.ProgramFault as program_fault
use Rattle.bpf_program.specs.declared.program.ProgramFault.{ProgramFault}
use Rattle.refusals.specs.Refusal.{RefusalParts}
use Rattle.counted_io.specs.ReaderWriter.{Writer}
use Rattle.counted_io.specs.Writing.{WritesText}
use Rattle.counted_io.specs.declared.writing.WriteFault.{WriteFault}
use Rattle.commands.specs.declared.verify.Verify.{Verify}

-- the text that reports that a program is accepted
abbrev pub acceptance : List ℕ
acceptance = codes "accepted" ++ 10 ∷ []

-- The program, whose bytes agree with what is known of them, is accepted. The acceptance was written, completely or until the output failed.
pub record Writes (verify : Verify) (known : List ℕ → Option (List ℕ)) (result : Result (Unit {0}) WriteFault)
    (out out' : Writer) : Type 0 where
  pub program : List ℕ
  pub is_program : Keeps (known verify.program.now) (Some program)
  pub code : List Insn
  pub accepted : IsSafeProgram program code
  pub written : WritesText acceptance result out out'

-- The program is refused for this fault, and nothing was written.
pub record IsRefused (verify : Verify) (known : List ℕ → Option (List ℕ)) (refusal : RefusalParts) (out out' : Writer) : Type 0 where
  pub program : List ℕ
  pub is_program : Keeps (known verify.program.now) (Some program)
  pub fault : ProgramFault
  pub is_fault : IsProgramFault program fault
  pub is_refusal : refusal ≡ program_fault.refusal fault
  pub unwritten : out' ≡ out
