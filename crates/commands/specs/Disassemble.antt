-- What `dis` writes, and why it is refused.
use Rattle.std.specs.Prelude.{◌≡◌, ℕ, List, Option, Some, Result}
use Rattle.std.specs.Io.KnownBytes.{Keeps}
use Rattle.bpf_insn.specs.Code.{IsCodeOf, IsFirstFault}
use Rattle.bpf_insn.specs.CodeFault as code_fault
use Rattle.bpf_insn.specs.declared.fault.CodeFault.{CodeFault}
use Rattle.bpf_insn.specs.declared.instruction.Insn.{Insn}
use Rattle.bpf_text.specs.CodeText.{text_of}
use Rattle.refusals.specs.Refusal.{RefusalParts}
use Rattle.counted_io.specs.ReaderWriter.{Writer}
use Rattle.counted_io.specs.Writing.{WritesText}
use Rattle.counted_io.specs.declared.writing.WriteFault.{WriteFault}
use Rattle.commands.specs.declared.disassemble.Disassemble.{Disassemble}

-- The program, whose bytes agree with what is known of them, has a code. The code's text was written, completely or until the output failed.
pub record Writes (disassemble : Disassemble) (known : List ℕ → Option (List ℕ)) (result : Result (Unit {0}) WriteFault)
    (out out' : Writer) : Type 0 where
  pub program : List ℕ
  pub is_program : Keeps (known disassemble.program.now) (Some program)
  pub code : List Insn
  pub is_code : IsCodeOf program code
  pub written : WritesText (text_of code) result out out'

-- The program has no code. It is refused for its first fault, and nothing was written.
pub record IsRefused (disassemble : Disassemble) (known : List ℕ → Option (List ℕ)) (refusal : RefusalParts)
    (out out' : Writer) : Type 0 where
  pub program : List ℕ
  pub is_program : Keeps (known disassemble.program.now) (Some program)
  pub fault : CodeFault
  pub first : IsFirstFault program fault
  pub is_refusal : refusal ≡ code_fault.refusal fault
  pub unwritten : out' ≡ out
