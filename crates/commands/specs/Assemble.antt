-- What `asm` writes, and why it is refused.
use Rattle.std.specs.Prelude.{◌≡◌, ℕ, ◌+◌, ◌*◌, List, Option, Some, IsUtf8, Result}
use Rattle.std.specs.Io.KnownBytes.{Keeps}
use Rattle.bpf_insn.specs.Code.{IsCodeOf}
use Rattle.bpf_insn.specs.declared.instruction.Insn.{Insn}
use Rattle.bpf_assembler.specs.Text.{IsFirstFault, Means}
use Rattle.bpf_assembler.specs.TextFault as text_fault
use Rattle.bpf_assembler.specs.TextFaultKind.{text_too_long}
use Rattle.bpf_assembler.specs.declared.fault.TextFault.{TextFault}
use Rattle.refusals.specs.Refusal.{RefusalParts}
use Rattle.counted_io.specs.ReaderWriter.{Writer}
use Rattle.counted_io.specs.Writing.{WritesText}
use Rattle.counted_io.specs.declared.writing.WriteFault.{WriteFault}
use Rattle.named_files.specs.Files.{IsLong}
use Rattle.commands.specs.declared.assemble.Assemble.{Assemble}

-- The source, whose bytes agree with what is known of them, is UTF-8 and assembles to a code. The code's words were written, completely or until
-- the output failed.
pub record Writes (assemble : Assemble) (known : List ℕ → Option (List ℕ)) (result : Result (Unit {0}) WriteFault)
    (out out' : Writer) : Type 0 where
  pub source : List ℕ
  pub is_source : Keeps (known assemble.source.now) (Some source)
  pub is_text : IsUtf8 source
  pub code : List Insn
  pub means : Means source code
  pub words : List ℕ
  pub are_words : IsCodeOf words code
  pub written : WritesText words result out out'

-- a source, and a file of source lines, has at most 16 MiB
abbrev pub source_limit : ℕ
source_limit = 16 * 1024 * 1024

-- The source is UTF-8 but doesn't assemble. It is refused for its first fault, and nothing was written.
pub record IsFaulty (assemble : Assemble) (known : List ℕ → Option (List ℕ)) (refusal : RefusalParts) (out out' : Writer) : Type 0 where
  pub source : List ℕ
  pub is_source : Keeps (known assemble.source.now) (Some source)
  pub is_text : IsUtf8 source
  pub fault : TextFault
  pub first : IsFirstFault source fault
  pub is_refusal : refusal ≡ text_fault.refusal fault
  pub unwritten : out' ≡ out

-- Why `asm` is refused: the source is too long, and nothing was written; or it has a fault.
pub data IsRefused (assemble : Assemble) (known : List ℕ → Option (List ℕ)) (refusal : RefusalParts) (out out' : Writer) : Type 0 where
  of_length : IsLong (source_limit + 1) (known assemble.source.now) → refusal ≡ text_too_long → out' ≡ out
      → IsRefused assemble known refusal out out'
  of_text : IsFaulty assemble known refusal out out' → IsRefused assemble known refusal out out'
