-- What `explain` writes, and why it is refused.
use Rattle.std.specs.Prelude.{◌≡◌, ◌⊎◌, ℕ, ◌+◌, List, [], Option, Some, None, Result, Ok, Err, ⊤}
use Rattle.std.specs.Borrow.{Bor}
use Rattle.std.specs.Io.KnownBytes.{Keeps}
use Rattle.bpf_explain.specs.Explanation.{Explains}
use Rattle.listing_lines.specs.LinesFault as lines_fault
use Rattle.listing_lines.specs.LinesFault.{lines_too_long}
use Rattle.listing_lines.specs.SourceLines.{lines_in}
use Rattle.listing_lines.specs.declared.source_lines.LinesFault.{LinesFault}
use Rattle.bpf_insn.specs.CodeFault as code_refusal
use Rattle.bpf_insn.specs.declared.fault.CodeFault.{CodeFault}
use Rattle.bpf_program.specs.ProgramFault as program_fault
use Rattle.bpf_program.specs.declared.program.ProgramFault.{ProgramFault}
use Rattle.refusals.specs.Refusal.{RefusalParts, memory}
use Rattle.counted_io.specs.ReaderWriter.{Writer}
use Rattle.counted_io.specs.Writing.{WritesText}
use Rattle.counted_io.specs.declared.writing.WriteFault.{WriteFault}
use Rattle.named_files.specs.Files.{Disk, FailsToUse, IsLong, IsTooLong, OpenResults}
use Rattle.commands.specs.Assemble.{source_limit}
use Rattle.commands.specs.declared.explain.Explain.{Explain}
use Rattle.commands.specs.declared.failure.Failure.{Failure}
use Rattle.commands.specs.declared.failure.Failure.TheVariants as failure

-- the file of source lines holds these bytes, as far as they are known; no bytes if no file is given
abbrev pub HoldsLines : (List ℕ → Option (List ℕ)) → Option (Bor (List ℕ)) → List ℕ → Type 0
HoldsLines known None file = file ≡ []
HoldsLines known (Some name) file = Keeps (known name.now) (Some file)

-- the file of source lines is longer than the limit
abbrev pub HasLongLines : (List ℕ → Option (List ℕ)) → Option (Bor (List ℕ)) → Type 0
HasLongLines known None = ⊥
HasLongLines known (Some name) = IsLong (source_limit + 1) (known name.now)

-- this is the name of the file of source lines
abbrev pub IsLinesFile : Option (Bor (List ℕ)) → List ℕ → Type 0
IsLinesFile None name = ⊥
IsLinesFile (Some lines) name = name ≡ lines.now

-- why the file of source lines can't be read: it can't be used, it is too long, or an allocation fails
abbrev pub IsLinesFailure : {R : Type 0} → OpenResults R → Option (Bor (List ℕ)) → Disk → Disk → Failure → Type 0
IsLinesFailure opens lines disk disk' (failure.File name error) = IsLinesFile lines name.now × FailsToUse opens name.now error disk disk'
IsLinesFailure opens lines disk disk' (failure.Refusal refusal) = HasLongLines disk.known lines × (refusal ≡ lines_too_long)
IsLinesFailure opens lines disk disk' failure.Memory = ⊤
IsLinesFailure opens lines disk disk' failure = ⊥

-- the command reads a file of this name
abbrev pub IsFileOf : Explain → List ℕ → Type 0
IsFileOf explain name = (name ≡ explain.program.now) ⊎ IsLinesFile explain.lines name

-- what is explained: a program, and a file of source lines
pub record Inputs (explain : Explain) (known : List ℕ → Option (List ℕ)) : Type 0 where
  pub program : List ℕ
  pub is_program : Keeps (known explain.program.now) (Some program)
  pub places : List ℕ
  pub is_places : HoldsLines known explain.lines places

-- The explanation of the verdict was written, completely or until the output failed. If it was written completely, the program is accepted.
pub record Writes (explain : Explain) (known : List ℕ → Option (List ℕ)) (result : Result (Unit {0}) WriteFault)
    (out out' : Writer) : Type 0 where
  pub inputs : Inputs explain known
  pub text : List ℕ
  pub verdict : Result (Unit {0}) ProgramFault
  pub explained : Explains inputs.program inputs.places text verdict
  pub accepted : result ≡ Ok tt → verdict ≡ Ok tt
  pub written : WritesText text result out out'

-- Why `explain` is refused: for a program that is too long, for the source lines, or because an allocation failed, and nothing was written; or for the
-- program's verdict, after its explanation was written.
pub data IsRefused (explain : Explain) (known : List ℕ → Option (List ℕ)) (refusal : RefusalParts) (out out' : Writer) : Type 0 where
  of_length : (fault : CodeFault) → IsTooLong (known explain.program.now) fault → refusal ≡ code_refusal.refusal fault → out' ≡ out
      → IsRefused explain known refusal out out'
  of_long_lines : HasLongLines known explain.lines → refusal ≡ lines_too_long → out' ≡ out → IsRefused explain known refusal out out'
  of_lines : (places : List ℕ) → HoldsLines known explain.lines places → (fault : LinesFault) → lines_in places ≡ Err fault
      → refusal ≡ lines_fault.refusal fault → out' ≡ out → IsRefused explain known refusal out out'
  of_program : (inputs : Inputs explain known) (text : List ℕ) (fault : ProgramFault)
      → Explains inputs.program inputs.places text (Err fault) → refusal ≡ program_fault.refusal fault
      → WritesText text (Ok tt) out out' → IsRefused explain known refusal out out'
  of_memory : refusal ≡ memory → out' ≡ out → IsRefused explain known refusal out out'

-- how the explanation of a verdict is written
abbrev pub WritesExplanation : List ℕ → Result (Unit {0}) ProgramFault → Result (Unit {0}) Failure → Writer → Writer → Type 0
WritesExplanation text verdict (Ok done) out out' = (verdict ≡ Ok tt) × WritesText text (Ok tt) out out'
WritesExplanation text verdict (Err (failure.Write fault)) out out' = WritesText text (Err fault) out out'
WritesExplanation text verdict (Err (failure.Refusal refusal)) out out' =
    (fault : ProgramFault) × (verdict ≡ Err fault) × (refusal ≡ program_fault.refusal fault) × WritesText text (Ok tt) out out'
WritesExplanation text verdict (Err failure) out out' = ⊥
