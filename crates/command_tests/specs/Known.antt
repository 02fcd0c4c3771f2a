-- What a command writes for files whose bytes are known.
use Rattle.std.specs.Prelude.{◌≡◌, ℕ, List, ◌++◌}
use Rattle.bpf_insn.specs.declared.instruction.Insn.{Insn}
use Rattle.bpf_meaning.specs.Extract.{IsExtract}
use Rattle.bpf_program.specs.Program.{IsSafeProgram}
use Rattle.commands.specs.Verify.{acceptance}
use Rattle.commands.specs.declared.run.Run.{Run}
use Rattle.named_files.specs.County.{file_name}
use Rattle.tl_records.specs.Lines.{AreLines}
use Rattle.tl_segments.specs.Joining.{JoinedLines, segments_of}
use Rattle.tl_segments.specs.declared.fault.CountyFile.{CountyFile}
use Rattle.tl_segments.specs.declared.fault.CountyFile.TheVariants.{Rt1, Rt4, Rt5, Rt6}

-- a program with these bytes is safe, and exactly the acceptance was appended to the output
pub record AppendsAcceptance (program out out' : List ℕ) : Type 0 where
  pub code : List Insn
  pub safe : IsSafeProgram program code
  pub written : out' ≡ out ++ acceptance

-- the bytes of a county's file
abbrev pub county_bytes : (List ℕ → List ℕ) → Run → CountyFile → List ℕ
county_bytes bytes run file = bytes (file_name run.«data».now run.code.now file)

-- The program's bytes are those of safe code, and the lines are those of the county's files. Exactly the extract by the code from the segments of the
-- lines was appended to the output.
pub record AppendsExtract (bytes : List ℕ → List ℕ) (run : Run) (out out' : List ℕ) : Type 0 where
  pub code : List Insn
  pub safe : IsSafeProgram (bytes run.program.now) code
  pub lines : List (List ℕ)
  pub rt1 : AreLines (county_bytes bytes run Rt1) lines
  pub joined : JoinedLines
  pub rt4 : AreLines (county_bytes bytes run Rt4) joined.rt4
  pub rt5 : AreLines (county_bytes bytes run Rt5) joined.rt5
  pub rt6 : AreLines (county_bytes bytes run Rt6) joined.rt6
  pub text : List ℕ
  pub rows : ℕ
  pub is_extract : IsExtract code (segments_of joined lines) text rows
  pub written : out' ≡ out ++ text
