-- What `run` and `trace` read, and why they fail to.
use Rattle.std.specs.Prelude.{◌≡◌, ◌⊎◌, ℕ, Bool, List, Option, Some, ⊤}
use Rattle.std.specs.Io.KnownBytes.{Keeps}
use Rattle.bpf_insn.specs.CodeFault as code_fault
use Rattle.bpf_insn.specs.declared.fault.CodeFault.{CodeFault}
use Rattle.refusals.specs.Refusal.{RefusalParts}
use Rattle.tl_segments.specs.County.{CountyReaders}
use Rattle.named_files.specs.County.{HoldCounty, IsFileOfCounty, file_name}
use Rattle.named_files.specs.Files.{Disk, FailsToOpen, FailsToUse, IsTooLong, OpenResults}
use Rattle.commands.specs.declared.failure.Failure.{Failure}
use Rattle.commands.specs.declared.failure.Failure.TheVariants.{Refusal, Memory, File, CountyFile}

-- this is the name of the program's file or of one of the county's files
abbrev pub IsInput : Bool → List ℕ → List ℕ → List ℕ → List ℕ → Type 0
IsInput shapes program folder code name = (name ≡ program) ⊎ IsFileOfCounty shapes folder code name

-- the bytes of the program of this name and the readers of the county's files agree with what is known of them
pub record HoldInputs (shapes : Bool) (known : List ℕ → Option (List ℕ)) (name folder code program : List ℕ) (readers : CountyReaders)
    : Type 0 where
  pub is_program : Keeps (known name) (Some program)
  pub county : HoldCounty shapes known folder code readers

-- The program of this name is too long, and is refused with this refusal. The bytes of the county's files agree with what is known of them.
pub record HoldTooLong (shapes : Bool) (name folder code : List ℕ) (known : List ℕ → Option (List ℕ)) (refusal : RefusalParts) : Type 0 where
  pub fault : CodeFault
  pub long : IsTooLong (known name) fault
  pub is_refusal : refusal ≡ code_fault.refusal fault
  pub readers : CountyReaders
  pub hold : HoldCounty shapes known folder code readers

-- why a program and a county can't be read: the program is too long, a file can't be used, or an allocation fails
abbrev pub IsInputsFailure : {R : Type 0} → OpenResults R → Bool → List ℕ → List ℕ → List ℕ → Disk → Disk → Failure → Type 0
IsInputsFailure opens shapes name folder code disk disk' (Refusal refusal) = HoldTooLong shapes name folder code disk.known refusal
IsInputsFailure opens shapes name folder code disk disk' (File of error) = FailsToUse opens of.now error disk disk'
IsInputsFailure opens shapes name folder code disk disk' (CountyFile of_folder of_code file error) =
    FailsToOpen (opens (file_name of_folder.now of_code.now file)) error disk disk'
IsInputsFailure opens shapes name folder code disk disk' Memory = ⊤
IsInputsFailure opens shapes name folder code disk disk' failure = ⊥
