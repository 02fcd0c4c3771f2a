use Rattle.std.proofs.Common.{ap, ◌∙◌, ℕ, Bool, List, Option, Bor, Err, inl, refl, subst}
use Rattle.std.specs.Io.KnownBytes.{Keeps}
use Rattle.std.proofs.Math.Path.{fun_ext}
use Rattle.tl_segments.specs.County.{CountyReaders, county_readers}
use Rattle.named_files.specs.County.{HoldCounty, path_of}
use Rattle.commands.specs.Failure.{NamesFile, of_program}
use Rattle.named_files.specs.Files.{Disk, IsProgramInputFault, IsProgramUseFault, OpenResults, input_reader}
use Rattle.commands.specs.Inputs.{IsInput, IsInputsFailure}
use Rattle.named_files.specs.declared.files.FileFault.TheVariants as fault
use Rattle.named_files.specs.declared.files.ProgramInputFault.{ProgramInputFault}
use Rattle.named_files.specs.declared.files.ProgramInputFault.TheVariants as input
use Rattle.named_files.proofs.FileLemmas.{close_then, keeps_both, named_close, read_program_fault}
use Rattle.named_files.proofs.ProgramLemmas.{too_long_as}
use Rattle.commands.proofs.ReadLemmas.{unread_county}
use Rattle.commands.proofs.inputs.open_inputs.Goals as goal

-- the program's file can't be read, or the program is too long
module _ {R : Type 0} (opens : OpenResults R) {shapes : Bool} (disk disk' : Disk) (name folder code : Bor (List ℕ))
    (left : Option (List ℕ)) {readers : CountyReaders} where
  program_failure : (of : ProgramInputFault) → Keeps (disk.known name.now) left → IsProgramInputFault left of
      → IsProgramUseFault opens name.now disk disk' of → HoldCounty shapes disk.known folder.now code.now readers
      → IsInputsFailure opens shapes name.now folder.now code.now disk disk' (of_program name of)
  program_failure (input.File (fault.Unusable error)) unchanged is_failure fails hold = fails
  program_failure (input.File fault.Memory) unchanged is_failure fails hold = tt
  program_failure (input.Code of) unchanged is_failure fails hold = record {
    fault = of;
    long = too_long_as (disk.known name.now) left of unchanged is_failure;
    is_refusal = refl;
    readers = readers;
    hold = hold;
  }

-- the file named in that failure
module _ (shapes : Bool) (name folder code : Bor (List ℕ)) where
  program_named : (of : ProgramInputFault) → NamesFile (IsInput shapes name.now folder.now code.now) (of_program name of)
  program_named (input.File (fault.Unusable error)) = inl refl
  program_named (input.File fault.Memory) = tt
  program_named (input.Code of) = tt

pub returns-in-Err-read-clause-err : goal.returns-in-Err-read-clause-err
returns-in-Err-read-clause-err g c =
    let opened = c.in-Ok.ensures in
    let county = c.in-Ok-open_county.ensures in
    let closed = c.close_county.ensures in
    rw c.of_program.ensures (program_failure g.F.Files.opens (g.F.Files.disk c.args.files.now)
    (g.F.Files.disk c.close_county.new.files) c.args.name c.args.folder c.args.code _
    c.in-Err-read.fault opened.known.left c.in-Err-read.ensures.refused
    (read_program_fault c.args.name.now (g.F.Files.disk c.args.files.now)
    (g.F.Files.disk c.close_county.new.files)
    (closed.opens ∙ c.close-2.ensures.opens ∙ county.opens.opens ∙ opened.opens.opens) opened.known.failed
    (keeps_both opened.opens.reads county.opens.reads)
    (close_then (named_close (ap path_of c.read_program-read.ensures.name ∙ opened.name) c.close-2.ensures.reads)
    (unread_county county.hold closed.reads refl))
    g.F.Files.opens c.in-Ok.file.reader opened.opened {T = ℕ} (Err c.in-Err-read.fault) c.in-Err-read.ensures.reads)
    (subst (λ (known : List ℕ → Option (List ℕ)). HoldCounty c.args.shapes known c.args.folder.now c.args.code.now
    (county_readers (input_reader g.F.Reader.CountedRead.reader) c.in-Ok-open_county.county))
    (fun_ext opened.opens.stays) county.hold))

pub returns-in-Err-read-clause-names : goal.returns-in-Err-read-clause-names
returns-in-Err-read-clause-names g c = rw c.of_program.ensures (program_named c.args.shapes c.args.name c.args.folder c.args.code c.in-Err-read.fault)
