use Rattle.std.proofs.Common.{ℕ, ◌+◌, List, Some, Err, refl, subst, arith}
use Rattle.std.specs.Io.KnownBytes.{Keeps}
use Rattle.bpf_text.specs.SourceFault.{IsSourceFault}
use Rattle.bpf_assembler.specs.TextFault as text_fault
use Rattle.bpf_assembler.specs.TextFaultKind.{text_too_long}
use Rattle.bpf_text.specs.declared.fault.SourceFault.{SourceFault}
use Rattle.bpf_text.specs.declared.fault.SourceFault.TheVariants as source
use Rattle.bpf_assembler.specs.declared.fault.TextFault.TheVariants as text
use Rattle.counted_io.specs.ReaderWriter.{Writer}
use Rattle.commands.specs.Assemble.{of_length, of_text, source_limit}
use Rattle.commands.specs.Command.{CarriesOut}
use Rattle.commands.specs.Failure.{of_source}
use Rattle.named_files.specs.Files.{Disk, IsLong, IsUnfailed, OpenResults}
use Rattle.commands.specs.declared.assemble.Assemble.{Assemble}
use Rattle.commands.specs.declared.failure.Failure.TheVariants as failure
use Rattle.commands.specs.declared.request.Request.TheVariants as request
use Rattle.commands.proofs.CarriedLemmas.{refused_carried}
use Rattle.commands.proofs.ClassLemmas.{text_status}
use Rattle.commands.proofs.ReadLemmas.{sound}
use Rattle.commands.proofs.assemble.Assemble.carry_out.Goals as goal

source_refused : {R : Type 0} {opens : OpenResults R} {disk disk' : Disk} {out : Writer} (arguments : Assemble) (bytes : List ℕ) (fault : SourceFault)
    → IsUnfailed disk disk' → Keeps (disk.known arguments.source.now) (Some bytes) → IsSourceFault bytes fault
    → CarriesOut opens (request.Assemble arguments) (Err (of_source arguments.source fault)) disk disk' out out
source_refused arguments bytes source.NotUtf8 counts is no_text = record {
  outcome = (refl, record { is_source = refl; source = bytes; holds = is; no_text = no_text });
  names = tt;
  counts = λ other. counts;
  unflushed = refl;
}
source_refused arguments bytes (source.Text text.Memory) counts is faulty =
    record { outcome = refl; names = tt; counts = λ other. counts; unflushed = refl }
source_refused arguments bytes (source.Text (text.InLine line flaw)) counts is faulty =
    refused_carried (text_fault.refusal (text.InLine line flaw)) (of_text (record {
      source = bytes;
      is_source = is;
      is_text = faulty.0;
      fault = text.InLine line flaw;
      first = faulty.1;
      is_refusal = refl;
      unwritten = refl;
    })) counts.opens (sound (text_status (text.InLine line flaw)) counts.reads) refl

-- the source is too long
long_refused : {R : Type 0} {opens : OpenResults R} {disk disk' : Disk} {out : Writer} (arguments : Assemble) → IsUnfailed disk disk'
    → IsLong (source_limit + 1) (disk.known arguments.source.now)
    → CarriesOut opens (request.Assemble arguments) (Err (failure.Refusal text_too_long)) disk disk' out out
long_refused arguments counts long =
    refused_carried text_too_long (of_length long refl refl) counts.opens (sound (λ e. grind (arith, e)) counts.reads) refl

pub returns-clause-carried : goal.returns-clause-carried
returns-clause-carried g c =
    let short = rw c.in-Ok-Some.field-0-is at c.in-Ok-Some.ensures.short in
    rw c.of_source.ensures (source_refused c.args.self _ c.in-Err-assemble_source.fault c.in-Ok-Some.ensures.uses short.is_file
    (subst (λ (bytes : List ℕ). IsSourceFault bytes c.in-Err-assemble_source.fault) c.as_slice.ensures.value
    c.in-Err-assemble_source.ensures.err))
