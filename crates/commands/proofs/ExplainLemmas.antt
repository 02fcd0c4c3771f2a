-- How `explain` is carried out.
use Rattle.std.proofs.Common.{◌≡◌, ◌≢◌, ℕ, List, Option, Result, Ok, Err, Bor, refl, sym, ap, ◌∙◌, subst, arith}
use Rattle.std.proofs.Math.Path.{fun_ext}
use Rattle.bpf_explain.specs.Explanation.{Explains, IsExplainFault, refusal}
use Rattle.bpf_explain.specs.declared.explanation.ExplainFault.{ExplainFault}
use Rattle.bpf_explain.specs.declared.explanation.ExplainFault.TheVariants as explain_fault
use Rattle.bpf_program.specs.declared.program.ProgramFault.{ProgramFault}
use Rattle.counted_io.specs.ReaderWriter.{WriteCounts, Writer}
use Rattle.commands.specs.Command.{CarriesOut}
use Rattle.commands.specs.Explain.{HoldsLines, Inputs, IsRefused, WritesExplanation, of_lines, of_memory, of_program}
use Rattle.commands.specs.Failure.{refusal_status}
use Rattle.named_files.specs.Files.{Disk, IsUnfailed, OpenResults}
use Rattle.commands.specs.declared.explain.Explain.{Explain}
use Rattle.commands.specs.declared.failure.Failure.{Failure}
use Rattle.commands.specs.declared.failure.Failure.TheVariants as failure
use Rattle.commands.specs.declared.request.Request.TheVariants as request
use Rattle.commands.proofs.CarriedLemmas.{fault_unflushed, refused_carried}
use Rattle.commands.proofs.ClassLemmas.{program_status}
use Rattle.commands.proofs.ReadLemmas.{sound}
use Rattle.named_files.proofs.FileLemmas.{unfailed_both}

-- the files hold the same bytes after the program was read
pub holds_before : {known later : List ℕ → Option (List ℕ)} (lines : Option (Bor (List ℕ))) (file : List ℕ)
    → ((name : List ℕ) → later name ≡ known name) → HoldsLines later lines file → HoldsLines known lines file
holds_before lines file same holds = subst (λ known. HoldsLines known lines file) (fun_ext same) holds

-- neither source lines nor a failed allocation are an I/O failure
explain_status : (fault : ExplainFault) → refusal_status (refusal fault) ≢ 3
explain_status fault three = grind (arith, three)

-- there is no explanation
is_refused : (explain : Explain) (disk later : Disk) (out : Writer) → ((name : List ℕ) → later.known name ≡ disk.known name)
    → (places : List ℕ) (fault : ExplainFault) → HoldsLines later.known explain.lines places → IsExplainFault places fault
    → IsRefused explain disk.known (refusal fault) out out
is_refused explain disk later out same places (explain_fault.Lines fault) holds is =
    of_lines places (holds_before explain.lines places same holds) fault is refl refl
is_refused explain disk later out same places explain_fault.Memory holds is = of_memory refl refl

module _ {R : Type 0} {opens : OpenResults R} (explain : Explain) {disk later disk' : Disk} {out : Writer} (before : IsUnfailed disk later)
    (after : IsUnfailed later disk')
    (same : (name : List ℕ) → later.known name ≡ disk.known name) where
  pub fault_carried : (places : List ℕ) (fault : ExplainFault) → HoldsLines later.known explain.lines places → IsExplainFault places fault
      → CarriesOut opens (request.Explain explain) (Err (failure.Refusal (refusal fault))) disk disk' out out
  fault_carried places fault holds is =
      let unfailed : IsUnfailed disk disk' = unfailed_both before after in
      refused_carried (refusal fault) (is_refused explain disk later out same places fault holds is) unfailed.opens
      (sound (explain_status fault) unfailed.reads) refl

  -- the explanation is written
  pub explained_carried : {written : Writer} (inputs : Inputs explain disk.known) (text : List ℕ) (verdict : Result (Unit {0}) ProgramFault)
      (result : Result (Unit {0}) Failure) → Explains inputs.program inputs.places text verdict → WritesExplanation text verdict result out written
      → CarriesOut opens (request.Explain explain) result disk disk' out written
  explained_carried inputs text verdict (Ok done) explained wrote = record {
    outcome = record { inputs = inputs; text = text; verdict = verdict; explained = explained; accepted = λ whole. wrote.0; written = wrote.1 };
    names = tt;
    counts = unfailed_both before after;
    unflushed = ap (λ (counts : WriteCounts). counts.flushes) wrote.1.1;
  }
  explained_carried {written} inputs text verdict (Err (failure.Write fault)) explained wrote = record {
    outcome = record {
      inputs = inputs;
      text = text;
      verdict = verdict;
      explained = explained;
      accepted = λ whole. absurd (let no : ⊥ = cc in no);
      written = wrote;
    };
    names = tt;
    counts = λ other. unfailed_both before after;
    unflushed = fault_unflushed fault out.counts written.counts wrote.1;
  }
  explained_carried inputs text verdict (Err (failure.Refusal refusal)) explained (fault, is, is_refusal, wrote) =
      let unfailed : IsUnfailed disk disk' = unfailed_both before after in
      refused_carried refusal
      (of_program inputs text fault (subst (Explains inputs.program inputs.places text) is explained) is_refusal wrote)
      unfailed.opens (sound (λ three. program_status fault (ap refusal_status (sym is_refusal) ∙ three)) unfailed.reads)
      (ap (λ (counts : WriteCounts). counts.flushes) wrote.1)
  explained_carried inputs text verdict (Err other) explained wrote = absurd wrote
