use Rattle.std.proofs.Common.{ℕ, ◌<◌, List, length, subst}
use Rattle.cql2_text.specs.declared.reader.TheConstants.{MAX_TEXT_LENGTH}
use Rattle.filters.specs.Failure.{IsOfFilter}
use Rattle.filters.specs.Filter.{IsFilterFailure, IsProgramOf, length_fault}
use Rattle.commands.proofs.CarriedLemmas.{written_carried}
use Rattle.commands.proofs.CompileLemmas.{failure_usage, whole_failure, whole_program}
use Rattle.commands.proofs.SelectLemmas.{filter_carried}
use Rattle.commands.proofs.compile.Compile.carry_out.Goals as goal

pub returns-in-Ok-program-clause-carried : goal.returns-in-Ok-program-clause-carried
returns-in-Ok-program-clause-carried g c =
    let options = c.args.self.filter_options in
    let read = c.in-Ok.ensures.prefix in
    let text = c.as_slice.ensures.value in
    let made : IsProgramOf c.in-Ok.text.items options c.in-Ok-program.program.items =
    subst (λ (text : List ℕ). IsProgramOf text options c.in-Ok-program.program.items) text c.in-Ok-program.ensures.ok in
    let whole : IsProgramOf read.whole options c.in-Ok-program.program.items =
    whole_program read options c.in-Ok-program.program.items (λ long. c.in-Ok-program.ensures.too_long (rw text long)) made in
    written_carried c.as_slice-in-Ok-program.result.now c.write.result c.write.ensures c.in-Ok.ensures.uses (λ outcome wrote. record {
      text = read.whole;
      is_text = read.is_whole;
      program = c.as_slice-in-Ok-program.result.now;
      is_program = rw c.as_slice-in-Ok-program.ensures.value whole;
      written = wrote;
    })

pub returns-clause-carried : goal.returns-clause-carried
returns-clause-carried g c =
    let options = c.args.self.filter_options in
    let read = c.in-Ok.ensures.prefix in
    let text = c.as_slice.ensures.value in
    let failure = c.in-Err-program.failure in
    filter_carried failure (record {
      text = read.whole;
      is_text = read.is_whole;
      refused = whole_failure read options failure
          (subst (λ (text : List ℕ). MAX_TEXT_LENGTH < length text → IsOfFilter (length_fault text) failure) text c.in-Err-program.ensures.too_long)
          (subst (λ (text : List ℕ). IsFilterFailure text options failure) text c.in-Err-program.ensures.err);
    }) c.in-Ok.ensures.uses

pub returns-clause-usage : goal.returns-clause-usage
returns-clause-usage g c = failure_usage c.in-Err-program.failure
