use Rattle.std.proofs.Common.{◌∙◌, subst, sym}
use Rattle.commands.specs.Counties.{AreCountiesOf, IsRefusedFile}
use Rattle.named_files.specs.County.{IsFileOfCounty}
use Rattle.commands.proofs.CountiesLemmas.{counties_more, earlier_load_failure, file_after, load_usage, memory_counts}
use Rattle.commands.proofs.CountiesLemmas.{memory_failure, named_after, refused_after}
use Rattle.named_files.proofs.FileLemmas.{unfailed_both}
use Rattle.commands.proofs.counties.load_counties.Goals as goal

pub returns-in-Err-clause-err : goal.returns-in-Err-clause-err
returns-in-Err-clause-err g c =
    let so_far = c.loop-code.invariant in
    earlier_load_failure g.F.Files.opens (g.F.Files.disk c.args.files.now)
    (g.F.Files.disk c.loop-code.files)
    (g.F.Files.disk c.load_county.new.files) c.in-Err.failure so_far.counts
    (λ _. refused_after so_far.stay c.args.codes.now c.loop-code.code-index _ c.loop-code.counties.items c.loop-code-test.true
    so_far.loaded)
    (λ refusal. file_after (λ code. IsRefusedFile c.args.folder.now code refusal) c.args.codes.now c.loop-code.code-index _ c.loop-code-test.true)
    c.in-Err.ensures.err

pub returns-in-Err-clause-usage : goal.returns-in-Err-clause-usage
returns-in-Err-clause-usage g c =
    load_usage g.F.Files.opens _ _ (g.F.Files.disk c.loop-code.files)
    (g.F.Files.disk c.load_county.new.files) c.in-Err.failure c.in-Err.ensures.err

pub returns-in-Err-clause-names : goal.returns-in-Err-clause-names
returns-in-Err-clause-names g c =
    named_after (IsFileOfCounty c.args.shapes c.args.folder.now) c.args.codes.now c.loop-code.code-index _ c.loop-code-test.true
    c.in-Err.failure c.in-Err.ensures.names

pub returns-in-Err-clause-counts : goal.returns-in-Err-clause-counts
returns-in-Err-clause-counts g c = λ other. unfailed_both c.loop-code.invariant.counts (c.in-Err.ensures.counts other)

pub returns-in_err-push-in-Ok-clause-err : goal.returns-in_err-push-in-Ok-clause-err
returns-in_err-push-in-Ok-clause-err g c =
    memory_failure g.F.Files.opens _ _ (g.F.Files.disk c.args.files.now)
    (g.F.Files.disk c.load_county.new.files) c.from_residual.result c.from_residual.ensures.1

pub loop-code-preserved : goal.loop-code-preserved
loop-code-preserved g c = let so_far = c.loop-code.invariant in record {
  loaded = subst (AreCountiesOf c.args.shapes _ c.args.folder.now _) (sym c.in_ok-push-in-Ok.ensures.items)
      (counties_more so_far.stay c.args.codes.now c.loop-code.code-index _ c.loop-code.counties.items c.loop-code-test.true
      so_far.loaded c.in-Ok.county c.in-Ok.ensures.ok);
  stay = λ name. c.in-Ok.ensures.stay name ∙ so_far.stay name;
  counts = unfailed_both so_far.counts c.in-Ok.ensures.counts;
}

pub returns-in_err-push-in-Ok-clause-counts : goal.returns-in_err-push-in-Ok-clause-counts
returns-in_err-push-in-Ok-clause-counts g c =
    memory_counts c.from_residual.result _ _ (unfailed_both c.loop-code.invariant.counts c.in-Ok.ensures.counts)

pub returns-in_err-push-in-Ok-clause-stay : goal.returns-in_err-push-in-Ok-clause-stay
returns-in_err-push-in-Ok-clause-stay g c = λ name. c.in-Ok.ensures.stay name ∙ c.loop-code.invariant.stay name
