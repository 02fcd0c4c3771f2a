use Rattle.std.proofs.Common.{ap, refl, ◌∙◌}
use Rattle.counted_io.specs.ReaderWriter.{WriteCounts}
use Rattle.commands.specs.Select.{none}
use Rattle.layers.specs.Layer.{has_shapes}
use Rattle.layers.specs.LayerParts.{parts_of}
use Rattle.commands.proofs.CountiesLemmas.{named_after}
use Rattle.named_files.specs.County.{IsFileOfCounty}
use Rattle.named_files.proofs.FileLemmas.{unfailed_both}
use Rattle.commands.proofs.SelectLemmas.{counties_counts, counties_stopped, fails_after, written_more}
use Rattle.commands.proofs.select.select_counties.Goals as goal

pub loop-code-init : goal.loop-code-init
loop-code-init g c = record { written = none; stay = λ name. refl; counts = record { opens = refl; reads = λ name. refl } }

pub returns-in-Err-clause-outcome : goal.returns-in-Err-clause-outcome
returns-in-Err-clause-outcome g c = let so_far = c.loop-code.invariant in
    counties_stopped (g.F.Files.disk c.args.files.now).known (g.F.Files.disk c.loop-code.files).known so_far.stay c.args.codes.now
    c.loop-code.code-index _ c.loop-code-test.true so_far.written
    (g.W.CountedWrite.writer c.select_county.new.out) c.in-Err.failure c.in-Err.ensures.outcome

pub returns-in-Err-clause-fails : goal.returns-in-Err-clause-fails
returns-in-Err-clause-fails g c =
    fails_after g.F.Files.opens c.args.folder.now c.in-Err.failure (g.F.Files.disk c.args.files.now)
    (g.F.Files.disk c.loop-code.files)
    (g.F.Files.disk c.select_county.new.files) c.loop-code.invariant.counts
    c.in-Err.ensures.fails

pub returns-in-Err-clause-names : goal.returns-in-Err-clause-names
returns-in-Err-clause-names g c =
    named_after (IsFileOfCounty (has_shapes (parts_of c.args.layer.now)) c.args.folder.now) c.args.codes.now c.loop-code.code-index _
    c.loop-code-test.true c.in-Err.failure c.in-Err.ensures.names

pub returns-in-Err-clause-counts : goal.returns-in-Err-clause-counts
returns-in-Err-clause-counts g c = λ other. unfailed_both c.loop-code.invariant.counts (c.in-Err.ensures.counts other)

pub returns-in-Err-clause-unflushed : goal.returns-in-Err-clause-unflushed
returns-in-Err-clause-unflushed g c =
    c.in-Err.ensures.unflushed ∙ ap (λ (counts : WriteCounts). counts.flushes) (counties_counts c.loop-code.invariant.written)

pub loop-code-preserved : goal.loop-code-preserved
loop-code-preserved g c = let so_far = c.loop-code.invariant in record {
  written = written_more (g.F.Files.disk c.args.files.now).known (g.F.Files.disk c.loop-code.files).known so_far.stay c.args.codes.now
      c.loop-code.code-index _ c.loop-code-test.true so_far.written c.in-Ok.ensures.outcome;
  stay = λ name. c.in-Ok.ensures.stay name ∙ so_far.stay name;
  counts = unfailed_both so_far.counts c.in-Ok.ensures.counts;
}

pub returns-clause-unflushed : goal.returns-clause-unflushed
returns-clause-unflushed g c = ap (λ (counts : WriteCounts). counts.flushes) (counties_counts c.loop-code.invariant.written)
