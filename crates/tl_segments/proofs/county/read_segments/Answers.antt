use Rattle.std.proofs.Common.{[], ◌∷◌, ◌++◌, refl, rules}
use Rattle.std.proofs.lemmas.Result.{err_from_is_err_and}
use Rattle.tl_segments.specs.County.{HoldsSegments}
use Rattle.tl_segments.specs.declared.fault.CountyFile.TheVariants.{Rt1}
use Rattle.tl_segments.proofs.ReadingLemmas.{none_read, one_line_more, not_added, at_fault}
use Rattle.tl_segments.proofs.county.read_segments.Goals as goal

pub loop-line-init : goal.loop-line-init
loop-line-init g c = record {
  so_far = record {
    lines = [];
    held = rw (c.new-segments.ensures.items, c.new-tlids.ensures.items)
        (record { joined = λ joined of_joined. refl; counted = refl; numbered = refl });
    read = none_read Rt1 c.new-line.result _ (search rules);
  };
  shared = λ tlid. rw (c.new-shared.ensures tlid) tt;
}

pub loop-line-preserved : goal.loop-line-preserved
loop-line-preserved g c =
    let so_far = c.loop-line.invariant.so_far in
    let line = c.read_line.new.line in
    let added_line = c.in_ok-push_segment-in-Ok-Some.ensures.added_line so_far.lines so_far.held in
    let next = rw c.in-Ok-Some.field-0-is at c.in-Ok-Some.ensures in
    record {
      so_far = record {
        lines = so_far.lines ++ line.bytes ∷ [];
        held = added_line.1;
        read = one_line_more so_far.read line _ next added_line.0;
      };
      shared = c.in_ok-push_segment-in-Ok-Some.ensures.holds;
    }

pub returns-in_err-push_segment-in-Ok-Some-clause-err : goal.returns-in_err-push_segment-in-Ok-Some-clause-err
returns-in_err-push_segment-in-Ok-Some-clause-err g c =
    let so_far = c.loop-line.invariant.so_far in
    let returned = err_from_is_err_and c.from_residual.result c.from_residual.ensures.1 in
    let next = rw c.in-Ok-Some.field-0-is at c.in-Ok-Some.ensures in
    let fault = c.in_err-push_segment-in-Ok-Some.field-0.0 in
    let added_line = c.in_err-push_segment-in-Ok-Some.ensures.added_line so_far.lines so_far.held in
    let holds = HoldsSegments c.args.index.now c.push_segment.new.segments.items c.push_segment.new.tlids.items in
    rw (returned.1, returned.2) (not_added so_far.read c.read_line.new.line _ holds fault next added_line)

pub returns-in-Err-clause-err : goal.returns-in-Err-clause-err
returns-in-Err-clause-err g c =
    let so_far = c.loop-line.invariant.so_far in
    rw c.in_line.ensures (refl, so_far.lines, at_fault so_far.read c.read_line.new.line _ _ c.in-Err.ensures)
