use Rattle.std.proofs.Common.{[], ◌∷◌, ◌++◌}
use Rattle.std.proofs.lemmas.Result.{err_from_is_err_and}
use Rattle.tl_segments.proofs.ReadingLemmas.{one_line_more, not_added, at_fault}
use Rattle.tl_segments.proofs.county_file.read_file.Goals as goal

pub loop-table-preserved : goal.loop-table-preserved
loop-table-preserved g c =
    let so_far = c.loop-table.invariant in
    let line = c.read_line.new.line in
    let taken = c.in_ok-add_line-in-Ok-Some.ensures so_far.lines so_far.held so_far.read.reads.good in
    let next = rw c.in-Ok-Some.field-0-is at c.in-Ok-Some.ensures in
    record {
      lines = so_far.lines ++ line.bytes ∷ [];
      held = taken.1;
      read = one_line_more so_far.read line _ next taken.0;
    }

pub returns-in_err-add_line-in-Ok-Some-clause-err : goal.returns-in_err-add_line-in-Ok-Some-clause-err
returns-in_err-add_line-in-Ok-Some-clause-err g c =
    let so_far = c.loop-table.invariant in
    let returned = err_from_is_err_and c.from_residual.result c.from_residual.ensures.1 in
    let next = rw c.in-Ok-Some.field-0-is at c.in-Ok-Some.ensures in
    let fault = c.in_err-add_line-in-Ok-Some.field-0.0 in
    let taken = c.in_err-add_line-in-Ok-Some.ensures so_far.lines so_far.held so_far.read.reads.good in
    rw (returned.1, returned.2)
    (not_added so_far.read c.read_line.new.line _ (g.T.Table.holds c.add_line.new.table) fault next taken)

pub returns-in-Err-clause-err : goal.returns-in-Err-clause-err
returns-in-Err-clause-err g c =
    let so_far = c.loop-table.invariant in
    rw c.in_line.ensures (c.FILE.ensures, so_far.lines, at_fault so_far.read c.read_line.new.line _ _ c.in-Err.ensures)
