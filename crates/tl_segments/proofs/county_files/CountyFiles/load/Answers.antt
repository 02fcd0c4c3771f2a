use Rattle.std.proofs.Common.{◌≡◌, subst}
use Rattle.std.proofs.lemmas.Result.{err_from_is_err_and}
use Rattle.tl_segments.specs.County.{CountyReaders, IsCountyFault, IsSegmentsFault, SegmentReaders, in_segments}
use Rattle.tl_segments.specs.Shape.{ShapeTable}
use Rattle.tl_segments.specs.Shapes.{LoadsShapes}
use Rattle.tl_segments.specs.declared.fault.LoadFault.{LoadFault}
use Rattle.tl_segments.proofs.county_files.CountyFiles.load.Goals as goal

-- the segments can't be loaded after the shapes, for which nothing was read of their files
after_shapes : {fault : LoadFault} {shapes : ShapeTable} {between : SegmentReaders} {old new : CountyReaders}
    → LoadsShapes shapes old.shapes new.shapes → between ≡ old.segments → IsSegmentsFault fault between new.segments → IsCountyFault fault old new
after_shapes {fault} {new = new} loads same is =
    in_segments _ loads (subst (λ (old : SegmentReaders). IsSegmentsFault fault old new.segments) same is)

pub returns-in_err-county-clause-err : goal.returns-in_err-county-clause-err
returns-in_err-county-clause-err g c =
    let returned = err_from_is_err_and c.from_residual-in_err-county.result c.from_residual-in_err-county.ensures.1 in
    rw (returned.1, returned.2) (after_shapes c.in_ok-shapes.ensures.ok c.in_ok-shapes.ensures.unread c.in_err-county.ensures.err)
