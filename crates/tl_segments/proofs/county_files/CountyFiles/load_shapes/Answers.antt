use Rattle.std.proofs.Common.{[], option_map, refl, subst, sym}
use Rattle.tl_segments.specs.Shapes.{ReadsShapes}
use Rattle.tl_segments.proofs.ShapeTableLemmas.{no_parts}
use Rattle.tl_segments.proofs.county_files.CountyFiles.load_shapes.Goals as goal

pub returns-in-None-clause-ok : goal.returns-in-None-clause-ok
returns-in-None-clause-ok g c = record {
  rt2 = [];
  holds = λ tlid. sym (no_parts tlid);
  reads = subst (λ rt2. ReadsShapes [] (option_map g.R.CountedRead.reader rt2) (option_map g.R.CountedRead.reader rt2)) (sym c.in-None.is) refl;
}
