use Rattle.std.proofs.Common.{◌≡◌, take}
use Rattle.extract.specs.Extracting.{WritesSelected}
use Rattle.layers.specs.Counties.{segments_of}
use Rattle.layers.proofs.counties.write_counties.Given as goal

-- the counties so far are written, and the format is still the same
abbrev pub invariant-loop-county : goal.invariant-loop-county
invariant-loop-county g l = record {
  written : WritesSelected (g.F.Format.text_of l.initial.format) l.verified.code (segments_of (take l.county-index l.counties))
      (g.W.CountedWrite.writer l.initial.out) (g.W.CountedWrite.writer l.out);
  same : g.F.Format.text_of l.format ≡ g.F.Format.text_of l.initial.format;
}
