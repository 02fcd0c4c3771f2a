use Rattle.std.proofs.Common.{◌≡◌, take}
use Rattle.extract.specs.Extracting.{WritesSelected}
use Rattle.extract.proofs.extractor.write_segments.Given as goal

abbrev pub invariant-loop-segment : goal.invariant-loop-segment
invariant-loop-segment g l = record {
  written : WritesSelected (g.F.Format.text_of l.initial.format) l.verified.code (take l.segment-index l.segments)
      (g.W.CountedWrite.writer l.initial.out) (g.W.CountedWrite.writer l.out);
  same : g.F.Format.text_of l.format ≡ g.F.Format.text_of l.initial.format;
}
