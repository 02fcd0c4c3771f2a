use Rattle.std.proofs.Common.{◌≡◌, ◌-◌, ◌^◌}
use Rattle.tl_segments.specs.Segment.{line_of}
use Rattle.extract.proofs.ExtractLemmas.{IsExtractedSoFar}
use Rattle.extract.proofs.extractor.write_selected.Given as goal

abbrev pub invariant-loop-segment : goal.invariant-loop-segment
invariant-loop-segment g l = record {
  so_far : IsExtractedSoFar (g.F.Format.text_of l.initial.format) l.index l.verified.code l.count (line_of l.number l.segment)
      (g.R.CountedRead.reader l.initial.rt1) (g.R.CountedRead.reader l.rt1)
      (g.W.CountedWrite.writer l.initial.out) (g.W.CountedWrite.writer l.out);
  same : g.F.Format.text_of l.format ≡ g.F.Format.text_of l.initial.format;
}

abbrev pub decreases-loop-segment : goal.decreases-loop-segment
decreases-loop-segment g l = 2 ^ 32 - l.number
