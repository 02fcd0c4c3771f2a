use Rattle.std.proofs.Common.{◌-◌, ◌^◌}
use Rattle.tl_segments.specs.County.{HoldsSegments}
use Rattle.tl_segments.specs.SharedLists.{HoldsShared}
use Rattle.tl_segments.specs.declared.fault.CountyFile.TheVariants.{Rt1}
use Rattle.tl_segments.proofs.ReadingLemmas.{HoldsSoFar}
use Rattle.tl_segments.proofs.county.read_segments.Given as goal

abbrev pub invariant-loop-line : goal.invariant-loop-line
invariant-loop-line g l = record {
  so_far :
      HoldsSoFar Rt1 (HoldsSegments l.index l.segments.items l.tlids.items) l.line
      (g.R.CountedRead.reader l.initial.input)
      (g.R.CountedRead.reader l.input);
  shared : HoldsShared l.index l.shared;
}

abbrev pub decreases-loop-line : goal.decreases-loop-line
decreases-loop-line g l = 2 ^ 32 - l.line.number
