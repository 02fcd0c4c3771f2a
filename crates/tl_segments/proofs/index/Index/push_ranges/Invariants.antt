use Rattle.std.proofs.Common.{◌≡◌, take}
use Rattle.tl_segments.proofs.index.Index.push_ranges.Given as goal

abbrev pub invariant-loop-range : goal.invariant-loop-range
invariant-loop-range g l = l.segment ≡ record l.initial.segment { ranges = take l.range-index l.ranges }
