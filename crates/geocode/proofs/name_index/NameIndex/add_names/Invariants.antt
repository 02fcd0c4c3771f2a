use Rattle.std.proofs.Common.{take}
use Rattle.tl_segments.specs.Segment.{names_of}
use Rattle.geocode.specs.NameIndex.{AddsNames}
use Rattle.geocode.proofs.name_index.NameIndex.add_names.Given as goal

-- the segment is in front of the chains for its names so far
abbrev pub invariant-loop-name : goal.invariant-loop-name
invariant-loop-name g l = AddsNames l.fn.self l.self l.n l.span (take l.name (names_of l.segment))
