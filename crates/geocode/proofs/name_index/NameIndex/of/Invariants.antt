use Rattle.std.proofs.Common.{drop}
use Rattle.geocode.specs.NameIndex.{HasSpans, IsIndexFrom}
use Rattle.geocode.proofs.name_index.NameIndex.of.Given as goal

-- each key has the segments from this one on, and each link has its segment's span
abbrev pub invariant-loop-n : goal.invariant-loop-n
invariant-loop-n g l = IsIndexFrom l.index l.n (drop l.n l.segments) × HasSpans l.index.links.items l.segments
