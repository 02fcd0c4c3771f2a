use Rattle.std.proofs.Common.{arith}
use Rattle.tl_segments.proofs.SegmentLemmas.{AreBytes-field_of}
use Rattle.tl_segments.proofs.segment.Segment.name.Goals as goal

pub returns-in-None-clause-bytes : goal.returns-in-None-clause-bytes
returns-in-None-clause-bytes g c =
    rw (c.of.ensures.value, c.as_slice.ensures.value)
    (AreBytes-field_of c.self.inside.record.items 228 20 49 c.self.invariant.bytes (omega arith) (omega arith) (omega arith))
