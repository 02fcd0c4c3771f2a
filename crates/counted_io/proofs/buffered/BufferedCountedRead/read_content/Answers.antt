use Rattle.counted_io.proofs.BufferLemmas.{stopped_known, stopped_unknown}
use Rattle.counted_io.proofs.buffered.BufferedCountedRead.read_content.Goals as goal

pub returns-in-Some-clause-content : goal.returns-in-Some-clause-content
returns-in-Some-clause-content g c =
    stopped_unknown _ c.read_from_buffer.new.content.items _ _ _ c.in-Some.stop c.loop-stop.invariant.so_far
    c.in-Some.ensures.buffer

pub returns-in-Some-clause-known : goal.returns-in-Some-clause-known
returns-in-Some-clause-known g c =
    stopped_known _ c.read_from_buffer.new.content.items _ _ _ c.in-Some.stop c.loop-stop.invariant.so_far
    c.in-Some.ensures.buffer
