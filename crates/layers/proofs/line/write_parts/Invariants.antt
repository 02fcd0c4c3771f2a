use Rattle.std.proofs.Common.{take, Ok}
use Rattle.std.specs.List.{flat_map}
use Rattle.counted_io.specs.Writing.{WritesText}
use Rattle.layers.specs.Line.{further_points}
use Rattle.layers.proofs.line.write_parts.Given as goal

abbrev pub invariant-loop-part : goal.invariant-loop-part
invariant-loop-part g l =
    WritesText (flat_map (λ part. further_points l.notation part.points) (take l.part-index l.parts)) (Ok tt)
    (g.W.CountedWrite.writer l.initial.out) (g.W.CountedWrite.writer l.out)
