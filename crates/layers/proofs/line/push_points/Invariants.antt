use Rattle.std.proofs.Common.{◌≡◌, ◌*◌, ◌≤◌, length, take}
use Rattle.layers.specs.Line.{further_points}
use Rattle.layers.proofs.line.push_points.Given as goal

abbrev pub invariant-loop-point : goal.invariant-loop-point
invariant-loop-point l = record {
  so_far : l.piece.items ≡ further_points l.notation (take l.point-index l.points);
  short : length l.piece.items ≤ 60 * l.point-index;
}
