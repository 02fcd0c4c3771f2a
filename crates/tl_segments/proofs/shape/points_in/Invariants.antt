use Rattle.std.proofs.Common.{◌≡◌, length, map, All, Some}
use Rattle.std.specs.List.{range_with_len}
use Rattle.tl_segments.specs.Shape.{IsPoint, point_at}
use Rattle.tl_segments.proofs.shape.points_in.Given as goal

abbrev pub invariant-loop-index : goal.invariant-loop-index
invariant-loop-index l = record {
  points : map Some l.points.items ≡ map (point_at l.rt2.bytes) (range_with_len 1 l.index);
  counted : length l.points.items ≡ l.index;
  small : All IsPoint l.points.items;
}
