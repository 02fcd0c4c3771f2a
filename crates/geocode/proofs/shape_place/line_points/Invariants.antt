use Rattle.std.proofs.Common.{◌≡◌, ◌≤◌, ◌*◌, ◌+◌, ◌∷◌, length, take}
use Rattle.std.specs.List.{flat_map}
use Rattle.geocode.proofs.shape_place.line_points.Given as goal

abbrev pub invariant-loop-part : goal.invariant-loop-part
invariant-loop-part g l =
    (l.line.items ≡ l.fn.start ∷ flat_map (λ part. part.points) (take l.part-index l.parts)) × (length l.line.items ≤ 1 + 10 * l.part-index)
