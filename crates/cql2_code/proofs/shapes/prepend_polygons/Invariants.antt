use Rattle.std.proofs.Common.{◌≡◌, ◌++◌, map}
use Rattle.std.specs.Prelude.{reverse}
use Rattle.std.specs.List.{flat_map}
use Rattle.cql2_code.specs.ShapeCode.{polygon_code}
use Rattle.cql2_code.proofs.shapes.prepend_polygons.Given as goal

-- the last ones
abbrev pub invariant-loop-polygon : goal.invariant-loop-polygon
invariant-loop-polygon g l =
    let done = reverse (map (λ polygon. polygon.now) l.yielded) in
    (l.several.polygons.items ≡ l.polygon-iterator.iter.rest.now ++ done) × (l.code ≡ flat_map polygon_code done ++ l.fn.code)
