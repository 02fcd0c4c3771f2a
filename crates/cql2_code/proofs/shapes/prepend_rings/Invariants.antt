use Rattle.std.proofs.Common.{◌≡◌, ◌++◌, map}
use Rattle.std.specs.Prelude.{reverse}
use Rattle.std.specs.List.{flat_map}
use Rattle.cql2_code.specs.ShapeCode.{ring_code}
use Rattle.cql2_code.proofs.shapes.prepend_rings.Given as goal

-- the last ones
abbrev pub invariant-loop-ring : goal.invariant-loop-ring
invariant-loop-ring g l =
    let done = reverse (map (λ ring. ring.now) l.yielded) in
    (l.polygon.rings.items ≡ l.ring-iterator.iter.rest.now ++ done) × (l.code ≡ flat_map ring_code done ++ l.fn.code)
