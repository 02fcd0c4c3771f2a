use Rattle.std.proofs.Common.{◌≡◌, ◌-◌, ◌++◌, drop}
use Rattle.std.specs.List.{flat_map}
use Rattle.cql2.specs.Geometry.{edges_through}
use Rattle.cql2_code.specs.ShapeCode.{edge_code}
use Rattle.cql2_code.proofs.shapes.prepend_edges.Given as goal

-- the edges from a vertex on
abbrev pub invariant-loop-next : goal.invariant-loop-next
invariant-loop-next g l = l.code ≡ flat_map edge_code (edges_through (drop (l.next - 1) l.vertices)) ++ l.fn.code
