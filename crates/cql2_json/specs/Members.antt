-- The objects with two members (CQL2, 21-065r2, annex C; RFC 7946). The members of an object are in no order.
use Rattle.std.specs.Prelude.{ℕ, List, codes, bytes_eq, if◌then◌else◌}
use Rattle.cql2_json.specs.declared.members.Pair.{Pair}
use Rattle.cql2_json.specs.declared.members.Pair.TheVariants.{OpArgs, ArgsOp, TypeCoordinates, CoordinatesType, Other}

abbrev pub pair_of_names : List ℕ → List ℕ → Pair
pair_of_names first second =
    if bytes_eq first (codes "op") then (if bytes_eq second (codes "args") then OpArgs else Other)
    else if bytes_eq first (codes "args") then (if bytes_eq second (codes "op") then ArgsOp else Other)
    else if bytes_eq first (codes "type") then (if bytes_eq second (codes "coordinates") then TypeCoordinates else Other)
    else if bytes_eq first (codes "coordinates") then (if bytes_eq second (codes "type") then CoordinatesType else Other)
    else Other
