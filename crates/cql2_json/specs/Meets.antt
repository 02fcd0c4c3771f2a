-- The values that are as expected.
use Rattle.std.specs.Prelude.{Bool, true, false, ◌||◌, bytes_eq, codes, is_some}
use Rattle.json.specs.Json.{Json, boolean, number, string, array, object, Members, no_members, member}
use Rattle.cql2_json.specs.Form.{admits}
use Rattle.cql2_json.specs.GeometryType.{geometry_type_of_name}
use Rattle.cql2_json.specs.Members.{pair_of_names}
use Rattle.cql2_json.specs.Operator.{operator_of_name}
use Rattle.cql2_json.specs.Quoted.{is_name, is_printable}
use Rattle.cql2_json.specs.Translation.{items_count}
use Rattle.cql2_json.specs.declared.fault.ExpectedValue.{ExpectedValue}
use Rattle.cql2_json.specs.declared.fault.ExpectedValue.TheVariants.{Expression, Object, Operator, Name, Printable, Geometry, Number, Array}
use Rattle.cql2_json.specs.declared.members.Pair.{Pair}
use Rattle.cql2_json.specs.declared.members.Pair.TheVariants.{Other}

abbrev pub is_pair : Pair → Bool
is_pair Other = false
is_pair pair = true

-- property, bbox, op and args, or type and coordinates
abbrev pub has_members : Members → Bool
has_members no_members = false
has_members (member name value no_members) = bytes_eq name (codes "property") || bytes_eq name (codes "bbox")
has_members (member name value (member other second no_members)) = is_pair (pair_of_names name other)
has_members (member name value (member other second (member third later rest))) = false

abbrev pub meets : ExpectedValue → Json → Bool
meets Expression (boolean b) = true
meets Expression (number s) = true
meets Expression (string s) = true
meets Expression (object ms) = true
meets Object (object ms) = has_members ms
meets Operator (string s) = is_some (operator_of_name s) || is_name s
meets Name (string s) = is_name s
meets Printable (string s) = is_printable s
meets Geometry (string s) = is_some (geometry_type_of_name s)
meets Number (number s) = true
meets (Array count) (array values) = admits count (items_count values)
meets needs value = false
