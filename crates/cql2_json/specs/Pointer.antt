-- JSON pointers (RFC 6901). No member on the way has a name that needs an escape.
use Rattle.std.specs.Prelude.{ℕ, List, [], ◌∷◌, codes, decimal, Option, Some, option_and_then}
use Rattle.std.specs.List.{flat_map}
use Rattle.json.specs.Find.{at, get}
use Rattle.json.specs.Json.{Json}
use Rattle.cql2_json.specs.declared.pointer.Member.{Member as AMember}
use Rattle.cql2_json.specs.declared.pointer.Member.TheVariants.{Op, Args, Property, Bbox, TypeName, Coordinates}
use Rattle.cql2_json.specs.declared.pointer.Step.{Step}
use Rattle.cql2_json.specs.declared.pointer.Step.TheVariants.{Member, Item}

abbrev pub member_name : AMember → List ℕ
member_name Op = codes "op"
member_name Args = codes "args"
member_name Property = codes "property"
member_name Bbox = codes "bbox"
member_name TypeName = codes "type"
member_name Coordinates = codes "coordinates"

-- a slash, and the name of a member or the index of an item
abbrev pub step_text : Step → List ℕ
step_text (Member member) = 47 ∷ member_name member
step_text (Item index) = 47 ∷ decimal index

abbrev pub pointer_text : List Step → List ℕ
pointer_text steps = flat_map step_text steps

-- the value that a step leads to
abbrev pub step_to : Step → Json → Option Json
step_to (Member member) value = get (member_name member) value
step_to (Item index) value = at index value

-- the value that a pointer leads to
abbrev pub value_at : List Step → Json → Option Json
value_at [] value = Some value
value_at (step ∷ steps) value = option_and_then (value_at steps) (step_to step value)
