-- The text of a filter in CQL2's JSON encoding (CQL2, 21-065r2, annexes B and C). Each operation is in parentheses, so no precedence matters.
use Rattle.std.specs.Prelude.{ℕ, suc, List, [], ◌∷◌, ◌++◌, length, codes, bytes_eq, nat_lt, ◌-◌, if◌then◌else◌, Bool}
use Rattle.std.specs.Prelude.{Option, Some, None, Result, Ok, Err}
use Rattle.std.specs.List.{flat_map}
use Rattle.json.specs.Json.{Json, boolean, number, string, array, object, Items, no_items, item, Members, no_members, member}
use Rattle.cql2_json.specs.Form.{admits, closing, count_of, expected_value, item_kind, opening, separator}
use Rattle.cql2_json.specs.GeometryType.{coordinates_form, geometry_type_of_name, geometry_tag}
use Rattle.cql2_json.specs.Members.{pair_of_names}
use Rattle.cql2_json.specs.Operator.{operator_of_name}
use Rattle.cql2_json.specs.Quoted.{is_name, is_printable, quoted_text}
use Rattle.cql2_json.specs.declared.fault.ExpectedValue.{ExpectedValue}
use Rattle.cql2_json.specs.declared.fault.ExpectedValue.TheVariants as needed
use Rattle.cql2_json.specs.declared.form.Form.{Form}
use Rattle.cql2_json.specs.declared.form.Form.TheVariants.{Operands, Arguments, Box}
use Rattle.cql2_json.specs.declared.form.ValueKind.{ValueKind}
use Rattle.cql2_json.specs.declared.form.ValueKind.TheVariants.{Expression, Array}
use Rattle.cql2_json.specs.declared.members.Pair.{Pair}
use Rattle.cql2_json.specs.declared.members.Pair.TheVariants.{OpArgs, ArgsOp, TypeCoordinates, CoordinatesType, Other}
use Rattle.cql2_json.specs.declared.pointer.Member.TheVariants.{Op, Args, Property, Bbox, TypeName, Coordinates}
use Rattle.cql2_json.specs.declared.pointer.Step.{Step}
use Rattle.cql2_json.specs.declared.pointer.Step.TheVariants.{Member, Item}

-- a text, and the path to the value that writes it
pub record Piece : Type 0 where
  pub path : List Step
  pub text : List ℕ

-- the pieces before a value that has no text, the path to it, and what is expected in place of it
pub record Misplaced : Type 0 where
  pub before : List Piece
  pub path : List Step
  pub needs : ExpectedValue

-- the text of a value in pieces, or its first value that has none
abbrev pub Translation : Type 0
Translation = Result (List Piece) Misplaced

abbrev pub own : List Step → List ℕ → Translation
own path text = Ok (record { path = path; text = text } ∷ [])

abbrev pub refused : List Step → ExpectedValue → Translation
refused path needs = Err (record { before = []; path = path; needs = needs })

-- one text after another
infixr 10 ◌▷◌
abbrev pub ◌▷◌ : Translation → Translation → Translation
Ok first ▷ Ok second = Ok (first ++ second)
Ok first ▷ Err fault = Err (record fault { before = first ++ fault.before })
Err fault ▷ second = Err fault

abbrev pub items_count : Items → ℕ
items_count no_items = 0
items_count (item j js) = suc (items_count js)

-- a step from a value
abbrev pub at : List Step → Step → List Step
at path step = path ++ step ∷ []

abbrev pub boolean_text : Bool → ValueKind → List Step → Translation
boolean_text b Expression path = own path (if b then codes "TRUE" else codes "FALSE")
boolean_text b kind path = refused path (expected_value kind)

abbrev pub number_text : List ℕ → ValueKind → List Step → Translation
number_text s (Array form) path = refused path (expected_value (Array form))
number_text s kind path = own path s

abbrev pub string_text : List ℕ → ValueKind → List Step → Translation
string_text s Expression path = if is_printable s then own path (quoted_text 39 s) else refused path needed.Printable
string_text s kind path = refused path (expected_value kind)

abbrev pub property_text : Json → List Step → Translation
property_text (string name) path = if is_name name then own path (quoted_text 34 name) else refused path needed.Name
property_text value path = refused path needed.Name

-- an operation, by its name, or a function, and then its arguments
abbrev pub named_operation_text : List ℕ → List Step → (Form → Translation) → Translation
named_operation_text name path arguments =
    elim (operator_of_name name) [
      | Some operator ↦ arguments (Operands operator)
      | None ↦ (if is_name name then own path name ▷ arguments Arguments else refused (at path (Member Op)) needed.Operator)
    ]

abbrev pub operation_text : Json → List Step → (Form → Translation) → Translation
operation_text (string name) path arguments = named_operation_text name path arguments
operation_text value path arguments = refused (at path (Member Op)) needed.Operator

-- a geometry, by the name of its type, and then its coordinates
abbrev pub named_geometry_text : List ℕ → List Step → (Form → Translation) → Translation
named_geometry_text name path coordinates =
    elim (geometry_type_of_name name) [
      | Some geometry ↦ own path (geometry_tag geometry) ▷ coordinates (coordinates_form geometry)
      | None ↦ refused (at path (Member TypeName)) needed.Geometry
    ]

abbrev pub geometry_text : Json → List Step → (Form → Translation) → Translation
geometry_text (string name) path coordinates = named_geometry_text name path coordinates
geometry_text value path coordinates = refused (at path (Member TypeName)) needed.Geometry

-- the text of an object with two members, out of those that it has if they are op and args, args and op, type and coordinates, or
-- coordinates and type
abbrev pub of_pair : Pair → List Step → Translation → Translation → Translation → Translation → Translation
of_pair OpArgs path op_args args_op type_coordinates coordinates_type = op_args
of_pair ArgsOp path op_args args_op type_coordinates coordinates_type = args_op
of_pair TypeCoordinates path op_args args_op type_coordinates coordinates_type = type_coordinates
of_pair CoordinatesType path op_args args_op type_coordinates coordinates_type = coordinates_type
of_pair Other path op_args args_op type_coordinates coordinates_type = refused path needed.Object

-- the values of an array, with what stands around them
abbrev pub enclosed : Form → List Step → Translation → Translation
enclosed form path values = own path (opening form) ▷ values ▷ own path (closing form)

-- the text of the value at a path, which has to be of a kind
unfoldable mutual
  pub translation : Json → ValueKind → List Step → Translation
  translation (boolean b) kind path = boolean_text b kind path
  translation (number s) kind path = number_text s kind path
  translation (string s) kind path = string_text s kind path
  translation (array values) (Array form) path =
      if admits (count_of form) (items_count values) then enclosed form path (items_text values form path 0)
      else refused path (needed.Array (count_of form))
  translation (object ms) Expression path = object_text ms path
  translation value kind path = refused path (expected_value kind)

  -- the values of an array from an index on
  pub items_text : Items → Form → List Step → ℕ → Translation
  items_text no_items form path index = Ok []
  items_text (item value values) form path index =
      own path (separator form index) ▷ translation value (item_kind form index) (at path (Item index)) ▷ items_text values form path (suc index)

  pub object_text : Members → List Step → Translation
  object_text no_members path = refused path needed.Object
  object_text (member name value rest) path = members_text name value (λ kind step. translation value kind (at path step)) rest path

  -- the members of an object, of which the first is given
  pub members_text : List ℕ → Json → (ValueKind → Step → Translation) → Members → List Step → Translation
  members_text name value inner no_members path =
      if bytes_eq name (codes "property") then property_text value (at path (Member Property))
      else if bytes_eq name (codes "bbox") then inner (Array Box) (Member Bbox)
      else refused path needed.Object
  members_text name value inner (member other second no_members) path =
      of_pair (pair_of_names name other) path
      (operation_text value path (λ form. translation second (Array form) (at path (Member Args))))
      (operation_text second path (λ form. inner (Array form) (Member Args)))
      (geometry_text value path (λ form. translation second (Array form) (at path (Member Coordinates))))
      (geometry_text second path (λ form. inner (Array form) (Member Coordinates)))
  members_text name value inner (member other second (member third later rest)) path = refused path needed.Object

abbrev pub array_text : Items → Form → List Step → Translation
array_text values form path = translation (array values) (Array form) path

-- the arguments of the operation at a path
abbrev pub arguments_text : Json → List Step → Form → Translation
arguments_text value path form = translation value (Array form) (at path (Member Args))

-- the coordinates of the geometry at a path
abbrev pub coordinates_text : Json → List Step → Form → Translation
coordinates_text value path form = translation value (Array form) (at path (Member Coordinates))

-- a whole filter
abbrev pub filter_translation : Json → Translation
filter_translation value = translation value Expression []

abbrev pub joined : List Piece → List ℕ
joined pieces = flat_map (λ piece. piece.text) pieces

-- all pieces, or those before the first value that has no text
abbrev pub written : Translation → List Piece
written (Ok pieces) = pieces
written (Err fault) = fault.before

abbrev pub joined_text : Translation → Option (List ℕ)
joined_text (Ok pieces) = Some (joined pieces)
joined_text (Err fault) = None

-- the text of a filter, if it has one
abbrev pub text_of : Json → Option (List ℕ)
text_of value = joined_text (filter_translation value)

-- the path to the value that writes the byte at an offset
abbrev pub path_at : List Piece → ℕ → Option (List Step)
path_at [] offset = None
path_at (piece ∷ pieces) offset =
    if nat_lt offset (length piece.text) then Some piece.path else path_at pieces (offset - length piece.text)
