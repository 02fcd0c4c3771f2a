-- A translation has no control characters, so it is one line.
use Rattle.std.proofs.Common.{◌≡◌, ℕ, suc, zero, Bool, true, false, not, ◌||◌, ◌==◌, ◌&&◌, List, [], ◌∷◌, ◌++◌, length, Ok, Err, refl, ap, ◌∙◌, subst, arith}
use Rattle.std.specs.List.{flat_map, list_all, list_any}
use Rattle.std.specs.Prelude.{bytes_eq, codes, if◌then◌else◌, Option, Some, None}
use Rattle.std.proofs.lemmas.Bool.Decides.{nat_tests}
use Rattle.json.specs.Json.{Json, null, boolean, number, string, array, object, Items, no_items, item, Members, no_members, member}
use Rattle.json.specs.Tree.{HasNumbers, ItemsHaveNumbers, MembersHaveNumbers}
use Rattle.cql2_json.specs.Form.{admits, closing, count_of, item_kind, opening, separator}
use Rattle.cql2_json.specs.GeometryType.{coordinates_form, geometry_type_of_name, geometry_tag}
use Rattle.cql2_json.specs.Members.{pair_of_names}
use Rattle.cql2_json.specs.Operator.{first_separator, later_separator, operator_closing, operator_of_name, operator_opening}
use Rattle.cql2_json.specs.Quoted.{is_control, is_name, is_name_byte, is_printable, quoted_text, quoted_byte}
use Rattle.cql2_json.specs.Translation.{Translation, arguments_text, at, boolean_text, coordinates_text, enclosed, filter_translation, geometry_text}
use Rattle.cql2_json.specs.Translation.{items_count, items_text, joined, joined_text, members_text, number_text, object_text, of_pair}
use Rattle.cql2_json.specs.Translation.{operation_text, own, property_text, refused, string_text, text_of, translation, ◌▷◌}
use Rattle.cql2_json.specs.declared.fault.ExpectedValue.TheVariants as needed
use Rattle.cql2_json.specs.declared.form.Form.{Form}
use Rattle.cql2_json.specs.declared.form.Form.TheVariants.{Operands, Arguments, Box}
use Rattle.cql2_json.specs.declared.form.ValueKind.{ValueKind}
use Rattle.cql2_json.specs.declared.form.ValueKind.TheVariants.{Expression, Number, Array}
use Rattle.cql2_json.specs.declared.geometry_type.GeometryType.{GeometryType}
use Rattle.cql2_json.specs.declared.geometry_type.GeometryType.TheVariants as geometry
use Rattle.cql2_json.specs.declared.members.Pair.{Pair}
use Rattle.cql2_json.specs.declared.members.Pair.TheVariants.{OpArgs, ArgsOp, TypeCoordinates, CoordinatesType, Other}
use Rattle.cql2_json.specs.declared.operator.JsonOperator.{JsonOperator}
use Rattle.cql2_json.specs.declared.operator.JsonOperator.TheVariants as operator
use Rattle.cql2_json.specs.declared.pointer.Member.TheVariants.{Op, Args, Property, Bbox, TypeName, Coordinates}
use Rattle.cql2_json.specs.declared.pointer.Step.{Step}
use Rattle.cql2_json.specs.declared.pointer.Step.TheVariants.{Member, Item}
use Rattle.cql2_json.proofs.NumberLemmas.{IsClean, clean-append, clean-cons, number-clean}
use Rattle.cql2_json.proofs.WriterLemmas.{joined-append}

-- the text has no control characters
abbrev Clean : Translation → Type 0
Clean (Ok pieces) = IsClean (joined pieces)
Clean (Err fault) = Unit {0}

clean-own : (path : List Step) (text : List ℕ) → IsClean text → Clean (own path text)
clean-own path text clean = clean-append text [] clean refl

clean-then : (first second : Translation) → Clean first → Clean second → Clean (first ▷ second)
clean-then (Ok ps) (Ok qs) a b = ap (list_any is_control) (joined-append ps qs) ∙ clean-append (joined ps) (joined qs) a b
clean-then (Ok ps) (Err fault) a b = tt
clean-then (Err fault) second a b = tt

choose-clean : (b : Bool) (x y : Translation) → (b ≡ true → Clean x) → (b ≡ false → Clean y) → Clean (if b then x else y)
choose-clean true x y if_true if_false = if_true refl
choose-clean false x y if_true if_false = if_false refl

-- ---- the texts of forms

operator_opening-clean : (o : JsonOperator) → IsClean (operator_opening o)
operator_opening-clean operator.Not = refl
operator_opening-clean o = refl

operator_closing-clean : (o : JsonOperator) → IsClean (operator_closing o)
operator_closing-clean operator.IsNull = refl
operator_closing-clean o = refl

first_separator-clean : (o : JsonOperator) → IsClean (first_separator o)
first_separator-clean operator.And = refl
first_separator-clean o = refl

later_separator-clean : (o : JsonOperator) → IsClean (later_separator o)
later_separator-clean operator.Between = refl
later_separator-clean o = refl

opening-clean : (form : Form) → IsClean (opening form)
opening-clean (Operands o) = operator_opening-clean o
opening-clean Box = refl
opening-clean form = refl

closing-clean : (form : Form) → IsClean (closing form)
closing-clean (Operands o) = operator_closing-clean o
closing-clean form = refl

separator-clean : (form : Form) (index : ℕ) → IsClean (separator form index)
separator-clean (Operands o) zero = refl
separator-clean (Operands o) (suc zero) = first_separator-clean o
separator-clean (Operands o) (suc (suc index)) = later_separator-clean o
separator-clean form zero = refl
separator-clean form (suc index) = refl

tag-clean : (g : GeometryType) → IsClean (geometry_tag g)
tag-clean geometry.Point = refl
tag-clean g = refl

-- ---- names and strings

not-true : (b : Bool) → not b ≡ true → b ≡ false
not-true true is = let never : ⊥ = cc in absurd never
not-true false is = refl

printable-clean : (s : List ℕ) → is_printable s ≡ true → IsClean s
printable-clean s is = not-true (list_any is_control s) is

both-true : (a b : Bool) → (a && b) ≡ true → (a ≡ true) × (b ≡ true)
both-true true b is = (refl, is)
both-true false b is = let never : ⊥ = cc in absurd never

name_byte-clean : (byte : ℕ) → is_name_byte byte ≡ true → is_control byte ≡ false
name_byte-clean byte is = grind (arith, nat_tests)

letters-clean : (s : List ℕ) → list_all is_name_byte s ≡ true → IsClean s
letters-clean [] is = refl
letters-clean (byte ∷ rest) is =
    let parts = both-true (is_name_byte byte) (list_all is_name_byte rest) is in
    clean-cons byte rest (name_byte-clean byte parts.0) (letters-clean rest parts.1)

name-clean : (s : List ℕ) → is_name s ≡ true → IsClean s
name-clean s is = letters-clean s (both-true (not (length s == 0)) (list_all is_name_byte s) is).1

or-parts : (a b : Bool) → (a || b) ≡ false → (a ≡ false) × (b ≡ false)
or-parts true b is = let never : ⊥ = cc in absurd never
or-parts false b is = (refl, is)

byte-clean : (quote byte : ℕ) (doubled : Bool) → is_control quote ≡ false → is_control byte ≡ false
    → IsClean (if doubled then quote ∷ byte ∷ [] else byte ∷ [])
byte-clean quote byte true q b = clean-cons quote (byte ∷ []) q (clean-cons byte [] b refl)
byte-clean quote byte false q b = clean-cons byte [] b refl

bytes-clean : (quote : ℕ) (s : List ℕ) → is_control quote ≡ false → IsClean s → IsClean (flat_map (quoted_byte quote) s)
bytes-clean quote [] q clean = refl
bytes-clean quote (byte ∷ rest) q clean =
    let parts = or-parts (is_control byte) (list_any is_control rest) clean in
    clean-append (quoted_byte quote byte) (flat_map (quoted_byte quote) rest) (byte-clean quote byte (byte == quote) q parts.0)
    (bytes-clean quote rest q parts.1)

quoted_text-clean : (quote : ℕ) (s : List ℕ) → is_control quote ≡ false → IsClean s → IsClean (quoted_text quote s)
quoted_text-clean quote s q clean =
    clean-cons quote (flat_map (quoted_byte quote) s ++ quote ∷ []) q
    (clean-append (flat_map (quoted_byte quote) s) (quote ∷ []) (bytes-clean quote s q clean) (clean-cons quote [] q refl))

string-clean : (s : List ℕ) (kind : ValueKind) (path : List Step) → Clean (string_text s kind path)
string-clean s Expression path =
    choose-clean (is_printable s) (own path (quoted_text 39 s)) (refused path needed.Printable)
    (λ good. clean-own path (quoted_text 39 s) (quoted_text-clean 39 s refl (printable-clean s good))) (λ bad. tt)
string-clean s Number path = tt
string-clean s (Array form) path = tt

boolean-clean : (b : Bool) (kind : ValueKind) (path : List Step) → Clean (boolean_text b kind path)
boolean-clean true Expression path = refl
boolean-clean false Expression path = refl
boolean-clean b Number path = tt
boolean-clean b (Array form) path = tt

numeral-clean : (s : List ℕ) (kind : ValueKind) (path : List Step) → IsClean s → Clean (number_text s kind path)
numeral-clean s Expression path clean = clean-own path s clean
numeral-clean s Number path clean = clean-own path s clean
numeral-clean s (Array form) path clean = tt

property-clean : (value : Json) (path : List Step) → Clean (property_text value path)
property-clean (string s) path =
    choose-clean (is_name s) (own path (quoted_text 34 s)) (refused path needed.Name)
    (λ good. clean-own path (quoted_text 34 s) (quoted_text-clean 34 s refl (name-clean s good))) (λ bad. tt)
property-clean value path = tt

-- ---- operations and geometries

named-cases : (s : List ℕ) (path : List Step) (arguments : Form → Translation) (o : Option JsonOperator) → ((form : Form) → Clean (arguments form))
    → Clean (elim o [
      | Some operator ↦ arguments (Operands operator)
      | None ↦ (if is_name s then own path s ▷ arguments Arguments else refused (at path (Member Op)) needed.Operator)
    ])
named-cases s path arguments (Some operator) all = all (Operands operator)
named-cases s path arguments None all =
    choose-clean (is_name s) (own path s ▷ arguments Arguments) (refused (at path (Member Op)) needed.Operator)
    (λ good. clean-then (own path s) (arguments Arguments) (clean-own path s (name-clean s good)) (all Arguments)) (λ bad. tt)

operation-clean : (name : Json) (path : List Step) (arguments : Form → Translation) → ((form : Form) → Clean (arguments form))
    → Clean (operation_text name path arguments)
operation-clean (string s) path arguments all = named-cases s path arguments (operator_of_name s) all
operation-clean name path arguments all = tt

tagged-cases : (path : List Step) (coordinates : Form → Translation) (o : Option GeometryType) → ((form : Form) → Clean (coordinates form))
    → Clean (elim o [
      | Some geometry ↦ own path (geometry_tag geometry) ▷ coordinates (coordinates_form geometry)
      | None ↦ refused (at path (Member TypeName)) needed.Geometry
    ])
tagged-cases path coordinates (Some g) all =
    clean-then (own path (geometry_tag g)) (coordinates (coordinates_form g)) (clean-own path (geometry_tag g) (tag-clean g)) (all (coordinates_form g))
tagged-cases path coordinates None all = tt

geometry-clean : (name : Json) (path : List Step) (coordinates : Form → Translation) → ((form : Form) → Clean (coordinates form))
    → Clean (geometry_text name path coordinates)
geometry-clean (string s) path coordinates all = tagged-cases path coordinates (geometry_type_of_name s) all
geometry-clean name path coordinates all = tt

-- no text of two members, by their names, has control characters
record CleanPairs (op_args args_op type_coordinates coordinates_type : Translation) : Type 0 where
  of_op_args : Clean op_args
  of_args_op : Clean args_op
  of_type_coordinates : Clean type_coordinates
  of_coordinates_type : Clean coordinates_type

pair-clean : (pair : Pair) (path : List Step) (a b c d : Translation) → CleanPairs a b c d → Clean (of_pair pair path a b c d)
pair-clean OpArgs path a b c d clean = clean.of_op_args
pair-clean ArgsOp path a b c d clean = clean.of_args_op
pair-clean TypeCoordinates path a b c d clean = clean.of_type_coordinates
pair-clean CoordinatesType path a b c d clean = clean.of_coordinates_type
pair-clean Other path a b c d clean = tt

-- ---- all values

mutual
  unfolding translation items_text object_text members_text

  pub value-clean : (value : Json) (kind : ValueKind) (path : List Step) → HasNumbers value → Clean (translation value kind path)
  value-clean null kind path has = tt
  value-clean (boolean b) kind path has = boolean-clean b kind path
  value-clean (number s) kind path has = numeral-clean s kind path (number-clean s has)
  value-clean (string s) kind path has = string-clean s kind path
  value-clean (array values) Expression path has = tt
  value-clean (array values) Number path has = tt
  value-clean (array values) (Array form) path has =
      choose-clean (admits (count_of form) (items_count values)) (enclosed form path (items_text values form path 0))
      (refused path (needed.Array (count_of form)))
      (λ good. clean-then (own path (opening form)) (items_text values form path 0 ▷ own path (closing form))
      (clean-own path (opening form) (opening-clean form))
      (clean-then (items_text values form path 0) (own path (closing form)) (items-clean values form path 0 has)
      (clean-own path (closing form) (closing-clean form)))) (λ bad. tt)
  value-clean (object ms) Expression path has = object-clean ms path has
  value-clean (object ms) Number path has = tt
  value-clean (object ms) (Array form) path has = tt

  items-clean : (values : Items) (form : Form) (path : List Step) (index : ℕ) → ItemsHaveNumbers values → Clean (items_text values form path index)
  items-clean no_items form path index has = refl
  items-clean (item value values) form path index has =
      let mine = translation value (item_kind form index) (at path (Item index)) in
      clean-then (own path (separator form index)) (mine ▷ items_text values form path (suc index))
      (clean-own path (separator form index) (separator-clean form index))
      (clean-then mine (items_text values form path (suc index)) (value-clean value (item_kind form index) (at path (Item index)) has.0)
      (items-clean values form path (suc index) has.1))

  object-clean : (ms : Members) (path : List Step) → MembersHaveNumbers ms → Clean (object_text ms path)
  object-clean no_members path has = tt
  object-clean (member k j no_members) path has =
      choose-clean (bytes_eq k (codes "property")) (property_text j (at path (Member Property)))
      (if bytes_eq k (codes "bbox") then translation j (Array Box) (at path (Member Bbox)) else refused path needed.Object)
      (λ is. property-clean j (at path (Member Property)))
      (λ other. choose-clean (bytes_eq k (codes "bbox")) (translation j (Array Box) (at path (Member Bbox))) (refused path needed.Object)
      (λ is. value-clean j (Array Box) (at path (Member Bbox)) has.0) (λ bad. tt))
  object-clean (member k j (member l h no_members)) path has =
      pair-clean (pair_of_names k l) path
      (operation_text j path (arguments_text h path)) (operation_text h path (arguments_text j path))
      (geometry_text j path (coordinates_text h path)) (geometry_text h path (coordinates_text j path))
      (record {
        of_op_args = operation-clean j path (arguments_text h path) (λ form. value-clean h (Array form) (at path (Member Args)) has.1.0);
        of_args_op = operation-clean h path (arguments_text j path) (λ form. value-clean j (Array form) (at path (Member Args)) has.0);
        of_type_coordinates = geometry-clean j path (coordinates_text h path) (λ form. value-clean h (Array form) (at path (Member Coordinates)) has.1.0);
        of_coordinates_type = geometry-clean h path (coordinates_text j path) (λ form. value-clean j (Array form) (at path (Member Coordinates)) has.0);
      })
  object-clean (member k j (member l h (member m i rest))) path has = tt

clean-text : (translation : Translation) (text : List ℕ) → Clean translation → joined_text translation ≡ Some text → IsClean text
clean-text (Ok pieces) text clean is = let same : joined pieces ≡ text = cc in subst IsClean same clean
clean-text (Err fault) text clean is = let never : ⊥ = cc in absurd never

pub one-line : (value : Json) (text : List ℕ) → HasNumbers value → text_of value ≡ Some text → is_printable text ≡ true
one-line value text has is = ap not (clean-text (filter_translation value) text (value-clean value Expression [] has) is)
