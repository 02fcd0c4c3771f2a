-- The paths of a translation lead to parts of its value.
use Rattle.std.proofs.Common.{Err, ◌≡◌, ℕ, suc, ◌+◌, ◌-◌, length, Bool, true, false, List, [], ◌∷◌, Option, Some, None, Ok, refl, ap, sym, ◌∙◌, subst, arith}
use Rattle.std.specs.List.{AllByRecursion}
use Rattle.std.specs.Prelude.{bytes_eq, codes, if◌then◌else◌, is_some, nat_lt, ◌||◌}
use Rattle.std.proofs.lemmas.Slice.Eq.{bytes_eq-Decides}
use Rattle.json.specs.Find.{get_item, later_or}
use Rattle.json.specs.Json.{Json, null, boolean, number, string, array, object, Items, no_items, item, Members, no_members, member}
use Rattle.cql2_json.specs.Form.{admits, closing, count_of, expected_value, item_kind, opening, separator}
use Rattle.cql2_json.specs.GeometryType.{coordinates_form, geometry_type_of_name, geometry_tag}
use Rattle.cql2_json.specs.Meets.{is_pair, meets}
use Rattle.cql2_json.specs.Members.{pair_of_names}
use Rattle.cql2_json.specs.Operator.{operator_of_name}
use Rattle.cql2_json.specs.Pointer.{member_name, step_to, value_at}
use Rattle.cql2_json.specs.Quoted.{is_name, is_printable, quoted_text}
use Rattle.cql2_json.specs.Translation.{Misplaced, Piece, Translation, arguments_text, at, boolean_text, coordinates_text, enclosed, filter_translation}
use Rattle.cql2_json.specs.Translation.{geometry_text, items_count}
use Rattle.cql2_json.specs.Translation.{items_text, members_text, number_text, object_text, of_pair, operation_text, own, property_text}
use Rattle.cql2_json.specs.Translation.{path_at, refused, string_text, translation, ◌▷◌}
use Rattle.cql2_json.specs.declared.fault.ExpectedValue.TheVariants as needed
use Rattle.cql2_json.specs.declared.form.Form.{Form}
use Rattle.cql2_json.specs.declared.form.Form.TheVariants.{Operands, Arguments, Box}
use Rattle.cql2_json.specs.declared.form.ValueKind.{ValueKind}
use Rattle.cql2_json.specs.declared.form.ValueKind.TheVariants.{Expression, Number, Array}
use Rattle.cql2_json.specs.declared.geometry_type.GeometryType.{GeometryType}
use Rattle.cql2_json.specs.declared.members.Pair.{Pair}
use Rattle.cql2_json.specs.declared.members.Pair.TheVariants.{OpArgs, ArgsOp, TypeCoordinates, CoordinatesType, Other}
use Rattle.cql2_json.specs.declared.operator.JsonOperator.{JsonOperator}
use Rattle.cql2_json.specs.declared.pointer.Member.{Member as AMember}
use Rattle.cql2_json.specs.declared.pointer.Member.TheVariants.{Op, Args, Property, Bbox, TypeName, Coordinates}
use Rattle.cql2_json.specs.declared.pointer.Step.{Step}
use Rattle.cql2_json.specs.declared.pointer.Step.TheVariants.{Member, Item}
use Rattle.cql2_json.proofs.WithinLemmas.{Leads, Within, choose-within, inside-within, own-within, refused-within, then-within}

-- ---- values without others in them

boolean-within : (b : Bool) (kind : ValueKind) (path : List Step) → Within (boolean b) path (boolean_text b kind path)
boolean-within b Expression path = own-within (boolean b) path (if b then codes "TRUE" else codes "FALSE")
boolean-within b Number path = refused-within _ path _ refl
boolean-within b (Array form) path = refused-within _ path _ refl

number-within : (s : List ℕ) (kind : ValueKind) (path : List Step) → Within (number s) path (number_text s kind path)
number-within s Expression path = own-within (number s) path s
number-within s Number path = own-within (number s) path s
number-within s (Array form) path = refused-within _ path _ refl

string-within : (s : List ℕ) (kind : ValueKind) (path : List Step) → Within (string s) path (string_text s kind path)
string-within s Expression path =
    choose-within (string s) path (is_printable s) (own path (quoted_text 39 s)) (refused path needed.Printable)
    (λ good. own-within (string s) path (quoted_text 39 s)) (λ lacks. refused-within (string s) path needed.Printable lacks)
string-within s Number path = refused-within _ path _ refl
string-within s (Array form) path = refused-within _ path _ refl

null-within : (kind : ValueKind) (path : List Step) → Within null path (refused path (expected_value kind))
null-within Expression path = refused-within _ path _ refl
null-within Number path = refused-within _ path _ refl
null-within (Array form) path = refused-within _ path _ refl

property-within : (value : Json) (path : List Step) → Within value path (property_text value path)
property-within null path = refused-within _ path _ refl
property-within (boolean b) path = refused-within _ path _ refl
property-within (number s) path = refused-within _ path _ refl
property-within (string s) path =
    choose-within (string s) path (is_name s) (own path (quoted_text 34 s)) (refused path needed.Name) (λ good. own-within (string s) path (quoted_text 34 s))
    (λ lacks. refused-within (string s) path needed.Name lacks)
property-within (array values) path = refused-within _ path _ refl
property-within (object ms) path = refused-within _ path _ refl

-- ---- operations and geometries, whose arguments and coordinates lead to parts

neither : (o : Option JsonOperator) (b : Bool) → o ≡ None → b ≡ false → (is_some o || b) ≡ false
neither None b none lacks = lacks
neither (Some operator) b none lacks = let never : ⊥ = cc in absurd never

named-cases : (value : Json) (s : List ℕ) (path : List Step) (arguments : Form → Translation) (o : Option JsonOperator) → operator_of_name s ≡ o
    → step_to (Member Op) value ≡ Some (string s) → ((form : Form) → Within value path (arguments form))
    → Within value path (elim o [
      | Some operator ↦ arguments (Operands operator)
      | None ↦ (if is_name s then own path s ▷ arguments Arguments else refused (at path (Member Op)) needed.Operator)
    ])
named-cases value s path arguments (Some operator) is found all = all (Operands operator)
named-cases value s path arguments None is found all =
    choose-within value path (is_name s) (own path s ▷ arguments Arguments) (refused (at path (Member Op)) needed.Operator)
    (λ good. then-within value path (own path s) (arguments Arguments) (own-within value path s) (all Arguments))
    (λ lacks. inside-within value (string s) path (Member Op) (refused (at path (Member Op)) needed.Operator) found
    (refused-within (string s) (at path (Member Op)) needed.Operator (neither (operator_of_name s) (is_name s) is lacks)))

bad-operator : (value name : Json) (path : List Step) → step_to (Member Op) value ≡ Some name → meets needed.Operator name ≡ false
    → Within value path (refused (at path (Member Op)) needed.Operator)
bad-operator value name path found lacks =
    inside-within value name path (Member Op) (refused (at path (Member Op)) needed.Operator) found
    (refused-within name (at path (Member Op)) needed.Operator lacks)

operation-within : (value name : Json) (path : List Step) (arguments : Form → Translation) → step_to (Member Op) value ≡ Some name
    → ((form : Form) → Within value path (arguments form)) → Within value path (operation_text name path arguments)
operation-within value null path arguments found all = bad-operator value null path found refl
operation-within value (boolean b) path arguments found all = bad-operator value (boolean b) path found refl
operation-within value (number s) path arguments found all = bad-operator value (number s) path found refl
operation-within value (string s) path arguments found all = named-cases value s path arguments (operator_of_name s) refl found all
operation-within value (array values) path arguments found all = bad-operator value (array values) path found refl
operation-within value (object ms) path arguments found all = bad-operator value (object ms) path found refl

bad-type : (value name : Json) (path : List Step) → step_to (Member TypeName) value ≡ Some name → meets needed.Geometry name ≡ false
    → Within value path (refused (at path (Member TypeName)) needed.Geometry)
bad-type value name path found lacks =
    inside-within value name path (Member TypeName) (refused (at path (Member TypeName)) needed.Geometry) found
    (refused-within name (at path (Member TypeName)) needed.Geometry lacks)

tagged-cases : (value : Json) (s : List ℕ) (path : List Step) (coordinates : Form → Translation) (o : Option GeometryType) → geometry_type_of_name s ≡ o
    → step_to (Member TypeName) value ≡ Some (string s) → ((form : Form) → Within value path (coordinates form))
    → Within value path (elim o [
      | Some geometry ↦ own path (geometry_tag geometry) ▷ coordinates (coordinates_form geometry)
      | None ↦ refused (at path (Member TypeName)) needed.Geometry
    ])
tagged-cases value s path coordinates (Some geometry) is found all =
    then-within value path (own path (geometry_tag geometry)) (coordinates (coordinates_form geometry))
    (own-within value path (geometry_tag geometry)) (all (coordinates_form geometry))
tagged-cases value s path coordinates None is found all = bad-type value (string s) path found (ap is_some is)

geometry-within : (value name : Json) (path : List Step) (coordinates : Form → Translation) → step_to (Member TypeName) value ≡ Some name
    → ((form : Form) → Within value path (coordinates form)) → Within value path (geometry_text name path coordinates)
geometry-within value null path coordinates found all = bad-type value null path found refl
geometry-within value (boolean b) path coordinates found all = bad-type value (boolean b) path found refl
geometry-within value (number s) path coordinates found all = bad-type value (number s) path found refl
geometry-within value (string s) path coordinates found all = tagged-cases value s path coordinates (geometry_type_of_name s) refl found all
geometry-within value (array values) path coordinates found all = bad-type value (array values) path found refl
geometry-within value (object ms) path coordinates found all = bad-type value (object ms) path found refl

-- ---- objects

-- the names of two members
record Names (k l : List ℕ) (first second : AMember) : Type 0 where
  first_is : k ≡ member_name first
  second_is : l ≡ member_name second

same-name : (k wanted : List ℕ) → bytes_eq k wanted ≡ true → k ≡ wanted
same-name k wanted is = (bytes_eq-Decides k wanted).0 is

-- the names of a pair
abbrev Fits : List ℕ → List ℕ → Pair → Type 0
Fits k l OpArgs = Names k l Op Args
Fits k l ArgsOp = Names k l Args Op
Fits k l TypeCoordinates = Names k l TypeName Coordinates
Fits k l CoordinatesType = Names k l Coordinates TypeName
Fits k l Other = Unit {0}

choose-pair : (k l : List ℕ) (b : Bool) (x y : Pair) → (b ≡ true → Fits k l x) → (b ≡ false → Fits k l y) → Fits k l (if b then x else y)
choose-pair k l true x y if_true if_false = if_true refl
choose-pair k l false x y if_true if_false = if_false refl

-- a pair, if both names are as wanted
pair-if : (k l : List ℕ) (first second : AMember) (pair : Pair) → (Names k l first second → Fits k l pair) → bytes_eq k (member_name first) ≡ true
    → Fits k l (if bytes_eq l (member_name second) then pair else Other)
pair-if k l first second pair fits is =
    choose-pair k l (bytes_eq l (member_name second)) pair Other
    (λ also. fits (record { first_is = same-name k (member_name first) is; second_is = same-name l (member_name second) also })) (λ other. tt)

fits : (k l : List ℕ) → Fits k l (pair_of_names k l)
fits k l =
    choose-pair k l (bytes_eq k (codes "op")) _ _ (pair-if k l Op Args OpArgs (λ names. names)) (λ not_op.
    choose-pair k l (bytes_eq k (codes "args")) _ _ (pair-if k l Args Op ArgsOp (λ names. names)) (λ not_args.
    choose-pair k l (bytes_eq k (codes "type")) _ _ (pair-if k l TypeName Coordinates TypeCoordinates (λ names. names)) (λ not_type.
    choose-pair k l (bytes_eq k (codes "coordinates")) _ _ (pair-if k l Coordinates TypeName CoordinatesType (λ names. names)) (λ other. tt))))

-- a member: its name and its value
abbrev NamedValue : Type 0
NamedValue = List ℕ × Json

abbrev two : NamedValue → NamedValue → Json
two a b = object (member a.0 a.1 (member b.0 b.1 no_members))

found-in : (a b : NamedValue) (first second name : AMember) (part : Json) → Names a.0 b.0 first second
    → step_to (Member name) (two (member_name first, a.1) (member_name second, b.1)) ≡ Some part → step_to (Member name) (two a b) ≡ Some part
found-in a b first second name part names is =
    ap (λ n. step_to (Member name) (two (n, a.1) b)) names.first_is
    ∙ ap (λ n. step_to (Member name) (two (member_name first, a.1) (n, b.1))) names.second_is ∙ is

-- the arguments or the coordinates of an object
part-within : (value part : Json) (path : List Step) (wanted : AMember) → step_to (Member wanted) value ≡ Some part
    → ((kind : ValueKind) (inner : List Step) → Within part inner (translation part kind inner))
    → (form : Form) → Within value path (translation part (Array form) (at path (Member wanted)))
part-within value part path wanted found all form =
    inside-within value part path (Member wanted) (translation part (Array form) (at path (Member wanted))) found
    (all (Array form) (at path (Member wanted)))

pair-within : (a b : NamedValue) (path : List Step) (pair : Pair) → pair_of_names a.0 b.0 ≡ pair → Fits a.0 b.0 pair
    → ((kind : ValueKind) (inner : List Step) → Within a.1 inner (translation a.1 kind inner))
    → ((kind : ValueKind) (inner : List Step) → Within b.1 inner (translation b.1 kind inner))
    → Within (two a b) path (of_pair pair path
    (operation_text a.1 path (arguments_text b.1 path)) (operation_text b.1 path (arguments_text a.1 path))
    (geometry_text a.1 path (coordinates_text b.1 path)) (geometry_text b.1 path (coordinates_text a.1 path)))
pair-within a b path OpArgs is names of_a of_b =
    operation-within (two a b) a.1 path (arguments_text b.1 path) (found-in a b Op Args Op a.1 names refl)
    (part-within (two a b) b.1 path Args (found-in a b Op Args Args b.1 names refl) of_b)
pair-within a b path ArgsOp is names of_a of_b =
    operation-within (two a b) b.1 path (arguments_text a.1 path) (found-in a b Args Op Op b.1 names refl)
    (part-within (two a b) a.1 path Args (found-in a b Args Op Args a.1 names refl) of_a)
pair-within a b path TypeCoordinates is names of_a of_b =
    geometry-within (two a b) a.1 path (coordinates_text b.1 path) (found-in a b TypeName Coordinates TypeName a.1 names refl)
    (part-within (two a b) b.1 path Coordinates (found-in a b TypeName Coordinates Coordinates b.1 names refl) of_b)
pair-within a b path CoordinatesType is names of_a of_b =
    geometry-within (two a b) b.1 path (coordinates_text a.1 path) (found-in a b Coordinates TypeName TypeName b.1 names refl)
    (part-within (two a b) a.1 path Coordinates (found-in a b Coordinates TypeName Coordinates a.1 names refl) of_a)
pair-within a b path Other is names of_a of_b = refused-within (two a b) path needed.Object (ap is_pair is)

found-one : (k : List ℕ) (j : Json) (wanted : AMember) → bytes_eq k (member_name wanted) ≡ true
    → step_to (Member wanted) (object (member k j no_members)) ≡ Some j
found-one k j wanted is = ap (λ b. later_or None (if b then Some j else None)) is

no-name : (a b : Bool) → a ≡ false → b ≡ false → (a || b) ≡ false
no-name true b first second = let never : ⊥ = cc in absurd never
no-name false b first second = second

one-within : (k : List ℕ) (j : Json) (path : List Step) → ((kind : ValueKind) (inner : List Step) → Within j inner (translation j kind inner))
    → Within (object (member k j no_members)) path (object_text (member k j no_members) path)
unfolding object_text members_text
one-within k j path of_j =
    let one = object (member k j no_members) in
    choose-within one path (bytes_eq k (codes "property")) (property_text j (at path (Member Property)))
    (if bytes_eq k (codes "bbox") then translation j (Array Box) (at path (Member Bbox)) else refused path needed.Object)
    (λ is. inside-within one j path (Member Property) (property_text j (at path (Member Property))) (found-one k j Property is)
    (property-within j (at path (Member Property))))
    (λ not_property. choose-within one path (bytes_eq k (codes "bbox")) (translation j (Array Box) (at path (Member Bbox))) (refused path needed.Object)
    (λ is. part-within one j path Bbox (found-one k j Bbox is) of_j Box)
    (λ not_bbox. refused-within one path needed.Object (no-name _ _ not_property not_bbox)))

same-items : (values : Items) (k : ℕ) → get_item k values ≡ get_item (0 + k) values
same-items values k = let same : k ≡ 0 + k = omega arith in ap (λ n. get_item n values) same

-- ---- all values

mutual
  unfolding translation items_text object_text members_text

  pub value-within : (value : Json) (kind : ValueKind) (path : List Step) → Within value path (translation value kind path)
  value-within null kind path = null-within kind path
  value-within (boolean b) kind path = boolean-within b kind path
  value-within (number s) kind path = number-within s kind path
  value-within (string s) kind path = string-within s kind path
  value-within (array values) Expression path = refused-within (array values) path needed.Expression refl
  value-within (array values) Number path = refused-within (array values) path needed.Number refl
  value-within (array values) (Array form) path =
      choose-within (array values) path (admits (count_of form) (items_count values)) (enclosed form path (items_text values form path 0))
      (refused path (needed.Array (count_of form)))
      (λ good. then-within (array values) path (own path (opening form)) (items_text values form path 0 ▷ own path (closing form))
      (own-within (array values) path (opening form))
      (then-within (array values) path (items_text values form path 0) (own path (closing form))
      (items-within values values form path 0 (same-items values)) (own-within (array values) path (closing form))))
      (λ lacks. refused-within (array values) path (needed.Array (count_of form)) lacks)
  value-within (object ms) Expression path = object-within ms path
  value-within (object ms) Number path = refused-within (object ms) path needed.Number refl
  value-within (object ms) (Array form) path = refused-within (object ms) path (needed.Array (count_of form)) refl

  items-within : (rest whole : Items) (form : Form) (path : List Step) (index : ℕ) → ((k : ℕ) → get_item k rest ≡ get_item (index + k) whole)
      → Within (array whole) path (items_text rest form path index)
  items-within no_items whole form path index same = tt
  items-within (item value rest) whole form path index same =
      let found : get_item index whole ≡ Some value = ap (λ n. get_item n whole) (omega arith) ∙ sym (same 0) in
      let later : (k : ℕ) → get_item k rest ≡ get_item (suc index + k) whole =
      λ k. let next : index + suc k ≡ suc index + k = omega arith in same (suc k) ∙ ap (λ n. get_item n whole) next in
      let mine = translation value (item_kind form index) (at path (Item index)) in
      then-within (array whole) path (own path (separator form index)) (mine ▷ items_text rest form path (suc index))
      (own-within (array whole) path (separator form index))
      (then-within (array whole) path mine (items_text rest form path (suc index))
      (inside-within (array whole) value path (Item index) mine found (value-within value (item_kind form index) (at path (Item index))))
      (items-within rest whole form path (suc index) later))

  object-within : (ms : Members) (path : List Step) → Within (object ms) path (object_text ms path)
  object-within no_members path = refused-within (object no_members) path needed.Object refl
  object-within (member k j no_members) path = one-within k j path (value-within j)
  object-within (member k j (member l h no_members)) path =
      pair-within (k, j) (l, h) path (pair_of_names k l) refl (fits k l) (value-within j) (value-within h)
  object-within (member k j (member l h (member m i rest))) path = refused-within (object (member k j (member l h (member m i rest)))) path needed.Object refl

same-path : (a b : List Step) → Some a ≡ Some b → a ≡ b
same-path a b is = cc

piece-or : {value : Json} {prefix : List Step} (b : Bool) (first path : List Step) (rest : Option (List Step)) → Leads value prefix first
    → (rest ≡ Some path → Leads value prefix path) → (if b then Some first else rest) ≡ Some path → Leads value prefix path
piece-or {value} {prefix} true first path rest here there is = subst (Leads value prefix) (same-path first path is) here
piece-or false first path rest here there is = there is

found-piece : (value : Json) (prefix : List Step) (pieces : List Piece) (offset : ℕ) (path : List Step)
    → AllByRecursion (λ piece. Leads value prefix piece.path) pieces → path_at pieces offset ≡ Some path → Leads value prefix path
found-piece value prefix [] offset path all is = let never : ⊥ = cc in absurd never
found-piece value prefix (piece ∷ pieces) offset path all is =
    piece-or (nat_lt offset (length piece.text)) piece.path path (path_at pieces (offset - length piece.text)) all.0
    (found-piece value prefix pieces (offset - length piece.text) path all.1) is

-- a pointer leads to a value
pub pieces-lead : (value : Json) (pieces : List Piece) (offset : ℕ) (path : List Step) → filter_translation value ≡ Ok pieces
    → path_at pieces offset ≡ Some path → (part : Json) × (value_at path value ≡ Some part)
pieces-lead value pieces offset path is placed =
    let all = subst (Within value []) is (value-within value Expression []) in
    let leads = found-piece value [] pieces offset path all placed in
    (leads.part, ap (λ steps. value_at steps value) leads.path_is ∙ leads.found)

pub faults-lead : (value : Json) (fault : Misplaced) → filter_translation value ≡ Err fault
    → (part : Json) × (value_at fault.path value ≡ Some part) × (meets fault.needs part ≡ false)
faults-lead value fault is =
    let misses = subst (Within value []) is (value-within value Expression []) in
    (misses.leads.part, ap (λ steps. value_at steps value) misses.leads.path_is ∙ misses.leads.found, misses.lacks)
