-- The text of a value, case by case.
use Rattle.std.proofs.Common.{◌≡◌, ℕ, Bool, true, false, Ok, suc, ◌+◌, ◌≤◌, ◌<◌, List, [], ◌∷◌, length, get_or, drop, refl, ap, sym, ◌∙◌, arith}
use Rattle.std.specs.Borrow.{Bor}
use Rattle.std.specs.Prelude.{if◌then◌else◌}
use Rattle.std.proofs.lemmas.List.{drop_more}
use Rattle.std.proofs.Math.ListN.{drop_of_length-le}
use Rattle.json.specs.Value.{value_view, items_view, members_view}
use Rattle.json.specs.declared.value.Value.{Value}
use Rattle.cql2_json.specs.Form.{admits, count_of, item_kind, separator}
use Rattle.cql2_json.specs.Members.{pair_of_names}
use Rattle.cql2_json.specs.Translation.{Translation, arguments_text, array_text, at, coordinates_text, enclosed, geometry_text, items_count, items_text}
use Rattle.cql2_json.specs.Translation.{members_text, object_text, of_pair, operation_text, own, refused, translation, ◌▷◌}
use Rattle.cql2_json.specs.declared.fault.ExpectedValue.TheVariants as needed
use Rattle.cql2_json.specs.declared.form.Form.{Form}
use Rattle.cql2_json.specs.declared.members.Pair.{Pair}
use Rattle.cql2_json.specs.declared.pointer.Step.{Step}
use Rattle.cql2_json.specs.declared.pointer.Step.TheVariants.{Item}

two-of : {X : Type 0} (xs : List X) (a b : X) → 2 ≤ length xs → length xs < 3 → a ≡ get_or xs 0 a → b ≡ get_or xs 1 b → xs ≡ a ∷ b ∷ []
two-of [] a b some few first second = absurd (omega arith)
two-of (x ∷ []) a b some few first second = absurd (omega arith)
two-of (x ∷ y ∷ []) a b some few first second = cc
two-of (x ∷ y ∷ z ∷ xs) a b some few first second = absurd (omega arith)

-- an object with two members
abbrev pub pair_text : {A : Type 0} → Pair → Bor (List ℕ) × Value A → Bor (List ℕ) × Value A → List Step → Translation
pair_text pair first second path =
    of_pair pair path
    (operation_text (value_view first.1) path (arguments_text (value_view second.1) path))
    (operation_text (value_view second.1) path (arguments_text (value_view first.1) path))
    (geometry_text (value_view first.1) path (coordinates_text (value_view second.1) path))
    (geometry_text (value_view second.1) path (coordinates_text (value_view first.1) path))

pub object-pair : {A : Type 0} (ms : List (Bor (List ℕ) × Value A)) (a b : Bor (List ℕ) × Value A) (path : List Step)
    → 2 ≤ length ms → length ms < 3 → a ≡ get_or ms 0 a → b ≡ get_or ms 1 b → object_text (members_view ms) path
    ≡ pair_text (pair_of_names a.0.now b.0.now) a b path
unfolding object_text members_text
object-pair ms a b path some few first second = ap (λ xs. object_text (members_view xs) path) (two-of ms a b some few first second)

pub object-empty : {A : Type 0} (ms : List (Bor (List ℕ) × Value A)) (path : List Step) → length ms < 1
    → object_text (members_view ms) path ≡ refused path needed.Object
unfolding object_text members_text
object-empty [] path few = refl
object-empty (x ∷ xs) path few = absurd (omega arith)

pub object-many : {A : Type 0} (ms : List (Bor (List ℕ) × Value A)) (path : List Step) → 3 ≤ length ms
    → object_text (members_view ms) path ≡ refused path needed.Object
unfolding object_text members_text
object-many [] path many = absurd (omega arith)
object-many (x ∷ []) path many = absurd (omega arith)
object-many (x ∷ y ∷ []) path many = absurd (omega arith)
object-many (x ∷ y ∷ z ∷ xs) path many = refl

items-cons : {A : Type 0} (value : Value A) (values : List (Value A)) (form : Form) (path : List Step) (index : ℕ)
    → items_text (items_view (value ∷ values)) form path index
    ≡ own path (separator form index) ▷ translation (value_view value) (item_kind form index) (at path (Item index))
    ▷ items_text (items_view values) form path (suc index)
unfolding items_text
items-cons value values form path index = refl

pub items-step : {A : Type 0} (values : List (Value A)) (index : ℕ) (value : Value A) (form : Form) (path : List Step)
    → index < length values → value ≡ get_or values index value
    → items_text (items_view (drop index values)) form path index
    ≡ own path (separator form index) ▷ translation (value_view value) (item_kind form index) (at path (Item index))
    ▷ items_text (items_view (drop (index + 1) values)) form path (index + 1)
items-step values index value form path inside is =
    let here : drop index values ≡ value ∷ drop (index + 1) values =
    drop_more values index value inside ∙ ap (λ v. v ∷ drop (index + 1) values) (sym is) in
    let next : suc index ≡ index + 1 = omega arith in
    ap (λ xs. items_text (items_view xs) form path index) here ∙ items-cons value (drop (index + 1) values) form path index
    ∙ ap (λ n. own path (separator form index) ▷ translation (value_view value) (item_kind form index) (at path (Item index))
    ▷ items_text (items_view (drop (index + 1) values)) form path n) next

pub items-end : {A : Type 0} (values : List (Value A)) (index : ℕ) (form : Form) (path : List Step) → length values ≤ index
    → items_text (items_view (drop index values)) form path index ≡ Ok []
unfolding items_text
items-end values index form path past = ap (λ xs. items_text (items_view xs) form path index) (drop_of_length-le values past)

pub items_count-view : {A : Type 0} (values : List (Value A)) → items_count (items_view values) ≡ length values
items_count-view [] = refl
items_count-view (value ∷ values) = ap suc (items_count-view values)

array-chosen : (b wanted : Bool) (x y : Translation) → b ≡ wanted → (if b then x else y) ≡ (if wanted then x else y)
array-chosen b wanted x y is = ap (λ b. if b then x else y) is

pub array-refused : {A : Type 0} (values : List (Value A)) (form : Form) (path : List Step) → admits (count_of form) (length values) ≡ false
    → array_text (items_view values) form path ≡ refused path (needed.Array (count_of form))
unfolding translation
array-refused values form path is =
    array-chosen _ false (enclosed form path (items_text (items_view values) form path 0)) (refused path (needed.Array (count_of form)))
    (ap (admits (count_of form)) (items_count-view values) ∙ is)

pub array-enclosed : {A : Type 0} (values : List (Value A)) (form : Form) (path : List Step) → admits (count_of form) (length values) ≡ true
    → array_text (items_view values) form path ≡ enclosed form path (items_text (items_view values) form path 0)
unfolding translation
array-enclosed values form path is =
    array-chosen _ true (enclosed form path (items_text (items_view values) form path 0)) (refused path (needed.Array (count_of form)))
    (ap (admits (count_of form)) (items_count-view values) ∙ is)
