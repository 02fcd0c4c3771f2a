-- Writing arrays.
use Rattle.std.proofs.Common.{◌≡◌, ℕ, true, ◌+◌, ◌<◌, List, length, get_or, drop, Result, Ok, Err, sym, ap, ◌∙◌, subst}
use Rattle.json.specs.Value.{value_view, items_view}
use Rattle.json.specs.declared.value.Value.{Value}
use Rattle.cql2_json.specs.Form.{admits, closing, count_of, item_kind, opening, separator}
use Rattle.cql2_json.specs.Translation.{Translation, array_text, at, items_text, own, translation, ◌▷◌}
use Rattle.cql2_json.specs.Writer.{Writes}
use Rattle.cql2_json.specs.declared.fault.Flaw.{Flaw}
use Rattle.cql2_json.specs.declared.form.Form.{Form}
use Rattle.cql2_json.specs.declared.form.ValueKind.{ValueKind}
use Rattle.cql2_json.specs.declared.pointer.Step.{Step}
use Rattle.cql2_json.specs.declared.pointer.Step.TheVariants.{Item}
use Rattle.cql2_json.specs.declared.writer.Writer.{Writer}
use Rattle.cql2_json.proofs.TranslationLemmas.{array-enclosed, items-step}
use Rattle.cql2_json.proofs.WriterLemmas.{path-kept, stops-first, writes-then}

-- the value at a place of an array, and the separator before it
pub record Turn (A : Type 0) : Type 0 where
  pub values : List (Value A)
  pub form : Form
  pub place : ℕ
  pub index : ℕ
  pub value : Value A
  pub text : List ℕ
  pub kind : ValueKind
  pub counted : index ≡ place
  pub inside : place < length values
  pub is : value ≡ get_or values place value
  pub separated : text ≡ separator form index
  pub kind_is : kind ≡ item_kind form index

abbrev pub turn_text : {A : Type 0} → Turn A → List Step → Translation
turn_text turn path = translation (value_view turn.value) turn.kind (at path (Item turn.index))

-- what the values from a place on write
abbrev pub text_from : {A : Type 0} → Turn A → Writer A → ℕ → Translation
text_from turn writer place = items_text (items_view (drop place turn.values)) turn.form writer.path.items place

-- the separator and the value are written
pub record WritesTurn {A : Type 0} (turn : Turn A) (old next : Writer A) : Type 0 where
  pub mid : Writer A
  pub separator_written : Writes old (own old.path.items turn.text) mid (Ok tt)
  pub value_written : Writes mid (turn_text turn mid.path.items) next (Ok tt)

steps : {A : Type 0} (turn : Turn A) (old end : Writer A) (result : Result (Unit {0}) Flaw)
    → Writes old (own old.path.items turn.text ▷ turn_text turn old.path.items ▷ text_from turn old (turn.place + 1)) end result
    → Writes old (text_from turn old turn.place) end result
steps turn old end result w =
    let path = old.path.items in
    let value = value_view turn.value in
    let rest = text_from turn old (turn.place + 1) in
    let text_is : turn.text ≡ separator turn.form turn.place = turn.separated ∙ ap (separator turn.form) turn.counted in
    let kind_is : turn.kind ≡ item_kind turn.form turn.place = turn.kind_is ∙ ap (item_kind turn.form) turn.counted in
    let a = subst (λ t. Writes old (own path t ▷ turn_text turn path ▷ rest) end result) text_is w in
    let first = own path (separator turn.form turn.place) in
    let b = subst (λ k. Writes old (first ▷ translation value k (at path (Item turn.index)) ▷ rest) end result) kind_is a in
    let c = subst (λ n. Writes old (first ▷ translation value (item_kind turn.form turn.place) (at path (Item n)) ▷ rest) end result) turn.counted b in
    subst (λ t. Writes old t end result) (sym (items-step turn.values turn.place turn.value turn.form path turn.inside turn.is)) c

pub writes-on : {A : Type 0} (turn : Turn A) (old next end : Writer A) (result : Result (Unit {0}) Flaw) → WritesTurn turn old next
    → Writes next (text_from turn next (turn.place + 1)) end result → Writes old (text_from turn old turn.place) end result
writes-on turn old next end result written rest =
    let path = old.path.items in
    let mid = written.mid in
    let mid_path : mid.path.items ≡ path = path-kept old mid (own path turn.text) written.separator_written in
    let inner = subst (λ p. Writes mid (turn_text turn p) next (Ok tt)) mid_path written.value_written in
    let next_path : next.path.items ≡ path = path-kept mid next (turn_text turn path) inner ∙ mid_path in
    let left = subst (λ p. Writes next (items_text (items_view (drop (turn.place + 1) turn.values)) turn.form p (turn.place + 1)) end result)
    next_path rest in
    steps turn old end result
    (writes-then old mid end (own path turn.text) _ result written.separator_written (writes-then mid next end _ _ result inner left))

pub stops-at-separator : {A : Type 0} (turn : Turn A) (old end : Writer A) (flaw : Flaw) → Writes old (own old.path.items turn.text) end (Err flaw)
    → Writes old (text_from turn old turn.place) end (Err flaw)
stops-at-separator turn old end flaw first = steps turn old end (Err flaw) (stops-first old end (own old.path.items turn.text) _ flaw first)

pub stops-at-value : {A : Type 0} (turn : Turn A) (old mid end : Writer A) (flaw : Flaw) → Writes old (own old.path.items turn.text) mid (Ok tt)
    → Writes mid (turn_text turn mid.path.items) end (Err flaw) → Writes old (text_from turn old turn.place) end (Err flaw)
stops-at-value turn old mid end flaw first second =
    let path = old.path.items in
    let mid_path : mid.path.items ≡ path = path-kept old mid (own path turn.text) first in
    let inner = subst (λ p. Writes mid (turn_text turn p) end (Err flaw)) mid_path second in
    steps turn old end (Err flaw) (writes-then old mid end (own path turn.text) _ (Err flaw) first (stops-first mid end _ _ flaw inner))

-- an array that has as many values as its form requires, and the text before them
pub record Enclosed (A : Type 0) : Type 0 where
  pub values : List (Value A)
  pub form : Form
  pub text : List ℕ
  pub admitted : admits (count_of form) (length values) ≡ true
  pub opened : text ≡ opening form

abbrev pub values_text : {A : Type 0} → Enclosed A → List Step → Translation
values_text array path = items_text (items_view array.values) array.form path 0

abbrev pub enclosed_text : {A : Type 0} → Enclosed A → List Step → Translation
enclosed_text array path = array_text (items_view array.values) array.form path

-- the text before the values and these are written
pub record WritesItems {A : Type 0} (array : Enclosed A) (old next : Writer A) : Type 0 where
  pub mid : Writer A
  pub opening_written : Writes old (own old.path.items array.text) mid (Ok tt)
  pub items_written : Writes mid (values_text array mid.path.items) next (Ok tt)

encloses : {A : Type 0} (array : Enclosed A) (old end : Writer A) (result : Result (Unit {0}) Flaw)
    → Writes old (own old.path.items array.text ▷ values_text array old.path.items ▷ own old.path.items (closing array.form)) end result
    → Writes old (enclosed_text array old.path.items) end result
encloses array old end result w =
    let path = old.path.items in
    let a = subst (λ t. Writes old (own path t ▷ values_text array path ▷ own path (closing array.form)) end result) array.opened w in
    subst (λ t. Writes old t end result) (sym (array-enclosed array.values array.form path array.admitted)) a

pub array-stops-open : {A : Type 0} (array : Enclosed A) (old end : Writer A) (flaw : Flaw) → Writes old (own old.path.items array.text) end (Err flaw)
    → Writes old (enclosed_text array old.path.items) end (Err flaw)
array-stops-open array old end flaw first = encloses array old end (Err flaw) (stops-first old end (own old.path.items array.text) _ flaw first)

pub array-stops-inside : {A : Type 0} (array : Enclosed A) (old mid end : Writer A) (flaw : Flaw) → Writes old (own old.path.items array.text) mid (Ok tt)
    → Writes mid (values_text array mid.path.items) end (Err flaw) → Writes old (enclosed_text array old.path.items) end (Err flaw)
array-stops-inside array old mid end flaw first second =
    let path = old.path.items in
    let mid_path : mid.path.items ≡ path = path-kept old mid (own path array.text) first in
    let inner = subst (λ p. Writes mid (values_text array p) end (Err flaw)) mid_path second in
    encloses array old end (Err flaw)
    (writes-then old mid end (own path array.text) _ (Err flaw) first (stops-first mid end _ (own path (closing array.form)) flaw inner))

pub array-writes : {A : Type 0} (array : Enclosed A) (old next end : Writer A) (result : Result (Unit {0}) Flaw) → WritesItems array old next
    → Writes next (own next.path.items (closing array.form)) end result → Writes old (enclosed_text array old.path.items) end result
array-writes array old next end result written last =
    let path = old.path.items in
    let mid = written.mid in
    let mid_path : mid.path.items ≡ path = path-kept old mid (own path array.text) written.opening_written in
    let inner = subst (λ p. Writes mid (values_text array p) next (Ok tt)) mid_path written.items_written in
    let next_path : next.path.items ≡ path = path-kept mid next (values_text array path) inner ∙ mid_path in
    let closed = subst (λ p. Writes next (own p (closing array.form)) end result) next_path last in
    encloses array old end result
    (writes-then old mid end (own path array.text) _ result written.opening_written
    (writes-then mid next end _ (own path (closing array.form)) result inner closed))
