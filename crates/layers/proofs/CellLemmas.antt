-- Cells and rows of CSV, written piece by piece.
use Rattle.std.proofs.Common.{◌≡◌, ℕ, ◌+◌, ◌<◌, ◌==◌, List, [], ◌∷◌, ◌++◌, length, map, get_or, take, refl, sym, ap, ◌∙◌, inl, inr, append_assoc}
use Rattle.std.proofs.lemmas.Bool.{cases_Bool}
use Rattle.std.proofs.lemmas.Grind.{take_at_read}
use Rattle.std.proofs.lemmas.List.{append-nil}
use mathlib.Core.List.{map-append}
use Rattle.csv.specs.Writing.{default_writer, escaped, field_text, fields_text, row_body}

escaped-append : (xs ys : List ℕ) → escaped default_writer (xs ++ ys) ≡ escaped default_writer xs ++ escaped default_writer ys
unfolding escaped
escaped-append [] ys = refl
escaped-append (x ∷ xs) ys = elim (cases_Bool (x == 34)) [
  | inl is ↦ rw (is) (ap (λ rest. 34 ∷ x ∷ rest) (escaped-append xs ys))
  | inr other ↦ rw (other) (ap (λ rest. x ∷ rest) (escaped-append xs ys))
]

-- one more byte of a quoted cell
pub escaped_next : (start now cell next : List ℕ) (k : ℕ) → k < length cell → now ≡ start ++ escaped default_writer (take k cell)
    → next ≡ now ++ escaped default_writer (get_or cell k 0 ∷ []) → next ≡ start ++ escaped default_writer (take (k + 1) cell)
escaped_next start now cell next k inside so_far is =
    is ∙ ap (λ now. now ++ escaped default_writer (get_or cell k 0 ∷ [])) so_far
    ∙ append_assoc start (escaped default_writer (take k cell)) (escaped default_writer (get_or cell k 0 ∷ []))
    ∙ ap (λ rest. start ++ rest) (sym (escaped-append (take k cell) (get_or cell k 0 ∷ [])))
    ∙ ap (λ cell. start ++ escaped default_writer cell) (sym (take_at_read cell k 0 inside).1)

pub fields_text-append : (xs ys : List (List ℕ)) → fields_text default_writer (xs ++ ys) ≡ fields_text default_writer xs ++ fields_text default_writer ys
unfolding fields_text
fields_text-append [] ys = refl
fields_text-append (x ∷ xs) ys =
    ap (λ rest. 44 ∷ field_text default_writer x ++ rest) (fields_text-append xs ys)
    ∙ sym (append_assoc (44 ∷ field_text default_writer x) (fields_text default_writer xs) (fields_text default_writer ys))

-- one more cell of a row
pub row_next : {A : Type 0} (f : A → List ℕ) (first : List ℕ) (xs : List A) (k : ℕ) (d : A) (now middle next : List ℕ) → k < length xs
    → now ≡ row_body default_writer (first ∷ map f (take k xs)) → middle ≡ now ++ 44 ∷ []
    → next ≡ middle ++ field_text default_writer (f (get_or xs k d)) → next ≡ row_body default_writer (first ∷ map f (take (k + 1) xs))
unfolding fields_text
row_next f first xs k d now middle next inside so_far comma is =
    let before = map f (take k xs) in
    let cell = f (get_or xs k d) in
    is ∙ ap (λ text. text ++ field_text default_writer cell) (comma ∙ ap (λ text. text ++ 44 ∷ []) so_far)
    ∙ append_assoc (row_body default_writer (first ∷ before)) (44 ∷ []) (field_text default_writer cell)
    ∙ append_assoc (field_text default_writer first) (fields_text default_writer before) (44 ∷ field_text default_writer cell)
    ∙ ap (λ text. field_text default_writer first ++ (fields_text default_writer before ++ text)) (sym (append-nil (44 ∷ field_text default_writer cell)))
    ∙ ap (λ text. field_text default_writer first ++ text) (sym (fields_text-append before (cell ∷ [])))
    ∙ ap (λ cells. field_text default_writer first ++ fields_text default_writer cells) (sym (map-append f (take k xs) (get_or xs k d ∷ [])))
    ∙ ap (λ xs. field_text default_writer first ++ fields_text default_writer (map f xs)) (sym (take_at_read xs k d inside).1)
