-- Lists of different columns.
use Rattle.std.proofs.Common.{◌≡◌, ℕ, ◌+◌, ◌<◌, ◌≤◌, true, false, List, [], ◌∷◌, ◌++◌, length, map, get_or, set}
use Rattle.std.proofs.Common.{take, drop, Option, Some, None, Result, Ok, Err, ◌⊎◌, inl, inr, subst, ◌==◌, refl, sym, ap, ◌∙◌, arith}
use Rattle.std.proofs.lemmas.Bool.{cases_Bool}
use Rattle.std.proofs.lemmas.Cmp.{nat_list_eq_equiv}
use Rattle.std.proofs.lemmas.Grind.{take-set_at}
use Rattle.std.proofs.lemmas.List.{drop_more, get_or-map, length-append, length-map, length-take-le}
use Rattle.std.proofs.lemmas.Map.Keys.{IsDistinct-push}
use Rattle.std.proofs.lemmas.Map.Made.{length-le_from_is_member}
use Rattle.std.specs.Borrow.{Bor}
use Rattle.std.specs.Cmp.{IsEquivalence}
use Rattle.std.specs.List.{IsDistinct, list_any}
use Rattle.std.specs.Set.{is_member}
use Rattle.cql2.specs.Column.{column_name}
use Rattle.cql2.specs.declared.column.Column.{Column as AColumn}
use Rattle.cql2.specs.declared.column.Column.TheVariants.{Numeric, Text}
use Rattle.cql2.specs.declared.column.CoordinateColumn.TheVariants.{Frlong}
use Rattle.cql2.specs.declared.column.NumberColumn.TheVariants.{Tlid}
use Rattle.cql2.specs.declared.column.NumericColumn.TheVariants.{Number, Coordinate}
use Rattle.cql2.specs.declared.column.TextColumn.TheVariants.{Rt}
use Rattle.cql2.specs.declared.column.TheConstants.{COLUMNS, MAX_COLUMNS}
use Rattle.cql2_tokens.specs.Name.{column_named}
use Rattle.layers.specs.Columns.{columns_after, columns_named, is_same, unless_fault, with_column}
use Rattle.layers.specs.declared.columns_fault.ColumnsFault.{ColumnsFault}

same_equiv : IsEquivalence is_same
unfolding is_same
same_equiv = record {
  refl = λ x. nat_list_eq_equiv.refl (column_name x);
  symm = λ x y. nat_list_eq_equiv.symm (column_name x) (column_name y);
  congr = λ x y z. nat_list_eq_equiv.congr (column_name x) (column_name y) (column_name z);
}

-- the list of all columns has each
pub all_columns : (column : AColumn) → is_member is_same COLUMNS column ≡ true
unfolding is_same
all_columns (Numeric (Number Tlid)) = refl
all_columns (Numeric (Coordinate Frlong)) = refl
all_columns (Text Rt) = refl
all_columns column = refl

-- one more column, which is new
pub still_distinct : (before : List AColumn) (column : AColumn) → IsDistinct is_same before → list_any (is_same column) before ≡ false
    → IsDistinct is_same (before ++ column ∷ [])
still_distinct before column distinct new = IsDistinct-push same_equiv before column distinct new

-- a list has each column once at most
pub few_columns : (columns : List AColumn) → IsDistinct is_same columns → length columns ≤ MAX_COLUMNS
few_columns columns distinct = length-le_from_is_member same_equiv columns COLUMNS distinct (λ column among. all_columns column)

-- there is room for a new column
pub room : (columns : List AColumn) (count : ℕ) (column : AColumn) → length columns ≡ MAX_COLUMNS → count ≤ MAX_COLUMNS → IsDistinct is_same (take count columns)
    → list_any (is_same column) (take count columns) ≡ false → count < MAX_COLUMNS
room columns count column long few distinct new =
    omega (
      arith,
      few_columns (take count columns ++ column ∷ []) (still_distinct (take count columns) column distinct new),
      length-append (take count columns) (column ∷ []),
      length-take-le count columns (omega arith),
    )

-- the columns with one more put after them
pub put_column : (columns : List AColumn) (count : ℕ) (column : AColumn) → length columns ≡ MAX_COLUMNS → count < MAX_COLUMNS
    → take (count + 1) (set columns count column) ≡ take count columns ++ column ∷ []
put_column columns count column long inside = take-set_at columns count (count + 1) column refl (omega arith)

-- the names that are left
pub names_left : (names : List (Bor (List ℕ))) (count : ℕ) (d : Bor (List ℕ)) (name : List ℕ) → count < length names → name ≡ (get_or names count d).now
    → drop count (map (λ name. name.now) names) ≡ name ∷ drop (count + 1) (map (λ name. name.now) names)
names_left names count d name inside is =
    let text_of : Bor (List ℕ) → List ℕ = λ name. name.now in
    let texts = map text_of names in
    drop_more texts count (text_of d) (omega (arith, length-map names text_of))
    ∙ ap (λ name. name ∷ drop (count + 1) texts) (get_or-map text_of names count d (text_of d) inside ∙ sym is)

module _ (before : List AColumn) (names rest : List (List ℕ)) (name : List ℕ) (found : Option AColumn)
    (all : Result (List AColumn) ColumnsFault) (so_far : columns_after before names ≡ all) (left : names ≡ name ∷ rest)
    (named : found ≡ column_named name) where
  abbrev more : Result (List AColumn) ColumnsFault → Result (List AColumn) ColumnsFault
  more now = unless_fault (λ columns. columns_after columns rest) now

  next : all ≡ more (with_column before found)
  next = sym so_far ∙ ap (columns_after before) left ∙ ap (λ found. more (with_column before found)) (sym named)

  pub fault_stops : (fault : ColumnsFault) → with_column before found ≡ Err fault → all ≡ Err fault
  fault_stops fault is = next ∙ ap more is

  pub column_added : (column : AColumn) → with_column before found ≡ Ok (before ++ column ∷ []) → columns_after (before ++ column ∷ []) rest ≡ all
  column_added column is = sym (next ∙ ap more is)

-- no name is a fault
pub columns_named-some : {A : Type 0} (f : A → List ℕ) (names : List A) → (length names == 0) ≡ false
    → columns_after [] (map f names) ≡ columns_named (map f names)
columns_named-some f [] some = cc some
columns_named-some f (name ∷ names) some = refl

-- named columns are different

with_column-distinct : (before : List AColumn) (found : Option AColumn) (now : List AColumn) → IsDistinct is_same before → with_column before found ≡ Ok now
    → IsDistinct is_same now
with_column-distinct before None now distinct is = cc is
with_column-distinct before (Some column) now distinct is = go (cases_Bool (list_any (is_same column) before))
  where
    go : (list_any (is_same column) before ≡ true) ⊎ (list_any (is_same column) before ≡ false) → IsDistinct is_same now
    go (inl repeated) = cc (rw repeated at is)
    go (inr new) =
        let added : before ++ column ∷ [] ≡ now = cc (rw new at is) in
        subst (λ (columns : List AColumn). IsDistinct is_same columns) added (still_distinct before column distinct new)

columns_after-distinct : (names : List (List ℕ)) (before columns : List AColumn) → IsDistinct is_same before → columns_after before names ≡ Ok columns
    → IsDistinct is_same columns
columns_after-distinct [] before columns distinct is = subst (λ (columns : List AColumn). IsDistinct is_same columns) (cc is) distinct
columns_after-distinct (name ∷ names) before columns distinct is =
    go (with_column before (column_named name)) refl is (λ now. columns_after-distinct names now columns)
  where
    go : (added : Result (List AColumn) ColumnsFault) → with_column before (column_named name) ≡ added
        → unless_fault (λ columns. columns_after columns names) added ≡ Ok columns
        → ((now : List AColumn) → IsDistinct is_same now → columns_after now names ≡ Ok columns → IsDistinct is_same columns) → IsDistinct is_same columns
    go (Ok now) is rest following = following now (with_column-distinct before (column_named name) now distinct is) rest
    go (Err fault) is rest following = cc rest

pub named_columns : (names : List (List ℕ)) (columns : List AColumn) → columns_named names ≡ Ok columns → IsDistinct is_same columns
unfolding IsDistinct
named_columns [] columns is = cc is
named_columns (name ∷ names) columns is = columns_after-distinct (name ∷ names) [] columns tt is
