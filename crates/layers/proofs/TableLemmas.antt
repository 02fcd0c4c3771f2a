-- What a reader reads of a table.
use Rattle.std.proofs.Common.{◌≡◌, ℕ, zero, suc, ◌+◌, ◌-◌, ◌<◌, ◌≤◌, List, [], ◌∷◌, ◌++◌, length, map, if◌then◌else◌, refl, ap, ◌∙◌, arith}
use Rattle.std.proofs.lemmas.List.{length-append}
use Rattle.std.specs.List.{flat_map}
use Rattle.csv.proofs.RoundTrip.{read-write}
use Rattle.csv.specs.Machine.{next_record}
use Rattle.csv.specs.Reading.{default_config, records, records_from, records_next}
use Rattle.csv.specs.Writing.{default_writer, is_blank, row_body, row_text}
use Rattle.csv.specs.declared.parser.State.TheVariants as state
use Rattle.layers.specs.CsvTable.{csv_row, header_cells, header_text, row_cells, table_text}
use Rattle.layers.specs.Layout.{LayoutParts, SelectedParts}

-- there is no record after the last one
records_from-nothing : (n : ℕ) → records_from default_config n state.StartRecord [] ≡ []
unfolding records_from next_record
records_from-nothing zero = refl
records_from-nothing (suc n) = refl

some-byte : (cells : List (List ℕ)) → 0 < length (row_text default_writer cells)
some-byte cells =
    let before = row_body default_writer cells in
    let quotes : List ℕ = if is_blank default_writer cells then 34 ∷ 34 ∷ [] else [] in
    omega (arith, length-append before (quotes ++ 10 ∷ []), length-append quotes (10 ∷ []))

module _ (table : LayoutParts) where
  abbrev row_of : SelectedParts → List ℕ
  row_of one = csv_row table one.score one.segment one.shape

  abbrev cells_of : SelectedParts → List (List ℕ)
  cells_of one = row_cells table one.score one.segment one.shape

  rows-read : (selected : List SelectedParts) (more : ℕ)
      → records_from default_config (length selected + more) state.StartRecord (flat_map row_of selected) ≡ map cells_of selected
  unfolding records_from
  rows-read [] more = records_from-nothing (0 + more)
  rows-read (one ∷ selected) more =
      let rest = flat_map row_of selected in
      let count : suc (length selected) + more ≡ suc (length selected + more) = omega arith in
      ap (λ n. records_from default_config n state.StartRecord (row_of one ++ rest)) count
      ∙ ap (records_next (records_from default_config (length selected + more))) (read-write (cells_of one) rest)
      ∙ ap (λ rows. cells_of one ∷ rows) (rows-read selected more)

  -- each row has a byte at least
  few-rows : (selected : List SelectedParts) → length selected ≤ length (flat_map row_of selected)
  few-rows [] = omega arith
  few-rows (one ∷ selected) =
      omega (arith, few-rows selected, some-byte (cells_of one), length-append (row_of one) (flat_map row_of selected))

pub records_of_table : (table : LayoutParts) (selected : List SelectedParts) → records default_config (table_text table selected)
    ≡ header_cells table ∷ map (λ one. row_cells table one.score one.segment one.shape) selected
unfolding records_from
records_of_table table selected =
    let rest = flat_map (λ one. csv_row table one.score one.segment one.shape) selected in
    let text = header_text table ++ rest in
    let more = length text - length selected in
    let first : length text + 1 ≡ suc (length text) = omega arith in
    let count : length text ≡ length selected + more = omega (arith, few-rows table selected, length-append (header_text table) rest) in
    ap (λ n. records_from default_config n state.StartRecord text) first
    ∙ ap (records_next (records_from default_config (length text))) (read-write (header_cells table) rest)
    ∙ ap (λ n. header_cells table ∷ records_from default_config n state.StartRecord rest) count
    ∙ ap (λ rows. header_cells table ∷ rows) (rows-read table selected more)
