-- The rows of a table as their pieces.
use Rattle.std.proofs.Common.{◌≡◌, ℕ, ◌+◌, ◌<◌, ◌==◌, ◌||◌, not, Bool, true, false, ℤ, List, [], ◌∷◌, ◌++◌, length, map, Option, Some, None, option_map, codes, decimal, refl, sym, ap, ◌∙◌, arith, append_assoc}
use Rattle.std.proofs.lemmas.Bool.{and_parts, ne_eqb}
use Rattle.std.proofs.lemmas.Grind.{flat_map-append}
use Rattle.std.proofs.lemmas.List.{append-nil, length-map}
use Rattle.std.specs.List.{flat_map, join_with_byte, list_all}
use Rattle.cql2.specs.Column.{column_name}
use Rattle.cql2.specs.declared.column.Column.{Column as AColumn}
use Rattle.csv.specs.Writing.{default_writer, escaped, field_text, fields_text, is_blank, needs_byte, needs_quotes, row_body, row_text}
use Rattle.numerals.specs.Degrees.{degrees}
use Rattle.layers.proofs.CellLemmas.{fields_text-append}
use Rattle.layers.proofs.DigitLemmas.{passes-append, passes-degrees}
use Rattle.layers.specs.CsvTable.{cell_of, columns_text, csv_row, end_of_header, end_without_line, header_text, if_wanted, line_cell, line_string, names_text}
use Rattle.layers.specs.Geometry.{ends_for, inner_parts, line_with, points_of}
use Rattle.layers.specs.Layout.{LayoutParts}
use Rattle.layers.specs.Line.{further_points, point_text, rest_text, start_text}
use Rattle.layers.specs.Value.{value_of}
use Rattle.layers.specs.declared.ends.Ends.{Ends}
use Rattle.layers.specs.declared.geometry.Geometry.{Geometry}
use Rattle.layers.specs.declared.geometry.Geometry.TheVariants as geometry
use Rattle.layers.specs.declared.line.Notation.TheVariants.{WellKnownText}
use Rattle.tl_segments.specs.Segment.{SegmentParts}
use Rattle.tl_segments.specs.Shape.{ShapePartParts}
use Rattle.tl_segments.specs.declared.shape.Point.{Point}

-- the texts of lines have no quotation mark

abbrev is_plain : ℕ → Bool
is_plain b = not (b == 34)

escaped-plain : (text : List ℕ) → list_all is_plain text ≡ true → escaped default_writer text ≡ text
unfolding escaped
escaped-plain [] plain = refl
escaped-plain (b ∷ text) plain =
    let parts = and_parts (is_plain b) (list_all is_plain text) plain in
    rw (not-false (b == 34) parts.0) (ap (λ rest. b ∷ rest) (escaped-plain text parts.1))
  where
    not-false : (test : Bool) → not test ≡ true → test ≡ false
    not-false true e = cc e
    not-false false e = refl

plain-append : (a b : List ℕ) → list_all is_plain a ≡ true → list_all is_plain b ≡ true → list_all is_plain (a ++ b) ≡ true
plain-append a b first second = passes-append is_plain a b first second

plain-degrees : (z : ℤ) → list_all is_plain (degrees z) ≡ true
plain-degrees z = passes-degrees is_plain refl refl (λ d. ap not (ne_eqb (48 + d) 34 (λ is. omega arith))) z

plain-point_text : (point : Point) → list_all is_plain (point_text WellKnownText point) ≡ true
plain-point_text point =
    plain-append (degrees point.longitude ++ 32 ∷ []) (degrees point.latitude)
    (plain-append (degrees point.longitude) (32 ∷ []) (plain-degrees point.longitude) refl) (plain-degrees point.latitude)

plain-further_points : (points : List Point) → list_all is_plain (further_points WellKnownText points) ≡ true
plain-further_points [] = refl
plain-further_points (point ∷ points) =
    plain-append (44 ∷ point_text WellKnownText point) (further_points WellKnownText points) (plain-point_text point) (plain-further_points points)

-- points joined by commas
joined : (first : Point) (points : List Point) → join_with_byte 44 (map (point_text WellKnownText) (first ∷ points)) ≡ point_text WellKnownText first ++ further_points WellKnownText points
joined first [] = sym (append-nil (point_text WellKnownText first))
joined first (next ∷ points) = ap (λ rest. point_text WellKnownText first ++ 44 ∷ rest) (joined next points)

points-further : (shape : List ShapePartParts) → further_points WellKnownText (points_of shape) ≡ flat_map (λ part. further_points WellKnownText part.points) shape
points-further [] = refl
points-further (part ∷ shape) =
    flat_map-append (λ point. 44 ∷ point_text WellKnownText point) part.points (points_of shape) ∙ ap (λ rest. further_points WellKnownText part.points ++ rest) (points-further shape)

-- a row with at least one column besides the first cell
row_text-cells : (first : List ℕ) (columns last : List (List ℕ)) → 0 < length columns
    → row_text default_writer (first ∷ (columns ++ last)) ≡ row_body default_writer (first ∷ columns) ++ (fields_text default_writer last ++ 10 ∷ [])
unfolding is_blank
row_text-cells first [] last some = absurd (omega arith)
row_text-cells first (cell ∷ columns) last some =
    let start = field_text default_writer first in
    let middle = fields_text default_writer (cell ∷ columns) in
    let rest = fields_text default_writer last in
    ap (λ text. (start ++ text) ++ 10 ∷ []) (fields_text-append (cell ∷ columns) last)
    ∙ ap (λ text. text ++ 10 ∷ []) (sym (append_assoc start middle rest)) ∙ append_assoc (start ++ middle) rest (10 ∷ [])

module _ {A : Type 0} (f : A → List ℕ) (first : List ℕ) (columns : List A) (some : 0 < length columns) where
  row_text-map : (last : List (List ℕ)) → row_text default_writer (first ∷ (map f columns ++ last))
      ≡ row_body default_writer (first ∷ map f columns) ++ (fields_text default_writer last ++ 10 ∷ [])
  row_text-map last = row_text-cells first (map f columns) last (omega (arith, length-map columns f))

end_of_header-is : (which : Geometry) → fields_text default_writer (if_wanted which (codes "WKT")) ++ 10 ∷ [] ≡ end_of_header which
unfolding fields_text
end_of_header-is geometry.None = refl
end_of_header-is geometry.Line = refl
end_of_header-is geometry.Shape = refl

pub header_is : (table : LayoutParts) → 0 < length table.columns → names_text table.columns ++ end_of_header table.geometry ≡ header_text table
header_is table some =
    ap (λ text. names_text table.columns ++ text) (sym (end_of_header-is table.geometry))
    ∙ sym (row_text-map column_name (codes "score") table.columns some (if_wanted table.geometry (codes "WKT")))

end_without_line-is : (which : Geometry) → fields_text default_writer (if_wanted which []) ++ 10 ∷ [] ≡ end_without_line which
unfolding fields_text
end_without_line-is geometry.None = refl
end_without_line-is geometry.Line = refl
end_without_line-is geometry.Shape = refl

-- the column of the geometry is there if a line is wanted
if_wanted-some : (which : Geometry) (line : List ℕ) (ends : Ends) (cell : List ℕ) → ends_for which line ≡ Some ends → if_wanted which cell ≡ cell ∷ []
if_wanted-some geometry.None line ends cell is = cc is
if_wanted-some geometry.Line line ends cell is = refl
if_wanted-some geometry.Shape line ends cell is = refl

-- a comma calls for quotes
needs_quotes-comma : (before after : List ℕ) → needs_quotes default_writer (before ++ 44 ∷ after) ≡ true
needs_quotes-comma [] after = refl
needs_quotes-comma (b ∷ before) after = ap (λ test. needs_byte default_writer b || test) (needs_quotes-comma before after) ∙ or-true _
  where
    or-true : (test : Bool) → (test || true) ≡ true
    or-true true = refl
    or-true false = refl

module _ (shape : List ShapePartParts) (ends : Ends) where
  abbrev name : List ℕ
  name = codes "LINESTRING ("

  abbrev start : List ℕ
  start = point_text WellKnownText ends.start

  abbrev parts : List ℕ
  parts = flat_map (λ part. further_points WellKnownText part.points) shape

  abbrev end : List ℕ
  end = point_text WellKnownText ends.end

  line_string-is : line_string (line_with (points_of shape) ends) ≡ (name ++ (start ++ parts)) ++ 44 ∷ (end ++ 41 ∷ [])
  line_string-is =
      ap (λ text. (name ++ text) ++ 41 ∷ []) (joined ends.start (points_of shape ++ ends.end ∷ [])
      ∙ ap (λ text. start ++ text) (flat_map-append (λ point. 44 ∷ point_text WellKnownText point) (points_of shape) (ends.end ∷ []) ∙ ap (λ text. text ++ 44 ∷ (end ++ [])) (points-further shape)))
      ∙ simp (append_assoc, append-nil)

  plain-line_string : list_all is_plain ((name ++ (start ++ parts)) ++ 44 ∷ (end ++ 41 ∷ [])) ≡ true
  plain-line_string =
      plain-append (name ++ (start ++ parts)) (44 ∷ (end ++ 41 ∷ []))
      (plain-append name (start ++ parts) refl
      (plain-append start parts (plain-point_text ends.start) (ap (list_all is_plain) (sym (points-further shape)) ∙ plain-further_points (points_of shape))))
      (plain-append end (41 ∷ []) (plain-point_text ends.end) refl)

  pub line_cell-is : fields_text default_writer (line_string (line_with (points_of shape) ends) ∷ []) ++ 10 ∷ []
      ≡ start_text WellKnownText ends.start ++ rest_text WellKnownText shape ends.end
  unfolding fields_text
  line_cell-is =
      let cell = (name ++ (start ++ parts)) ++ 44 ∷ (end ++ 41 ∷ []) in
      ap (λ cell. fields_text default_writer (cell ∷ []) ++ 10 ∷ []) line_string-is
      ∙ rw (needs_quotes-comma (name ++ (start ++ parts)) (end ++ 41 ∷ []), escaped-plain cell plain-line_string) (simp (append_assoc, append-nil))

module _ (table : LayoutParts) (some : 0 < length table.columns) (score : ℕ) (segment : SegmentParts) (shape : List ShapePartParts) where
  abbrev cell : AColumn → List ℕ
  cell column = cell_of (value_of column segment.bytes)

  row_is : (line : Option (List Point))
      → option_map (line_with (points_of (inner_parts table.geometry shape))) (ends_for table.geometry segment.bytes) ≡ line
      → columns_text score table.columns segment.bytes ++ (fields_text default_writer (if_wanted table.geometry (line_cell line)) ++ 10 ∷ [])
      ≡ csv_row table score segment shape
  row_is line is =
      sym (row_text-map cell (decimal score) table.columns some (if_wanted table.geometry (line_cell line)))
      ∙ ap (λ line. row_text default_writer (decimal score ∷ (map cell table.columns ++ if_wanted table.geometry (line_cell line)))) (sym is)

  pub row_without_line : ends_for table.geometry segment.bytes ≡ None
      → columns_text score table.columns segment.bytes ++ end_without_line table.geometry ≡ csv_row table score segment shape
  row_without_line none =
      ap (λ text. columns_text score table.columns segment.bytes ++ text) (sym (end_without_line-is table.geometry))
      ∙ row_is None (ap (option_map (line_with (points_of (inner_parts table.geometry shape)))) none)

  pub row_with_line : (ends : Ends) → ends_for table.geometry segment.bytes ≡ Some ends
      → (columns_text score table.columns segment.bytes ++ start_text WellKnownText ends.start)
      ++ rest_text WellKnownText (inner_parts table.geometry shape) ends.end
      ≡ csv_row table score segment shape
  row_with_line ends is =
      let before = columns_text score table.columns segment.bytes in
      let inner = inner_parts table.geometry shape in
      let line = line_string (line_with (points_of inner) ends) in
      append_assoc before (start_text WellKnownText ends.start) (rest_text WellKnownText inner ends.end)
      ∙ ap (λ text. before ++ text) (sym (line_cell-is inner ends)
      ∙ ap (λ cells. fields_text default_writer cells ++ 10 ∷ []) (sym (if_wanted-some table.geometry segment.bytes ends line is)))
      ∙ row_is (Some (line_with (points_of inner) ends)) (ap (option_map (line_with (points_of inner))) is)
