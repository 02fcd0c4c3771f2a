-- A table in CSV (RFC 4180) with a header: the score, the columns, and the geometry in Well-Known Text (OGC 06-103r4, section 7).
use Rattle.std.specs.Prelude.{ℕ, List, [], ◌∷◌, ◌++◌, map, codes, decimal, Option, Some, None}
use Rattle.std.specs.List.{flat_map, join_with_byte}
use Rattle.cql2.specs.Column.{column_name}
use Rattle.cql2.specs.declared.column.Column.{Column as AColumn}
use Rattle.csv.specs.Writing.{default_writer, row_body, row_text}
use Rattle.layers.specs.Geometry.{line_of}
use Rattle.layers.specs.Layout.{LayoutParts, SelectedParts}
use Rattle.layers.specs.Line.{point_text}
use Rattle.layers.specs.Value.{ValueParts, missing, text, number, value_of}
use Rattle.layers.specs.declared.geometry.Geometry.{Geometry}
use Rattle.layers.specs.declared.geometry.Geometry.TheVariants as geometry
use Rattle.layers.specs.declared.line.Notation.TheVariants.{WellKnownText}
use Rattle.tl_segments.specs.Segment.{SegmentParts}
use Rattle.tl_segments.specs.Shape.{ShapePartParts}
use Rattle.tl_segments.specs.declared.shape.Point.{Point}

-- a missing value is an empty cell
abbrev pub cell_of : ValueParts → List ℕ
cell_of missing = []
cell_of (text bytes) = bytes
cell_of (number bytes) = bytes

abbrev pub line_string : List Point → List ℕ
line_string points = codes "LINESTRING (" ++ join_with_byte 44 (map (point_text WellKnownText) points) ++ codes ")"

-- a missing line is an empty cell
abbrev pub line_cell : Option (List Point) → List ℕ
line_cell None = []
line_cell (Some points) = line_string points

-- without geometry there is no such column
abbrev pub if_wanted : Geometry → List ℕ → List (List ℕ)
if_wanted geometry.None cell = []
if_wanted geometry.Line cell = cell ∷ []
if_wanted geometry.Shape cell = cell ∷ []

abbrev pub header_cells : LayoutParts → List (List ℕ)
header_cells table = codes "score" ∷ map column_name table.columns ++ if_wanted table.geometry (codes "WKT")

abbrev pub row_cells : LayoutParts → ℕ → SegmentParts → List ShapePartParts → List (List ℕ)
row_cells table score segment shape =
    decimal score ∷ map (λ column. cell_of (value_of column segment.bytes)) table.columns
    ++ if_wanted table.geometry (line_cell (line_of table.geometry segment.bytes shape))

-- a record of cells as the crate csv writes it, terminated by LF
abbrev pub header_text : LayoutParts → List ℕ
header_text table = row_text default_writer (header_cells table)

abbrev pub csv_row : LayoutParts → ℕ → SegmentParts → List ShapePartParts → List ℕ
csv_row table score segment shape = row_text default_writer (row_cells table score segment shape)

-- a table: the header, and the row of each selected segment
abbrev pub table_text : LayoutParts → List SelectedParts → List ℕ
table_text table selected = header_text table ++ flat_map (λ one. csv_row table one.score one.segment one.shape) selected

-- the pieces in which a header and a row are written

abbrev pub names_text : List AColumn → List ℕ
names_text columns = row_body default_writer (codes "score" ∷ map column_name columns)

abbrev pub columns_text : ℕ → List AColumn → List ℕ → List ℕ
columns_text score columns line = row_body default_writer (decimal score ∷ map (λ column. cell_of (value_of column line)) columns)

-- the end of a row without a line, and the names after the score
abbrev pub end_without_line : Geometry → List ℕ
end_without_line geometry.None = codes "\n"
end_without_line geometry.Line = codes ",\n"
end_without_line geometry.Shape = codes ",\n"

abbrev pub end_of_header : Geometry → List ℕ
end_of_header geometry.None = codes "\n"
end_of_header geometry.Line = codes ",WKT\n"
end_of_header geometry.Shape = codes ",WKT\n"
