-- Layers, by the names that are given.
use Rattle.std.specs.Prelude.{ℕ, ◌==◌, List, [], codes, get_or, if◌then◌else◌, Option, Some, None, Result, Ok, Err}
use Rattle.std.specs.List.{slice_split}
use Rattle.std.specs.Result.{result_map_both}
use Rattle.std.specs.Str.{bytes_eq}
use Rattle.cql2.specs.declared.column.Column.{Column as AColumn}
use Rattle.layers.specs.Columns.{columns_named, usual_columns}
use Rattle.layers.specs.Layer.{LayerParts, Rows, Table, Features}
use Rattle.layers.specs.LayerFault.{LayerFaultParts, Column, EmptyColumn, Format, Geometry, NotOfRows, RepeatedColumn}
use Rattle.layers.specs.Layout.{LayoutParts}
use Rattle.layers.specs.declared.columns_fault.ColumnsFault.{ColumnsFault}
use Rattle.layers.specs.declared.columns_fault.ColumnsFault.TheVariants as columns_fault
use Rattle.layers.specs.declared.geometry.Geometry.{Geometry as AGeometry}
use Rattle.layers.specs.declared.geometry.Geometry.TheVariants as geometry

-- the names between the commas of a text
abbrev pub names_in : List ℕ → List (List ℕ)
names_in text = slice_split (λ byte. byte == 44) text

-- a name that isn't that of a column
abbrev pub unknown_column : List ℕ → LayerFaultParts
unknown_column name = if bytes_eq name (codes "") then EmptyColumn else Column name

-- the first name that isn't that of a column, or that repeats one
abbrev pub fault_of_columns : List (List ℕ) → ColumnsFault → LayerFaultParts
fault_of_columns names columns_fault.Empty = EmptyColumn
fault_of_columns names (columns_fault.Unknown index) = unknown_column (get_or names index [])
fault_of_columns names (columns_fault.Repeated index) = RepeatedColumn (get_or names index [])

-- the columns of a list of names
abbrev pub listed_columns : List ℕ → Result (List AColumn) LayerFaultParts
listed_columns text = result_map_both (λ columns. columns) (fault_of_columns (names_in text)) (columns_named (names_in text))

-- the columns of a list of names, by default the usual ones
abbrev pub columns_or_usual : Option (List ℕ) → Result (List AColumn) LayerFaultParts
columns_or_usual None = Ok usual_columns
columns_or_usual (Some text) = listed_columns text

-- the geometry of this name, by default a straight line
abbrev pub geometry_named : Option (List ℕ) → Result AGeometry LayerFaultParts
geometry_named None = Ok geometry.Line
geometry_named (Some name) =
    if bytes_eq name (codes "none") then Ok geometry.None
    else if bytes_eq name (codes "line") then Ok geometry.Line
    else if bytes_eq name (codes "shape") then Ok geometry.Shape
    else Err (Geometry name)

abbrev pub layout_with : Result (List AColumn) LayerFaultParts → Result AGeometry LayerFaultParts → Result LayoutParts LayerFaultParts
layout_with (Err fault) geometry = Err fault
layout_with (Ok columns) (Err fault) = Err fault
layout_with (Ok columns) (Ok geometry) = Ok (record { columns = columns; geometry = geometry })

-- the columns and the geometry of a table or of features
abbrev pub layout_named : Option (List ℕ) → Option (List ℕ) → Result LayoutParts LayerFaultParts
layout_named columns geometry = layout_with (columns_or_usual columns) (geometry_named geometry)

-- rows, which take neither columns nor a geometry
abbrev pub plain_rows : Option (List ℕ) → Option (List ℕ) → Result LayerParts LayerFaultParts
plain_rows (Some names) geometry = Err (NotOfRows (codes "columns"))
plain_rows None (Some name) = Err (NotOfRows (codes "geometry"))
plain_rows None None = Ok Rows

-- the layer of a format with these columns and this geometry, by default rows
abbrev pub layer_named : Option (List ℕ) → Option (List ℕ) → Option (List ℕ) → Result LayerParts LayerFaultParts
layer_named None columns geometry = plain_rows columns geometry
layer_named (Some format) columns geometry =
    if bytes_eq format (codes "rows") then plain_rows columns geometry
    else if bytes_eq format (codes "csv") then result_map_both Table (λ fault. fault) (layout_named columns geometry)
    else if bytes_eq format (codes "geojsonseq") then result_map_both Features (λ fault. fault) (layout_named columns geometry)
    else Err (Format format)
