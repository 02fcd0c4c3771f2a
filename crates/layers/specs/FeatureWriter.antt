-- The layer that a writer of tables or features is for, and the pieces in which it writes a segment.
use Rattle.std.specs.Prelude.{ℕ, List}
use Rattle.bpf_meaning.specs.Extract.{TextFormat}
use Rattle.cql2.specs.declared.column.Column.{Column as AColumn}
use Rattle.layers.specs.CsvTable as csv
use Rattle.layers.specs.Feature as feature
use Rattle.layers.specs.Layer.{LayerParts, Table, Features, layer_format}
use Rattle.layers.specs.Layout.{LayoutParts}
use Rattle.layers.specs.declared.feature_writer.FeatureWriter.{FeatureWriter}
use Rattle.layers.specs.declared.geometry.Geometry.{Geometry}
use Rattle.layers.specs.declared.line.Notation.{Notation}
use Rattle.layers.specs.declared.line.Notation.TheVariants.{WellKnownText, GeoJson}
use Rattle.tl_segments.specs.Shapes.{table_of}

-- tables have lines in Well-Known Text, and features in GeoJSON
abbrev pub layer_in : Notation → LayoutParts → LayerParts
layer_in WellKnownText layout = Table layout
layer_in GeoJson layout = Features layout

abbrev pub parts_in : {A : Type 0} → FeatureWriter A → LayerParts
parts_in writer = layer_in writer.notation (record { columns = writer.columns; geometry = writer.geometry })

abbrev pub format_of : {A : Type 0} → FeatureWriter A → TextFormat
format_of writer = layer_format (parts_in writer) (table_of writer.shapes)

-- what comes before the line: the score and the columns
abbrev pub start_of : Notation → ℕ → List AColumn → List ℕ → List ℕ
start_of WellKnownText score columns line = csv.columns_text score columns line
start_of GeoJson score columns line = feature.feature_start score columns line

-- the end of a row or a feature without a line
abbrev pub end_without_line : Notation → Geometry → List ℕ
end_without_line WellKnownText geometry = csv.end_without_line geometry
end_without_line GeoJson geometry = feature.end_without_line
