-- Layers: what is written before all segments, and of each selected one.
use Rattle.std.specs.Prelude.{◌≡◌, ℕ, Bool, true, false, List, [], Option, Some, None, Result, Ok}
use Rattle.counted_io.specs.ReaderWriter.{Writer}
use Rattle.counted_io.specs.Writing.{WritesText}
use Rattle.counted_io.specs.declared.writing.WriteFault.{WriteFault}
use Rattle.bpf_meaning.specs.Extract.{TextFormat, row_of}
use Rattle.layers.specs.Layout.{LayoutParts}
use Rattle.layers.specs.CsvTable as csv
use Rattle.layers.specs.Feature.{feature_line}
use Rattle.layers.specs.declared.geometry.Geometry.{Geometry}
use Rattle.layers.specs.declared.geometry.Geometry.TheVariants as geometry
use Rattle.tl_fields.specs.Number.{number_of}
use Rattle.tl_records.specs.Layout.{field_at}
use Rattle.tl_records.specs.declared.layout.TheConstants.Type1.{TLID}
use Rattle.tl_segments.specs.Segment.{SegmentParts}
use Rattle.tl_segments.specs.Shape.{ShapePartParts, ShapeTable}

-- rows, a table in CSV, or features in GeoJSON
pub data LayerParts : Type 0 where
  Rows : LayerParts
  Table : LayoutParts → LayerParts
  Features : LayoutParts → LayerParts

-- whether the points of shapes are written
abbrev pub is_shape : Geometry → Bool
is_shape geometry.None = false
is_shape geometry.Line = false
is_shape geometry.Shape = true

abbrev pub has_shapes : LayerParts → Bool
has_shapes Rows = false
has_shapes (Table layout) = is_shape layout.geometry
has_shapes (Features layout) = is_shape layout.geometry

-- what comes before all segments was written: the header of a table, and otherwise nothing
abbrev pub WritesHeader : LayerParts → Result (Unit {0}) WriteFault → Writer → Writer → Type 0
WritesHeader Rows result out out' = (result ≡ Ok tt) × (out' ≡ out)
WritesHeader (Table layout) result out out' = WritesText (csv.header_text layout) result out out'
WritesHeader (Features layout) result out out' = (result ≡ Ok tt) × (out' ≡ out)

-- what is written of a segment with a score and the parts of its shape
abbrev pub layer_text : LayerParts → ℕ → SegmentParts → List ShapePartParts → List ℕ
layer_text Rows score segment shape = row_of score segment
layer_text (Table layout) score segment shape = csv.csv_row layout score segment shape
layer_text (Features layout) score segment shape = feature_line layout score segment shape

-- the shape of a TLID, if there is one
abbrev pub shape_at : ShapeTable → Option ℕ → List ShapePartParts
shape_at shapes (Some tlid) = shapes tlid
shape_at shapes None = []

-- the shape of the segment with this record
abbrev pub shape_in : ShapeTable → List ℕ → List ShapePartParts
shape_in shapes bytes = shape_at shapes (number_of (field_at TLID bytes))

-- the format of a layer whose segments have these shapes
abbrev pub layer_format : LayerParts → ShapeTable → TextFormat
layer_format layer shapes = λ score segment. layer_text layer score segment (shape_in shapes segment.bytes)
