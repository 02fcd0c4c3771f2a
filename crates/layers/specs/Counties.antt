-- The layer of counties that are in memory, whose shapes aren't.
use Rattle.std.specs.Io.KnownBytes.{Appends}
use Rattle.std.specs.List.{flat_map}
use Rattle.std.specs.Prelude.{◌≡◌, ℕ, List, [], ◌++◌}
use Rattle.bpf_insn.specs.declared.instruction.Insn.{Insn}
use Rattle.bpf_meaning.specs.Extract.{IsExtractIn, TextFormat}
use Rattle.counted_io.specs.ReaderWriter.{Writer}
use Rattle.extract.specs.Extracting.{WritesSelected}
use Rattle.layers.specs.CsvTable.{header_text}
use Rattle.layers.specs.Layer.{LayerParts, Rows, Table, Features, layer_format}
use Rattle.tl_segments.specs.County.{CountyParts}
use Rattle.tl_segments.specs.Segment.{SegmentParts}
use Rattle.tl_segments.specs.Shape.{shape_parts}

-- the header of a layer: the names of a table's columns
abbrev pub header_of : LayerParts → List ℕ
header_of Rows = []
header_of (Table layout) = header_text layout
header_of (Features layout) = []

-- the format of a layer whose type 2 file has no line
abbrev pub straight_format : LayerParts → TextFormat
straight_format layer = layer_format layer (shape_parts [])

-- the segments of all counties, in order
abbrev pub segments_of : List CountyParts → List SegmentParts
segments_of counties = flat_map (λ county. county.segments) counties

-- the header of the layer was written, and then the texts of the segments that the code selects in the counties
pub record WritesLayer (layer : LayerParts) (code : List Insn) (counties : List CountyParts) (out out' : Writer) : Type 0 where
  pub headed : Writer
  pub header : Appends out.held headed.held (header_of layer)
  pub selected : WritesSelected (straight_format layer) code (segments_of counties) headed out'

-- the text is the header of the layer, and then the texts of the segments that the code selects in the counties, in order and with their scores
pub record IsLayerOf (layer : LayerParts) (code : List Insn) (counties : List CountyParts) (text : List ℕ) : Type 0 where
  pub texts : List ℕ
  pub count : ℕ
  pub is_extract : IsExtractIn (straight_format layer) code (segments_of counties) texts count
  pub is_text : text ≡ header_of layer ++ texts
