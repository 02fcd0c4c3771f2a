-- Formats of layers.
use Rattle.std.proofs.Common.{◌≡◌, ℕ, ◌<◌, List, ◌++◌, length, Option, Some, None, ap, ap₂, sym, subst, ◌∙◌}
use Rattle.std.proofs.Math.Path.{fun_ext}
use Rattle.std.specs.Prelude.{Result}
use Rattle.bpf_insn.specs.declared.instruction.Insn.{Insn}
use Rattle.bpf_meaning.specs.Extract.{TextFormat, row_of}
use Rattle.counted_io.specs.ReaderWriter.{Reader, Writer}
use Rattle.extract.specs.Extracting.{IsOutcomeOfCodeIn}
use Rattle.extract.specs.declared.fault.ExtractFault.{ExtractFault}
use Rattle.layers.proofs.FeatureLemmas.{feature_with_line, feature_without_line}
use Rattle.layers.proofs.RowLemmas.{row_with_line, row_without_line}
use Rattle.layers.specs.FeatureWriter.{end_without_line, format_of, layer_in, parts_in, start_of}
use Rattle.layers.specs.Geometry.{ends_for, inner_parts}
use Rattle.layers.specs.Layer.{LayerParts, Rows, Table, Features, layer_format, layer_text}
use Rattle.layers.specs.Layout.{LayoutParts}
use Rattle.layers.specs.Line.{rest_text, start_text}
use Rattle.layers.specs.Writing.{IsWrittenWithShapes}
use Rattle.layers.specs.declared.ends.Ends.{Ends}
use Rattle.layers.specs.declared.feature_writer.FeatureWriter.{FeatureWriter}
use Rattle.layers.specs.declared.line.Notation.{Notation}
use Rattle.layers.specs.declared.line.Notation.TheVariants.{WellKnownText, GeoJson}
use Rattle.tl_segments.specs.County.{CountyReaders, SegmentReaders}
use Rattle.tl_segments.specs.Segment.{SegmentParts}
use Rattle.tl_segments.specs.Shape.{ShapePartParts, ShapeTable}
use Rattle.tl_segments.specs.Shapes.{LoadsShapes, ReadsShapes, ShapesParts, table_of}

-- the text of a segment depends on its record alone
pub of_record : (layer : LayerParts) (shapes : ShapeTable) (score : ℕ) (segment other : SegmentParts) → segment.bytes ≡ other.bytes
    → layer_format layer shapes score segment ≡ layer_format layer shapes score other
of_record Rows shapes score segment other same =
    ap (λ bytes. layer_format Rows shapes score (record segment { bytes = bytes })) same
of_record (Table layout) shapes score segment other same =
    ap (λ bytes. layer_format (Table layout) shapes score (record segment { bytes = bytes })) same
of_record (Features layout) shapes score segment other same =
    ap (λ bytes. layer_format (Features layout) shapes score (record segment { bytes = bytes })) same

-- the pieces of a row or a feature are its text

pub with_line : (notation : Notation) (layout : LayoutParts) → 0 < length layout.columns → (score : ℕ) (segment : SegmentParts)
    (shape : List ShapePartParts) (ends : Ends) → ends_for layout.geometry segment.bytes ≡ Some ends
    → (start_of notation score layout.columns segment.bytes ++ start_text notation ends.start)
    ++ rest_text notation (inner_parts layout.geometry shape) ends.end
    ≡ layer_text (layer_in notation layout) score segment shape
with_line WellKnownText layout some score segment shape ends found = row_with_line layout some score segment shape ends found
with_line GeoJson layout some score segment shape ends found = feature_with_line layout score segment shape ends found

pub without_line : (notation : Notation) (layout : LayoutParts) → 0 < length layout.columns → (score : ℕ) (segment : SegmentParts)
    (shape : List ShapePartParts) → ends_for layout.geometry segment.bytes ≡ None
    → start_of notation score layout.columns segment.bytes ++ end_without_line notation layout.geometry
    ≡ layer_text (layer_in notation layout) score segment shape
without_line WellKnownText layout some score segment shape none = row_without_line layout some score segment shape none
without_line GeoJson layout some score segment shape none = feature_without_line layout score segment shape none

-- the format of a layer: that of rows, or of a writer for the layer

pub rows_are : (layer : LayerParts) (shapes : ShapeTable) → layer ≡ Rows → row_of ≡ layer_format layer shapes
rows_are layer shapes is = ap (λ layer. layer_format layer shapes) (sym is)

pub format_is : {A : Type 0} (layer : LayerParts) (writer : FeatureWriter A) (shapes : Option ShapesParts)
    → (parts_in writer ≡ layer) × (writer.shapes ≡ shapes) → format_of writer ≡ layer_format layer (table_of shapes)
format_is layer writer shapes (is, same) = ap₂ (λ layer shapes. layer_format layer (table_of shapes)) is same

-- the shapes were read before the other files, and nothing more was read of their file
pub record LoadsFirst (shapes : ShapeTable) (unread : SegmentReaders) (old new : CountyReaders) : Type 0 where
  pub loaded : Option Reader
  pub loads : LoadsShapes shapes old.shapes loaded
  pub others : unread ≡ old.segments
  pub same : new.shapes ≡ loaded

module _ {layer : LayerParts} {code : List Insn} {result : Result ℕ ExtractFault} {out out' : Writer} where
  -- what was written with shapes was written with those of the lines that they are from
  pub written_with : {text_of : TextFormat} {shapes : ShapeTable} {unread : SegmentReaders} {old new : CountyReaders}
      → text_of ≡ layer_format layer shapes → LoadsFirst shapes unread old new
      → IsOutcomeOfCodeIn text_of code result unread new.segments out out' → IsWrittenWithShapes layer code result old new out out'
  written_with {text_of} {old = old} {new} is first outcome =
      let loads = first.loads in
      let as_read = subst (λ (unread : SegmentReaders). IsOutcomeOfCodeIn text_of code result unread new.segments out out') first.others outcome in
      record {
        rt2 = loads.rt2;
        reads = subst (λ (new : Option Reader). ReadsShapes loads.rt2 old.shapes new) (sym first.same) loads.reads;
        outcome = subst (λ text_of. IsOutcomeOfCodeIn text_of code result old.segments new.segments out out')
            (is ∙ ap (layer_format layer) (fun_ext loads.holds)) as_read;
      }
