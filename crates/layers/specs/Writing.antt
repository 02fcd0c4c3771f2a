-- The effect of writing the layer of a county on the readers of its files and on the writer.
use Rattle.std.specs.Prelude.{◌≡◌, ◌⊎◌, ℕ, List, Result, Ok, Err}
use Rattle.counted_io.specs.ReaderWriter.{Writer}
use Rattle.counted_io.specs.declared.writing.WriteFault.{WriteFault}
use Rattle.bpf_insn.specs.declared.instruction.Insn.{Insn}
use Rattle.extract.specs.ExtractFault.{of_load}
use Rattle.extract.specs.Extracting.{IsOutcomeOfCodeIn}
use Rattle.extract.specs.declared.fault.ExtractFault.{ExtractFault}
use Rattle.extract.specs.declared.fault.ExtractFault.TheVariants.{Write}
use Rattle.layers.specs.Layer.{LayerParts, WritesHeader, layer_format}
use Rattle.tl_segments.specs.County.{CountyReaders}
use Rattle.tl_segments.specs.Shape.{shape_parts}
use Rattle.tl_segments.specs.Shapes.{IsShapesFault, ReadsShapes}
use Rattle.tl_segments.specs.declared.fault.LoadFault.{LoadFault}

-- the type 2 file is refused, or memory runs out for it; nothing was read of the other files, and nothing was written
pub record IsRefusedForShapes (result : Result ℕ ExtractFault) (old new : CountyReaders) (out out' : Writer) : Type 0 where
  pub fault : LoadFault
  pub is_fault : IsShapesFault fault old.shapes new.shapes
  pub is_result : result ≡ Err (of_load fault)
  pub unread : new.segments ≡ old.segments
  pub unwritten : out' ≡ out

-- the type 2 file was read, and then the extract was written in the format of the layer, with the shapes that the file gives
pub record IsWrittenWithShapes (layer : LayerParts) (code : List Insn) (result : Result ℕ ExtractFault) (old new : CountyReaders) (out out' : Writer)
    : Type 0 where
  pub rt2 : List (List ℕ)
  pub reads : ReadsShapes rt2 old.shapes new.shapes
  pub outcome : IsOutcomeOfCodeIn (layer_format layer (shape_parts rt2)) code result old.segments new.segments out out'

-- the effect of writing the layer of a county
abbrev pub IsLayerOutcome : LayerParts → List Insn → Result ℕ ExtractFault → CountyReaders → CountyReaders → Writer → Writer → Type 0
IsLayerOutcome layer code result old new out out' =
    IsRefusedForShapes result old new out out' ⊎ IsWrittenWithShapes layer code result old new out out'

-- The effect of writing the header of a layer and then one county: a write of the header failed, and nothing was read; or the header was written, and
-- then the layer of the county.
pub data IsHeadedOutcome (layer : LayerParts) (code : List Insn) (result : Result ℕ ExtractFault) (old new : CountyReaders) (out out' : Writer)
    : Type 0 where
  in_header : (fault : WriteFault) → result ≡ Err (Write fault) → WritesHeader layer (Err fault) out out' → new ≡ old
      → IsHeadedOutcome layer code result old new out out'
  after_header : (headed : Writer) → WritesHeader layer (Ok tt) out headed → IsLayerOutcome layer code result old new headed out'
      → IsHeadedOutcome layer code result old new out out'
