-- What `select` writes, and why it is refused.
use Rattle.std.specs.Io.KnownBytes.{Appends}
use Rattle.std.specs.Prelude.{◌≡◌, ◌⊎◌, ℕ, List, [], ◌∷◌, ◌++◌, map, Option, Result, Ok, Err, ⊤}
use Rattle.extract.specs.ExtractFault as extract_fault
use Rattle.bpf_insn.specs.declared.instruction.Insn.{Insn}
use Rattle.extract.specs.declared.fault.ExtractFault.{ExtractFault}
use Rattle.extract.specs.declared.fault.ExtractFault.TheVariants as extract
use Rattle.refusals.specs.Refusal.{RefusalParts, memory}
use Rattle.counted_io.specs.ReaderWriter.{Writer}
use Rattle.counted_io.specs.declared.writing.WriteFault.{WriteFault}
use Rattle.std.specs.declared.alloc.Global.{Global}
use Rattle.cql2.specs.declared.filter.Filter.{Filter}
use Rattle.cql2_code.specs.Chosen.{selection_of}
use Rattle.bpf_meaning.specs.Extract.{texts_of}
use Rattle.layers.specs.Layer.{LayerParts, WritesHeader, has_shapes, layer_format}
use Rattle.layers.specs.LayerParts.{parts_of}
use Rattle.layers.specs.Writing.{IsLayerOutcome}
use Rattle.tl_segments.specs.County.{CountyReaders, LoadsSegments}
use Rattle.tl_segments.specs.Segment.{SegmentParts}
use Rattle.tl_segments.specs.Shape.{shape_parts}
use Rattle.tl_segments.specs.Shapes.{ReadsShapes}
use Rattle.named_files.specs.County.{HoldCounty, IsFileOfCounty, file_name}
use Rattle.commands.specs.Failure.{refusal_status}
use Rattle.named_files.specs.Files.{Disk, FailsToOpen, OpenResults}
use Rattle.commands.specs.Counties.{FailsToRead, IsFileOfOne, IsRefusedFile}
use Rattle.filters.specs.Filter.{IsCodeOfText, Spells}
use Rattle.commands.specs.declared.select.Select.{Select}
use Rattle.commands.specs.declared.failure.Failure.{Failure}
use Rattle.commands.specs.declared.failure.Failure.TheVariants.{Write, CountyFile, County}

-- the codes of the requested counties
abbrev pub codes_of : Select → List (List ℕ)
codes_of select = map (λ code. code.now) select.codes.items

-- the county of one of the codes is read from a file of this name
abbrev pub IsFileOf : Select → List ℕ → Type 0
IsFileOf select name = IsFileOfOne (IsFileOfCounty (has_shapes (parts_of select.layer)) select.«data».now) (codes_of select) name

-- a program's instructions, the layer that it writes, and the folder of the counties that it runs over, with what is known of the files' bytes by name
pub record Selection : Type 0 where
  pub known : List ℕ → Option (List ℕ)
  pub folder : List ℕ
  pub layer : LayerParts
  pub program : List Insn

abbrev pub selection : (List ℕ → Option (List ℕ)) → List ℕ → LayerParts → List Insn → Selection
selection known folder layer program = record { known = known; folder = folder; layer = layer; program = program }

-- the outcome of writing the layer of the county of this code
pub record IsCountyOutcome (over : Selection) (code : List ℕ) (result : Result ℕ ExtractFault) (out out' : Writer) : Type 0 where
  pub old : CountyReaders
  pub hold : HoldCounty (has_shapes over.layer) over.known over.folder code old
  pub new : CountyReaders
  pub outcome : IsLayerOutcome over.layer over.program result old new out out'

-- The files of the county of this code were all read to their ends. Exactly the texts of its segments for which the filter is true were appended, in
-- order, with their scores and with the shapes of the file of type 2. No write failed.
pub record WritesTexts {A : Type 0} (filter : Filter A) (select : Select) (known : List ℕ → Option (List ℕ)) (code : List ℕ) (out out' : Writer)
    : Type 0 where
  pub old : CountyReaders
  pub hold : HoldCounty (has_shapes (parts_of select.layer)) known select.«data».now code old
  pub new : CountyReaders
  pub segments : List SegmentParts
  pub loads : LoadsSegments segments old.segments new.segments
  pub rt2 : List (List ℕ)
  pub reads : ReadsShapes rt2 old.shapes new.shapes
  pub written : Appends out.held out'.held (texts_of (layer_format (parts_of select.layer) (shape_parts rt2))
      (selection_of filter select.filter_options.score segments))
  pub counts : out'.counts ≡ out.counts

-- the texts of the counties of these codes were written, one county after the other
pub data WritesAllTexts {A : Type 0} (filter : Filter A) (select : Select) (known : List ℕ → Option (List ℕ)) (out : Writer)
    : List (List ℕ) → Writer → Type 0 where
  none : WritesAllTexts filter select known out [] out
  more : {codes : List (List ℕ)} {between out' : Writer} (code : List ℕ) → WritesAllTexts filter select known out codes between
      → WritesTexts filter select known code between out' → WritesAllTexts filter select known out (codes ++ code ∷ []) out'

-- a county's extract was written
abbrev pub WritesCounty : Selection → List ℕ → Writer → Writer → Type 0
WritesCounty over code out out' = (rows : ℕ) × IsCountyOutcome over code (Ok rows) out out'

-- the extracts of the counties of these codes were written, one after the other
pub data WritesCounties (over : Selection) (out : Writer) : List (List ℕ) → Writer → Type 0 where
  none : WritesCounties over out [] out
  more : {codes : List (List ℕ)} {between out' : Writer} (code : List ℕ) → WritesCounties over out codes between
      → WritesCounty over code between out' → WritesCounties over out (codes ++ code ∷ []) out'

-- the extracts of the counties before one of these codes were written, and the command stopped at that one, as `StopsSo` describes
pub record StopsAt (over : Selection) (codes : List (List ℕ)) (out : Writer) (StopsSo : List ℕ → Writer → Type 0) : Type 0 where
  pub before : List (List ℕ)
  pub code : List ℕ
  pub following : List (List ℕ)
  pub are_codes : codes ≡ before ++ code ∷ following
  pub between : Writer
  pub written : WritesCounties over out before between
  pub stops : StopsSo code between

-- a county's extract is refused with this refusal, or memory runs out before the county's files are open and nothing of it was written
abbrev pub IsCountyRefusal : Selection → List ℕ → RefusalParts → Writer → Writer → Type 0
IsCountyRefusal over code refusal out out' =
    ((fault : ExtractFault) × (refusal ≡ extract_fault.refusal fault) × IsCountyOutcome over code (Err fault) out out')
    ⊎ ((refusal ≡ memory) × (out' ≡ out))

-- how one county's extract ends: it is written, completely or until the output fails; or it is refused; or a file of the county can't be opened,
-- and nothing is written
abbrev pub SelectsCounty : Selection → List ℕ → Result (Unit {0}) Failure → Writer → Writer → Type 0
SelectsCounty over code (Ok done) out out' = WritesCounty over code out out'
SelectsCounty over code (Err (Write fault)) out out' = IsCountyOutcome over code (Err (extract.Write fault)) out out'
SelectsCounty over code (Err (County of refusal)) out out' = (of.now ≡ code) × IsCountyRefusal over code refusal out out'
SelectsCounty over code (Err (CountyFile of_folder of_code file error)) out out' = out' ≡ out
SelectsCounty over code (Err failure) out out' = ⊥

-- how the extracts of several counties end
abbrev pub SelectsCounties : Selection → List (List ℕ) → Result (Unit {0}) Failure → Writer → Writer → Type 0
SelectsCounties over codes (Ok done) out out' = WritesCounties over out codes out'
SelectsCounties over codes (Err (Write fault)) out out' =
    StopsAt over codes out (λ code between. IsCountyOutcome over code (Err (extract.Write fault)) between out')
SelectsCounties over codes (Err (County of refusal)) out out' =
    StopsAt over codes out (λ code between. (code ≡ of.now) × IsCountyRefusal over code refusal between out')
SelectsCounties over codes (Err (CountyFile of_folder of_code file error)) out out' =
    StopsAt over codes out (λ code between. out' ≡ between)
SelectsCounties over codes (Err failure) out out' = ⊥

-- how a layer of several counties ends: a write of its header fails, or the header is written and then the counties
abbrev pub SelectsLayer : Selection → List (List ℕ) → Result (Unit {0}) Failure → Writer → Writer → Type 0
SelectsLayer over codes (Ok done) out out' =
    (headed : Writer) × WritesHeader over.layer (Ok tt) out headed × SelectsCounties over codes (Ok tt) headed out'
SelectsLayer over codes (Err failure) out out' =
    ((fault : WriteFault) × (failure ≡ Write fault) × WritesHeader over.layer (Err fault) out out')
    ⊎ ((headed : Writer) × WritesHeader over.layer (Ok tt) out headed × SelectsCounties over codes (Err failure) headed out')

-- if the status of a refusal is 3, a read failed of the file that it is for; if a file can't be opened, an open of it failed
abbrev pub FailsAs : {R : Type 0} → OpenResults R → List ℕ → Failure → Disk → Disk → Type 0
FailsAs opens folder (County code refusal) disk disk' =
    refusal_status refusal ≡ 3 → FailsToRead (IsRefusedFile folder code.now refusal) disk disk'
FailsAs opens folder (CountyFile of_folder code file error) disk disk' =
    FailsToOpen (opens (file_name of_folder.now code.now file)) error disk disk'
FailsAs opens folder failure disk disk' = ⊤

-- the filter has a program, and its run over the requested counties is as `Selects` describes
abbrev pub SelectsSo : Select → (List ℕ → Option (List ℕ)) → (Selection → Type 0) → Type 0
SelectsSo select known Selects = (program : List Insn) × IsCodeOfText select.filter.now select.filter_options program
    × Selects (selection known select.«data».now (parts_of select.layer) program)

-- the header was written, and then the counties before one of the codes; the command stopped at that one, as `StopsSo` describes
abbrev pub StopsAfterHeader : Selection → List (List ℕ) → Writer → (List ℕ → Writer → Type 0) → Type 0
StopsAfterHeader over codes out StopsSo = (headed : Writer) × WritesHeader over.layer (Ok tt) out headed × StopsAt over codes headed StopsSo

-- the header and then the texts of the counties were written in order, completely or until the output failed
abbrev pub Writes : Select → (List ℕ → Option (List ℕ)) → Result (Unit {0}) WriteFault → Writer → Writer → Type 0
Writes select known (Ok done) out out' = (filter : Filter Global) × Spells select.filter_options.language select.filter.now filter × (headed : Writer)
    × WritesHeader (parts_of select.layer) (Ok tt) out headed × WritesAllTexts filter select known headed (codes_of select) out'
Writes select known (Err fault) out out' = SelectsSo select known (λ over. WritesHeader over.layer (Err fault) out out'
    ⊎ StopsAfterHeader over (codes_of select) out (λ code between. IsCountyOutcome over code (Err (extract.Write fault)) between out'))

-- the county of this code is refused with this refusal, after the header and the counties before it were written
abbrev pub IsRefusedAt : Select → (List ℕ → Option (List ℕ)) → List ℕ → RefusalParts → Writer → Writer → Type 0
IsRefusedAt select known code refusal out out' = SelectsSo select known
    (λ over. StopsAfterHeader over (codes_of select) out (λ of between. (of ≡ code) × IsCountyRefusal over of refusal between out'))

-- the header and the counties before one of them were written
abbrev pub WritesBefore : Select → (List ℕ → Option (List ℕ)) → Writer → Writer → Type 0
WritesBefore select known out out' =
    SelectsSo select known (λ over. StopsAfterHeader over (codes_of select) out (λ code between. out' ≡ between))
