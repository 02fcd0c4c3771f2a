-- A county's layer is written: what closing its readers then counts, and that nothing was flushed.
use Rattle.std.proofs.Common.{◌≡◌, ℕ, Bool, List, Option, Result, Ok, Err}
use Rattle.std.proofs.Common.{inl, inr, ap, sym, subst, ◌∙◌}
use Rattle.std.specs.Prelude.{⊤}
use Rattle.bpf_insn.specs.declared.instruction.Insn.{Insn}
use Rattle.bpf_meaning.specs.Extract.{TextFormat}
use Rattle.counted_io.specs.Counting.{CountsFault}
use Rattle.counted_io.specs.ReaderWriter.{WriteCounts, Writer}
use Rattle.counted_io.specs.declared.writing.WriteFault.{WriteFault}
use Rattle.extract.specs.ExtractFault as extract_fault
use Rattle.extract.specs.ExtractFault.{of_load}
use Rattle.extract.specs.Extracting as extracting
use Rattle.extract.specs.Extracting.{IsLoadRefusalIn, IsOutcomeOfCodeIn}
use Rattle.extract.specs.declared.fault.ExtractFault.{ExtractFault}
use Rattle.extract.specs.declared.fault.ExtractFault.TheVariants as extract
use Rattle.layers.specs.Layer.{LayerParts, Rows, Table, Features, WritesHeader, layer_format}
use Rattle.layers.specs.Writing.{IsHeadedOutcome, IsLayerOutcome, IsRefusedForShapes, after_header, in_header}
use Rattle.tl_segments.specs.County.{CountyReaders, SegmentReaders}
use Rattle.tl_segments.specs.LoadFault as load_fault
use Rattle.tl_segments.specs.Shape.{shape_parts}
use Rattle.tl_segments.specs.declared.fault.LoadFault.{LoadFault}
use Rattle.tl_segments.specs.declared.fault.LoadFault.TheVariants as load
use Rattle.named_files.specs.County.{ClosesCounty, ClosesSegments, HoldCounty, HoldSegments}
use Rattle.named_files.specs.Files.{KeepsCounts, ReadCounts}
use Rattle.commands.specs.Counties.{IsRefusedFile}
use Rattle.named_files.proofs.FileLemmas.{keeps_both}
use Rattle.commands.proofs.CarriedLemmas.{fault_unflushed}
use Rattle.commands.proofs.ReadLemmas.{ReadsAs, load_refusal, loads_closed, reads_then, segments_closed, shapes_closed, shapes_read, sound, sound_closed}

-- if the status is 3, a read failed of the file that the refusal is for, and otherwise all counts stay; they may do anything if a write failed
abbrev pub ClosesAs : List ℕ → List ℕ → Result ℕ ExtractFault → ReadCounts → ReadCounts → Type 0
ClosesAs folder code (Ok count) failed failed' = KeepsCounts failed failed'
ClosesAs folder code (Err (extract.Write fault)) failed failed' = ⊤
ClosesAs folder code (Err fault) failed failed' = ReadsAs (IsRefusedFile folder code) (extract_fault.refusal fault) failed failed'

module _ (folder code : List ℕ) where
  closes_then : (a b c : ReadCounts) (result : Result ℕ ExtractFault) → ClosesAs folder code result a b → KeepsCounts b c
      → ClosesAs folder code result a c
  closes_then a b c (Ok count) is same = keeps_both is same
  closes_then a b c (Err (extract.Write fault)) is same = tt
  closes_then a b c (Err (extract.Program fault)) is same = reads_then is same
  closes_then a b c (Err (extract.Load fault)) is same = reads_then is same
  closes_then a b c (Err extract.Memory) is same = reads_then is same

  load_closes : (a b : ReadCounts) (fault : LoadFault) → ReadsAs (IsRefusedFile folder code) (load_fault.refusal fault) a b
      → ClosesAs folder code (Err (of_load fault)) a b
  load_closes a b load.Memory is = is
  load_closes a b (load.Line file fault) is = is
  load_closes a b (load.TooManyNames line) is = is
  load_closes a b (load.TooManyRanges line) is = is
  load_closes a b (load.RepeatedSequence line) is = is
  load_closes a b (load.TooManyPoints line) is = is

-- the readers of the segments are closed after their extract
segments_close : {known : List ℕ → Option (List ℕ)} {folder code : List ℕ} {old new : SegmentReaders} {failed failed' : ReadCounts}
    → HoldSegments known folder code old → ClosesSegments folder code new failed failed' → (text_of : TextFormat) (program : List Insn)
    (result : Result ℕ ExtractFault) (out out' : Writer) → IsOutcomeOfCodeIn text_of program result old new out out'
    → ClosesAs folder code result failed failed'
segments_close hold closes text_of program (Ok count) out out' is = loads_closed hold closes is.segments is.loads
segments_close hold closes text_of program (Err (extract.Program fault)) out out' is = absurd is
segments_close {old = old} {new = new} hold closes text_of program (Err (extract.Load fault)) out out' is =
    segments_closed hold closes fault (load_refusal text_of fault program old new out out' is)
segments_close hold closes text_of program (Err (extract.Write fault)) out out' is = tt
segments_close hold closes text_of program (Err extract.Memory) out out' is =
    sound (λ three. let no : ⊥ = cc three in no) (sound_closed hold closes is.reads)

module _ {shapes : Bool} {known : List ℕ → Option (List ℕ)} {folder code : List ℕ} {old new : CountyReaders} {failed failed' : ReadCounts}
    (hold : HoldCounty shapes known folder code old) (closes : ClosesCounty folder code new failed failed') where
  -- the layer was written, or why it wasn't
  pub layer_closes : (layer : LayerParts) (program : List Insn) (result : Result ℕ ExtractFault) {out out' : Writer}
      → IsLayerOutcome layer program result old new out out' → ClosesAs folder code result failed failed'
  layer_closes layer program result (inl is) =
      subst (λ (result : Result ℕ ExtractFault). ClosesAs folder code result failed failed') (sym is.is_result)
      (load_closes folder code failed failed' is.fault (shapes_closed hold closes is.fault is.is_fault is.unread))
  layer_closes layer program result (inr is) =
      closes_then folder code failed closes.between failed' result
      (segments_close hold.segments closes.segments (layer_format layer (shape_parts is.rt2)) program result _ _ is.outcome)
      (shapes_read hold closes is.rt2 is.reads)

  pub headed_closes : (layer : LayerParts) (program : List Insn) (result : Result ℕ ExtractFault) {out out' : Writer}
      → IsHeadedOutcome layer program result old new out out' → ClosesAs folder code result failed failed'
  headed_closes layer program result (in_header fault is_result written unread) =
      subst (λ (result : Result ℕ ExtractFault). ClosesAs folder code result failed failed') (sym is_result) tt
  headed_closes layer program result (after_header headed header is) = layer_closes layer program result is

-- the result is that of a refusal for a county's file

abbrev pub IsOfLoad : Result ℕ ExtractFault → Type 0
IsOfLoad (Err (extract.Load fault)) = ⊤
IsOfLoad (Err extract.Memory) = ⊤
IsOfLoad result = ⊥

load_result : (fault : LoadFault) → IsOfLoad (Err (of_load fault))
load_result load.Memory = tt
load_result (load.Line file fault) = tt
load_result (load.TooManyNames line) = tt
load_result (load.TooManyRanges line) = tt
load_result (load.RepeatedSequence line) = tt
load_result (load.TooManyPoints line) = tt

pub shapes_result : {result : Result ℕ ExtractFault} (old new : CountyReaders) (out out' : Writer) → IsRefusedForShapes result old new out out'
    → IsOfLoad result
shapes_result old new out out' is = subst IsOfLoad (sym is.is_result) (load_result is.fault)

-- a failed write is counted as one

pub header_counts : (layer : LayerParts) (out out' : Writer) → WritesHeader layer (Ok tt) out out' → out'.counts ≡ out.counts
header_counts Rows out out' is = ap (λ (writer : Writer). writer.counts) is.1
header_counts (Table layout) out out' is = is.1
header_counts (Features layout) out out' is = ap (λ (writer : Writer). writer.counts) is.1

pub header_fault_counts : (layer : LayerParts) (fault : WriteFault) (out out' : Writer) → WritesHeader layer (Err fault) out out'
    → CountsFault fault out.counts out'.counts
header_fault_counts Rows fault out out' is = let bad = is.0 in absurd (let no : ⊥ = cc bad in no)
header_fault_counts (Table layout) fault out out' is = is.1
header_fault_counts (Features layout) fault out out' is = let bad = is.0 in absurd (let no : ⊥ = cc bad in no)

pub layer_fault_counts : (layer : LayerParts) (program : List Insn) (fault : WriteFault) (old new : CountyReaders) (out out' : Writer)
    → IsLayerOutcome layer program (Err (extract.Write fault)) old new out out' → CountsFault fault out.counts out'.counts
layer_fault_counts layer program fault old new out out' (inl is) = absurd (shapes_result old new out out' is)
layer_fault_counts layer program fault old new out out' (inr is) =
    subst (λ (counts : WriteCounts). CountsFault fault counts out'.counts) is.outcome.before.counts is.outcome.cut_short.5

abbrev of_write : WriteFault → Result ℕ ExtractFault
of_write fault = Err (extract.Write fault)

same_fault : {fault other : WriteFault} → of_write fault ≡ of_write other → other ≡ fault
same_fault is = cc is

pub headed_fault_counts : (layer : LayerParts) (program : List Insn) (fault : WriteFault) (old new : CountyReaders) (out out' : Writer)
    → IsHeadedOutcome layer program (Err (extract.Write fault)) old new out out' → CountsFault fault out.counts out'.counts
headed_fault_counts layer program fault old new out out' (in_header other is_result written unread) =
    header_fault_counts layer fault out out'
    (subst (λ (of : WriteFault). WritesHeader layer (Err of) out out') (same_fault is_result) written)
headed_fault_counts layer program fault old new out out' (after_header headed header is) =
    subst (λ (counts : WriteCounts). CountsFault fault counts out'.counts) (header_counts layer out headed header)
    (layer_fault_counts layer program fault old new headed out' is)

-- no flush was counted

pub flushes_as : {counts counts' : WriteCounts} → counts' ≡ counts → counts'.flushes ≡ counts.flushes
flushes_as = ap (λ (counts : WriteCounts). counts.flushes)

pub unwritten_flushes : {out out' : Writer} → out' ≡ out → out'.counts.flushes ≡ out.counts.flushes
unwritten_flushes = ap (λ (writer : Writer). writer.counts.flushes)

load_unflushed : (text_of : TextFormat) (of : LoadFault) (program : List Insn) (old new : SegmentReaders) (out out' : Writer)
    → IsLoadRefusalIn text_of program of old new out out' → out'.counts.flushes ≡ out.counts.flushes
load_unflushed text_of of program old new out out' (extracting.before_rt1 has joined rt1 unwritten) = unwritten_flushes unwritten
load_unflushed text_of of program old new out out' (extracting.in_rt1 joined lines line is reads first written) = flushes_as written.counts

segments_unflushed : (text_of : TextFormat) (program : List Insn) (result : Result ℕ ExtractFault) (old new : SegmentReaders) (out out' : Writer)
    → IsOutcomeOfCodeIn text_of program result old new out out' → out'.counts.flushes ≡ out.counts.flushes
segments_unflushed text_of program (Ok count) old new out out' is = flushes_as is.counts
segments_unflushed text_of program (Err (extract.Program fault)) old new out out' is = absurd is
segments_unflushed text_of program (Err (extract.Load fault)) old new out out' is =
    load_unflushed text_of fault program old new out out' is
segments_unflushed text_of program (Err (extract.Write fault)) old new out out' is =
    fault_unflushed fault is.between.counts out'.counts is.cut_short.5 ∙ flushes_as is.before.counts
segments_unflushed text_of program (Err extract.Memory) old new out out' is = flushes_as is.counts

pub layer_unflushed : (layer : LayerParts) (program : List Insn) (result : Result ℕ ExtractFault) (old new : CountyReaders) (out out' : Writer)
    → IsLayerOutcome layer program result old new out out' → out'.counts.flushes ≡ out.counts.flushes
layer_unflushed layer program result old new out out' (inl is) = unwritten_flushes is.unwritten
layer_unflushed layer program result old new out out' (inr is) =
    segments_unflushed (layer_format layer (shape_parts is.rt2)) program result old.segments new.segments out out' is.outcome

pub header_unflushed : (layer : LayerParts) (result : Result (Unit {0}) WriteFault) (out out' : Writer) → WritesHeader layer result out out'
    → out'.counts.flushes ≡ out.counts.flushes
header_unflushed Rows result out out' is = unwritten_flushes is.1
header_unflushed (Table layout) (Ok done) out out' is = flushes_as is.1
header_unflushed (Table layout) (Err fault) out out' is = fault_unflushed fault out.counts out'.counts is.1
header_unflushed (Features layout) result out out' is = unwritten_flushes is.1

pub headed_unflushed : (layer : LayerParts) (program : List Insn) (result : Result ℕ ExtractFault) (old new : CountyReaders) (out out' : Writer)
    → IsHeadedOutcome layer program result old new out out' → out'.counts.flushes ≡ out.counts.flushes
headed_unflushed layer program result old new out out' (in_header fault is_result written unread) =
    header_unflushed layer (Err fault) out out' written
headed_unflushed layer program result old new out out' (after_header headed header is) =
    layer_unflushed layer program result old new headed out' is ∙ header_unflushed layer (Ok tt) out headed header
