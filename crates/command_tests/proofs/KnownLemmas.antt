-- What a command writes for files whose bytes are known.
use Rattle.std.proofs.Common.{◌≡◌, ℕ, List, ◌++◌, Option, Some, None, IfSome, Ok, Err, inl, inr, subst, ◌∙◌}
use Rattle.std.specs.Io.KnownBytes.{Appends, Keeps}
use Rattle.bpf_insn.specs.declared.instruction.Insn.{Insn}
use Rattle.bpf_meaning.specs.Extract.{IsExtract}
use Rattle.bpf_program.specs.Program.{IsSafeProgram}
use Rattle.counted_io.specs.ReaderWriter.{WriteCounts, Writer}
use Rattle.extract.specs.ExtractFault.{of_load}
use Rattle.extract.specs.Extracting.{IsExtracted}
use Rattle.layers.specs.Layer.{LayerParts, Rows}
use Rattle.layers.specs.LayerParts.{parts_of}
use Rattle.layers.specs.Writing.{IsHeadedOutcome, after_header, in_header}
use Rattle.commands.specs.Command.{IsDone}
use Rattle.commands.specs.Verify.{acceptance}
use Rattle.commands.specs.declared.request.Request.TheVariants as request
use Rattle.commands.specs.declared.run.Run.{Run}
use Rattle.commands.specs.declared.verify.Verify.{Verify}
use Rattle.tl_records.specs.Lines.{AreLines}
use Rattle.tl_segments.specs.County.{CountyReaders}
use Rattle.tl_segments.specs.Segment.{SegmentParts}
use Rattle.tl_segments.specs.declared.fault.LoadFault.{LoadFault}
use Rattle.command_tests.specs.Known.{AppendsAcceptance, AppendsExtract}

-- a reader whose bytes are those of a file has the file's lines
lines_left : (bytes : List ℕ) (left : Option (List ℕ)) (lines : List (List ℕ)) → Keeps (Some bytes) left
    → IfSome left (λ bytes. AreLines bytes lines) → AreLines bytes lines
lines_left bytes None lines unchanged are = absurd unchanged
lines_left bytes (Some left) lines unchanged are = subst (λ (bytes : List ℕ). AreLines bytes lines) unchanged are

-- a text was appended to known bytes, which then stayed
appended : (old text : List ℕ) (between : Option (List ℕ)) (new : List ℕ) → Appends (Some old) between text → Keeps between (Some new)
    → new ≡ old ++ text
appended old text None new appends unchanged = absurd appends
appended old text (Some between) new appends unchanged = unchanged ∙ appends

-- rows have no header, and are those of the extract

not_refused : {count : ℕ} (fault : LoadFault) → Ok count ≡ Err (of_load fault) → ⊥
not_refused fault is = cc is

rows_written : (code : List Insn) (count : ℕ) (old new : CountyReaders) (out out' : Writer) → IsHeadedOutcome Rows code (Ok count) old new out out'
    → IsExtracted code count old.segments new.segments out out'
rows_written code count old new out out' (in_header fault is_result written unread) = absurd (let no : ⊥ = cc is_result in no)
rows_written code count old new out out' (after_header headed header (inl is)) = absurd (not_refused is.fault is.is_result)
rows_written code count old new out out' (after_header headed header (inr is)) =
    subst (λ (out : Writer). IsExtracted code count old.segments new.segments out out') header.1 is.outcome

module _ (bytes : List ℕ → List ℕ) {held held' : List ℕ} {counts counts' : WriteCounts} where
  pub verify_known : (verify : Verify)
      → IsDone (request.Verify verify) (λ name. Some (bytes name)) (record { held = Some held; counts = counts }) (record { held = Some held'; counts = counts' })
      → AppendsAcceptance (bytes verify.program.now) held held'
  verify_known verify is = record {
    code = is.written.code;
    safe = subst (λ (program : List ℕ). IsSafeProgram program is.written.code) is.written.is_program is.written.accepted;
    written = appended held acceptance is.unflushed.held held' is.written.written.0 is.flushed.unchanged;
  }

  pub run_known : (run : Run) → parts_of run.layer ≡ Rows
      → IsDone (request.Run run) (λ name. Some (bytes name)) (record { held = Some held; counts = counts }) (record { held = Some held'; counts = counts' })
      → AppendsExtract bytes run held held'
  run_known run rows is =
      let of = is.written.1 in
      let extracted = rows_written of.outcome.0 is.written.0 of.old of.new (record { held = Some held; counts = counts }) is.unflushed
      (subst (λ (layer : LayerParts). IsHeadedOutcome layer of.outcome.0 (Ok is.written.0) of.old of.new (record { held = Some held; counts = counts })
      is.unflushed) rows of.outcome.2) in
      let loads = extracted.loads in
      let segments = of.hold.county.segments in record {
        code = of.outcome.0;
        safe = subst (λ (program : List ℕ). IsSafeProgram program of.outcome.0) of.hold.is_program of.outcome.1;
        lines = loads.lines;
        rt1 = lines_left _ of.old.segments.rt1.left loads.lines segments.rt1.left loads.rt1.known;
        joined = loads.joined;
        rt4 = lines_left _ of.old.segments.joined.rt4.left loads.joined.rt4 segments.joined.rt4.left loads.reads_joined.rt4.known;
        rt5 = lines_left _ of.old.segments.joined.rt5.left loads.joined.rt5 segments.joined.rt5.left loads.reads_joined.rt5.known;
        rt6 = lines_left _ of.old.segments.joined.rt6.left loads.joined.rt6 segments.joined.rt6.left loads.reads_joined.rt6.known;
        text = extracted.text;
        rows = is.written.0;
        is_extract =
            subst (λ (segments : List SegmentParts). IsExtract of.outcome.0 segments extracted.text is.written.0) loads.are_segments
            extracted.is_extract;
        written = appended held extracted.text is.unflushed.held held' extracted.written is.flushed.unchanged;
      }
