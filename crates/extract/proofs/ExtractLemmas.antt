-- Extracting line by line: what has been read and written so far, and the outcome at each end.
use Rattle.std.proofs.Common.{◌≡◌, ◌≢◌, ℕ, ◌+◌, ◌≤◌, inl, inr, List, [], ◌∷◌, ◌++◌, Some, None, Ok, Err, refl, sym, ap, ◌∙◌}
use Rattle.std.proofs.Common.{subst, arith}
use Rattle.std.specs.Io.KnownBytes.{Appends}
use Rattle.std.specs.Prelude.{◌⊎◌, IsTrue, Option, Result}
use Rattle.std.specs.Option.{option_map_or}
use Rattle.counted_io.specs.ReaderWriter.{Reader, Writer}
use Rattle.counted_io.specs.declared.writing.WriteFault.{WriteFault}
use Rattle.counted_io.proofs.KnownBytesLemmas.{Appends-refl, Appends-append}
use Rattle.tl_records.specs.Lines.{LineParts}
use Rattle.bpf_insn.specs.declared.instruction.Insn.{Insn}
use Rattle.tl_segments.specs.Indexing.{IsIndexOf, IsSegmentRead}
use Rattle.tl_segments.specs.Joining.{JoinedLines, alternate_names, further_ranges, no_lines, number_in, segment_of, segments_of}
use Rattle.tl_segments.specs.Loading.{Readers, IsJoinedFault, in_rt4, in_rt5, in_rt6}
use Rattle.tl_segments.specs.Segment.{SegmentParts, line_of}
use Rattle.tl_segments.specs.declared.fault.CountyFile.TheVariants.{Rt1}
use Rattle.tl_segments.specs.declared.fault.LoadFault.{LoadFault}
use Rattle.tl_segments.specs.declared.fault.LoadFault.TheVariants as load_fault
use Rattle.tl_segments.specs.declared.index.Index.{Index}
use Rattle.tl_segments.proofs.JoiningLemmas.{segments_push}
use Rattle.tl_segments.proofs.ReadingLemmas.{IsReadSoFar, none_read, good_line_more, all_read, at_next_fault}
use Rattle.bpf_meaning.specs.Extract.{IsExtractIn, TextFormat, text_if_chosen}
use Rattle.bpf_meaning.specs.RecordAlone.{reads_record_alone}
use Rattle.bpf_meaning.proofs.ExtractLemmas.{extract_push}
use Rattle.bpf_meaning.proofs.RecordLemmas.{answers_alike}
use Rattle.extract.specs.ExtractFault.{of_load}
use Rattle.extract.specs.Formatting.{IsOfRecordAlone}
use Rattle.extract.specs.Extracting.{AreUnfailed, ExtractsAlike, HasWrittenIn, IsOutcomeIn, IsOutcomeOfCodeIn, ServesExtract, before_rt1, in_rt1}
use Rattle.bpf_program.specs.Program.{IsSafeProgram}
use Rattle.tl_segments.specs.County.{SegmentReaders}
use Rattle.extract.specs.Rows.{WritesIfChosen}
use Rattle.bpf_program.specs.declared.program.ProgramFault.{ProgramFault}
use Rattle.extract.specs.declared.fault.ExtractFault.{ExtractFault}
use Rattle.extract.specs.declared.fault.ExtractFault.TheVariants.{Program, Load, Write, Memory}
use Rattle.extract.proofs.RowLemmas.{chosen_count-le, extract_alike, text_alike}

-- The lines read so far are all good, and segments were made of them with what the index has. The complete extract of these segments was written:
-- this number of texts, at most one per line. Nothing failed.
pub record IsExtractedSoFar {A : Type 0} (text_of : TextFormat) (index : Index A) (code : List Insn) (count : ℕ) (line : LineParts)
    (rt1 rt1' : Reader) (out out' : Writer) : Type 0 where
  pub lines : List (List ℕ)
  pub read : IsReadSoFar Rt1 lines line rt1 rt1'
  pub segments : List SegmentParts
  pub made : (joined : JoinedLines) → IsIndexOf index joined → segments ≡ segments_of joined lines
  pub text : List ℕ
  pub is_extract : IsExtractIn text_of code segments text count
  pub few : count ≤ line.number
  pub written : Appends out.held out'.held text
  pub counts : out'.counts ≡ out.counts

pub nothing_so_far : {A : Type 0} (text_of : TextFormat) (index : Index A) (code : List Insn) (count : ℕ) (line : LineParts) (rt1 : Reader)
    (out : Writer) → count ≡ 0 → line.number ≡ 0 → IsExtractedSoFar text_of index code count line rt1 rt1 out out
nothing_so_far text_of index code count line rt1 out none zeroth = record {
  lines = [];
  read = none_read Rt1 line rt1 zeroth;
  segments = [];
  made = λ joined of_joined. refl;
  text = [];
  is_extract = (refl, none);
  few = omega (arith, none);
  written = Appends-refl out.held;
  counts = refl;
}

-- if code and format read the record alone, the answers and texts are the same on the segments of any lines as on those of no lines
pub alike_alone : (text_of : TextFormat) (code : List Insn) (joined : JoinedLines) → IsTrue (reads_record_alone code) → IsOfRecordAlone text_of
    → ExtractsAlike text_of code no_lines joined
alike_alone text_of code joined alone of_record = record {
  same = λ line answer score. answers_alike code (segment_of no_lines line) (segment_of joined line) answer score alone refl;
  text = λ line score. of_record score (segment_of no_lines line) (segment_of joined line) refl;
  more = λ line some. absurd (nothing_joined (number_in Rt1 line) some);
}
  where
    nothing_joined : (found : Option ℕ) → (option_map_or (alternate_names no_lines) found [] ≢ [])
        ⊎ (option_map_or (further_ranges no_lines) found [] ≢ []) → ⊥
    nothing_joined None (inl some) = some refl
    nothing_joined None (inr some) = some refl
    nothing_joined (Some tlid) (inl some) = some refl
    nothing_joined (Some tlid) (inr some) = some refl

pub alike_itself : (text_of : TextFormat) (code : List Insn) (joined : JoinedLines) → ExtractsAlike text_of code joined joined
alike_itself text_of code joined =
    record { same = λ line answer score answers. answers; text = λ line score. refl; more = λ line some. some }

-- if memory runs out for what is joined to type 1 lines, no read failed
joined_unfailed : (rt1 : Reader) (old new : Readers) → IsJoinedFault load_fault.Memory old new
    → AreUnfailed (record { rt1 = rt1; joined = old }) (record { rt1 = rt1; joined = new })
joined_unfailed rt1 old new (in_rt4 wants rt5 rt6) =
    record { rt1 = refl; rt4 = wants; rt5 = ap (λ (r : Reader). r.failed) rt5; rt6 = ap (λ (r : Reader). r.failed) rt6 }
joined_unfailed rt1 old new (in_rt5 rt4 wants rt6) =
    record { rt1 = refl; rt4 = rt4.1.reads; rt5 = wants; rt6 = ap (λ (r : Reader). r.failed) rt6 }
joined_unfailed rt1 old new (in_rt6 rt4 rt5 wants) =
    record { rt1 = refl; rt4 = rt4.1.reads; rt5 = rt5.1.reads; rt6 = wants }

-- a file that is joined to the type 1 file is refused
pub joined_outcome : (text_of : TextFormat) (code : List Insn) (fault : LoadFault) (rt1 : Reader) {old new : Readers} (out : Writer)
    → IsJoinedFault fault old new → IsOutcomeOfCodeIn text_of code (Err (of_load fault)) (record { rt1 = rt1; joined = old })
    (record { rt1 = rt1; joined = new }) out out
joined_outcome text_of code load_fault.Memory rt1 {old} {new} out is =
    record { written = inl (refl, refl); counts = refl; reads = joined_unfailed rt1 old new is }
joined_outcome text_of code fault rt1 out is = before_rt1 (λ e. cc) is refl refl

-- the outcome of a program is that of its code
pub program_outcome : (text_of : TextFormat) {program : List ℕ} {code : List Insn} (result : Result ℕ ExtractFault) (old new : SegmentReaders)
    (out out' : Writer) → IsSafeProgram program code → IsOutcomeOfCodeIn text_of code result old new out out'
    → IsOutcomeIn text_of program result old new out out'
program_outcome text_of {code = code} (Ok count) old new out out' safe is = (code, safe, is)
program_outcome text_of (Err (Program fault)) old new out out' safe is = absurd is
program_outcome text_of {code = code} (Err (Load fault)) old new out out' safe is = (code, safe, is)
program_outcome text_of {code = code} (Err (Write fault)) old new out out' safe is = (code, safe, is)
program_outcome text_of {code = code} (Err Memory) old new out out' safe is = inr (code, safe, is)

-- accepted code isn't refused
pub never_program : (text_of : TextFormat) (code : List Insn) (result : Result ℕ ExtractFault) (old new : SegmentReaders) (out out' : Writer)
    (fault : ProgramFault) → IsOutcomeOfCodeIn text_of code result old new out out' → result ≢ Err (Program fault)
never_program text_of code result old new out out' fault is = λ same.
    subst (λ (result : Result ℕ ExtractFault). IsOutcomeOfCodeIn text_of code result old new out out') same is

-- a format that stays the same writes the same text
pub writes_as : (now_of text_of : TextFormat) (code : List Insn) (segment : SegmentParts) (result : Result ℕ WriteFault) (out out' : Writer)
    → now_of ≡ text_of → WritesIfChosen now_of code segment result out out' → WritesIfChosen text_of code segment result out out'
writes_as now_of text_of code segment result out out' =
    subst (λ (text_of : TextFormat). WritesIfChosen text_of code segment result out out')

-- the next segment of a type 1 file was read from a reader, with this result
pub record ReadsNext {A : Type 0} (index : Index A) (line : LineParts) (now : Reader) (result : Result (Option (Unit {0})) LoadFault)
    : Type 0 where
  pub number : ℕ
  pub segment : SegmentParts
  pub after : Reader
  pub is : IsSegmentRead index line (record { number = number; segment = segment }) now after result

module _ {A : Type 0} {text_of : TextFormat} {index : Index A} {code : List Insn} {count : ℕ} {line : LineParts} {rt1 now : Reader}
    {out between : Writer} (so_far : IsExtractedSoFar text_of index code count line rt1 now out between) where
  -- one more segment, and its text if it is selected
  one_text_more : (next : ReadsNext index line now (Ok (Some tt))) (more : ℕ) (out' : Writer)
      → WritesIfChosen text_of code next.segment (Ok more) between out'
      → IsExtractedSoFar text_of index code (count + more) (line_of next.number next.segment) rt1 next.after out out'
  one_text_more next more out' (answer, score, answers, counted, appended, counts) =
      let segment = next.segment in
      record {
        lines = so_far.lines ++ segment.bytes ∷ [];
        read = good_line_more so_far.read (line_of next.number segment) next.after next.is.0;
        segments = so_far.segments ++ segment ∷ [];
        made = λ joined of_joined.
            ap (λ segments. segments ++ segment ∷ []) (so_far.made joined of_joined)
            ∙ ap (λ segment. segments_of joined so_far.lines ++ segment ∷ []) (next.is.1 joined of_joined)
            ∙ sym (segments_push joined so_far.lines segment.bytes);
        text = so_far.text ++ text_if_chosen text_of answer score segment;
        is_extract =
            subst (λ (n : ℕ). IsExtractIn text_of code (so_far.segments ++ segment ∷ [])
            (so_far.text ++ text_if_chosen text_of answer score segment) (count + n)) (sym counted)
            (extract_push text_of code so_far.segments segment so_far.text count answer score so_far.is_extract answers);
        few = omega (arith, so_far.few, next.is.0.0.2, counted, chosen_count-le answer);
        written = Appends-append out.held between.held out'.held so_far.text (text_if_chosen text_of answer score segment) so_far.written appended;
        counts = counts ∙ so_far.counts;
      }

  pub one_segment_more : (next : ReadsNext index line now (Ok (Some tt))) (more : ℕ) (out' : Writer) (now_of : TextFormat)
      → now_of ≡ text_of → WritesIfChosen now_of code next.segment (Ok more) between out'
      → IsExtractedSoFar text_of index code (count + more) (line_of next.number next.segment) rt1 next.after out out'
  one_segment_more next more out' now_of same written =
      one_text_more next more out' (writes_as now_of text_of code next.segment (Ok more) between out' same written)

  module _ {old new : Readers} (serves : ServesExtract text_of code index old new) where
    has_written : HasWrittenIn text_of code serves.joined so_far.lines out between
    has_written = record {
      text = so_far.text;
      count = count;
      is_extract =
          extract_alike text_of code serves.own serves.joined so_far.lines so_far.text count serves.alike
          (subst (λ (segments : List SegmentParts). IsExtractIn text_of code segments so_far.text count)
          (so_far.made serves.own serves.index_of) so_far.is_extract);
      written = so_far.written;
      counts = so_far.counts;
    }

    -- the file ended
    pub end_outcome : (next : ReadsNext index line now (Ok None))
        → IsOutcomeOfCodeIn text_of code (Ok count) (record { rt1 = rt1; joined = old }) (record { rt1 = next.after; joined = new }) out between
    unfolding has_written
    end_outcome next = record {
      segments = segments_of serves.joined so_far.lines;
      loads = record {
        joined = serves.joined;
        lines = so_far.lines;
        are_segments = refl;
        reads_joined = serves.reads;
        rt1 = all_read so_far.read (record { number = next.number; bytes = next.is.0.0 }) next.after next.is.0.1;
      };
      text = so_far.text;
      is_extract = has_written.is_extract;
      written = so_far.written;
      counts = so_far.counts;
    }

    -- the next segment can't be made
    pub fault_outcome : (fault : LoadFault) (next : ReadsNext index line now (Err fault))
        → IsOutcomeOfCodeIn text_of code (Err (of_load fault)) (record { rt1 = rt1; joined = old }) (record { rt1 = next.after; joined = new })
        out between
    fault_outcome (load_fault.Line file fault) next =
        in_rt1 serves.joined so_far.lines fault (ap (λ file. load_fault.Line file fault) next.is.0) serves.reads
        (at_next_fault so_far.read (record { number = next.number; bytes = next.is.1.0 }) next.after fault next.is.1.1) has_written
    fault_outcome (load_fault.TooManyNames number) next = absurd next.is
    fault_outcome (load_fault.TooManyRanges number) next = absurd next.is
    fault_outcome (load_fault.RepeatedSequence number) next = absurd next.is
    fault_outcome (load_fault.TooManyPoints number) next = absurd next.is
    fault_outcome load_fault.Memory next =
        let more = good_line_more so_far.read (line_of next.number next.segment) next.after next.is.0 in
        let joined = serves.reads in
        record {
          written = inr (record {
            joined = serves.joined;
            reads_joined = serves.reads;
            lines = so_far.lines;
            line = next.segment.bytes;
            reads = more.reads;
            more = serves.alike.more next.segment.bytes (next.is.1 serves.own serves.index_of);
            before = has_written;
          });
          counts = so_far.counts;
          reads = record { rt1 = more.reads.reads; rt4 = joined.rt4.reads; rt5 = joined.rt5.reads; rt6 = joined.rt6.reads };
        }

    -- a write fails
    pub write_outcome : (next : ReadsNext index line now (Ok (Some tt))) (fault : WriteFault) (out' : Writer) (now_of : TextFormat)
        → now_of ≡ text_of → WritesIfChosen now_of code next.segment (Err fault) between out'
        → IsOutcomeOfCodeIn text_of code (Err (Write fault)) (record { rt1 = rt1; joined = old }) (record { rt1 = next.after; joined = new })
        out out'
    unfolding has_written
    write_outcome next fault out' now_of same written = record {
      joined = serves.joined;
      reads_joined = serves.reads;
      lines = so_far.lines;
      line = next.segment.bytes;
      reads = (good_line_more so_far.read (line_of next.number next.segment) next.after next.is.0).reads;
      between = between;
      before = has_written;
      cut_short = text_alike next.segment.bytes fault between out' serves.alike
          (subst (λ (s : SegmentParts). WritesIfChosen text_of code s (Err fault) between out') (next.is.1 serves.own serves.index_of)
          (writes_as now_of text_of code next.segment (Err fault) between out' same written));
    }
