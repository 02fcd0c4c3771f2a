-- Segments in memory, written one after the other.
use Rattle.std.proofs.Common.{◌≡◌, ℕ, ◌+◌, ◌<◌, ◌≤◌, List, [], ◌∷◌, ◌++◌, length, take, slice_index_or, Ok, Err, refl, sym, ap, ◌∙◌, subst}
use Rattle.std.specs.Prelude.{drop}
use Rattle.std.proofs.lemmas.List.{drop_more, take-append-drop, take_all, take_more}
use Rattle.std.specs.Io.KnownBytes.{Appends}
use Rattle.bpf_insn.specs.declared.instruction.Insn.{Insn}
use Rattle.bpf_meaning.proofs.ExtractLemmas.{extract_push}
use Rattle.bpf_meaning.specs.Extract.{TextFormat, chosen_count, text_if_chosen}
use Rattle.counted_io.proofs.KnownBytesLemmas.{Appends-append, Appends-refl}
use Rattle.counted_io.specs.ReaderWriter.{Writer}
use Rattle.counted_io.specs.declared.writing.WriteFault.{WriteFault}
use Rattle.extract.proofs.ExtractLemmas.{writes_as}
use Rattle.extract.specs.Extracting.{StopsAtSegment, WritesSelected}
use Rattle.extract.specs.Rows.{WritesIfChosen}
use Rattle.tl_segments.specs.Segment.{SegmentParts}

pub none_written : (text_of : TextFormat) (code : List Insn) (out : Writer) → WritesSelected text_of code [] out out
none_written text_of code out =
    record { text = []; count = 0; is_extract = (refl, refl); written = Appends-refl out.held; counts = refl }

module _ {text_of now_of : TextFormat} {code : List Insn} (same : now_of ≡ text_of) (segments : List SegmentParts) (i : ℕ) (segment : SegmentParts)
    (inside : i < length segments) (is : segment ≡ slice_index_or segments i segment) {out between : Writer}
    (so_far : WritesSelected text_of code (take i segments) out between) where
  -- one more segment, which is written if the code selects it
  pub one_more : (count : ℕ) (out' : Writer) → WritesIfChosen now_of code segment (Ok count) between out'
      → WritesSelected text_of code (take (i + 1) segments) out out'
  one_more count out' written =
      let one = writes_as now_of text_of code segment (Ok count) between out' same written in
      let text = text_if_chosen text_of one.0 one.1 segment in
      subst (λ seen. WritesSelected text_of code seen out out')
      (sym (take_more segments i segment inside ∙ ap (λ found. take i segments ++ found ∷ []) (sym is)))
      (record {
        text = so_far.text ++ text;
        count = so_far.count + chosen_count one.0;
        is_extract = extract_push text_of code (take i segments) segment so_far.text so_far.count one.0 one.1 so_far.is_extract one.2;
        written = Appends-append out.held between.held out'.held so_far.text text so_far.written one.4;
        counts = one.5 ∙ so_far.counts;
      })

  -- a segment whose write fails
  pub stops_at : (fault : WriteFault) (out' : Writer) → WritesIfChosen now_of code segment (Err fault) between out'
      → StopsAtSegment text_of code segments fault out out'
  stops_at fault out' written = record {
    front = take i segments;
    segment = segment;
    back = drop (i + 1) segments;
    are_all = sym (take-append-drop i segments) ∙ ap (λ back. take i segments ++ back)
        (drop_more segments i segment inside ∙ ap (λ found. found ∷ drop (i + 1) segments) (sym is));
    between = between;
    before = so_far;
    cut_short = writes_as now_of text_of code segment (Err fault) between out' same written;
  }

pub all_written : {text_of : TextFormat} {code : List Insn} (segments : List SegmentParts) (i : ℕ) {out out' : Writer} → length segments ≤ i
    → WritesSelected text_of code (take i segments) out out' → WritesSelected text_of code segments out out'
all_written {text_of} {code} segments i {out} {out'} last so_far =
    subst (λ seen. WritesSelected text_of code seen out out') (take_all i segments last) so_far

-- what was written before a write failed, and of the text that it was for
pub stopped_appends : {text_of : TextFormat} {code : List Insn} {segments : List SegmentParts} {fault : WriteFault} (out out' : Writer)
    → StopsAtSegment text_of code segments fault out out' → (text : List ℕ) × Appends out.held out'.held text
stopped_appends {text_of} out out' stops =
    let cut = stops.cut_short.4 in
    let text = text_if_chosen text_of stops.cut_short.0 stops.cut_short.1 stops.segment in (
      stops.before.text ++ take cut.count text,
      Appends-append out.held stops.between.held out'.held stops.before.text (take cut.count text) stops.before.written cut.appends,
    )
