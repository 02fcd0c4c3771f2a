-- The layer of counties in memory, written county by county.
use Rattle.std.proofs.Common.{◌≡◌, ℕ, ◌+◌, ◌<◌, ◌≤◌, List, [], ◌∷◌, ◌++◌, length, take, slice_index_or, Some, Result, Ok, Err, OnOk, refl, sym, ap, subst, ◌∙◌}
use Rattle.std.proofs.Math.Path.{fun_ext}
use Rattle.std.proofs.lemmas.Grind.{flat_map-append}
use Rattle.std.proofs.lemmas.List.{append-nil, take_all, take_more}
use Rattle.std.specs.Io.KnownBytes.{Appends}
use Rattle.bpf_insn.specs.declared.instruction.Insn.{Insn}
use Rattle.bpf_meaning.proofs.ExtractLemmas.{extract_append}
use Rattle.bpf_meaning.specs.Extract.{TextFormat}
use Rattle.counted_io.proofs.KnownBytesLemmas.{Appends-append, Appends-refl}
use Rattle.counted_io.specs.ReaderWriter.{Writer}
use Rattle.counted_io.specs.declared.writing.WriteFault.{WriteFault}
use Rattle.extract.specs.Extracting.{WritesSelected}
use Rattle.layers.specs.Counties.{IsLayerOf, WritesLayer, header_of, segments_of}
use Rattle.layers.specs.Layer.{LayerParts, Rows, Table, Features, WritesHeader, layer_format}
use Rattle.tl_segments.proofs.ShapeTableLemmas.{no_parts}
use Rattle.tl_segments.specs.County.{CountyParts}
use Rattle.tl_segments.specs.Segment.{SegmentParts}
use Rattle.tl_segments.specs.Shape.{ShapeTable}

pub no_county : (text_of : TextFormat) (code : List Insn) (out : Writer) → WritesSelected text_of code [] out out
no_county text_of code out = record { text = []; count = 0; is_extract = (refl, refl); written = Appends-refl out.held; counts = refl }

-- the segments of one more county
pub segments_more : (counties : List CountyParts) (i : ℕ) (county : CountyParts) → i < length counties → county ≡ slice_index_or counties i county
    → segments_of (take (i + 1) counties) ≡ segments_of (take i counties) ++ county.segments
segments_more counties i county inside is =
    ap (λ counties. segments_of counties) (take_more counties i county inside ∙ ap (λ found. take i counties ++ found ∷ []) (sym is))
    ∙ flat_map-append (λ (county : CountyParts). county.segments) (take i counties) (county ∷ [])
    ∙ ap (λ (back : List SegmentParts). segments_of (take i counties) ++ back) (append-nil county.segments)

-- more segments, written in the same format
pub selected_more : {text_of now_of : TextFormat} {code : List Insn} {all front back : List SegmentParts} {out between out' : Writer}
    → now_of ≡ text_of → all ≡ front ++ back → WritesSelected text_of code front out between → WritesSelected now_of code back between out'
    → WritesSelected text_of code all out out'
selected_more {text_of} {code = code} {front = front} {back} same all_is so_far written =
    let more = rw same at written in
    rw all_is
    (record {
      text = so_far.text ++ more.text;
      count = so_far.count + more.count;
      is_extract = extract_append text_of code front back so_far.text more.text so_far.count more.count so_far.is_extract more.is_extract;
      written = Appends-append _ _ _ so_far.text more.text so_far.written more.written;
      counts = more.counts ∙ so_far.counts;
    })

pub all_counties : {text_of : TextFormat} {code : List Insn} (counties : List CountyParts) (i : ℕ) {out out' : Writer} → length counties ≤ i
    → WritesSelected text_of code (segments_of (take i counties)) out out' → WritesSelected text_of code (segments_of counties) out out'
all_counties {text_of} {code} counties i {out} {out'} last so_far =
    subst (λ seen. WritesSelected text_of code (segments_of seen) out out') (take_all i counties last) so_far

header_written : (layer : LayerParts) (out out' : Writer) → WritesHeader layer (Ok tt) out out' → Appends out.held out'.held (header_of layer)
header_written Rows out out' (done, same) = subst (λ (out' : Writer). Appends out.held out'.held []) (sym same) (Appends-refl out.held)
header_written (Table layout) out out' wrote = wrote.0
header_written (Features layout) out out' (done, same) = subst (λ (out' : Writer). Appends out.held out'.held []) (sym same) (Appends-refl out.held)

module _ (layer : LayerParts) (code : List Insn) (counties : List CountyParts) where
  -- a layer without shapes is straight, and if no write failed, its segments follow its header
  pub layer_written : {text_of : TextFormat} (shapes : ShapeTable) (result : Result (Unit {0}) WriteFault) (out headed out' : Writer)
      → (text_of ≡ layer_format layer shapes) × ((tlid : ℕ) → shapes tlid ≡ []) → WritesHeader layer (Ok tt) out headed
      → OnOk result (WritesSelected text_of code (segments_of counties) headed out') → OnOk result (WritesLayer layer code counties out out')
  layer_written shapes (Ok done) out headed out' (is, none) header written = record {
    headed = headed;
    header = header_written layer out headed header;
    selected = subst (λ text_of. WritesSelected text_of code (segments_of counties) headed out')
        (is ∙ ap (layer_format layer) (fun_ext (λ (tlid : ℕ). none tlid ∙ sym (no_parts tlid)))) written;
  }
  layer_written shapes (Err fault) out headed out' straight header written = tt

-- the layer in memory
pub layer_made : (layer : LayerParts) (code : List Insn) (counties : List CountyParts) (out out' : Writer) (text : List ℕ)
    → WritesLayer layer code counties out out' → out.held ≡ Some [] → out'.held ≡ Some text → IsLayerOf layer code counties text
layer_made layer code counties out out' text wrote held held' = record {
  texts = wrote.selected.text;
  count = wrote.selected.count;
  is_extract = wrote.selected.is_extract;
  is_text =
      subst (λ new. Appends (Some []) new (header_of layer ++ wrote.selected.text)) held'
      (subst (λ old. Appends old out'.held (header_of layer ++ wrote.selected.text)) held
      (Appends-append out.held wrote.headed.held out'.held (header_of layer) wrote.selected.text wrote.header wrote.selected.written));
}
