-- How `select` is carried out: the filter first, and then the header and the counties.
use Rattle.std.proofs.Common.{◌≡◌, ◌≢◌, ◌<◌, ◌+◌, ℕ, suc, List, length, get_or, take, drop, Option, Bor, Result, Ok, Err, IfErr}
use Rattle.std.proofs.Common.{inl, inr, refl, sym, subst, ◌∙◌}
use Rattle.std.proofs.Math.Path.{fun_ext}
use Rattle.std.proofs.lemmas.List.{map_more}
use Rattle.std.specs.Io.KnownBytes.{Appends}
use Rattle.std.specs.Prelude.{⊤}
use Rattle.bpf_insn.specs.declared.instruction.Insn.{Insn}
use Rattle.cql2.specs.declared.filter.Filter.{Filter as AFilter}
use Rattle.cql2_code.proofs.Compiled.{extract_of_segments}
use Rattle.cql2_code.specs.Chosen.{Chooses}
use Rattle.extract.specs.ExtractFault.{of_load}
use Rattle.extract.specs.declared.fault.ExtractFault.{ExtractFault}
use Rattle.extract.specs.declared.fault.ExtractFault.TheVariants as extract
use Rattle.filters.specs.Filter.{IsCodeOfText}
use Rattle.filters.specs.declared.failure.FilterFailure.{FilterFailure}
use Rattle.counted_io.specs.ReaderWriter.{Writer}
use Rattle.counted_io.specs.declared.writing.WriteFault.{WriteFault}
use Rattle.layers.specs.Layer.{LayerParts, WritesHeader, has_shapes, layer_format}
use Rattle.layers.specs.LayerParts.{parts_of}
use Rattle.layers.specs.Writing.{IsLayerOutcome}
use Rattle.tl_segments.specs.County.{CountyReaders}
use Rattle.tl_segments.specs.Shape.{shape_parts}
use Rattle.tl_segments.specs.declared.fault.LoadFault.{LoadFault}
use Rattle.named_files.specs.County.{HoldCounty, IsFileOfCounty}
use Rattle.named_files.specs.Files.{Disk, IsUnfailed, OpenResults}
use Rattle.commands.specs.Command.{CarriesOut, IsCarriedOut, IsFilterRefused}
use Rattle.commands.specs.Counties.{IsFileOfOne}
use Rattle.commands.specs.Failure.{NamesFile, IsUnfailedUnlessUnusable, of_county_extract, status}
use Rattle.commands.specs.Select.{FailsAs, IsCountyOutcome, IsCountyRefusal, IsFileOf, Selection, SelectsCounties, SelectsCounty, SelectsLayer, StopsAt}
use Rattle.commands.specs.Select as select
use Rattle.commands.specs.Select.{WritesAllTexts, WritesCounties, WritesCounty, WritesTexts, codes_of, more, none, selection}
use Rattle.commands.specs.declared.request.Request.{Request}
use Rattle.commands.specs.declared.request.Request.TheVariants as request
use Rattle.commands.specs.declared.select.Select.{Select}
use Rattle.commands.specs.declared.failure.Failure.{Failure}
use Rattle.commands.specs.declared.failure.Failure.TheVariants.{Write, CountyFile, Filter, County}
use Rattle.commands.proofs.CountiesLemmas.{codes_at, read_after, texts}
use Rattle.commands.proofs.LayerLemmas.{ClosesAs}

-- a refusal for the file of type 2 is no success
not_refused : {count : ℕ} (fault : LoadFault) → Ok count ≡ Err (of_load fault) → ⊥
not_refused fault is = cc is

-- written counties count no fault and no flush

county_counts : (layer : LayerParts) (program : List Insn) {count : ℕ} {old new : CountyReaders} {out out' : Writer}
    → IsLayerOutcome layer program (Ok count) old new out out' → out'.counts ≡ out.counts
county_counts layer program (inl is) = absurd (not_refused is.fault is.is_result)
county_counts layer program (inr is) = is.outcome.counts

pub counties_counts : {over : Selection} {out : Writer} {codes : List (List ℕ)} {out' : Writer} → WritesCounties over out codes out'
    → out'.counts ≡ out.counts
counties_counts none = refl
counties_counts {over} (more code before wrote) = county_counts over.layer over.program wrote.1.outcome ∙ counties_counts before

-- what was written is the texts of the segments for which the filter is true
module _ {A : Type 0} (filter : AFilter A) (arguments : Select) (known : List ℕ → Option (List ℕ)) (program : List Insn)
    (chooses : Chooses program filter arguments.filter_options.score) where
  texts_written : {code : List ℕ} {out out' : Writer} (old new : CountyReaders)
      → HoldCounty (has_shapes (parts_of arguments.layer)) known arguments.«data».now code old → {count : ℕ}
      → IsLayerOutcome (parts_of arguments.layer) program (Ok count) old new out out' → WritesTexts filter arguments known code out out'
  texts_written old new hold (inl is) = absurd (not_refused is.fault is.is_result)
  texts_written {out = out} {out' = out'} old new hold {count} (inr wrote) = let is = wrote.outcome in record {
    old = old;
    hold = hold;
    new = new;
    segments = is.segments;
    loads = is.loads;
    rt2 = wrote.rt2;
    reads = wrote.reads;
    written = subst (λ (text : List ℕ). Appends out.held out'.held text)
        (extract_of_segments (layer_format (parts_of arguments.layer) (shape_parts wrote.rt2)) program filter arguments.filter_options.score chooses
        is.segments old.segments new.segments is.loads is.text count is.is_extract).text_is
        is.written;
    counts = is.counts;
  }

  pub all_texts_written : {out : Writer} {codes : List (List ℕ)} {out' : Writer}
      → WritesCounties (selection known arguments.«data».now (parts_of arguments.layer) program) out codes out'
      → WritesAllTexts filter arguments known out codes out'
  all_texts_written none = select.none
  all_texts_written (more code before wrote) =
      select.more code (all_texts_written before) (texts_written wrote.1.old wrote.1.new wrote.1.hold wrote.1.outcome)

-- after the counties of the codes before it
module _ (known later : List ℕ → Option (List ℕ)) (same : (name : List ℕ) → later name ≡ known name) {folder : List ℕ}
    {layer : LayerParts} {program : List Insn} (codes : List (Bor (List ℕ))) (i : ℕ) (d : Bor (List ℕ)) (inside : i < length codes) {out between : Writer}
    (so_far : WritesCounties (selection known folder layer program) out (texts (take i codes)) between) where
  earlier : (IsSo : Selection → Type 0) → IsSo (selection later folder layer program) → IsSo (selection known folder layer program)
  earlier IsSo = subst (λ (known : List ℕ → Option (List ℕ)). IsSo (selection known folder layer program)) (fun_ext same)

  -- the county of one more code
  pub written_more : {out' : Writer} → WritesCounty (selection later folder layer program) (get_or codes i d).now between out'
      → WritesCounties (selection known folder layer program) out (texts (take (i + 1) codes)) out'
  written_more {out'} wrote =
      subst (λ (codes : List (List ℕ)). WritesCounties (selection known folder layer program) out codes out')
      (sym (map_more (λ (code : Bor (List ℕ)). code.now) codes i d inside))
      (more (get_or codes i d).now so_far (earlier (λ over. WritesCounty over (get_or codes i d).now between out') wrote))

  -- the command stops at that code
  stopped_after : {StopsSo : List ℕ → Writer → Type 0} → StopsSo (get_or codes i d).now between
      → StopsAt (selection known folder layer program) (texts codes) out StopsSo
  stopped_after is = record {
    before = texts (take i codes);
    code = (get_or codes i d).now;
    following = texts (drop (suc i) codes);
    are_codes = codes_at codes i d inside;
    between = between;
    written = so_far;
    stops = is;
  }

  pub counties_stopped : (out' : Writer) (failure : Failure)
      → SelectsCounty (selection later folder layer program) (get_or codes i d).now (Err failure) between out'
      → SelectsCounties (selection known folder layer program) (texts codes) (Err failure) out out'
  counties_stopped out' (Write fault) is =
      stopped_after (earlier (λ over. IsCountyOutcome over (get_or codes i d).now (Err (extract.Write fault)) between out') is)
  counties_stopped out' (County code refusal) is =
      stopped_after (sym is.0, earlier (λ over. IsCountyRefusal over (get_or codes i d).now refusal between out') is.1)
  counties_stopped out' (CountyFile of_folder code file error) is = stopped_after is
  counties_stopped out' failure is = absurd is

-- the same failure, counted from an earlier point since which no open and no read failed
pub fails_after : {R : Type 0} (opens : OpenResults R) (folder : List ℕ) (failure : Failure) (disk later disk' : Disk) → IsUnfailed disk later
    → FailsAs opens folder failure later disk' → FailsAs opens folder failure disk disk'
fails_after opens folder (County code refusal) disk later disk' unfailed is =
    λ three. read_after disk later disk' unfailed (λ _ is. is) (is three)
fails_after opens folder (CountyFile of_folder code file error) disk later disk' unfailed is =
    (is.0, λ as_before. is.1 (as_before ∙ sym unfailed.opens))
fails_after opens folder failure disk later disk' unfailed is = tt

-- a filter has no program
pub filter_carried : {R : Type 0} {opens : OpenResults R} {request : Request} {disk disk' : Disk} {out : Writer} (failure : FilterFailure)
    → IsFilterRefused request disk.known failure → IsUnfailed disk disk' → CarriesOut opens request (Err (Filter failure)) disk disk' out out
filter_carried failure is counts = record { outcome = (is, refl); names = tt; counts = λ other. counts; unflushed = refl }

same_write : {fault other : WriteFault} → Write fault ≡ Write other → other ≡ fault
same_write is = cc is

-- only a failed write is reported as one

abbrev IsWrite : Failure → Type 0
IsWrite (Write fault) = ⊤
IsWrite failure = ⊥

is_write : (failure : Failure) (fault : WriteFault) → failure ≡ Write fault → IsWrite failure
is_write failure fault is = subst IsWrite (sym is) tt

-- what closing the readers of a county counts if its layer isn't written completely
pub stopped_counts : (disk disk' : Disk) (folder : List ℕ) (code : Bor (List ℕ)) (fault : ExtractFault)
    → ClosesAs folder code.now (Err fault) disk.failed_reads disk'.failed_reads → disk'.failed_opens ≡ disk.failed_opens
    → status (of_county_extract code fault) ≢ 3 → IsUnfailed disk disk'
stopped_counts disk disk' folder code (extract.Write fault) closes same other = absurd (other refl)
stopped_counts disk disk' folder code (extract.Program fault) closes same other = record { opens = same; reads = closes.stays other }
stopped_counts disk disk' folder code (extract.Load fault) closes same other = record { opens = same; reads = closes.stays other }
stopped_counts disk disk' folder code extract.Memory closes same other = record { opens = same; reads = closes.stays other }

-- if it is refused, a read failed of the file that the refusal is for
pub stopped_fails : {R : Type 0} (opens : OpenResults R) (disk disk' : Disk) (folder : List ℕ) (code : Bor (List ℕ)) (fault : ExtractFault)
    → ClosesAs folder code.now (Err fault) disk.failed_reads disk'.failed_reads → FailsAs opens folder (of_county_extract code fault) disk disk'
stopped_fails opens disk disk' folder code (extract.Write fault) closes = tt
stopped_fails opens disk disk' folder code (extract.Program fault) closes = closes.fails
stopped_fails opens disk disk' folder code (extract.Load fault) closes = closes.fails
stopped_fails opens disk disk' folder code extract.Memory closes = closes.fails

-- the layer of its program
module _ {R : Type 0} (opens : OpenResults R) (disk disk' : Disk) (out out' : Writer) (arguments : Select) {program : List Insn}
    (is_program : IsCodeOfText arguments.filter.now arguments.filter_options program) where
  outcome_carried : (failure : Failure) → SelectsLayer (selection disk.known arguments.«data».now (parts_of arguments.layer) program)
      (codes_of arguments) (Err failure) out out' → FailsAs opens arguments.«data».now failure disk disk'
      → IsCarriedOut opens (request.Select arguments) (Err failure) disk disk' out out'
  outcome_carried (Write fault) (inl is) fails = (
    program,
    is_program,
    inl (subst (λ (of : WriteFault). WritesHeader (parts_of arguments.layer) (Err of) out out') (same_write is.1) is.2),
  )
  outcome_carried (Write fault) (inr is) fails = (program, is_program, inr is)
  outcome_carried (County code refusal) (inl is) fails = absurd (is_write (County code refusal) is.0 is.1)
  outcome_carried (County code refusal) (inr is) fails = ((program, is_program, is), fails)
  outcome_carried (CountyFile folder code file error) (inl is) fails = absurd (is_write (CountyFile folder code file error) is.0 is.1)
  outcome_carried (CountyFile folder code file error) (inr is) fails = ((program, is_program, is), fails)
  outcome_carried failure (inl is) fails = absurd (is_write failure is.0 is.1)
  outcome_carried failure (inr is) fails = absurd is.2

  pub select_carried : (result : Result (Unit {0}) Failure)
      → SelectsLayer (selection disk.known arguments.«data».now (parts_of arguments.layer) program) (codes_of arguments) result out out'
      → IfErr result (λ failure. FailsAs opens arguments.«data».now failure disk disk') → IfErr result (NamesFile (IsFileOf arguments))
      → IsUnfailedUnlessUnusable result disk disk' → out'.counts.flushes ≡ out.counts.flushes
      → CarriesOut opens (request.Select arguments) result disk disk' out out'
  select_carried (Ok done) is fails names counts unflushed = record {
    outcome = (
      is_program.filter,
      is_program.is_text,
      is.0,
      is.1,
      all_texts_written is_program.filter arguments disk.known program is_program.chooses is.2,
    );
    names = names;
    counts = counts;
    unflushed = unflushed;
  }
  select_carried (Err failure) is fails names counts unflushed =
      record { outcome = outcome_carried failure is fails; names = names; counts = counts; unflushed = unflushed }

-- the same for the call's arguments: the text and the codes are borrowed
module _ {R : Type 0} (opens : OpenResults R) (disk disk' : Disk) (out out' : Writer) (arguments : Select) {text : List ℕ} {program : List Insn}
    {codes : List (Bor (List ℕ))} where
  pub select_lent : (result : Result (Unit {0}) Failure) → text ≡ arguments.filter.now → codes ≡ arguments.codes.items
      → IsCodeOfText text arguments.filter_options program
      → SelectsLayer (selection disk.known arguments.«data».now (parts_of arguments.layer) program) (texts codes) result out out'
      → IfErr result (λ failure. FailsAs opens arguments.«data».now failure disk disk')
      → IfErr result (NamesFile (IsFileOfOne (IsFileOfCounty (has_shapes (parts_of arguments.layer)) arguments.«data».now) (texts codes)))
      → IsUnfailedUnlessUnusable result disk disk' → out'.counts.flushes ≡ out.counts.flushes
      → CarriesOut opens (request.Select arguments) result disk disk' out out'
  select_lent result same_text same_codes is selects fails names =
      select_carried opens disk disk' out out' arguments (subst (λ (text : List ℕ). IsCodeOfText text arguments.filter_options program) same_text is) result
      (subst (λ (codes : List (Bor (List ℕ))).
      SelectsLayer (selection disk.known arguments.«data».now (parts_of arguments.layer) program) (texts codes) result out out') same_codes selects)
      fails
      (subst (λ (codes : List (Bor (List ℕ))). IfErr result (NamesFile
      (IsFileOfOne (IsFileOfCounty (has_shapes (parts_of arguments.layer)) arguments.«data».now) (texts codes)))) same_codes names)
