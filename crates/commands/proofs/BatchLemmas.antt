-- How `geocode-batch` is carried out: the addresses read so far, and the output written for them.
use Rattle.std.proofs.Common.{◌≡◌, ◌≢◌, ℕ, List, [], ◌∷◌, ◌++◌, length, Option, Some, None, Bor, Result, Ok, Err, IfErr, refl, ap, sym, subst}
use Rattle.std.proofs.Common.{append_assoc, arith, inl, inr, ◌∙◌}
use Rattle.std.proofs.Math.Path.{fun_ext}
use Rattle.std.proofs.Math.Seq.{take-append_seam}
use Rattle.std.proofs.lemmas.List.{append-nil}
use Rattle.std.proofs.lemmas.List.Folds.{concat-append}
use Rattle.std.proofs.lemmas.Slice.Zip.{all_zipped_more}
use Rattle.std.specs.List.{concat}
use Rattle.addresses.specs.Address.{AddressParts}
use Rattle.addresses.specs.AddressFault as address_fault
use Rattle.addresses.specs.Listing.{IsAddressRead, IsHeaderRead, Listing, addresses_in, ended, ended_by, with_addresses}
use Rattle.addresses.specs.declared.fault.AddressFault.{AddressFault}
use Rattle.addresses.specs.declared.fault.AddressFault.TheVariants.{NoHeader, At, Memory}
use Rattle.addresses.proofs.ListingLaws.{all_read_lem, one_more_lem}
use Rattle.address_batch.specs.Batch.{BatchParts}
use Rattle.address_batch.specs.Lines.{header}
use Rattle.refusals.specs.Refusal.{RefusalParts, memory}
use Rattle.counted_io.specs.ReaderWriter.{WriteCounts, Writer}
use Rattle.counted_io.specs.Writing.{WritesText}
use Rattle.tl_segments.specs.County.{CountyParts}
use Rattle.commands.specs.Command.{CarriesOut}
use Rattle.commands.specs.Counties.{AreCountiesOf, HaveRefusedCounty, IsFileOfCounties, IsLoadFailure, IsRefusedFileOfOne}
use Rattle.commands.specs.Failure.{IsOfAddresses, NamesFile, IsUnfailedUnlessUnusable, WritesAs, refusal_status, status}
use Rattle.named_files.specs.County.{file_name}
use Rattle.named_files.specs.Files.{Disk, IsUnfailed, OpenResults}
use Rattle.commands.specs.GeocodeBatch.{AreAddressesOf, AreLinesIn, AreLinesOf, Inputs, IsAddressesFault, IsFaultOf, IsFileOf, IsOutput, IsOutputOfFirst}
use Rattle.commands.specs.GeocodeBatch.{IsRefused, WritesBatch, WritesUnlessMemory, codes_of, fault_of, of_county, of_memory}
use Rattle.commands.specs.declared.failure.Failure.{Failure}
use Rattle.commands.specs.declared.failure.Failure.TheVariants as failure
use Rattle.commands.specs.declared.geocode_batch.GeocodeBatch.{GeocodeBatch}
use Rattle.commands.specs.declared.request.Request.TheVariants as request
use Rattle.commands.proofs.ClassLemmas.{address_status}
use Rattle.commands.proofs.CarriedLemmas.{fault_unflushed, refused_carried, refusal_not_usage}
use Rattle.commands.proofs.CountiesLemmas.{read_after, texts}
use Rattle.named_files.proofs.FileLemmas.{unfailed_both}
use Rattle.reports.proofs.PieceLemmas.{stopped_further, written_further}
use Rattle.commands.proofs.ReadLemmas.{sound}

-- these addresses of a file were read, and this listing remains
abbrev pub IsReadTo : List ℕ → List AddressParts → Listing → Type 0
IsReadTo file rows left = addresses_in file ≡ Ok (with_addresses rows left)

listing_in : Result Listing AddressFault → Listing
listing_in (Ok listing) = listing
listing_in (Err fault) = ended

module _ (file : List ℕ) (rows : List AddressParts) (left : Listing) (read : IsReadTo file rows left) where
  pub read_further : (address : AddressParts) (new : Listing) → left ≡ with_addresses (address ∷ []) new
      → IsReadTo file (rows ++ address ∷ []) new
  read_further address new next = read ∙ ap Ok (one_more_lem rows address (with_addresses rows left) left new refl next)

  pub read_all : left ≡ ended → AreAddressesOf file rows
  read_all end = read ∙ ap Ok (all_read_lem rows (with_addresses rows left) (ap (with_addresses rows) end))

  pub read_until : (fault : AddressFault) → left ≡ ended_by fault → IsFaultOf file fault
  read_until fault end = ap fault_of (read ∙ ap (λ left. Ok (with_addresses rows left)) end)

  pub rows_first : (addresses : List AddressParts) → AreAddressesOf file addresses → addresses ≡ rows ++ left.addresses
  unfolding listing_in
  rows_first addresses are = ap (λ held. (listing_in held).addresses) (sym are ∙ read)

  pub none_faulty : (addresses : List AddressParts) (fault : AddressFault) → AreAddressesOf file addresses → left ≢ ended_by fault
  none_faulty addresses fault are end =
      let same : fault_of (Ok (record { addresses = addresses; fault = None })) ≡ Some fault = ap fault_of (sym are) ∙ read_until fault end in
      grind (arith, same)

-- a file whose header is read has no fault of its header
is_listing : {held : Result Listing AddressFault} {left : Listing} → held ≡ Ok left → (fault : AddressFault) → held ≢ Err fault
is_listing are fault is = grind (arith, are, is)

-- these addresses of a file were read, this listing remains, and the output for the addresses read was written
pub record IsWrittenTo (AreLines : AddressParts → List ℕ → Type 0) (file : List ℕ) (left : Listing) (out out' : Writer) : Type 0 where
  pub rows : List AddressParts
  pub read : IsReadTo file rows left
  pub text : List ℕ
  pub is_text : IsOutput AreLines rows text
  pub written : WritesText text (Ok tt) out out'

module _ (AreLines : AddressParts → List ℕ → Type 0) where
  -- the output for no address is the header
  header_alone : IsOutput AreLines [] header
  header_alone = record { lines = []; are_lines = tt; is_text = sym (append-nil header) }

  -- the output for the first addresses of more
  first_output : (rows later : List AddressParts) (text : List ℕ) → IsOutput AreLines rows text → IsOutputOfFirst AreLines (rows ++ later) text
  first_output rows later text is = (length rows, subst (λ rows. IsOutput AreLines rows text) (sym (take-append_seam rows later)) is)

  -- the output with the lines of one more address
  output_more : (rows : List AddressParts) (address : AddressParts) (text lines : List ℕ) → IsOutput AreLines rows text → AreLines address lines
      → IsOutput AreLines (rows ++ address ∷ []) (text ++ lines)
  output_more rows address text lines is are = record {
    lines = is.lines ++ lines ∷ [];
    are_lines = all_zipped_more AreLines rows is.lines address lines is.are_lines are;
    is_text = ap (λ text. text ++ lines) is.is_text ∙ append_assoc header (concat is.lines) lines
        ∙ ap (λ all. header ++ all) (ap (λ last. concat is.lines ++ last) (sym (append-nil lines)) ∙ sym (concat-append is.lines (lines ∷ [])));
  }

  -- the header is written
  pub header_written : (file : List ℕ) (left : Listing) (a b : Writer) → addresses_in file ≡ Ok left → WritesText header (Ok tt) a b
      → IsWrittenTo AreLines file left a b
  header_written file left a b held written = record { rows = []; read = held; text = header; is_text = header_alone; written = written }

  -- the header isn't written completely
  pub header_stopped : (addresses : List AddressParts) (failure : Failure) (a b : Writer) → WritesAs header (Err failure) a b
      → WritesBatch AreLines addresses (Err failure) a b
  header_stopped addresses failure a b wrote =
      subst (λ failure. WritesBatch AreLines addresses (Err failure) a b) (sym wrote.1)
      (header, first_output [] addresses header header_alone, wrote.2)

  -- the header can't be read a second time
  pub header_unread : (file : List ℕ) (addresses : List AddressParts) (fault : AddressFault) (a b : Writer) → AreAddressesOf file addresses
      → IsHeaderRead (Err fault) (addresses_in file) → WritesText header (Ok tt) a b
      → WritesBatch AreLines addresses (Err (failure.Refusal (address_fault.refusal fault))) a b
  header_unread file addresses (At line flaw) a b are is written = absurd (is_listing are (At line flaw) is)
  header_unread file addresses NoHeader a b are is written = absurd (is_listing are NoHeader is)
  header_unread file addresses Memory a b are is written = (refl, header, first_output [] addresses header header_alone, written)

  -- an allocation failed before the lines for the next address, or they aren't written completely
  module _ (rows later : List AddressParts) (address : AddressParts) (text : List ℕ) (is : IsOutput AreLines rows text) (a b c : Writer)
      (before : WritesText text (Ok tt) a b) where
    row_stopped : (failure : Failure) → WritesUnlessMemory (AreLines address) (λ before after. after ≡ before) (Err failure) b c
        → WritesBatch AreLines (rows ++ address ∷ later) (Err failure) a c
    row_stopped (failure.Write fault) stopped = (
      text ++ stopped.0,
      subst (λ all. IsOutputOfFirst AreLines all (text ++ stopped.0)) (append_assoc rows (address ∷ []) later)
          (first_output (rows ++ address ∷ []) later (text ++ stopped.0) (output_more rows address text stopped.0 is stopped.1)),
      subst (λ last. WritesText (text ++ last) (Err fault) a c) (append-nil stopped.0) (stopped_further text stopped.0 [] fault a b c before stopped.2),
    )
    row_stopped (failure.Refusal refusal) stopped = (
      stopped.0,
      text,
      first_output rows (address ∷ later) text is,
      subst (λ (c : Writer). WritesText text (Ok tt) a c) (sym stopped.1) before,
    )
    row_stopped failure stopped = absurd stopped

  module _ {file : List ℕ} {left : Listing} {a b : Writer} (so_far : IsWrittenTo AreLines file left a b) where
    -- the lines for one more address are written
    pub batch_further : (address : AddressParts) (new : Listing) (c : Writer) → left ≡ with_addresses (address ∷ []) new
        → WritesUnlessMemory (AreLines address) (λ before after. after ≡ before) (Ok tt) b c → IsWrittenTo AreLines file new a c
    batch_further address new c next wrote = record {
      rows = so_far.rows ++ address ∷ [];
      read = read_further file so_far.rows left so_far.read address new next;
      text = so_far.text ++ wrote.0;
      is_text = output_more so_far.rows address so_far.text wrote.0 so_far.is_text wrote.1;
      written = written_further so_far.text wrote.0 a b c so_far.written wrote.2;
    }

    module _ (addresses : List AddressParts) (are : AreAddressesOf file addresses) where
      -- all are written
      pub batch_done : left ≡ ended → WritesBatch AreLines addresses (Ok tt) a b
      unfolding listing_in
      batch_done end = (
        so_far.text,
        subst (λ rows. IsOutput AreLines rows so_far.text)
            (ap (λ held. (listing_in held).addresses) (sym (read_all file so_far.rows left so_far.read end) ∙ are)) so_far.is_text,
        so_far.written,
      )

      -- the next address can't be read because an allocation failed
      pub batch_unread : (address : AddressParts) (new : Listing) (fault : AddressFault) → IsAddressRead (Err fault) address left new
          → WritesBatch AreLines addresses (Err (failure.Refusal (address_fault.refusal fault))) a b
      batch_unread address new (At line flaw) is = absurd (none_faulty file so_far.rows left so_far.read addresses (At line flaw) are is)
      batch_unread address new NoHeader is = absurd is
      batch_unread address new Memory is = (
        refl,
        so_far.text,
        subst (λ all. IsOutputOfFirst AreLines all so_far.text) (sym (rows_first file so_far.rows left so_far.read addresses are))
            (first_output so_far.rows left.addresses so_far.text so_far.is_text),
        so_far.written,
      )

      -- its lines aren't written completely
      pub batch_stopped : (address : AddressParts) (new : Listing) (failure : Failure) (c : Writer)
          → left ≡ with_addresses (address ∷ []) new
          → WritesUnlessMemory (AreLines address) (λ before after. after ≡ before) (Err failure) b c
          → WritesBatch AreLines addresses (Err failure) a c
      batch_stopped address new failure c next stopped =
          subst (λ all. WritesBatch AreLines all (Err failure) a c)
          (sym (rows_first file so_far.rows left so_far.read addresses are ∙ ap (λ (left : Listing). so_far.rows ++ left.addresses) next))
          (row_stopped so_far.rows new.addresses address so_far.text so_far.is_text a b c so_far.written failure stopped)

-- a write in which no allocation failed satisfies `WritesUnlessMemory`
pub written_unless : (IsText : List ℕ → Type 0) (WritesBefore : Writer → Writer → Type 0) (result : Result (Unit {0}) Failure) (a b : Writer)
    (text : List ℕ) → IsText text → WritesAs text result a b → WritesUnlessMemory IsText WritesBefore result a b
written_unless IsText WritesBefore (Ok done) a b text is wrote = (text, is, wrote)
written_unless IsText WritesBefore (Err of) a b text is wrote =
    subst (λ of. WritesUnlessMemory IsText WritesBefore (Err of) a b) (sym wrote.1) (text, is, wrote.2)

-- none of these is a usage error
pub batch_usage : (AreLines : AddressParts → List ℕ → Type 0) (addresses : List AddressParts) (result : Result (Unit {0}) Failure) (a b : Writer)
    → WritesBatch AreLines addresses result a b → IfErr result (λ failure. status failure ≢ 2)
batch_usage AreLines addresses (Ok done) a b wrote = tt
batch_usage AreLines addresses (Err failure) a b wrote = λ two. grind (arith, refusal_not_usage, wrote, two)

-- nor is a fault of the file of addresses
pub addresses_usage : (fault : AddressFault) (failed : Failure) → IsOfAddresses fault failed → status failed ≢ 2
addresses_usage fault failed is two = grind (arith, refusal_not_usage, is, two)

addresses_fault : (file : List ℕ) (fault : AddressFault) → IsAddressesFault file fault → fault ≢ Memory → IsFaultOf file fault
addresses_fault file Memory is_failure other = absurd (other refl)
addresses_fault file NoHeader is_failure other = is_failure
addresses_fault file (At line flaw) is_failure other = is_failure

-- The file of addresses was read, and then the counties can't be loaded.
module _ {R : Type 0} (opens : OpenResults R) (batch : GeocodeBatch) {disk later disk' : Disk} {out : Writer} (before : IsUnfailed disk later)
    {IsRefusedSo : RefusalParts → Type 0} {IsFile : List ℕ → Type 0} {IsRead : RefusalParts → List ℕ → Type 0}
    (refused : (refusal : RefusalParts) → IsRefusedSo refusal → IsRefused batch disk.known refusal out out)
    (read : (refusal : RefusalParts) (name : List ℕ) → IsRead refusal name → IsRefusedFileOfOne batch.«data».now (codes_of batch) refusal name)
    (named : (name : List ℕ) → IsFile name → IsFileOf batch name) where
  load_failed : (failure : Failure) → IsLoadFailure opens IsRefusedSo IsRead later disk' failure → NamesFile IsFile failure
      → IsUnfailedUnlessUnusable {T = ℕ} (Err failure) later disk' → CarriesOut opens (request.GeocodeBatch batch) (Err failure) disk disk' out out
  load_failed (failure.Refusal refusal) is_failure names counts = record {
    outcome = (refused refusal is_failure.0, λ three. read_after disk later disk' before (read refusal) (is_failure.1 three));
    names = tt;
    counts = λ other. unfailed_both before (counts other);
    unflushed = refl;
  }
  load_failed (failure.CountyFile folder code file error) is_failure names counts = record {
    outcome = (refl, (is_failure.0, λ as_before. is_failure.1 (as_before ∙ sym before.opens)));
    names = named (file_name folder.now code.now file) names;
    counts = λ other. unfailed_both before (counts other);
    unflushed = refl;
  }
  load_failed failure.Memory is_failure names counts = record {
    outcome = refl;
    names = tt;
    counts = λ other. unfailed_both before (counts other);
    unflushed = refl;
  }
  load_failed failure is_failure names counts = absurd is_failure

-- What is known of the files stays the same, and these are the codes of the request.
module _ (batch : GeocodeBatch) {known later : List ℕ → Option (List ℕ)} (same : (name : List ℕ) → later name ≡ known name)
    {codes : List (Bor (List ℕ))} (lent : codes ≡ batch.codes.items) where
  of_request : (Is : (List ℕ → Option (List ℕ)) → List (List ℕ) → Type 0) → Is later (texts codes) → Is known (codes_of batch)
  of_request Is is =
      subst (λ known. Is known (codes_of batch)) (fun_ext same) (subst (λ (codes : List (Bor (List ℕ))). Is later (texts codes)) lent is)

  -- the counties of these codes are those of the request
  pub counties_lent : (counties : List CountyParts) → AreCountiesOf batch.shape later batch.«data».now (texts codes) counties
      → AreCountiesOf batch.shape known batch.«data».now (codes_of batch) counties
  counties_lent counties = of_request (λ known codes. AreCountiesOf batch.shape known batch.«data».now codes counties)

  county_refused : (refusal : RefusalParts) → HaveRefusedCounty batch.shape later batch.«data».now (texts codes) refusal
      → HaveRefusedCounty batch.shape known batch.«data».now (codes_of batch) refusal
  county_refused refusal = of_request (λ known codes. HaveRefusedCounty batch.shape known batch.«data».now codes refusal)

  refused_named : (refusal : RefusalParts) (name : List ℕ) → IsRefusedFileOfOne batch.«data».now (texts codes) refusal name
      → IsRefusedFileOfOne batch.«data».now (codes_of batch) refusal name
  refused_named refusal name = of_request (λ known codes. IsRefusedFileOfOne batch.«data».now codes refusal name)

  county_named : (name : List ℕ) → IsFileOfCounties batch.shape batch.«data».now (texts codes) name
      → IsFileOfCounties batch.shape batch.«data».now (codes_of batch) name
  county_named name = of_request (λ known codes. IsFileOfCounties batch.shape batch.«data».now codes name)

module _ {R : Type 0} (opens : OpenResults R) (batch : GeocodeBatch) {disk later disk' : Disk} {out : Writer} (before : IsUnfailed disk later)
    (same : (name : List ℕ) → later.known name ≡ disk.known name) (codes : List (Bor (List ℕ))) (lent : codes ≡ batch.codes.items)
    (failure : Failure) where
  -- the file of addresses was read, and then the counties can't be loaded
  pub counties_failed : IsLoadFailure opens (HaveRefusedCounty batch.shape later.known batch.«data».now (texts codes))
      (IsRefusedFileOfOne batch.«data».now (texts codes)) later disk' failure
      → NamesFile (IsFileOfCounties batch.shape batch.«data».now (texts codes)) failure → IsUnfailedUnlessUnusable {T = ℕ} (Err failure) later disk'
      → CarriesOut opens (request.GeocodeBatch batch) (Err failure) disk disk' out out
  counties_failed =
      load_failed opens batch before (λ refusal is. of_county (county_refused batch same lent refusal is) refl) (refused_named batch same lent)
      (λ name is. inr (county_named batch same lent name is)) failure

-- The file of addresses and the counties are loaded.
module _ {R : Type 0} {opens : OpenResults R} (batch : GeocodeBatch) {disk disk' : Disk} (inputs : Inputs batch disk.known)
    (counts : IsUnfailed disk disk') {out : Writer} where
  -- not all of the file's addresses are read
  pub addresses_failed : (fault : AddressFault) (failed : Failure) → IsAddressesFault inputs.file fault → IsOfAddresses fault failed
      → CarriesOut opens (request.GeocodeBatch batch) (Err failed) disk disk' out out
  addresses_failed fault (failure.Addresses refusal note) is_failure is = record {
    outcome = (record { inputs = inputs; fault = fault; is_fault = addresses_fault inputs.file fault is_failure is.0; refused = is.1 }, refl);
    names = tt;
    counts = λ other. counts;
    unflushed = refl;
  }
  addresses_failed fault (failure.Refusal refusal) is_failure is =
      rw is.1 (refused_carried memory (of_memory refl (inl refl)) counts.opens (sound (address_status Memory) counts.reads) refl)
  addresses_failed fault failed is_failure is = absurd is

  -- all are read, and then the output is written
  pub batch_carried : {out' : Writer} (addresses : List AddressParts) (result : Result (Unit {0}) Failure)
      → AreAddressesOf inputs.file addresses → WritesBatch (AreLinesOf inputs) addresses result out out'
      → CarriesOut opens (request.GeocodeBatch batch) result disk disk' out out'
  batch_carried addresses (Ok done) are wrote = record {
    outcome = record { inputs = inputs; addresses = addresses; are_addresses = are; text = wrote.0; is_text = wrote.1; written = wrote.2 };
    names = tt;
    counts = counts;
    unflushed = ap (λ (counts : WriteCounts). counts.flushes) wrote.2.1;
  }
  batch_carried {out'} addresses (Err (failure.Write fault)) are wrote = record {
    outcome = record { inputs = inputs; addresses = addresses; are_addresses = are; text = wrote.0; is_text = wrote.1; written = wrote.2 };
    names = tt;
    counts = λ no. counts;
    unflushed = fault_unflushed fault out.counts out'.counts wrote.2.1;
  }
  batch_carried addresses (Err (failure.Refusal refusal)) are wrote =
      refused_carried refusal
      (of_memory wrote.0 (inr (record {
        inputs = inputs;
        addresses = addresses;
        are_addresses = are;
        text = wrote.1;
        is_text = wrote.2;
        written = wrote.3;
      })))
      counts.opens (sound (subst (λ refusal. refusal_status refusal ≢ 3) (sym wrote.0) (address_status Memory)) counts.reads)
      (ap (λ (counts : WriteCounts). counts.flushes) wrote.3.1)
  batch_carried addresses (Err failure) are wrote = absurd wrote

  -- the same, for the batch made of the counties and their codes
  pub batch_lent : {out' : Writer} (result : Result (Unit {0}) Failure) (made : BatchParts)
      → made ≡ record { counties = inputs.counties; codes = codes_of batch } → (addresses : List AddressParts)
      → AreAddressesOf inputs.file addresses → WritesBatch (AreLinesIn batch.shape made.codes made.counties) addresses result out out'
      → CarriesOut opens (request.GeocodeBatch batch) result disk disk' out out'
  batch_lent {out'} result made is addresses are wrote =
      batch_carried addresses result are
      (subst (λ (made : BatchParts). WritesBatch (AreLinesIn batch.shape made.codes made.counties) addresses result out out') is wrote)
