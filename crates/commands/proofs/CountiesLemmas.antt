-- Counties loaded one after the other: what is known of the files stays the same.
use Rattle.std.proofs.Common.{◌≡◌, ℕ, ◌+◌, ◌<◌, suc, Bool, List, [], ◌∷◌, ◌++◌, length, get_or, take, drop, map}
use Rattle.std.proofs.Common.{Option, Bor, Result, Ok, Err}
use Rattle.std.proofs.Common.{IsErrAnd, IfErr, refl, ap, sym, subst, ◌≢◌, ◌∙◌, arith}
use Rattle.std.proofs.Math.Path.{fun_ext}
use Rattle.std.proofs.Math.Seq.{drop-cons}
use Rattle.std.proofs.lemmas.List.{map-append, map_more, take-append-drop}
use Rattle.std.proofs.lemmas.Slice.Zip.{all_zipped_more}
use Rattle.tl_segments.specs.County.{CountyParts, CountyReaders, IsCountyFault}
use Rattle.tl_segments.specs.LoadFault as load_fault
use Rattle.tl_segments.specs.declared.fault.LoadFault.{LoadFault}
use Rattle.refusals.specs.Refusal.{RefusalParts}
use Rattle.commands.specs.Counties.{AreCountiesOf, FailsToRead, HaveRefusedCounty, IsCountyOf, IsFileOfOne, IsLoadFailure, IsRefusedCounty, IsRefusedFile}
use Rattle.named_files.specs.County.{ClosesCounty, HoldCounty, IsFileOfCounty, IsLoaded, file_name}
use Rattle.commands.specs.Failure.{IsUnfailedUnlessUnusable, NamesFile, of_county_file, status}
use Rattle.named_files.specs.Files.{CountsFileFault, Disk, IsOpenFault, IsUnfailed, KeepsCounts, OpenResults}
use Rattle.tl_segments.specs.declared.fault.CountyFile as county_file
use Rattle.named_files.specs.declared.files.FileFault.{FileFault}
use Rattle.named_files.specs.declared.files.FileFault.TheVariants as fault
use Rattle.commands.specs.declared.failure.Failure.{Failure}
use Rattle.commands.specs.declared.failure.Failure.TheVariants.{Refusal, Memory, File, CountyFile}
use Rattle.commands.proofs.CarriedLemmas.{refusal_not_usage}
use Rattle.commands.proofs.ReadLemmas.{county_closed, county_from}

abbrev pub texts : List (Bor (List ℕ)) → List (List ℕ)
texts codes = map (λ code. code.now) codes

pub codes_at : (codes : List (Bor (List ℕ))) (i : ℕ) (d : Bor (List ℕ)) → i < length codes
    → texts codes ≡ texts (take i codes) ++ (get_or codes i d).now ∷ texts (drop (suc i) codes)
codes_at codes i d inside =
    ap texts (sym (take-append-drop i codes)) ∙ map-append (λ code. code.now) (take i codes) (drop i codes)
    ∙ ap (λ following. texts (take i codes) ++ texts following) (drop-cons codes i d inside)

-- after the counties of the codes before it
module _ {shapes : Bool} {known later : List ℕ → Option (List ℕ)} (same : (name : List ℕ) → later name ≡ known name) {folder : List ℕ}
    (codes : List (Bor (List ℕ))) (i : ℕ) (d : Bor (List ℕ)) (counties : List CountyParts) (inside : i < length codes)
    (so_far : AreCountiesOf shapes known folder (texts (take i codes)) counties) where
  -- the county of one more code
  pub counties_more : (county : CountyParts) → IsCountyOf shapes later folder (get_or codes i d).now county
      → AreCountiesOf shapes known folder (texts (take (i + 1) codes)) (counties ++ county ∷ [])
  counties_more county is =
      let here : IsCountyOf shapes known folder (get_or codes i d).now county =
      subst (λ (known : List ℕ → Option (List ℕ)). IsCountyOf shapes known folder (get_or codes i d).now county) (fun_ext same) is in
      subst (λ (codes : List (List ℕ)). AreCountiesOf shapes known folder codes (counties ++ county ∷ []))
      (sym (map_more (λ (code : Bor (List ℕ)). code.now) codes i d inside))
      (all_zipped_more (IsCountyOf shapes known folder) (texts (take i codes)) counties (get_or codes i d).now county so_far here)

  -- the refusal of one more code's county
  pub refused_after : {refusal : RefusalParts} → IsRefusedCounty shapes later folder (get_or codes i d).now refusal
      → HaveRefusedCounty shapes known folder (texts codes) refusal
  refused_after {refusal} is = record {
    before = texts (take i codes);
    code = (get_or codes i d).now;
    following = texts (drop (suc i) codes);
    are_codes = codes_at codes i d inside;
    counties = counties;
    loaded = so_far;
    refused = subst (λ (known : List ℕ → Option (List ℕ)). IsRefusedCounty shapes known folder (get_or codes i d).now refusal) (fun_ext same) is;
  }

-- a file named in the failure of one code
module _ (IsFile : List ℕ → List ℕ → Type 0) (codes : List (Bor (List ℕ))) (i : ℕ) (d : Bor (List ℕ)) (inside : i < length codes) where
  pub file_after : (name : List ℕ) → IsFile (get_or codes i d).now name → IsFileOfOne IsFile (texts codes) name
  file_after name is = record {
    before = texts (take i codes);
    code = (get_or codes i d).now;
    following = texts (drop (suc i) codes);
    are_codes = codes_at codes i d inside;
    is_file = is;
  }

  pub named_after : (failure : Failure) → NamesFile (IsFile (get_or codes i d).now) failure
      → NamesFile (IsFileOfOne IsFile (texts codes)) failure
  named_after (File name error) is = file_after name.now is
  named_after (CountyFile of_folder of_code file error) is = file_after (file_name of_folder.now of_code.now file) is
  named_after failure is = tt

-- a failed read of a file of one code
pub read_after : {IsFile IsFileSo : List ℕ → Type 0} (disk later disk' : Disk) → IsUnfailed disk later
    → ((name : List ℕ) → IsFile name → IsFileSo name) → FailsToRead IsFile later disk' → FailsToRead IsFileSo disk disk'
read_after disk later disk' unfailed so fails =
    (fails.0, so fails.0 fails.1, λ as_before. fails.2 (as_before ∙ sym (unfailed.reads fails.0)))

-- the same failure, counted from an earlier point since which no open and no read failed
module _ {R : Type 0} (opens : OpenResults R) {IsRefusedNow IsRefusedSo : RefusalParts → Type 0} {IsFile IsFileSo : RefusalParts → List ℕ → Type 0}
    (disk later disk' : Disk) where
  pub earlier_load_failure : (failure : Failure) → IsUnfailed disk later → ((refusal : RefusalParts) → IsRefusedNow refusal → IsRefusedSo refusal)
      → ((refusal : RefusalParts) (name : List ℕ) → IsFile refusal name → IsFileSo refusal name)
      → IsLoadFailure opens IsRefusedNow IsFile later disk' failure → IsLoadFailure opens IsRefusedSo IsFileSo disk disk' failure
  earlier_load_failure (Refusal refusal) unfailed so file_so is =
      (so refusal is.0, λ three. read_after disk later disk' unfailed (file_so refusal) (is.1 three))
  earlier_load_failure (CountyFile folder code file error) unfailed so file_so is =
      (is.0, λ as_before. is.1 (as_before ∙ sym unfailed.opens))
  earlier_load_failure Memory unfailed so file_so is = tt
  earlier_load_failure failure unfailed so file_so is = absurd is

module _ {R : Type 0} (opens : OpenResults R) {shapes : Bool} (folder code : List ℕ) (disk between disk' : Disk) where
  -- a county is refused, and its readers are closed
  pub refused_failure : {old new : CountyReaders} (fault : LoadFault) → HoldCounty shapes disk.known folder code old
      → KeepsCounts disk.failed_reads between.failed_reads → ClosesCounty folder code new between.failed_reads disk'.failed_reads
      → IsCountyFault fault old new
      → IsLoadFailure opens (IsRefusedCounty shapes disk.known folder code) (IsRefusedFile folder code) disk disk' (Refusal (load_fault.refusal fault))
  refused_failure {old} {new} fault hold before closes is = (
    record { old = old; hold = hold; new = new; fault = fault; is_fault = is; is_refusal = refl },
    (county_closed hold (county_from before closes) fault is).fails,
  )

-- a county's file can't be opened
module _ {R : Type 0} (opens : OpenResults R) (IsRefusedSo : RefusalParts → Type 0) (IsFile : RefusalParts → List ℕ → Type 0)
    (disk disk' : Disk) where
  pub open_failure : (folder code : Bor (List ℕ)) (file : county_file.CountyFile) (of : FileFault)
      → IsOpenFault (opens (file_name folder.now code.now file)) of → CountsFileFault of disk.failed_opens disk'.failed_opens
      → IsLoadFailure opens IsRefusedSo IsFile disk disk' (of_county_file folder code file of)
  open_failure folder code file (fault.Unusable error) is counts = (is, counts)
  open_failure folder code file fault.Memory is counts = tt

pub open_counts : {disk disk' : Disk} (folder code : Bor (List ℕ)) (file : county_file.CountyFile) (of : FileFault)
    → CountsFileFault of disk.failed_opens disk'.failed_opens → KeepsCounts disk.failed_reads disk'.failed_reads
    → status (of_county_file folder code file of) ≢ 3 → IsUnfailed disk disk'
open_counts folder code file (fault.Unusable error) opens reads other = absurd (other refl)
open_counts folder code file fault.Memory opens reads other = record { opens = opens; reads = reads }

pub open_named : (shapes : Bool) (folder code : Bor (List ℕ)) (file : county_file.CountyFile) (of : FileFault) → IsLoaded shapes file
    → NamesFile (IsFileOfCounty shapes folder.now code.now) (of_county_file folder code file of)
open_named shapes folder code file (fault.Unusable error) loaded = (file, loaded, refl)
open_named shapes folder code file fault.Memory loaded = tt

-- none of these is a usage error
module _ {R : Type 0} (opens : OpenResults R) (IsRefusedSo : RefusalParts → Type 0) (IsFile : RefusalParts → List ℕ → Type 0)
    (disk disk' : Disk) where
  pub load_usage : (failure : Failure) → IsLoadFailure opens IsRefusedSo IsFile disk disk' failure → status failure ≢ 2
  load_usage failure is_failure two = grind (arith, refusal_not_usage, is_failure, two)

  -- running out of memory implies nothing about the counties
  pub memory_failure : {T : Type 0} (result : Result T Failure) → IsErrAnd result (λ failure. failure ≡ Memory)
      → IfErr result (IsLoadFailure opens IsRefusedSo IsFile disk disk')
  memory_failure result is = grind (arith, is)

-- it leaves no failed open and no failed read
pub memory_counts : {T : Type 0} (result : Result T Failure) (disk disk' : Disk) → IsUnfailed disk disk' → IsUnfailedUnlessUnusable result disk disk'
memory_counts (Ok value) disk disk' counts = counts
memory_counts (Err failure) disk disk' counts = λ other. counts
