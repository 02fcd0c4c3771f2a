-- Which refusals are for a failed read, and what closing a county's readers then counts.
use Rattle.std.proofs.Common.{◌≡◌, ◌≢◌, ℕ, Bool, true, false, List, Option, Some, None, refl, ap, sym, subst, ◌∙◌, arith}
use Rattle.std.proofs.Math.Path.{fun_ext}
use Rattle.bpf_insn.specs.declared.instruction.Insn.{Insn}
use Rattle.bpf_meaning.specs.Extract.{TextFormat}
use Rattle.counted_io.specs.ReaderWriter.{Reader, Writer}
use Rattle.tl_records.specs.LineFaultKind as line_fault_kind
use Rattle.tl_records.specs.declared.fault.LineFaultKind.{LineFaultKind}
use Rattle.tl_segments.specs.County.{CountyParts, CountyReaders, IsCountyFault, IsSegmentsFault, LoadsCounty, LoadsSegments, SegmentReaders}
use Rattle.tl_segments.specs.County.{before_rt1, in_rt1, in_segments, in_shapes}
use Rattle.tl_segments.specs.CountyFile.{record_type}
use Rattle.tl_segments.specs.LoadFault as load_fault
use Rattle.tl_segments.specs.Loading.{IsFaultAfter, IsFileFault, IsJoinedFault, in_rt4, in_rt5, in_rt6}
use Rattle.tl_segments.specs.Segment.{SegmentParts}
use Rattle.tl_segments.specs.Shapes.{IsShapesFault, ReadsShapes}
use Rattle.tl_segments.specs.declared.fault.CountyFile as county_file
use Rattle.tl_segments.specs.declared.fault.CountyFile.TheVariants.{Rt1, Rt2, Rt4, Rt5, Rt6}
use Rattle.tl_segments.specs.declared.fault.LoadFault.{LoadFault}
use Rattle.tl_segments.specs.declared.fault.LoadFault.TheVariants as load
use Rattle.extract.specs.Extracting.{AreUnfailed, IsLoadRefusalIn}
use Rattle.extract.specs.Extracting as extracting
use Rattle.named_files.specs.County.{ClosesCounty, ClosesSegments, ClosesShapes, HoldCounty, HoldSegments, HoldsShapes, file_name}
use Rattle.refusals.specs.Refusal.{RefusalParts}
use Rattle.refusals.specs.declared.refusal.Position.TheVariants.{FileLine}
use Rattle.commands.specs.Counties.{IsInFile, IsRefusedFile}
use Rattle.commands.specs.Failure.{refusal_status}
use Rattle.named_files.specs.Files.{CountsClose, KeepsCounts, ReadCounts}
use Rattle.named_files.proofs.FileLemmas.{broken_close, keeps_both, sound_close}

-- a reader's count of failed reads has changed if the status is 3, and only then
record CountsStatus (status before after : ℕ) : Type 0 where
  pub fails : status ≡ 3 → after ≢ before
  pub stays : status ≢ 3 → after ≡ before

fault_reads : (file : county_file.CountyFile) (of : LineFaultKind) (number : ℕ) (lines : List (List ℕ)) (old new : Reader)
    → IsFaultAfter file of number lines old new → CountsStatus (refusal_status (line_fault_kind.refusal of)) old.failed new.failed
fault_reads file of number lines old new after = grind (arith, after)

file_reads : (file : county_file.CountyFile) (of : LoadFault) (old new : Reader) → IsFileFault file of old new
    → CountsStatus (refusal_status (load_fault.refusal of)) old.failed new.failed
file_reads file of old new is = grind (arith, fault_reads, is)

-- a refusal with status 3 is for the file in which a read failed
file_in : (file : county_file.CountyFile) (of : LoadFault) (old new : Reader) → IsFileFault file of old new
    → refusal_status (load_fault.refusal of) ≡ 3 → IsInFile file (load_fault.refusal of)
file_in file (load.Line of_file fault) old new is three = (fault.line, ap (λ file. FileLine (record_type file) fault.line) is.0)
file_in file (load.TooManyNames line) old new is three = let no : ⊥ = cc three in absurd no
file_in file (load.TooManyRanges line) old new is three = let no : ⊥ = cc three in absurd no
file_in file (load.RepeatedSequence line) old new is three = let no : ⊥ = cc three in absurd no
file_in file (load.TooManyPoints line) old new is three = let no : ⊥ = cc three in absurd no
file_in file load.Memory old new is three = let no : ⊥ = cc three in absurd no

-- if the status of a refusal is 3, a read failed of a file that it is for; otherwise all counts stay the same
pub record ReadsAs (IsFile : RefusalParts → List ℕ → Type 0) (refusal : RefusalParts) (failed failed' : ReadCounts) : Type 0 where
  pub fails : refusal_status refusal ≡ 3 → (name : List ℕ) × IsFile refusal name × (failed' name ≢ failed name)
  pub stays : refusal_status refusal ≢ 3 → KeepsCounts failed failed'

pub sound : {IsFile : RefusalParts → List ℕ → Type 0} {refusal : RefusalParts} {failed failed' : ReadCounts} → refusal_status refusal ≢ 3
    → KeepsCounts failed failed' → ReadsAs IsFile refusal failed failed'
sound other same = record { fails = λ three. absurd (other three); stays = λ _. same }

-- the counts after one reader is closed, together with others none of whose reads failed
module _ {IsFile : RefusalParts → List ℕ → Type 0} {refusal : RefusalParts} {a b c : ReadCounts} where
  pub reads_then : ReadsAs IsFile refusal a b → KeepsCounts b c → ReadsAs IsFile refusal a c
  reads_then is same = record {
    fails = λ three. let failed = is.fails three in (failed.0, failed.1, λ as_before. failed.2 (sym (same failed.0) ∙ as_before));
    stays = λ other. keeps_both (is.stays other) same;
  }

  pub then_reads : KeepsCounts a b → ReadsAs IsFile refusal b c → ReadsAs IsFile refusal a c
  then_reads same is = record {
    fails = λ three. let failed = is.fails three in (failed.0, failed.1, λ as_before. failed.2 (as_before ∙ sym (same failed.0)));
    stays = λ other. keeps_both same (is.stays other);
  }

-- a reader of a county's file is closed that stopped at a fault
pub fault_close : (folder code : List ℕ) (file : county_file.CountyFile) (of : LoadFault) (old new : Reader) {failed failed' : ReadCounts}
    → old.failed ≡ 0 → CountsClose (file_name folder code file) new.failed failed failed' → IsFileFault file of old new
    → ReadsAs (IsRefusedFile folder code) (load_fault.refusal of) failed failed'
fault_close folder code file of old new unread closes is = let reads = file_reads file of old new is in record {
  fails = λ three. (
    file_name folder code file,
    (file, file_in file of old new is three, refl),
    broken_close unread closes (reads.fails three),
  );
  stays = λ other. sound_close (file_name folder code file) unread closes (reads.stays other);
}

failed_as : {old new : Reader} → new ≡ old → new.failed ≡ old.failed
failed_as = ap (λ (reader : Reader). reader.failed)

-- the readers of the files that a county's segments are made from are closed
module _ {known : List ℕ → Option (List ℕ)} {folder code : List ℕ} {old new : SegmentReaders} {failed failed' : ReadCounts}
    (hold : HoldSegments known folder code old) (closes : ClosesSegments folder code new failed failed') where
  open hold use {rt1 as was_rt1, joined.{rt4 as was_rt4, rt5 as was_rt5, rt6 as was_rt6}}

  -- no read of one of the files failed
  sound_rt1 : new.rt1.failed ≡ old.rt1.failed → KeepsCounts failed closes.after_rt1
  sound_rt1 = sound_close (file_name folder code Rt1) was_rt1.failed closes.rt1

  sound_rt4 : new.joined.rt4.failed ≡ old.joined.rt4.failed → KeepsCounts closes.after_rt1 closes.after_rt4
  sound_rt4 = sound_close (file_name folder code Rt4) was_rt4.failed closes.rt4

  sound_rt5 : new.joined.rt5.failed ≡ old.joined.rt5.failed → KeepsCounts closes.after_rt4 closes.after_rt5
  sound_rt5 = sound_close (file_name folder code Rt5) was_rt5.failed closes.rt5

  sound_rt6 : new.joined.rt6.failed ≡ old.joined.rt6.failed → KeepsCounts closes.after_rt5 failed'
  sound_rt6 = sound_close (file_name folder code Rt6) was_rt6.failed closes.rt6

  -- no read failed
  pub sound_closed : AreUnfailed old new → KeepsCounts failed failed'
  sound_closed is name = sound_rt6 is.rt6 name ∙ sound_rt5 is.rt5 name ∙ sound_rt4 is.rt4 name ∙ sound_rt1 is.rt1 name

  pub unread_closed : new ≡ old → KeepsCounts failed failed'
  unread_closed same = sound_closed (subst (AreUnfailed old) (sym same) (record { rt1 = refl; rt4 = refl; rt5 = refl; rt6 = refl }))

  pub loads_closed : (segments : List SegmentParts) → LoadsSegments segments old new → KeepsCounts failed failed'
  loads_closed segments is = let joined = is.reads_joined in
      sound_closed (record { rt1 = is.rt1.reads; rt4 = joined.rt4.reads; rt5 = joined.rt5.reads; rt6 = joined.rt6.reads })

  -- only reads of one file may have failed
  joined_closed : (of : LoadFault) → IsJoinedFault of old.joined new.joined → new.rt1 ≡ old.rt1
      → ReadsAs (IsRefusedFile folder code) (load_fault.refusal of) failed failed'
  joined_closed of (in_rt4 is rt5 rt6) rt1 =
      reads_then (reads_then (then_reads (sound_rt1 (failed_as rt1))
      (fault_close folder code Rt4 of old.joined.rt4 new.joined.rt4 was_rt4.failed closes.rt4 is)) (sound_rt5 (failed_as rt5))) (sound_rt6 (failed_as rt6))
  joined_closed of (in_rt5 rt4 is rt6) rt1 =
      reads_then (then_reads (keeps_both (sound_rt1 (failed_as rt1)) (sound_rt4 rt4.1.reads))
      (fault_close folder code Rt5 of old.joined.rt5 new.joined.rt5 was_rt5.failed closes.rt5 is)) (sound_rt6 (failed_as rt6))
  joined_closed of (in_rt6 rt4 rt5 is) rt1 =
      then_reads (keeps_both (sound_rt1 (failed_as rt1)) (keeps_both (sound_rt4 rt4.1.reads) (sound_rt5 rt5.1.reads)))
      (fault_close folder code Rt6 of old.joined.rt6 new.joined.rt6 was_rt6.failed closes.rt6 is)

  -- they aren't loaded
  pub segments_closed : (of : LoadFault) → IsSegmentsFault of old new → ReadsAs (IsRefusedFile folder code) (load_fault.refusal of) failed failed'
  segments_closed of (before_rt1 joined rt1) = joined_closed of joined rt1
  segments_closed of (in_rt1 lines joined is) =
      reads_then (fault_close folder code Rt1 of old.rt1 new.rt1 was_rt1.failed closes.rt1 is)
      (keeps_both (sound_rt4 joined.rt4.reads) (keeps_both (sound_rt5 joined.rt5.reads) (sound_rt6 joined.rt6.reads)))

-- the reader of the type 2 file is closed, if there is one: nothing was read, or it was read to its end, or it has a fault

module _ (known : Option (List ℕ)) (name : List ℕ) (failed failed' : ReadCounts) where
  unread_shapes : (shapes : Bool) (old : Option Reader) → HoldsShapes shapes known old → ClosesShapes name old failed failed'
      → KeepsCounts failed failed'
  unread_shapes true (Some reader) hold closes = closes.0 hold.failed
  unread_shapes false None hold closes = closes
  unread_shapes shapes old hold closes = absurd hold

  read_shapes : (shapes : Bool) (old new : Option Reader) → HoldsShapes shapes known old → ClosesShapes name new failed failed'
      → (rt2 : List (List ℕ)) → ReadsShapes rt2 old new → KeepsCounts failed failed'
  read_shapes true (Some old) (Some new) hold closes rt2 reads = sound_close name hold.failed closes reads.reads
  read_shapes false None None hold closes rt2 reads = closes
  read_shapes true (Some old) None hold closes rt2 reads = absurd reads
  read_shapes true None new hold closes rt2 reads = absurd hold
  read_shapes false None (Some new) hold closes rt2 reads = absurd reads
  read_shapes false (Some old) new hold closes rt2 reads = absurd hold

module _ (known : Option (List ℕ)) (folder code : List ℕ) where
  faulty_shapes : (shapes : Bool) (old new : Option Reader) {failed failed' : ReadCounts} → HoldsShapes shapes known old
      → ClosesShapes (file_name folder code Rt2) new failed failed' → (fault : LoadFault) → IsShapesFault fault old new
      → ReadsAs (IsRefusedFile folder code) (load_fault.refusal fault) failed failed'
  faulty_shapes true (Some old) (Some new) hold closes fault is = fault_close folder code Rt2 fault old new hold.failed closes is
  faulty_shapes true (Some old) None hold closes fault is = absurd is
  faulty_shapes true None new hold closes fault is = absurd hold
  faulty_shapes false None new hold closes fault is = absurd is
  faulty_shapes false (Some old) new hold closes fault is = absurd hold

-- all readers of a county are closed
module _ {shapes : Bool} {known : List ℕ → Option (List ℕ)} {folder code : List ℕ} {old new : CountyReaders} {failed failed' : ReadCounts}
    (hold : HoldCounty shapes known folder code old) (closes : ClosesCounty folder code new failed failed') where
  pub shapes_read : (rt2 : List (List ℕ)) → ReadsShapes rt2 old.shapes new.shapes → KeepsCounts closes.between failed'
  shapes_read = read_shapes _ (file_name folder code Rt2) closes.between failed' shapes old.shapes new.shapes hold.rt2 closes.rt2

  -- nothing was read
  pub unread_parts : new.segments ≡ old.segments → new.shapes ≡ old.shapes → KeepsCounts failed failed'
  unread_parts segments shapes_same =
      keeps_both (unread_closed hold.segments closes.segments segments)
      (unread_shapes _ (file_name folder code Rt2) closes.between failed' shapes old.shapes hold.rt2
      (subst (λ (rt2 : Option Reader). ClosesShapes (file_name folder code Rt2) rt2 closes.between failed') shapes_same closes.rt2))

  pub unread_county : new ≡ old → KeepsCounts failed failed'
  unread_county same =
      unread_parts (ap (λ (readers : CountyReaders). readers.segments) same) (ap (λ (readers : CountyReaders). readers.shapes) same)

  -- the county is loaded, or only reads of one file may have failed
  pub loads_county : (county : CountyParts) → LoadsCounty county old new → KeepsCounts failed failed'
  loads_county county is =
      keeps_both (loads_closed hold.segments closes.segments county.segments is.segments) (shapes_read is.shapes.rt2 is.shapes.reads)

  pub shapes_closed : (of : LoadFault) → IsShapesFault of old.shapes new.shapes → new.segments ≡ old.segments
      → ReadsAs (IsRefusedFile folder code) (load_fault.refusal of) failed failed'
  shapes_closed of is segments =
      then_reads (unread_closed hold.segments closes.segments segments)
      (faulty_shapes _ folder code shapes old.shapes new.shapes hold.rt2 closes.rt2 of is)

  pub county_closed : (of : LoadFault) → IsCountyFault of old new → ReadsAs (IsRefusedFile folder code) (load_fault.refusal of) failed failed'
  county_closed of (in_shapes is segments) = shapes_closed of is segments
  county_closed of (in_segments table shapes_loaded is) =
      reads_then (segments_closed hold.segments closes.segments of is) (shapes_read shapes_loaded.rt2 shapes_loaded.reads)

-- the same, starting from equal counts
pub county_from : {folder code : List ℕ} {readers : CountyReaders} {before failed failed' : ReadCounts} → KeepsCounts before failed
    → ClosesCounty folder code readers failed failed' → ClosesCounty folder code readers before failed'
county_from {folder} {code} {readers} {failed' = failed'} same =
    subst (λ (failed : ReadCounts). ClosesCounty folder code readers failed failed') (fun_ext same)

-- an extract refused for a county's file is refused for the fault of its segments
pub load_refusal : (text_of : TextFormat) (of : LoadFault) (code : List Insn) (old new : SegmentReaders) (out out' : Writer)
    → IsLoadRefusalIn text_of code of old new out out' → IsSegmentsFault of old new
load_refusal text_of of code old new out out' (extracting.before_rt1 has joined rt1 unwritten) = before_rt1 joined rt1
load_refusal text_of of code old new out out' (extracting.in_rt1 joined lines line is reads first written) =
    in_rt1 joined reads (subst (λ (of : LoadFault). IsFileFault Rt1 of old.rt1 new.rt1) (sym is) (refl, lines, first))
