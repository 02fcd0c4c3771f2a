-- What an index has for a TLID is what its lines have.
use Rattle.std.proofs.Common.{◌≡◌, ◌==◌, ◌≤◌, ℕ, Bool, true, false, if◌then◌else◌, inl, inr, length, slice_index, List}
use Rattle.std.proofs.Common.{[], ◌∷◌, ◌++◌, map, Option, Some, None, Ok, Err, refl}
use Rattle.std.proofs.Common.{option_map, is_some, IsSome, sym, ap, subst, ◌∙◌, arith}
use Rattle.std.specs.List.{filter_map, find, flat_map, cons_option}
use Rattle.std.specs.Option.{option_and_then, option_map_or}
use Rattle.std.proofs.lemmas.List.{map-append, length-map}
use Rattle.std.proofs.lemmas.List.Elements.{filter_map-append, All-nil, All-cons}
use Rattle.counted_io.specs.ReaderWriter.{Reader}
use Rattle.tl_fields.specs.Number.{number_of}
use Rattle.tl_records.specs.Layout.{field_at}
use Rattle.tl_records.specs.Lines.{LineParts}
use Rattle.tl_records.specs.Records.{IsValidLine}
use Rattle.tl_records.specs.declared.fault.LineFaultKind.TheVariants.{WrongLength, WrongType}
use Rattle.tl_records.specs.declared.layout.Layout.{Layout}
use Rattle.tl_records.specs.declared.layout.Places.{Places}
use Rattle.tl_records.specs.declared.layout.TheConstants.Type4.{FEAT1, FEAT2, FEAT3, FEAT4, FEAT5}
use Rattle.tl_records.specs.declared.layout.TheConstants.Type5.{FENAME}
use Rattle.tl_segments.specs.CountyFile.{layout}
use Rattle.tl_segments.specs.County.{AreTlids, HasTlids, tlid_of}
use Rattle.tl_segments.specs.Indexing.{IsIndexOf, IsRecordRead, IsSegmentRead, ReadsValidLine, names_in}
use Rattle.tl_segments.specs.FullName.{FullNameFields, affixes_of, contents}
use Rattle.tl_segments.specs.Joining.{JoinedLines, number_in, lines_with, features_of, alternate_names}
use Rattle.tl_segments.specs.Joining.{affixes_in, alternate_affixes, further_ranges, has_number, segment_of}
use Rattle.tl_segments.specs.Segment.{SegmentParts, HasJoined, line_of}
use Rattle.tl_segments.specs.TableContents.{feature_full_name, feature_numbers, full_name_in, list_at, name_at, names_among}
use Rattle.tl_segments.specs.declared.fault.CountyFile.TheVariants.{Rt1, Rt4, Rt5}
use Rattle.tl_segments.specs.declared.fault.LoadFault.TheVariants.{Memory}
use Rattle.tl_segments.specs.declared.feature_names.FeatureNames.{FeatureNames}
use Rattle.tl_segments.specs.declared.index.Index.{Index}
use Rattle.tl_segments.proofs.FullNameLemmas.{filter_map-mapped}

module _ {P Y : Type 0} (name other : ℕ → Option Y) (same : (feat : ℕ) → name feat ≡ other feat) (number : P → Option ℕ) where
  named_by : (found : Option ℕ) (names : List Y) (feats : List ℕ) → names ≡ filter_map other feats
      → cons_option (option_and_then name found) names ≡ filter_map other (cons_option found feats)
  named_by None names feats e = e
  named_by (Some feat) names feats e = ap (λ found. cons_option found names) (same feat) ∙ ap (λ names. cons_option (other feat) names) e

  -- looking up the names of optional numbers is looking up the names of the numbers present
  named : (fields : List P) → filter_map (option_and_then name) (map number fields) ≡ filter_map other (filter_map number fields)
  named [] = refl
  named (field ∷ fields) = named_by (number field) (filter_map (option_and_then name) (map number fields)) (filter_map number fields)
      (named fields)

names_of_lines : {A : Type 0} (table : FeatureNames A) (rt5 lines : List (List ℕ))
    → ((feat : ℕ) → name_at table feat ≡ feature_full_name rt5 feat)
    → flat_map (names_among table) (map feature_numbers lines) ≡ filter_map (feature_full_name rt5) (flat_map features_of lines)
names_of_lines table rt5 [] same = refl
names_of_lines table rt5 (line ∷ lines) same =
    ap (λ names. names ++ flat_map (names_among table) (map feature_numbers lines))
    (named (name_at table) (feature_full_name rt5) same (λ (feat : Places). number_of (field_at feat line))
    (FEAT1 ∷ FEAT2 ∷ FEAT3 ∷ FEAT4 ∷ FEAT5 ∷ []))
    ∙ ap (λ names. filter_map (feature_full_name rt5) (features_of line) ++ names) (names_of_lines table rt5 lines same)
    ∙ sym (filter_map-append (feature_full_name rt5) (features_of line) (flat_map features_of lines))

names_of_tlid : {A : Type 0} (index : Index A) (lines : JoinedLines) (tlid : ℕ) → IsIndexOf index lines
    → names_in index tlid ≡ filter_map (feature_full_name lines.rt5) (flat_map features_of (lines_with Rt4 tlid lines.rt4))
names_of_tlid index lines tlid of_lines =
    ap (λ list. flat_map (names_among index.names) list) (of_lines.features tlid)
    ∙ names_of_lines index.names lines.rt5 (lines_with Rt4 tlid lines.rt4) of_lines.names

-- a field of each full name for a TLID in the index, derived from the same field of each FEAT's full name
fields_of_tlid : {A Z : Type 0} (index : Index A) (lines : JoinedLines) (tlid : ℕ) → IsIndexOf index lines → (g : FullNameFields → Z)
    (field : List ℕ → Z) → ((line : List ℕ) → field line ≡ g (full_name_in line))
    → map g (names_in index tlid) ≡ filter_map (λ feat. option_map field (find (has_number Rt5 feat) lines.rt5))
    (flat_map features_of (lines_with Rt4 tlid lines.rt4))
fields_of_tlid index lines tlid of_lines g field same =
    ap (λ names. map g names) (names_of_tlid index lines tlid of_lines)
    ∙ filter_map-mapped g (feature_full_name lines.rt5) (λ feat. option_map field (find (has_number Rt5 feat) lines.rt5))
    (λ feat. by_line (find (has_number Rt5 feat) lines.rt5)) (flat_map features_of (lines_with Rt4 tlid lines.rt4))
  where
    by_line : (found : Option (List ℕ)) → option_map field found ≡ option_map g (option_map full_name_in found)
    by_line None = refl
    by_line (Some line) = ap Some (same line)

-- a segment with what the index has for its TLID
pub segment_from_index : {A : Type 0} (index : Index A) (lines : JoinedLines) (line : List ℕ) (tlid : ℕ) (segment : SegmentParts)
    → IsIndexOf index lines → number_in Rt1 line ≡ Some tlid → segment ≡ contents line (names_in index tlid)
    (list_at index.ranges tlid) → segment ≡ segment_of lines line
segment_from_index index lines line tlid segment of_lines is made =
    made
    ∙ ap (λ names. record {
      bytes = line;
      names = names;
      affixes = map affixes_of (names_in index tlid);
      ranges = list_at index.ranges tlid;
    }) (fields_of_tlid index lines tlid of_lines (λ (name : FullNameFields). name.fename) (field_at FENAME) (λ line. refl))
    ∙ ap (λ affixes. record { bytes = line; names = alternate_names lines tlid; affixes = affixes; ranges = list_at index.ranges tlid })
    (fields_of_tlid index lines tlid of_lines affixes_of affixes_in (λ line. refl))
    ∙ ap (λ ranges. record {
      bytes = line;
      names = alternate_names lines tlid;
      affixes = alternate_affixes lines tlid;
      ranges = ranges;
    }) (of_lines.ranges tlid)
    ∙ ap (λ found. record {
      bytes = line;
      names = option_map_or (alternate_names lines) found [];
      affixes = option_map_or (alternate_affixes lines) found [];
      ranges =
          option_map_or (further_ranges lines) found [];
    }) (sym is)

-- something is joined to a segment if the index has a name or a range for its TLID

module _ {A : Type 0} (index : Index A) (lines : JoinedLines) (line : List ℕ) (tlid : ℕ) (of_lines : IsIndexOf index lines)
    (is : number_in Rt1 line ≡ Some tlid) where
  from_index : ◌≡◌ {A = SegmentParts} (contents line (names_in index tlid) (list_at index.ranges tlid)) (segment_of lines line)
  from_index = segment_from_index index lines line tlid _ of_lines is refl

  pub names_joined : 1 ≤ length (names_in index tlid) → HasJoined (segment_of lines line)
  names_joined some = inl (λ none. let same = ap (λ (segment : SegmentParts). length segment.names) from_index in let no = ap length none in
      omega (arith, some, same, no, length-map (names_in index tlid) (λ (name : FullNameFields). name.fename)))

  pub ranges_joined : 1 ≤ length (list_at index.ranges tlid) → HasJoined (segment_of lines line)
  ranges_joined some = inr (λ none. let same = ap (λ (segment : SegmentParts). length segment.ranges) from_index in let no = ap length none in
      omega (arith, some, same, no))

-- the next line is good and was read into the segment, and its TLID has this number
pub record HasLine (line : LineParts) (number tlid : ℕ) (old new : Reader) (segment : SegmentParts) : Type 0 where
  pub good : ReadsValidLine line (line_of number segment) old new
  pub numbered : number_in Rt1 segment.bytes ≡ Some tlid

module _ {segment : SegmentParts} (line : LineParts) (number tlid : ℕ) (read : SegmentParts) {old new : Reader} where
  -- this also holds for any segment with the bytes that the line was read into
  pub has_line : IsRecordRead line (record { number = number; segment = read }) old new (Ok (Some tt)) → number_in Rt1 read.bytes ≡ Some tlid
      → segment.bytes ≡ read.bytes → HasLine line number tlid old new segment
  has_line is numbered same = record {
    good = subst (λ bytes. ReadsValidLine line (record { number = number; bytes = bytes }) old new) (sym same) is.0;
    numbered = ap (number_in Rt1) same ∙ numbered;
  }

numbered_by : (row : Layout) (long typed : Bool) (found : Option ℕ)
    → (if long then (if typed then (if is_some found then None else Some row.without_number) else Some WrongType) else Some WrongLength) ≡ None
    → (n : ℕ) × (found ≡ Some n)
numbered_by row true true (Some n) good = (n, refl)
numbered_by row true true None good = absurd (cc)
numbered_by row true false found good = absurd (cc)
numbered_by row false typed found good = absurd (cc)

-- the TLID of a good line has a number
pub numbered : (line : List ℕ) → IsValidLine (layout Rt1) line → (tlid : ℕ) × (number_in Rt1 line ≡ Some tlid)
numbered line good =
    numbered_by (layout Rt1) (length line == (layout Rt1).length) (slice_index line 0 == (layout Rt1).tag) (number_in Rt1 line) good.no_fault

module _ {A : Type 0} (index : Index A) {line : LineParts} {number tlid : ℕ} {old new : Reader} {segment : SegmentParts}
    (has : HasLine line number tlid old new segment) where
  -- it has what the index has for its TLID
  pub segment_read : segment ≡ contents segment.bytes (names_in index tlid) (list_at index.ranges tlid)
      → IsSegmentRead index line (record { number = number; segment = segment }) old new (Ok (Some tt))
  segment_read made =
      (has.good, λ lines of_lines. segment_from_index index lines segment.bytes tlid segment of_lines has.numbered made)

  -- out of memory for a name or a range
  pub wants_names : 1 ≤ length (names_in index tlid) → IsSegmentRead index line (record { number = number; segment = segment }) old new (Err Memory)
  wants_names some = (has.good, λ lines of_lines. names_joined index lines segment.bytes tlid of_lines has.numbered some)

  pub wants_ranges : 1 ≤ length (list_at index.ranges tlid) → IsSegmentRead index line (record { number = number; segment = segment }) old new (Err Memory)
  wants_ranges some = (has.good, λ lines of_lines. ranges_joined index lines segment.bytes tlid of_lines has.numbered some)

-- segments whose TLIDs have these numbers have numeric TLIDs
pub has_tlids : (tlids : List ℕ) (segments : List SegmentParts) → AreTlids tlids segments → HasTlids segments
has_tlids tlids [] same = All-nil (λ (segment : SegmentParts). IsSome (tlid_of segment))
has_tlids [] (segment ∷ segments) same = absurd (omega (arith, ap length same))
has_tlids (tlid ∷ tlids) (segment ∷ segments) same =
    All-cons (λ (segment : SegmentParts). IsSome (tlid_of segment)) segment segments
    (let is : tlid_of segment ≡ Some tlid = cc in ap is_some is) (has_tlids tlids segments (cc))

-- one more segment
pub tlids_push : (tlids : List ℕ) (segments : List SegmentParts) (tlid : ℕ) (segment : SegmentParts) → AreTlids tlids segments
    → tlid_of segment ≡ Some tlid → AreTlids (tlids ++ tlid ∷ []) (segments ++ segment ∷ [])
tlids_push tlids segments tlid segment same is =
    map-append Some tlids (tlid ∷ [])
    ∙ ap (λ numbers. numbers ++ Some tlid ∷ []) same
    ∙ ap (λ found. map tlid_of segments ++ found ∷ []) (sym is)
    ∙ sym (map-append tlid_of segments (segment ∷ []))
