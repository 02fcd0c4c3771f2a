-- Lines without a fault make segments.
use Rattle.std.proofs.Common.{◌≡◌, ◌==◌, ◌≤◌, ◌+◌, ◌*◌, ℕ, Bool, true, false, cond, if◌then◌else◌, List, [], ◌∷◌, length, All}
use Rattle.std.proofs.Common.{Option, Some, None, IfSome, option_map, refl, subst, sym, length-append, arith}
use Rattle.std.specs.List.{cons_option, filter_map, find, flat_map}
use Rattle.std.specs.Option.{option_map_or}
use Rattle.std.proofs.lemmas.Bool.Decides.{nat_tests}
use Rattle.std.proofs.lemmas.List.{length-map}
use Rattle.std.proofs.lemmas.List.Elements.{All-nil, All-cons, All-head, All-tail, All-map, All-filter, All-weaker}
use Rattle.tl_fields.specs.Number.{number_of}
use Rattle.tl_records.specs.Layout.{field_at, type5, type6}
use Rattle.tl_records.specs.Records.{IsValidLine}
use Rattle.tl_records.specs.declared.fault.LineFaultKind.{LineFaultKind}
use Rattle.tl_records.specs.declared.fault.LineFaultKind.TheVariants.{WrongLength}
use Rattle.tl_records.specs.declared.layout.Layout.{Layout}
use Rattle.tl_records.specs.declared.layout.TheConstants.Type4.{FEAT1, FEAT2, FEAT3, FEAT4, FEAT5}
use Rattle.tl_records.specs.declared.layout.TheConstants.Type5.{FENAME}
use Rattle.tl_segments.specs.Affixes.{AreAffixes}
use Rattle.tl_segments.specs.County.{LoadsSegments, SegmentReaders}
use Rattle.tl_segments.specs.CountyFile.{layout}
use Rattle.tl_segments.specs.Joining.{JoinedLines, affixes_in, alternate_affixes, alternate_names, feature_affixes, feature_name, features_of}
use Rattle.tl_segments.specs.Joining.{further_range, further_ranges, has_number, lines_with, number_in, segment_of, segments_of}
use Rattle.tl_segments.specs.Loading.{AreValidLines, AreValidJoined}
use Rattle.tl_segments.specs.Range.{AreBytes, IsRange}
use Rattle.tl_segments.specs.Segment.{IsSegment, SegmentParts}
use Rattle.tl_segments.specs.declared.fault.CountyFile.TheVariants.{Rt1, Rt4, Rt5, Rt6}
use Rattle.tl_segments.specs.declared.name.TheConstants.{NAME_LENGTH}
use Rattle.tl_segments.proofs.SegmentLemmas.{AreBytes-field_of}

-- Lines

length_by : (long : Bool) (other : Option LineFaultKind) → (if long then other else Some WrongLength) ≡ None → long ≡ true
length_by true other good = refl
length_by false other good = absurd (cc)

-- a line without a fault has its layout's length
bytes_of_line : (row : Layout) (line : List ℕ) → IsValidLine row line → AreBytes row.length line
bytes_of_line row line good =
    let same : (length line == row.length) ≡ true = length_by (length line == row.length) _ good.no_fault in
    record { length = grind (arith, nat_tests); bytes = good.are_bytes }

fename_in : (line : List ℕ) → IsValidLine type5 line → AreBytes NAME_LENGTH (field_at FENAME line)
fename_in line good = AreBytes-field_of line 56 21 50 (bytes_of_line type5 line good) (omega arith) (omega arith) (omega arith)

affixes_are : (line : List ℕ) → IsValidLine type5 line → AreAffixes (affixes_in line)
affixes_are line good = let are = bytes_of_line type5 line good in record {
  fedirp = AreBytes-field_of line 56 19 20 are (omega arith) (omega arith) (omega arith);
  fetype = AreBytes-field_of line 56 51 54 are (omega arith) (omega arith) (omega arith);
  fedirs = AreBytes-field_of line 56 55 56 are (omega arith) (omega arith) (omega arith);
}

range_is : (line : List ℕ) → IsValidLine type6 line → IsRange (further_range line)
range_is line good = let are = bytes_of_line type6 line good in record {
  fraddl = AreBytes-field_of line 76 19 29 are (omega arith) (omega arith) (omega arith);
  toaddl = AreBytes-field_of line 76 30 40 are (omega arith) (omega arith) (omega arith);
  fraddr = AreBytes-field_of line 76 41 51 are (omega arith) (omega arith) (omega arith);
  toaddr = AreBytes-field_of line 76 52 62 are (omega arith) (omega arith) (omega arith);
  zipl = AreBytes-field_of line 76 67 71 are (omega arith) (omega arith) (omega arith);
  zipr = AreBytes-field_of line 76 72 76 are (omega arith) (omega arith) (omega arith);
}

-- Lists

consed : {Y : Type 0} (P : Y → Type 0) (found : Option Y) (others : List Y) → IfSome found P → All P others → All P (cons_option found others)
consed P None others is all = all
consed P (Some first) others is all = All-cons P first others is all

-- whatever is found for the elements has a property
All-filter_map : {X Y : Type 0} (P : Y → Type 0) (h : X → Option Y) (xs : List X) → ((x : X) → IfSome (h x) P) → All P (filter_map h xs)
All-filter_map P h [] is = All-nil P
All-filter_map P h (x ∷ xs) is = consed P (h x) (filter_map h xs) (is x) (All-filter_map P h xs is)

-- a field of the first line that passes a test has a property, if the field of each line has it
found_by : {Y : Type 0} (P : Y → Type 0) (field : List ℕ → Y) (test : List ℕ → Bool) (lines : List (List ℕ))
    → All (λ line. P (field line)) lines → IfSome (option_map field (find test lines)) P
found_by P field test [] all = tt
found_by P field test (line ∷ lines) all =
    one (test line) (All-head (λ line. P (field line)) line lines all)
    (found_by P field test lines (All-tail (λ line. P (field line)) line lines all))
  where
    one : (passes : Bool) → P (field line) → IfSome (option_map field (find test lines)) P
        → IfSome (option_map field (cond passes (Some line) (find test lines))) P
    one true is others = is
    one false is others = others

length_consed : {Y : Type 0} (found : Option Y) (others : List Y) → length (cons_option found others) ≤ length others + 1
length_consed None others = omega arith
length_consed (Some first) others = omega arith

length-filter_map : {X Y : Type 0} (h : X → Option Y) (xs : List X) → length (filter_map h xs) ≤ length xs
length-filter_map h [] = omega arith
length-filter_map h (x ∷ xs) = omega (arith, length_consed (h x) (filter_map h xs), length-filter_map h xs)

-- a line has at most five FEATs
few_features : (lines : List (List ℕ)) → length (flat_map features_of lines) ≤ 5 * length lines
few_features [] = omega arith
few_features (line ∷ lines) = omega (
  arith,
  few_features lines,
  length-append (features_of line) (flat_map features_of lines),
  length-filter_map (λ feat. number_of (field_at feat line)) (FEAT1 ∷ FEAT2 ∷ FEAT3 ∷ FEAT4 ∷ FEAT5 ∷ []),
)

-- two fields of what is found for the elements have the same number of values
module _ {W X Y Z : Type 0} (found : X → Option W) (field : W → Y) (other : W → Z) where
  paired_by : (first : Option W) (ys : List Y) (zs : List Z) → length ys ≡ length zs
      → length (cons_option (option_map field first) ys) ≡ length (cons_option (option_map other first) zs)
  paired_by None ys zs same = same
  paired_by (Some w) ys zs same = omega (arith, same)

  paired : (xs : List X)
      → length (filter_map (λ x. option_map field (found x)) xs) ≡ length (filter_map (λ x. option_map other (found x)) xs)
  paired [] = refl
  paired (x ∷ xs) = paired_by (found x) _ _ (paired xs)

-- Segments

module _ (joined : JoinedLines) (valid : AreValidJoined joined) where
  with_tlid : (line : List ℕ) → AreBytes 228 line → (found : Option ℕ) → IsSegment (record {
    bytes = line;
    names = option_map_or (alternate_names joined) found [];
    affixes = option_map_or (alternate_affixes joined) found [];
    ranges = option_map_or (further_ranges joined) found [];
  })
  with_tlid line are None = record {
    bytes = are;
    names = All-nil (AreBytes NAME_LENGTH);
    few_names = omega arith;
    affixes = All-nil AreAffixes;
    paired = refl;
    ranges = All-nil IsRange;
    few_ranges = omega arith;
  }
  with_tlid line are (Some tlid) =
      let feats = flat_map features_of (lines_with Rt4 tlid joined.rt4) in
      let first = λ (feat : ℕ). find (has_number Rt5 feat) joined.rt5 in
      record {
        bytes = are;
        names = All-filter_map (AreBytes NAME_LENGTH) (feature_name joined.rt5) feats (λ feat.
            found_by (AreBytes NAME_LENGTH) (field_at FENAME) (has_number Rt5 feat) joined.rt5
            (All-weaker (IsValidLine type5) (λ line. AreBytes NAME_LENGTH (field_at FENAME line)) fename_in joined.rt5 valid.rt5.good));
        few_names = omega (
          arith,
          length-filter_map (feature_name joined.rt5) feats,
          few_features (lines_with Rt4 tlid joined.rt4),
          valid.rt4.within tlid,
        );
        affixes = All-filter_map AreAffixes (feature_affixes joined.rt5) feats (λ feat.
            found_by AreAffixes affixes_in (has_number Rt5 feat) joined.rt5
            (All-weaker (IsValidLine type5) (λ line. AreAffixes (affixes_in line)) affixes_are joined.rt5 valid.rt5.good));
        paired = paired first affixes_in (field_at FENAME) feats;
        ranges = All-map IsRange further_range (lines_with Rt6 tlid joined.rt6)
            (All-filter (has_number Rt6 tlid) (λ line. IsRange (further_range line)) joined.rt6
            (All-weaker (IsValidLine type6) (λ line. IsRange (further_range line)) range_is joined.rt6 valid.rt6.good));
        few_ranges = omega (arith, length-map (lines_with Rt6 tlid joined.rt6) further_range, valid.rt6.within tlid);
      }

  -- type 1 lines without a fault, with lines of the other types without a fault joined to them, are segments
  pub are_segments : (lines : List (List ℕ)) → AreValidLines Rt1 lines → All IsSegment (segments_of joined lines)
  are_segments lines are =
      All-map IsSegment (segment_of joined) lines
      (All-weaker (IsValidLine (layout Rt1)) (λ line. IsSegment (segment_of joined line))
      (λ line good. with_tlid line (bytes_of_line (layout Rt1) line good) (number_in Rt1 line)) lines are.good)

-- so are those of a county that was loaded
pub loaded_segments : (segments : List SegmentParts) (old new : SegmentReaders) → LoadsSegments segments old new → All IsSegment segments
loaded_segments segments old new loads =
    subst (All IsSegment) (sym loads.are_segments) (are_segments loads.joined (record {
      rt4 = loads.reads_joined.rt4.good;
      rt5 = loads.reads_joined.rt5.good;
      rt6 = loads.reads_joined.rt6.good;
    }) loads.lines loads.rt1.good)
