-- The lists shared by segments.
use Rattle.std.proofs.Common.{◌≡◌, ◌<◌, ℕ, nat_eq, if◌then◌else◌, Bool, true, false, List, [], ◌∷◌, ◌++◌, length, Option, Some, IfSome}
use Rattle.std.proofs.Common.{refl, sym, ap, subst, ◌∙◌, append_assoc, length-append, arith}
use Rattle.std.specs.BTreeMap.{get}
use Rattle.std.specs.Ordering.{nat_cmp}
use Rattle.std.specs.Option.{option_map_or}
use Rattle.std.specs.declared.rc.Rc.{Rc}
use Rattle.std.proofs.lemmas.List.Elements.{All-nil, All-cons, All-append}
use Rattle.std.proofs.lemmas.Bool.Decides.{nat_tests}
use Rattle.tl_segments.specs.FullName.{FullNameFields, contents, with_names}
use Rattle.tl_segments.specs.Joining.{JoinedLines, alternate_affixes, alternate_names, further_ranges, number_in, segment_of}
use Rattle.tl_segments.specs.Range.{IsRange}
use Rattle.tl_segments.specs.Segment.{SegmentParts, IsSegment}
use Rattle.tl_segments.specs.SharedLists.{IsJoinedTo, HoldsShared}
use Rattle.tl_segments.specs.JoinedLists.{AreValidLists, contents_with, shared_names, shared_ranges}
use Rattle.tl_segments.specs.declared.fault.CountyFile.TheVariants.{Rt1}
use Rattle.tl_segments.specs.declared.index.Index.{Index}
use Rattle.tl_segments.specs.declared.range.RangeFields.{RangeFields}
use Rattle.tl_segments.specs.declared.limits.TheConstants.{MAX_RANGES}
use Rattle.tl_segments.specs.declared.joined.JoinedLists.{JoinedLists}
use Rattle.tl_segments.specs.declared.shared_lists.SharedLists.{SharedLists}
use Rattle.tl_segments.proofs.FullNameLemmas.{contents-more}

-- the contents of a segment with more names of its own
pub names_pushed : {A : Type 0} (shared : Option (Rc (JoinedLists A) A)) (bytes : List ℕ) (names more : List FullNameFields)
    (ranges : List RangeFields)
    → contents_with shared bytes (names ++ more) ranges ≡ with_names (contents_with shared bytes names ranges) more
names_pushed shared bytes names more ranges =
    ap (λ all. contents bytes all (shared_ranges shared ++ ranges)) (sym (append_assoc (shared_names shared) names more))
    ∙ contents-more bytes (shared_names shared ++ names) more (shared_ranges shared ++ ranges)

-- and of one with more ranges
pub ranges_pushed : {A : Type 0} (shared : Option (Rc (JoinedLists A) A)) (bytes : List ℕ) (names : List FullNameFields)
    (ranges more : List RangeFields) → contents_with shared bytes names (ranges ++ more)
    ≡ (let before = contents_with shared bytes names ranges in record before { ranges = before.ranges ++ more })
ranges_pushed shared bytes names ranges more =
    ap (λ all. contents bytes (shared_names shared ++ names) all) (sym (append_assoc (shared_ranges shared) ranges more))

-- a segment with one more range
pub with_range-is : (segment : SegmentParts) (range : RangeFields) → IsSegment segment → IsRange range → length segment.ranges < MAX_RANGES
    → IsSegment (record segment { ranges = segment.ranges ++ range ∷ [] })
with_range-is segment range is good room = record {
  bytes = is.bytes;
  names = is.names;
  few_names = is.few_names;
  affixes = is.affixes;
  paired = is.paired;
  ranges = All-append IsRange segment.ranges (range ∷ []) is.ranges (All-cons IsRange range [] good (All-nil IsRange));
  few_ranges = omega (arith, room, length-append segment.ranges (range ∷ []));
}

-- lists that one segment has, any segment may have
pub valid_lists : {A : Type 0} (joined : JoinedLists A) (bytes : List ℕ) → IsSegment (contents bytes joined.names.items joined.ranges.items)
    → AreValidLists joined
valid_lists joined bytes is = λ others are. record {
  bytes = are;
  names = is.names;
  few_names = is.few_names;
  affixes = is.affixes;
  paired = is.paired;
  ranges = is.ranges;
  few_ranges = is.few_ranges;
}

-- the lists of one segment with a TLID are the lists of every segment with it
pub lists_made : (lines : JoinedLines) (names : List FullNameFields) (ranges : List RangeFields) {first bytes : List ℕ} {tlid : ℕ}
    → number_in Rt1 first ≡ Some tlid → contents first names ranges ≡ segment_of lines first → number_in Rt1 bytes ≡ Some tlid
    → contents bytes names ranges ≡ segment_of lines bytes
lists_made lines names ranges {first} {bytes} has made is =
    ap (λ (segment : SegmentParts). record segment { bytes = bytes }) made
    ∙ ap (λ found. record {
      bytes = bytes;
      names = option_map_or (alternate_names lines) found [];
      affixes = option_map_or (alternate_affixes lines) found [];
      ranges = option_map_or (further_ranges lines) found [];
    }) (has ∙ sym is)

-- lists stored along with those of other TLIDs
pub holds_one_more : {A : Type 0} (index : Index A) (old new : SharedLists A) (tlid : ℕ) (joined : Rc (JoinedLists A) A) → HoldsShared index old
    → IsJoinedTo index tlid joined.value
    → ((q : ℕ) → get nat_cmp new.lists q ≡ (if nat_eq tlid q then Some joined else get nat_cmp old.lists q)) → HoldsShared index new
holds_one_more index old new tlid joined holds by lists = λ q. rw (lists q) (at_number q (nat_eq tlid q) refl)
  where
    at_number : (q : ℕ) (same : Bool) → nat_eq tlid q ≡ same
        → IfSome (if same then Some joined else get nat_cmp old.lists q) (λ joined. IsJoinedTo index q joined.value)
    at_number q true e = subst (λ n. IsJoinedTo index n joined.value) (grind (arith, nat_tests)) by
    at_number q false e = holds q
