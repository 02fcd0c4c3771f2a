-- Full names: their fields taken apart and put side by side.
use Rattle.std.proofs.Common.{◌≡◌, ◌<◌, ℕ, zero, suc, List, [], ◌∷◌, ◌++◌, length, map, Option, Some, None, All}
use Rattle.std.proofs.Common.{option_map, slice_get, IfSome, refl, sym, ap, subst, ◌∙◌, append_assoc, length-append, arith}
use Rattle.std.specs.List.{filter_map, cons_option}
use Rattle.std.proofs.lemmas.List.{map-append, append-nil}
use Rattle.std.proofs.lemmas.List.Elements.{All-nil, All-cons, All-append}
use Rattle.std.proofs.lemmas.Option.{slice_get-map}
use Rattle.tl_segments.specs.Affixes.{Affixes, AreAffixes}
use Rattle.tl_segments.specs.FullName.{FullNameFields, IsFullName, affixes_of, all_with_affixes, contents, full_names_of, with_affixes}
use Rattle.tl_segments.specs.FullName.{with_names, own_full_name}
use Rattle.tl_segments.specs.Range.{AreBytes}
use Rattle.tl_segments.specs.Segment.{SegmentParts, IsSegment, names_of}
use Rattle.tl_segments.specs.declared.name.TheConstants.{NAME_LENGTH}
use Rattle.tl_segments.specs.declared.range.RangeFields.{RangeFields}
use Rattle.tl_segments.specs.declared.limits.TheConstants.{MAX_NAMES}

-- full names taken apart and put back together
pub all_with_affixes-of : (names : List FullNameFields)
    → all_with_affixes (map affixes_of names) (map (λ (name : FullNameFields). name.fename) names) ≡ names
all_with_affixes-of [] = refl
all_with_affixes-of (name ∷ names) = ap (λ (others : List FullNameFields). name ∷ others) (all_with_affixes-of names)

-- the FENAMEs of names with affixes
fenames : (affixes : List Affixes) (names : List (List ℕ)) → length affixes ≡ length names
    → map (λ (name : FullNameFields). name.fename) (all_with_affixes affixes names) ≡ names
fenames [] [] same = refl
fenames [] (name ∷ names) same = absurd (omega (arith, same))
fenames (affix ∷ affixes) [] same = absurd (omega (arith, same))
fenames (affix ∷ affixes) (name ∷ names) same =
    ap (λ (others : List (List ℕ)). name ∷ others) (fenames affixes names (omega (arith, same)))

-- the FENAMEs of a segment's full names are its names
pub names_of_full_names : (segment : SegmentParts) → IsSegment segment
    → map (λ (name : FullNameFields). name.fename) (full_names_of segment) ≡ names_of segment
names_of_full_names segment is =
    ap (λ (others : List (List ℕ)). (own_full_name segment.bytes).fename ∷ others) (fenames segment.affixes segment.names is.paired)

-- a property of all elements holds for the element at an index
IfSome-slice_get : {X : Type 0} (P : X → Type 0) (xs : List X) (index : ℕ) → All P xs → IfSome (slice_get xs index) P
IfSome-slice_get P [] index all = tt
IfSome-slice_get P (x ∷ xs) zero all = all 0 x (omega arith)
IfSome-slice_get P (x ∷ xs) (suc index) all = IfSome-slice_get P xs index (λ k d inside. all (suc k) d (omega arith))

-- names with affixes are full names
are_full : (affixes : List Affixes) (names : List (List ℕ)) → All AreAffixes affixes → All (AreBytes NAME_LENGTH) names
    → All IsFullName (all_with_affixes affixes names)
are_full [] [] are named = All-nil IsFullName
are_full [] (name ∷ names) are named = All-nil IsFullName
are_full (affix ∷ affixes) [] are named = All-nil IsFullName
are_full (affix ∷ affixes) (name ∷ names) are named =
    let first = are 0 affix (omega arith) in
    All-cons IsFullName (with_affixes affix name) (all_with_affixes affixes names)
    (record { fedirp = first.fedirp; fename = named 0 name (omega arith); fetype = first.fetype; fedirs = first.fedirs })
    (are_full affixes names (λ k d inside. are (suc k) d (omega arith)) (λ k d inside. named (suc k) d (omega arith)))

module _ {segment : SegmentParts} (is : IsSegment segment) (index : ℕ) where
  -- the FENAME of the alternate full name at an index
  pub fename_at : (found : Option FullNameFields) → found ≡ slice_get (all_with_affixes segment.affixes segment.names) index
      → option_map (λ (name : FullNameFields). name.fename) found ≡ slice_get segment.names index
  fename_at found same =
      ap (λ found. option_map (λ (name : FullNameFields). name.fename) found) same
      ∙ sym (slice_get-map (λ (name : FullNameFields). name.fename) (all_with_affixes segment.affixes segment.names) index)
      ∙ ap (λ names. slice_get names index) (fenames segment.affixes segment.names is.paired)

  pub full_name_at : (found : Option FullNameFields) → found ≡ slice_get (all_with_affixes segment.affixes segment.names) index
      → IfSome found IsFullName
  full_name_at found same =
      subst (λ (found : Option FullNameFields). IfSome found IsFullName) (sym same)
      (IfSome-slice_get IsFullName (all_with_affixes segment.affixes segment.names) index
      (are_full segment.affixes segment.names is.affixes is.names))

-- a segment with one more full name
pub with_name-is : (segment : SegmentParts) (name : FullNameFields) → IsSegment segment → IsFullName name → length segment.names < MAX_NAMES
    → IsSegment (with_names segment (name ∷ []))
with_name-is segment name is full room = record {
  bytes = is.bytes;
  names = All-append (AreBytes NAME_LENGTH) segment.names (name.fename ∷ []) is.names
      (All-cons (AreBytes NAME_LENGTH) name.fename [] full.fename (All-nil (AreBytes NAME_LENGTH)));
  few_names = omega (arith, room, length-append segment.names (name.fename ∷ []));
  affixes = All-append AreAffixes segment.affixes (affixes_of name ∷ []) is.affixes
      (All-cons AreAffixes (affixes_of name) [] (record { fedirp = full.fedirp; fetype = full.fetype; fedirs = full.fedirs })
      (All-nil AreAffixes));
  paired = omega (
    arith,
    is.paired,
    length-append segment.names (name.fename ∷ []),
    length-append segment.affixes (affixes_of name ∷ []),
  );
  ranges = is.ranges;
  few_ranges = is.few_ranges;
}

-- the contents of a segment with more names
pub contents-more : (bytes : List ℕ) (names more : List FullNameFields) (ranges : List RangeFields)
    → contents bytes (names ++ more) ranges ≡ with_names (contents bytes names ranges) more
contents-more bytes names more ranges =
    ap (λ fenames. record {
      bytes = bytes;
      names = fenames;
      affixes = map affixes_of (names ++ more);
      ranges = ranges;
    }) (map-append (λ (name : FullNameFields). name.fename) names more)
    ∙ ap (λ affixes. record {
      bytes = bytes;
      names = map (λ (name : FullNameFields). name.fename) names ++ map (λ (name : FullNameFields). name.fename) more;
      affixes = affixes;
      ranges = ranges;
    }) (map-append affixes_of names more)

-- appending names to names
pub with_names-none : (segment : SegmentParts) → with_names segment [] ≡ segment
with_names-none segment =
    ap (λ names. record segment { names = names; affixes = segment.affixes ++ [] }) (append-nil segment.names)
    ∙ ap (λ affixes. record segment { affixes = affixes }) (append-nil segment.affixes)

added : {X Y : Type 0} (g : X → Y) (start : List Y) (names more : List X)
    → (start ++ map g names) ++ map g more ≡ start ++ map g (names ++ more)
added g start names more =
    append_assoc start (map g names) (map g more) ∙ ap (λ others. start ++ others) (sym (map-append g names more))

pub with_names-more : (segment : SegmentParts) (names more : List FullNameFields)
    → with_names (with_names segment names) more ≡ with_names segment (names ++ more)
with_names-more segment names more =
    ap (λ names'. record segment { names = names'; affixes = (segment.affixes ++ map affixes_of names) ++ map affixes_of more })
    (added (λ (name : FullNameFields). name.fename) segment.names names more)
    ∙ ap (λ affixes. record segment {
      names = segment.names ++ map (λ (name : FullNameFields). name.fename) (names ++ more);
      affixes = affixes;
    })
    (added affixes_of segment.affixes names more)

-- the items found, mapped
module _ {X Y Z : Type 0} (g : Y → Z) (h : X → Option Y) (k : X → Option Z) (is : (x : X) → k x ≡ option_map g (h x)) where
  mapped_first : (found : Option Y) (others : List Y) → map g (cons_option found others) ≡ cons_option (option_map g found) (map g others)
  mapped_first None others = refl
  mapped_first (Some first) others = refl

  pub filter_map-mapped : (xs : List X) → map g (filter_map h xs) ≡ filter_map k xs
  filter_map-mapped [] = refl
  filter_map-mapped (x ∷ xs) =
      mapped_first (h x) (filter_map h xs)
      ∙ ap (λ found. cons_option found (map g (filter_map h xs))) (sym (is x))
      ∙ ap (λ others. cons_option (k x) others) (filter_map-mapped xs)
