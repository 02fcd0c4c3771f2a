-- The search for a house number in a county, and for a street.
use Rattle.std.proofs.Common.{◌≡◌, ℕ, ◌<◌, Bool, true, false, ◌||◌, if◌then◌else◌, List, [], ◌∷◌, ◌++◌, map, filter, length}
use Rattle.std.proofs.Common.{Option, None, Some, option_map, is_some, refl, ap, sym, ◌∙◌, subst}
use Rattle.std.specs.List.{find, flat_map, list_any}
use Rattle.std.specs.Option.{option_map_or}
use Rattle.std.proofs.lemmas.List.{append-nil, map-append}
use Rattle.tl_segments.specs.Affixes.{Affixes}
use Rattle.tl_segments.specs.County.{CountyParts}
use Rattle.tl_segments.specs.FullName.{all_with_affixes, own_full_name, with_affixes}
use Rattle.tl_segments.specs.Name.{name_equals}
use Rattle.tl_segments.specs.Segment.{SegmentParts}
use Rattle.tl_segments.specs.declared.full_name.FullNameFields.{FullNameFields}
use Rattle.geocode.specs.Candidates.{IsComplete, segment_at}
use Rattle.geocode.specs.Hits.{has_name, hits_in_county, hits_on_segment}
use Rattle.geocode.specs.Matches.{HitsAgreeInCounty, IsOnByName, MatchParts, matches_in_county, matches_on_segment, matches_under}
use Rattle.geocode.specs.Span.{IncludesHits, covers}
use Rattle.geocode.specs.Street.{StreetParts, WantsNameAlone, fits, is_on_street, name_on}
use Rattle.geocode.specs.declared.candidates.Candidate.{Candidate}
use Rattle.geocode.specs.declared.hit.Hit.{Hit}
use Rattle.geocode.specs.declared.house.House.{House}
use Rattle.geocode.proofs.CandidateLemmas.{IsWalked, Returns, walked-end, walked-next, walked-start}
use Rattle.geocode.proofs.MatchHitLemmas.{flat_map-filter, hits-segment, none-of-map}

-- a value is present if and only if its image is
pub is_some-option_map : {X Y : Type 0} (f : X → Y) (found : Option X) → is_some (option_map f found) ≡ is_some found
is_some-option_map f None = refl
is_some-option_map f (Some x) = refl

find-cons : {X : Type 0} (test : X → Bool) (x : X) (xs : List X) → test x ≡ false → find test xs ≡ None → find test (x ∷ xs) ≡ None
find-cons test x xs fails none = rw fails none

or-false : (a b : Bool) → (a || b) ≡ false → (a ≡ false) × (b ≡ false)
or-false true b none = absurd (cc)
or-false false b none = (refl, none)

-- a full name doesn't fit if its FENAME isn't the street's name
fits-not : (street : StreetParts) (name : FullNameFields) → name_equals name.fename street.name ≡ false → fits street name ≡ false
fits-not street name other = rw other refl

-- and if no FENAME is, no full name fits
find-not : (street : StreetParts) (affixes : List Affixes) (names : List (List ℕ))
    → list_any (λ named. name_equals named street.name) names ≡ false → find (fits street) (all_with_affixes affixes names) ≡ None
find-not street [] names others = refl
find-not street (affix ∷ affixes) [] others = refl
find-not street (affix ∷ affixes) (name ∷ names) others =
    let parts = or-false (name_equals name street.name) (list_any (λ named. name_equals named street.name) names) others in
    find-cons (fits street) (with_affixes affix name) (all_with_affixes affixes names) (fits-not street (with_affixes affix name) parts.0)
    (find-not street affixes names parts.1)

-- a segment without the name isn't on the street
pub name_on-not : (street : StreetParts) (segment : SegmentParts) → has_name street.name segment ≡ false → name_on street segment ≡ None
name_on-not street segment others =
    let own = own_full_name segment.bytes in
    let parts = or-false (name_equals own.fename street.name) (list_any (λ named. name_equals named street.name) segment.names) others in
    find-cons (fits street) own (all_with_affixes segment.affixes segment.names) (fits-not street own parts.0)
    (find-not street segment.affixes segment.names parts.1)

-- the hits on a segment, if it has the name
abbrev pub hits_by_name : List ℕ → House → SegmentParts → List Hit
hits_by_name name house segment = if has_name name segment then hits_on_segment house segment else []

-- the hits of matches
abbrev pub hits_of : List MatchParts → List Hit
hits_of found = map (λ found. found.hit) found

if-nothing : {X : Type 0} (test : Bool) {xs : List X} → xs ≡ [] → (if test then xs else []) ≡ []
if-nothing true nothing = nothing
if-nothing false nothing = refl

module _ (street : StreetParts) (house : House) (index : ℕ) where
  -- a segment whose span doesn't cover the house number has no matches
  matches-uncovered : (segment : SegmentParts) → hits_on_segment house segment ≡ [] → matches_on_segment street house index segment ≡ []
  matches-uncovered segment nothing =
      none-of-map (λ (found : MatchParts). found.hit) (matches_on_segment street house index segment)
      (hits-segment street house index segment ∙ if-nothing (is_on_street street segment) nothing)

  module _ (county : CountyParts) where
    -- the search has come to these matches: a walk over the matches and, with the name alone wanted, one over the hits of the name
    pub record IsSearched (left : List ℕ → Type 0) (found : List MatchParts) : Type 0 where
      pub matches : IsWalked (matches_on_segment street house index) county.segments left found
          (matches_in_county street house index county)
      pub hits : WantsNameAlone street
          → IsWalked (hits_by_name street.name house) county.segments left (hits_of found) (hits_in_county street.name house county)

    pub searched-start : {left : List ℕ → Type 0} → IsComplete left street.name county.segments → IsSearched left []
    searched-start {left} complete = record {
      matches = walked-start (matches_on_segment street house index) county.segments street.name [] complete
          (λ (segment : SegmentParts) (other : has_name street.name segment ≡ false).
          ap (λ name. option_map_or (λ name. matches_under house (record { county = index; segment = segment; name = name })) name [])
          (name_on-not street segment other));
      hits = λ alone. subst (IsWalked (hits_by_name street.name house) county.segments left [])
          (sym (flat_map-filter (has_name street.name) (hits_on_segment house) county.segments))
          (walked-start (hits_by_name street.name house) county.segments street.name [] complete
          (λ (segment : SegmentParts) (other : has_name street.name segment ≡ false).
          ap (λ (named : Bool). if named then hits_on_segment house segment else []) other));
    }

    -- one more candidate
    pub record IsSearchedTo (left : List ℕ → Type 0) (found : List MatchParts) (candidate : Candidate) : Type 0 where
      pub inside : candidate.segment < length county.segments
      pub looked_at : IsOnByName street (segment_at county.segments candidate.segment)
          → IsSearched left (found ++ matches_on_segment street house index (segment_at county.segments candidate.segment))
      pub skipped : covers candidate.span house.number ≡ false → IsSearched left found

    pub searched-next : {left left' : List ℕ → Type 0} {found : List MatchParts} {candidate : Candidate} → IsSearched left found
        → Returns county.segments left left' (Some candidate) → IsSearchedTo left' found candidate
    searched-next {left} {left'} {found} {candidate} searched returns =
        let segment = segment_at county.segments candidate.segment in
        let more = walked-next (matches_on_segment street house index) county.segments searched.matches returns in
        let more_hits = λ (alone : WantsNameAlone street). walked-next (hits_by_name street.name house) county.segments (searched.hits alone) returns in
        record {
          inside = more.inside;
          looked_at = λ by_name. record {
            matches = more.walked (found ++ matches_on_segment street house index segment) refl;
            hits = λ alone. (more_hits alone).walked
                (hits_of (found ++ matches_on_segment street house index segment))
                (map-append (λ (found : MatchParts). found.hit) found (matches_on_segment street house index segment)
                ∙ ap (λ hits. hits_of found ++ hits) (hits-segment street house index segment
                ∙ ap (λ (on : Bool). if on then hits_on_segment house segment else []) (by_name alone)));
          };
          skipped = λ none.
              let nothing = more.includes house none in
              record {
                matches = more.walked found (sym (append-nil found) ∙ ap (λ ms. found ++ ms) (sym (matches-uncovered segment nothing)));
                hits = λ alone. (more_hits alone).walked (hits_of found)
                    (sym (append-nil (hits_of found))
                    ∙ ap (λ hits. hits_of found ++ hits) (sym (if-nothing (has_name street.name segment) nothing)));
              };
        }

    -- after the last candidate all matches have been found
    pub searched-end : {left left' : List ℕ → Type 0} {found : List MatchParts} → IsSearched left found
        → Returns county.segments left left' None
        → (found ≡ matches_in_county street house index county) × HitsAgreeInCounty street house index county
    searched-end searched returns =
        let all = walked-end (matches_on_segment street house index) county.segments searched.matches returns in
        (all, λ alone. ap hits_of (sym all) ∙ walked-end (hits_by_name street.name house) county.segments (searched.hits alone) returns)

-- whether a segment is on the street, as a list that has an element if it is
abbrev pub sign_of : StreetParts → SegmentParts → List Bool
sign_of street segment = if is_on_street street segment then true ∷ [] else []

-- the list has an element
abbrev pub has_any : List Bool → Bool
has_any [] = false
has_any (sign ∷ signs) = true

-- a walk that looks for a segment on the street
pub signs-walked : {left : List ℕ → Type 0} (street : StreetParts) (segments : List SegmentParts) → IsComplete left street.name segments
    → IsWalked (sign_of street) segments left [] (flat_map (sign_of street) segments)
signs-walked street segments complete =
    walked-start (sign_of street) segments street.name [] complete
    (λ (segment : SegmentParts) (other : has_name street.name segment ≡ false).
    ap (λ name. if is_some name then true ∷ [] else []) (name_on-not street segment other))

-- some segment is on the street if and only if there is a sign of one
pub list_any-signs : (street : StreetParts) (segments : List SegmentParts)
    → list_any (is_on_street street) segments ≡ has_any (flat_map (sign_of street) segments)
list_any-signs street [] = refl
list_any-signs street (segment ∷ segments) = by (is_on_street street segment) (list_any-signs street segments)
  where
    by : (here : Bool) → list_any (is_on_street street) segments ≡ has_any (flat_map (sign_of street) segments)
        → (here || list_any (is_on_street street) segments)
        ≡ has_any ((if here then true ∷ [] else []) ++ flat_map (sign_of street) segments)
    by true later = refl
    by false later = later
