-- Hits, each with the street name that matched (TIGER/Line 2006, record types 1, 4, 5 and 6).
use Rattle.std.specs.Prelude.{◌≡◌, ℕ, suc, Bool, List, [], ◌∷◌, ◌++◌, filter, map, Option, option_map}
use Rattle.std.specs.List.{filter_map, flat_map, list_any}
use Rattle.std.specs.Option.{option_map_or}
use Rattle.tl_segments.specs.County.{CountyParts}
use Rattle.tl_segments.specs.FullName.{full_name_of}
use Rattle.tl_segments.specs.Segment.{SegmentParts, ranges_of}
use Rattle.tl_segments.specs.declared.full_name.FullNameFields.{FullNameFields}
use Rattle.tl_segments.specs.declared.range.RangeFields.{RangeFields}
use Rattle.geocode.specs.Hits.{find, has_name, hit_on, hits_in_county, hits_on_segment}
use Rattle.geocode.specs.Sides.{SideParts, side_of}
use Rattle.geocode.specs.Street.{StreetParts, WantsNameAlone, is_on_street, name_on}
use Rattle.geocode.specs.declared.hit.Hit.{Hit}
use Rattle.geocode.specs.declared.hit.Side.{Side}
use Rattle.geocode.specs.declared.hit.Side.TheVariants.{Left, Right}
use Rattle.geocode.specs.declared.house.House.{House}
use Rattle.geocode.specs.declared.matching.Match.{Match}
use Rattle.geocode.specs.declared.matching_segment.MatchingSegment.{MatchingSegment}

-- a hit, with the index of its county in the list, the name that matched, the fields of its side and the type 1 record of its segment
pub record MatchParts : Type 0 where
  pub hit : Hit
  pub county : ℕ
  pub name : FullNameFields
  pub side : SideParts
  pub bytes : List ℕ

abbrev pub match_of : Match → MatchParts
match_of found = record {
  hit = found.hit;
  county = found.county;
  name = full_name_of found.name;
  side = record { from = found.from.now; to = found.to.now; zip = found.zip.now };
  bytes = found.bytes.now;
}

-- a segment whose name matched: the index of its county in the list, the segment and the name
pub record MatchingParts : Type 0 where
  pub county : ℕ
  pub segment : SegmentParts
  pub name : FullNameFields

abbrev pub matching_of : {A : Type 0} → MatchingSegment A → MatchingParts
matching_of matching = record { county = matching.county; segment = matching.segment.now; name = full_name_of matching.name }

-- the match on a side of a range, if the house is on it
abbrev pub match_on : House → MatchingParts → RangeFields → Side → Option MatchParts
match_on house matching range side =
    option_map (λ hit. record { hit = hit; county = matching.county; name = matching.name; side = side_of range side; bytes = matching.segment.bytes })
    (hit_on house matching.segment.bytes range side)

-- the matches on the sides of a range, left before right
abbrev pub matches_on_range : House → MatchingParts → RangeFields → List MatchParts
matches_on_range house matching range = filter_map (match_on house matching range) (Left ∷ Right ∷ [])

-- the matches under a name of a segment, range 0 first
abbrev pub matches_under : House → MatchingParts → List MatchParts
matches_under house matching = flat_map (matches_on_range house matching) (ranges_of matching.segment)

-- the matches on a segment, under the first of its names that is the street's
abbrev pub matches_on_segment : StreetParts → House → ℕ → SegmentParts → List MatchParts
matches_on_segment street house county segment =
    option_map_or (λ name. matches_under house (record { county = county; segment = segment; name = name })) (name_on street segment) []

-- the matches in a county, which has this index in the list
abbrev pub matches_in_county : StreetParts → House → ℕ → CountyParts → List MatchParts
matches_in_county street house county parts = flat_map (matches_on_segment street house county) parts.segments

-- the matches in counties, the first of which has this index in the list
abbrev pub matches_from : StreetParts → House → ℕ → List CountyParts → List MatchParts
matches_from street house county [] = []
matches_from street house county (parts ∷ others) =
    matches_in_county street house county parts ++ matches_from street house (suc county) others

-- the matches in counties, in order
abbrev pub matches : StreetParts → House → List CountyParts → List MatchParts
matches street house counties = matches_from street house 0 counties

-- the hits on the segments of counties that are on the street, in order
abbrev pub hits_on_street : StreetParts → House → List CountyParts → List Hit
hits_on_street street house counties =
    flat_map (λ county. flat_map (hits_on_segment house) (filter (is_on_street street) county.segments)) counties

-- some segment of the counties is on the street
abbrev pub has_street : StreetParts → List CountyParts → Bool
has_street street counties = list_any (λ county. list_any (is_on_street street) county.segments) counties

-- with the name alone wanted, the segment is on the street if and only if it has the name
abbrev pub IsOnByName : StreetParts → SegmentParts → Type 0
IsOnByName street segment = WantsNameAlone street → is_on_street street segment ≡ has_name street.name segment

-- with the name alone wanted, the hits of the matches in a county are the hits of the name
abbrev pub HitsAgreeInCounty : StreetParts → House → ℕ → CountyParts → Type 0
HitsAgreeInCounty street house county parts =
    WantsNameAlone street → map (λ found. found.hit) (matches_in_county street house county parts) ≡ hits_in_county street.name house parts

-- with the name alone wanted, the hits of the matches in counties are the hits of the name
abbrev pub HitsAgree : StreetParts → House → List CountyParts → Type 0
HitsAgree street house counties =
    WantsNameAlone street → map (λ found. found.hit) (matches street house counties) ≡ find street.name house counties
