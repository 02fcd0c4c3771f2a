-- The hits of matches.
use Rattle.std.proofs.Common.{◌≡◌, ℕ, suc, Bool, true, false, ◌&&◌, ◌||◌, if◌then◌else◌, List, [], ◌∷◌, ◌++◌, map, filter}
use Rattle.std.proofs.Common.{All, Option, Some, None, option_map, is_some, refl, ap, sym, ◌∙◌}
use Rattle.std.specs.List.{cons_option, filter_map, find, flat_map, list_any}
use Rattle.std.specs.Option.{option_map_or}
use Rattle.std.proofs.lemmas.List.{map-append}
use Rattle.std.proofs.lemmas.List.Elements.{All-head, All-tail}
use Rattle.tl_fields.specs.Number.{is_blank}
use Rattle.tl_segments.specs.County.{CountyParts}
use Rattle.tl_segments.specs.FullName.{full_names_of}
use Rattle.tl_segments.specs.Name.{name_equals}
use Rattle.tl_segments.specs.Segment.{SegmentParts, IsSegment, ranges_of}
use Rattle.tl_segments.specs.declared.full_name.FullNameFields.{FullNameFields}
use Rattle.tl_segments.specs.declared.range.RangeFields.{RangeFields}
use Rattle.tl_segments.proofs.FullNameLemmas.{names_of_full_names}
use Rattle.geocode.specs.Hits.{find as find_hits, has_name, hit_on, hits_in_county, hits_on_range, hits_on_segment}
use Rattle.geocode.specs.Matches.{MatchParts, MatchingParts, hits_on_street, matches, matches_from, matches_in_county}
use Rattle.geocode.specs.Matches.{matches_on_range, matches_on_segment, matches_under}
use Rattle.geocode.specs.Sides.{side_of}
use Rattle.geocode.specs.Street.{StreetParts, WantsNameAlone, agrees, fits, is_on_street, name_on}
use Rattle.geocode.specs.declared.hit.Hit.{Hit}
use Rattle.geocode.specs.declared.hit.Side.{Side}
use Rattle.geocode.specs.declared.hit.Side.TheVariants.{Left, Right}
use Rattle.geocode.specs.declared.house.House.{House}

-- the results for the elements that pass a test
pub flat_map-filter : {X Y : Type 0} (test : X → Bool) (f : X → List Y) (xs : List X)
    → flat_map f (filter test xs) ≡ flat_map (λ x. if test x then f x else []) xs
flat_map-filter test f [] = refl
flat_map-filter {X} {Y} test f (x ∷ xs) = pick (test x) (flat_map-filter test f xs) where
  pick : (passes : Bool) → flat_map f (filter test xs) ≡ flat_map (λ x. if test x then f x else []) xs
      → flat_map f (if passes then x ∷ filter test xs else filter test xs)
      ≡ (if passes then f x else []) ++ flat_map (λ x. if test x then f x else []) xs
  pick true after = ap (λ ys. f x ++ ys) after
  pick false after = after

-- mapping over the results for a list
map-flat_map : {X Y Z : Type 0} (part : Y → Z) (f : X → List Y) (g : X → List Z) (xs : List X) → ((x : X) → map part (f x) ≡ g x)
    → map part (flat_map f xs) ≡ flat_map g xs
map-flat_map part f g [] same = refl
map-flat_map part f g (x ∷ xs) same =
    map-append part (f x) (flat_map f xs) ∙ ap (λ zs. zs ++ map part (flat_map f xs)) (same x)
    ∙ ap (λ zs. g x ++ zs) (map-flat_map part f g xs same)

-- mapping over optional results
map-filter_map : {X Y Z : Type 0} (part : Z → Y) (f : X → Option Y) (make : X → Y → Z) (xs : List X)
    → ((x : X) (y : Y) → part (make x y) ≡ y) → map part (filter_map (λ x. option_map (make x) (f x)) xs) ≡ filter_map f xs
map-filter_map part f make [] same = refl
map-filter_map {X} {Y} {Z} part f make (x ∷ xs) same = by (f x) (map-filter_map part f make xs same)
  where
    by : (found : Option Y) → map part (filter_map (λ x. option_map (make x) (f x)) xs) ≡ filter_map f xs
        → map part (cons_option (option_map (make x) found) (filter_map (λ x. option_map (make x) (f x)) xs))
        ≡ cons_option found (filter_map f xs)
    by None later = later
    by (Some y) later =
        ap (λ first. first ∷ map part (filter_map (λ x. option_map (make x) (f x)) xs)) (same x y) ∙ ap (λ others. y ∷ others) later

-- the hits of the matches under a name
hits-under : (house : House) (matching : MatchingParts)
    → map (λ (found : MatchParts). found.hit) (matches_under house matching) ≡ hits_on_segment house matching.segment
hits-under house matching =
    map-flat_map (λ (found : MatchParts). found.hit) (matches_on_range house matching) (hits_on_range house matching.segment.bytes)
    (ranges_of matching.segment) (λ (range : RangeFields).
    map-filter_map (λ (found : MatchParts). found.hit) (hit_on house matching.segment.bytes range)
    (λ (side : Side) (hit : Hit). record { hit = hit; county = matching.county; name = matching.name; side = side_of range side; bytes = matching.segment.bytes })
    (Left ∷ Right ∷ []) (λ side hit. refl))

-- the hits of a segment's matches
pub hits-segment : (street : StreetParts) (house : House) (place : ℕ) (segment : SegmentParts)
    → map (λ (found : MatchParts). found.hit) (matches_on_segment street house place segment)
    ≡ (if is_on_street street segment then hits_on_segment house segment else [])
hits-segment street house place segment = by (name_on street segment)
  where
    by : (name : Option FullNameFields)
        → map (λ (found : MatchParts). found.hit)
        (option_map_or (λ name. matches_under house (record { county = place; segment = segment; name = name })) name [])
        ≡ (if is_some name then hits_on_segment house segment else [])
    by None = refl
    by (Some name) = hits-under house (record { county = place; segment = segment; name = name })

pub none-of-map : {X Y : Type 0} (f : X → Y) (xs : List X) → map f xs ≡ [] → xs ≡ []
none-of-map f [] none = refl
none-of-map f (x ∷ xs) none = absurd (cc)

-- the hits of a county's matches
hits-county : (street : StreetParts) (house : House) (place : ℕ) (county : CountyParts)
    → map (λ (found : MatchParts). found.hit) (matches_in_county street house place county)
    ≡ flat_map (hits_on_segment house) (filter (is_on_street street) county.segments)
hits-county street house place county =
    map-flat_map (λ (found : MatchParts). found.hit) (matches_on_segment street house place)
    (λ segment. if is_on_street street segment then hits_on_segment house segment else []) county.segments
    (hits-segment street house place)
    ∙ sym (flat_map-filter (is_on_street street) (hits_on_segment house) county.segments)

hits-from : (street : StreetParts) (house : House) (place : ℕ) (counties : List CountyParts)
    → map (λ (found : MatchParts). found.hit) (matches_from street house place counties) ≡ hits_on_street street house counties
hits-from street house place [] = refl
hits-from street house place (county ∷ counties) =
    map-append (λ (found : MatchParts). found.hit) (matches_in_county street house place county)
    (matches_from street house (suc place) counties)
    ∙ ap (λ hits. hits ++ map (λ (found : MatchParts). found.hit) (matches_from street house (suc place) counties))
    (hits-county street house place county)
    ∙ ap (λ hits. flat_map (hits_on_segment house) (filter (is_on_street street) county.segments) ++ hits)
    (hits-from street house (suc place) counties)

-- the hits of matches are the hits on the segments that are on the street
pub hits_of_matches : (street : StreetParts) (house : House) (counties : List CountyParts)
    → map (λ (found : MatchParts). found.hit) (matches street house counties) ≡ hits_on_street street house counties
hits_of_matches street house counties = hits-from street house 0 counties

agrees-blank : (wanted field : List ℕ) → is_blank wanted ≡ true → agrees wanted field ≡ true
agrees-blank wanted field blank = rw blank refl

and-trues : (a b c d : Bool) → b ≡ true → c ≡ true → d ≡ true → (a && b && c && d) ≡ a
and-trues true b c d is is' is'' = rw (is, is', is'') refl
and-trues false b c d is is' is'' = refl

-- with the name alone wanted, a full name fits if and only if its FENAME does
pub fits-name : (street : StreetParts) (name : FullNameFields) → WantsNameAlone street
    → fits street name ≡ name_equals name.fename street.name
fits-name street name alone =
    and-trues (name_equals name.fename street.name) (agrees street.predir name.fedirp) (agrees street.kind name.fetype)
    (agrees street.sufdir name.fedirs) (agrees-blank street.predir name.fedirp alone.predir)
    (agrees-blank street.kind name.fetype alone.kind)
    (agrees-blank street.sufdir name.fedirs alone.sufdir)

-- and some full name fits if and only if some FENAME does
is_some-find : (street : StreetParts) (names : List FullNameFields) → WantsNameAlone street
    → is_some (find (fits street) names)
    ≡ list_any (λ named. name_equals named street.name) (map (λ (name : FullNameFields). name.fename) names)
is_some-find street [] alone = refl
is_some-find street (name ∷ names) alone =
    ap (λ (here : Bool). is_some (if here then Some name else find (fits street) names)) (fits-name street name alone)
    ∙ by (name_equals name.fename street.name) (is_some-find street names alone)
  where
    by : (here : Bool) → is_some (find (fits street) names)
        ≡ list_any (λ named. name_equals named street.name) (map (λ (name : FullNameFields). name.fename) names)
        → is_some (if here then Some name else find (fits street) names)
        ≡ (here || list_any (λ named. name_equals named street.name) (map (λ (name : FullNameFields). name.fename) names))
    by true later = refl
    by false later = later

-- and a segment is on the street if and only if it has the street's name
on_street-named : (street : StreetParts) (segment : SegmentParts) → WantsNameAlone street → IsSegment segment
    → is_on_street street segment ≡ has_name street.name segment
on_street-named street segment alone is =
    is_some-find street (full_names_of segment) alone
    ∙ ap (list_any (λ named. name_equals named street.name)) (names_of_full_names segment is)

-- equivalent tests pass the same elements
filter-same : {X : Type 0} (P : X → Type 0) (test other : X → Bool) (xs : List X) → ((x : X) → P x → test x ≡ other x) → All P xs
    → filter test xs ≡ filter other xs
filter-same P test other [] same all = refl
filter-same P test other (x ∷ xs) same all =
    ap (λ (passes : Bool). if passes then x ∷ filter test xs else filter test xs) (same x (All-head P x xs all))
    ∙ ap (λ passed. if other x then x ∷ passed else passed) (filter-same P test other xs same (All-tail P x xs all))

hits-named : (street : StreetParts) (house : House) (counties : List CountyParts) → WantsNameAlone street
    → All (λ (county : CountyParts). All IsSegment county.segments) counties
    → hits_on_street street house counties ≡ find_hits street.name house counties
hits-named street house [] alone all = refl
hits-named street house (county ∷ counties) alone all =
    let whole = λ (county : CountyParts). All IsSegment county.segments in
    ap (λ segments. flat_map (hits_on_segment house) segments ++ hits_on_street street house counties)
    (filter-same IsSegment (is_on_street street) (has_name street.name) county.segments
    (λ segment is. on_street-named street segment alone is) (All-head whole county counties all))
    ∙ ap (λ hits. hits_in_county street.name house county ++ hits)
    (hits-named street house counties alone (All-tail whole county counties all))

-- with neither a direction nor a type, the hits of matches are the hits of the name
pub hits_of_name : (street : StreetParts) (house : House) (counties : List CountyParts) → WantsNameAlone street
    → All (λ (county : CountyParts). All IsSegment county.segments) counties
    → map (λ (found : MatchParts). found.hit) (matches street house counties) ≡ find_hits street.name house counties
hits_of_name street house counties alone all = hits_of_matches street house counties ∙ hits-named street house counties alone all
