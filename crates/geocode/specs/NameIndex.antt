-- An index of the names of a county's segments: each key has a chain of the segments with a name that has this key.
use Rattle.std.specs.Prelude.{◌≡◌, ℕ, ◌-◌, ◌<◌, nat_eq, nat_le, Bool, false, if◌then◌else◌, List, [], ◌∷◌, Option, Some, None}
use Rattle.std.specs.Prelude.{All, slice_get, slice_index_or}
use Rattle.std.specs.List.{list_any}
use Rattle.std.specs.Option.{option_map_or}
use Rattle.tl_segments.specs.Segment.{SegmentParts, names_of}
use Rattle.geocode.specs.Candidates.{numbers_with, segment_at}
use Rattle.geocode.specs.NameHash.{hash_of, key_of}
use Rattle.geocode.specs.Span.{IncludesHits}
use Rattle.geocode.specs.declared.name_index.Chain.{Chain}
use Rattle.geocode.specs.declared.name_index.Link.{Link}
use Rattle.geocode.specs.declared.name_index.NameIndex.{NameIndex}
use Rattle.geocode.specs.declared.span.Span.{Span}

-- the segment has a name with this key: the name's hash, reduced to `keys` keys
abbrev pub has_key : ℕ → ℕ → SegmentParts → Bool
has_key keys key segment = list_any (λ name. nat_eq (key_of keys (hash_of name)) key) (names_of segment)

-- the link with a number, counted from 1
abbrev pub link_at : List Link → ℕ → Option Link
link_at links number = if nat_le 1 number then slice_get links (number - 1) else None

-- the link with this number belongs to this segment
abbrev pub is_link_of : List Link → ℕ → ℕ → Bool
is_link_of links number segment = option_map_or (λ link. nat_eq link.segment segment) (link_at links number) false

-- the link with this number belongs to this segment and is followed by the link numbered `next`
pub record IsLink (links : List Link) (number segment next : ℕ) : Type 0 where
  pub span : Span
  pub link : link_at links number ≡ Some (record { segment = segment; span = span; next = next })
  pub before : next < number

-- the links from this number on belong to these segments, in order; number 0 follows the last link
abbrev pub IsChain : List Link → ℕ → List ℕ → Type 0
IsChain links number [] = number ≡ 0
IsChain links number (segment ∷ segments) = (next : ℕ) × IsLink links number segment next × IsChain links next segments

-- the number of the first link of a key
abbrev pub first_of : {A : Type 0} → NameIndex A → ℕ → ℕ
first_of index key = slice_index_or index.firsts.items key 0

-- the segments of each key
abbrev pub HasChains : {A : Type 0} → NameIndex A → (ℕ → List ℕ) → Type 0
HasChains index chains = (key : ℕ) → IsChain index.links.items (first_of index key) (chains key)

-- each key has the numbers of those of these segments that have a name with it, in order; the first segment has this number
abbrev pub IsIndexFrom : {A : Type 0} → NameIndex A → ℕ → List SegmentParts → Type 0
IsIndexFrom index n segments = HasChains index (λ key. numbers_with (has_key index.keys key) n segments)

-- each link has a span of its segment's house numbers
abbrev pub HasSpans : List Link → List SegmentParts → Type 0
HasSpans links segments = All (λ (link : Link). IncludesHits link.span (segment_at segments link.segment)) links

-- each key has the segments of a county with a name that has this key, each with a span of its house numbers
pub record IsIndexOf {A : Type 0} (index : NameIndex A) (segments : List SegmentParts) : Type 0 where
  pub chains : IsIndexFrom index 0 segments
  pub spans : HasSpans index.links.items segments

-- the rest of a chain has the segments with these numbers, in order, and each link has a span of its segment's house numbers
pub record AreInChain {A : Type 0} (chain : Chain A) (segments : List SegmentParts) (numbers : List ℕ) : Type 0 where
  pub links : IsChain chain.index.now.links.items chain.number numbers
  pub spans : HasSpans chain.index.now.links.items segments

-- a segment in front of others, unless it is already the first
abbrev pub with_first : ℕ → List ℕ → List ℕ
with_first segment [] = segment ∷ []
with_first segment (first ∷ rest) = if nat_eq first segment then first ∷ rest else segment ∷ first ∷ rest

-- links were added only for this segment, with this span
abbrev pub AddsSpans : List Link → List Link → ℕ → Span → Type 0
AddsSpans old new segment span =
    (segments : List SegmentParts) → IncludesHits span (segment_at segments segment) → HasSpans old segments → HasSpans new segments

-- a segment with this span was put in front of the others of a key
pub record AddsTo {A : Type 0} (old new : NameIndex A) (key segment : ℕ) (span : Span) : Type 0 where
  pub keys : new.keys ≡ old.keys
  pub chains : (chains : ℕ → List ℕ) → HasChains old chains
      → HasChains new (λ q. if nat_eq key q then with_first segment (chains q) else chains q)
  pub spans : AddsSpans old.links.items new.links.items segment span

-- the segment is not the first of any key
abbrev pub IsNew : ℕ → (ℕ → List ℕ) → Type 0
IsNew segment chains = (key : ℕ) → with_first segment (chains key) ≡ segment ∷ chains key

-- a segment with this number and span was put in front of the others of the keys of these names
pub record AddsNames {A : Type 0} (old new : NameIndex A) (segment : ℕ) (span : Span) (names : List (List ℕ)) : Type 0 where
  pub keys : new.keys ≡ old.keys
  pub chains : (chains : ℕ → List ℕ) → HasChains old chains → IsNew segment chains
      → HasChains new (λ q. if list_any (λ name. nat_eq (key_of old.keys (hash_of name)) q) names then segment ∷ chains q else chains q)
  pub spans : AddsSpans old.links.items new.links.items segment span
