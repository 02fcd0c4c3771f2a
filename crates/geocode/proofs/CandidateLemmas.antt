-- Walks over the candidates of a search.
use Rattle.std.proofs.Common.{◌≡◌, ℕ, ◌+◌, ◌<◌, ◌≤◌, Bool, true, false, if◌then◌else◌, List, [], ◌∷◌, ◌++◌, length}
use Rattle.std.proofs.Common.{drop, unwrap_or, get_or, None, Some, refl, ap, sym, ◌∙◌, subst, arith, drop-cons, length-drop}
use Rattle.std.proofs.Common.{Option, ◌-◌, ◌^◌, add-one, append_assoc}
use Rattle.std.specs.List.{flat_map}
use Rattle.std.proofs.lemmas.List.{append-nil, drop_all, get_or-map}
use Rattle.std.proofs.lemmas.Option.{slice_get-get_or}
use Rattle.tl_segments.specs.Segment.{SegmentParts, blank_segment}
use Rattle.tl_segments.specs.County.{AreTlids, tlid_of}
use Rattle.geocode.specs.Candidates.{IsComplete, IsNext, numbers_with, segment_at}
use Rattle.geocode.specs.Hits.{has_name}
use Rattle.geocode.specs.Span.{IncludesHits}
use Rattle.geocode.specs.declared.candidates.Candidate.{Candidate}
use Rattle.geocode.proofs.HitLemmas.{tlids-long}
use Rattle.geocode.proofs.SpanLemmas.{whole_includes}

-- the numbers are less than the length
abbrev pub AreBelow : ℕ → List ℕ → Type 0
AreBelow count [] = Unit {0}
AreBelow count (n ∷ numbers) = (n < count) × AreBelow count numbers

pick-below : (passes : Bool) (count n : ℕ) (numbers : List ℕ) → n < count → AreBelow count numbers
    → AreBelow count (if passes then n ∷ numbers else numbers)
pick-below true count n numbers inside below = (inside, below)
pick-below false count n numbers inside below = below

numbers-below : (test : SegmentParts → Bool) (count n : ℕ) (segments : List SegmentParts) → n + length segments ≤ count
    → AreBelow count (numbers_with test n segments)
numbers-below test count n [] few = tt
numbers-below test count n (segment ∷ segments) few =
    pick-below (test segment) count n (numbers_with test (n + 1) segments) (omega (arith, few))
    (numbers-below test count (n + 1) segments (omega (arith, few)))

-- the segment with a number, and the ones after it
pub segment_at-drop : (segments : List SegmentParts) (n : ℕ) (segment : SegmentParts) (rest : List SegmentParts) → drop n segments ≡ segment ∷ rest
    → (segment_at segments n ≡ segment) × (drop (n + 1) segments ≡ rest)
segment_at-drop segments n segment rest is =
    let inside : n < length segments = omega (arith, length-drop n segments, ap length is) in
    let split : drop n segments ≡ get_or segments n segment ∷ drop (n + 1) segments = rw add-one (drop-cons segments n segment inside) in
    let both = sym split ∙ is in
    let same : get_or segments n segment ≡ segment = cc in
    let after : drop (n + 1) segments ≡ rest = cc in
    (ap (λ found. unwrap_or found blank_segment) (slice_get-get_or segments n segment inside) ∙ same, after)

-- the segment read at a number
pub segment_at-read : (segments : List SegmentParts) (n : ℕ) (segment : SegmentParts) → n < length segments → segment ≡ get_or segments n segment
    → segment_at segments n ≡ segment
segment_at-read segments n segment inside is =
    ap (λ found. unwrap_or found blank_segment) (slice_get-get_or segments n segment inside) ∙ sym is

-- and the number of its TLID
pub tlid_at-read : (tlids : List ℕ) (segments : List SegmentParts) (n : ℕ) (segment : SegmentParts) → AreTlids tlids segments
    → n < length segments → segment ≡ get_or segments n segment → tlid_of segment ≡ Some (get_or tlids n 0)
tlid_at-read tlids segments n segment same inside is =
    let within : n < length tlids = omega (arith, inside, tlids-long tlids segments same) in
    ap tlid_of is
    ∙ sym (get_or-map tlid_of segments n segment None inside)
    ∙ ap (λ found. get_or found n None) (sym same)
    ∙ get_or-map Some tlids n 0 None within

-- all segments are candidates
pub all-complete : {left : List ℕ → Type 0} (name : List ℕ) (segments : List SegmentParts)
    → left (numbers_with (λ segment. true) 0 segments) → IsComplete left name segments
all-complete name segments left = record { test = λ segment. true; left = left; complete = λ segment none. cc }

pick-give : {Y : Type 0} (passes : Bool) (g : ℕ → List Y) (n : ℕ) (numbers : List ℕ) {here after : List Y} → g n ≡ here
    → (passes ≡ false → here ≡ []) → flat_map g numbers ≡ after
    → flat_map g (if passes then n ∷ numbers else numbers) ≡ here ++ after
pick-give true g n numbers is nothing rest = cc
pick-give false g n numbers {here} is nothing rest = let none : here ≡ [] = nothing refl in rw none rest

-- the results for the numbered segments that pass a test, if the other segments have no results
numbers-give : {Y : Type 0} (f : SegmentParts → List Y) (test : SegmentParts → Bool) (segments : List SegmentParts) (n : ℕ) (rest : List SegmentParts)
    → drop n segments ≡ rest → ((segment : SegmentParts) → test segment ≡ false → f segment ≡ [])
    → flat_map (λ n. f (segment_at segments n)) (numbers_with test n rest) ≡ flat_map f rest
numbers-give f test segments n [] is nothing = refl
numbers-give f test segments n (segment ∷ rest) is nothing =
    let at = segment_at-drop segments n segment rest is in
    pick-give (test segment) (λ n. f (segment_at segments n)) n (numbers_with test (n + 1) rest)
    (ap f at.0) (nothing segment) (numbers-give f test segments (n + 1) rest at.1 nothing)

-- the results so far, and those for the candidates that are left, are all results
pub record IsWalked {Y : Type 0} (f : SegmentParts → List Y) (segments : List SegmentParts) (are_left : List ℕ → Type 0) (now all : List Y)
    : Type 0 where
  pub rest : List ℕ
  pub left : are_left rest
  pub below : AreBelow (length segments) rest
  pub so_far : now ++ flat_map (λ n. f (segment_at segments n)) rest ≡ all

-- what is known when `next` has returned a candidate
abbrev pub Returns : List SegmentParts → (List ℕ → Type 0) → (List ℕ → Type 0) → Option Candidate → Type 0
Returns segments left left' found = (numbers : List ℕ) → left numbers → IsNext segments left' numbers found

-- one more candidate
pub record IsWalkedTo {Y : Type 0} (f : SegmentParts → List Y) (segments : List SegmentParts) (left : List ℕ → Type 0) (now all : List Y)
    (candidate : Candidate) : Type 0 where
  pub inside : candidate.segment < length segments
  pub includes : IncludesHits candidate.span (segment_at segments candidate.segment)
  pub walked : (now' : List Y) → now' ≡ now ++ f (segment_at segments candidate.segment) → IsWalked f segments left now' all

module _ {Y : Type 0} (f : SegmentParts → List Y) (segments : List SegmentParts) where
  -- a walk over candidates that omit only segments without results
  pub walked-start : {left : List ℕ → Type 0} (name : List ℕ) (start : List Y) → IsComplete left name segments
      → ((segment : SegmentParts) → has_name name segment ≡ false → f segment ≡ []) → IsWalked f segments left start (start ++ flat_map f segments)
  walked-start name start complete nothing = record {
    rest = numbers_with complete.test 0 segments;
    left = complete.left;
    below = numbers-below complete.test (length segments) 0 segments (omega arith);
    so_far = ap (λ ys. start ++ ys) (numbers-give f complete.test segments 0 segments refl
        (λ segment none. nothing segment (complete.complete segment none)));
  }

  pub walked-next : {left left' : List ℕ → Type 0} {now all : List Y} {candidate : Candidate} → IsWalked f segments left now all
      → Returns segments left left' (Some candidate) → IsWalkedTo f segments left' now all candidate
  walked-next {left} {left'} {now} {all} {candidate} walked returns =
      by walked.rest walked.below walked.so_far (returns walked.rest walked.left)
    where
      by : (rest : List ℕ) → AreBelow (length segments) rest → now ++ flat_map (λ n. f (segment_at segments n)) rest ≡ all
          → IsNext segments left' rest (Some candidate) → IsWalkedTo f segments left' now all candidate
      by [] below so_far none = absurd (cc)
      by (n ∷ rest) below so_far (is, left) =
          let same : ◌≡◌ {A = Candidate} (record { segment = n; span = is.span }) candidate = let found = is.candidate in cc in
          subst (λ candidate. IsWalkedTo f segments left' now all candidate) same (record {
            inside = below.0;
            includes = is.includes;
            walked = λ now' next. record {
              rest = rest;
              left = left;
              below = below.1;
              so_far = ap (λ now. now ++ flat_map (λ n. f (segment_at segments n)) rest) next
                  ∙ append_assoc now (f (segment_at segments n)) (flat_map (λ n. f (segment_at segments n)) rest) ∙ so_far;
            };
          })

  -- after the last candidate the walk has all results
  pub walked-end : {left left' : List ℕ → Type 0} {now all : List Y} → IsWalked f segments left now all
      → Returns segments left left' None → now ≡ all
  walked-end {left} {left'} {now} {all} walked returns =
      by walked.rest walked.so_far (returns walked.rest walked.left)
    where
      by : (rest : List ℕ) → now ++ flat_map (λ n. f (segment_at segments n)) rest ≡ all → IsNext segments left' rest None → now ≡ all
      by [] so_far is = sym (append-nil now) ∙ so_far
      by (n ∷ rest) so_far (is, left) = let clash = is.candidate in cc

-- the next of all segments
pub all-next : (segments : List SegmentParts) (n : ℕ) (left : List ℕ → Type 0) → n < length segments
    → left (numbers_with (λ segment. true) (n + 1) (drop (n + 1) segments))
    → IsNext segments left (numbers_with (λ segment. true) n (drop n segments))
    (Some (record { segment = n; span = record { low = 0; high = 2 ^ 16 - 1 } }))
all-next segments n left inside after =
    let split : drop n segments ≡ get_or segments n blank_segment ∷ drop (n + 1) segments =
    rw add-one (drop-cons segments n blank_segment inside) in
    rw split (
      record {
        span = record { low = 0; high = 2 ^ 16 - 1 };
        candidate = refl;
        includes = whole_includes (segment_at segments n);
      },
      after,
    )

-- after the last of them
pub all-end : (segments : List SegmentParts) (n : ℕ) (left : List ℕ → Type 0) → length segments ≤ n
    → IsNext segments left (numbers_with (λ segment. true) n (drop n segments)) None
all-end segments n left last = rw (drop_all n segments last) refl
