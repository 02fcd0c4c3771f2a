-- A table of shapes: what one more line adds to it.
use Rattle.std.proofs.Common.{◌≡◌, ℕ, ◌+◌, ◌*◌, ◌<◌, ◌≤◌, ◌^◌, ◌==◌, nat_eq, Bool, true, false, cond, if◌then◌else◌, List, [], ◌∷◌, ◌++◌, length, map, drop}
use Rattle.std.proofs.Common.{All, Option, Some, None, is_some, unwrap_or, slice_index, Result, Ok, Err, IfOk, refl, sym, ap, subst, ◌∙◌, append-nil, length-append, arith}
use Rattle.std.specs.declared.alloc.AllocError.{AllocError}
use Rattle.std.specs.BTreeMap.{is_at}
use Rattle.std.specs.List.{filter, flat_map, insert, range_with_len}
use Rattle.std.specs.Map.{lookup}
use Rattle.std.specs.Option.{option_eq, option_map, option_map_or}
use Rattle.std.specs.Ordering.{nat_cmp}
use Rattle.std.proofs.lemmas.Bool.{eq-eqb, eqb-true}
use Rattle.std.proofs.lemmas.List.{length-map, map-append, nil_from_length}
use Rattle.std.proofs.lemmas.List.Elements.{All-filter, All-map, All-weaker, filter-append, filter_passes}
use Rattle.std.proofs.lemmas.Map.Made.{lookup-map_values}
use Rattle.std.proofs.Math.Seq.{drop-append_seam, take-append_seam}
use Rattle.tl_fields.specs.Number.{number_of}
use Rattle.tl_fields.proofs.NumberLemmas.{number_of_lt}
use Rattle.tl_records.specs.Layout.{field_at, places, type2}
use Rattle.tl_records.specs.Records.{IsValidLine}
use Rattle.tl_records.specs.declared.fault.LineFaultKind.TheVariants.{BadSequence, BadTlid, WrongLength, WrongType}
use Rattle.tl_segments.specs.Adding.{IsAdded}
use Rattle.tl_segments.specs.Joining.{lines_with, number_in}
use Rattle.tl_segments.specs.Loading.{AreValidLines}
use Rattle.tl_segments.specs.Shape.{IsPlace, IsTaken, HasDistinctSequences, ShapePartParts, has_sequence, lines_at, part_in, points_in, sequence_in, sequences, shape_lines, shape_parts}
use Rattle.tl_segments.specs.Shape.{shape_points}
use Rattle.tl_segments.specs.Shapes.{entries_in, parts_at}
use Rattle.tl_segments.specs.TableContents.{HoldsShapes, InsertsAt, MatchAddition, list_at}
use Rattle.tl_segments.specs.declared.county_file.Addition.{Addition}
use Rattle.tl_segments.specs.declared.county_file.Addition.TheVariants.{Added, OverLimit, Repeated}
use Rattle.tl_segments.specs.declared.fault.CountyFile.TheVariants.{Rt2}
use Rattle.tl_segments.specs.declared.limits.TheConstants.{MAX_LINES_PER_TLID, MAX_POINTS}
use Rattle.tl_segments.specs.declared.multi_map.MultiMap.{MultiMap}
use Rattle.tl_segments.proofs.JoiningLemmas.{few-push, lines_with-push, not_few-push}
use Rattle.tl_segments.proofs.OrderLemmas.{Splits, length_ordered, one_place, some_same, splits}
use Rattle.tl_segments.proofs.ShapeLemmas.{few_points_in}

sequences_are : (n : ℕ) → n ≡ 1000 → sequences ≡ range_with_len 0 n
unfolding sequences
sequences_are n e = ap (range_with_len 0) (sym e)

-- no lines have no shape
pub no_parts : (tlid : ℕ) → shape_parts [] tlid ≡ []
no_parts tlid = ap (map part_in) (none sequences)
  where
    none : (ns : List ℕ) → flat_map (λ s. lines_at tlid s []) ns ≡ []
    none [] = refl
    none (n ∷ ns) = none ns

-- the parts of a TLID's shape are those in the table

mapped_or_none : {X : Type 0} {V : Type 0} (f : X → List V) (found : Option X) → unwrap_or (option_map f found) [] ≡ option_map_or f found []
mapped_or_none f (Some x) = refl
mapped_or_none f None = refl

pub parts_in_table : {A : Type 0} (table : MultiMap ShapePartParts A) (tlid : ℕ)
    → parts_at (record { entries = entries_in table }) tlid ≡ list_at table tlid
parts_in_table table tlid =
    ap (λ found. unwrap_or found []) (lookup-map_values (λ list. list.items) (is_at (nat_cmp tlid)) table.lists.entries)
    ∙ mapped_or_none (λ list. list.items) (lookup (is_at (nat_cmp tlid)) table.lists.entries)

-- Sequence numbers

numbered_by : (found : Option ℕ) → (if is_some found then None else Some BadSequence) ≡ None → (sequence : ℕ) × (found ≡ Some sequence)
numbered_by None good = absurd (cc)
numbered_by (Some sequence) good = (sequence, refl)

sequenced_by : (long typed numbered : Bool) (found : Option ℕ)
    → (if long then (if typed then (if numbered then (if is_some found then None else Some BadSequence) else Some BadTlid) else Some WrongType)
    else Some WrongLength) ≡ None → (sequence : ℕ) × (found ≡ Some sequence)
sequenced_by true true true found good = numbered_by found good
sequenced_by true true false found good = absurd (cc)
sequenced_by true false numbered found good = absurd (cc)
sequenced_by false typed numbered found good = absurd (cc)

-- a good line has a sequence number of three digits
sequenced : (line : List ℕ) → IsValidLine type2 line → (sequence : ℕ) × (sequence < 1000) × (sequence_in line ≡ Some sequence)
sequenced line good =
    let found = sequenced_by (length line == 208) (slice_index line 0 == 50) (is_some (number_of (field_at (places 6 15) line))) (sequence_in line)
    good.no_fault in
    let short : found.0 < 10 ^ 3 = number_of_lt line 16 18 found.0 found.1 in
    (found.0, omega (arith, short), found.1)

-- whether a line has a given sequence number, decided by the one that it has
has_sequence_by : (line : List ℕ) (sequence : ℕ) → sequence_in line ≡ Some sequence → (s : ℕ) → has_sequence s line ≡ nat_eq sequence s
has_sequence_by line sequence is s = ap (λ found. option_eq nat_eq found (Some s)) is

found_is : (found : Option ℕ) (s : ℕ) → option_eq nat_eq found (Some s) ≡ true → unwrap_or found 0 ≡ s
found_is None s has = absurd (cc)
found_is (Some sequence) s has = eqb-true sequence s has

-- the sequence number of a line's part
abbrev sequence_of : List ℕ → ℕ
sequence_of line = unwrap_or (sequence_in line) 0

-- the order of sequence numbers keeps all lines with a TLID
pub all_in_order : (rt2 : List (List ℕ)) (tlid : ℕ) → All (IsValidLine type2) rt2 → length (shape_lines rt2 tlid) ≡ length (lines_with Rt2 tlid rt2)
all_in_order rt2 tlid good = by 1000 refl
  where
    by : (n : ℕ) → n ≡ 1000 → length (shape_lines rt2 tlid) ≡ length (lines_with Rt2 tlid rt2)
    by n e =
        let lines = lines_with Rt2 tlid rt2 in
        let Has : List ℕ → Type 0 = λ line. (k : ℕ) × (k < n) × ((s : ℕ) → has_sequence s line ≡ nat_eq k s) in
        ap (λ ns. length (flat_map (λ sequence. lines_at tlid sequence rt2) ns)) (sequences_are n e)
        ∙ length_ordered has_sequence n lines (All-filter (λ line. option_eq nat_eq (number_in Rt2 line) (Some tlid)) Has rt2
        (All-weaker (IsValidLine type2) Has (λ line valid. let has = sequenced line valid in
        (has.0, omega (arith, has.1, e), has_sequence_by line has.0 has.2)) rt2 good))

keys : (lines : List (List ℕ)) → map (λ (part : ShapePartParts). part.sequence) (map part_in lines) ≡ map sequence_of lines
keys [] = refl
keys (line ∷ lines) = ap (λ l. sequence_of line ∷ l) (keys lines)

-- type 2 lines without a fault, whose shapes a table has, are followed by a line with this TLID and this sequence number
pub record FollowsShapes {A : Type 0} (table : MultiMap ShapePartParts A) (rt2 : List (List ℕ)) (line : List ℕ) (tlid sequence : ℕ) : Type 0 where
  pub holds : HoldsShapes table rt2
  pub valid : AreValidLines Rt2 rt2
  pub numbered : number_in Rt2 line ≡ Some tlid
  pub has : sequence_in line ≡ Some sequence
  pub small : sequence < 1000

module _ {A : Type 0} {old : MultiMap ShapePartParts A} {rt2 : List (List ℕ)} {line : List ℕ} {tlid sequence : ℕ}
    (follows : FollowsShapes old rt2 line tlid sequence) where
  -- the lines with a TLID, after this line
  lines_same : lines_with Rt2 tlid (rt2 ++ line ∷ []) ≡ lines_with Rt2 tlid rt2 ++ line ∷ []
  lines_same =
      lines_with-push Rt2 rt2 line tlid tlid follows.numbered
      ∙ ap (λ b. lines_with Rt2 tlid rt2 ++ cond b (line ∷ []) []) (eq-eqb tlid tlid refl)

  lines_other : (q : ℕ) → nat_eq tlid q ≡ false → lines_with Rt2 q (rt2 ++ line ∷ []) ≡ lines_with Rt2 q rt2
  lines_other q other =
      lines_with-push Rt2 rt2 line tlid q follows.numbered
      ∙ ap (λ b. lines_with Rt2 q rt2 ++ cond b (line ∷ []) []) other ∙ append-nil (lines_with Rt2 q rt2)

  lines_at-same : (s : ℕ)
      → lines_at tlid s (rt2 ++ line ∷ []) ≡ lines_at tlid s rt2 ++ cond (nat_eq sequence s) (line ∷ []) []
  lines_at-same s =
      ap (filter (has_sequence s)) lines_same
      ∙ filter-append (has_sequence s) (lines_with Rt2 tlid rt2) (line ∷ [])
      ∙ ap (λ b. lines_at tlid s rt2 ++ cond b (line ∷ []) []) (has_sequence_by line sequence follows.has s)

  -- no repeat, if no earlier line has the same two numbers
  distinct_with : length (lines_at tlid sequence rt2) ≡ 0 → HasDistinctSequences Rt2 (rt2 ++ line ∷ [])
  distinct_with none q s = by (nat_eq tlid q) refl
    where
      by_sequence : (same : Bool) → nat_eq sequence s ≡ same → length (lines_at tlid s rt2 ++ cond same (line ∷ []) []) ≤ 1
      by_sequence true e =
          let here : length (lines_at tlid s rt2) ≡ 0 = subst (λ s. length (lines_at tlid s rt2) ≡ 0) (eqb-true sequence s e) none in
          omega (arith, here, length-append (lines_at tlid s rt2) (line ∷ []))
      by_sequence false e = omega (arith, follows.valid.distinct tlid s, length-append (lines_at tlid s rt2) [])

      by : (same : Bool) → nat_eq tlid q ≡ same → length (lines_at q s (rt2 ++ line ∷ [])) ≤ 1
      by true e =
          subst (λ q. length (lines_at q s (rt2 ++ line ∷ [])) ≤ 1) (eqb-true tlid q e)
          (subst (λ lines. length lines ≤ 1) (sym (lines_at-same s)) (by_sequence (nat_eq sequence s) refl))
      by false e =
          subst (λ lines. length (filter (has_sequence s) lines) ≤ 1) (sym (lines_other q e)) (follows.valid.distinct q s)

  not_distinct_with : 1 ≤ length (lines_at tlid sequence rt2) → ¬ HasDistinctSequences Rt2 (rt2 ++ line ∷ [])
  not_distinct_with some distinct =
      let two : length (lines_at tlid sequence (rt2 ++ line ∷ [])) ≡ length (lines_at tlid sequence rt2) + 1 =
      ap length (lines_at-same sequence)
      ∙ ap (λ b. length (lines_at tlid sequence rt2 ++ cond b (line ∷ []) [])) (eq-eqb sequence sequence refl)
      ∙ length-append (lines_at tlid sequence rt2) (line ∷ []) in
      let one = distinct tlid sequence in
      omega arith

  -- a table has as many parts of a TLID's shape as the TLID has lines
  count_is : length (list_at old tlid) ≡ length (lines_with Rt2 tlid rt2)
  count_is =
      ap length (follows.holds tlid) ∙ length-map (shape_lines rt2 tlid) part_in ∙ all_in_order rt2 tlid follows.valid.good

  module _ (n : ℕ) (e : n ≡ 1000) where
    apart : Splits has_sequence n sequence (lines_with Rt2 tlid rt2) line
    apart =
        splits has_sequence n sequence (lines_with Rt2 tlid rt2) line (omega (arith, follows.small, e))
        (has_sequence_by line sequence follows.has)

    lines_before : shape_lines rt2 tlid ≡ apart.lower ++ (lines_at tlid sequence rt2 ++ apart.higher)
    lines_before = ap (flat_map (λ s. lines_at tlid s rt2)) (sequences_are n e) ∙ apart.before

    lines_after : shape_lines (rt2 ++ line ∷ []) tlid ≡ apart.lower ++ ((lines_at tlid sequence rt2 ++ line ∷ []) ++ apart.higher)
    lines_after =
        ap (λ lines. flat_map (λ s. filter (has_sequence s) lines) sequences) lines_same
        ∙ ap (flat_map (λ s. filter (has_sequence s) (lines_with Rt2 tlid rt2 ++ line ∷ []))) (sequences_are n e) ∙ apart.after

    keys_are : map (λ (part : ShapePartParts). part.sequence) (list_at old tlid)
        ≡ map sequence_of apart.lower ++ (map sequence_of (lines_at tlid sequence rt2) ++ map sequence_of apart.higher)
    keys_are =
        ap (map (λ (part : ShapePartParts). part.sequence)) (follows.holds tlid)
        ∙ keys (shape_lines rt2 tlid) ∙ ap (map sequence_of) lines_before
        ∙ map-append sequence_of apart.lower (lines_at tlid sequence rt2 ++ apart.higher)
        ∙ ap (λ l. map sequence_of apart.lower ++ l) (map-append sequence_of (lines_at tlid sequence rt2) apart.higher)

    long : length (list_at old tlid)
        ≡ length (map sequence_of apart.lower ++ (map sequence_of (lines_at tlid sequence rt2) ++ map sequence_of apart.higher))
    long = sym (length-map (list_at old tlid) (λ (part : ShapePartParts). part.sequence)) ∙ ap length keys_are

    lower_keys : All (λ s. s < sequence) (map sequence_of apart.lower)
    lower_keys = All-map (λ s. s < sequence) sequence_of apart.lower
        (All-weaker (λ y. (s : ℕ) × (s < sequence) × (has_sequence s y ≡ true)) (λ y. sequence_of y < sequence)
        (λ y has. let is = found_is (sequence_in y) has.0 has.2 in subst (λ s. s < sequence) (sym is) has.1) apart.lower apart.are_lower)

    same_keys : All (λ s. s ≡ sequence) (map sequence_of (lines_at tlid sequence rt2))
    same_keys = All-map (λ s. s ≡ sequence) sequence_of (lines_at tlid sequence rt2)
        (All-weaker (λ y. has_sequence sequence y ≡ true) (λ y. sequence_of y ≡ sequence) (λ y has. found_is (sequence_in y) sequence has)
        (lines_at tlid sequence rt2) (filter_passes (has_sequence sequence) (lines_with Rt2 tlid rt2)))

    higher_keys : All (λ s. sequence < s) (map sequence_of apart.higher)
    higher_keys = All-map (λ s. sequence < s) sequence_of apart.higher
        (All-weaker (λ y. (s : ℕ) × (sequence < s) × (has_sequence s y ≡ true)) (λ y. sequence < sequence_of y)
        (λ y has. let is = found_is (sequence_in y) has.0 has.2 in subst (λ s. sequence < s) (sym is) has.1) apart.higher apart.are_higher)

    -- the place of a new line follows the lines with smaller sequence numbers, and none has an equal one
    place_is : (place : ℕ) → IsPlace (list_at old tlid) sequence place
        → (place ≡ length apart.lower) × (length (lines_at tlid sequence rt2) ≡ 0)
    place_is place is =
        let one = one_place sequence (map sequence_of apart.lower) (map sequence_of (lines_at tlid sequence rt2)) (map sequence_of apart.higher)
        lower_keys same_keys higher_keys place (omega (arith, is.within, long))
        (λ i here. subst (λ (keys : List ℕ). slice_index keys i < sequence) keys_are (is.after i here))
        (λ i from to. subst (λ (keys : List ℕ). sequence < slice_index keys i) keys_are (is.before i from (omega (arith, to, long)))) in
        (one.0 ∙ length-map apart.lower sequence_of, sym (length-map (lines_at tlid sequence rt2) sequence_of) ∙ one.1)

    taken_is : IsTaken (list_at old tlid) sequence → 1 ≤ length (lines_at tlid sequence rt2)
    taken_is (k, inside, equal) =
        let some = some_same sequence (map sequence_of apart.lower) (map sequence_of (lines_at tlid sequence rt2))
        (map sequence_of apart.higher) lower_keys same_keys higher_keys k (omega (arith, inside, long))
        (subst (λ (keys : List ℕ). slice_index keys k ≡ sequence) keys_are equal) in
        omega (arith, some, length-map (lines_at tlid sequence rt2) sequence_of)

    -- the parts with this line's part in its place
    inserted : (place : ℕ) (part : ShapePartParts) → part ≡ part_in line → place ≡ length apart.lower
        → lines_at tlid sequence rt2 ≡ [] → insert (list_at old tlid) place part ≡ shape_parts (rt2 ++ line ∷ []) tlid
    inserted place part is at none =
        let lower = map part_in apart.lower in
        let higher = map part_in apart.higher in
        let parts : list_at old tlid ≡ lower ++ higher =
        follows.holds tlid ∙ ap (map part_in) lines_before
        ∙ ap (λ l. map part_in (apart.lower ++ (l ++ apart.higher))) none ∙ map-append part_in apart.lower apart.higher in
        let here : place ≡ length lower = at ∙ sym (length-map apart.lower part_in) in
        let whole : shape_parts (rt2 ++ line ∷ []) tlid ≡ lower ++ part_in line ∷ higher =
        ap (map part_in) lines_after ∙ ap (λ l. map part_in (apart.lower ++ ((l ++ line ∷ []) ++ apart.higher))) none
        ∙ map-append part_in apart.lower (line ∷ apart.higher) in
        ap (λ l. insert l place part) parts
        ∙ ap (λ n. insert (lower ++ higher) n part) here
        ∙ ap (λ l. l ++ part ∷ drop (length lower) (lower ++ higher)) (take-append_seam lower higher)
        ∙ ap (λ l. lower ++ part ∷ l) (drop-append_seam lower higher)
        ∙ ap (λ part. lower ++ part ∷ higher) is
        ∙ sym whole

    holds_by : (new : MultiMap ShapePartParts A) (part : ShapePartParts) → part ≡ part_in line → part.sequence ≡ sequence
        → InsertsAt old new tlid part
        → (length (lines_at tlid sequence rt2) ≡ 0) × HoldsShapes new (rt2 ++ line ∷ [])
    holds_by new part is numbered adds =
        let place = place_is adds.place (subst (λ s. IsPlace (list_at old tlid) s adds.place) numbered adds.is_place) in
        let here = inserted adds.place part is place.0 (nil_from_length (lines_at tlid sequence rt2) place.1) in
        let list_of : (q : ℕ) (has : Bool) → nat_eq tlid q ≡ has
        → (if has then insert (list_at old q) adds.place part else list_at old q) ≡ shape_parts (rt2 ++ line ∷ []) q =
        λ q. elim [
          | true ↦ λ e. subst (λ q. insert (list_at old q) adds.place part ≡ shape_parts (rt2 ++ line ∷ []) q) (eqb-true tlid q e) here
          | false ↦ λ e. follows.holds q
              ∙ ap (λ lines. map part_in (flat_map (λ s. filter (has_sequence s) lines) sequences)) (sym (lines_other q e))
        ] in
        (place.1, λ q. adds.lists q ∙ list_of q (nat_eq tlid q) refl)

  -- the line is added, or refused as one too many or as a repeat
  pub shape_added : (new : MultiMap ShapePartParts A) (part : ShapePartParts) → part ≡ part_in line → part.sequence ≡ sequence
      → (result : Result Addition AllocError)
      → IfOk result (λ addition. MatchAddition addition (InsertsAt old new tlid part) (MAX_LINES_PER_TLID ≤ length (list_at old tlid))
      ((length (list_at old tlid) < MAX_LINES_PER_TLID) × IsTaken (list_at old tlid) part.sequence))
      → IfOk result (IsAdded Rt2 rt2 line (HoldsShapes new))
  shape_added new part is numbered (Ok Added) adds =
      let done = holds_by 1000 refl new part is numbered adds in (
        few-push Rt2 rt2 line tlid follows.numbered follows.valid.within (omega (arith, adds.room, count_is)),
        distinct_with done.0,
        done.1,
      )
  shape_added new part is numbered (Ok OverLimit) full =
      not_few-push Rt2 rt2 line tlid follows.numbered (omega (arith, full, count_is))
  shape_added new part is numbered (Ok Repeated) taken = (
    few-push Rt2 rt2 line tlid follows.numbered follows.valid.within (omega (arith, taken.0, count_is)),
    not_distinct_with (taken_is 1000 refl (subst (λ s. IsTaken (list_at old tlid) s) numbered taken.1)),
  )
  shape_added new part is numbered (Err error) taken = tt

-- Laws

few_points_of : (lines : List (List ℕ)) → length (flat_map points_in lines) ≤ 10 * length lines
few_points_of [] = omega arith
few_points_of (line ∷ lines) =
    omega (arith, few_points_of lines, few_points_in line, length-append (points_in line) (flat_map points_in lines))

-- a shape has at most ten points for each line that its TLID may have
pub few_points : (rt2 : List (List ℕ)) → AreValidLines Rt2 rt2 → (tlid : ℕ) → length (shape_points rt2 tlid) ≤ MAX_POINTS
few_points rt2 valid tlid =
    omega (arith, few_points_of (shape_lines rt2 tlid), all_in_order rt2 tlid valid.good, valid.within tlid)

points_of_parts : (lines : List (List ℕ))
    → flat_map (λ (part : ShapePartParts). part.points) (map part_in lines) ≡ flat_map points_in lines
points_of_parts [] = refl
points_of_parts (line ∷ lines) = ap (λ l. points_in line ++ l) (points_of_parts lines)

-- the points of a shape's parts are those of the shape
pub parts_have_points : (rt2 : List (List ℕ)) (tlid : ℕ)
    → flat_map (λ (part : ShapePartParts). part.points) (shape_parts rt2 tlid) ≡ shape_points rt2 tlid
parts_have_points rt2 tlid = points_of_parts (shape_lines rt2 tlid)

pub has_all_lines : (rt2 : List (List ℕ)) → AreValidLines Rt2 rt2 → (tlid : ℕ)
    → length (shape_lines rt2 tlid) ≡ length (lines_with Rt2 tlid rt2)
has_all_lines rt2 valid tlid = all_in_order rt2 tlid valid.good
