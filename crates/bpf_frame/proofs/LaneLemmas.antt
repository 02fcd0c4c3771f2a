-- Lanes of 64 bits, and the marks in them.
use Rattle.std.proofs.Common.{◌≡◌, ◌↔◌, ℕ, zero, suc, ◌+◌, ◌-◌, ◌*◌, ◌/◌, ◌%◌, ◌^◌, ◌<◌, ◌≤◌, min, max, Bool, false, ◌&&◌, ◌||◌, ◌==◌, inl}
use Rattle.std.proofs.Common.{inr, List, [], ◌∷◌, length, map, cond, not, w64, get_or, refl, ◌∙◌, sym, ap, subst, arith, bit_and, bit_or}
use Rattle.std.proofs.Common.{zero-add, not-suc-le-zero, le_of_suc-le-suc}
use Rattle.std.specs.Prelude.{IsTrue}
use Rattle.std.specs.Int.{bit_at, bit_not}
use Rattle.std.specs.Simd.Lanes.{zip2, mask_l, top}
use Rattle.std.proofs.lemmas.Bool.{eq-eqb, ne_eqb, both_ways, cases_eq, cases_lt, and_parts, and_from, and_left}
use Rattle.std.proofs.lemmas.List.{ext_get_or, get_or_past, get_or-map, length-map}
use Rattle.std.proofs.lemmas.List.FromFn.{get_or-map-range_with_len, length-map-range_with_len}
use Rattle.std.proofs.lemmas.Nat.{and_le_l}
use Rattle.std.proofs.lemmas.Nat.Bits.{bit_at_and, bit_at_or, bit_at_not, bit_at-lt, same_from_bits_below}
use Rattle.std.proofs.lemmas.Simd.{get_or-zip2, length-zip2, mask_l-mod, tops_compared}
use borrow.Author.Tests.{eqb-true}
use Rattle.bpf_frame.specs.FrameMap.{Contents, IsMarked, IsWithin, join_marks, join}
use Rattle.bpf_frame.specs.Lanes.{AreLanes, has_bit, marks_of}
use Rattle.bpf_frame.specs.OrderLaws.{is_join, same_tests, same_maps}
use Rattle.bpf_kinds.specs.Kind.{join_kinds}
use Rattle.bpf_kinds.specs.declared.kind.Kind.{Kind}

bit_cases : (P : ℕ → Type 0) → P 0 → P 1 → (x : ℕ) → x < 2 → P x
bit_cases P unset is_set zero below = unset
bit_cases P unset is_set (suc zero) below = is_set
bit_cases P unset is_set (suc (suc more)) below = absurd (not-suc-le-zero (le_of_suc-le-suc (le_of_suc-le-suc below)))

two_bits : (P : ℕ → ℕ → Type 0) → P 0 0 → P 0 1 → P 1 0 → P 1 1 → (a b i : ℕ) → P (bit_at a i) (bit_at b i)
two_bits P neither second first both a b i =
    bit_cases (λ x. P x (bit_at b i))
    (bit_cases (P 0) neither second (bit_at b i) (bit_at-lt b i))
    (bit_cases (P 1) first both (bit_at b i) (bit_at-lt b i))
    (bit_at a i)
    (bit_at-lt a i)

pub has_bit-and : (a b i : ℕ) → has_bit (bit_and a b) i ≡ (has_bit a i && has_bit b i)
has_bit-and a b i = ap (λ n. n == 1) (bit_at_and a b i) ∙ two_bits (λ x y. (min x y == 1) ≡ ((x == 1) && (y == 1))) refl refl refl refl a b
    i

pub has_bit-or : (a b i : ℕ) → has_bit (bit_or a b) i ≡ (has_bit a i || has_bit b i)
has_bit-or a b i = ap (λ n. n == 1) (bit_at_or a b i) ∙ two_bits (λ x y. (max x y == 1) ≡ ((x == 1) || (y == 1))) refl refl refl refl a b i

-- numbers of 64 bits with the same bits are equal
pub same_from_bits : (a b : ℕ) → a < 2 ^ 64 → b < 2 ^ 64 → ((i : ℕ) → i < 64 → has_bit a i ≡ has_bit b i) → a ≡ b
same_from_bits a b fits fits_too same =
    same_from_bits_below 64 a b fits fits_too
    (λ i below. two_bits (λ x y. (x == 1) ≡ (y == 1) → x ≡ y) (λ _. refl) (λ no. absurd (both_ways _ refl no))
    (λ no. absurd (both_ways _ refl (sym no))) (λ _. refl) a b i (same i below))

pub length-marks_of : (lanes : List ℕ) → length (marks_of lanes) ≡ 512
unfolding marks_of
length-marks_of lanes = length-map-range_with_len (λ at. has_bit (get_or lanes (at / 64) 0) (at % 64)) 0 512

pub get_or-marks_of : (lanes : List ℕ) (at : ℕ) → at < 512 → get_or (marks_of lanes) at false ≡ has_bit (get_or lanes (at / 64) 0) (at % 64)
unfolding marks_of
get_or-marks_of lanes at within = get_or-map-range_with_len (λ at. has_bit (get_or lanes (at / 64) 0) (at % 64)) 0 512 at at false within
    (zero-add at)

-- there are no marks outside the frame
pub marked_within : (lanes : List ℕ) (at : ℕ) → IsMarked (marks_of lanes) at → at < 512
marked_within lanes at marked =
    elim (cases_lt at 512) [
      | inl within ↦ within
      | inr beyond ↦ absurd (both_ways _ (get_or_past (marks_of lanes) at false
          (let long : length (marks_of lanes) ≤ at = omega (arith, length-marks_of lanes) in long)) marked)
    ]

-- a bit of a lane is the mark of one byte
pub mark_of_bit : (lanes : List ℕ) (lane bit : ℕ) → lane < 8 → bit < 64
    → get_or (marks_of lanes) (64 * lane + bit) false ≡ has_bit (get_or lanes lane 0) bit
mark_of_bit lanes lane bit within below =
    let its_lane : (64 * lane + bit) / 64 ≡ lane = omega arith in
    let its_bit : (64 * lane + bit) % 64 ≡ bit = omega arith in
    get_or-marks_of lanes (64 * lane + bit) (omega arith)
    ∙ ap (λ (k : ℕ). has_bit (get_or lanes k 0) ((64 * lane + bit) % 64)) its_lane
    ∙ ap (λ (i : ℕ). has_bit (get_or lanes lane 0) i) its_bit

-- lanes with the same marks are equal
marks_of_injective : (xs ys : List ℕ) → AreLanes xs → AreLanes ys → marks_of xs ≡ marks_of ys → xs ≡ ys
marks_of_injective xs ys lanes others same =
    ext_get_or 0 xs ys (lanes.count ∙ sym others.count)
    (λ lane short.
    let within : lane < 8 = omega (arith, lanes.count) in
    same_from_bits _ _ (lanes.fits lane 0 short) (others.fits lane 0 (omega (arith, others.count)))
    (λ bit below. sym (mark_of_bit xs lane bit within below) ∙ ap (λ (marks : List Bool). get_or marks (64 * lane + bit) false) same
    ∙ mark_of_bit ys lane bit within below))

-- an operation on the lanes of both as an operation on their marks
module _ (on_lanes : ℕ → ℕ → ℕ) where
  pub both_are_lanes : ((a b : ℕ) → a < 2 ^ 64 → b < 2 ^ 64 → on_lanes a b < 2 ^ 64) → (xs ys : List ℕ) → AreLanes xs → AreLanes ys
      → AreLanes (zip2 on_lanes xs ys)
  both_are_lanes fits xs ys lanes others = record {
    count = length-zip2 on_lanes xs ys (lanes.count ∙ sym others.count) ∙ lanes.count;
    fits = λ lane d short.
        let inside : lane < 8 = omega (arith, length-zip2 on_lanes xs ys (lanes.count ∙ sym others.count), lanes.count) in
        let left : lane < length xs = omega (arith, lanes.count) in
        let right : lane < length ys = omega (arith, others.count) in
        let below : ℕ → Type 0 = λ n. n < 2 ^ 64 in
        subst below (sym (get_or-zip2 on_lanes xs ys lane 0 0 d left right)) (fits _ _ (lanes.fits lane 0 left) (others.fits lane 0 right));
  }

  pub mark_of_both : (on_marks : Bool → Bool → Bool) → ((a b i : ℕ) → has_bit (on_lanes a b) i ≡ on_marks (has_bit a i) (has_bit b i))
      → (xs ys : List ℕ) (at : ℕ) → AreLanes xs → AreLanes ys → at < 512
      → get_or (marks_of (zip2 on_lanes xs ys)) at false ≡ on_marks (get_or (marks_of xs) at false) (get_or (marks_of ys) at false)
  mark_of_both on_marks bitwise xs ys at lanes others within =
      let its_lane : at / 64 < 8 = omega arith in
      get_or-marks_of (zip2 on_lanes xs ys) at within
      ∙ ap (λ (n : ℕ). has_bit n (at % 64)) (get_or-zip2 on_lanes xs ys (at / 64) 0 0 0 (omega (arith, lanes.count))
      (omega (arith, others.count)))
      ∙ bitwise (get_or xs (at / 64) 0) (get_or ys (at / 64) 0) (at % 64)
      ∙ sym (ap (λ (b : Bool). on_marks b (get_or (marks_of ys) at false)) (get_or-marks_of xs at within)
      ∙ ap (on_marks (has_bit (get_or xs (at / 64) 0) (at % 64))) (get_or-marks_of ys at within))

-- the lanes of both are lanes again, and contain the marks that both have
pub and_are_lanes : (xs ys : List ℕ) → AreLanes xs → AreLanes ys → AreLanes (zip2 bit_and xs ys)
and_are_lanes = both_are_lanes bit_and (λ a b fits _. let small : bit_and a b < 2 ^ 64 = omega (arith, and_le_l a b) in small)

pub marks_of-and : (xs ys : List ℕ) → AreLanes xs → AreLanes ys → marks_of (zip2 bit_and xs ys) ≡ join_marks (marks_of xs) (marks_of ys)
marks_of-and xs ys lanes others =
    is_join (marks_of xs) (marks_of ys) (marks_of (zip2 bit_and xs ys)) 512 (length-marks_of xs) (length-marks_of ys)
    (length-marks_of (zip2 bit_and xs ys))
    (λ at within. mark_of_both bit_and (λ a b. a && b) has_bit-and xs ys at lanes others within)

-- the lanes with all other marks
not_are_lanes : (xs : List ℕ) → AreLanes xs → AreLanes (map (bit_not w64) xs)
not_are_lanes xs lanes = record {
  count = length-map xs (bit_not w64) ∙ lanes.count;
  fits = λ lane d short.
      let inside : lane < length xs = omega (arith, length-map xs (bit_not w64)) in
      let below : ℕ → Type 0 = λ n. n < 2 ^ 64 in
      subst below (sym (get_or-map (bit_not w64) xs lane 0 d inside))
      (let small : bit_not w64 (get_or xs lane 0) < 2 ^ 64 = omega arith in small);
}

has_bit-not : (n i : ℕ) → n < 2 ^ 64 → i < 64 → has_bit (bit_not w64 n) i ≡ not (has_bit n i)
has_bit-not n i fits within = ap (λ m. m == 1) (bit_at_not w64 n i fits within)
    ∙ bit_cases (λ x. (1 - x == 1) ≡ not (x == 1)) refl refl (bit_at n i) (bit_at-lt n i)

mark_of_not : (xs : List ℕ) (at : ℕ) → AreLanes xs → at < 512
    → get_or (marks_of (map (bit_not w64) xs)) at false ≡ not (get_or (marks_of xs) at false)
mark_of_not xs at lanes within =
    let inside : at / 64 < length xs = omega (arith, lanes.count) in
    get_or-marks_of (map (bit_not w64) xs) at within
    ∙ ap (λ (n : ℕ). has_bit n (at % 64)) (get_or-map (bit_not w64) xs (at / 64) 0 0 inside)
    ∙ has_bit-not (get_or xs (at / 64) 0) (at % 64) (lanes.fits (at / 64) 0 inside) (omega arith)
    ∙ sym (ap not (get_or-marks_of xs at within))

-- the lanes without the marks of others
pub without_are_lanes : (xs ys : List ℕ) → AreLanes xs → AreLanes ys → AreLanes (zip2 bit_and xs (map (bit_not w64) ys))
without_are_lanes xs ys lanes others = and_are_lanes xs (map (bit_not w64) ys) lanes (not_are_lanes ys others)

pub mark_without : (xs ys : List ℕ) (at : ℕ) → AreLanes xs → AreLanes ys
    → get_or (marks_of (zip2 bit_and xs (map (bit_not w64) ys))) at
    false ≡ (get_or (marks_of xs) at false && not (get_or (marks_of ys) at false))
mark_without xs ys at lanes others =
    let all : List ℕ = zip2 bit_and xs (map (bit_not w64) ys) in
    elim (cases_lt at 512) [
      | inl within ↦
          mark_of_both bit_and (λ a b. a && b) has_bit-and xs (map (bit_not w64) ys) at lanes (not_are_lanes ys others) within
          ∙ ap (λ (b : Bool). get_or (marks_of xs) at false && b) (mark_of_not ys at others within)
      | inr beyond ↦
          get_or_past (marks_of all) at false (let long : length (marks_of all) ≤ at = omega (arith, length-marks_of all) in long)
          ∙ sym (and_left _ _ (get_or_past (marks_of xs) at false
          (let long : length (marks_of xs) ≤ at = omega (arith, length-marks_of xs) in long)))
    ]

-- the contents of lanes and kinds, as a clause sees them
abbrev pub contents : List ℕ → List Kind → Contents
contents lanes kinds = record { marks = marks_of lanes; kinds = kinds }

pub join_is : {xs ys : List ℕ} {joined : List Kind} (kinds others : List Kind) → AreLanes xs → AreLanes ys → joined ≡ join_kinds kinds others
    → contents (zip2 bit_and xs ys) joined ≡ join (contents xs kinds) (contents ys others)
join_is {xs} {ys} {joined} kinds others lanes other_lanes same =
    same_maps (contents (zip2 bit_and xs ys) joined) (join (contents xs kinds) (contents ys others))
    (marks_of-and xs ys lanes other_lanes) same

pub same_join : {map map' other other' : Contents} → map ≡ map' → other ≡ other' → join map other ≡ join map' other'
same_join {map' = map'} {other} same same' = ap (λ (m : Contents). join m other) same ∙ ap (join map') same'

-- what a comparison of two vectors tests: no lane differs
abbrev pub no_lane_differs : List ℕ → List ℕ → Bool
no_lane_differs xs ys = mask_l (map (top 63) (zip2 (λ a b. cond (not (a == b)) (2 ^ 64 - 1) 0) xs ys)) % 2 ^ 64 == 0

mask_of_same : (xs : List ℕ) → mask_l (zip2 (λ a b. not (a == b)) xs xs) ≡ 0
mask_of_same [] = refl
mask_of_same (x ∷ xs) = ap (λ (is : Bool). cond (not is) 1 0 + 2 * mask_l (zip2 (λ a b. not (a == b)) xs xs)) (eq-eqb x x refl)
    ∙ ap (λ n. 0 + 2 * n) (mask_of_same xs)

same_by_mask : (xs ys : List ℕ) → length xs ≡ length ys → mask_l (zip2 (λ a b. not (a == b)) xs ys) ≡ 0 → xs ≡ ys
same_by_mask [] [] count none = refl
same_by_mask [] (y ∷ ys) count none = absurd (omega arith)
same_by_mask (x ∷ xs) [] count none = absurd (omega arith)
same_by_mask (x ∷ xs) (y ∷ ys) count none =
    let mask : ℕ = mask_l (zip2 (λ a b. not (a == b)) xs ys) in
    elim (cases_eq x y) [
      | inl same ↦ ap (λ n. n ∷ xs) same ∙ ap (λ ns. y ∷ ns) (same_by_mask xs ys (omega arith) (let rest : mask ≡ 0 = omega arith in rest))
      | inr other ↦ let one : 1 + 2 * mask ≡ 0 = ap (λ (is : Bool). cond (not is) 1 0 + 2 * mask) (sym (ne_eqb x y other)) ∙ none in
          absurd (omega arith)
    ]

no_lane_differs-Decides : (xs ys : List ℕ) → length xs ≡ 8 → length ys ≡ 8 → IsTrue (no_lane_differs xs ys) ↔ (xs ≡ ys)
no_lane_differs-Decides xs ys count others =
    let lanes : length (zip2 (λ a b. not (a == b)) xs ys) ≤ 64 =
    omega (arith, length-zip2 (λ a b. not (a == b)) xs ys (count ∙ sym others)) in
    let mask : mask_l (map (top 63) (zip2 (λ a b. cond (not (a == b)) (2 ^ 64 - 1) 0) xs ys)) % 2 ^ 64 ≡ mask_l
    (zip2 (λ a b. not (a == b)) xs ys) =
    ap (λ (ms : List Bool). mask_l ms % 2 ^ 64) (tops_compared w64 (λ a b. not (a == b)) xs ys) ∙ mask_l-mod _ 64 lanes in (
      λ none. same_by_mask xs ys (count ∙ sym others) (sym mask ∙ eqb-true _ _ none),
      λ same. eq-eqb _ _ (mask ∙ ap (λ (zs : List ℕ). mask_l (zip2 (λ a b. not (a == b)) xs zs)) (sym same) ∙ mask_of_same xs),
    )

-- lanes have the marks of others if the marks in both are those of the others
marked_from_and : (xs ys : List ℕ) (at : ℕ) → AreLanes xs → AreLanes ys → zip2 bit_and xs ys ≡ ys → IsMarked (marks_of ys) at
    → IsMarked (marks_of xs) at
marked_from_and xs ys at lanes others same marked =
    (and_parts _ _
    (sym (mark_of_both bit_and (λ a b. a && b) has_bit-and xs ys at lanes others (marked_within ys at marked))
    ∙ ap (λ (zs : List ℕ). get_or (marks_of zs) at false) same ∙ marked)).0

and_from_marked : (xs ys : List ℕ) → AreLanes xs → AreLanes ys → ((at : ℕ) → IsMarked (marks_of ys) at → IsMarked (marks_of xs) at)
    → zip2 bit_and xs ys ≡ ys
and_from_marked xs ys lanes others has =
    marks_of_injective _ _ (and_are_lanes xs ys lanes others) others
    (ext_get_or false _ _ (length-marks_of _ ∙ sym (length-marks_of ys))
    (λ at short.
    let both = mark_of_both bit_and (λ a b. a && b) has_bit-and xs ys at lanes others
    (omega (arith, length-marks_of (zip2 bit_and xs ys))) in
    same_tests _ _ (λ marked. both ∙ and_from _ _ (has at marked) marked) (λ marked. (and_parts _ _ (sym both ∙ marked)).1)))

-- what the comparison of lanes says of their marks
pub leq_is : (xs ys : List ℕ) → AreLanes xs → AreLanes ys → IsTrue (no_lane_differs (zip2 bit_and xs ys) ys)
    ↔ ((at : ℕ) → IsMarked (marks_of ys) at → IsMarked (marks_of xs) at)
leq_is xs ys lanes others =
    let decides = no_lane_differs-Decides (zip2 bit_and xs ys) ys (and_are_lanes xs ys lanes others).count others.count in (
      λ is at marked. marked_from_and xs ys at lanes others (decides.0 is) marked,
      λ has. decides.1 (and_from_marked xs ys lanes others has),
    )

-- a fact about lanes and kinds is a fact about maps
pub within_seen : (xs ys : List ℕ) (kinds others : List Kind) (map other : Contents) → contents xs kinds ≡ map → contents ys others ≡ other
    → IsWithin (contents xs kinds) (contents ys others) ↔ IsWithin map other
within_seen xs ys kinds others map other seen other_seen =
    let left : Contents → Type 0 = λ m. IsWithin m other in
    let right : Contents → Type 0 = λ m. IsWithin (contents xs kinds) m in (
      λ is. subst left seen (subst right other_seen is),
      λ within. subst right (sym other_seen) (subst left (sym seen) within),
    )
