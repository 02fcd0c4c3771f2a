-- Lanes in which the bytes of a range are marked, and their effect on a map.
use Rattle.std.proofs.Common.{◌≡◌, ◌↔◌, ℕ, ◌+◌, ◌-◌, ◌*◌, ◌/◌, ◌%◌, ◌^◌, ◌<◌, ◌≤◌, Bool, true, false, not, ◌||◌, ◌&&◌, ◌==◌, ◌⊎◌, inl, inr}
use Rattle.std.proofs.Common.{List, length, get_or, set, replicate, refl, ◌∙◌, sym, ap, subst, arith, bit_and, bit_or}
use Rattle.std.specs.Prelude.{IsTrue}
use Rattle.std.specs.Int.{bit_at}
use Rattle.std.specs.Simd.Lanes.{zip2}
use Rattle.std.proofs.lemmas.Bool.{both_ways, cases_eq, cases_lt, and_parts, and_from, and_right, cases_Bool, or_cases, or_left, or_right}
use Rattle.std.proofs.lemmas.Grind.{elements}
use Rattle.std.proofs.lemmas.List.{ext_get_or, get_or_read, get_or-replicate, get_or-set_same, get_or-set_other, length-set}
use Rattle.std.proofs.lemmas.Nat.{or_lt, and_le_r}
use Rattle.std.proofs.lemmas.Nat.Bits.{bit_at-zero, bit_at_mask_inside, bit_at_mask_below, bit_at_ones, bit_at_ones_above, ones_shl}
use Rattle.std.proofs.lemmas.Nat.Bits.{ones_shr}
use Rattle.bpf_frame.specs.FrameMap.{IsMarked, with_marks}
use Rattle.bpf_frame.specs.Lanes.{AreLanes, has_bit, marks_of}
use Rattle.bpf_frame.specs.OrderLaws.{same_tests}
use Rattle.bpf_frame.proofs.MarkLemmas.{marked_inside, mark_preserves, marked_before_or_inside, length-with_marks, get_or-with_marks}
use Rattle.bpf_frame.proofs.MarkLemmas.{get_or-other_marks}
use Rattle.bpf_frame.proofs.LaneLemmas.{length-marks_of, get_or-marks_of, marked_within, has_bit-and, has_bit-or, same_from_bits}
use Rattle.bpf_frame.proofs.LaneLemmas.{mark_of_bit, both_are_lanes, mark_of_both}

-- the bits to the left of one place and to the right of another
shifted_left : (below bit : ℕ) → below < 64 → bit < 64 → IsTrue (has_bit ((2 ^ 64 - 1) * 2 ^ below % 2 ^ 64) bit) ↔ (below ≤ bit)
shifted_left below bit fits within =
    let is : (n : ℕ) → bit_at (2 ^ 64 - 2 ^ below) bit ≡ n → has_bit ((2 ^ 64 - 1) * 2 ^ below % 2 ^ 64) bit ≡ (n == 1) =
    λ n e. ap (λ (m : ℕ). has_bit m bit) (ones_shl 64 below (omega arith)) ∙ ap (λ (m : ℕ). m == 1) e in (
      λ set. elim (cases_lt bit below) [
        | inl before ↦ absurd (both_ways _ (is 0 (bit_at_mask_below below 64 bit before)) set)
        | inr from ↦
            from
      ],
      λ from. is 1 (bit_at_mask_inside below 64 bit from within),
    )

shifted_right : (above bit : ℕ) → above < 64 → IsTrue (has_bit ((2 ^ 64 - 1) / 2 ^ above) bit) ↔ (bit < 64 - above)
shifted_right above bit fits =
    let is : (n : ℕ) → bit_at (2 ^ (64 - above) - 1) bit ≡ n → has_bit ((2 ^ 64 - 1) / 2 ^ above) bit ≡ (n == 1) =
    λ n e. ap (λ (m : ℕ). has_bit m bit) (ones_shr 64 above (omega arith)) ∙ ap (λ (m : ℕ). m == 1) e in (
      λ set. elim (cases_lt bit (64 - above)) [
        | inl before ↦ before
        | inr from ↦
            absurd (both_ways _ (is 0 (bit_at_ones_above (64 - above) bit from)) set)
      ],
      λ before. is 1 (bit_at_ones (64 - above) bit before),
    )

pub has_bit-range : (below above bit : ℕ) → below < 64 → above < 64 → bit < 64
    → IsTrue (has_bit (bit_and ((2 ^ 64 - 1) * 2 ^ below % 2 ^ 64) ((2 ^ 64 - 1) / 2 ^ above)) bit) ↔ ((below ≤ bit) × (bit < 64 - above))
has_bit-range below above bit left right within =
    let both = has_bit-and ((2 ^ 64 - 1) * 2 ^ below % 2 ^ 64) ((2 ^ 64 - 1) / 2 ^ above) bit in (
      λ set. let parts = and_parts _ _ (sym both ∙ set) in
          ((shifted_left below bit left within).0 parts.0, (shifted_right above bit right).0 parts.1),
      λ inside. both ∙ and_from _ _ ((shifted_left below bit left within).1 inside.0) ((shifted_right above bit right).1 inside.1),
    )

-- the marks after a lane is written: its bits become marks, and all others are unchanged
set_are_lanes : (lanes : List ℕ) (lane bits : ℕ) → AreLanes lanes → bits < 2 ^ 64 → AreLanes (set lanes lane bits)
set_are_lanes lanes lane bits are_lanes fits = record {
  count = length-set lanes lane bits ∙ are_lanes.count;
  fits = grind (arith, elements, are_lanes.fits);
}

mark_in_set : (lanes : List ℕ) (lane bits at : ℕ) → AreLanes lanes → at < 512 → at / 64 ≡ lane
    → get_or (marks_of (set lanes lane bits)) at false ≡ has_bit bits (at % 64)
mark_in_set lanes lane bits at are_lanes within same =
    get_or-marks_of (set lanes lane bits) at within
    ∙ ap (λ (n : ℕ). has_bit n (at % 64)) (ap (λ (k : ℕ). get_or (set lanes lane bits) k 0) same
    ∙ get_or-set_same lanes lane bits 0 (omega (arith, are_lanes.count)))

mark_beside_set : (lanes : List ℕ) (lane bits at : ℕ) → at < 512 → ¬ (at / 64 ≡ lane)
    → get_or (marks_of (set lanes lane bits)) at false ≡ get_or (marks_of lanes) at false
mark_beside_set lanes lane bits at within other =
    get_or-marks_of (set lanes lane bits) at within
    ∙ ap (λ (n : ℕ). has_bit n (at % 64)) (get_or-set_other lanes lane (at / 64) bits 0 other)
    ∙ sym (get_or-marks_of lanes at within)

-- the marks of a range, in all lanes before one
pub record IsRange (lanes : List ℕ) (from end lane : ℕ) : Type 0 where
  pub are_lanes : AreLanes lanes
  pub marks : (at : ℕ) → IsMarked (marks_of lanes) at ↔ ((from ≤ at) × (at < end) × (at < 64 * lane))

pub no_range : (from end : ℕ) → IsRange (replicate 8 0) from end (from / 64)
no_range from end = record {
  are_lanes = record { count = refl; fits = grind (arith, elements) };
  marks = λ at. (
    λ marked. absurd (both_ways _ (no_mark at (marked_within _ at marked)) marked),
    λ inside. absurd (omega arith),
  );
}
  where
    no_mark : (at : ℕ) → at < 512 → get_or (marks_of (replicate 8 0)) at false ≡ false
    no_mark at within = get_or-marks_of _ at within ∙ ap (λ (n : ℕ). has_bit n (at % 64)) (get_or-replicate 8 (at / 64) 0 0 (omega arith))
        ∙ ap (λ (n : ℕ). n == 1) (bit_at-zero (at % 64))

-- the bits of a lane that are in a range
pub record AreBitsOf (from end lane bits : ℕ) : Type 0 where
  pub within : lane < 8
  pub fits : bits < 2 ^ 64
  pub inside : (bit : ℕ) → bit < 64 → IsTrue (has_bit bits bit) ↔ ((from ≤ 64 * lane + bit) × (64 * lane + bit < end))

pub one_lane_more : {lanes : List ℕ} {from end lane : ℕ} (bits : ℕ) → IsRange lanes from end lane → end ≤ 512 → AreBitsOf from end lane bits
    → IsRange (set lanes lane bits) from end (lane + 1)
one_lane_more {lanes} {from} {end} {lane} bits range short are = record {
  are_lanes = set_are_lanes lanes lane bits range.are_lanes are.fits;
  marks = λ at.
      elim (cases_eq (at / 64) lane) [
        | inl same ↦
            let place : 64 * lane + at % 64 ≡ at = omega arith in
            let here : IsTrue (has_bit bits (at % 64)) ↔ ((from ≤ at) × (at < end)) =
            subst (λ (n : ℕ). IsTrue (has_bit bits (at % 64)) ↔ ((from ≤ n) × (n < end))) place (are.inside (at % 64) (omega arith)) in
            let is = mark_in_set lanes lane bits at range.are_lanes (omega arith) same in
            (λ marked. let both = here.0 (sym is ∙ marked) in (both.0, both.1, omega arith), λ all. is ∙ here.1 (all.0, all.1))
        | inr other ↦ (
          λ marked.
              let old = (range.marks at).0 (sym (mark_beside_set lanes lane bits at (marked_within _ at marked) other) ∙ marked) in
              (old.0, old.1, omega arith),
          λ all. mark_beside_set lanes lane bits at (omega arith) other ∙ (range.marks at).1 (all.0, all.1, omega arith),
        )
      ];
}

-- the marks of a range together with those of a map are the map's marks after the range is marked
pub or_are_lanes : (xs ys : List ℕ) → AreLanes xs → AreLanes ys → AreLanes (zip2 bit_or xs ys)
or_are_lanes = both_are_lanes bit_or (or_lt 64)

marked_or_cases : (xs ys : List ℕ) (at : ℕ) → AreLanes xs → AreLanes ys → IsMarked (marks_of (zip2 bit_or xs ys)) at
    → IsMarked (marks_of xs) at ⊎ IsMarked (marks_of ys) at
marked_or_cases xs ys at lanes others marked =
    or_cases _ _ (sym (mark_of_both bit_or (λ a b. a || b) has_bit-or xs ys at lanes others (marked_within _ at marked)) ∙ marked)

marked_or_left : (xs ys : List ℕ) (at : ℕ) → AreLanes xs → AreLanes ys → IsMarked (marks_of xs) at
    → IsMarked (marks_of (zip2 bit_or xs ys)) at
marked_or_left xs ys at lanes others marked = mark_of_both bit_or (λ a b. a || b) has_bit-or xs ys at lanes others
    (marked_within _ at marked) ∙ or_left _ _ marked

marked_or_right : (xs ys : List ℕ) (at : ℕ) → AreLanes xs → AreLanes ys → IsMarked (marks_of ys) at
    → IsMarked (marks_of (zip2 bit_or xs ys)) at
marked_or_right xs ys at lanes others marked = mark_of_both bit_or (λ a b. a || b) has_bit-or xs ys at lanes others
    (marked_within _ at marked) ∙ or_right _ _ marked

pub marks_of-or : (lanes range : List ℕ) (from len : ℕ) → AreLanes lanes → AreLanes range → from + len ≤ 512
    → ((at : ℕ) → IsMarked (marks_of range) at ↔ ((from ≤ at) × (at < from + len)))
    → marks_of (zip2 bit_or lanes range) ≡ with_marks true (marks_of lanes) from len
marks_of-or lanes range from len are_lanes others short inside =
    let within : from + len ≤ length (marks_of lanes) = omega (arith, length-marks_of lanes) in
    ext_get_or false _ _ (length-marks_of _ ∙ sym (length-with_marks true (marks_of lanes) from len within ∙ length-marks_of lanes))
    (λ at _. same_tests _ _
    (λ marked.
    elim (marked_before_or_inside (marks_of lanes) from len at within marked) [
      | inl old ↦ marked_or_left lanes range at are_lanes others old
      | inr new ↦ marked_or_right lanes range at are_lanes others ((inside at).1 new)
    ])
    (λ marked.
    elim (marked_or_cases lanes range at are_lanes others marked) [
      | inl old ↦ mark_preserves (marks_of lanes) from len at within old
      | inr new ↦ let place = (inside at).0 new in marked_inside (marks_of lanes) from len at within place.0 place.1
    ]))

-- the marks of a map without those of a range
pub marks_of-without : (lanes range without : List ℕ) (from len : ℕ) → from + len ≤ 512
    → ((at : ℕ) → IsMarked (marks_of range) at ↔ ((from ≤ at) × (at < from + len)))
    → ((at : ℕ) → get_or (marks_of without) at false ≡ (get_or (marks_of lanes) at false && not (get_or (marks_of range) at false)))
    → marks_of without ≡ with_marks false (marks_of lanes) from len
marks_of-without lanes range without from len short inside is =
    let within : from + len ≤ length (marks_of lanes) = omega (arith, length-marks_of lanes) in
    ext_get_or false _ _ (length-marks_of without ∙ sym (length-with_marks false (marks_of lanes) from len within ∙ length-marks_of lanes))
    (λ at _.
    is at ∙ elim (cases_Bool (get_or (marks_of range) at false)) [
      | inl taken ↦
          let place = (inside at).0 taken in
          and_right _ _ (ap not taken) ∙ sym (get_or-with_marks false (marks_of lanes) from len at within place.0 place.1)
      | inr not_cleared ↦
          ap (λ (other : Bool). get_or (marks_of lanes) at false && not other) not_cleared ∙ and_true _
          ∙ sym (get_or-other_marks false (marks_of lanes) from len at within
          (λ above below. both_ways _ not_cleared ((inside at).1 (above, below))))
    ])
  where
    and_true : (mark : Bool) → (mark && true) ≡ mark
    and_true true = refl
    and_true false = refl

-- all bytes of a range before a lane are marked
pub record HasMarks (lanes : List ℕ) (from end lane : ℕ) : Type 0 where
  pub marks : (at : ℕ) → from ≤ at → at < end → at < 64 * lane → IsMarked (marks_of lanes) at

-- a lane that is read has the bits of a range if these bytes are marked
module _ (lanes : List ℕ) (from end lane bits read : ℕ) (are_lanes : AreLanes lanes) (within : lane < 8)
    (is_read : read ≡ get_or lanes lane read)
    (inside : (bit : ℕ) → bit < 64 → IsTrue (has_bit bits bit) ↔ ((from ≤ 64 * lane + bit) × (64 * lane + bit < end))) where
  mark_read : (bit : ℕ) → bit < 64 → get_or (marks_of lanes) (64 * lane + bit) false ≡ has_bit read bit
  mark_read bit below =
      mark_of_bit lanes lane bit within below ∙ ap (λ (n : ℕ). has_bit n bit)
      (sym (get_or_read lanes lane read (omega (arith, are_lanes.count)) is_read 0))

  pub one_lane_has : HasMarks lanes from end lane → bit_and read bits ≡ bits → HasMarks lanes from end (lane + 1)
  one_lane_has before same = record {
    marks = λ at above below short.
        elim (cases_lt at (64 * lane)) [
          | inl earlier ↦ before.marks at above below earlier
          | inr here ↦
              let bit : ℕ = at - 64 * lane in
              let place : at ≡ 64 * lane + bit = omega arith in
              let set : IsTrue (has_bit bits bit) = (inside bit (omega arith)).1 (omega arith, omega arith) in
              let both : IsTrue (has_bit read bit && has_bit bits bit) = sym (has_bit-and read bits bit) ∙ ap (λ (n : ℕ). has_bit n bit)
              same ∙ set in
              ap (λ (n : ℕ). get_or (marks_of lanes) n false) place ∙ mark_read bit (omega arith) ∙ (and_parts _ _ both).0
        ];
  }

  pub lane_of_marks : bits < 2 ^ 64 → ((at : ℕ) → from ≤ at → at < end → IsMarked (marks_of lanes) at) → bit_and read bits ≡ bits
  lane_of_marks fits all =
      let small : bit_and read bits < 2 ^ 64 = omega (arith, and_le_r read bits) in
      same_from_bits _ bits small fits
      (λ bit below.
      has_bit-and read bits bit
      ∙ elim (cases_Bool (has_bit bits bit)) [
        | inl set ↦
            let place = (inside bit below).0 set in
            and_from _ _ (sym (mark_read bit below) ∙ all (64 * lane + bit) place.0 place.1) set ∙ sym set
        | inr unset ↦ and_right _ _ unset ∙ sym unset
      ])
