-- The offsets of pointers that are moved by numbers of an interval.
use Rattle.std.proofs.Common.{◌≡◌, ℕ, ◌≤◌, ◌-◌, ◌^◌, true, ◌||◌, Option, Some, None, refl, arith, subst}
use Rattle.std.specs.Prelude.{ℤ, pos, negsuc, ◌≤ℤ◌, ◌+ℤ◌, ◌-ℤ◌, IsTrue, IfSome, FitsSigned, nat_lt, nat_le, int_le}
use Rattle.std.specs.Int.{w16, w64, cast_signed}
use Rattle.std.proofs.lemmas.Bool.{and_parts}
use Rattle.std.proofs.lemmas.Bool.Decides.{nat_tests}
use Rattle.std.proofs.lemmas.Int.{ints}
use Rattle.std.proofs.lemmas.Option.{cond_some}
use Rattle.bpf_insn.specs.Pointer.{is_offset}
use Rattle.bpf_kinds.specs.Interval as interval
use Rattle.bpf_kinds.specs.Offsets.{IsProper, Admits, between}
use Rattle.bpf_kinds.specs.Moving.{near_distances, if_offsets, move_by, move_back_by}
use Rattle.bpf_kinds.specs.declared.interval.Interval.{Interval}
use Rattle.bpf_kinds.specs.declared.offsets.Offsets.{Offsets}

-- offsets

pub is_offset-between : (z : ℤ) → negsuc 32767 ≤ℤ z → z ≤ℤ pos 32767 → is_offset z ≡ true
is_offset-between z above below = grind (arith, ints)

pub offset_ends : (z : ℤ) → is_offset z ≡ true → (negsuc 32767 ≤ℤ z) × (z ≤ℤ pos 32767)
offset_ends z is =
    let ends = and_parts _ _ is in
    let above : int_le (negsuc 32767) z ≡ true = ends.0 in
    let below : int_le z (pos 32767) ≡ true = ends.1 in
    (grind (arith, ints), grind (arith, ints))

fits_between : (z : ℤ) → negsuc 32767 ≤ℤ z → z ≤ℤ pos 32767 → FitsSigned w16 z
fits_between z above below = omega (arith, ints)

-- near distances

-- Near distances have the numbers' order. An immediate is any number in the definitions, so these laws require no bound.
pub near_above : (low n high : ℕ) → low ≤ n → n ≤ high → (nat_lt high (2 ^ 15) || nat_le (2 ^ 64 - 2 ^ 15) low) ≡ true
    → cast_signed w64 low ≤ℤ cast_signed w64 n
near_above low n high above below near = grind (arith, ints, nat_tests)

pub near_below : (low n high : ℕ) → low ≤ n → n ≤ high → (nat_lt high (2 ^ 15) || nat_le (2 ^ 64 - 2 ^ 15) low) ≡ true
    → cast_signed w64 n ≤ℤ cast_signed w64 high
near_below low n high above below near = grind (arith, ints, nat_tests)

-- a number within an interval of near distances, as a signed number
record IsNear (low n high : ℕ) : Type 0 where
  above : cast_signed w64 low ≤ℤ cast_signed w64 n
  below : cast_signed w64 n ≤ℤ cast_signed w64 high
  least : negsuc 32767 ≤ℤ cast_signed w64 n
  greatest : cast_signed w64 n ≤ℤ pos 32767

near : (x : Interval) (n : ℕ) → interval.IsProper x → interval.Admits x n
    → (nat_lt x.high (2 ^ 15) || nat_le (2 ^ 64 - 2 ^ 15) x.low) ≡ true → IsNear x.low n x.high
near x n proper admits test =
    let below = proper.fits in record {
      above = near_above x.low n x.high admits.above admits.below test;
      below = near_below x.low n x.high admits.above admits.below test;
      least = grind (arith, ints, nat_tests);
      greatest = grind (arith, ints, nat_tests);
    }

pub near-proper : (x : Interval) (distances : Offsets) → interval.IsProper x → near_distances x ≡ Some distances → IsProper distances
near-proper x distances proper is =
    let parts = cond_some _ _ _ is in
    let low = near x x.low proper (record { above = omega arith; below = proper.ordered }) parts.0 in
    let high = near x x.high proper (record { above = proper.ordered; below = omega arith }) parts.0 in
    let fits : IsProper (between (cast_signed w64 x.low) (cast_signed w64 x.high)) =
    record { ordered = low.below; low = fits_between _ low.least low.greatest; high = fits_between _ high.least high.greatest } in
    subst IsProper parts.1 fits

pub near-admits : (x : Interval) (distances : Offsets) (n : ℕ) → interval.IsProper x → near_distances x ≡ Some distances
    → interval.Admits x n → IsTrue (is_offset (cast_signed w64 n)) × Admits distances (cast_signed w64 n)
near-admits x distances n proper is admits =
    let parts = cond_some _ _ _ is in
    let here = near x n proper admits parts.0 in
    let within : Admits (between (cast_signed w64 x.low) (cast_signed w64 x.high)) (cast_signed w64 n) =
    record { above = here.above; below = here.below } in
    (is_offset-between _ here.least here.greatest, subst (λ (d : Offsets). Admits d (cast_signed w64 n)) parts.1 within)

-- moves

between_offsets : (there moved : Offsets) → if_offsets there ≡ Some moved → there.low ≤ℤ there.high → IsProper moved
between_offsets there moved is ordered =
    let parts = cond_some _ _ _ is in
    let ends = and_parts _ _ parts.0 in
    let low = offset_ends there.low ends.0 in
    let high = offset_ends there.high ends.1 in
    let proper : IsProper there = record { ordered = ordered; low = fits_between _ low.0 low.1; high = fits_between _ high.0 high.1 } in
    subst IsProper parts.1 proper

admitted : (there moved : Offsets) (z : ℤ) → if_offsets there ≡ Some moved → there.low ≤ℤ z → z ≤ℤ there.high → IsTrue (is_offset z)
    × Admits moved z
admitted there moved z is above below =
    let parts = cond_some _ _ _ is in
    let ends = and_parts _ _ parts.0 in
    let low = offset_ends there.low ends.0 in
    let high = offset_ends there.high ends.1 in
    let within : Admits there z = record { above = above; below = below } in
    (is_offset-between z (omega (arith, ints, low.0)) (omega (arith, ints, high.1)), subst (λ (d : Offsets). Admits d z) parts.1 within)

pub move_by-proper : (x distances moved : Offsets) → IsProper x → IsProper distances → move_by x distances ≡ Some moved → IsProper moved
move_by-proper x distances moved proper-x proper-distances is =
    between_offsets (between (x.low +ℤ distances.low) (x.high +ℤ distances.high)) moved is
    (let ordered = proper-x.ordered in let also = proper-distances.ordered in omega (arith, ints))

pub move_by-admits : (x distances moved : Offsets) (offset distance : ℤ) → move_by x distances ≡ Some moved → Admits x offset
    → Admits distances distance → IsTrue (is_offset (offset +ℤ distance)) × Admits moved (offset +ℤ distance)
move_by-admits x distances moved offset distance is here by =
    admitted (between (x.low +ℤ distances.low) (x.high +ℤ distances.high)) moved (offset +ℤ distance) is (omega (arith, ints))
    (omega (arith, ints))

pub move_back_by-proper : (x distances moved : Offsets) → IsProper x → IsProper distances → move_back_by x distances ≡ Some moved
    → IsProper moved
move_back_by-proper x distances moved proper-x proper-distances is =
    between_offsets (between (x.low -ℤ distances.high) (x.high -ℤ distances.low)) moved is
    (let ordered = proper-x.ordered in let also = proper-distances.ordered in omega (arith, ints))

pub move_back_by-admits : (x distances moved : Offsets) (offset distance : ℤ) → move_back_by x distances ≡ Some moved → Admits x offset
    → Admits distances distance → IsTrue (is_offset (offset -ℤ distance)) × Admits moved (offset -ℤ distance)
move_back_by-admits x distances moved offset distance is here by =
    admitted (between (x.low -ℤ distances.high) (x.high -ℤ distances.low)) moved (offset -ℤ distance) is (omega (arith, ints))
    (omega (arith, ints))

-- a fact about each value that may be there
pub if_some : {A : Type 0} (found : Option A) (P : A → Type 0) → ((a : A) → found ≡ Some a → P a) → IfSome found P
if_some None P holds = tt
if_some (Some a) P holds = holds a refl
