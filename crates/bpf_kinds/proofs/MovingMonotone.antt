-- Moves of pointers are monotone.
use Rattle.std.proofs.Common.{◌≡◌, ◌≤◌, ◌-◌, ◌^◌, true, ◌||◌, Some, None, refl, arith, subst}
use Rattle.std.specs.Prelude.{◌≤ℤ◌, ◌+ℤ◌, ◌-ℤ◌, ◌&&◌, Bool, if◌then◌else◌, nat_lt, nat_le}
use Rattle.std.specs.Int.{w64, cast_signed}
use Rattle.std.proofs.lemmas.Bool.{and_parts}
use Rattle.std.proofs.lemmas.Bool.Decides.{nat_tests}
use Rattle.std.proofs.lemmas.Int.{ints}
use Rattle.std.proofs.lemmas.Option.{cond_some}
use Rattle.bpf_insn.specs.Pointer.{is_offset}
use Rattle.bpf_kinds.proofs.LowerLemmas.{AreLowerOffsets}
use Rattle.bpf_kinds.proofs.MovingLaws.{near_above, near_below, is_offset-between, offset_ends}
use Rattle.bpf_kinds.specs.Interval as interval
use Rattle.bpf_kinds.specs.Moving.{near_distances, if_offsets, move_by, move_back_by}
use Rattle.bpf_kinds.specs.Offsets as offsets
use Rattle.bpf_kinds.specs.Offsets.{IsWithin, between}
use Rattle.bpf_kinds.specs.declared.interval.Interval.{Interval}
use Rattle.bpf_kinds.specs.declared.offsets.Offsets.{Offsets}

near_test : (x a : Interval) → interval.IsWithin x a → (nat_lt a.high (2 ^ 15) || nat_le (2 ^ 64 - 2 ^ 15) a.low) ≡ true
    → (nat_lt x.high (2 ^ 15) || nat_le (2 ^ 64 - 2 ^ 15) x.low) ≡ true
near_test x a within is = grind (arith, nat_tests, within.low, within.high)

some_of : (test : Bool) (found : Offsets) → test ≡ true → (if test then Some found else None) ≡ Some found
some_of test found is = rw is refl

pub near_is_monotone : (x a : Interval) (distances : Offsets) → x.low ≤ x.high → interval.IsWithin x a → near_distances a ≡ Some distances
    → (nearer : Offsets) × (near_distances x ≡ Some nearer) × offsets.IsWithin nearer distances × (nearer.low ≤ℤ nearer.high)
near_is_monotone x a distances ordered within is =
    let parts = cond_some _ _ _ is in
    let near = near_test x a within parts.0 in
    let nearer : Offsets = between (cast_signed w64 x.low) (cast_signed w64 x.high) in
    let inside : IsWithin nearer (between (cast_signed w64 a.low) (cast_signed w64 a.high)) = record {
      low = near_above a.low x.low a.high within.low (omega arith) parts.0;
      high = near_below a.low x.high a.high (omega arith) within.high parts.0;
    } in (
      nearer,
      some_of _ nearer near,
      subst (λ (d : Offsets). IsWithin nearer d) parts.1 inside,
      near_above x.low x.high x.high ordered (omega arith) near,
    )

-- offsets that lie within others in range are in range
offsets_are_monotone : (here there moved : Offsets) → here.low ≤ℤ here.high → IsWithin here there → if_offsets there ≡ Some moved
    → (nearer : Offsets) × (if_offsets here ≡ Some nearer) × IsWithin nearer moved × (nearer.low ≤ℤ nearer.high)
offsets_are_monotone here there moved ordered within is =
    let parts = cond_some _ _ _ is in
    let ends = and_parts _ _ parts.0 in
    let low = offset_ends there.low ends.0 in
    let high = offset_ends there.high ends.1 in
    let first : is_offset here.low ≡ true = is_offset-between here.low (omega (arith, ints, low.0)) (omega (arith, ints, high.1)) in
    let last : is_offset here.high ≡ true = is_offset-between here.high (omega (arith, ints, low.0)) (omega (arith, ints, high.1)) in
    let test : (is_offset here.low && is_offset here.high) ≡ true = rw (first, last) refl in
    (here, some_of _ here test, subst (IsWithin here) parts.1 within, ordered)

pub move_by_is_monotone : {x d a e moved : Offsets} → AreLowerOffsets a x → AreLowerOffsets e d → move_by a e ≡ Some moved
    → (nearer : Offsets) × (move_by x d ≡ Some nearer) × IsWithin nearer moved × (nearer.low ≤ℤ nearer.high)
move_by_is_monotone {x} {d} {a} {e} {moved} left right is =
    offsets_are_monotone (between (x.low +ℤ d.low) (x.high +ℤ d.high)) (between (a.low +ℤ e.low) (a.high +ℤ e.high)) moved (omega (arith, ints))
    (record { low = omega (arith, ints); high = omega (arith, ints) }) is

pub move_back_by_is_monotone : {x d a e moved : Offsets} → AreLowerOffsets a x → AreLowerOffsets e d → move_back_by a e ≡ Some moved
    → (nearer : Offsets) × (move_back_by x d ≡ Some nearer) × IsWithin nearer moved × (nearer.low ≤ℤ nearer.high)
move_back_by_is_monotone {x} {d} {a} {e} {moved} left right is =
    offsets_are_monotone (between (x.low -ℤ d.high) (x.high -ℤ d.low)) (between (a.low -ℤ e.high) (a.high -ℤ e.low)) moved (omega (arith, ints))
    (record { low = omega (arith, ints); high = omega (arith, ints) }) is
