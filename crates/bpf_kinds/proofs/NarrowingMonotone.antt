-- Narrowing is monotone.
use Rattle.std.proofs.Common.{◌≡◌, ℕ, ◌+◌, ◌-◌, ◌≤◌, Bool, true, false, Option, Some, None, refl, subst, arith}
use Rattle.std.specs.Prelude.{IfSome, ◌&&◌, ◌==◌, nat_lt, nat_le, if◌then◌else◌}
use Rattle.std.proofs.lemmas.Bool.{and_parts, eqb-true}
use Rattle.std.proofs.lemmas.Bool.Decides.{nat_tests}
use Rattle.std.proofs.lemmas.Option.{cond_some}
use mathlib.Core.Bool.{beq}
use Rattle.bpf_insn.specs.Arithmetic.{condition_holds}
use Rattle.bpf_insn.specs.declared.instruction.Condition.{Condition}
use Rattle.bpf_insn.specs.declared.instruction.Width.{Width}
use Rattle.bpf_kinds.proofs.LowerLemmas.{IsLowerInterval}
use Rattle.bpf_kinds.proofs.NarrowingLaws.{some_of, decided, without-within, refined-within}
use Rattle.bpf_kinds.specs.Interval.{IsWithin, is_single}
use Rattle.bpf_kinds.specs.Narrowing.{relation_of, is_plain, at_least, at_most, common, without, narrowed, if_reached, narrow, decide}
use Rattle.bpf_kinds.specs.Narrowing.{refine_by, refine}
use Rattle.bpf_kinds.specs.declared.interval.Interval.{Interval}
use Rattle.bpf_kinds.specs.declared.narrowing.Narrowed.{Narrowed}
use Rattle.bpf_kinds.specs.declared.narrowing.Relation.{Relation}
use Rattle.bpf_kinds.specs.declared.narrowing.Relation.TheVariants.{Same, Different, Above, AtLeast, Below, AtMost}

-- something is left, within which two narrower intervals lie
abbrev Covers : Option Narrowed → Narrowed → Type 0
Covers found both = (wider : Narrowed) × (found ≡ Some wider) × IsWithin both.left wider.left × IsWithin both.right wider.right

within_also : (x y z : Interval) → IsWithin x y → IsWithin y z → IsWithin x z
within_also x y z below above = record { low = omega arith; high = omega arith }

-- an interval that contains a nonempty one isn't empty

wider_test : (x a : Interval) → IsWithin x a → nat_le x.low x.high ≡ true → nat_le a.low a.high ≡ true
wider_test x a within is = grind (arith, nat_tests, within.low, within.high)

reached-is_monotone : (x y a b : Interval) (both : Narrowed) → IsWithin x a → IsWithin y b → if_reached x y ≡ Some both
    → Covers (if_reached a b) both
reached-is_monotone x y a b both left right is =
    let parts = cond_some _ _ _ is in
    let ordered = and_parts _ _ parts.0 in
    let wider : if_reached a b ≡ Some (narrowed a b) = some_of _ _ (narrowed a b) (wider_test x a left ordered.0)
    (wider_test y b right ordered.1) in
    subst (λ (z : Narrowed). Covers (if_reached a b) z) parts.1 (narrowed a b, wider, left, right)

-- each way of narrowing

at_least-is_monotone : (x a : Interval) (m n : ℕ) → IsWithin x a → n ≤ m → IsWithin (at_least x m) (at_least a n)
at_least-is_monotone x a m n within least = record { low = omega arith; high = within.high }

at_most-is_monotone : (x a : Interval) (m n : ℕ) → IsWithin x a → m ≤ n → IsWithin (at_most x m) (at_most a n)
at_most-is_monotone x a m n within most = record { low = within.low; high = omega arith }

common-is_monotone : (x y a b : Interval) → IsWithin x a → IsWithin y b → IsWithin (common x y) (common a b)
common-is_monotone x y a b left right = record { low = omega arith; high = omega arith }

-- an interval within one number is this number
single_within : (y b : Interval) → y.low ≤ y.high → IsWithin y b → is_single b ≡ true → (y.low ≡ b.low) × (y.high ≡ b.high)
single_within y b ordered within single = let same = eqb-true b.low b.high single in (omega arith, omega arith)

is_single-within : (y b : Interval) → y.low ≤ y.high → IsWithin y b → is_single b ≡ true → is_single y ≡ true
is_single-within y b ordered within single = let same = eqb-true b.low b.high single in grind (arith, nat_tests, within.low, within.high)

low-is_monotone : (low other v : ℕ) → other ≤ low → (if other == v then other + 1 else other) ≤ (if low == v then low + 1 else low)
low-is_monotone low other v below = grind (arith, nat_tests)

high-is_monotone : (high other v : ℕ) → high ≤ other → (if high == v then high - 1 else high) ≤ (if other == v then other - 1 else other)
high-is_monotone high other v above = grind (arith, nat_tests)

within_if : (test : Bool) (x a b : Interval) → (test ≡ true → IsWithin x a) → IsWithin x b → IsWithin x (if test then a else b)
within_if true x a b first second = first refl
within_if false x a b first second = second

without-is_monotone : (x y a b : Interval) → y.low ≤ y.high → IsWithin x a → IsWithin y b → IsWithin (without x y) (without a b)
without-is_monotone x y a b ordered left right =
    within_if (is_single b) (without x y) _ a
    (λ single.
    let same = (single_within y b ordered right single).0 in
    rw (is_single-within y b ordered right single, same)
    (record { low = low-is_monotone x.low a.low b.low left.low; high = high-is_monotone x.high a.high b.low left.high }))
    (within_also (without x y) x a (without-within x y) left)

narrow-is_monotone : (relation : Relation) {x y a b : Interval} {both : Narrowed} → IsLowerInterval a x → IsLowerInterval b y
    → narrow relation x y ≡ Some both → Covers (narrow relation a b) both
narrow-is_monotone Same {x} {y} {a} {b} left right is =
    reached-is_monotone (common x y) (common x y) (common a b) (common a b) _ (common-is_monotone x y a b left.within right.within)
    (common-is_monotone x y a b left.within right.within) is
narrow-is_monotone Different {x} {y} {a} {b} left right is =
    reached-is_monotone (without x y) (without y x) (without a b) (without b a) _
    (without-is_monotone x y a b right.ordered left.within right.within) (without-is_monotone y x b a left.ordered right.within left.within) is
narrow-is_monotone Above {x} {y} {a} {b} left right is =
    reached-is_monotone (at_least x (y.low + 1)) (at_most y (x.high - 1)) (at_least a (b.low + 1)) (at_most b (a.high - 1)) _
    (at_least-is_monotone x a _ _ left.within (omega arith)) (at_most-is_monotone y b _ _ right.within (omega arith)) is
narrow-is_monotone AtLeast {x} {y} {a} {b} left right is =
    reached-is_monotone (at_least x y.low) (at_most y x.high) (at_least a b.low) (at_most b a.high) _ (at_least-is_monotone x a _ _ left.within right.within.low)
    (at_most-is_monotone y b _ _ right.within left.within.high) is
narrow-is_monotone Below {x} {y} {a} {b} left right is =
    reached-is_monotone (at_most x (y.high - 1)) (at_least y (x.low + 1)) (at_most a (b.high - 1)) (at_least b (a.low + 1)) _
    (at_most-is_monotone x a _ _ left.within (omega arith)) (at_least-is_monotone y b _ _ right.within (omega arith)) is
narrow-is_monotone AtMost {x} {y} {a} {b} left right is =
    reached-is_monotone (at_most x y.high) (at_least y x.low) (at_most a b.high) (at_least b a.low) _ (at_most-is_monotone x a _ _ left.within right.within.high)
    (at_least-is_monotone y b _ _ right.within left.within.low) is

-- neither interval is narrowed

answered : (single edge : Bool) (z both : Narrowed) → (if single then (if edge then Some z else None) else Some z) ≡ Some both
    → single ≡ true → edge ≡ true
answered true true z both is single = refl
answered test edge z both is single = cc

less_test : (m n limit : ℕ) → m ≤ n → nat_lt n limit ≡ true → nat_lt m limit ≡ true
less_test m n limit most is = grind (arith, nat_tests)

module _ (condition : Condition) (width : Width) {x y a b : Interval} (taken : Bool) {both : Narrowed} (left : IsLowerInterval a x)
    (right : IsLowerInterval b y) (kept : IsWithin both.left x × IsWithin both.right y) where
  -- both wider intervals are left, since one number each has the same answer
  decide-covers : ((is_single a && is_single b) ≡ true → beq (condition_holds condition width a.low b.low) taken ≡ true)
      → Covers (decide condition width a b taken) both
  decide-covers edge = (
    narrowed a b,
    decided (is_single a && is_single b) _ (narrowed a b) edge,
    within_also both.left x a kept.0 left.within,
    within_also both.right y b kept.1 right.within,
  )

  decide-is_monotone : decide condition width x y taken ≡ Some both → Covers (decide condition width a b taken) both
  decide-is_monotone is =
      decide-covers (λ single.
      let singles = and_parts (is_single a) (is_single b) single in
      let same-x = (single_within x a left.ordered left.within singles.0).0 in
      let same-y = (single_within y b right.ordered right.within singles.1).0 in
      let small : (is_single x && is_single y) ≡ true = rw
      (is_single-within x a left.ordered left.within singles.0, is_single-within y b right.ordered right.within singles.1) refl in
      rw (← same-x, ← same-y) (answered (is_single x && is_single y) _ (narrowed x y) both is small))

  -- lower intervals are compared unchanged if higher ones are
  plain_falls : is_plain condition width a b ≡ true → is_plain condition width x y ≡ true
  plain_falls plain =
      let limits = and_parts _ _ plain in
      rw (less_test x.high a.high _ left.within.high limits.0, less_test y.high b.high _ right.within.high limits.1) refl

  -- one number each is compared unchanged, whether it's known as a lower or as a higher interval
  plain_single : is_plain condition width x y ≡ true → is_plain condition width a b ≡ false → (is_single a && is_single b) ≡ true
      → beq (condition_holds condition width a.low b.low) taken ≡ true
  plain_single small large single =
      let singles = and_parts (is_single a) (is_single b) single in
      let same-x = (single_within x a left.ordered left.within singles.0).1 in
      let same-y = (single_within y b right.ordered right.within singles.1).1 in
      let same : is_plain condition width x y ≡ is_plain condition width a b = rw (same-x, same-y) refl in
      cc

  by_plain : (small large : Bool) {first second n d : Option Narrowed} → (large ≡ true → small ≡ true) → (first ≡ Some both → Covers n both)
      → (small ≡ true → large ≡ false → Covers d both) → (second ≡ Some both → Covers d both)
      → (if small then first else second) ≡ Some both → Covers (if large then n else d) both
  by_plain true true falls narrower mixed undecided is = narrower is
  by_plain true false falls narrower mixed undecided is = mixed refl refl
  by_plain false true falls narrower mixed undecided is = let none = falls refl in cc
  by_plain false false falls narrower mixed undecided is = undecided is

  refine_by-is_monotone : (relation : Option Relation) → refine_by relation condition width x y taken ≡ Some both
      → Covers (refine_by relation condition width a b taken) both
  refine_by-is_monotone None is = decide-is_monotone is
  refine_by-is_monotone (Some relation) is =
      by_plain _ _ plain_falls
      (narrow-is_monotone relation left right)
      (λ small large. decide-covers (plain_single small large))
      decide-is_monotone
      is

-- lower intervals are narrowed to intervals within those of higher ones, which then reach the edge
pub refine_is_monotone : (condition : Condition) (width : Width) {x y a b : Interval} (taken : Bool) {both : Narrowed} → IsLowerInterval a x
    → IsLowerInterval b y → refine condition width x y taken ≡ Some both
    → (wider : Narrowed) × (refine condition width a b taken ≡ Some wider) × IsWithin both.left wider.left × IsWithin both.right wider.right
refine_is_monotone condition width {x} {y} taken left right is =
    let narrower = subst (λ (o : Option Narrowed). IfSome o (λ z. IsWithin z.left x × IsWithin z.right y)) is
    (refined-within condition width x y taken (refine condition width x y taken) refl) in
    refine_by-is_monotone condition width taken left right narrower (relation_of condition taken) is
