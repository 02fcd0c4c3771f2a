-- What is known after a conditional jump admits the numbers that were compared, and is at least what was known before it.
use Rattle.std.proofs.Common.{◌≡◌, ◌≢◌, ℕ, ◌+◌, ◌-◌, ◌<◌, ◌≤◌, ◌^◌, Bool, true, false, Option, Some, None, refl, sym, ◌∙◌, subst, arith}
use Rattle.std.specs.Prelude.{pos, IfSome, IsSomeAnd, ◌&&◌, ◌==◌, nat_lt, nat_le, if◌then◌else◌}
use Rattle.std.specs.Int.{w32, w64, cast_signed}
use Rattle.std.proofs.lemmas.Bool.{and_parts, eqb-false, eqb-true, leb-false, leb-true, ltb-false, ltb-true, not-false, not-true}
use Rattle.std.proofs.lemmas.Bool.Decides.{nat_tests}
use Rattle.std.proofs.lemmas.Option.{cond_some}
use Rattle.std.proofs.lemmas.Int.{to_z_pos}
use Rattle.std.proofs.Math.Nat.{mod-eq_of_lt}
use mathlib.Core.Bool.{beq}
use mir.Val.{bits}
use Rattle.bpf_insn.specs.Arithmetic.{operand_bits, low_bits, condition_holds, condition_holds_on}
use Rattle.bpf_insn.specs.declared.instruction.Condition.{Condition}
use Rattle.bpf_insn.specs.declared.instruction.Condition.TheVariants.{Equal, Greater, GreaterOrEqual, SharesBit, NotEqual, SignedGreater}
use Rattle.bpf_insn.specs.declared.instruction.Condition.TheVariants.{SignedGreaterOrEqual, Less, LessOrEqual, SignedLess}
use Rattle.bpf_insn.specs.declared.instruction.Condition.TheVariants.{SignedLessOrEqual}
use Rattle.bpf_insn.specs.declared.instruction.Width.{Width}
use Rattle.bpf_insn.specs.declared.instruction.Width.TheVariants.{Bits32, Bits64}
use Rattle.bpf_kinds.proofs.MovingLaws.{if_some}
use Rattle.bpf_kinds.specs.Interval.{IsProper, Admits, IsWithin, is_single}
use Rattle.bpf_kinds.specs.Narrowing.{relation_of, is_signed, plain_limit, is_plain, at_least, at_most, common, without, narrowed}
use Rattle.bpf_kinds.specs.Narrowing.{if_reached, narrow, decide, refine_by, refine}
use Rattle.bpf_kinds.specs.declared.interval.Interval.{Interval}
use Rattle.bpf_kinds.specs.declared.narrowing.Narrowed.{Narrowed}
use Rattle.bpf_kinds.specs.declared.narrowing.Relation.{Relation}
use Rattle.bpf_kinds.specs.declared.narrowing.Relation.TheVariants.{Same, Different, Above, AtLeast, Below, AtMost}

-- the relations of two numbers

abbrev AreRelated : Relation → ℕ → ℕ → Type 0
AreRelated Same m n = m ≡ n
AreRelated Different m n = m ≢ n
AreRelated Above m n = n < m
AreRelated AtLeast m n = n ≤ m
AreRelated Below m n = m < n
AreRelated AtMost m n = m ≤ n

abbrev AreRelatedIf : Option Relation → ℕ → ℕ → Type 0
AreRelatedIf None m n = Unit {0}
AreRelatedIf (Some relation) m n = AreRelated relation m n

-- numbers that are compared unchanged

signed_number : (width : Width) (n : ℕ) → n < 2 ^ (bits (operand_bits width) - 1) → cast_signed (operand_bits width) n ≡ pos n
signed_number Bits32 n below = to_z_pos w32 n below
signed_number Bits64 n below = to_z_pos w64 n below

limit_fits : (signed : Bool) (width : Width) → (if signed then 2 ^ (bits (operand_bits width) - 1) else 2 ^ bits (operand_bits width)) ≤ 2 ^
    bits (operand_bits width)
limit_fits true Bits32 = omega arith
limit_fits true Bits64 = omega arith
limit_fits false Bits32 = omega arith
limit_fits false Bits64 = omega arith

under : (n high limit : ℕ) → n ≤ high → nat_lt high limit ≡ true → n < limit
under n high limit most is = let below = ltb-true high limit is in omega arith

below_bound : (n limit bound : ℕ) → n < limit → limit ≤ bound → n < bound
below_bound n limit bound below most = omega arith

compared : (condition : Condition) (width : Width) (m n : ℕ) → m < 2 ^ bits (operand_bits width) → n < 2 ^ bits (operand_bits width)
    → condition_holds condition width m n ≡ condition_holds_on condition (operand_bits width) m n
compared condition width m n below-m below-n =
    let e-m : low_bits (operand_bits width) m ≡ m = mod-eq_of_lt below-m in
    let e-n : low_bits (operand_bits width) n ≡ n = mod-eq_of_lt below-n in
    rw (e-m, e-n) refl

condition_relates : (condition : Condition) (taken : Bool) (width : Width) (m n : ℕ) → m < plain_limit condition width
    → n < plain_limit condition width → condition_holds_on condition (operand_bits width) m n ≡ taken → AreRelatedIf (relation_of condition taken) m n
condition_relates Equal true width m n a b is = eqb-true m n is
condition_relates Equal false width m n a b is = eqb-false m n is
condition_relates NotEqual true width m n a b is = eqb-false m n (not-true (m == n) is)
condition_relates NotEqual false width m n a b is = eqb-true m n (not-false (m == n) is)
condition_relates Greater true width m n a b is = ltb-true n m is
condition_relates Greater false width m n a b is = ltb-false n m is
condition_relates GreaterOrEqual true width m n a b is = leb-true n m is
condition_relates GreaterOrEqual false width m n a b is = leb-false n m is
condition_relates Less true width m n a b is = ltb-true m n is
condition_relates Less false width m n a b is = ltb-false m n is
condition_relates LessOrEqual true width m n a b is = leb-true m n is
condition_relates LessOrEqual false width m n a b is = leb-false m n is
condition_relates SignedGreater true width m n a b is = ltb-true n m (rw (signed_number width n b, signed_number width m a) at is)
condition_relates SignedGreater false width m n a b is = ltb-false n m (rw (signed_number width n b, signed_number width m a) at is)
condition_relates SignedGreaterOrEqual true width m n a b is = leb-true n m (rw (signed_number width n b, signed_number width m a) at is)
condition_relates SignedGreaterOrEqual false width m n a b is = leb-false n m (rw (signed_number width n b, signed_number width m a) at is)
condition_relates SignedLess true width m n a b is = ltb-true m n (rw (signed_number width m a, signed_number width n b) at is)
condition_relates SignedLess false width m n a b is = ltb-false m n (rw (signed_number width m a, signed_number width n b) at is)
condition_relates SignedLessOrEqual true width m n a b is = leb-true m n (rw (signed_number width m a, signed_number width n b) at is)
condition_relates SignedLessOrEqual false width m n a b is = leb-false m n (rw (signed_number width m a, signed_number width n b) at is)
condition_relates SharesBit taken width m n a b is = tt

-- two numbers in intervals, and the answer of their comparison
pub record IsAnswer (condition : Condition) (width : Width) (x y : Interval) (taken : Bool) (m n : ℕ) : Type 0 where
  pub left : Admits x m
  pub right : Admits y n
  pub answer : condition_holds condition width m n ≡ taken

plain_condition_relates : (condition : Condition) (width : Width) {x y : Interval} {taken : Bool} {m n : ℕ} → IsAnswer condition width x y taken m n
    → is_plain condition width x y ≡ true → AreRelatedIf (relation_of condition taken) m n
plain_condition_relates condition width {taken = taken} {m} {n} is plain =
    let limits = and_parts _ _ plain in
    let below-m : m < plain_limit condition width = under m _ _ is.left.below limits.0 in
    let below-n : n < plain_limit condition width = under n _ _ is.right.below limits.1 in
    let fits = limit_fits (is_signed condition) width in
    let same = compared condition width m n (below_bound m _ _ below-m fits) (below_bound n _ _ below-n fits) in
    condition_relates condition taken width m n below-m below-n (sym same ∙ is.answer)

-- two numbers are admitted on an edge

abbrev StillAdmits : Option Narrowed → ℕ → ℕ → Type 0
StillAdmits narrower m n = (both : Narrowed) × (narrower ≡ Some both) × Admits both.left m × Admits both.right n

pub some_of : (a b : Bool) (both : Narrowed) → a ≡ true → b ≡ true → (if a && b then Some both else None) ≡ Some both
some_of a b both first second = rw (first, second) refl

le_test : (x : Interval) (n : ℕ) → Admits x n → nat_le x.low x.high ≡ true
le_test x n here = grind (arith, nat_tests, here.above, here.below)

reached : (left right : Interval) (m n : ℕ) → Admits left m → Admits right n → StillAdmits (if_reached left right) m n
reached left right m n here there = (
  narrowed left right,
  some_of _ _ (narrowed left right) (le_test left m here) (le_test right n there),
  here,
  there,
)

admits_if : (test : Bool) (a b : Interval) (m : ℕ) → (test ≡ true → Admits a m) → Admits b m → Admits (if test then a else b) m
admits_if true a b m first second = first refl
admits_if false a b m first second = second

-- an end may move in by one if it isn't the number itself
low_above : (low m v : ℕ) → low ≤ m → m ≢ v → (if low == v then low + 1 else low) ≤ m
low_above low m v above other = grind (arith, nat_tests)

high_below : (high m v : ℕ) → m ≤ high → m ≢ v → m ≤ (if high == v then high - 1 else high)
high_below high m v below other = grind (arith, nat_tests)

only : (x : Interval) (n : ℕ) → Admits x n → is_single x ≡ true → n ≡ x.low
only x n here single = let same = eqb-true x.low x.high single in omega arith

without-admits : (x y : Interval) (m n : ℕ) → Admits x m → Admits y n → m ≢ n → Admits (without x y) m
without-admits x y m n here there other =
    admits_if (is_single y) _ x m
    (λ single.
    let differs : m ≢ y.low = λ (same : m ≡ y.low). other (same ∙ sym (only y n there single)) in
    record { above = low_above x.low m y.low here.above differs; below = high_below x.high m y.low here.below differs })
    here

narrow-still_admits : (relation : Relation) (x y : Interval) (m n : ℕ) → Admits x m → Admits y n → AreRelated relation m n
    → StillAdmits (narrow relation x y) m n
narrow-still_admits Same x y m n here there related =
    reached (common x y) (common x y) m n (record { above = omega arith; below = omega arith })
    (record { above = omega arith; below = omega arith })
narrow-still_admits Different x y m n here there related =
    reached (without x y) (without y x) m n (without-admits x y m n here there related)
    (without-admits y x n m there here (λ (same : n ≡ m). related (sym same)))
narrow-still_admits Above x y m n here there related =
    reached (at_least x (y.low + 1)) (at_most y (x.high - 1)) m n (record { above = omega arith; below = omega arith })
    (record { above = omega arith; below = omega arith })
narrow-still_admits AtLeast x y m n here there related =
    reached (at_least x y.low) (at_most y x.high) m n (record { above = omega arith; below = omega arith })
    (record { above = omega arith; below = omega arith })
narrow-still_admits Below x y m n here there related =
    reached (at_most x (y.high - 1)) (at_least y (x.low + 1)) m n (record { above = omega arith; below = omega arith })
    (record { above = omega arith; below = omega arith })
narrow-still_admits AtMost x y m n here there related =
    reached (at_most x y.high) (at_least y x.low) m n (record { above = omega arith; below = omega arith })
    (record { above = omega arith; below = omega arith })

edge_of : (answer taken : Bool) → answer ≡ taken → beq answer taken ≡ true
edge_of true true is = refl
edge_of true false is = cc
edge_of false true is = cc
edge_of false false is = refl

pub decided : (single edge : Bool) (both : Narrowed) → (single ≡ true → edge ≡ true)
    → (if single then (if edge then Some both else None) else Some both) ≡ Some both
decided true edge both holds = rw (holds refl) refl
decided false edge both holds = refl

decide-still_admits : (condition : Condition) (width : Width) {x y : Interval} {taken : Bool} {m n : ℕ} → IsAnswer condition width x y taken m n
    → StillAdmits (decide condition width x y taken) m n
decide-still_admits condition width {x} {y} {taken} {m} {n} is =
    let holds : (is_single x && is_single y) ≡ true → beq (condition_holds condition width x.low y.low) taken ≡ true = λ single.
    let singles = and_parts (is_single x) (is_single y) single in
    let e-m : x.low ≡ m = sym (only x m is.left singles.0) in
    let e-n : y.low ≡ n = sym (only y n is.right singles.1) in
    edge_of _ taken (rw (e-m, e-n) is.answer) in
    (narrowed x y, decided (is_single x && is_single y) _ (narrowed x y) holds, is.left, is.right)

still_admits_if : (test : Bool) (a b : Option Narrowed) (m n : ℕ) → (test ≡ true → StillAdmits a m n) → StillAdmits b m n → StillAdmits (if test then a else b) m n
still_admits_if true a b m n first second = first refl
still_admits_if false a b m n first second = second

refine_by-still_admits : (relation : Option Relation) (condition : Condition) (width : Width) {x y : Interval} {taken : Bool} {m n : ℕ}
    → IsAnswer condition width x y taken m n → (is_plain condition width x y ≡ true → AreRelatedIf relation m n)
    → StillAdmits (refine_by relation condition width x y taken) m n
refine_by-still_admits None condition width is related = decide-still_admits condition width is
refine_by-still_admits (Some relation) condition width {x} {y} is related =
    still_admits_if (is_plain condition width x y) (narrow relation x y) _ _ _
    (λ plain. narrow-still_admits relation x y _ _ is.left is.right (related plain)) (decide-still_admits condition width is)

-- two compared numbers remain admitted on the edge that their comparison takes
pub refine-still_admits : (condition : Condition) (width : Width) {x y : Interval} (taken : Bool) {m n : ℕ} → IsAnswer condition width x y taken m n
    → (both : Narrowed) × (refine condition width x y taken ≡ Some both) × Admits both.left m × Admits both.right n
refine-still_admits condition width taken is = refine_by-still_admits (relation_of condition taken) condition width is (plain_condition_relates condition width is)

-- narrowed intervals are proper, and lie within the original ones

record Narrows (both : Narrowed) (x y : Interval) : Type 0 where
  within : IsWithin both.left x × IsWithin both.right y
  proper : IsProper x → IsProper y → IsProper both.left × IsProper both.right

reached-within : (left right x y : Interval) (both : Narrowed) → IsWithin left x → IsWithin right y → if_reached left right ≡ Some both
    → Narrows both x y
reached-within left right x y both within-x within-y is =
    let parts = cond_some _ _ _ is in
    let ordered = and_parts _ _ parts.0 in
    let reached : Narrows (narrowed left right) x y = record {
      within = (within-x, within-y);
      proper = λ proper-x proper-y. (
        record { ordered = leb-true _ _ ordered.0; fits = omega arith },
        record { ordered = leb-true _ _ ordered.1; fits = omega arith },
      );
    } in
    subst (λ (z : Narrowed). Narrows z x y) parts.1 reached

within_if : (test : Bool) (a b x : Interval) → IsWithin a x → IsWithin b x → IsWithin (if test then a else b) x
within_if true a b x first second = first
within_if false a b x first second = second

low_moved : (low v : ℕ) → low ≤ (if low == v then low + 1 else low)
low_moved low v = grind (arith, nat_tests)

high_moved : (high v : ℕ) → (if high == v then high - 1 else high) ≤ high
high_moved high v = grind (arith, nat_tests)

itself-within : (x : Interval) → IsWithin x x
itself-within x = record { low = omega arith; high = omega arith }

at_least-within : (x : Interval) (n : ℕ) → IsWithin (at_least x n) x
at_least-within x n = record { low = omega arith; high = omega arith }

at_most-within : (x : Interval) (n : ℕ) → IsWithin (at_most x n) x
at_most-within x n = record { low = omega arith; high = omega arith }

pub without-within : (x y : Interval) → IsWithin (without x y) x
without-within x y = within_if (is_single y) _ x x (record { low = low_moved x.low y.low; high = high_moved x.high y.low })
    (itself-within x)

narrow-within : (relation : Relation) (x y : Interval) (both : Narrowed) → narrow relation x y ≡ Some both → Narrows both x y
narrow-within Same x y both is =
    reached-within (common x y) (common x y) x y both (record { low = omega arith; high = omega arith })
    (record { low = omega arith; high = omega arith }) is
narrow-within Different x y both is =
    reached-within (without x y) (without y x) x y both (without-within x y) (without-within y x) is
narrow-within Above x y both is =
    reached-within (at_least x (y.low + 1)) (at_most y (x.high - 1)) x y both (at_least-within x (y.low + 1))
    (at_most-within y (x.high - 1)) is
narrow-within AtLeast x y both is =
    reached-within (at_least x y.low) (at_most y x.high) x y both (at_least-within x y.low) (at_most-within y x.high) is
narrow-within Below x y both is =
    reached-within (at_most x (y.high - 1)) (at_least y (x.low + 1)) x y both (at_most-within x (y.high - 1))
    (at_least-within y (x.low + 1)) is
narrow-within AtMost x y both is =
    reached-within (at_most x y.high) (at_least y x.low) x y both (at_most-within x y.high) (at_least-within y x.low) is

undecided : (single edge : Bool) (z both : Narrowed) → (if single then (if edge then Some z else None) else Some z) ≡ Some both → z ≡ both
undecided true true z both is = cc
undecided single edge z both is = cc

decide-within : (condition : Condition) (width : Width) (x y : Interval) (taken : Bool) (both : Narrowed)
    → decide condition width x y taken ≡ Some both → Narrows both x y
decide-within condition width x y taken both is =
    subst (λ (z : Narrowed). Narrows z x y) (undecided (is_single x && is_single y) _ (narrowed x y) both is)
    (record { within = (itself-within x, itself-within y); proper = λ proper-x proper-y. (proper-x, proper-y) })

narrows_if : (test : Bool) {a b : Option Narrowed} {x y : Interval} {both : Narrowed} → (a ≡ Some both → Narrows both x y)
    → (b ≡ Some both → Narrows both x y) → (if test then a else b) ≡ Some both → Narrows both x y
narrows_if true first second is = first is
narrows_if false first second is = second is

refine_by-within : (relation : Option Relation) (condition : Condition) (width : Width) (x y : Interval) (taken : Bool) (both : Narrowed)
    → refine_by relation condition width x y taken ≡ Some both → Narrows both x y
refine_by-within None condition width x y taken both is = decide-within condition width x y taken both is
refine_by-within (Some relation) condition width x y taken both is =
    narrows_if (is_plain condition width x y) (narrow-within relation x y both) (decide-within condition width x y taken both) is

pub refine-within : (condition : Condition) (width : Width) {x y : Interval} (taken : Bool) {both : Narrowed} → IsProper x → IsProper y
    → refine condition width x y taken ≡ Some both → IsProper both.left × IsProper both.right × IsWithin both.left x × IsWithin both.right y
refine-within condition width taken proper-x proper-y is =
    let narrows = refine_by-within (relation_of condition taken) condition width _ _ taken _ is in
    let proper = narrows.proper proper-x proper-y in
    (proper.0, proper.1, narrows.within.0, narrows.within.1)

-- the same for any result of two intervals

pub refined-still_admits : (condition : Condition) (width : Width) {x y : Interval} {taken : Bool} {result : Option Narrowed}
    → result ≡ refine condition width x y taken → (m n : ℕ) → Admits x m → Admits y n → condition_holds condition width m n ≡ taken
    → IsSomeAnd result (λ both. Admits both.left m × Admits both.right n)
refined-still_admits condition width {taken = taken} is = λ m n left right answer.
    let admitted = refine-still_admits condition width taken (record { left = left; right = right; answer = answer }) in
    subst (λ (o : Option Narrowed). IsSomeAnd o (λ both. Admits both.left m × Admits both.right n)) (sym (is ∙ admitted.1)) (admitted.2, admitted.3)

pub refined-within : (condition : Condition) (width : Width) (x y : Interval) (taken : Bool) (result : Option Narrowed)
    → result ≡ refine condition width x y taken → IfSome result (λ both. IsWithin both.left x × IsWithin both.right y)
refined-within condition width x y taken result is =
    if_some result _ (λ both some. (refine_by-within (relation_of condition taken) condition width x y taken both (sym is ∙ some)).within)

pub refined-proper : (condition : Condition) (width : Width) {x y : Interval} (taken : Bool) {result : Option Narrowed}
    → result ≡ refine condition width x y taken → IsProper x → IsProper y → IfSome result (λ both. IsProper both.left × IsProper both.right)
refined-proper condition width taken is proper-x proper-y =
    if_some _ _ (λ both some. (refine_by-within (relation_of condition taken) condition width _ _ taken both (sym is ∙ some)).proper
    proper-x proper-y)
