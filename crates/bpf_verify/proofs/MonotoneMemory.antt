-- Loads and stores are monotone: a lower state passes every check that a higher one passes, and is lower after the instruction.
use Rattle.std.proofs.Common.{◌≡◌, ℕ, zero, suc, ◌+◌, ◌*◌, ◌/◌, ◌<◌, ◌≤◌, ℤ, pos, ◌+ℤ◌, ◌≤ℤ◌, ◌&&◌, int_le, unsigned_abs, Bool, true, false}
use Rattle.std.proofs.Common.{length, Option, Some, None, Result, Ok, Err, if◌then◌else◌, refl, sym, ap, ◌∙◌, subst, arith}
use Rattle.std.specs.Ordering.{int_eq}
use Rattle.std.proofs.lemmas.Bool.{false≢true}
use Rattle.std.proofs.lemmas.Bool.Decides.{nat_tests}
use Rattle.std.proofs.lemmas.Int.{ints}
use Rattle.bpf_insn.specs.Memory.{load_length, store_length}
use Rattle.bpf_insn.specs.declared.instruction.LoadFormat.{LoadFormat}
use Rattle.bpf_insn.specs.declared.instruction.LoadFormat.TheVariants as format
use Rattle.bpf_insn.specs.Frame.{slot_at}
use Rattle.bpf_insn.specs.declared.instruction.StoreSize.{StoreSize}
use Rattle.bpf_insn.specs.declared.memory.TheConstants.{FRAME_LENGTH, SLOT_LENGTH, SLOTS}
use Rattle.bpf_insn.specs.declared.value.Area.{Area}
use Rattle.bpf_insn.specs.declared.value.Area.TheVariants as area
use Rattle.bpf_frame.specs.FrameMap as map
use Rattle.bpf_frame.specs.FrameMap.{IsMarked, mark, set_slot, slot_kind, touch}
use Rattle.bpf_frame.proofs.MarkLemmas.{mark_preserves}
use Rattle.bpf_frame.proofs.ProperLemmas.{IsNoPointer, in_frame, no_pointer_at_mark, touch_is_proper}
use Rattle.bpf_frame.proofs.ReadLemmas.{written_at}
use Rattle.bpf_frame.proofs.MonotoneLemmas.{all_written_falls, mark_lowers, mark_is_monotone, mark_within_touched, set_number_lowers, set_slot_is_monotone}
use Rattle.bpf_frame.proofs.MonotoneLemmas.{touch_is_monotone, touch_widens}
use Rattle.bpf_kinds.specs.Interval as interval
use Rattle.bpf_kinds.specs.Kind as kind
use Rattle.bpf_kinds.specs.Results.{load}
use Rattle.bpf_kinds.specs.declared.interval.Interval.{Interval}
use Rattle.bpf_kinds.specs.declared.kind.Kind.{Kind}
use Rattle.bpf_kinds.specs.declared.kind.Kind.TheVariants.{Number, Nothing}
use Rattle.bpf_kinds.specs.declared.offsets.Offsets.{Offsets}
use Rattle.bpf_kinds.proofs.ListLemmas.{set_both}
use Rattle.bpf_kinds.proofs.ResultLemmas.{load-proper}
use Rattle.bpf_meaning.specs.Checks.{Sound}
use Rattle.bpf_meaning.specs.declared.cause.Cause.{Cause}
use Rattle.bpf_meaning.specs.declared.cause.Cause.TheVariants.{OutOfBounds, UnwrittenFrame}
use Rattle.bpf_meaning.proofs.CheckLemmas.{then_sound, passes_if}
use Rattle.bpf_insn.proofs.SlotLemmas.{slot_at-is}
use Rattle.bpf_verify.specs.LiftedState.{IsBelow, IsProperState, IsWithinState, with_kind}
use Rattle.bpf_verify.specs.Transfer.{only_pointers, pointers_in, lie_within, area_length, all_marked, store_kind, slot_kind_or_nothing, kind_or, known_slot}
use Rattle.bpf_verify.specs.Transfer.{load_area, load_from, frame_offsets, mark_bytes, store_at, touch_bytes, write_bytes}
use Rattle.bpf_verify.specs.declared.memory.Pointers.{Pointers}
use Rattle.bpf_verify.specs.declared.abstract_state.AbstractState.{AbstractState}
use Rattle.bpf_verify.proofs.PointerLemmas.{ArePointers, record_pointers, frame_pointers}
use Rattle.bpf_kinds.proofs.LowerLemmas.{IsLowerInterval, AreLowerOffsets}
use Rattle.bpf_verify.proofs.MonotoneChecks.{IsLower, is_lower, lower_cases, read_lower}

-- the base

pub record ArePointersLower (higher lower : Pointers) : Type 0 where
  pub into : lower.area ≡ higher.area
  pub offsets : AreLowerOffsets higher.offsets lower.offsets

only_pointers_lower : (x n : Kind) → IsLower x n → Sound ArePointersLower (only_pointers x) (only_pointers n)
only_pointers_lower =
    lower_cases (λ x n. Sound ArePointersLower (only_pointers x) (only_pointers n)) (λ x n is. tt)
    (λ x n are. record { into = refl; offsets = are }) (λ x n are. record { into = refl; offsets = are }) (λ n. tt)

pub pointers_lower : (higher lower : AbstractState) → IsBelow lower higher → (base : ℕ)
    → Sound ArePointersLower (pointers_in higher base) (pointers_in lower base)
pointers_lower higher lower below base = then_sound IsLower ArePointersLower _ _ _ _
    (read_lower higher lower below base) only_pointers_lower

-- bytes that start at each of the offsets

pub lie_within_falls : {x n : Offsets} (offset : ℤ) (count less bytes : ℕ) → AreLowerOffsets x n → less ≤ count
    → lie_within x offset count bytes ≡ true → lie_within n offset less bytes ≡ true
lie_within_falls offset count less bytes is fewer within =
    by_ends _ _ _ _ is.within.low is.ordered is.within.high within
  where
    by_ends : (least low high most : ℤ) → least ≤ℤ low → low ≤ℤ high → high ≤ℤ most
        → (int_le (pos 0) (least +ℤ offset) && int_le ((most +ℤ offset) +ℤ pos count) (pos bytes)) ≡ true
        → (int_le (pos 0) (low +ℤ offset) && int_le ((high +ℤ offset) +ℤ pos less) (pos bytes)) ≡ true
    by_ends least low high most above between below within = grind (arith, ints, nat_tests)

-- the ends of offsets within others, as indexes of the frame's bytes
record LieInside (x n : Offsets) (offset : ℤ) (count : ℕ) : Type 0 where
  above : unsigned_abs (x.low +ℤ offset) ≤ unsigned_abs (n.low +ℤ offset)
  between : unsigned_abs (n.low +ℤ offset) ≤ unsigned_abs (n.high +ℤ offset)
  below : unsigned_abs (n.high +ℤ offset) ≤ unsigned_abs (x.high +ℤ offset)
  within : unsigned_abs (x.high +ℤ offset) + count ≤ FRAME_LENGTH

lie_inside : {x n : Offsets} (offset : ℤ) (count : ℕ) → AreLowerOffsets x n → lie_within x offset count FRAME_LENGTH ≡ true
    → LieInside x n offset count
lie_inside offset count is within =
    let above = is.within.low in let between = is.ordered in let below = is.within.high in
    record {
      above = grind (arith, ints, nat_tests);
      between = grind (arith, ints, nat_tests);
      below = grind (arith, ints, nat_tests);
      within = grind (arith, ints, nat_tests);
    }

-- offsets lie within themselves
themselves : (x : Offsets) → x.low ≤ℤ x.high → AreLowerOffsets x x
themselves x ordered = record { within = record { low = omega (arith, ints); high = omega (arith, ints) }; ordered = ordered }

-- loads

load_lower : (format : LoadFormat) → IsLowerInterval (load format) (load format)
load_lower format = let proper = load-proper format in let ordered = proper.ordered in
    record { within = record { low = omega arith; high = omega arith }; ordered = ordered }

-- a load of a whole slot yields any number
whole_lower : (format : LoadFormat) (x : Interval) → load_length format ≡ SLOT_LENGTH → interval.IsProper x
    → IsLowerInterval (load format) x
whole_lower format.DoubleWord x long proper =
    let ordered = proper.ordered in let fits = proper.fits in record
    { within = record { low = omega arith; high = omega arith }; ordered = ordered }
whole_lower format x long proper = absurd (omega (arith, long))

known_slot_at : (x : Offsets) (offset : ℤ) (count slot : ℕ) → known_slot x offset count ≡ Some slot → (count ≡ SLOT_LENGTH)
    × (unsigned_abs (x.low +ℤ offset) ≡ SLOT_LENGTH * slot)
known_slot_at x offset count slot known = by_test (int_eq x.low x.high) known
  where
    by_test : (one : Bool) → (if one then slot_at (unsigned_abs (x.low +ℤ offset)) count else None) ≡ Some slot → (count ≡ SLOT_LENGTH)
        × (unsigned_abs (x.low +ℤ offset) ≡ SLOT_LENGTH * slot)
    by_test true found = slot_at-is (unsigned_abs (x.low +ℤ offset)) count slot found
    by_test false found = cc

-- a known slot is whole, and its first byte is the one at the single known offset
known_slot_whole : (x : Offsets) (offset : ℤ) (count slot : ℕ) → known_slot x offset count ≡ Some slot → (count ≡ SLOT_LENGTH)
    × (unsigned_abs (x.low +ℤ offset) / SLOT_LENGTH ≡ slot)
known_slot_whole x offset count slot known = let whole = known_slot_at x offset count slot known in let place = whole.1 in
    (whole.0, omega arith)

-- the first one of marked bytes is marked
marked_first : {known : AbstractState} (x : Offsets) (offset : ℤ) {count : ℕ} → IsProperState known → count ≡ SLOT_LENGTH → x.low ≤ℤ x.high
    → lie_within x offset count FRAME_LENGTH ≡ true → all_marked known x offset count ≡ true
    → IsMarked known.frame.marks (unsigned_abs (x.low +ℤ offset))
marked_first x offset {count = zero} proper long ordered within marked = absurd (omega (arith, long))
marked_first x offset {count = suc more} proper long ordered within marked =
    let ends = lie_inside offset (suc more) (themselves x ordered) within in
    let between = ends.between in let short = ends.within in let count = proper.frame.count in
    written_at _ (unsigned_abs (x.low +ℤ offset)) (unsigned_abs (x.high +ℤ offset) + more) (unsigned_abs (x.low +ℤ offset))
    (omega arith) (omega arith) (omega arith) marked

-- the kind in a slot, if it's known which slot is loaded

-- a single offset has only itself below it
only_one : (least low high most : ℤ) → least ≤ℤ low → low ≤ℤ high → high ≤ℤ most → int_eq least most ≡ true → (low ≡ least)
    × (int_eq low high ≡ true)
only_one least low high most above between below one = (grind (arith, ints, nat_tests), grind (arith, ints, nat_tests))

-- a slot that is known for some offsets is the one known for fewer offsets
known_slot_falls : (x n : Offsets) (offset : ℤ) (count slot : ℕ) → AreLowerOffsets x n → known_slot x offset count ≡ Some slot
    → known_slot n offset count ≡ Some slot
known_slot_falls x n offset count slot is known = by_test (int_eq x.low x.high) refl known
  where
    by_test : (one : Bool) → int_eq x.low x.high ≡ one → (if one then slot_at (unsigned_abs (x.low +ℤ offset)) count else None) ≡ Some slot
        → known_slot n offset count ≡ Some slot
    by_test true one found =
        let only = only_one x.low n.low n.high x.high is.within.low is.ordered is.within.high one in
        rw (only.1) (ap (λ (z : ℤ). slot_at (unsigned_abs (z +ℤ offset)) count) only.0 ∙ found)
    by_test false many found = cc

-- the result of a load of marked bytes lies above that of a load of the slot, if the slot holds a number, or nothing is known of it
marked_lower : (format : LoadFormat) (otherwise : Result Kind Cause) (k : Kind) → load_length format ≡ SLOT_LENGTH → IsNoPointer k
    → kind.IsProper k → Sound IsLower (Ok (Number (load format))) otherwise
    → Sound IsLower (Ok (Number (load format))) (kind_or otherwise k)
marked_lower format otherwise (Number x) long is proper rest = whole_lower format x long proper
marked_lower format otherwise Nothing long is proper rest = rest
marked_lower format otherwise pointer long is proper rest = absurd is

-- the kind in the slot of fewer offsets
kind_or_lower : (otherwise other : Result Kind Cause) (k l : Kind) → IsLower k l → (k ≡ Nothing → Sound IsLower otherwise (kind_or other l))
    → Sound IsLower (kind_or otherwise k) (kind_or other l)
kind_or_lower otherwise other k l is =
    lower_cases (λ k l. (k ≡ Nothing → Sound IsLower otherwise (kind_or other l)) → Sound IsLower (kind_or otherwise k) (kind_or other l))
    (λ x n is rest. is) (λ x n are rest. are) (λ x n are rest. are) (λ n rest. rest refl) k l is

-- offsets of a lower state within those of a higher one, from which bytes are loaded
module _ {higher lower : AbstractState} (below : IsBelow lower higher) {x n : Offsets} (offset : ℤ) (is : AreLowerOffsets x n) where
  pub all_marked_falls : (count less : ℕ) → less ≤ count → lie_within x offset count FRAME_LENGTH ≡ true
      → all_marked higher x offset count ≡ true → all_marked lower n offset less ≡ true
  all_marked_falls count zero fewer within marked = refl
  all_marked_falls zero (suc less) fewer within marked = absurd (omega arith)
  all_marked_falls (suc count) (suc less) fewer within marked =
      let ends = lie_inside offset (suc count) is within in
      let above = ends.above in let between = ends.between in let under = ends.below in let short = ends.within in
      all_written_falls below.proper.frame below.proper_higher.frame below.within.frame (unsigned_abs (n.low +ℤ offset))
      (unsigned_abs (n.high +ℤ offset) + less) (unsigned_abs (x.low +ℤ offset)) (unsigned_abs (x.high +ℤ offset) + count)
      above (omega arith) marked

  load_area_lower : (format : LoadFormat) (into : Area) → lie_within x offset (load_length format) (area_length into) ≡ true
      → Sound IsLower (load_area higher format (record { area = into; offsets = x }) offset)
      (load_area lower format (record { area = into; offsets = n }) offset)
  load_area_lower format area.Record within = load_lower format
  load_area_lower format area.Frame within =
      by_slot (known_slot x offset count) (known_slot n offset count) refl refl
    where
      count : ℕ
      count = load_length format

      bytes : AbstractState → Offsets → Result Kind Cause
      bytes known offsets = if all_marked known offsets offset count then Ok (Number (load format)) else Err UnwrittenFrame

      -- bytes that are marked in the higher state are marked in the lower one
      bytes_lower : (marked : Bool) → all_marked higher x offset count ≡ marked
          → Sound IsLower (if marked then Ok (Number (load format)) else Err UnwrittenFrame) (bytes lower n)
      bytes_lower true marked =
          passes_if IsLower (Ok (Number (load format))) (Ok (Number (load format))) (all_marked lower n offset count) UnwrittenFrame
          (all_marked_falls count count (omega arith) within marked) (load_lower format)
      bytes_lower false unmarked = tt

      -- the slot of the lower state, if its bytes are marked in the higher one
      slot_lower : (slot : ℕ) → known_slot n offset count ≡ Some slot → (marked : Bool) → all_marked higher x offset count ≡ marked
          → Sound IsLower (if marked then Ok (Number (load format)) else Err UnwrittenFrame)
          (kind_or (bytes lower n) (slot_kind lower.frame slot))
      slot_lower slot known true marked =
          let whole = known_slot_whole n offset count slot known in
          marked_lower format (bytes lower n) (slot_kind lower.frame slot) whole.0
          (no_pointer_at_mark lower.frame slot (unsigned_abs (n.low +ℤ offset)) below.proper.frame whole.1
          (marked_first n offset below.proper whole.0 is.ordered (lie_within_falls offset count count FRAME_LENGTH is (omega arith) within)
          (all_marked_falls count count (omega arith) within marked)))
          (below.proper.frame.kinds slot) (bytes_lower true marked)
      slot_lower slot known false unmarked = tt

      by_slot : (found other : Option ℕ) → known_slot x offset count ≡ found → known_slot n offset count ≡ other
          → Sound IsLower (kind_or (bytes higher x) (slot_kind_or_nothing higher found)) (kind_or (bytes lower n) (slot_kind_or_nothing lower other))
      by_slot None None none nowhere = bytes_lower (all_marked higher x offset count) refl
      by_slot None (Some slot) none known = slot_lower slot known (all_marked higher x offset count) refl
      by_slot (Some slot) other known is_other =
          let same : other ≡ Some slot = sym is_other ∙ known_slot_falls x n offset count slot is known in
          subst (λ (o : Option ℕ). Sound IsLower (kind_or (bytes higher x) (slot_kind higher.frame slot))
          (kind_or (bytes lower n) (slot_kind_or_nothing lower o))) (sym same)
          (kind_or_lower (bytes higher x) (bytes lower n) (slot_kind higher.frame slot) (slot_kind lower.frame slot)
          (is_lower (slot_kind higher.frame slot) (slot_kind lower.frame slot) (below.within.frame.kinds slot)
          (below.proper.frame.kinds slot))
          (λ nothing. slot_lower slot (known_slot_falls x n offset count slot is known) (all_marked higher x offset count) refl))

  load_into_lower : (format : LoadFormat) (into : Area)
      → Sound IsLower (load_from higher format (record { area = into; offsets = x }) offset)
      (load_from lower format (record { area = into; offsets = n }) offset)
  load_into_lower format into =
      by_test (lie_within x offset (load_length format) (area_length into)) refl
    where
      by_test : (within : Bool) → lie_within x offset (load_length format) (area_length into) ≡ within
          → Sound IsLower (if within then load_area higher format (record { area = into; offsets = x }) offset else Err OutOfBounds)
          (load_from lower format (record { area = into; offsets = n }) offset)
      by_test true within =
          passes_if IsLower (load_area higher format (record { area = into; offsets = x }) offset)
          (load_area lower format (record { area = into; offsets = n }) offset)
          (lie_within n offset (load_length format) (area_length into)) OutOfBounds
          (lie_within_falls offset (load_length format) (load_length format) (area_length into) is (omega arith) within)
          (load_area_lower format into within)
      by_test false outside = tt

pub load_from_lower : (higher lower : AbstractState) → IsBelow lower higher → (format : LoadFormat) (p q : Pointers) (offset : ℤ)
    → ArePointersLower p q → Sound IsLower (load_from higher format p offset) (load_from lower format q offset)
load_from_lower higher lower below format p q offset are =
    subst (λ (into : Area). Sound IsLower (load_from higher format p offset)
    (load_from lower format (record { area = into; offsets = q.offsets }) offset)) (sym are.into)
    (load_into_lower below offset are.offsets format p.area)

-- stores

frame_only_lower : (into : Area) (x n : Offsets) → AreLowerOffsets x n
    → Sound AreLowerOffsets (frame_offsets (record { area = into; offsets = x })) (frame_offsets (record { area = into; offsets = n }))
frame_only_lower area.Record x n is = tt
frame_only_lower area.Frame x n is = is

pub frame_offsets_lower : (p q : Pointers) → ArePointersLower p q → Sound AreLowerOffsets (frame_offsets p) (frame_offsets q)
frame_offsets_lower p q are =
    subst (λ (into : Area). Sound AreLowerOffsets (frame_offsets p) (frame_offsets (record { area = into; offsets = q.offsets })))
    (sym are.into)
    (frame_only_lower p.area p.offsets q.offsets are.offsets)

-- Bytes that are written: above, nothing is known of the slots that may have been overwritten; below, the bytes that were written in any case are
-- marked.

-- the state after the touched bytes of a frame are marked
abbrev marks : AbstractState → Offsets → ℤ → ℕ → Bool → AbstractState
marks known x offset count one = if one then record known { frame = mark known.frame (unsigned_abs (x.low +ℤ offset)) count } else known

-- the same, to which bytes are stored
module _ {higher lower : AbstractState} (below : IsBelow lower higher) {x n : Offsets} (offset : ℤ) (is : AreLowerOffsets x n) where
  -- bytes from each of the higher state's offsets on are touched in the higher state, and none or some of these in the lower one
  marks_lower : {frame : map.Contents} (fewer least more : ℕ) → map.IsProper frame
      × map.IsWithin frame (touch higher.frame (unsigned_abs (x.low +ℤ offset)) (unsigned_abs (x.high +ℤ offset) + more))
      → fewer ≤ least → least ≤ suc more → lie_within x offset (suc more) FRAME_LENGTH ≡ true
      → IsWithinState (mark_bytes (record lower { frame = frame }) n offset least)
      (mark_bytes (touch_bytes higher x offset (suc more)) x offset fewer)
  marks_lower {frame} fewer least more (proper, within) less few inside = by_tests (int_eq x.low x.high) (int_eq n.low n.high) refl refl
    where
      low : ℕ
      low = unsigned_abs (x.low +ℤ offset)

      high : ℕ
      high = unsigned_abs (x.high +ℤ offset) + more

      from : ℕ
      from = unsigned_abs (n.low +ℤ offset)

      ends : LieInside x n offset (suc more)
      ends = lie_inside offset (suc more) is inside

      short : high < FRAME_LENGTH
      short = let within = ends.within in omega arith

      least_inside : from + least ≤ high + 1
      least_inside = let between = ends.between in let under = ends.below in omega arith

      ordered : low ≤ high
      ordered = let above = ends.above in let between = ends.between in let under = ends.below in omega arith

      touched : AbstractState
      touched = record higher { frame = touch higher.frame low high }

      by_tests : (one same : Bool) → int_eq x.low x.high ≡ one → int_eq n.low n.high ≡ same
          → IsWithinState (marks (record lower { frame = frame }) n offset least same) (marks touched x offset fewer one)
      by_tests true true one same =
          let only = only_one x.low n.low n.high x.high is.within.low is.ordered is.within.high one in
          subst (λ (z : ℤ). IsWithinState (marks (record lower { frame = frame }) n offset least true)
          (record touched { frame = mark touched.frame (unsigned_abs (z +ℤ offset)) fewer })) only.0
          (record {
            registers = below.within.registers;
            frame = mark_within_touched proper below.proper_higher.frame low high short within from least fewer less
                ends.above least_inside ordered;
          })
      by_tests true false one many =
          absurd (false≢true (sym many ∙ (only_one x.low n.low n.high x.high is.within.low is.ordered is.within.high one).1))
      by_tests false true many same = record {
        registers = below.within.registers;
        frame = mark_lowers proper below.proper_higher.frame low high short within from least ends.above least_inside ordered;
      }
      by_tests false false many more = record { registers = below.within.registers; frame = within }

  -- marking no bytes changes nothing
  none_marked : lie_within x offset 0 FRAME_LENGTH ≡ true → IsWithinState (mark_bytes lower n offset 0) (mark_bytes higher x offset 0)
  none_marked within = by_tests (int_eq x.low x.high) (int_eq n.low n.high) refl refl
    where
      fits : unsigned_abs (n.low +ℤ offset) + 0 ≤ FRAME_LENGTH
      fits =
          let ends = lie_inside offset 0 is within in
          let between = ends.between in let under = ends.below in let short = ends.within in omega arith

      by_tests : (one same : Bool) → int_eq x.low x.high ≡ one → int_eq n.low n.high ≡ same
          → IsWithinState (marks lower n offset 0 same) (marks higher x offset 0 one)
      by_tests true true one same =
          let only = only_one x.low n.low n.high x.high is.within.low is.ordered is.within.high one in
          subst (λ (z : ℤ). IsWithinState (marks lower n offset 0 true)
          (record higher { frame = mark higher.frame (unsigned_abs (z +ℤ offset)) 0 })) only.0
          (record {
            registers = below.within.registers;
            frame = mark_is_monotone below.proper.frame below.proper_higher.frame below.within.frame (unsigned_abs (n.low +ℤ offset)) 0 fits;
          })
      by_tests true false one many =
          absurd (false≢true (sym many ∙ (only_one x.low n.low n.high x.high is.within.low is.ordered is.within.high one).1))
      by_tests false true many same = record {
        registers = below.within.registers;
        frame = record {
          marks = λ at marked.
              mark_preserves lower.frame.marks (unsigned_abs (n.low +ℤ offset)) 0 at
              (in_frame lower.frame (unsigned_abs (n.low +ℤ offset) + 0) below.proper.frame fits) (below.within.frame.marks at marked);
          kinds = below.within.frame.kinds;
        };
      }
      by_tests false false many more = below.within

  pub write_bytes_lower : (fewer most least less : ℕ) → fewer ≤ least → least ≤ less → less ≤ most
      → lie_within x offset most FRAME_LENGTH ≡ true
      → IsWithinState (write_bytes lower n offset least less) (write_bytes higher x offset fewer most)
  write_bytes_lower zero zero zero zero one two three within = none_marked within
  write_bytes_lower fewer (suc more) least zero one two three within =
      let ends = lie_inside offset (suc more) is within in
      let above = ends.above in let between = ends.between in let under = ends.below in let short = ends.within in
      let low = unsigned_abs (x.low +ℤ offset) in let high = unsigned_abs (x.high +ℤ offset) + more in
      marks_lower fewer least more
      (below.proper.frame, touch_widens low high below.proper_higher.frame (omega arith) (omega arith) below.within.frame) one (omega arith)
      within
  write_bytes_lower fewer (suc more) least (suc rest) one two three within =
      let ends = lie_inside offset (suc more) is within in
      let above = ends.above in let between = ends.between in let under = ends.below in let short = ends.within in
      let low = unsigned_abs (x.low +ℤ offset) in let high = unsigned_abs (x.high +ℤ offset) + more in
      let from = unsigned_abs (n.low +ℤ offset) in let to = unsigned_abs (n.high +ℤ offset) + rest in
      marks_lower fewer least more (
        touch_is_proper lower.frame from to below.proper.frame (omega arith) (omega arith),
        touch_is_monotone below.proper.frame below.proper_higher.frame below.within.frame from to low high above (omega arith) (omega arith)
            (omega arith),
      )
      one (omega arith) within
  write_bytes_lower fewer zero least less one two three within = absurd (omega arith)

-- the state after a change
abbrev pub ChangesBelow : AbstractState → AbstractState → Type 0
ChangesBelow higher lower = IsWithinState lower higher

-- a known slot lies within the frame
slot_inside : (x : Offsets) (offset : ℤ) (count slot : ℕ) → known_slot x offset count ≡ Some slot → x.low ≤ℤ x.high
    → lie_within x offset count FRAME_LENGTH ≡ true → slot < SLOTS
slot_inside x offset count slot known ordered within =
    let whole = known_slot_whole x offset count slot known in
    let ends = lie_inside offset count (themselves x ordered) within in
    let between = ends.between in let short = ends.within in let long = whole.0 in let place = whole.1 in omega arith

-- the same, where a kind is stored
module _ {higher lower : AbstractState} (below : IsBelow lower higher) {x n : Offsets} (offset : ℤ) (is : AreLowerOffsets x n) where
  -- a stored number
  numbers_lower : (count : ℕ) {k l : Interval} → IsLowerInterval k l → lie_within x offset count FRAME_LENGTH ≡ true
      → IsWithinState (store_kind lower n offset count (Number l) (known_slot n offset count))
      (store_kind higher x offset count (Number k) (known_slot x offset count))
  numbers_lower count {k} {l} stored within =
      by_slot (known_slot x offset count) (known_slot n offset count) refl refl
    where
      inside : lie_within n offset count FRAME_LENGTH ≡ true
      inside = lie_within_falls offset count count FRAME_LENGTH is (omega arith) within

      -- the slot of one of the offsets, if any of them may have been written
      into_slot : (slot count : ℕ) → known_slot n offset count ≡ Some slot → known_slot x offset count ≡ None
          → lie_within x offset count FRAME_LENGTH ≡ true
          → IsWithinState (record lower { frame = set_slot lower.frame slot (Number l) }) (write_bytes higher x offset count count)
      into_slot slot zero known none within = absurd (omega (arith, (known_slot_whole n offset 0 slot known).0))
      into_slot slot (suc more) known none within = by_test (int_eq x.low x.high) refl
        where
          by_test : (one : Bool) → int_eq x.low x.high ≡ one
              → IsWithinState (record lower { frame = set_slot lower.frame slot (Number l) })
              (marks (touch_bytes higher x offset (suc more)) x offset (suc more) one)
          by_test true one =
              let only = only_one x.low n.low n.high x.high is.within.low is.ordered is.within.high one in
              let there : slot_at (unsigned_abs (n.low +ℤ offset)) (suc more) ≡ Some slot = rw (only.1) at known in
              let nowhere : slot_at (unsigned_abs (x.low +ℤ offset)) (suc more) ≡ None = rw (one) at none in
              let both : slot_at (unsigned_abs (x.low +ℤ offset)) (suc more) ≡ Some slot =
              ap (λ (z : ℤ). slot_at (unsigned_abs (z +ℤ offset)) (suc more)) (sym only.0) ∙ there in
              absurd (let no : ⊥ = cc in no)
          by_test false many =
              let whole = known_slot_at n offset (suc more) slot known in
              let ends = lie_inside offset (suc more) is within in
              let above = ends.above in let between = ends.between in let under = ends.below in let short = ends.within in
              let long = whole.0 in let place = whole.1 in
              let low = unsigned_abs (x.low +ℤ offset) in let high = unsigned_abs (x.high +ℤ offset) + more in
              record {
                registers = below.within.registers;
                frame = set_number_lowers below.proper.frame below.proper_higher.frame low high (omega arith)
                    (touch_widens low high below.proper_higher.frame (omega arith) (omega arith) below.within.frame) slot l
                    (omega arith) (omega arith);
              }

      by_slot : (found other : Option ℕ) → known_slot x offset count ≡ found → known_slot n offset count ≡ other
          → IsWithinState (store_kind lower n offset count (Number l) other) (store_kind higher x offset count (Number k) found)
      by_slot None None none nowhere =
          write_bytes_lower below offset is count count count count (omega arith) (omega arith) (omega arith) within
      by_slot None (Some slot) none known = into_slot slot count known none within
      by_slot (Some slot) other known is_other =
          let same : other ≡ Some slot = sym is_other ∙ known_slot_falls x n offset count slot is known in
          subst (λ (o : Option ℕ). IsWithinState (store_kind lower n offset count (Number l) o)
          (record higher { frame = set_slot higher.frame slot (Number k) })) (sym same)
          (record {
            registers = below.within.registers;
            frame = set_slot_is_monotone below.proper.frame below.proper_higher.frame below.within.frame slot (Number l) (Number k)
                (slot_inside n offset count slot (known_slot_falls x n offset count slot is known) is.ordered inside) (λ e. cc) stored.within;
          })

  -- a pointer stored in a known slot
  pointer_stores_lower : (size : StoreSize) {k l : Kind} → kind.IsWithin l k → ArePointers k → ArePointers l
      → Sound ChangesBelow (store_at higher x offset size k) (store_at lower n offset size l)
  pointer_stores_lower size {k} {l} stored pointers others =
      by_slot (known_slot x offset (store_length size)) refl
    where
      into_slot : (slot : ℕ) → known_slot x offset (store_length size) ≡ Some slot → (within : Bool)
          → lie_within x offset (store_length size) FRAME_LENGTH ≡ within
          → Sound ChangesBelow (if within then Ok (record higher { frame = set_slot higher.frame slot k }) else Err OutOfBounds)
          (if lie_within n offset (store_length size) FRAME_LENGTH then Ok
          (record lower { frame = set_slot lower.frame slot l }) else Err OutOfBounds)
      into_slot slot known true within =
          let inside = lie_within_falls offset (store_length size) (store_length size) FRAME_LENGTH is (omega arith) within in
          passes_if ChangesBelow (Ok (record higher { frame = set_slot higher.frame slot k }))
          (Ok (record lower { frame = set_slot lower.frame slot l })) (lie_within n offset (store_length size) FRAME_LENGTH) OutOfBounds
          inside
          (record {
            registers = below.within.registers;
            frame = set_slot_is_monotone below.proper.frame below.proper_higher.frame below.within.frame slot l k
                (slot_inside n offset (store_length size) slot (known_slot_falls x n offset (store_length size) slot is known) is.ordered
                inside) pointers.known stored;
          })
      into_slot slot known false outside = tt

      by_slot : (found : Option ℕ) → known_slot x offset (store_length size) ≡ found
          → Sound ChangesBelow (store_at higher x offset size k) (store_at lower n offset size l)
      by_slot None none = rw (none, pointers.nowhere) tt
      by_slot (Some slot) known =
          let same = known_slot_falls x n offset (store_length size) slot is known in
          rw (known, same, pointers.somewhere slot, others.somewhere slot)
          (into_slot slot known (lie_within x offset (store_length size) FRAME_LENGTH) refl)

  pub store_at_lower : (size : StoreSize) (k l : Kind) → IsLower k l → Sound ChangesBelow (store_at higher x offset size k) (store_at lower n offset size l)
  store_at_lower size k l stored =
      lower_cases (λ k l. Sound ChangesBelow (store_at higher x offset size k) (store_at lower n offset size l)) numbers
      (λ k l are. pointer_stores_lower size are.within (record_pointers k) (record_pointers l))
      (λ k l are. pointer_stores_lower size are.within (frame_pointers k) (frame_pointers l))
      (λ l. tt) k l stored
    where
      numbers : (k l : Interval) → IsLowerInterval k l → Sound ChangesBelow (store_at higher x offset size (Number k))
          (store_at lower n offset size (Number l))
      numbers k l stored = by_test (lie_within x offset (store_length size) FRAME_LENGTH) refl
        where
          after : AbstractState
          after = store_kind higher x offset (store_length size) (Number k) (known_slot x offset (store_length size))

          by_test : (within : Bool) → lie_within x offset (store_length size) FRAME_LENGTH ≡ within
              → Sound ChangesBelow (if within then Ok after else Err OutOfBounds) (store_at lower n offset size (Number l))
          by_test true within =
              let inside = lie_within_falls offset (store_length size) (store_length size) FRAME_LENGTH is (omega arith) within in
              passes_if ChangesBelow (Ok after) (Ok (store_kind lower n offset (store_length size) (Number l)
              (known_slot n offset (store_length size)))) (lie_within n offset (store_length size) FRAME_LENGTH) OutOfBounds inside
              (numbers_lower (store_length size) stored within)
          by_test false outside = tt

-- registers that are set

pub with_kind_lower : (higher lower : AbstractState) (register : ℕ) (x n : Kind) → length lower.registers ≡ length higher.registers
    → IsWithinState lower higher → kind.IsWithin n x → IsWithinState (with_kind lower register n) (with_kind higher register x)
with_kind_lower higher lower register x n same within is = record {
  registers = set_both kind.IsWithin Nothing Nothing lower.registers higher.registers register n x same is within.registers;
  frame = within.frame;
}
