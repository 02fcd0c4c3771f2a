-- What is known of the frame is sound: marked bytes are written, bytes are marked only if they were written, and nothing is known of slots that may
-- have been overwritten.
use Rattle.std.proofs.Common.{◌≡◌, ℕ, zero, suc, ◌+◌, ◌<◌, ◌≤◌, ℤ, pos, ◌+ℤ◌, ◌≤ℤ◌, ◌&&◌, int_le, unsigned_abs, Bool, true, false, IsTrue}
use Rattle.std.proofs.Common.{List, if◌then◌else◌, refl, subst, arith}
use Rattle.std.specs.Ordering.{int_eq}
use Rattle.std.proofs.lemmas.Bool.Decides.{nat_tests}
use Rattle.std.proofs.lemmas.Int.{ints}
use Rattle.bpf_insn.specs.declared.memory.TheConstants.{FRAME_LENGTH, SLOTS}
use Rattle.bpf_frame.specs.FrameMap as map
use Rattle.bpf_insn.specs.Frame.{IsApart, FrameByte, FrameContents, is_written, slot_value}
use Rattle.bpf_frame.proofs.AdmitLemmas.{admits_unchanged, mark_admits, touch_admits}
use Rattle.bpf_frame.proofs.ProperLemmas.{touch_is_proper}
use Rattle.bpf_frame.proofs.ReadLemmas.{all_written_is}
use Rattle.bpf_kinds.specs.Kind as kind
use Rattle.bpf_kinds.specs.Offsets.{Admits}
use Rattle.bpf_kinds.specs.declared.offsets.Offsets.{Offsets}
use Rattle.bpf_meaning.specs.Effect as effect
use Rattle.bpf_meaning.specs.State.{register_value}
use Rattle.bpf_meaning.specs.declared.state.State.{State}
use Rattle.bpf_verify.specs.Transfer.{lie_within, all_marked, mark_bytes, touch_bytes, write_bytes}
use Rattle.bpf_verify.specs.LiftedState.{kind_of, IsProperState, AdmitsState}
use Rattle.bpf_verify.specs.declared.abstract_state.AbstractState.{AbstractState}
use Rattle.bpf_verify.proofs.SoundChecks.{HasState}

-- bytes that lie within an area from each of the offsets on also lie within it from one of them on
pub lies_within : (x : Offsets) (at offset : ℤ) (count bytes : ℕ) → Admits x at → lie_within x offset count bytes ≡ true
    → effect.lie_within (at +ℤ offset) count bytes ≡ true
lies_within x at offset count bytes admits within = by_ends x.low x.high admits.above admits.below within
  where
    by_ends : (low high : ℤ) → low ≤ℤ at → at ≤ℤ high → (int_le (pos 0) (low +ℤ offset) && int_le ((high +ℤ offset) +ℤ pos count)
        (pos bytes)) ≡ true → (int_le (pos 0) (at +ℤ offset) && int_le ((at +ℤ offset) +ℤ pos count) (pos bytes)) ≡ true
    by_ends low high above below within = grind (arith, ints, nat_tests)

-- `count` bytes of memory from an offset on are written
abbrev pub AreWritten : List FrameByte → ℤ → ℕ → Type 0
AreWritten memory from count = (i : ℕ) → unsigned_abs from ≤ i → i < unsigned_abs from + count → IsTrue (is_written memory i)

-- the ends of the bytes that may be read, and an offset between them
record LieBetween (low high at : ℤ) (offset : ℤ) (count : ℕ) : Type 0 where
  above : unsigned_abs (low +ℤ offset) ≤ unsigned_abs (at +ℤ offset)
  below : unsigned_abs (at +ℤ offset) ≤ unsigned_abs (high +ℤ offset)
  within : unsigned_abs (high +ℤ offset) + count ≤ FRAME_LENGTH

lie_between : (low high at offset : ℤ) (count : ℕ) → low ≤ℤ at → at ≤ℤ high
    → (int_le (pos 0) (low +ℤ offset) && int_le ((high +ℤ offset) +ℤ pos count) (pos FRAME_LENGTH)) ≡ true
    → LieBetween low high at offset count
lie_between low high at offset count above below within = record {
  above = grind (arith, ints, nat_tests);
  below = grind (arith, ints, nat_tests);
  within = grind (arith, ints, nat_tests);
}

-- the ends of the bytes that may be written
touched_ends : (low high offset : ℤ) (more : ℕ) → low ≤ℤ high
    → (int_le (pos 0) (low +ℤ offset) && int_le ((high +ℤ offset) +ℤ pos (suc more)) (pos FRAME_LENGTH)) ≡ true
    → (unsigned_abs (low +ℤ offset) ≤ unsigned_abs (high +ℤ offset) + more) × (unsigned_abs (high +ℤ offset) + more < FRAME_LENGTH)
touched_ends low high offset more ordered within = (grind (arith, ints, nat_tests), grind (arith, ints, nat_tests))

pub touched_is_proper : (known : AbstractState) (x : Offsets) (offset : ℤ) (count : ℕ) → IsProperState known → x.low ≤ℤ x.high
    → lie_within x offset count FRAME_LENGTH ≡ true → IsProperState (touch_bytes known x offset count)
touched_is_proper known x offset zero proper ordered within = proper
touched_is_proper known x offset (suc more) proper ordered within =
    let ends = touched_ends x.low x.high offset more ordered within in
    record {
      count = proper.count;
      kinds = proper.kinds;
      frame = touch_is_proper known.frame (unsigned_abs (x.low +ℤ offset))
          (unsigned_abs (x.high +ℤ offset) + more) proper.frame ends.0 ends.1;
    }

-- a frame before and after `count` of its bytes were written from an offset on
pub record IsWritten (before after : FrameContents) (from : ℤ) (count : ℕ) : Type 0 where
  pub still_written : (i : ℕ) → IsTrue (is_written before.bytes i) → IsTrue (is_written after.bytes i)
  pub written : AreWritten after.bytes from count
  pub preserved : (slot : ℕ) → slot < SLOTS → IsApart slot (unsigned_abs from) count → slot_value after slot ≡ slot_value before slot

-- what is known of a frame before it is written, and of the registers after that
pub record IsKnownBefore (known : AbstractState) (before : FrameContents) (after : State) : Type 0 where
  pub proper : IsProperState known
  pub registers : (register : ℕ) → kind.Admits (kind_of known register) (register_value after register)
  pub frame : map.Admits known.frame before

ordered_ends : (x : Offsets) (at : ℤ) → Admits x at → x.low ≤ℤ x.high
ordered_ends x at admits = let above = admits.above in let below = admits.below in omega (arith, ints)

-- one of the offsets from which bytes are read, or may have been written
module _ {x : Offsets} {at : ℤ} (offset : ℤ) (admits : Admits x at) where
  -- bytes that are marked from each of the offsets on are written from one of them on
  pub marked_are_written : {known : AbstractState} {state : State} → HasState known state → (count : ℕ)
      → lie_within x offset count FRAME_LENGTH ≡ true → all_marked known x offset count ≡ true
      → AreWritten state.frame.bytes (at +ℤ offset) count
  marked_are_written has zero within marked i above below = absurd (omega arith)
  marked_are_written {known} has (suc more) within marked i above below =
      let ends = lie_between x.low x.high at offset (suc more) admits.above admits.below within in
      let left = ends.above in let right = ends.below in let short = ends.within in let count = has.proper.frame.count in
      let from = unsigned_abs (x.low +ℤ offset) in
      let to = unsigned_abs (x.high +ℤ offset) + more in
      has.admits.frame.written i
      ((all_written_is known.frame.marks from to (omega arith) (omega arith)).0 marked i (omega arith) (omega arith))

  -- the state after bytes may have been written from each of the offsets on, if they were written from one of them on
  touched_admits : {known : AbstractState} {before : FrameContents} {after : State} → IsKnownBefore known before after → (count most : ℕ)
      → lie_within x offset most FRAME_LENGTH ≡ true → count ≤ most → IsWritten before after.frame (at +ℤ offset) count
      → AdmitsState (touch_bytes known x offset most) after
  touched_admits {after} is zero zero within fewer written = record {
    registers = is.registers;
    frame = admits_unchanged after.frame is.proper.frame is.frame written.still_written
        (λ slot inside. written.preserved slot inside (λ i above below same. omega arith));
  }
  touched_admits is (suc count) zero within fewer written = absurd (omega arith)
  touched_admits {after} is count (suc more) within fewer written =
      let ends = touched_ends x.low x.high offset more (ordered_ends x at admits) within in
      let between = lie_between x.low x.high at offset (suc more) admits.above admits.below within in
      let left = between.above in let right = between.below in
      record {
        registers = is.registers;
        frame = touch_admits after.frame is.proper.frame is.frame (unsigned_abs (x.low +ℤ offset)) (unsigned_abs (x.high +ℤ offset) + more)
            ends.0 ends.1 written.still_written
            (λ slot inside apart. written.preserved slot inside (λ i above below same. apart i (omega arith) (omega arith) same));
      }

  module _ {known : AbstractState} {after : State} where
    -- and after the bytes that were written in any case are marked
    marks_admit : IsProperState known → AdmitsState known after → (count least : ℕ)
        → lie_within x offset count FRAME_LENGTH ≡ true → least ≤ count → AreWritten after.frame.bytes (at +ℤ offset) count
        → AdmitsState (mark_bytes known x offset least) after
    marks_admit proper admitted count least within fewer written = by_test (int_eq x.low x.high) refl
      where
        from : ℕ
        from = unsigned_abs (x.low +ℤ offset)

        marked : AbstractState
        marked = record known { frame = map.mark known.frame from least }

        only_one : (low high z : ℤ) → low ≤ℤ z → z ≤ℤ high → int_eq low high ≡ true → z ≡ low
        only_one low high z above below one = grind (arith, ints, nat_tests)

        by_test : (one : Bool) → int_eq x.low x.high ≡ one → AdmitsState (if one then marked else known) after
        by_test true one =
            let same : at ≡ x.low = only_one x.low x.high at admits.above admits.below one in
            let here : AreWritten after.frame.bytes (x.low +ℤ offset) count =
            subst (λ (z : ℤ). AreWritten after.frame.bytes (z +ℤ offset) count) same written in
            let ends = lie_between x.low x.high at offset count admits.above admits.below within in
            let left = ends.above in let right = ends.below in let short = ends.within in
            record {
              registers = admitted.registers;
              frame = mark_admits after.frame proper.frame admitted.frame from least (omega arith) (λ i there. there)
                  (λ i above below. here i above (omega arith)) (λ slot inside apart. refl);
            }
        by_test false many = admitted

  -- the state after bytes are written from one of the offsets on
  pub writes_admit : {known : AbstractState} {before : FrameContents} {after : State} → IsKnownBefore known before after → (count least most : ℕ)
      → lie_within x offset most FRAME_LENGTH ≡ true → least ≤ count → count ≤ most → IsWritten before after.frame (at +ℤ offset) count
      → AdmitsState (write_bytes known x offset least most) after
  writes_admit is count least most within fewer more written =
      marks_admit (touched_is_proper _ x offset most is.proper (ordered_ends x at admits) within)
      (touched_admits is count most within more written) count least (shorter x.low x.high most count more within) fewer written.written
    where
      shorter : (low high : ℤ) (count less : ℕ) → less ≤ count
          → (int_le (pos 0) (low +ℤ offset) && int_le ((high +ℤ offset) +ℤ pos count) (pos FRAME_LENGTH)) ≡ true
          → (int_le (pos 0) (low +ℤ offset) && int_le ((high +ℤ offset) +ℤ pos less) (pos FRAME_LENGTH)) ≡ true
      shorter low high count less below within = grind (arith, ints, nat_tests)
