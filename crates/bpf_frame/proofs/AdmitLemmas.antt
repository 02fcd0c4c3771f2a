-- The frames that are possible after bytes are marked or touched and slots are set.
use Rattle.std.proofs.Common.{◌≡◌, ◌≢◌, ℕ, zero, suc, ◌+◌, ◌-◌, ◌*◌, ◌/◌, ◌<◌, ◌≤◌, false, List, [], ◌∷◌, drop, length, get_or, Some, None}
use Rattle.std.proofs.Common.{Option, inl, inr, refl, ◌∙◌, sym, subst, arith}
use Rattle.std.specs.Prelude.{IsTrue}
use Rattle.std.specs.Option.{option_map}
use Rattle.std.proofs.lemmas.Bool.{both_ways, cases_eq, cases_lt}
use Rattle.std.proofs.lemmas.List.{length-take, length-drop, get_or-take, get_or-drop}
use Rattle.bpf_frame.specs.FrameMap.{Contents, IsProper, IsMarked, slot_kind, touch, mark, set_slot, fit_marks, unwritten, Admits}
use Rattle.bpf_insn.specs.Frame.{IsApart, FrameByte, Unwritten, Byte, FrameContents, is_byte, is_written, number_of, slot_bytes}
use Rattle.bpf_insn.specs.Frame.{slot_pointer, value_of, slot_value}
use Rattle.bpf_frame.proofs.MarkLemmas.{marked_before_or_inside, get_or-with_marks, get_or-unfit_marks}
use Rattle.bpf_frame.proofs.SlotLemmas.{slot_kind_past, touch_each, mark_each, set_kind_each}
use Rattle.bpf_frame.proofs.ProperLemmas.{in_frame, slot_in_frame, get_or-alike}
use Rattle.bpf_insn.specs.declared.memory.TheConstants.{FRAME_LENGTH, SLOT_LENGTH, SLOTS}
use Rattle.bpf_insn.specs.declared.value.Pointer.{Pointer as PointerParts}
use Rattle.bpf_kinds.specs.Kind as kind
use Rattle.bpf_kinds.specs.declared.interval.Interval.{Interval}
use Rattle.bpf_kinds.specs.declared.kind.Kind.{Kind}
use Rattle.bpf_kinds.specs.declared.kind.Kind.TheVariants.{Number, Nothing}

-- bytes that represent a number are all written

some_of_map : (f : ℕ → ℕ) (found : Option ℕ) (n : ℕ) → option_map f found ≡ Some n → (m : ℕ) × (found ≡ Some m)
some_of_map f None n is = absurd (let other : Option ℕ = None in let none : other ≡ Some n = is in cc)
some_of_map f (Some m) n is = (m, refl)

numbered_are_written : (bytes : List FrameByte) (n : ℕ) → number_of bytes ≡ Some n → (at : ℕ) → at < length bytes
    → IsTrue (is_byte (get_or bytes at Unwritten))
numbered_are_written [] n is at within = absurd (omega arith)
numbered_are_written (Unwritten ∷ bytes) n is at within = absurd (cc)
numbered_are_written (Byte byte ∷ bytes) n is zero within = refl
numbered_are_written (Byte byte ∷ bytes) n is (suc at) within =
    let rest = some_of_map (λ rest. byte + 256 * rest) (number_of bytes) n is in
    numbered_are_written bytes rest.0 rest.1 at (omega arith)

-- all bytes of a slot are written if it holds a number of an interval
number_of_slot : (x : Interval) (number : Option ℕ) (pointer : Option PointerParts) → kind.Admits (Number x) (value_of number pointer)
    → (n : ℕ) × (number ≡ Some n)
number_of_slot x (Some n) pointer admits = (n, refl)
number_of_slot x None (Some pointer) admits = absurd admits
number_of_slot x None None admits = absurd admits

number_is_written : (x : Interval) (frame : FrameContents) (slot at : ℕ) → FRAME_LENGTH ≤ length frame.bytes → slot < SLOTS
    → kind.Admits (Number x) (slot_value frame slot) → at / SLOT_LENGTH ≡ slot
    → IsTrue (is_written frame.bytes at)
number_is_written x frame slot at whole within admits same =
    let bytes : List FrameByte = slot_bytes frame.bytes slot in
    let number = number_of_slot x (number_of bytes) (slot_pointer frame slot) admits in
    let place : ℕ = at - SLOT_LENGTH * slot in
    let short : place < SLOT_LENGTH = omega arith in
    let long : length bytes ≡ SLOT_LENGTH = length_of_slot in
    let there : SLOT_LENGTH * slot + place ≡ at = omega arith in
    subst (λ (n : ℕ). IsTrue (is_written frame.bytes n)) there
    (subst (λ (byte : FrameByte). IsTrue (is_byte byte))
    (get_or-take SLOT_LENGTH (drop (SLOT_LENGTH * slot) frame.bytes) place Unwritten short
    ∙ get_or-drop (SLOT_LENGTH * slot) frame.bytes place Unwritten)
    (numbered_are_written bytes number.0 number.1 place (omega arith)))
  where
    length_of_slot : length (slot_bytes frame.bytes slot) ≡ SLOT_LENGTH
    length_of_slot = omega (
      arith,
      length-take SLOT_LENGTH (drop (SLOT_LENGTH * slot) frame.bytes),
      length-drop (SLOT_LENGTH * slot) frame.bytes,
    )

-- a frame that was possible, and the frame after a change
module _ {map : Contents} {before : FrameContents} (after : FrameContents) (proper : IsProper map) (admitted : Admits map before) where
  -- a slot that keeps its contents, or isn't in the frame, still holds a value of its kind
  still_admits : (slot : ℕ) → (slot < SLOTS → slot_value after slot ≡ slot_value before slot)
      → kind.Admits (slot_kind map slot) (slot_value after slot)
  still_admits slot same =
      elim (cases_lt slot SLOTS) [
        | inl within ↦ subst (kind.Admits (slot_kind map slot)) (sym (same within)) (admitted.slots slot)
        | inr past ↦ subst (λ (k : Kind). kind.Admits k (slot_value after slot)) (sym (slot_kind_past map slot proper past)) tt
      ]

  -- it is still possible if no written byte becomes unwritten and each slot keeps its contents
  pub admits_unchanged : ((at : ℕ) → IsTrue (is_written before.bytes at) → IsTrue (is_written after.bytes at))
      → ((slot : ℕ) → slot < SLOTS → slot_value after slot ≡ slot_value before slot) → Admits map after
  admits_unchanged still_written slots_preserved = record {
    written = λ at marked. still_written at (admitted.written at marked);
    slots = λ slot. still_admits slot (slots_preserved slot);
  }

  -- it is after bytes were touched, if none became unwritten
  pub touch_admits : (from to : ℕ) → from ≤ to → to < FRAME_LENGTH
      → ((at : ℕ) → IsTrue (is_written before.bytes at) → IsTrue (is_written after.bytes at))
      → ((slot : ℕ) → slot < SLOTS → IsApart slot from (to + 1 - from) → slot_value after slot ≡ slot_value before slot)
      → Admits (touch map from to) after
  touch_admits from to ordered within still_written slots_preserved = record {
    written = λ at marked. still_written at (admitted.written at marked);
    slots = touch_each from to proper ordered within (λ slot k. kind.Admits k (slot_value after slot)) (λ slot at above below same. tt)
        (λ slot apart. still_admits slot (λ inside. slots_preserved slot inside apart));
  }

  -- and after bytes that were written are marked
  pub mark_admits : (from len : ℕ) → from + len ≤ FRAME_LENGTH
      → ((at : ℕ) → IsTrue (is_written before.bytes at) → IsTrue (is_written after.bytes at))
      → ((at : ℕ) → from ≤ at → at < from + len → IsTrue (is_written after.bytes at))
      → ((slot : ℕ) → slot < SLOTS → IsApart slot from len → slot_value after slot ≡ slot_value before slot)
      → Admits (mark map from len) after
  mark_admits from len within still_written new slots_preserved = record {
    written = λ at marked.
        elim (marked_before_or_inside map.marks from len at (in_frame map (from + len) proper within) marked) [
          | inl old ↦ still_written at (admitted.written at old)
          | inr inside ↦ new at inside.0 inside.1
        ];
    slots = mark_each from len proper within (λ slot k. kind.Admits k (slot_value after slot)) (λ slot at above below same. tt)
        (λ slot apart. still_admits slot (λ inside. slots_preserved slot inside apart));
  }

  module _ {slot : ℕ} where
    -- a byte of a slot that is marked because of the slot's kind is written
    written_here : (k : Kind) (at : ℕ) → slot < SLOTS → FRAME_LENGTH ≤ length after.bytes → k ≢ Nothing
        → kind.Admits k (slot_value after slot) → at / SLOT_LENGTH ≡ slot → IsMarked (fit_marks k map.marks slot) at
        → IsTrue (is_written after.bytes at)
    written_here (Number x) at within whole known admits same marked = number_is_written x after slot at whole within admits same
    written_here Nothing at within whole known admits same marked = absurd (known refl)
    written_here pointer at within whole known admits same marked =
        let fits = slot_in_frame map slot proper within in
        absurd (both_ways _ (get_or-with_marks false map.marks (SLOT_LENGTH * slot) SLOT_LENGTH at fits (omega arith) (omega arith)) marked)

  -- and after a slot is set to a kind, if it holds a value of the kind
  pub set_slot_admits : (slot : ℕ) (k : Kind) → slot < SLOTS → FRAME_LENGTH ≤ length after.bytes → k ≢ Nothing
      → ((at : ℕ) → at / SLOT_LENGTH ≢ slot → IsTrue (is_written before.bytes at) → IsTrue (is_written after.bytes at))
      → ((other : ℕ) → other < SLOTS → other ≢ slot → slot_value after other ≡ slot_value before other)
      → kind.Admits k (slot_value after slot) → Admits (set_slot map slot k) after
  set_slot_admits slot k within whole known others slots_preserved holds = record {
    written = λ at marked.
        elim (cases_eq (at / SLOT_LENGTH) slot) [
          | inl same ↦ written_here k at within whole known holds same marked
          | inr other ↦
              others at other
              (admitted.written at (sym (get_or-unfit_marks k map.marks slot at (slot_in_frame map slot proper within) other) ∙ marked))
        ];
    slots = set_kind_each map.kinds slot k (omega (arith, proper.slots)) (λ other l. kind.Admits l (slot_value after other)) holds
        (λ other apart. still_admits other (λ inside. slots_preserved other inside apart));
  }

pub unwritten_admits : (frame : FrameContents) → Admits unwritten frame
unwritten_admits frame = record {
  written = λ at marked. absurd (both_ways _ (get_or-alike FRAME_LENGTH at false) marked);
  slots = λ slot. subst (λ (k : Kind). kind.Admits k (slot_value frame slot)) (sym (get_or-alike SLOTS slot Nothing)) tt;
}
