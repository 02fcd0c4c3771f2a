-- Slots of the frame: their contents before and after a change.
use Rattle.std.proofs.Common.{◌≡◌, ◌≢◌, ℕ, zero, suc, ◌+◌, ◌-◌, ◌*◌, ◌/◌, ◌%◌, ◌^◌, ◌<◌, ◌≤◌, ℤ, unsigned_abs, ◌⊎◌, false, IsTrue, List, []}
use Rattle.std.proofs.Common.{◌∷◌, ◌++◌, length, map, take, drop, replicate, get_or, Option, Some, None, Ok, Err, if◌then◌else◌, refl, sym}
use Rattle.std.proofs.Common.{ap, ◌∙◌, subst, inl, inr, arith, append_assoc, length-append}
use Rattle.std.specs.Int.{bytes_low_first}
use Rattle.std.proofs.lemmas.Bool.{false≢true, cases_lt}
use Rattle.std.proofs.lemmas.Grind.{common_steps}
use Rattle.std.proofs.lemmas.List.{length-map, length-take-le, drop-drop, drop-take, take-append-le, take-take, drop_at, get_or-set_same}
use Rattle.std.proofs.lemmas.List.{get_or-set_other, get_or-replicate, get_or_past}
use Rattle.bpf_helpers.specs.Call.{write}
use Rattle.bpf_helpers.proofs.WriteLemmas.{get_or-write, get_or-write_before, get_or-write_after, write-nothing}
use Rattle.bpf_insn.specs.Arithmetic.{load_extension}
use Rattle.bpf_insn.specs.Memory.{load_length, store_length}
use Rattle.bpf_insn.specs.declared.instruction.LoadFormat.{LoadFormat}
use Rattle.bpf_insn.specs.declared.instruction.LoadFormat.TheVariants.{SignedByte, SignedHalfWord}
use Rattle.bpf_insn.specs.declared.instruction.LoadFormat.TheVariants.{SignedWord}
use Rattle.bpf_insn.specs.declared.instruction.StoreSize.{StoreSize}
use Rattle.bpf_insn.specs.declared.memory.TheConstants.{FRAME_LENGTH, SLOT_LENGTH, SLOTS}
use Rattle.bpf_insn.specs.declared.value.Pointer.{Pointer}
use Rattle.bpf_insn.specs.declared.value.Value.{Value}
use Rattle.bpf_insn.specs.declared.value.Value.TheVariants as value
use Rattle.bpf_insn.specs.Frame as memory
use Rattle.bpf_insn.specs.Frame.{FrameByte, FrameContents, IsApart, Unwritten, clear_slots, is_byte, is_written, number_of, overwrite_slots}
use Rattle.bpf_insn.specs.Frame.{slot_at, slot_bytes, slot_pointer, slot_value, value_of}
use Rattle.bpf_meaning.specs.Memory.{set_slot_pointer, store, store_number, write_bytes}
use Rattle.bpf_meaning.specs.Effect.{lie_within, store_pointer}
use Rattle.bpf_meaning.specs.declared.cause.Cause.TheVariants.{OutOfBounds, StoresPointer}
use Rattle.bpf_meaning.specs.declared.effect.Change.TheVariants.{StorePointer}
use Rattle.bpf_meaning.proofs.FrameLemmas.{is_written-write_before, is_written-write_after}
use Rattle.bpf_meaning.proofs.MemoryLemmas.{length-bytes_low_first, store_is_write, stored_is_loaded}

-- if none of some bytes lies in a slot, they lie before it or after it
lies_apart : (slot at count : ℕ) → 0 < count → IsApart slot at count → (at + count ≤ SLOT_LENGTH * slot)
    ⊎ (SLOT_LENGTH * slot + SLOT_LENGTH ≤ at)
lies_apart slot at count some apart =
    elim (cases_lt at (SLOT_LENGTH * slot + SLOT_LENGTH)) [
      | inr beyond ↦ inr beyond
      | inl within ↦
          elim (cases_lt at (SLOT_LENGTH * slot)) [
            | inr inside ↦ absurd (apart at (omega arith) (omega arith) (omega arith))
            | inl before ↦
                elim (cases_lt (SLOT_LENGTH * slot) (at + count)) [
                  | inl reaches ↦ absurd (apart (SLOT_LENGTH * slot) (omega arith) reaches (omega arith))
                  | inr ends ↦ inl ends
                ]
          ]
    ]

pub whole_slot_is_loaded : (format : LoadFormat) (n : ℕ) → load_length format ≡ SLOT_LENGTH → load_extension format n ≡ n
whole_slot_is_loaded SignedByte n is = absurd (omega (arith, is))
whole_slot_is_loaded SignedHalfWord n is = absurd (omega (arith, is))
whole_slot_is_loaded SignedWord n is = absurd (omega (arith, is))
whole_slot_is_loaded format n is = refl

-- a store of a pointer, with and without a whole slot

pub store_pointer-slot : (offset : ℤ) (size : StoreSize) (pointer : Pointer) (slot : ℕ)
    → slot_at (unsigned_abs offset) (store_length size) ≡ Some slot
    → store_pointer offset size pointer ≡ (if lie_within offset (store_length size) FRAME_LENGTH then Ok
    (StorePointer slot pointer) else Err OutOfBounds)
store_pointer-slot offset size pointer slot is = rw is refl

pub store_pointer-none : (offset : ℤ) (size : StoreSize) (pointer : Pointer) → slot_at (unsigned_abs offset) (store_length size) ≡ None
    → store_pointer offset size pointer ≡ Err StoresPointer
store_pointer-none offset size pointer is = rw is refl

-- clearing a range of slots: the slots before it, after it, and in it

module _ {A : Type 0} (nothing : A) (slots : List A) (from to : ℕ) where
  cleared_before : (slot : ℕ) → slot < length slots → slot < from / SLOT_LENGTH
      → get_or (clear_slots nothing slots from to) slot nothing ≡ get_or slots slot nothing
  cleared_before slot inside before = grind (arith, common_steps)

  cleared_after : (slot : ℕ) → slot < length slots → from ≤ to → to / SLOT_LENGTH < slot
      → get_or (clear_slots nothing slots from to) slot nothing ≡ get_or slots slot nothing
  cleared_after slot inside ordered beyond = grind (arith, common_steps)

  cleared_within : (slot : ℕ) → slot < length slots → from / SLOT_LENGTH ≤ slot → slot ≤ to / SLOT_LENGTH
      → get_or (clear_slots nothing slots from to) slot nothing ≡ nothing
  cleared_within slot inside above below = grind (arith, common_steps)

  length-clear_slots : from ≤ to → to / SLOT_LENGTH < length slots → length (clear_slots nothing slots from to) ≡ length slots
  length-clear_slots ordered within = grind (arith, common_steps)

-- clearing the slots with one of `count` bytes from an offset on

module _ {A : Type 0} (nothing : A) (slots : List A) (at : ℕ) where
  pub overwritten_apart : (count slot : ℕ) → slot < length slots → IsApart slot at count
      → get_or (overwrite_slots nothing slots at count) slot nothing ≡ get_or slots slot nothing
  overwritten_apart zero slot inside apart = refl
  overwritten_apart (suc more) slot inside apart =
      elim (lies_apart slot at (suc more) (omega arith) apart) [
        | inl before ↦ cleared_after nothing slots at (at + more) slot inside (omega arith) (omega arith)
        | inr beyond ↦ cleared_before nothing slots at (at + more) slot inside (omega arith)
      ]

  pub overwritten_within : (count slot i : ℕ) → slot < length slots → at ≤ i → i < at + count → i / SLOT_LENGTH ≡ slot
      → get_or (overwrite_slots nothing slots at count) slot nothing ≡ nothing
  overwritten_within zero slot i inside above below is = absurd (omega arith)
  overwritten_within (suc more) slot i inside above below is =
      cleared_within nothing slots at (at + more) slot inside (omega arith) (omega arith)

  -- an empty slot stays empty
  overwritten_none : (count slot : ℕ) → slot < length slots → get_or slots slot nothing ≡ nothing
      → get_or (overwrite_slots nothing slots at count) slot nothing ≡ nothing
  overwritten_none zero slot inside none = none
  overwritten_none (suc more) slot inside none =
      elim (cases_lt slot (at / SLOT_LENGTH)) [
        | inl before ↦ cleared_before nothing slots at (at + more) slot inside before ∙ none
        | inr above ↦
            elim (cases_lt ((at + more) / SLOT_LENGTH) slot) [
              | inl beyond ↦ cleared_after nothing slots at (at + more) slot inside (omega arith) beyond ∙ none
              | inr within ↦ cleared_within nothing slots at (at + more) slot inside above within
            ]
      ]

  pub length-overwrite_slots : (count : ℕ) → at + count ≤ SLOT_LENGTH * length slots
      → length (overwrite_slots nothing slots at count) ≡ length slots
  length-overwrite_slots zero within = refl
  length-overwrite_slots (suc more) within = length-clear_slots nothing slots at (at + more) (omega arith) (omega arith)

-- the bytes of a slot apart from those that are written are unchanged

module _ {A : Type 0} (memory bytes : List A) (at from count : ℕ) (within : at + length bytes ≤ length memory) where
  part-after : at + length bytes ≤ from → take count (drop from (write memory at bytes)) ≡ take count (drop from memory)
  part-after beyond =
      let front : length (take at memory ++ bytes) ≡ at + length bytes =
      length-append (take at memory) bytes ∙ ap (λ (n : ℕ). n + length bytes) (length-take-le at memory (omega arith)) in
      let rest = drop (at + length bytes) memory in
      let more = from - (at + length bytes) in
      let there : at + length bytes + more ≡ from = omega arith in
      ap (λ (n : ℕ). take count (drop n (write memory at bytes))) (sym there)
      ∙ ap (take count) (sym (drop-drop more (at + length bytes) (write memory at bytes))
      ∙ ap (drop more) (drop_at (take at memory ++ bytes) rest (at + length bytes) front) ∙ drop-drop more (at + length bytes) memory)
      ∙ ap (λ (n : ℕ). take count (drop n memory)) there

  part-before : from + count ≤ at → take count (drop from (write memory at bytes)) ≡ take count (drop from memory)
  part-before before =
      let inside : length (take at memory) ≡ at = length-take-le at memory (omega arith) in
      let front : take (from + count) (write memory at bytes) ≡ take (from + count) memory =
      ap (take (from + count)) (append_assoc (take at memory) bytes (drop (at + length bytes) memory))
      ∙ take-append-le (from + count) (take at memory) (bytes ++ drop (at + length bytes) memory) (omega arith)
      ∙ take-take (from + count) at memory (omega arith) in
      sym (drop-take from count (write memory at bytes)) ∙ ap (drop from) front ∙ drop-take from count memory

pub slot_bytes-apart : {A : Type 0} (memory bytes : List A) (at slot : ℕ) → at + length bytes ≤ length memory
    → IsApart slot at (length bytes) → slot_bytes (write memory at bytes) slot ≡ slot_bytes memory slot
slot_bytes-apart {A} memory [] at slot within apart = ap (λ (l : List A). slot_bytes l slot) (write-nothing memory at)
slot_bytes-apart memory (byte ∷ bytes) at slot within apart =
    elim (lies_apart slot at (length (byte ∷ bytes)) (omega arith) apart) [
      | inl beyond ↦ part-after memory (byte ∷ bytes) at (SLOT_LENGTH * slot) SLOT_LENGTH within beyond
      | inr before ↦ part-before memory (byte ∷ bytes) at (SLOT_LENGTH * slot) SLOT_LENGTH within before
    ]

-- storing a number is writing its low bytes
stored_is_written : (frame : FrameContents) (at count number : ℕ)
    → write_bytes frame at (bytes_low_first 0 count number) ≡ store_number frame at count number
stored_is_written frame at count number =
    ap (λ (l : List FrameByte). let new : FrameContents = record
    { bytes = l; slots = overwrite_slots None frame.slots at (length (bytes_low_first 0 count number)) } in new)
    (sym (store_is_write frame.bytes at count number))
    ∙ ap (λ (n : ℕ). let new : FrameContents = record {
      bytes = store frame.bytes at count number;
      slots =
          overwrite_slots None frame.slots at n;
    } in new) (length-bytes_low_first 0 count number)

-- the contents of a slot, from its bytes and its pointer
held_alike : (frame other : FrameContents) (slot : ℕ) → slot_bytes frame.bytes slot ≡ slot_bytes other.bytes slot
    → slot_pointer frame slot ≡ slot_pointer other slot → slot_value frame slot ≡ slot_value other slot
held_alike frame other slot bytes pointer = ap (λ (l : List FrameByte). value_of (number_of l) (slot_pointer frame slot)) bytes
    ∙ ap (value_of (number_of (slot_bytes other.bytes slot))) pointer

-- the pointers in slots after bytes are written

module _ (frame : FrameContents) (at : ℕ) where
  pub slot_pointer-write_apart : (bytes : List ℕ) (slot : ℕ) → slot < length frame.slots → IsApart slot at (length bytes)
      → slot_pointer (write_bytes frame at bytes) slot ≡ slot_pointer frame slot
  slot_pointer-write_apart bytes slot inside apart = overwritten_apart None frame.slots at (length bytes) slot inside apart

  pub slot_pointer-write_within : (bytes : List ℕ) (slot i : ℕ) → slot < length frame.slots → at ≤ i → i < at + length bytes
      → i / SLOT_LENGTH ≡ slot → slot_pointer (write_bytes frame at bytes) slot ≡ None
  slot_pointer-write_within bytes slot i inside above below is =
      overwritten_within None frame.slots at (length bytes) slot i inside above below is

  pub slot_pointer-store_apart : (count number slot : ℕ) → slot < length frame.slots → IsApart slot at count
      → slot_pointer (store_number frame at count number) slot ≡ slot_pointer frame slot
  slot_pointer-store_apart count number slot inside apart = overwritten_apart None frame.slots at count slot inside apart

  pub slot_pointer-store_within : (count number slot i : ℕ) → slot < length frame.slots → at ≤ i → i < at + count → i / SLOT_LENGTH ≡ slot
      → slot_pointer (store_number frame at count number) slot ≡ None
  slot_pointer-store_within count number slot i inside above below is =
      overwritten_within None frame.slots at count slot i inside above below is

  -- the contents of slots after bytes, or a number's low bytes, are written

  pub slot_value-write_bytes_apart : (bytes : List ℕ) (slot : ℕ) → at + length bytes ≤ length frame.bytes → slot < SLOTS
      → length frame.slots ≡ SLOTS → IsApart slot at (length bytes) → slot_value (write_bytes frame at bytes) slot ≡ slot_value frame slot
  slot_value-write_bytes_apart bytes slot within inside whole apart =
      let long = length-map bytes memory.Byte in
      held_alike (write_bytes frame at bytes) frame slot
      (slot_bytes-apart frame.bytes (map memory.Byte bytes) at slot (omega arith) (λ i above below. apart i above (omega arith)))
      (slot_pointer-write_apart bytes slot (omega arith) apart)

  pub slot_value-store_number_apart : (count number slot : ℕ) → at + count ≤ length frame.bytes → slot < SLOTS → length frame.slots ≡ SLOTS
      → IsApart slot at count → slot_value (store_number frame at count number) slot ≡ slot_value frame slot
  slot_value-store_number_apart count number slot within inside whole apart =
      let low = bytes_low_first 0 count number in
      let long : length low ≡ count = length-bytes_low_first 0 count number in
      ap (λ (f : FrameContents). slot_value f slot) (sym (stored_is_written frame at count number))
      ∙ slot_value-write_bytes_apart low slot (omega arith) inside whole (λ i above below. apart i above (omega arith))

pub slot_value-store_slot : (frame : FrameContents) (slot number : ℕ) → SLOT_LENGTH * slot + SLOT_LENGTH ≤ length frame.bytes
    → number < 2 ^ 64 → slot_value (store_number frame (SLOT_LENGTH * slot) SLOT_LENGTH number) slot ≡ value.Number number
slot_value-store_slot frame slot number within small =
    let stored = store_number frame (SLOT_LENGTH * slot) SLOT_LENGTH number in
    let low : number % 256 ^ SLOT_LENGTH ≡ number = omega arith in
    ap (λ (found : Option ℕ). value_of found (slot_pointer stored slot))
    (stored_is_loaded frame.bytes (SLOT_LENGTH * slot) SLOT_LENGTH number within)
    ∙ ap (λ (n : ℕ). let v : Value = value.Number n in v) low

-- a stored pointer

apart_slots : (slot stored_slot : ℕ) → slot ≢ stored_slot → IsApart slot (SLOT_LENGTH * stored_slot) SLOT_LENGTH
apart_slots slot stored_slot other i above below is = other (omega arith)

pub slot_pointer-set : (frame : FrameContents) (slot : ℕ) (pointer : Pointer) → slot < length frame.slots
    → slot_pointer (set_slot_pointer frame slot pointer) slot ≡ Some pointer
slot_pointer-set frame slot pointer inside = get_or-set_same frame.slots slot (Some pointer) None inside

pub slot_pointer-set_apart : (frame : FrameContents) (stored_slot : ℕ) (pointer : Pointer) (slot : ℕ) → slot ≢ stored_slot
    → slot_pointer (set_slot_pointer frame stored_slot pointer) slot ≡ slot_pointer frame slot
slot_pointer-set_apart frame stored_slot pointer slot other = get_or-set_other frame.slots stored_slot slot (Some pointer) None other

slot_bytes-set : (frame : FrameContents) (slot : ℕ) (pointer : Pointer) → SLOT_LENGTH * slot + SLOT_LENGTH ≤ length frame.bytes
    → slot_bytes (set_slot_pointer frame slot pointer).bytes slot ≡ replicate SLOT_LENGTH Unwritten
slot_bytes-set frame slot pointer within =
    let at = SLOT_LENGTH * slot in
    let unwritten = replicate SLOT_LENGTH Unwritten in
    let rest = drop (at + SLOT_LENGTH) frame.bytes in
    ap (λ (l : List FrameByte). take SLOT_LENGTH (drop at l)) (append_assoc (take at frame.bytes) unwritten rest)
    ∙ ap (take SLOT_LENGTH) (drop_at (take at frame.bytes) (unwritten ++ rest) at (length-take-le at frame.bytes (omega arith)))

pub slot_value-set : (frame : FrameContents) (slot : ℕ) (pointer : Pointer) → SLOT_LENGTH * slot + SLOT_LENGTH ≤ length frame.bytes
    → slot < length frame.slots → slot_value (set_slot_pointer frame slot pointer) slot ≡ value.Pointer pointer
slot_value-set frame slot pointer within inside =
    let stored_slot = set_slot_pointer frame slot pointer in
    ap (λ (l : List FrameByte). value_of (number_of l) (slot_pointer stored_slot slot)) (slot_bytes-set frame slot pointer within)
    ∙ ap (value_of None) (slot_pointer-set frame slot pointer inside)

pub slot_value-set_apart : (frame : FrameContents) (stored_slot : ℕ) (pointer : Pointer) (slot : ℕ)
    → SLOT_LENGTH * stored_slot + SLOT_LENGTH ≤ length frame.bytes → slot ≢ stored_slot
    → slot_value (set_slot_pointer frame stored_slot pointer) slot ≡ slot_value frame slot
slot_value-set_apart frame stored_slot pointer slot within other =
    held_alike (set_slot_pointer frame stored_slot pointer) frame slot
    (slot_bytes-apart frame.bytes (replicate SLOT_LENGTH Unwritten) (SLOT_LENGTH * stored_slot) slot within (apart_slots slot stored_slot other))
    (slot_pointer-set_apart frame stored_slot pointer slot other)

-- the bytes before and after the slot are unchanged, and its own are unwritten

pub is_written-pointer_before : (frame : FrameContents) (slot : ℕ) (pointer : Pointer) (i : ℕ)
    → SLOT_LENGTH * slot + SLOT_LENGTH ≤ length frame.bytes → i < SLOT_LENGTH * slot
    → is_written (set_slot_pointer frame slot pointer).bytes i ≡ is_written frame.bytes i
is_written-pointer_before frame slot pointer i within before = ap is_byte
    (get_or-write_before frame.bytes (replicate SLOT_LENGTH Unwritten) (SLOT_LENGTH * slot) i Unwritten within before)

pub is_written-pointer_after : (frame : FrameContents) (slot : ℕ) (pointer : Pointer) (i : ℕ)
    → SLOT_LENGTH * slot + SLOT_LENGTH ≤ length frame.bytes → SLOT_LENGTH * slot + SLOT_LENGTH ≤ i
    → is_written (set_slot_pointer frame slot pointer).bytes i ≡ is_written frame.bytes i
is_written-pointer_after frame slot pointer i within beyond = ap is_byte
    (get_or-write_after frame.bytes (replicate SLOT_LENGTH Unwritten) (SLOT_LENGTH * slot) i Unwritten within beyond)

pub is_written-pointer_inside : (frame : FrameContents) (slot : ℕ) (pointer : Pointer) (i : ℕ)
    → SLOT_LENGTH * slot + SLOT_LENGTH ≤ length frame.bytes → SLOT_LENGTH * slot ≤ i → i < SLOT_LENGTH * slot + SLOT_LENGTH
    → is_written (set_slot_pointer frame slot pointer).bytes i ≡ false
is_written-pointer_inside frame slot pointer i within above below =
    let at = SLOT_LENGTH * slot in
    let unwritten = replicate SLOT_LENGTH Unwritten in
    let place : at + (i - at) ≡ i = omega arith in
    ap (λ (n : ℕ). is_written (set_slot_pointer frame slot pointer).bytes n) (sym place)
    ∙ ap is_byte (get_or-write frame.bytes unwritten at (i - at) Unwritten within (omega arith)
    ∙ get_or-replicate SLOT_LENGTH (i - at) Unwritten Unwritten (omega arith))

-- a frame whose written bytes lie in slots that hold no pointer

abbrev pub PointersApart : FrameContents → Type 0
PointersApart frame = (at : ℕ) → IsTrue (is_written frame.bytes at) → slot_pointer frame (at / SLOT_LENGTH) ≡ None

written_is_inside : (bytes : List FrameByte) (i : ℕ) → IsTrue (is_written bytes i) → i < length bytes
written_is_inside bytes i written =
    elim (cases_lt i (length bytes)) [
      | inl inside ↦ inside
      | inr past ↦ absurd (false≢true (sym (ap is_byte (get_or_past bytes i Unwritten past)) ∙ written))
    ]

pub apart-write_bytes : (frame : FrameContents) (at : ℕ) (bytes : List ℕ) → at + length bytes ≤ length frame.bytes
    → length frame.bytes ≤ SLOT_LENGTH * length frame.slots → PointersApart frame → PointersApart (write_bytes frame at bytes)
apart-write_bytes frame at bytes within covered apart i written =
    elim (cases_lt i at) [
      | inl before ↦ stays (sym (is_written-write_before frame.bytes at bytes i within before) ∙ written)
      | inr above ↦
          elim (cases_lt i (at + length bytes)) [
            | inl below ↦ overwritten_within None frame.slots at (length bytes) (i / SLOT_LENGTH) i (omega arith) above below refl
            | inr beyond ↦ stays (sym (is_written-write_after frame.bytes at bytes i within beyond) ∙ written)
          ]
    ]
  where
    stays : IsTrue (is_written frame.bytes i) → slot_pointer (write_bytes frame at bytes) (i / SLOT_LENGTH) ≡ None
    stays was =
        let inside = written_is_inside frame.bytes i was in
        overwritten_none None frame.slots at (length bytes) (i / SLOT_LENGTH) (omega arith) (apart i was)

pub apart-store_number : (frame : FrameContents) (at count number : ℕ) → at + count ≤ length frame.bytes
    → length frame.bytes ≤ SLOT_LENGTH * length frame.slots → PointersApart frame → PointersApart (store_number frame at count number)
apart-store_number frame at count number within covered apart =
    let low = bytes_low_first 0 count number in
    let long : length low ≡ count = length-bytes_low_first 0 count number in
    subst PointersApart (stored_is_written frame at count number) (apart-write_bytes frame at low (omega arith) covered apart)

pub apart-set_slot_pointer : (frame : FrameContents) (slot : ℕ) (pointer : Pointer) → SLOT_LENGTH * slot + SLOT_LENGTH ≤ length frame.bytes
    → PointersApart frame → PointersApart (set_slot_pointer frame slot pointer)
apart-set_slot_pointer frame slot pointer within apart i written =
    elim (cases_lt i (SLOT_LENGTH * slot)) [
      | inl before ↦
          slot_pointer-set_apart frame slot pointer (i / SLOT_LENGTH) (λ same. omega (arith, same))
          ∙ apart i (sym (is_written-pointer_before frame slot pointer i within before) ∙ written)
      | inr above ↦
          elim (cases_lt i (SLOT_LENGTH * slot + SLOT_LENGTH)) [
            | inl below ↦ absurd (false≢true (sym (is_written-pointer_inside frame slot pointer i within above below) ∙ written))
            | inr beyond ↦
                slot_pointer-set_apart frame slot pointer (i / SLOT_LENGTH) (λ same. omega (arith, same))
                ∙ apart i (sym (is_written-pointer_after frame slot pointer i within beyond) ∙ written)
          ]
    ]
