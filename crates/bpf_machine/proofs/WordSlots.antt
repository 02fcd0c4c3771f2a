-- Slots of the frame on words: before and after a change, the word of a slot represents the pointer in the slot.
use Rattle.std.proofs.Common.{◌≡◌, ◌≢◌, ℕ, zero, suc, ◌+◌, ◌*◌, ◌/◌, ◌%◌, ◌^◌, ◌<◌, ◌≤◌, ◌⊎◌, List, [], ◌∷◌, ◌++◌, length, map, take, drop}
use Rattle.std.proofs.Common.{replicate, get_or, slice_set, Option, Some, None, refl, sym, ap, ◌∙◌, subst, inl, inr, arith, append_assoc}
use Rattle.std.specs.Int.{bytes_low_first}
use Rattle.std.specs.Option.{option_map}
use Rattle.std.proofs.lemmas.Bool.{cases_lt}
use Rattle.std.proofs.lemmas.List.{drop_at, get_or_past, get_or-set_other, get_or-set_same, length-take-le}
use Rattle.bpf_insn.specs.Frame as frame
use Rattle.bpf_insn.specs.Frame.{Unwritten, Byte, overwrite_slots, slot_bytes, IsApart}
use Rattle.bpf_insn.specs.declared.memory.TheConstants.{SLOT_LENGTH}
use Rattle.bpf_insn.specs.declared.value.Pointer.{Pointer as PointerParts}
use Rattle.bpf_insn.specs.declared.value.Value.TheVariants as value
use Rattle.bpf_helpers.specs.Call.{write}
use Rattle.bpf_meaning.proofs.MemoryLemmas.{stored_is_loaded}
use Rattle.bpf_meaning.proofs.SlotLemmas.{length-overwrite_slots, overwritten_apart, overwritten_within, slot_bytes-apart}
use Rattle.bpf_machine.specs.Words.{IsWordOf, IsWordOfSlot, number_of}
use Rattle.bpf_machine.proofs.WordArithmetic.{offset_unchanged}

-- the words of slots represent the pointers in them, slot by slot
abbrev pub AreWordsOfSlots : List (Option PointerParts) → List ℕ → Type 0
AreWordsOfSlots slots bytes = (slot : ℕ) → IsWordOfSlot (get_or slots slot None) (number_of (slot_bytes bytes slot))

-- if a slot holds no pointer, any word will do
no_pointer : (held : Option PointerParts) (word : ℕ) → held ≡ None → IsWordOfSlot held word
no_pointer held word none = subst (λ (p : Option PointerParts). IsWordOfSlot p word) (sym none) tt

pub all_alike : {A : Type 0} (count at : ℕ) (a : A) → get_or (replicate count a) at a ≡ a
all_alike zero at a = refl
all_alike (suc count) zero a = refl
all_alike (suc count) (suc at) a = all_alike count at a

pub none-words_of : (count : ℕ) (bytes : List ℕ) → AreWordsOfSlots (replicate count None) bytes
none-words_of count bytes slot = no_pointer _ _ (all_alike count slot None)

-- if a slot still holds the same pointer and the same bytes, its word still represents the pointer
unchanged_slot : (held before : Option PointerParts) (bytes old : List ℕ) → held ≡ before → bytes ≡ old → IsWordOfSlot before (number_of old)
    → IsWordOfSlot held (number_of bytes)
unchanged_slot held before bytes old same alike is =
    subst (λ (l : List ℕ). IsWordOfSlot held (number_of l)) (sym alike)
    (subst (λ (p : Option PointerParts). IsWordOfSlot p (number_of old)) (sym same) is)

-- either no byte of a range lies in a slot, or one does: the first of the range, or the slot's first

abbrev IsTouched : ℕ → ℕ → ℕ → Type 0
IsTouched slot at count = (i : ℕ) × (at ≤ i) × (i < at + count) × (i / SLOT_LENGTH ≡ slot)

apart_or_touched : (slot at count : ℕ) → IsApart slot at count ⊎ IsTouched slot at count
apart_or_touched slot at zero = inl (λ i above below is. omega arith)
apart_or_touched slot at (suc more) =
    elim (cases_lt at (SLOT_LENGTH * slot + SLOT_LENGTH)) [
      | inr beyond ↦ inl (λ i above below is. omega arith)
      | inl begins ↦
          elim (cases_lt at (SLOT_LENGTH * slot)) [
            | inr inside ↦ inr (at, omega arith, omega arith, omega arith)
            | inl before ↦
                elim (cases_lt (SLOT_LENGTH * slot) (at + suc more)) [
                  | inl reaches ↦ inr (SLOT_LENGTH * slot, omega arith, reaches, omega arith)
                  | inr ends ↦ inl (λ i above below is. omega arith)
                ]
          ]
    ]

-- bytes that are written: a slot with one of them no longer holds a pointer, and the other slots keep their pointers and their bytes
pub overwrite-words_of : (slots : List (Option PointerParts)) (bytes new : List ℕ) (at : ℕ) → length bytes ≡ SLOT_LENGTH * length slots
    → at + length new ≤ length bytes → AreWordsOfSlots slots bytes
    → AreWordsOfSlots (overwrite_slots None slots at (length new)) (write bytes at new)
overwrite-words_of slots bytes new at long within represent slot =
    elim (cases_lt slot (length slots)) [
      | inr past ↦ no_pointer _ _ (let same = length-overwrite_slots None slots at (length new) (omega arith) in
          get_or_past (overwrite_slots None slots at (length new)) slot None (omega arith))
      | inl inside ↦
          elim (apart_or_touched slot at (length new)) [
            | inl apart ↦ unchanged_slot _ _ _ _ (overwritten_apart None slots at (length new) slot inside apart)
                (slot_bytes-apart bytes new at slot within apart) (represent slot)
            | inr touched ↦ no_pointer _ _ (overwritten_within None slots at
                (length new) slot touched.0 inside touched.1 touched.2 touched.3)
          ]
    ]

-- a word written into a slot

number_of-map : (bytes : List ℕ) → frame.number_of (map Byte bytes) ≡ Some (number_of bytes)
number_of-map [] = refl
number_of-map (byte ∷ bytes) = ap (option_map (λ rest. byte + 256 * rest)) (number_of-map bytes)

low_number : (word : ℕ) → number_of (bytes_low_first 0 SLOT_LENGTH word) ≡ word % 2 ^ 64
low_number word =
    let one = number_of-map (bytes_low_first 0 SLOT_LENGTH word) in
    let other = stored_is_loaded (replicate SLOT_LENGTH Unwritten) 0 SLOT_LENGTH word (omega arith) in
    let same : Some (number_of (bytes_low_first 0 SLOT_LENGTH word)) ≡ Some (word % 256 ^ SLOT_LENGTH) = sym one ∙ other in
    let number : number_of (bytes_low_first 0 SLOT_LENGTH word) ≡ word % 256 ^ SLOT_LENGTH = cc in
    number

slot_written : (bytes : List ℕ) (slot word : ℕ) → SLOT_LENGTH * slot + SLOT_LENGTH ≤ length bytes
    → slot_bytes (write bytes (SLOT_LENGTH * slot) (bytes_low_first 0 SLOT_LENGTH word)) slot ≡ bytes_low_first 0 SLOT_LENGTH word
slot_written bytes slot word within =
    let at = SLOT_LENGTH * slot in
    let low = bytes_low_first 0 SLOT_LENGTH word in
    let rest = drop (at + SLOT_LENGTH) bytes in
    ap (λ (l : List ℕ). take SLOT_LENGTH (drop at l)) (append_assoc (take at bytes) low rest)
    ∙ ap (take SLOT_LENGTH) (drop_at (take at bytes) (low ++ rest) at (length-take-le at bytes (omega arith)))

-- a stored pointer: the word of its slot represents it, and the other slots keep their pointers and their bytes

module _ (slots : List (Option PointerParts)) (bytes : List ℕ) (stored_slot : ℕ) (pointer : PointerParts) (word : ℕ)
    (within : SLOT_LENGTH * stored_slot + SLOT_LENGTH ≤ length bytes) where
  stored_slot_holds : stored_slot < length slots → IsWordOf (value.Pointer pointer) word
      → IsWordOfSlot (get_or (slice_set slots stored_slot (Some pointer)) stored_slot None)
      (number_of (slot_bytes (write bytes (SLOT_LENGTH * stored_slot) (bytes_low_first 0 SLOT_LENGTH word)) stored_slot))
  stored_slot_holds inside held =
      unchanged_slot _ (Some pointer) _ (bytes_low_first 0 SLOT_LENGTH word) (get_or-set_same slots stored_slot (Some pointer) None inside)
      (slot_written bytes stored_slot word within)
      (subst (IsWordOf (value.Pointer pointer)) (sym (low_number word)) (offset_unchanged pointer.offset word held.0 held.1, held.1))

  other_slots_hold : (slot : ℕ) → slot ≢ stored_slot → IsWordOfSlot (get_or slots slot None) (number_of (slot_bytes bytes slot))
      → IsWordOfSlot (get_or (slice_set slots stored_slot (Some pointer)) slot None)
      (number_of (slot_bytes (write bytes (SLOT_LENGTH * stored_slot) (bytes_low_first 0 SLOT_LENGTH word)) slot))
  other_slots_hold slot other is =
      unchanged_slot _ _ _ _ (get_or-set_other slots stored_slot slot (Some pointer) None other)
      (slot_bytes-apart bytes (bytes_low_first 0 SLOT_LENGTH word) (SLOT_LENGTH * stored_slot) slot within
      (λ i above below at. other (omega arith))) is

  pub set_pointer-words_of : stored_slot < length slots → IsWordOf (value.Pointer pointer) word → AreWordsOfSlots slots bytes
      → AreWordsOfSlots (slice_set slots stored_slot (Some pointer)) (write bytes (SLOT_LENGTH * stored_slot) (bytes_low_first 0 SLOT_LENGTH word))
  set_pointer-words_of inside held represent slot =
      elim (cases_lt slot stored_slot) [
        | inl before ↦ other_slots_hold slot (λ same. omega arith) (represent slot)
        | inr above ↦
            elim (cases_lt stored_slot slot) [
              | inl beyond ↦ other_slots_hold slot (λ same. omega arith) (represent slot)
              | inr below ↦
                  let slots_then = slice_set slots stored_slot (Some pointer) in
                  let bytes_then = write bytes (SLOT_LENGTH * stored_slot) (bytes_low_first 0 SLOT_LENGTH word) in
                  subst (λ (n : ℕ). IsWordOfSlot (get_or slots_then n None) (number_of (slot_bytes bytes_then n))) (omega arith)
                  (stored_slot_holds inside held)
            ]
      ]
