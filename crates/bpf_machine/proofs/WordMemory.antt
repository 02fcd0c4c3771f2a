-- Loads and stores on words represent those on values.
use Rattle.std.proofs.Common.{◌≡◌, ℕ, zero, suc, ◌+◌, ◌-◌, ◌*◌, ◌^◌, ◌<◌, ◌≤◌, ℤ, unsigned_abs, Bool, true, false, List, []}
use Rattle.std.proofs.Common.{◌∷◌, length, map, take, drop, replicate, get_or, Option, Some, None, Result, Ok, Err, if◌then◌else◌, refl}
use Rattle.std.proofs.Common.{sym, ap, ◌∙◌, subst, inl, inr, arith}
use Rattle.std.specs.Int.{bytes_low_first}
use Rattle.std.specs.Option.{option_map}
use Rattle.std.proofs.lemmas.Bool.{cases_lt}
use Rattle.std.proofs.lemmas.List.{length-map}
use Rattle.bpf_insn.specs.Arithmetic as arithmetic
use Rattle.bpf_insn.specs.Memory.{load_length, store_length}
use Rattle.bpf_insn.specs.declared.instruction.LoadFormat.{LoadFormat}
use Rattle.bpf_insn.specs.declared.instruction.StoreSize.{StoreSize}
use Rattle.bpf_insn.specs.declared.memory.TheConstants.{FRAME_LENGTH, SLOT_LENGTH, SLOTS}
use Rattle.bpf_insn.specs.declared.value.Area.{Area}
use Rattle.bpf_insn.specs.declared.value.Area.TheVariants as area
use Rattle.bpf_insn.specs.declared.value.Pointer.{Pointer as PointerParts}
use Rattle.bpf_insn.specs.declared.value.Value.{Value}
use Rattle.bpf_insn.specs.declared.value.Value.TheVariants as value
use Rattle.bpf_kinds.specs.Results.{load}
use Rattle.bpf_kinds.proofs.ResultLemmas.{load-admits, load-proper}
use Rattle.bpf_helpers.specs.Call.{write}
use Rattle.bpf_helpers.proofs.WriteLemmas.{get_or-write, get_or-write_before, get_or-write_after, length-write}
use Rattle.tl_segments.specs.Segment.{SegmentParts, IsSegment}
use Rattle.bpf_meaning.specs.Checks.{Sound}
use Rattle.bpf_meaning.specs.Effect as effect
use Rattle.bpf_insn.specs.Frame as frame
use Rattle.bpf_insn.specs.Frame.{FrameByte, Unwritten, Byte, overwrite_slots, slot_at, slot_bytes, slot_value, value_of}
use Rattle.bpf_meaning.specs.State.{HoldsBytes, IsWellFormed}
use Rattle.bpf_meaning.specs.Step.{carry_out}
use Rattle.bpf_meaning.specs.declared.cause.Cause.{Cause}
use Rattle.bpf_meaning.specs.declared.cause.Cause.TheVariants.{OutOfBounds}
use Rattle.bpf_meaning.specs.declared.effect.Change.{Change}
use Rattle.bpf_meaning.specs.declared.effect.Change.TheVariants.{StoreBytes, StorePointer}
use Rattle.bpf_meaning.specs.declared.state.State.{State}
use Rattle.bpf_meaning.proofs.FrameLemmas.{HoldBytes, bytes-map}
use Rattle.bpf_meaning.proofs.MemoryLemmas.{fits_more, length-bytes_low_first, store_is_write}
use Rattle.bpf_insn.proofs.SlotLemmas.{slot_at-is}
use Rattle.bpf_meaning.proofs.SlotLemmas.{store_pointer-none, store_pointer-slot, whole_slot_is_loaded}
use Rattle.bpf_meaning.proofs.WellFormedLemmas.{inside_ends}
use Rattle.bpf_machine.specs.Words.{Holds, IsByteOf, IsWordOf, IsWordOfSlot, Words, area_bytes, load_bytes, loaded, number_of, store_at}
use Rattle.bpf_machine.specs.Words.{stored}
use Rattle.bpf_machine.proofs.WordArithmetic.{admitted_fits}
use Rattle.bpf_machine.proofs.WordSlots.{AreWordsOfSlots, all_alike, set_pointer-words_of, overwrite-words_of}

-- bytes represent memory, one by one
abbrev pub AreBytesOf : List FrameByte → List ℕ → Type 0
AreBytesOf memory bytes = (at : ℕ) → IsByteOf (get_or memory at Unwritten) (get_or bytes at 0)

pub map-bytes_of : (bytes : List ℕ) → AreBytesOf (map Byte bytes) bytes
map-bytes_of [] at = tt
map-bytes_of (byte ∷ bytes) zero = refl
map-bytes_of (byte ∷ bytes) (suc at) = map-bytes_of bytes at

-- any bytes represent unwritten ones
pub unwritten-bytes_of : (count : ℕ) (bytes : List ℕ) → AreBytesOf (replicate count Unwritten) bytes
unwritten-bytes_of count bytes at = subst (λ (byte : FrameByte). IsByteOf byte (get_or bytes at 0)) (sym (all_alike count at Unwritten)) tt

-- loads

-- written bytes have a number, which is that of the bytes that represent them
abbrev IsNumberOf : ℕ → List ℕ → Option ℕ → Type 0
IsNumberOf count bytes None = Unit {0}
IsNumberOf count bytes (Some n) = (number_of bytes ≡ n) × (n < 256 ^ count)

one_more : (count byte : ℕ) (bytes : List ℕ) (found : Option ℕ) → byte < 2 ^ 8 → IsNumberOf count bytes found
    → IsNumberOf (suc count) (byte ∷ bytes) (option_map (λ rest. byte + 256 * rest) found)
one_more count byte bytes None small is = tt
one_more count byte bytes (Some n) small is = (
  ap (λ rest. byte + 256 * rest) is.0,
  let below = fits_more byte n count small is.1 in
      subst (λ (k : ℕ). byte + 256 * n < 256 ^ k) (omega arith) below,
)

front_number : (memory : List FrameByte) (bytes : List ℕ) (count : ℕ) → AreBytesOf memory bytes → HoldBytes memory → count ≤ length memory
    → length bytes ≡ length memory → IsNumberOf count (take count bytes) (frame.number_of (take count memory))
front_number memory bytes zero represent small within same = (refl, omega arith)
front_number (Unwritten ∷ memory) bytes (suc count) represent small within same = tt
front_number (Byte written ∷ memory) (byte ∷ bytes) (suc count) represent small within same =
    subst (λ (b : ℕ). IsNumberOf (suc count) (b ∷ take count bytes)
    (option_map (λ rest. written + 256 * rest) (frame.number_of (take count memory)))) (sym (represent 0))
    (one_more count written (take count bytes) (frame.number_of (take count memory)) (small 0)
    (front_number memory bytes count (λ i. represent (suc i)) (λ i. small (suc i)) (omega arith) (omega arith)))
front_number memory bytes count represent small within same = absurd (omega arith)

part_number : (memory : List FrameByte) (bytes : List ℕ) (at count : ℕ) → AreBytesOf memory bytes → HoldBytes memory
    → at + count ≤ length memory → length bytes ≡ length memory → IsNumberOf count (take count (drop at bytes))
    (frame.number_of (take count (drop at memory)))
part_number memory bytes zero count represent small within same = front_number memory bytes count represent small (omega arith) same
part_number (byte ∷ memory) (other ∷ bytes) (suc at) count represent small within same =
    part_number memory bytes at count (λ i. represent (suc i)) (λ i. small (suc i)) (omega arith) (omega arith)
part_number memory bytes at count represent small within same = absurd (omega arith)

-- the number that a load yields has 64 bits
loaded_fits : (load_format : LoadFormat) (n : ℕ) → n < 256 ^ load_length load_format → arithmetic.load_extension load_format n < 2 ^ 64
loaded_fits load_format n below = admitted_fits (load load_format) _ (load-proper load_format) (load-admits load_format n below)

number_loaded : (load_format : LoadFormat) (bytes : List ℕ) (found : Option ℕ) → IsNumberOf (load_length load_format) bytes found
    → Sound IsWordOf (effect.load_number load_format found) (Ok (arithmetic.load_extension load_format (number_of bytes)))
number_loaded load_format bytes None is = tt
number_loaded load_format bytes (Some n) is = (ap (arithmetic.load_extension load_format) is.0, loaded_fits load_format n is.1)

bytes_loaded : (load_format : LoadFormat) (memory : List FrameByte) (bytes : List ℕ) (from : ℤ) → AreBytesOf memory bytes → HoldBytes memory
    → length bytes ≡ length memory → Sound IsWordOf (effect.load_bytes load_format memory from) (load_bytes load_format bytes from)
bytes_loaded load_format memory bytes from represent small same =
    subst (λ (n : ℕ). Sound IsWordOf (effect.load_bytes load_format memory from)
    (if effect.lie_within from (load_length load_format) n then Ok (loaded load_format bytes (unsigned_abs from)) else Err OutOfBounds))
    (sym same)
    (by_test (effect.lie_within from (load_length load_format) (length memory)) refl)
  where
    by_test : (within : Bool) → effect.lie_within from (load_length load_format) (length memory) ≡ within
        → Sound IsWordOf (if within then effect.load_number load_format
        (frame.number_of (take (load_length load_format) (drop (unsigned_abs from) memory))) else Err OutOfBounds)
        (if within then Ok (loaded load_format bytes (unsigned_abs from)) else Err OutOfBounds)
    by_test true within =
        number_loaded load_format (take (load_length load_format) (drop (unsigned_abs from) bytes)) _
        (part_number memory bytes (unsigned_abs from) (load_length load_format) represent small
        (inside_ends from (load_length load_format) (length memory) within) same)
    by_test false outside = tt

-- the contents of a slot are loaded: the number of its bytes if they are written, and otherwise the word that represents its pointer
slot_loaded : (found : Option ℕ) (pointer : Option PointerParts) (bytes : List ℕ) → IsNumberOf SLOT_LENGTH bytes found
    → IsWordOfSlot pointer (number_of bytes) → Sound IsWordOf (effect.load_slot (value_of found pointer)) (Ok (number_of bytes))
slot_loaded (Some n) pointer bytes is held = is
slot_loaded None (Some pointer) bytes is held = held
slot_loaded None None bytes is held = tt

whole_loaded : (load_format : LoadFormat) (bytes : List ℕ) (at slot : ℕ) → load_length load_format ≡ SLOT_LENGTH → at ≡ SLOT_LENGTH * slot
    → loaded load_format bytes at ≡ number_of (slot_bytes bytes slot)
whole_loaded load_format bytes at slot all begins =
    whole_slot_is_loaded load_format _ all ∙ ap (λ (n : ℕ). number_of (take n (drop at bytes))) all
    ∙ ap (λ (n : ℕ). number_of (take SLOT_LENGTH (drop n bytes))) begins

module _ (state : State) (words : Words) (whole : IsWellFormed state) (small : HoldsBytes state) (holds : Holds state words) where
  -- a load from the frame, of a whole slot or of other bytes
  within_loaded : (load_format : LoadFormat) (at : ℕ) → at + load_length load_format ≤ FRAME_LENGTH
      → Sound IsWordOf (effect.load_within load_format state.frame at) (Ok (loaded load_format words.frame at))
  within_loaded load_format at within = by_slot (slot_at at (load_length load_format)) refl
    where
      part : (from count : ℕ) → from + count ≤ FRAME_LENGTH
          → IsNumberOf count (take count (drop from words.frame)) (frame.number_of (take count (drop from state.frame.bytes)))
      part from count inside =
          let long = whole.frame in
          part_number state.frame.bytes words.frame from count holds.frame small.frame (omega arith) (holds.whole ∙ sym whole.frame)

      by_slot : (found : Option ℕ) → slot_at at (load_length load_format) ≡ found
          → Sound IsWordOf (effect.load_within load_format state.frame at) (Ok (loaded load_format words.frame at))
      by_slot None is =
          rw is (number_loaded load_format (take (load_length load_format) (drop at words.frame)) _
          (part at (load_length load_format) within))
      by_slot (Some slot) is =
          let here = slot_at-is at (load_length load_format) slot is in
          let all = here.0 in
          let begins = here.1 in
          let held = slot_loaded _ _ (slot_bytes words.frame slot)
          (part (SLOT_LENGTH * slot) SLOT_LENGTH (omega arith)) (holds.slots slot) in
          rw is (subst (λ (n : ℕ). Sound IsWordOf (effect.load_slot (slot_value state.frame slot)) (Ok n))
          (sym (whole_loaded load_format words.frame at slot all begins)) held)

  frame_loaded : (load_format : LoadFormat) (from : ℤ)
      → Sound IsWordOf (effect.load_frame load_format state.frame from) (load_bytes load_format words.frame from)
  frame_loaded load_format from =
      subst (λ (n : ℕ). Sound IsWordOf (effect.load_frame load_format state.frame from)
      (if effect.lie_within from (load_length load_format) n
      then Ok (loaded load_format words.frame (unsigned_abs from)) else Err OutOfBounds)) (sym (holds.whole ∙ sym whole.frame))
      (by_test (effect.lie_within from (load_length load_format) (length state.frame.bytes)) refl)
    where
      by_test : (within : Bool) → effect.lie_within from (load_length load_format) (length state.frame.bytes) ≡ within
          → Sound IsWordOf (if within then effect.load_within load_format state.frame (unsigned_abs from) else Err OutOfBounds)
          (if within then Ok (loaded load_format words.frame (unsigned_abs from)) else Err OutOfBounds)
      by_test true within =
          let inside = inside_ends from (load_length load_format) (length state.frame.bytes) within in
          let long = whole.frame in within_loaded load_format (unsigned_abs from) (omega arith)
      by_test false outside = tt

  pub load_held : (segment : SegmentParts) → IsSegment segment → (load_format : LoadFormat) (into : Area) (from : ℤ)
      → Sound IsWordOf (effect.load_from segment state load_format into from) (load_bytes load_format (area_bytes segment words into) from)
  load_held segment is load_format area.Record from =
      bytes_loaded load_format (map Byte segment.bytes) segment.bytes from (map-bytes_of segment.bytes)
      (bytes-map segment.bytes is.bytes.bytes) (sym (length-map segment.bytes Byte))
  load_held segment is load_format area.Frame from = frame_loaded load_format from

-- what is stored

-- words hold the state after a change
abbrev pub HoldsChange : SegmentParts → State → Change → Words → Type 0
HoldsChange segment state change words = Holds (carry_out segment state change) words

module _ (memory : List FrameByte) (bytes new : List ℕ) (at : ℕ) (same : length bytes ≡ length memory)
    (within : at + length new ≤ length memory) (represent : AreBytesOf memory bytes) where
  -- bytes still represent memory after both are overwritten, if the new bytes represent the new memory
  written-bytes_of : (fresh : List FrameByte) → length fresh ≡ length new → AreBytesOf fresh new
      → AreBytesOf (write memory at fresh) (write bytes at new)
  written-bytes_of fresh long over i =
      elim (cases_lt i at) [
        | inl before ↦
            both (get_or-write_before memory fresh at i Unwritten (omega arith) before)
            (get_or-write_before bytes new at i 0 (omega arith) before) (represent i)
        | inr above ↦
            elim (cases_lt i (at + length new)) [
              | inl below ↦
                  subst (λ (k : ℕ). IsByteOf (get_or (write memory at fresh) k Unwritten) (get_or (write bytes at new) k 0)) (omega arith)
                  (both (get_or-write memory fresh at (i - at) Unwritten (omega arith) (omega arith))
                  (get_or-write bytes new at (i - at) 0 (omega arith) (omega arith)) (over (i - at)))
              | inr beyond ↦
                  both (get_or-write_after memory fresh at i Unwritten (omega arith) (omega arith))
                  (get_or-write_after bytes new at i 0 (omega arith) (omega arith)) (represent i)
            ]
      ]
    where
      both : {written before : FrameByte} {byte old : ℕ} → written ≡ before → byte ≡ old → IsByteOf before old → IsByteOf written byte
      both {written} {before} {byte} {old} one other is =
          subst (λ (b : ℕ). IsByteOf written b) (sym other) (subst (λ (m : FrameByte). IsByteOf m old) (sym one) is)

  pub write-bytes_of : AreBytesOf (write memory at (map Byte new)) (write bytes at new)
  write-bytes_of = written-bytes_of (map Byte new) (length-map new Byte) (map-bytes_of new)

module _ (segment : SegmentParts) (state : State) (words : Words) (whole : IsWellFormed state) (holds : Holds state words) where
  -- a number is stored
  stored_held : (at : ℕ) (size : StoreSize) (number : ℕ) → at + store_length size ≤ FRAME_LENGTH
      → HoldsChange segment state (StoreBytes at size number) (stored words at size number)
  stored_held at size number within =
      let low = bytes_low_first 0 (store_length size) number in
      let long = length-bytes_low_first 0 (store_length size) number in
      let old = whole.frame in
      let slots = whole.slots in
      let new = holds.whole in
      record {
        count = holds.count;
        registers = holds.registers;
        whole = length-write words.frame low at (omega arith) ∙ new;
        frame = subst (λ (m : List FrameByte). AreBytesOf m (write words.frame at low))
            (sym (store_is_write state.frame.bytes at (store_length size) number))
            (write-bytes_of state.frame.bytes words.frame low at (omega arith) (omega arith) holds.frame);
        slots = subst (λ (n : ℕ). AreWordsOfSlots (overwrite_slots None state.frame.slots at n) (write words.frame at low)) long
            (overwrite-words_of state.frame.slots words.frame low at (omega arith) (omega arith) holds.slots);
        score = holds.score;
      }

  -- a pointer is stored in a slot
  stored_pointer_held : (slot : ℕ) (pointer : PointerParts) (word : ℕ) → slot < SLOTS → IsWordOf (value.Pointer pointer) word
      → HoldsChange segment state (StorePointer slot pointer)
      (record words { frame = write words.frame (SLOT_LENGTH * slot) (bytes_low_first 0 SLOT_LENGTH word) })
  stored_pointer_held slot pointer word inside held =
      let low = bytes_low_first 0 SLOT_LENGTH word in
      let at = SLOT_LENGTH * slot in
      let old = whole.frame in
      let slots = whole.slots in
      let new = holds.whole in
      record {
        count = holds.count;
        registers = holds.registers;
        whole = length-write words.frame low at (omega arith) ∙ new;
        frame =
            written-bytes_of state.frame.bytes words.frame low at (omega arith) (omega arith) holds.frame
            (replicate SLOT_LENGTH Unwritten) refl (unwritten-bytes_of SLOT_LENGTH low);
        slots = set_pointer-words_of state.frame.slots words.frame slot pointer word (omega arith) (omega arith) held holds.slots;
        score = holds.score;
      }

  -- a store of a value, case by case

  number_held : (from : ℤ) (size : StoreSize) (number : ℕ)
      → Sound (HoldsChange segment state) (effect.store_number from size number) (store_at words from size number)
  number_held from size number = by_test (effect.lie_within from (store_length size) FRAME_LENGTH) refl
    where
      by_test : (within : Bool) → effect.lie_within from (store_length size) FRAME_LENGTH ≡ within
          → Sound (HoldsChange segment state) (if within then Ok (StoreBytes (unsigned_abs from) size number) else Err OutOfBounds)
          (if within then Ok (stored words (unsigned_abs from) size number) else Err OutOfBounds)
      by_test true within = stored_held (unsigned_abs from) size number (inside_ends from (store_length size) FRAME_LENGTH within)
      by_test false outside = tt

  pointer_held : (from : ℤ) (size : StoreSize) (pointer : PointerParts) (word : ℕ) → IsWordOf (value.Pointer pointer) word
      → Sound (HoldsChange segment state) (effect.store_pointer from size pointer) (store_at words from size word)
  pointer_held from size pointer word held = by_slot (slot_at (unsigned_abs from) (store_length size)) refl
    where
      stored_slot : (slot : ℕ) → (store_length size ≡ SLOT_LENGTH) × (unsigned_abs from ≡ SLOT_LENGTH * slot)
          → unsigned_abs from + store_length size ≤ FRAME_LENGTH
          → HoldsChange segment state (StorePointer slot pointer) (stored words (unsigned_abs from) size word)
      stored_slot slot is within =
          let all = is.0 in
          let begins = is.1 in
          subst (λ (n : ℕ). HoldsChange segment state (StorePointer slot pointer)
          (record words { frame = write words.frame n (bytes_low_first 0 (store_length size) word) })) (sym begins)
          (subst (λ (n : ℕ). HoldsChange segment state (StorePointer slot pointer)
          (record words { frame = write words.frame (SLOT_LENGTH * slot) (bytes_low_first 0 n word) })) (sym all)
          (stored_pointer_held slot pointer word (omega arith) held))

      by_test : (slot : ℕ) → slot_at (unsigned_abs from) (store_length size) ≡ Some slot → (within : Bool)
          → effect.lie_within from (store_length size) FRAME_LENGTH ≡ within
          → Sound (HoldsChange segment state) (if within then Ok (StorePointer slot pointer) else Err OutOfBounds)
          (if within then Ok (stored words (unsigned_abs from) size word) else Err OutOfBounds)
      by_test slot is true within =
          stored_slot slot (slot_at-is (unsigned_abs from) (store_length size) slot is) (inside_ends from (store_length size) FRAME_LENGTH within)
      by_test slot is false outside = tt

      by_slot : (found : Option ℕ) → slot_at (unsigned_abs from) (store_length size) ≡ found
          → Sound (HoldsChange segment state) (effect.store_pointer from size pointer) (store_at words from size word)
      by_slot None is =
          subst (λ (result : Result Change Cause). Sound (HoldsChange segment state) result (store_at words from size word))
          (sym (store_pointer-none from size pointer is)) tt
      by_slot (Some slot) is =
          subst (λ (result : Result Change Cause). Sound (HoldsChange segment state) result (store_at words from size word))
          (sym (store_pointer-slot from size pointer slot is))
          (by_test slot is (effect.lie_within from (store_length size) FRAME_LENGTH) refl)

  pub store_held : (from : ℤ) (size : StoreSize) (v : Value) (word : ℕ) → IsWordOf v word
      → Sound (HoldsChange segment state) (effect.store_at from size v) (store_at words from size word)
  store_held from size value.Empty word held = tt
  store_held from size (value.Number n) word held =
      subst (λ (k : ℕ). Sound (HoldsChange segment state) (effect.store_number from size n) (store_at words from size k)) (sym held.0)
      (number_held from size n)
  store_held from size (value.Pointer pointer) word held = pointer_held from size pointer word held
