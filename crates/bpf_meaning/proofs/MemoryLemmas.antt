-- Bytes and their marks, and how they are read and written.
use Rattle.std.proofs.Common.{◌≡◌, ℕ, zero, suc, ◌+◌, ◌-◌, ◌*◌, ◌/◌, ◌%◌, ◌<◌, ◌≤◌, ◌^◌, Bool, true, false, List, [], ◌∷◌, ◌++◌, length}
use Rattle.std.proofs.Common.{map, take, drop, replicate, slice_set, Option, Some, None, refl, sym, ap, ◌∙◌, arith, lit<, min, append_assoc}
use Rattle.std.proofs.Common.{length-append}
use Rattle.std.specs.Prelude.{not}
use Rattle.std.specs.List.{list_any}
use Rattle.std.proofs.lemmas.Bool.{false≢true}
use Rattle.std.proofs.lemmas.List.{length-take, length-take-le, length-drop, length-map, length-replicate, drop-drop, take_at, drop_at}
use Rattle.std.proofs.lemmas.List.{take-append-drop}
use borrow.Rule.Slice.PartMut.{put_mid, mid_of}
use Rattle.std.proofs.Math.Arith.{mod-mul}
use Rattle.std.proofs.Math.Nat.{pow-le-pow_right, pow-suc, one-le-pow, div-one, mod-one, div-div-eq-div-mul}
use Rattle.std.proofs.lemmas.Nat.{pow-add}
use Rattle.std.specs.Option.{option_map}
use Rattle.std.specs.Int.{byte_at, bytes_low_first}
use Rattle.bpf_helpers.specs.Call.{bytes_read, second, third, write}
use Rattle.bpf_helpers.specs.declared.signature.FrameUse.{FrameUse}
use Rattle.bpf_helpers.specs.declared.signature.FrameUse.TheVariants.{Reads}
use Rattle.bpf_helpers.proofs.WriteLemmas.{write-nothing}
use Rattle.bpf_insn.specs.Frame.{FrameByte, FrameContents, Unwritten, Byte, number_of}
use Rattle.bpf_insn.specs.declared.memory.TheConstants.{SLOT_LENGTH}
use Rattle.bpf_insn.specs.declared.value.Pointer.{Pointer}
use Rattle.bpf_meaning.specs.Memory.{all_written, frame_bytes, set_slot_pointer, store, write_bytes, written_bytes}

-- the same number of bytes and of marks

pub frame_bytes-nil : (marks : List Bool) → frame_bytes marks [] ≡ []
frame_bytes-nil [] = refl
frame_bytes-nil (mark ∷ marks) = refl

pub length-frame_bytes : (marks : List Bool) (bytes : List ℕ) → length marks ≡ length bytes
    → length (frame_bytes marks bytes) ≡ length bytes
length-frame_bytes [] [] same = refl
length-frame_bytes (true ∷ marks) (byte ∷ bytes) same = let more = length-frame_bytes marks bytes (omega arith) in omega arith
length-frame_bytes (false ∷ marks) (byte ∷ bytes) same = let more = length-frame_bytes marks bytes (omega arith) in omega arith
length-frame_bytes marks bytes same = absurd (omega arith)

pub take-frame_bytes : (k : ℕ) (marks : List Bool) (bytes : List ℕ)
    → take k (frame_bytes marks bytes) ≡ frame_bytes (take k marks) (take k bytes)
take-frame_bytes zero marks bytes = refl
take-frame_bytes (suc k) [] bytes = refl
take-frame_bytes (suc k) (mark ∷ marks) [] = refl
take-frame_bytes (suc k) (true ∷ marks) (byte ∷ bytes) = ap (λ (l : List FrameByte). Byte byte ∷ l) (take-frame_bytes k marks bytes)
take-frame_bytes (suc k) (false ∷ marks) (byte ∷ bytes) = ap (λ (l : List FrameByte). Unwritten ∷ l) (take-frame_bytes k marks bytes)

pub drop-frame_bytes : (k : ℕ) (marks : List Bool) (bytes : List ℕ)
    → drop k (frame_bytes marks bytes) ≡ frame_bytes (drop k marks) (drop k bytes)
drop-frame_bytes zero marks bytes = refl
drop-frame_bytes (suc k) [] bytes = refl
drop-frame_bytes (suc k) (mark ∷ marks) [] = sym (frame_bytes-nil (drop k marks))
drop-frame_bytes (suc k) (true ∷ marks) (byte ∷ bytes) = drop-frame_bytes k marks bytes
drop-frame_bytes (suc k) (false ∷ marks) (byte ∷ bytes) = drop-frame_bytes k marks bytes

pub frame_bytes-append : (marks more : List Bool) (bytes others : List ℕ) → length marks ≡ length bytes
    → frame_bytes (marks ++ more) (bytes ++ others) ≡ frame_bytes marks bytes ++ frame_bytes more others
frame_bytes-append [] more [] others same = refl
frame_bytes-append (true ∷ marks) more (byte ∷ bytes) others same =
    ap (λ (l : List FrameByte). Byte byte ∷ l) (frame_bytes-append marks more bytes others (omega arith))
frame_bytes-append (false ∷ marks) more (byte ∷ bytes) others same =
    ap (λ (l : List FrameByte). Unwritten ∷ l) (frame_bytes-append marks more bytes others (omega arith))
frame_bytes-append marks more bytes others same = absurd (omega arith)

pub frame_bytes-replicate : (count : ℕ) (bytes : List ℕ) → length bytes ≡ count → frame_bytes (replicate count true) bytes ≡ map Byte bytes
frame_bytes-replicate zero [] same = refl
frame_bytes-replicate (suc count) (byte ∷ bytes) same = ap (λ (l : List FrameByte). Byte byte ∷ l)
    (frame_bytes-replicate count bytes (omega arith))
frame_bytes-replicate count bytes same = absurd (omega arith)

pub frame_bytes-unmarked : (count : ℕ) (bytes : List ℕ) → length bytes ≡ count
    → frame_bytes (replicate count false) bytes ≡ replicate count Unwritten
frame_bytes-unmarked zero [] same = refl
frame_bytes-unmarked (suc count) (byte ∷ bytes) same = ap (λ (l : List FrameByte). Unwritten ∷ l)
    (frame_bytes-unmarked count bytes (omega arith))
frame_bytes-unmarked count bytes same = absurd (omega arith)

-- the little-endian number of at most eight bytes fits

power_grows : (n : ℕ) → n ≤ 7 → 256 ^ n ≤ 256 ^ 7
power_grows n small = pow-le-pow_right (lit< tt) small

pub low_fits : (number n : ℕ) → number < 256 ^ n → n ≤ 7 → 256 * number + 255 < 2 ^ 64
low_fits number n below small = let most = power_grows n small in omega (arith, most, below)

pub fits_more : (byte number n : ℕ) → byte < 256 → number < 256 ^ n → byte + 256 * number < 256 ^ (n + 1)
fits_more byte number n small below = rw pow-add (omega (arith, below))

-- reads: a byte without a mark results in no number, and if all are marked, the number is that of the bytes

pub number_of-unmarked : (is_unmarked : Bool → Bool) (marks : List Bool) (bytes : List ℕ) → is_unmarked true ≡ false
    → length marks ≡ length bytes → list_any is_unmarked marks ≡ true → number_of (frame_bytes marks bytes) ≡ None
number_of-unmarked is_unmarked [] bytes test same any = absurd (false≢true any)
number_of-unmarked is_unmarked (mark ∷ marks) [] test same any = absurd (omega arith)
number_of-unmarked is_unmarked (false ∷ marks) (byte ∷ bytes) test same any = refl
number_of-unmarked is_unmarked (true ∷ marks) (byte ∷ bytes) test same any =
    let later : list_any is_unmarked marks ≡ true = rw test at any in
    ap (option_map (λ rest. byte + 256 * rest)) (number_of-unmarked is_unmarked marks bytes test (omega arith) later)

pub frame_bytes-all : (is_unmarked : Bool → Bool) (marks : List Bool) (bytes : List ℕ) → is_unmarked false ≡ true → is_unmarked true ≡ false
    → length marks ≡ length bytes → list_any is_unmarked marks ≡ false → frame_bytes marks bytes ≡ map Byte bytes
frame_bytes-all is_unmarked [] [] test other same any = refl
frame_bytes-all is_unmarked (false ∷ marks) (byte ∷ bytes) test other same any =
    absurd (let e : true ≡ false = rw test at any in false≢true (sym e))
frame_bytes-all is_unmarked (true ∷ marks) (byte ∷ bytes) test other same any =
    let later : list_any is_unmarked marks ≡ false = rw other at any in
    ap (λ (l : List FrameByte). Byte byte ∷ l) (frame_bytes-all is_unmarked marks bytes test other (omega arith) later)
frame_bytes-all is_unmarked marks bytes test other same any = absurd (omega arith)

-- writes

pub take-bytes_low_first : (i k n number : ℕ) → n ≤ k → take n (bytes_low_first i k number) ≡ bytes_low_first i n number
take-bytes_low_first i k zero number less = refl
take-bytes_low_first i zero (suc n) number less = absurd (omega arith)
take-bytes_low_first i (suc k) (suc n) number less = ap (λ (l : List ℕ). byte_at i number ∷ l)
    (take-bytes_low_first (suc i) k n number (omega arith))

pub length-bytes_low_first : (i n number : ℕ) → length (bytes_low_first i n number) ≡ n
length-bytes_low_first i zero number = refl
length-bytes_low_first i (suc n) number = let more = length-bytes_low_first (suc i) n number in omega arith

-- writing a part of memory in place
put_mid_is_write : {A : Type 0} (memory new : List A) (at k : ℕ) → k ≡ length new → put_mid at k memory new ≡ write memory at new
put_mid_is_write memory new at k is =
    ap (λ rest. take at memory ++ (new ++ rest)) (ap (λ (n : ℕ). drop n (drop at memory)) is ∙ drop-drop (length new) at memory)
    ∙ sym (append_assoc (take at memory) new (drop (at + length new) memory))

-- a store writes a number's low bytes from an offset on
pub store_is_write : (memory : List FrameByte) (at count number : ℕ)
    → store memory at count number ≡ write memory at (map Byte (bytes_low_first 0 count number))
store_is_write memory at count number =
    let low = bytes_low_first 0 count number in
    let long : count ≡ length (map Byte low) = sym (length-map low Byte ∙ length-bytes_low_first 0 count number) in
    ap (λ (n : ℕ). take at memory ++ map Byte low ++ drop (at + n) memory) long

contents : List FrameByte → List (Option Pointer) → FrameContents
contents bytes slots = record { bytes = bytes; slots = slots }

-- bytes of a frame that are all written are the ones that a call reads

written-frame_bytes : (marks : List Bool) (bytes : List ℕ) → length marks ≡ length bytes → all_written (frame_bytes marks bytes) ≡ true
    → written_bytes (frame_bytes marks bytes) ≡ bytes
written-frame_bytes [] [] same all = refl
written-frame_bytes (true ∷ marks) (byte ∷ bytes) same all =
    ap (λ (l : List ℕ). byte ∷ l) (written-frame_bytes marks bytes (omega arith) all)
written-frame_bytes (false ∷ marks) (byte ∷ bytes) same all = absurd (false≢true all)
written-frame_bytes marks bytes same all = absurd (omega arith)

-- they are all written if each one has its mark
written-marks : (is_unmarked : Bool → Bool) (marks : List Bool) (bytes : List ℕ) → is_unmarked false ≡ true → is_unmarked true ≡ false
    → length marks ≡ length bytes → not (list_any is_unmarked marks) ≡ all_written (frame_bytes marks bytes)
written-marks is_unmarked [] [] test other same = refl
written-marks is_unmarked (true ∷ marks) (byte ∷ bytes) test other same =
    rw other (written-marks is_unmarked marks bytes test other (omega arith))
written-marks is_unmarked (false ∷ marks) (byte ∷ bytes) test other same = rw test refl
written-marks is_unmarked marks bytes test other same = absurd (omega arith)

-- a frame's contents, with the same number of marks and of bytes
module _ (marks : List Bool) (bytes : List ℕ) (same : length marks ≡ length bytes) where
  same_parts : (at k : ℕ) → length (mid_of at k marks) ≡ length (mid_of at k bytes)
  same_parts at k = simp (length-take, length-drop) (ap (λ (n : ℕ). min k (n - at)) same)

  -- marks and bytes are put in place
  frame_bytes-put_mid : (middle : List Bool) (new : List ℕ) (at k : ℕ) → length middle ≡ length new
      → frame_bytes (put_mid at k marks middle) (put_mid at k bytes new) ≡ put_mid at k (frame_bytes marks bytes) (frame_bytes middle new)
  frame_bytes-put_mid middle new at k long =
      let front : length (take at marks) ≡ length (take at bytes) =
      length-take at marks ∙ ap (λ (n : ℕ). min at n) same ∙ sym (length-take at bytes) in
      frame_bytes-append (take at marks) (middle ++ drop k (drop at marks)) (take at bytes) (new ++ drop k (drop at bytes)) front
      ∙ ap (λ (l : List FrameByte). l ++ frame_bytes (middle ++ drop k (drop at marks)) (new ++ drop k (drop at bytes)))
      (sym (take-frame_bytes at marks bytes))
      ∙ ap (λ (l : List FrameByte). take at (frame_bytes marks bytes) ++ l)
      (frame_bytes-append middle (drop k (drop at marks)) new (drop k (drop at bytes)) long
      ∙ ap (λ (l : List FrameByte). frame_bytes middle new ++ l)
      (sym (drop-frame_bytes k (drop at marks) (drop at bytes))
      ∙ ap (λ (l : List FrameByte). drop k l) (sym (drop-frame_bytes at marks bytes))))

  -- a part of a memory, from its marks and bytes
  module _ {memory : List FrameByte} (view : frame_bytes marks bytes ≡ memory) (at count k : ℕ) (is : k ≡ count) where
    part_of : take count (drop at memory) ≡ frame_bytes (mid_of at k marks) (mid_of at k bytes)
    part_of =
        ap (λ (m : List FrameByte). take count (drop at m)) (sym view) ∙ ap (λ (n : ℕ). take n (drop at (frame_bytes marks bytes))) (sym is)
        ∙ ap (λ (l : List FrameByte). take k l) (drop-frame_bytes at marks bytes) ∙ take-frame_bytes k (drop at marks) (drop at bytes)

    pub unwritten_is_none : (is_unmarked : Bool → Bool) → is_unmarked true ≡ false → list_any is_unmarked (mid_of at k marks) ≡ true
        → number_of (take count (drop at memory)) ≡ None
    unwritten_is_none is_unmarked test any =
        ap number_of part_of ∙ number_of-unmarked is_unmarked (mid_of at k marks) (mid_of at k bytes) test (same_parts at k) any

    pub written_is_number : (is_unmarked : Bool → Bool) → is_unmarked false ≡ true → is_unmarked true ≡ false
        → list_any is_unmarked (mid_of at k marks) ≡ false
        → number_of (take count (drop at memory)) ≡ number_of (map Byte (mid_of at k bytes))
    written_is_number is_unmarked test other any =
        ap number_of (part_of ∙ frame_bytes-all is_unmarked (mid_of at k marks) (mid_of at k bytes) test other (same_parts at k) any)

    pub all_written-marks : (is_unmarked : Bool → Bool) → is_unmarked false ≡ true → is_unmarked true ≡ false
        → not (list_any is_unmarked (mid_of at k marks)) ≡ all_written (take count (drop at memory))
    all_written-marks is_unmarked test other =
        written-marks is_unmarked (mid_of at k marks) (mid_of at k bytes) test other (same_parts at k) ∙ sym (ap all_written part_of)

  module _ {slots : List (Option Pointer)} {frame : FrameContents} {new_bytes : List ℕ} {new_marks : List Bool} where
    -- bytes written over those of a frame, with their marks
    pub call_writes : (at k : ℕ) (written : List ℕ)
        → k ≡ length written → length (mid_of at k marks) ≡ length written → record { bytes = frame_bytes marks bytes; slots = slots } ≡ frame
        → new_bytes ≡ write bytes at written → new_marks ≡ replicate (length (mid_of at k marks)) true
        → (let new : FrameContents = record { bytes = frame_bytes (put_mid at k marks new_marks) new_bytes; slots = slots } in new)
        ≡ record frame { bytes = write frame.bytes at (map Byte written) }
    unfolding contents
    call_writes at k written is long view low all =
        let all_are : new_marks ≡ replicate (length written) true = all ∙ ap (λ (n : ℕ). replicate n true) long in
        let put : new_bytes ≡ put_mid at k bytes written = low ∙ sym (put_mid_is_write bytes written at k is) in
        let many : k ≡ length (map Byte written) = is ∙ sym (length-map written Byte) in
        ap (λ (l : List ℕ). contents (frame_bytes (put_mid at k marks new_marks) l) slots) put
        ∙ ap (λ (l : List Bool). contents (frame_bytes (put_mid at k marks l) (put_mid at k bytes written)) slots) all_are
        ∙ ap (λ (l : List FrameByte). contents l slots)
        (frame_bytes-put_mid (replicate (length written) true) written at k (length-replicate (length written) true)
        ∙ ap (put_mid at k (frame_bytes marks bytes)) (frame_bytes-replicate (length written) written refl)
        ∙ put_mid_is_write (frame_bytes marks bytes) (map Byte written) at k many)
        ∙ ap (λ (f : FrameContents). contents (write f.bytes at (map Byte written)) f.slots) view

  -- the low bytes of a number, with their marks
  module _ (at count k : ℕ) (is : k ≡ count) (long : length (mid_of at k marks) ≡ count) (short : count ≤ 8) where
    pub store_writes : {slots : List (Option Pointer)} {frame : FrameContents} (number : ℕ) {new_bytes : List ℕ} {new_marks : List Bool}
        → record { bytes = frame_bytes marks bytes; slots = slots } ≡ frame → new_bytes ≡ take count (bytes_low_first 0 8 number)
        → new_marks ≡ replicate (length (mid_of at k marks)) true
        → (let new : FrameContents = record {
          bytes = frame_bytes (put_mid at k marks new_marks) (put_mid at k bytes new_bytes);
          slots = slots;
        } in new)
        ≡ record frame { bytes = store frame.bytes at count number }
    unfolding contents
    store_writes {frame} number {new_bytes} view low all =
        let written = bytes_low_first 0 count number in
        let number_long : length written ≡ count = length-bytes_low_first 0 count number in
        let low_is : new_bytes ≡ written = low ∙ take-bytes_low_first 0 8 count number short in
        call_writes at k written (is ∙ sym number_long) (long ∙ sym number_long) view
        (ap (put_mid at k bytes) low_is ∙ put_mid_is_write bytes written at k (is ∙ sym number_long)) all
        ∙ ap (λ (l : List FrameByte). contents l frame.slots) (sym (store_is_write frame.bytes at count number))

  -- a stored pointer, and the marks of its slot
  pub pointer_unwrites : {slots : List (Option Pointer)} {frame : FrameContents} (slot k : ℕ) (pointer : Pointer) {new_marks : List Bool}
      → k ≡ SLOT_LENGTH
      → length (mid_of (SLOT_LENGTH * slot) k marks) ≡ SLOT_LENGTH → record { bytes = frame_bytes marks bytes; slots = slots } ≡ frame
      → new_marks ≡ replicate (length (mid_of (SLOT_LENGTH * slot) k marks)) false
      → (let new : FrameContents = record {
        bytes = frame_bytes (put_mid (SLOT_LENGTH * slot) k marks new_marks) bytes;
        slots = slice_set
            slots slot (Some pointer);
      } in new)
      ≡ set_slot_pointer frame slot pointer
  unfolding contents
  pointer_unwrites {slots} slot k pointer is long view all =
      let at = SLOT_LENGTH * slot in
      let middle = mid_of at k bytes in
      let wide : length middle ≡ SLOT_LENGTH = sym (same_parts at k) ∙ long in
      let stays : put_mid at k bytes middle ≡ bytes =
      ap (λ (l : List ℕ). take at bytes ++ l) (take-append-drop k (drop at bytes)) ∙ take-append-drop at bytes in
      ap (λ (l : List Bool). contents (frame_bytes (put_mid at k marks l) bytes) (slice_set slots slot (Some pointer)))
      (all ∙ ap (λ (n : ℕ). replicate n false) long)
      ∙ ap (λ (l : List ℕ). contents (frame_bytes (put_mid at k marks (replicate SLOT_LENGTH false)) l)
      (slice_set slots slot (Some pointer))) (sym stays)
      ∙ ap (λ (l : List FrameByte). contents l (slice_set slots slot (Some pointer)))
      (frame_bytes-put_mid (replicate SLOT_LENGTH false) middle at k (length-replicate SLOT_LENGTH false ∙ sym wide)
      ∙ ap (put_mid at k (frame_bytes marks bytes)) (frame_bytes-unmarked SLOT_LENGTH middle wide)
      ∙ put_mid_is_write (frame_bytes marks bytes) (replicate SLOT_LENGTH Unwritten) at k
      (is ∙ sym (length-replicate SLOT_LENGTH Unwritten)))
      ∙ ap (λ (f : FrameContents). set_slot_pointer f slot pointer) view

  pub read_alike : {slots : List (Option Pointer)} {frame : FrameContents} (lent : FrameUse) (arguments : List ℕ)
      → record { bytes = frame_bytes marks bytes; slots = slots } ≡ frame → all_written (bytes_read lent arguments frame.bytes) ≡ true
      → bytes_read lent arguments bytes ≡ written_bytes (bytes_read lent arguments frame.bytes)
  read_alike Reads arguments view all =
      let at = second arguments in
      let count = third arguments in
      let part = part_of (ap (λ (f : FrameContents). f.bytes) view) at count count refl in
      sym (ap written_bytes part
      ∙ written-frame_bytes (mid_of at count marks) (mid_of at count bytes) (same_parts at count) (sym (ap all_written part) ∙ all))
  read_alike lent arguments view all = refl

-- a frame to which nothing is written
pub call_writes_nothing : (marks : List Bool) (bytes : List ℕ) {slots : List (Option Pointer)} {frame : FrameContents} (at : ℕ)
    {written new_bytes : List ℕ} → record { bytes = frame_bytes marks bytes; slots = slots } ≡ frame → written ≡ []
    → new_bytes ≡ write bytes at written
    → (let new : FrameContents = record { bytes = frame_bytes marks new_bytes; slots = slots } in new) ≡ write_bytes frame at written
unfolding contents
call_writes_nothing marks bytes {slots} {frame} at view none low =
    ap (λ (l : List ℕ). contents (frame_bytes marks l) slots) (low ∙ ap (write bytes at) none ∙ write-nothing bytes at) ∙ view
    ∙ ap (λ (l : List FrameByte). contents l frame.slots) (sym (write-nothing frame.bytes at)) ∙ ap (write_bytes frame at) (sym none)

-- stored bytes are loaded, and other bytes are unchanged

byte_at-is : (i number : ℕ) → byte_at i number ≡ number / 256 ^ i % 256
byte_at-is zero number = sym (ap (λ (n : ℕ). n % 256) (div-one number))
byte_at-is (suc i) number = refl

-- byte i of a number and the `count` bytes above it
one_byte_more : (i count number : ℕ) → byte_at i number + 256 * (number / 256 ^ suc i % 256 ^ count) ≡ number / 256 ^ i % 256 ^ suc count
one_byte_more i count number =
    let above : number / 256 ^ suc i ≡ number / 256 ^ i / 256 = ap (λ (n : ℕ). number / n) (pow-suc 256 i) ∙ sym
    (div-div-eq-div-mul number (256 ^ i) 256) in
    let split : number / 256 ^ i % 256 ^ suc count ≡ (number / 256 ^ i / 256 % 256 ^ count) * 256 + number / 256 ^ i % 256 =
    ap (λ (n : ℕ). number / 256 ^ i % n) (pow-suc 256 count) ∙ mod-mul (number / 256 ^ i) (one-le-pow count 256 (lit< tt)) (lit< tt) in
    let low = byte_at-is i number in
    let high = ap (λ (n : ℕ). n % 256 ^ count) above in
    omega (arith, split, low, high)

number_of-low : (i count number : ℕ) → number_of (map Byte (bytes_low_first i count number)) ≡ Some (number / 256 ^ i % 256 ^ count)
number_of-low i zero number = ap (λ (n : ℕ). Some n) (sym (mod-one (number / 256 ^ i)))
number_of-low i (suc count) number =
    ap (option_map (λ rest. byte_at i number + 256 * rest)) (number_of-low (suc i) count number)
    ∙ ap (λ (n : ℕ). Some n) (one_byte_more i count number)

-- the parts of a memory after a write
front_is : (memory : List FrameByte) (at count : ℕ) → at + count ≤ length memory → length (take at memory) ≡ at
front_is memory at count within = length-take-le at memory (omega arith)

low_is : (count number : ℕ) → length (map Byte (bytes_low_first 0 count number)) ≡ count
low_is count number = length-map (bytes_low_first 0 count number) Byte ∙ length-bytes_low_first 0 count number

pub stored_is_loaded : (memory : List FrameByte) (at count number : ℕ) → at + count ≤ length memory
    → number_of (take count (drop at (store memory at count number))) ≡ Some (number % 256 ^ count)
stored_is_loaded memory at count number within =
    let low = map Byte (bytes_low_first 0 count number) in
    let remainder = drop (at + count) memory in
    ap (λ (l : List FrameByte). number_of (take count (drop at l))) (append_assoc (take at memory) low remainder)
    ∙ ap (λ (l : List FrameByte). number_of (take count l)) (drop_at (take at memory) (low ++ remainder) at (front_is memory at count within))
    ∙ ap number_of (take_at low remainder count (low_is count number))
    ∙ number_of-low 0 count number ∙ ap (λ (n : ℕ). Some (n % 256 ^ count)) (div-one number)

-- the bytes before and after the written ones

pub before_unchanged : (memory : List FrameByte) (at count number : ℕ) → at + count ≤ length memory
    → take at (store memory at count number) ≡ take at memory
before_unchanged memory at count number within =
    ap (take at) (append_assoc (take at memory) (map Byte (bytes_low_first 0 count number)) (drop (at + count) memory))
    ∙ take_at (take at memory) (map Byte (bytes_low_first 0 count number) ++ drop (at + count) memory) at (front_is memory at count within)

pub after_unchanged : (memory : List FrameByte) (at count number : ℕ) → at + count ≤ length memory
    → drop (at + count) (store memory at count number) ≡ drop (at + count) memory
after_unchanged memory at count number within =
    let low = map Byte (bytes_low_first 0 count number) in
    let long : length (take at memory ++ low) ≡ at + count =
    length-append (take at memory) low ∙ omega (arith, front_is memory at count within, low_is count number) in
    drop_at (take at memory ++ low) (drop (at + count) memory) (at + count) long
