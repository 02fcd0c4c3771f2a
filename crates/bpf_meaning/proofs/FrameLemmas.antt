-- Writes to a frame: which bytes are written after them, that they are bytes, and what number they represent.
use Rattle.std.proofs.Common.{◌≡◌, ℕ, zero, suc, ◌+◌, ◌-◌, ◌*◌, ◌<◌, ◌≤◌, ◌^◌, List, [], ◌∷◌, ◌++◌, length, map, take, drop, get_or, Some}
use Rattle.std.proofs.Common.{refl, sym, ap, ◌∙◌, subst, inl, inr, arith}
use Rattle.std.specs.Prelude.{IsTrue, slice_index}
use Rattle.std.specs.Option.{option_map}
use Rattle.std.specs.Int.{byte_at, bytes_low_first}
use Rattle.std.proofs.lemmas.Bool.{false≢true, cases_lt}
use Rattle.std.proofs.lemmas.List.{length-map, get_or-map}
use Rattle.bpf_helpers.specs.Call.{write}
use Rattle.bpf_helpers.proofs.WriteLemmas.{get_or-write, get_or-write_before, get_or-write_after}
use Rattle.bpf_insn.specs.Frame.{FrameByte, Unwritten, Byte, IsByte, is_byte, is_written, number_of}
use Rattle.bpf_meaning.specs.Memory.{all_written, store}
use Rattle.bpf_meaning.proofs.MemoryLemmas.{length-bytes_low_first, fits_more, store_is_write}

-- the bytes of a write are written afterwards, and no byte becomes unwritten

pub is_written-write_inside : (memory : List FrameByte) (at : ℕ) (bytes : List ℕ) (i : ℕ) → at + length bytes ≤ length memory → at ≤ i
    → i < at + length bytes → IsTrue (is_written (write memory at (map Byte bytes)) i)
is_written-write_inside memory at bytes i within above below =
    let long = length-map bytes Byte in
    let place : at + (i - at) ≡ i = omega arith in
    subst (λ (n : ℕ). IsTrue (is_written (write memory at (map Byte bytes)) n)) place
    (ap is_byte (get_or-write memory (map Byte bytes) at (i - at) Unwritten (omega arith) (omega arith)
    ∙ get_or-map Byte bytes (i - at) 0 Unwritten (omega arith)))

pub is_written-write_before : (memory : List FrameByte) (at : ℕ) (bytes : List ℕ) (i : ℕ) → at + length bytes ≤ length memory → i < at
    → is_written (write memory at (map Byte bytes)) i ≡ is_written memory i
is_written-write_before memory at bytes i within before =
    let long = length-map bytes Byte in ap is_byte (get_or-write_before memory (map Byte bytes) at i Unwritten (omega arith) before)

pub is_written-write_after : (memory : List FrameByte) (at : ℕ) (bytes : List ℕ) (i : ℕ) → at + length bytes ≤ length memory
    → at + length bytes ≤ i → is_written (write memory at (map Byte bytes)) i ≡ is_written memory i
is_written-write_after memory at bytes i within beyond =
    let long = length-map bytes Byte in ap is_byte (get_or-write_after memory (map Byte bytes) at i Unwritten (omega arith) (omega arith))

pub written_unchanged : (memory : List FrameByte) (at : ℕ) (bytes : List ℕ) (i : ℕ) → at + length bytes ≤ length memory
    → IsTrue (is_written memory i) → IsTrue (is_written (write memory at (map Byte bytes)) i)
written_unchanged memory at bytes i within written =
    elim (cases_lt i at) [
      | inl before ↦ is_written-write_before memory at bytes i within before ∙ written
      | inr above ↦
          elim (cases_lt i (at + length bytes)) [
            | inl below ↦ is_written-write_inside memory at bytes i within above below
            | inr beyond ↦ is_written-write_after memory at bytes i within beyond ∙ written
          ]
    ]

-- the same for a number's low bytes

stores_within : (memory : List FrameByte) (at count number : ℕ) → at + count ≤ length memory
    → at + length (bytes_low_first 0 count number) ≤ length memory
stores_within memory at count number within = let long = length-bytes_low_first 0 count number in omega arith

pub is_written-store_inside : (memory : List FrameByte) (at count number i : ℕ) → at + count ≤ length memory → at ≤ i → i < at + count
    → IsTrue (is_written (store memory at count number) i)
is_written-store_inside memory at count number i within above below =
    let long = length-bytes_low_first 0 count number in
    ap (λ (m : List FrameByte). is_written m i) (store_is_write memory at count number)
    ∙ is_written-write_inside memory at (bytes_low_first 0 count number) i (stores_within memory at count number within) above (omega arith)

pub stored_unchanged : (memory : List FrameByte) (at count number i : ℕ) → at + count ≤ length memory → IsTrue (is_written memory i)
    → IsTrue (is_written (store memory at count number) i)
stored_unchanged memory at count number i within written =
    ap (λ (m : List FrameByte). is_written m i) (store_is_write memory at count number)
    ∙ written_unchanged memory at (bytes_low_first 0 count number) i (stores_within memory at count number within) written

-- memory whose bytes are bytes

abbrev pub HoldBytes : List FrameByte → Type 0
HoldBytes memory = (at : ℕ) → IsByte (get_or memory at Unwritten)

bytes-append : (memory others : List FrameByte) → HoldBytes memory → HoldBytes others → HoldBytes (memory ++ others)
bytes-append [] others one two at = two at
bytes-append (byte ∷ memory) others one two zero = one zero
bytes-append (byte ∷ memory) others one two (suc at) = bytes-append memory others (λ i. one (suc i)) two at

bytes-take : (count : ℕ) (memory : List FrameByte) → HoldBytes memory → HoldBytes (take count memory)
bytes-take zero memory all at = tt
bytes-take (suc count) [] all at = tt
bytes-take (suc count) (byte ∷ memory) all zero = all zero
bytes-take (suc count) (byte ∷ memory) all (suc at) = bytes-take count memory (λ i. all (suc i)) at

bytes-drop : (count : ℕ) (memory : List FrameByte) → HoldBytes memory → HoldBytes (drop count memory)
bytes-drop zero memory all = all
bytes-drop (suc count) [] all = all
bytes-drop (suc count) (byte ∷ memory) all = bytes-drop count memory (λ i. all (suc i))

pub bytes-map : (bytes : List ℕ) → ((i : ℕ) → slice_index bytes i < 2 ^ 8) → HoldBytes (map Byte bytes)
bytes-map [] small at = tt
bytes-map (byte ∷ bytes) small zero = small zero
bytes-map (byte ∷ bytes) small (suc at) = bytes-map bytes (λ i. small (suc i)) at

pub bytes-write : (memory : List FrameByte) (at : ℕ) (bytes : List FrameByte) → HoldBytes memory → HoldBytes bytes
    → HoldBytes (write memory at bytes)
bytes-write memory at bytes all new =
    bytes-append (take at memory ++ bytes) (drop (at + length bytes) memory)
    (bytes-append (take at memory) bytes (bytes-take at memory all) new)
    (bytes-drop (at + length bytes) memory all)

byte_below : (i number : ℕ) → byte_at i number < 2 ^ 8
byte_below zero number = omega arith
byte_below (suc i) number = omega arith

low_bytes : (from count number : ℕ) (i : ℕ) → slice_index (bytes_low_first from count number) i < 2 ^ 8
low_bytes from zero number i = omega arith
low_bytes from (suc count) number zero = byte_below from number
low_bytes from (suc count) number (suc i) = low_bytes (suc from) count number i

pub bytes-store : (memory : List FrameByte) (at count number : ℕ) → HoldBytes memory → HoldBytes (store memory at count number)
bytes-store memory at count number all =
    subst HoldBytes (sym (store_is_write memory at count number))
    (bytes-write memory at (map Byte (bytes_low_first 0 count number)) all
    (bytes-map (bytes_low_first 0 count number) (low_bytes 0 count number)))

-- bytes that are all written represent a number

pub all_written-part : (memory : List FrameByte) (at count : ℕ) → ((i : ℕ) → at ≤ i → i < at + count → IsTrue (is_written memory i))
    → IsTrue (all_written (take count (drop at memory)))
all_written-part memory zero zero written = refl
all_written-part [] zero (suc count) written = refl
all_written-part (Unwritten ∷ memory) zero (suc count) written = absurd (false≢true (written 0 (omega arith) (omega arith)))
all_written-part (Byte byte ∷ memory) zero (suc count) written =
    all_written-part memory zero count (λ i above below. written (suc i) (omega arith) (omega arith))
all_written-part [] (suc at) zero written = refl
all_written-part [] (suc at) (suc count) written = refl
all_written-part (byte ∷ memory) (suc at) count written = all_written-part memory at count
    (λ i above below. written (suc i) (omega arith) (omega arith))

-- `count` bytes represent a number of that length
pub record HaveNumber (bytes : List FrameByte) (count : ℕ) : Type 0 where
  pub number : ℕ
  pub is : number_of bytes ≡ Some number
  pub below : number < 256 ^ count

number_more : (byte : ℕ) (bytes : List FrameByte) (count : ℕ) → byte < 2 ^ 8 → HaveNumber bytes count
    → HaveNumber (Byte byte ∷ bytes) (suc count)
number_more byte bytes count small rest = record {
  number = byte + 256 * rest.number;
  is = ap (option_map (λ rest. byte + 256 * rest)) rest.is;
  below = let below = fits_more byte rest.number count small rest.below in
      subst (λ (n : ℕ). byte + 256 * rest.number < 256 ^ n) (omega arith) below;
}

pub part_has_number : (memory : List FrameByte) (at count : ℕ) → HoldBytes memory → at + count ≤ length memory
    → ((i : ℕ) → at ≤ i → i < at + count → IsTrue (is_written memory i)) → HaveNumber (take count (drop at memory)) count
part_has_number memory zero zero all within written = record { number = 0; is = refl; below = omega arith }
part_has_number [] zero (suc count) all within written = absurd (omega arith)
part_has_number (Unwritten ∷ memory) zero (suc count) all within written = absurd (false≢true (written 0 (omega arith) (omega arith)))
part_has_number (Byte byte ∷ memory) zero (suc count) all within written =
    number_more byte (take count memory) count (all zero)
    (part_has_number memory zero count (λ i. all (suc i)) (omega arith) (λ i above below. written (suc i) (omega arith) (omega arith)))
part_has_number [] (suc at) count all within written = absurd (omega arith)
part_has_number (byte ∷ memory) (suc at) count all within written =
    part_has_number memory at count (λ i. all (suc i)) (omega arith) (λ i above below. written (suc i) (omega arith) (omega arith))
