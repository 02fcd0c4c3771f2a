-- Loads from the record, from what the code reads to their meaning.
use Rattle.std.proofs.Common.{◌≡◌, ℕ, ℤ, List, length, map, take, drop, sym, ap, ◌∙◌, unsigned_abs, Bool, true, IsTrue, Option}
use Rattle.std.proofs.Common.{if◌then◌else◌, Err}
use Rattle.std.proofs.lemmas.List.{take-map, drop-map}
use Rattle.bpf_insn.specs.declared.instruction.LoadFormat.{LoadFormat}
use Rattle.bpf_insn.specs.Memory.{load_length}
use Rattle.bpf_insn.specs.Frame.{FrameByte, Byte, number_of}
use Rattle.bpf_meaning.specs.Effect.{load_bytes, lie_within, load_number}
use Rattle.bpf_meaning.specs.declared.cause.Cause.TheVariants.{OutOfBounds}

-- the number of bytes that lie within the memory
pub record IsNumberAt (format : LoadFormat) (memory : List FrameByte) (offset : ℤ) (found : Option ℕ) : Type 0 where
  pub at : ℕ
  pub place : at ≡ unsigned_abs offset
  pub count : ℕ
  pub is : count ≡ load_length format
  pub inside : IsTrue (lie_within offset count (length memory))
  pub number : found ≡ number_of (take count (drop at memory))

pub load_inside : (format : LoadFormat) (memory : List FrameByte) (offset : ℤ) {found : Option ℕ} → IsNumberAt format memory offset found
    → load_number format found ≡ load_bytes format memory offset
load_inside format memory offset found =
    let within : lie_within offset (load_length format) (length memory) ≡ true =
    ap (λ (n : ℕ). lie_within offset n (length memory)) (sym found.is) ∙ found.inside in
    ap (load_number format) (found.number ∙ ap (λ (n : ℕ). number_of (take n (drop found.at memory))) found.is
    ∙ ap (λ (n : ℕ). number_of (take (load_length format) (drop n memory))) found.place)
    ∙ sym (ap (λ (b : Bool). if b then load_number format (number_of (take (load_length format) (drop (unsigned_abs offset) memory))) else
    Err OutOfBounds) within)

-- a part of the record is a part of its bytes
pub part_of_record : (bytes : List ℕ) (at count k : ℕ) → k ≡ count
    → map Byte (take k (drop at bytes)) ≡ take count (drop at (map Byte bytes))
part_of_record bytes at count k is =
    ap (λ (n : ℕ). map Byte (take n (drop at bytes))) is ∙ sym (take-map Byte count (drop at bytes))
    ∙ ap (take count) (sym (drop-map Byte at bytes))
