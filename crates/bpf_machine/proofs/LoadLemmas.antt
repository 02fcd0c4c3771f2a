-- The number that bytes represent, read byte by byte and at once.
use Rattle.std.proofs.Common.{◌≡◌, ℕ, zero, suc, ◌+◌, ◌*◌, ◌≤◌, List, [], ◌∷◌, length, take, drop, get_or, refl, sym, ap, ◌∙◌, arith}
use Rattle.std.specs.Prelude.{slice_index}
use Rattle.std.proofs.lemmas.List.{length-take-le, length-drop}
use Rattle.byteorder.specs.Endian.{little_from, little_number}
use Rattle.bpf_machine.specs.Words.{number_of}

-- bytes after the first one
little_from-cons : (count at byte : ℕ) (bytes : List ℕ) → little_from (suc at) count (byte ∷ bytes) ≡ little_from at count bytes
little_from-cons zero at byte bytes = refl
little_from-cons (suc count) at byte bytes = ap (λ (n : ℕ). slice_index bytes at + 256 * n) (little_from-cons count (suc at) byte bytes)

all_of : (count : ℕ) (bytes : List ℕ) → length bytes ≡ count → number_of bytes ≡ little_number count bytes
all_of zero [] same = refl
all_of (suc count) (byte ∷ bytes) same = ap (λ (n : ℕ). byte + 256 * n) (all_of count bytes (omega arith) ∙ sym (little_from-cons count 0 byte bytes))
all_of count bytes same = absurd (omega arith)

pub some_bytes : (bytes : List ℕ) (at count : ℕ) → at + count ≤ length bytes
    → number_of (take count (drop at bytes)) ≡ little_number count (take count (drop at bytes))
some_bytes bytes at count within = all_of count (take count (drop at bytes))
    (length-take-le count (drop at bytes) (let rest = length-drop at bytes in omega arith))

pub one_byte : (bytes : List ℕ) (at : ℕ) → at + 1 ≤ length bytes → number_of (take 1 (drop at bytes)) ≡ get_or bytes at 0
one_byte [] at within = absurd (omega arith)
one_byte (byte ∷ bytes) zero within = omega arith
one_byte (byte ∷ bytes) (suc at) within = one_byte bytes at (omega arith)
