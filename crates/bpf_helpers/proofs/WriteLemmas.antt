-- Memory over which bytes are written.
use Rattle.std.proofs.Common.{◌≡◌, ℕ, ◌+◌, ◌-◌, ◌<◌, ◌≤◌, List, [], ◌++◌, length, get_or, take, drop, Option, take_all, ap, sym, ◌∙◌, refl}
use Rattle.std.proofs.Common.{arith}
use Rattle.std.proofs.lemmas.Grind.{common_steps}
use Rattle.std.proofs.lemmas.Slice.{put_mid-paste}
use borrow.Rule.Slice.PartMut.{put_mid, mid_of}
use Rattle.bpf_helpers.specs.Call.{write}
use Rattle.bpf_helpers.specs.Meaning.{first_bytes}

-- writing no bytes changes nothing
pub write-nothing : {A : Type 0} (memory : List A) (at : ℕ) → write memory at [] ≡ memory
write-nothing memory at = grind (arith, common_steps)

pub none_written : (memory bytes : List ℕ) (at : ℕ) → bytes ≡ [] → write memory at bytes ≡ memory
none_written memory bytes at none = rw none (write-nothing memory at)

-- memory keeps its length
pub length-write : {A : Type 0} (memory bytes : List A) (at : ℕ) → at + length bytes ≤ length memory
    → length (write memory at bytes) ≡ length memory
length-write memory bytes at within = grind (arith, common_steps)

-- the bytes that are written
pub get_or-write : {A : Type 0} (memory bytes : List A) (at index : ℕ) (d : A) → at + length bytes ≤ length memory → index < length bytes
    → get_or (write memory at bytes) (at + index) d ≡ get_or bytes index d
get_or-write memory bytes at index d within inside = grind (arith, common_steps)

-- the bytes before them
pub get_or-write_before : {A : Type 0} (memory bytes : List A) (at index : ℕ) (d : A) → at + length bytes ≤ length memory → index < at
    → get_or (write memory at bytes) index d ≡ get_or memory index d
get_or-write_before memory bytes at index d within before = grind (arith, common_steps)

-- the bytes after them
pub get_or-write_after : {A : Type 0} (memory bytes : List A) (at index : ℕ) (d : A) → at + length bytes ≤ length memory
    → at + length bytes ≤ index → get_or (write memory at bytes) index d ≡ get_or memory index d
get_or-write_after memory bytes at index d within beyond = grind (arith, common_steps)

-- a part of memory that was written in place
put_mid-write : {A : Type 0} (memory bytes : List A) (at count : ℕ) → count ≡ length bytes
    → put_mid at count memory bytes ≡ write memory at bytes
put_mid-write {A} memory bytes at count same = put_mid-paste at count memory bytes bytes count refl refl same
    ∙ ap (λ (part : List A). take at memory ++ part ++ drop (at + count) memory) (take_all count bytes (omega arith)) ∙ rw same refl

-- a name's first bytes, copied into a part of memory
pub put_mid-first_bytes : {bytes : List ℕ} (memory : List ℕ) (name : Option (List ℕ)) (at count : ℕ) → at + count ≤ length memory
    → length bytes ≡ length (mid_of at (at + count - at) memory) → bytes ≡ first_bytes (length (mid_of at (at + count - at) memory)) name
    → put_mid at (at + count - at) memory bytes ≡ write memory at (first_bytes count name)
put_mid-first_bytes {bytes} memory name at count within fits is =
    let all : at + count - at ≡ count = omega arith in
    let long : length (mid_of at (at + count - at) memory) ≡ count = rw all (grind (arith, common_steps)) in
    put_mid-write memory bytes at (at + count - at) (all ∙ sym long ∙ sym fits) ∙ ap (write memory at) (is ∙ ap (λ (n : ℕ). first_bytes n name) long)
