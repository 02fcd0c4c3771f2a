-- The stores of a name into the frame, and the call that compares it.
use Rattle.std.proofs.Common.{◌≡◌, ℕ, zero, suc, ◌+◌, ◌-◌, ◌*◌, ◌<◌, ◌≤◌, ◌^◌, ℤ, pos, negsuc, ◌+ℤ◌, true, List, [], ◌∷◌, ◌++◌, length, map}
use Rattle.std.proofs.Common.{take, drop, refl, sym, ap, ◌∙◌, subst, arith, append_assoc, lit<, rules}
use Rattle.std.specs.Prelude.{slice_get, slice_index}
use Rattle.std.specs.Int.{bytes_low_first, cast_signed, w32}
use Rattle.std.proofs.Math.Seq.{take-add}
use Rattle.std.proofs.lemmas.List.{append-nil, drop_at, length-append, length-drop, length-map, length-take, map-append, take-append-drop}
use Rattle.std.proofs.lemmas.List.{take-append-le, take-map, take_at}
use Rattle.bpf_helpers.specs.Meaning.{is_name, truth}
use Rattle.bpf_helpers.specs.declared.helper.Helper.TheVariants as helper
use Rattle.bpf_helpers.proofs.WriteLemmas.{length-write}
use Rattle.bpf_insn.specs.Arithmetic.{immediate_operand}
use Rattle.bpf_insn.specs.Frame.{Byte, FrameByte, FrameContents}
use Rattle.bpf_insn.specs.declared.instruction.Insn.{Insn}
use Rattle.bpf_insn.specs.declared.instruction.Insn.TheVariants.{StoreImmediate}
use Rattle.bpf_insn.specs.declared.instruction.StoreSize.TheVariants as size
use Rattle.bpf_insn.specs.declared.memory.TheConstants.{FRAME_LENGTH}
use Rattle.bpf_insn.specs.declared.value.Area.TheVariants as area
use Rattle.bpf_insn.specs.declared.value.Value.{Value}
use Rattle.bpf_insn.specs.declared.value.Value.TheVariants as value
use Rattle.bpf_meaning.specs.Effect.{lie_within}
use Rattle.bpf_meaning.specs.Memory.{all_written, store, store_number, written_bytes}
use Rattle.bpf_meaning.specs.declared.effect.Change.TheVariants.{CallHelper, SetRegister, StoreBytes}
use Rattle.bpf_meaning.proofs.MemoryLemmas.{length-bytes_low_first, store_is_write}
use Rattle.tl_segments.specs.Range.{AreBytes}
use Rattle.tl_segments.specs.Segment.{names_of}
use Rattle.cql2_code.specs.Layout.{call, move_to_name, from_frame, store_name, store_word, into_argument_2}
use Rattle.cql2_code.specs.Question.{bytes_value}
use Rattle.cql2_code.proofs.Calls.{answered, any_allowed}
use Rattle.cql2_code.proofs.Operands.{word_bytes}
use Rattle.cql2_code.proofs.Steps.{Does, Runs, Scratch, Setting, changes, no_more, one_more, state, to_frame}

-- the frame after a word is stored

pub stored_whole : (memory : List FrameByte) (at number : ℕ) → at + 4 ≤ length memory → length (store memory at 4 number) ≡ length memory
stored_whole memory at number within =
    let low = bytes_low_first 0 4 number in
    let long = length-map low Byte ∙ length-bytes_low_first 0 4 number in
    ap length (store_is_write memory at 4 number) ∙ length-write memory (map Byte low) at (omega arith)

abbrev pub stored : (from : Scratch) (at number : ℕ) → at + 4 ≤ FRAME_LENGTH → Scratch
stored from at number within = record from {
  frame = store_number from.frame at 4 number;
  whole = stored_whole from.frame.bytes at number (subst (λ (n : ℕ). at + 4 ≤ n) (sym from.whole) within) ∙ from.whole;
}

-- a store of a word at an offset of the frame
stores : (on : Setting) (from : Scratch) (offset : ℤ) (at : ℕ) (number : ℤ) → pos FRAME_LENGTH +ℤ offset ≡ pos at
    → (within : at + 4 ≤ FRAME_LENGTH)
    → Does on (StoreImmediate size.Word from_frame offset number) from (stored from at (immediate_operand number) within)
stores on from offset at number is within =
    let lies : lie_within (pos at) 4 FRAME_LENGTH ≡ true = search rules in
    changes on (StoreImmediate size.Word from_frame offset number) (StoreBytes at size.Word (immediate_operand number)) from
    (stored from at (immediate_operand number) within)
    (λ place. rw (is, lies)) (λ place next. refl)

-- memory that holds bytes of a name at the name's offset
pub record Holds (memory : List FrameByte) (bytes : List ℕ) : Type 0 where
  pub front : List FrameByte
  pub rest : List FrameByte
  pub front_is : length front ≡ 480
  pub is : memory ≡ (front ++ map Byte bytes) ++ rest

holds_none : (memory : List FrameByte) → length memory ≡ FRAME_LENGTH → Holds memory []
holds_none memory whole = record {
  front = take 480 memory;
  rest = drop 480 memory;
  front_is = let long = length-take 480 memory in omega arith;
  is = sym (take-append-drop 480 memory) ∙ ap (λ (l : List FrameByte). l ++ drop 480 memory) (sym (append-nil (take 480 memory)));
}

-- four more bytes are stored
holds_more : (memory : List FrameByte) (bytes : List ℕ) (at number : ℕ) → at ≡ 480 + length bytes → Holds memory bytes
    → Holds (store memory at 4 number) (bytes ++ bytes_low_first 0 4 number)
holds_more memory bytes at number at_is holds = record {
  front = holds.front;
  rest = rest;
  front_is = holds.front_is;
  is = ap (λ (l : List FrameByte). l ++ low ++ rest) taken
      ∙ ap (λ (l : List FrameByte). l ++ rest)
      (append_assoc front (map Byte bytes) low
      ∙ ap (λ (l : List FrameByte). front ++ l) (sym (map-append Byte bytes (bytes_low_first 0 4 number))));
}
  where
    front : List FrameByte
    front = holds.front

    low : List FrameByte
    low = map Byte (bytes_low_first 0 4 number)

    rest : List FrameByte
    rest = drop (at + 4) memory

    long : length (front ++ map Byte bytes) ≡ at
    long = let whole = length-append front (map Byte bytes) in let name = length-map bytes Byte in let f = holds.front_is in omega arith

    taken : take at memory ≡ front ++ map Byte bytes
    taken = ap (take at) holds.is ∙ take_at (front ++ map Byte bytes) holds.rest at long

-- the bytes of a name that a call reads
pub name_read : (memory : List FrameByte) (bytes : List ℕ) → 30 ≤ length bytes → Holds memory bytes
    → take 30 (drop 480 memory) ≡ map Byte (take 30 bytes)
name_read memory bytes long holds =
    ap (λ (l : List FrameByte). take 30 (drop 480 l)) (holds.is ∙ append_assoc holds.front (map Byte bytes) holds.rest)
    ∙ ap (λ (l : List FrameByte). take 30 l) (drop_at holds.front (map Byte bytes ++ holds.rest) 480 holds.front_is)
    ∙ take-append-le 30 (map Byte bytes) holds.rest (let name = length-map bytes Byte in omega arith) ∙ take-map Byte 30 bytes

-- parts of a list of bytes are bytes

bytes_of_drop : (count : ℕ) (bytes : List ℕ) → ((i : ℕ) → slice_index bytes i < 2 ^ 8) → (i : ℕ) → slice_index (drop count bytes) i < 2 ^ 8
bytes_of_drop zero bytes fits i = fits i
bytes_of_drop (suc count) [] fits i = fits i
bytes_of_drop (suc count) (byte ∷ bytes) fits i = bytes_of_drop count bytes (λ j. fits (suc j)) i

bytes_of_take : (count : ℕ) (bytes : List ℕ) → ((i : ℕ) → slice_index bytes i < 2 ^ 8) → (i : ℕ) → slice_index (take count bytes) i < 2 ^ 8
bytes_of_take zero bytes fits i = omega arith
bytes_of_take (suc count) [] fits i = fits i
bytes_of_take (suc count) (byte ∷ bytes) fits zero = fits 0
bytes_of_take (suc count) (byte ∷ bytes) fits (suc i) = bytes_of_take count bytes (λ j. fits (suc j)) i

-- the number that stores a word of a name
abbrev word_number : ℕ → List ℕ → ℕ
word_number word required = immediate_operand (cast_signed w32 (bytes_value (take 4 (drop (4 * word) required))))

word_is : (required : List ℕ) (word : ℕ) → AreBytes 32 required → word < 8
    → bytes_low_first 0 4 (word_number word required) ≡ take 4 (drop (4 * word) required)
word_is required word sound small =
    let part = drop (4 * word) required in
    let whole = length-drop (4 * word) required in
    let long = length-take 4 part in
    let all = sound.length in
    word_bytes (take 4 part) (omega arith) (bytes_of_take 4 part (bytes_of_drop (4 * word) required sound.bytes))

-- stores that put a name into the frame and change nothing else
pub record Stores (on : Setting) (insns : List Insn) (from : Scratch) (required : List ℕ) : Type 0 where
  pub frame : FrameContents
  pub whole : length frame.bytes ≡ FRAME_LENGTH
  pub holds : Holds frame.bytes (take 32 required)
  pub runs : Runs on insns from (record from { frame = frame; whole = whole })

-- a word of the name, and then the later ones
stores_word : (on : Setting) (from : Scratch) (required : List ℕ) (word : ℕ) (rest : List Insn) → AreBytes 32 required
    → (word < 8) × (pos FRAME_LENGTH +ℤ negsuc (31 - 4 * word) ≡ pos (480 + 4 * word)) × Holds from.frame.bytes (take (4 * word) required)
    → ((next : Scratch) → Holds next.frame.bytes (take (4 * word + 4) required) → Stores on rest next required)
    → Stores on (store_word word required ∷ rest) from required
stores_word on from required word rest sound here more =
    record {
      frame = after.frame;
      whole = after.whole;
      holds = after.holds;
      runs = one_more (stores on from (negsuc (31 - 4 * word)) (480 + 4 * word) _ here.1 within) after.runs;
    }
  where
    within : 480 + 4 * word + 4 ≤ FRAME_LENGTH
    within = let small = here.0 in omega arith

    next : Scratch
    next = stored from (480 + 4 * word) (word_number word required) within

    count : 480 + 4 * word ≡ 480 + length (take (4 * word) required)
    count = let small = here.0 in let long = sound.length in let part = length-take (4 * word) required in omega arith

    longer : take (4 * word) required ++ bytes_low_first 0 4 (word_number word required) ≡ take (4 * word + 4) required
    longer = ap (λ (l : List ℕ). take (4 * word) required ++ l) (word_is required word sound here.0) ∙ sym (take-add (4 * word) 4 required)

    holds : Holds next.frame.bytes (take (4 * word + 4) required)
    holds = subst (Holds next.frame.bytes) longer
        (holds_more from.frame.bytes (take (4 * word) required) (480 + 4 * word) (word_number word required) count here.2)

    after : Stores on rest next required
    after = more next holds

stores_none : (on : Setting) (from : Scratch) (required : List ℕ) → Holds from.frame.bytes (take 32 required) → Stores on [] from required
stores_none on from required holds = record { frame = from.frame; whole = from.whole; holds = holds; runs = no_more }

pub name_stored : (on : Setting) (from : Scratch) (required : List ℕ) → AreBytes 32 required → Stores on (store_name required) from required
name_stored on from required sound =
    stores_word on from required 0 _ sound (lit< tt, refl, holds_none from.frame.bytes from.whole) (λ one h.
    stores_word on one required 1 _ sound (lit< tt, refl, h) (λ two h.
    stores_word on two required 2 _ sound (lit< tt, refl, h) (λ three h.
    stores_word on three required 3 _ sound (lit< tt, refl, h) (λ four h.
    stores_word on four required 4 _ sound (lit< tt, refl, h) (λ five h.
    stores_word on five required 5 _ sound (lit< tt, refl, h) (λ six h.
    stores_word on six required 6 _ sound (lit< tt, refl, h) (λ seven h.
    stores_word on seven required 7 _ sound (lit< tt, refl, h) (λ eight h.
    stores_none on eight required h))))))))

-- the call that compares a name with the first 30 bytes that are stored

all_written-bytes : (bytes : List ℕ) → all_written (map Byte bytes) ≡ true
all_written-bytes [] = refl
all_written-bytes (byte ∷ bytes) = all_written-bytes bytes

written_bytes-all : (bytes : List ℕ) → written_bytes (map Byte bytes) ≡ bytes
written_bytes-all [] = refl
written_bytes-all (byte ∷ bytes) = ap (λ (l : List ℕ). byte ∷ l) (written_bytes-all bytes)

-- a pointer to the name
abbrev pub to_name : Value
to_name = value.Pointer (record { area = area.Frame; offset = pos 480 })

abbrev pub name_arguments : Scratch → ℕ → Scratch
name_arguments from name = record from { v1 = value.Number name; v2 = to_name; v3 = value.Number 30 }

-- whether the segment's name with this index equals the bytes
abbrev pub equals : Setting → ℕ → List ℕ → ℕ
equals on name bytes = truth (is_name bytes (slice_get (names_of on.segment) name))

pub calls_name_is : (on : Setting) (from : Scratch) (name : ℕ) (bytes : List ℕ) → name < 2 ^ 64
    → take 30 (drop 480 from.frame.bytes) ≡ map Byte bytes
    → Does on (call helper.NameIs) (name_arguments from name) (answered from (equals on name bytes) 480)
calls_name_is on from name bytes fits reads =
    let written : all_written (take 30 (drop 480 from.frame.bytes)) ≡ true = ap all_written reads ∙ all_written-bytes bytes in
    let same : written_bytes (take 30 (drop 480 from.frame.bytes)) ≡ bytes = ap written_bytes reads ∙ written_bytes-all bytes in
    changes on (call helper.NameIs) (CallHelper helper.NameIs (name ∷ 480 ∷ 30 ∷ [])) (name_arguments from name) (answered from (equals on name bytes) 480)
    (λ place. rw (any_allowed name fits, written))
    (λ place next. ap (λ (read : List ℕ). state on (answered from (equals on name read) 480) next) same)

-- from the frame's end back to the name
pub moves_to_name : (on : Setting) (from : Scratch) → Does on move_to_name (record from { v2 = to_frame }) (record from { v2 = to_name })
moves_to_name on from =
    changes on move_to_name (SetRegister into_argument_2 to_name) (record from { v2 = to_frame }) (record from { v2 = to_name }) (λ place. refl)
    (λ place next. refl)
