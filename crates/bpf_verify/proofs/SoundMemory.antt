-- Loads and stores on kinds are sound.
use Rattle.std.proofs.Common.{◌≡◌, ◌≢◌, ℕ, zero, suc, ◌+◌, ◌*◌, ◌/◌, ◌^◌, ◌<◌, ◌≤◌, inl, inr, ℤ, pos, negsuc, ◌+ℤ◌, ◌≤ℤ◌, unsigned_abs}
use Rattle.std.proofs.Common.{Bool, true, false, IsTrue, List, [], ◌∷◌, length, map, take, drop, replicate, Option, Some, None, Result, Ok}
use Rattle.std.proofs.Common.{Err, if◌then◌else◌, refl, sym, ◌∙◌, ap, subst, arith}
use Rattle.std.specs.Ordering.{int_eq}
use Rattle.std.proofs.lemmas.Bool.{false≢true, cases_lt}
use Rattle.std.proofs.lemmas.Bool.Decides.{nat_tests}
use Rattle.std.proofs.lemmas.Int.{ints}
use Rattle.std.proofs.lemmas.List.{length-map, length-replicate}
use Rattle.std.specs.Int.{bytes_low_first}
use Rattle.bpf_insn.specs.declared.instruction.LoadFormat.{LoadFormat}
use Rattle.bpf_insn.specs.declared.instruction.StoreSize.{StoreSize}
use Rattle.bpf_insn.specs.declared.value.Area.{Area}
use Rattle.bpf_insn.specs.declared.value.Area.TheVariants as area
use Rattle.bpf_insn.specs.declared.value.Pointer.{Pointer as PointerParts}
use Rattle.bpf_insn.specs.declared.value.Value.{Value}
use Rattle.bpf_insn.specs.declared.value.Value.TheVariants as value
use Rattle.bpf_kinds.specs.Interval as interval
use Rattle.bpf_kinds.specs.Kind as kind
use Rattle.bpf_kinds.specs.Offsets.{Admits}
use Rattle.bpf_kinds.specs.Results.{load}
use Rattle.bpf_kinds.specs.declared.interval.Interval.{Interval}
use Rattle.bpf_kinds.specs.declared.kind.Kind.{Kind}
use Rattle.bpf_kinds.specs.declared.kind.Kind.TheVariants.{Number, Record, Frame, Nothing}
use Rattle.bpf_kinds.specs.declared.offsets.Offsets.{Offsets}
use Rattle.bpf_kinds.proofs.ResultLemmas.{load-admits}
use Rattle.bpf_meaning.specs.Effect as effect
use Rattle.bpf_meaning.specs.Effect.{◌>>=◌}
use Rattle.bpf_insn.specs.Frame.{FrameByte, Unwritten, Byte, FrameContents, is_written, number_of, slot_at, slot_bytes, slot_value, IsApart}
use Rattle.bpf_meaning.specs.Memory.{set_slot_pointer, store_number}
use Rattle.tl_segments.specs.Segment.{SegmentParts, IsSegment}
use Rattle.bpf_meaning.specs.Step.{carry_out}
use Rattle.bpf_meaning.specs.declared.cause.Cause.{Cause}
use Rattle.bpf_meaning.specs.declared.cause.Cause.TheVariants.{OutOfBounds, UnwrittenFrame}
use Rattle.bpf_meaning.specs.declared.effect.Change.{Change}
use Rattle.bpf_meaning.specs.declared.effect.Change.TheVariants.{StoreBytes, StorePointer}
use Rattle.bpf_insn.specs.Memory.{load_length, store_length}
use Rattle.bpf_insn.specs.declared.memory.TheConstants.{FRAME_LENGTH, SLOT_LENGTH, SLOTS}
use Rattle.tl_records.specs.declared.layout.TheConstants.{RECORD_LENGTH}
use Rattle.bpf_meaning.specs.declared.state.State.{State}
use Rattle.bpf_meaning.proofs.FrameLemmas.{HoldBytes, HaveNumber, bytes-map, part_has_number, stored_unchanged, is_written-store_inside}
use Rattle.bpf_insn.proofs.SlotLemmas.{slot_at-is}
use Rattle.bpf_meaning.proofs.SlotLemmas.{whole_slot_is_loaded, slot_value-store_number_apart, slot_value-store_slot}
use Rattle.bpf_meaning.proofs.SlotLemmas.{slot_value-set, slot_value-set_apart, is_written-pointer_before}
use Rattle.bpf_meaning.proofs.SlotLemmas.{is_written-pointer_after}
use Rattle.bpf_helpers.proofs.WriteLemmas.{length-write}
use Rattle.bpf_meaning.proofs.MemoryLemmas.{length-bytes_low_first, store_is_write}
use Rattle.bpf_meaning.proofs.WellFormedLemmas.{inside_ends}
use Rattle.bpf_frame.specs.FrameMap as map
use Rattle.bpf_frame.specs.FrameMap.{set_slot, slot_kind}
use Rattle.bpf_frame.proofs.AdmitLemmas.{set_slot_admits}
use Rattle.bpf_verify.specs.Transfer.{only_pointers, pointers_in, lie_within, all_marked, store_kind, kind_or, known_slot, load_area, load_from}
use Rattle.bpf_verify.specs.Transfer.{frame_offsets, storable, store_at, write_bytes}
use Rattle.bpf_verify.specs.LiftedState.{AdmitsState}
use Rattle.bpf_verify.specs.declared.memory.Pointers.{Pointers}
use Rattle.bpf_verify.specs.declared.abstract_state.AbstractState.{AbstractState}
use Rattle.bpf_verify.proofs.PointerLemmas.{ArePointers, record_pointers, frame_pointers}
use Rattle.bpf_verify.proofs.SoundMarks.{AreWritten, lies_within, marked_are_written, writes_admit}
use Rattle.bpf_meaning.specs.Checks.{Sound}
use Rattle.bpf_meaning.proofs.CheckLemmas.{then_sound, passes_if}
use Rattle.bpf_verify.proofs.SoundChecks.{HasValue, HasState, read_sound}

-- the base

-- a pointer into the area, at one of the offsets
pub record PointsWithin (pointers : Pointers) (pointer : PointerParts) : Type 0 where
  pub into : pointer.area ≡ pointers.area
  pub admits : Admits pointers.offsets pointer.offset

only_pointers_sound : (x : Kind) (v : Value) → HasValue x v → Sound PointsWithin (only_pointers x) (effect.only_pointer v)
only_pointers_sound (Record x) (value.Pointer pointer) has = record { into = has.admits.0; admits = has.admits.1 }
only_pointers_sound (Record x) v has = absurd has.admits
only_pointers_sound (Frame x) (value.Pointer pointer) has = record { into = has.admits.0; admits = has.admits.1 }
only_pointers_sound (Frame x) v has = absurd has.admits
only_pointers_sound x v has = tt

pub pointers_sound : (known : AbstractState) (state : State) → HasState known state → (base : ℕ)
    → Sound PointsWithin (pointers_in known base) (effect.pointer_in state base)
pointers_sound known state has base = then_sound HasValue PointsWithin _ _ _ _ (read_sound known state has base) only_pointers_sound

-- loads

-- bytes that lie within an area and are written can be loaded
load_inside : (load_format : LoadFormat) (bytes : List FrameByte) (from : ℤ) → HoldBytes bytes
    → effect.lie_within from (load_length load_format) (length bytes) ≡ true → AreWritten bytes from (load_length load_format)
    → Sound kind.Admits (Ok (Number (load load_format))) (effect.load_bytes load_format bytes from)
load_inside load_format bytes (pos at) hold within written =
    let part = part_has_number bytes at (load_length load_format) hold
    (inside_ends (pos at) (load_length load_format) (length bytes) within) written in
    rw (within, part.is) (load-admits load_format part.number part.below)
load_inside load_format bytes (negsuc n) hold within written = absurd (false≢true within)

-- all bytes of the record are written
record_written : (bytes : List ℕ) (i : ℕ) → i < length bytes → IsTrue (is_written (map Byte bytes) i)
record_written [] i below = absurd (omega arith)
record_written (byte ∷ bytes) zero below = refl
record_written (byte ∷ bytes) (suc i) below = record_written bytes i (omega arith)

part_written : (bytes : List ℕ) (from : ℤ) (count : ℕ) → effect.lie_within from count (length bytes) ≡ true
    → AreWritten (map Byte bytes) from count
part_written bytes (pos at) count within i above below = record_written bytes i
    (let inside = inside_ends (pos at) count (length bytes) within in omega arith)
part_written bytes (negsuc n) count within i above below = absurd (false≢true within)

record_sound : (segment : SegmentParts) → IsSegment segment → (load_format : LoadFormat) (x : Offsets) (at offset : ℤ) → Admits x at
    → Sound kind.Admits (if lie_within x offset (load_length load_format) RECORD_LENGTH then Ok
    (Number (load load_format)) else Err OutOfBounds) (effect.load_bytes load_format (map Byte segment.bytes) (at +ℤ offset))
record_sound segment is load_format x at offset admits = by_test (lie_within x offset (load_length load_format) RECORD_LENGTH) refl
  where
    by_test : (within : Bool) → lie_within x offset (load_length load_format) RECORD_LENGTH ≡ within
        → Sound kind.Admits (if within then Ok (Number (load load_format)) else Err OutOfBounds)
        (effect.load_bytes load_format (map Byte segment.bytes) (at +ℤ offset))
    by_test true within =
        let inside = lies_within x at offset (load_length load_format) RECORD_LENGTH admits within in
        load_inside load_format (map Byte segment.bytes) (at +ℤ offset) (bytes-map segment.bytes is.bytes.bytes)
        (subst (λ (n : ℕ). effect.lie_within (at +ℤ offset) (load_length load_format) n ≡ true)
        (sym (length-map segment.bytes Byte ∙ is.bytes.length)) inside)
        (part_written segment.bytes (at +ℤ offset) (load_length load_format)
        (subst (λ (n : ℕ). effect.lie_within (at +ℤ offset) (load_length load_format) n ≡ true) (sym is.bytes.length) inside))
    by_test false outside = tt

-- written bytes of the frame are loaded, even if they are a whole slot
load_written : (load_format : LoadFormat) (frame : FrameContents) (at : ℕ) → HoldBytes frame.bytes
    → at + load_length load_format ≤ length frame.bytes
    → ((i : ℕ) → at ≤ i → i < at + load_length load_format → IsTrue (is_written frame.bytes i))
    → Sound kind.Admits (Ok (Number (load load_format))) (effect.load_within load_format frame at)
load_written load_format frame at hold inside written = by_slot (slot_at at (load_length load_format)) refl
  where
    part : HaveNumber (take (load_length load_format) (drop at frame.bytes)) (load_length load_format)
    part = part_has_number frame.bytes at (load_length load_format) hold inside written

    by_slot : (found : Option ℕ) → slot_at at (load_length load_format) ≡ found
        → Sound kind.Admits (Ok (Number (load load_format))) (effect.load_within load_format frame at)
    by_slot None is = rw (is, part.is) (load-admits load_format part.number part.below)
    by_slot (Some slot) is =
        let whole = slot_at-is at (load_length load_format) slot is in
        let same : slot_bytes frame.bytes slot ≡ take (load_length load_format) (drop at frame.bytes) =
        ap (λ (n : ℕ). take n (drop (SLOT_LENGTH * slot) frame.bytes)) (sym whole.0)
        ∙ ap (λ (n : ℕ). take (load_length load_format) (drop n frame.bytes)) (sym whole.1) in
        let number : number_of (slot_bytes frame.bytes slot) ≡ Some part.number = ap number_of same ∙ part.is in
        rw (is, number)
        (subst (interval.Admits (load load_format)) (whole_slot_is_loaded load_format part.number whole.0)
        (load-admits load_format part.number part.below))

-- a known slot is the one at each of the offsets, since there is only one
known_slot_is : (x : Offsets) (at offset : ℤ) (count slot : ℕ) → Admits x at → known_slot x offset count ≡ Some slot
    → slot_at (unsigned_abs (at +ℤ offset)) count ≡ Some slot
known_slot_is x at offset count slot admits is = by_test (int_eq x.low x.high) refl is
  where
    only_one : (low high z : ℤ) → low ≤ℤ z → z ≤ℤ high → int_eq low high ≡ true → z ≡ low
    only_one low high z above below one = grind (arith, ints, nat_tests)

    by_test : (one : Bool) → int_eq x.low x.high ≡ one → (if one then slot_at (unsigned_abs (x.low +ℤ offset)) count else None) ≡ Some slot
        → slot_at (unsigned_abs (at +ℤ offset)) count ≡ Some slot
    by_test true one found = ap (λ (z : ℤ). slot_at (unsigned_abs (z +ℤ offset)) count)
        (only_one x.low x.high at admits.above admits.below one) ∙ found
    by_test false many found = cc

-- the contents of a slot are loaded, if their kind is known
kind_or_sound : (otherwise : Result Kind Cause) (k : Kind) (held : Value) → kind.Admits k held
    → Sound kind.Admits otherwise (effect.load_slot held) → Sound kind.Admits (kind_or otherwise k) (effect.load_slot held)
kind_or_sound otherwise Nothing held admits rest = rest
kind_or_sound otherwise (Number x) (value.Number n) admits rest = admits
kind_or_sound otherwise (Record x) (value.Pointer pointer) admits rest = admits
kind_or_sound otherwise (Frame x) (value.Pointer pointer) admits rest = admits
kind_or_sound otherwise k held admits rest = absurd admits

-- a load of bytes within the frame
module _ {known : AbstractState} {state : State} (has : HasState known state) (load_format : LoadFormat) {x : Offsets} {at : ℤ} (offset : ℤ)
    (admits : Admits x at) where
  within_sound : lie_within x offset (load_length load_format) FRAME_LENGTH ≡ true
      → unsigned_abs (at +ℤ offset) + load_length load_format ≤ length state.frame.bytes
      → Sound kind.Admits (load_area known load_format (record { area = area.Frame; offsets = x }) offset)
      (effect.load_within load_format state.frame (unsigned_abs (at +ℤ offset)))
  within_sound within inside =
      by_slot (known_slot x offset (load_length load_format)) refl
    where
      from : ℕ
      from = unsigned_abs (at +ℤ offset)

      by_marks : (marked : Bool) → all_marked known x offset (load_length load_format) ≡ marked
          → Sound kind.Admits (if marked then Ok (Number (load load_format)) else Err UnwrittenFrame)
          (effect.load_within load_format state.frame from)
      by_marks true marked =
          load_written load_format state.frame from has.bytes.frame inside
          (marked_are_written offset admits has (load_length load_format) within marked)
      by_marks false unmarked = tt

      bytes_sound : Sound kind.Admits (if all_marked known x offset (load_length load_format) then Ok
          (Number (load load_format)) else Err UnwrittenFrame) (effect.load_within load_format state.frame from)
      bytes_sound = by_marks (all_marked known x offset (load_length load_format)) refl

      by_slot : (found : Option ℕ) → known_slot x offset (load_length load_format) ≡ found
          → Sound kind.Admits (load_area known load_format (record { area = area.Frame; offsets = x }) offset)
          (effect.load_within load_format state.frame from)
      by_slot None none = rw (none) bytes_sound
      by_slot (Some slot) is =
          let here : slot_at from (load_length load_format) ≡ Some slot =
          known_slot_is x at offset (load_length load_format) slot admits is in
          let bytes : Sound kind.Admits (if all_marked known x offset (load_length load_format) then Ok
          (Number (load load_format)) else Err UnwrittenFrame) (effect.load_slot (slot_value state.frame slot)) =
          rw (here) at bytes_sound in
          rw (is, here) (kind_or_sound _ (slot_kind known.frame slot) (slot_value state.frame slot) (has.admits.frame.slots slot) bytes)

  frame_sound : Sound kind.Admits (load_from known load_format (record { area = area.Frame; offsets = x }) offset)
      (effect.load_frame load_format state.frame (at +ℤ offset))
  frame_sound = by_test (lie_within x offset (load_length load_format) FRAME_LENGTH) refl
    where
      by_test : (within : Bool) → lie_within x offset (load_length load_format) FRAME_LENGTH ≡ within
          → Sound kind.Admits (if within then load_area known load_format
          (record { area = area.Frame; offsets = x }) offset else Err OutOfBounds) (effect.load_frame load_format state.frame (at +ℤ offset))
      by_test true within =
          let inside : effect.lie_within (at +ℤ offset) (load_length load_format) (length state.frame.bytes) ≡ true =
          subst (λ (n : ℕ). effect.lie_within (at +ℤ offset) (load_length load_format) n ≡ true) (sym has.whole.frame)
          (lies_within x at offset (load_length load_format) FRAME_LENGTH admits within) in
          passes_if kind.Admits (load_area known load_format (record { area = area.Frame; offsets = x }) offset)
          (effect.load_within load_format state.frame (unsigned_abs (at +ℤ offset)))
          (effect.lie_within (at +ℤ offset) (load_length load_format) (length state.frame.bytes)) OutOfBounds inside
          (within_sound within
          (inside_ends (at +ℤ offset) (load_length load_format) (length state.frame.bytes) inside))
      by_test false outside = tt

-- a load from an area
module _ {segment : SegmentParts} {known : AbstractState} {state : State} (is : IsSegment segment) (has : HasState known state)
    (load_format : LoadFormat) where
  load_sound : (into : Area) (x : Offsets) (pointer : PointerParts) (offset : ℤ) → pointer.area ≡ into → Admits x pointer.offset
      → Sound kind.Admits (load_from known load_format (record { area = into; offsets = x }) offset)
      (effect.load_from segment state load_format pointer.area (pointer.offset +ℤ offset))
  load_sound area.Record x pointer offset into admits =
      subst (λ (a : Area). Sound kind.Admits (load_from known load_format (record { area = area.Record; offsets = x }) offset)
      (effect.load_from segment state load_format a (pointer.offset +ℤ offset))) (sym into)
      (record_sound segment is load_format x pointer.offset offset admits)
  load_sound area.Frame x pointer offset into admits =
      subst (λ (a : Area). Sound kind.Admits (load_from known load_format (record { area = area.Frame; offsets = x }) offset)
      (effect.load_from segment state load_format a (pointer.offset +ℤ offset))) (sym into)
      (frame_sound has load_format offset admits)

  pub load_from_sound : (pointers : Pointers) (pointer : PointerParts) (offset : ℤ) → PointsWithin pointers pointer
      → Sound kind.Admits (load_from known load_format pointers offset)
      (effect.load_from segment state load_format pointer.area (pointer.offset +ℤ offset))
  load_from_sound pointers pointer offset points = load_sound pointers.area pointers.offsets pointer offset points.into points.admits

-- stores

-- an offset plus another one
pub record IsFrom (offset : ℤ) (x : Offsets) (from : ℤ) : Type 0 where
  pub at : ℤ
  pub sum : from ≡ at +ℤ offset
  pub admits : Admits x at

pub from_sound : (into : Area) (x : Offsets) (pointer : PointerParts) (offset : ℤ) → pointer.area ≡ into → Admits x pointer.offset
    → Sound (IsFrom offset) (frame_offsets (record { area = into; offsets = x }))
    (effect.frame_offset pointer.area (pointer.offset +ℤ offset))
from_sound area.Record x pointer offset into admits = tt
from_sound area.Frame x pointer offset into admits =
    subst (λ (a : Area). Sound (IsFrom offset) (Ok x) (effect.frame_offset a (pointer.offset +ℤ offset))) (sym into)
    (record { at = pointer.offset; sum = refl; admits = admits })

-- the state after a change
abbrev pub Stores : SegmentParts → State → AbstractState → Change → Type 0
Stores segment state known change = AdmitsState known (carry_out segment state change)

-- the state after the bytes of a number are stored in the frame
abbrev stored : SegmentParts → State → ℤ → StoreSize → ℕ → State
stored segment state from size number = carry_out segment state (StoreBytes (unsigned_abs from) size number)

-- bytes of one slot aren't in another one
other_slot : (slot other : ℕ) → other ≢ slot → IsApart other (SLOT_LENGTH * slot) SLOT_LENGTH
other_slot slot other apart i above below same = apart (omega arith)

written_outside : (frame : FrameContents) (slot : ℕ) (pointer : PointerParts) (at : ℕ) → SLOT_LENGTH * slot + SLOT_LENGTH ≤ length frame.bytes
    → at / SLOT_LENGTH ≢ slot → is_written (set_slot_pointer frame slot pointer).bytes at ≡ is_written frame.bytes at
written_outside frame slot pointer at fits apart =
    elim (cases_lt at (SLOT_LENGTH * slot)) [
      | inl before ↦ is_written-pointer_before frame slot pointer at fits before
      | inr above ↦
          elim (cases_lt at (SLOT_LENGTH * slot + SLOT_LENGTH)) [
            | inl below ↦ absurd (apart (omega arith))
            | inr beyond ↦ is_written-pointer_after frame slot pointer at fits beyond
          ]
    ]

-- a frame keeps its length when it is written
length-stored : (frame : FrameContents) (at count number : ℕ) → at + count ≤ length frame.bytes
    → length (store_number frame at count number).bytes ≡ length frame.bytes
length-stored frame at count number fits =
    let low = map Byte (bytes_low_first 0 count number) in
    let long = length-map (bytes_low_first 0 count number) Byte in
    let count_is = length-bytes_low_first 0 count number in
    ap length (store_is_write frame.bytes at count number) ∙ length-write frame.bytes low at (omega arith)

length-set_slot_pointer : (frame : FrameContents) (slot : ℕ) (pointer : PointerParts) → SLOT_LENGTH * slot + SLOT_LENGTH ≤ length frame.bytes
    → length (set_slot_pointer frame slot pointer).bytes ≡ length frame.bytes
length-set_slot_pointer frame slot pointer fits = length-write frame.bytes (replicate SLOT_LENGTH Unwritten) (SLOT_LENGTH * slot)
    (let long = length-replicate {A = FrameByte} SLOT_LENGTH Unwritten in omega arith)

-- a slot that lies within the frame is one of its slots
slot_inside : (at count slot : ℕ) → slot_at at count ≡ Some slot → at + count ≤ FRAME_LENGTH → slot < SLOTS
slot_inside at count slot is within = let whole = slot_at-is at count slot is in let wide = whole.0 in let place = whole.1 in omega arith

-- the store of a pointer of a kind, into a slot if one is known
abbrev stores_kind : AbstractState → Offsets → ℤ → StoreSize → Kind → Option ℕ → Result AbstractState Cause
stores_kind known x offset size k found =
    storable found k >>= λ k. if lie_within x offset (store_length size) FRAME_LENGTH then Ok
    (store_kind known x offset (store_length size) k found) else Err OutOfBounds

-- what is stored in an admitted state
module _ (segment : SegmentParts) {known : AbstractState} {state : State} (has : HasState known state) where
  -- the bytes of a number
  number_written : {x : Offsets} {at : ℤ} (offset : ℤ) (size : StoreSize) (number : ℕ) → Admits x at
      → lie_within x offset (store_length size) FRAME_LENGTH ≡ true
      → AdmitsState (write_bytes known x offset (store_length size) (store_length size)) (stored segment state (at +ℤ offset) size number)
  number_written {x} {at} offset size number admits within =
      let inside = inside_ends (at +ℤ offset) (store_length size) FRAME_LENGTH
      (lies_within x at offset (store_length size) FRAME_LENGTH admits within) in
      let fits : unsigned_abs (at +ℤ offset) + store_length size ≤ length state.frame.bytes = (let whole = has.whole.frame in omega arith) in
      writes_admit offset admits (record { proper = has.proper; registers = has.admits.registers; frame = has.admits.frame })
      (store_length size) (store_length size) (store_length size) within (omega arith) (omega arith)
      (record {
        still_written = λ i written. stored_unchanged state.frame.bytes (unsigned_abs (at +ℤ offset)) (store_length size) number i fits written;
        written = λ i above below. is_written-store_inside state.frame.bytes (unsigned_abs (at +ℤ offset))
            (store_length size) number i fits above below;
        preserved = λ slot inside apart. slot_value-store_number_apart state.frame (unsigned_abs (at +ℤ offset))
            (store_length size) number slot fits inside has.whole.slots apart;
      })

  -- a number in a slot
  number_in_slot_sound : {k : Interval} (from : ℤ) (size : StoreSize) {slot : ℕ} (number : ℕ) → slot_at (unsigned_abs from) (store_length size) ≡ Some slot
      → unsigned_abs from + store_length size ≤ FRAME_LENGTH → HasValue (Number k) (value.Number number)
      → AdmitsState (record known { frame = set_slot known.frame slot (Number k) }) (stored segment state from size number)
  number_in_slot_sound {k} from size {slot} number is within holds =
      let whole = slot_at-is (unsigned_abs from) (store_length size) slot is in
      let below = slot_inside (unsigned_abs from) (store_length size) slot is within in
      let long = has.whole.frame in
      let fits : SLOT_LENGTH * slot + SLOT_LENGTH ≤ length state.frame.bytes = omega arith in
      let most = holds.admits.below in let high = holds.proper.fits in
      let small : number < 2 ^ 64 = omega arith in
      let after : FrameContents = store_number state.frame (SLOT_LENGTH * slot) SLOT_LENGTH number in
      let admitted : map.Admits (set_slot known.frame slot (Number k)) after =
      set_slot_admits after has.proper.frame has.admits.frame slot (Number k) below
      (let same = length-stored state.frame (SLOT_LENGTH * slot) SLOT_LENGTH number fits in omega arith) (λ e. cc)
      (λ i apart written. stored_unchanged state.frame.bytes (SLOT_LENGTH * slot) SLOT_LENGTH number i fits written)
      (λ other inside apart. slot_value-store_number_apart state.frame
      (SLOT_LENGTH * slot) SLOT_LENGTH number other fits inside has.whole.slots (other_slot slot other apart))
      (subst (kind.Admits (Number k)) (sym (slot_value-store_slot state.frame slot number fits small)) holds.admits) in
      record {
        registers = has.admits.registers;
        frame = subst (λ (n : ℕ). map.Admits (set_slot known.frame slot (Number k)) (store_number state.frame n (store_length size) number))
            (sym whole.1)
            (subst (λ (n : ℕ). map.Admits (set_slot known.frame slot (Number k)) (store_number state.frame (SLOT_LENGTH * slot) n number))
            (sym whole.0) admitted);
      }

  -- a pointer in a slot
  pointer_store_sound : {k : Kind} (slot : ℕ) (pointer : PointerParts)
      → slot < SLOTS → k ≢ Nothing → kind.Admits k (value.Pointer pointer)
      → AdmitsState (record known { frame = set_slot known.frame slot k }) (carry_out segment state (StorePointer slot pointer))
  pointer_store_sound {k} slot pointer below known_kind holds =
      let long = has.whole.frame in let many = has.whole.slots in
      let fits : SLOT_LENGTH * slot + SLOT_LENGTH ≤ length state.frame.bytes = omega arith in
      let after : FrameContents = set_slot_pointer state.frame slot pointer in
      record {
        registers = has.admits.registers;
        frame = set_slot_admits after has.proper.frame has.admits.frame slot k below
            (let same = length-set_slot_pointer state.frame slot pointer fits in omega arith) known_kind
            (λ i apart written. written_outside state.frame slot pointer i fits apart ∙ written)
            (λ other inside apart. slot_value-set_apart state.frame slot pointer other fits apart)
            (subst (kind.Admits k) (sym (slot_value-set state.frame slot pointer fits (omega arith))) holds);
      }

-- the same, from one of some offsets on
module _ (segment : SegmentParts) {known : AbstractState} {state : State} (has : HasState known state) {x : Offsets} {offset from : ℤ}
    (size : StoreSize) (is : IsFrom offset x from) where
  number_store_sound : {k : Interval} (number : ℕ) → lie_within x offset (store_length size) FRAME_LENGTH ≡ true → HasValue (Number k) (value.Number number)
      → AdmitsState (store_kind known x offset (store_length size) (Number k) (known_slot x offset (store_length size)))
      (stored segment state (is.at +ℤ offset) size number)
  number_store_sound {k} number within holds =
      by_slot (known_slot x offset (store_length size)) refl
    where
      by_slot : (found : Option ℕ) → known_slot x offset (store_length size) ≡ found
          → AdmitsState (store_kind known x offset (store_length size) (Number k) found) (stored segment state (is.at +ℤ offset) size number)
      by_slot None none = number_written segment has offset size number is.admits within
      by_slot (Some slot) found =
          number_in_slot_sound segment has (is.at +ℤ offset) size number (known_slot_is x is.at offset (store_length size) slot is.admits found)
          (inside_ends (is.at +ℤ offset) (store_length size) FRAME_LENGTH
          (lies_within x is.at offset (store_length size) FRAME_LENGTH is.admits within)) holds

  number_sound : {k : Interval} (number : ℕ) → HasValue (Number k) (value.Number number)
      → Sound (Stores segment state) (store_at known x offset size (Number k)) (effect.store_number from size number)
  number_sound {k} number holds =
      by_test (lie_within x offset (store_length size) FRAME_LENGTH) refl
    where
      after : AbstractState
      after = store_kind known x offset (store_length size) (Number k) (known_slot x offset (store_length size))

      by_test : (within : Bool) → lie_within x offset (store_length size) FRAME_LENGTH ≡ within
          → Sound (Stores segment state) (if within then Ok after else Err OutOfBounds) (effect.store_number from size number)
      by_test true within =
          let inside = lies_within x is.at offset (store_length size) FRAME_LENGTH is.admits within in
          subst (λ (z : ℤ). Sound (Stores segment state) (Ok after) (effect.store_number z size number)) (sym is.sum)
          (passes_if (Stores segment state) (Ok after) (Ok (StoreBytes (unsigned_abs (is.at +ℤ offset)) size number))
          (effect.lie_within (is.at +ℤ offset) (store_length size) FRAME_LENGTH) OutOfBounds inside
          (number_store_sound number within holds))
      by_test false outside = tt

  pointer_sound : {k : Kind} (pointer : PointerParts) → kind.Admits k (value.Pointer pointer) → ArePointers k
      → Sound (Stores segment state) (store_at known x offset size k) (effect.store_pointer from size pointer)
  pointer_sound {k} pointer holds pointers =
      by_slot (known_slot x offset (store_length size)) refl
    where
      into_slot : (slot : ℕ) → slot_at (unsigned_abs (is.at +ℤ offset)) (store_length size) ≡ Some slot → (within : Bool)
          → lie_within x offset (store_length size) FRAME_LENGTH ≡ within
          → Sound (Stores segment state) (if within then Ok (record known { frame = set_slot known.frame slot k }) else Err OutOfBounds)
          (if effect.lie_within (is.at +ℤ offset) (store_length size) FRAME_LENGTH then Ok
          (StorePointer slot pointer) else Err OutOfBounds)
      into_slot slot here true within =
          let inside = lies_within x is.at offset (store_length size) FRAME_LENGTH is.admits within in
          passes_if (Stores segment state) (Ok (record known { frame = set_slot known.frame slot k })) (Ok (StorePointer slot pointer))
          (effect.lie_within (is.at +ℤ offset) (store_length size) FRAME_LENGTH) OutOfBounds inside
          (pointer_store_sound segment has slot pointer
          (slot_inside _ _ slot here (inside_ends (is.at +ℤ offset) (store_length size) FRAME_LENGTH inside)) pointers.known holds)
      into_slot slot here false outside = tt

      by_slot : (found : Option ℕ) → known_slot x offset (store_length size) ≡ found
          → Sound (Stores segment state) (stores_kind known x offset size k found) (effect.store_pointer from size pointer)
      by_slot None none = rw (pointers.nowhere) tt
      by_slot (Some slot) known_here =
          let here = known_slot_is x is.at offset (store_length size) slot is.admits known_here in
          subst (λ (z : ℤ). Sound (Stores segment state) (stores_kind known x offset size k (Some slot)) (effect.store_pointer z size pointer))
          (sym is.sum)
          (rw (pointers.somewhere slot, here) (into_slot slot here (lie_within x offset (store_length size) FRAME_LENGTH) refl))

  pub store_at_sound : (k : Kind) (held : Value) → HasValue k held
      → Sound (Stores segment state) (store_at known x offset size k) (effect.store_at from size held)
  store_at_sound (Number k) (value.Number n) holds = number_sound n holds
  store_at_sound (Record k) (value.Pointer pointer) holds =
      pointer_sound pointer holds.admits (record_pointers k)
  store_at_sound (Frame k) (value.Pointer pointer) holds =
      pointer_sound pointer holds.admits (frame_pointers k)
  store_at_sound Nothing held holds = tt
  store_at_sound k held holds = absurd holds.admits
