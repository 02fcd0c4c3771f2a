-- What a run of a filter's program does at calls.
use Rattle.std.proofs.Common.{◌≡◌, ℕ, ◌+◌, ◌-◌, ◌<◌, ◌^◌, true, is_some, [], ◌∷◌, length, Some, refl, sym, ap, ◌∙◌, arith}
use Rattle.std.proofs.lemmas.Bool.Decides.{nat_tests}
use Rattle.bpf_helpers.proofs.WriteLemmas.{write-nothing}
use Rattle.bpf_helpers.specs.Meaning.{coordinate, field_number, or_zero, sides, truth}
use Rattle.bpf_helpers.specs.declared.helper.Helper.TheVariants as helper
use Rattle.bpf_insn.specs.Code.{instruction_at}
use Rattle.bpf_insn.specs.Frame.{FrameContents}
use Rattle.bpf_insn.specs.declared.memory.TheConstants.{FRAME_LENGTH}
use Rattle.bpf_insn.specs.declared.value.Value.TheVariants as value
use Rattle.bpf_kinds.specs.Interval.{between}
use Rattle.bpf_meaning.specs.Effect.{continue_with, instruction_effect, is_allowed}
use Rattle.bpf_meaning.specs.Memory.{write_bytes}
use Rattle.bpf_meaning.specs.Step.{after, next_of}
use Rattle.bpf_meaning.specs.declared.effect.Change.TheVariants.{CallHelper}
use Rattle.tl_segments.specs.Segment.{ranges_of}
use Rattle.std.specs.Prelude.{slice_get}
use Rattle.cql2_code.specs.Layout.{call}
use Rattle.cql2_code.proofs.Steps.{with_1, with_2, Begins, Does, Scratch, Setting, after_at, changes, continues_at, running, state}

-- after a call, register 0 holds the answer, and registers 1 to 5 hold nothing

-- a call that writes nothing keeps the frame's length
pub nothing_written : (frame : FrameContents) (at : ℕ) → length frame.bytes ≡ FRAME_LENGTH
    → length (write_bytes frame at []).bytes ≡ FRAME_LENGTH
nothing_written frame at whole = ap length (write-nothing frame.bytes at) ∙ whole

-- the registers and the frame after a call, by its answer and its second argument
abbrev pub answered : Scratch → ℕ → ℕ → Scratch
answered from answer second = record {
  v0 = value.Number answer;
  v1 = value.Empty;
  v2 = value.Empty;
  v3 = value.Empty;
  v4 = value.Empty;
  v5 = value.Empty;
  v7 = from.v7;
  v8 = from.v8;
  v9 = from.v9;
  frame = write_bytes from.frame second [];
  whole = nothing_written from.frame second from.whole;
}

pub calls_field : (on : Setting) (from : Scratch) (id : ℕ) → is_allowed (between 0 16) id ≡ true
    → Does on (call helper.Field) (with_1 from id) (answered from (or_zero (field_number on.segment.bytes id)) 0)
calls_field on from id allowed =
    changes on (call helper.Field) (CallHelper helper.Field (id ∷ 0 ∷ 0 ∷ [])) (with_1 from id)
    (answered from (or_zero (field_number on.segment.bytes id)) 0) (λ place. rw allowed) (λ place next. refl)

pub calls_has : (on : Setting) (from : Scratch) (id : ℕ) → is_allowed (between 0 16) id ≡ true
    → Does on (call helper.HasField) (with_1 from id) (answered from (truth (is_some (field_number on.segment.bytes id))) 0)
calls_has on from id allowed =
    changes on (call helper.HasField) (CallHelper helper.HasField (id ∷ 0 ∷ 0 ∷ [])) (with_1 from id)
    (answered from (truth (is_some (field_number on.segment.bytes id))) 0) (λ place. rw allowed) (λ place next. refl)

pub calls_coordinate : (on : Setting) (from : Scratch) (id : ℕ) → is_allowed (between 0 3) id ≡ true
    → Does on (call helper.Coord) (with_1 from id) (answered from (coordinate on.segment.bytes id) 0)
calls_coordinate on from id allowed =
    changes on (call helper.Coord) (CallHelper helper.Coord (id ∷ 0 ∷ 0 ∷ [])) (with_1 from id)
    (answered from (coordinate on.segment.bytes id) 0) (λ place. rw allowed) (λ place next. refl)

pub calls_names : (on : Setting) (from : Scratch) → Does on (call helper.NameCount) from (answered from (length on.segment.names) 0)
calls_names on from =
    changes on (call helper.NameCount) (CallHelper helper.NameCount (0 ∷ 0 ∷ 0 ∷ [])) from (answered from (length on.segment.names) 0) (λ place. refl)
    (λ place next. refl)

pub calls_ranges : (on : Setting) (from : Scratch) → Does on (call helper.RangeCount) from (answered from (length (ranges_of on.segment)) 0)
calls_ranges on from =
    changes on (call helper.RangeCount) (CallHelper helper.RangeCount (0 ∷ 0 ∷ 0 ∷ [])) from (answered from (length (ranges_of on.segment)) 0) (λ place. refl)
    (λ place next. refl)

-- every 64-bit number is allowed
pub any_allowed : (number : ℕ) → number < 2 ^ 64 → is_allowed (between 0 (2 ^ 64 - 1)) number ≡ true
any_allowed number fits = grind (arith, nat_tests)

pub calls_in_range : (on : Setting) (from : Scratch) (range house : ℕ) → range < 2 ^ 64 → house < 2 ^ 64
    → Does on (call helper.InRange) (with_2 (with_1 from range) house) (answered from (sides house (slice_get (ranges_of on.segment) range)) house)
calls_in_range on from range house fits_range fits_house =
    changes on (call helper.InRange) (CallHelper helper.InRange (range ∷ house ∷ 0 ∷ [])) (with_2 (with_1 from range) house)
    (answered from (sides house (slice_get (ranges_of on.segment) range)) house)
    (λ place. rw (any_allowed range fits_range, any_allowed house fits_house)) (λ place next. refl)

-- the setting after the score is emitted
abbrev pub scored : Setting → ℕ → Setting
scored on score = record on { score = score }

pub calls_emit : (on : Setting) (from : Scratch) (number place : ℕ) → number < 2 ^ 64 → instruction_at on.code place ≡ Some (call helper.Emit)
    → Begins on.code (place + 1)
    → running (scored on number) (answered from 0 0) (place + 1) ≡ after on.code on.segment (state on (with_1 from number) place)
calls_emit on from number place fits at begins =
    let held : Scratch = with_1 from number in
    let change = CallHelper helper.Emit (number ∷ 0 ∷ 0 ∷ []) in
    let effect : instruction_effect on.code on.segment (state on held place) (place + 1) (call helper.Emit) ≡ continue_with on.code (place + 1) change =
    rw (any_allowed number fits) in
    sym
    (after_at on (state on held place) (call helper.Emit) at ∙ ap (next_of on.segment (state on held place)) effect
    ∙ continues_at on (state on held place) (place + 1) change begins)
