-- Calls of helper functions: what holds if their checks pass, and how they change the frame.
use Rattle.std.proofs.Common.{◌≡◌, ltb, ℕ, zero, suc, ◌+◌, ◌≤◌, ◌^◌, inl, inr, pos, Bool, true, false, ◌⊎◌, List, [], ◌∷◌, map, length}
use Rattle.std.proofs.Common.{get_or, Option, Some, None, Result, Ok, Err, if◌then◌else◌, refl, sym, ◌∙◌, subst, arith}
use Rattle.std.specs.Prelude.{IsTrue}
use Rattle.std.specs.Int.{cast_signed, w64}
use Rattle.std.proofs.lemmas.Bool.{false≢true, cases_lt}
use Rattle.std.proofs.lemmas.Bool.Decides.{nat_tests}
use Rattle.std.proofs.lemmas.Int.{to_z_pos}
use Rattle.std.proofs.lemmas.List.{length-map, length-replicate, length-take}
use Rattle.bpf_insn.specs.declared.value.Value.{Value}
use Rattle.bpf_insn.specs.declared.value.Value.TheVariants.{Number}
use Rattle.bpf_insn.specs.declared.memory.TheConstants.{FRAME_LENGTH, SLOTS}
use Rattle.bpf_kinds.specs.Interval.{Admits}
use Rattle.bpf_kinds.specs.declared.interval.Interval.{Interval}
use Rattle.tl_segments.specs.Segment.{SegmentParts, IsSegment}
use Rattle.bpf_helpers.specs.Call.{Meaning, Meets, LieWithin, bytes_read, call, does, meaning, second, group_of, third, write}
use Rattle.bpf_helpers.specs.Call.Meaning.{CopiesIntoFrame}
use Rattle.bpf_helpers.specs.Meaning.{first_bytes}
use Rattle.bpf_helpers.specs.Helper.{signature}
use Rattle.bpf_helpers.specs.Group.{frame_use}
use Rattle.bpf_helpers.proofs.CallLemmas.{group-is, three-required, written-bytes}
use Rattle.bpf_helpers.proofs.WriteLemmas.{length-write, write-nothing}
use Rattle.bpf_helpers.specs.declared.helper.Helper.{Helper}
use Rattle.bpf_helpers.specs.declared.signature.Argument.{Argument}
use Rattle.bpf_helpers.specs.declared.signature.Argument.TheVariants as argument
use Rattle.bpf_helpers.specs.declared.signature.FrameUse.{FrameUse}
use Rattle.bpf_helpers.specs.declared.signature.FrameUse.TheVariants as frame_use
use Rattle.bpf_helpers.specs.declared.signature.Group.{Group}
use Rattle.bpf_insn.specs.Frame.{FrameByte, FrameContents, Byte}
use Rattle.bpf_meaning.specs.Memory.{all_written, write_bytes, written_bytes}
use Rattle.bpf_meaning.specs.Effect.{read, argument_in, argument_word, arguments_in, is_allowed, lend_bytes, lend_frame, lend_written}
use Rattle.bpf_meaning.specs.Effect.{lie_within, call_change, call_helper, CanBeMade, CanBeCalled, ◌>>=◌}
use Rattle.bpf_meaning.specs.Step.{called, state_after}
use Rattle.bpf_meaning.specs.declared.cause.Cause.{Cause}
use Rattle.bpf_meaning.specs.declared.cause.Cause.TheVariants.{BadArgument, OutOfBounds, UnwrittenFrame}
use Rattle.bpf_meaning.specs.declared.state.State.{State}
use Rattle.bpf_meaning.proofs.FrameLemmas.{HoldBytes, bytes-map, bytes-write}
use Rattle.bpf_meaning.proofs.SlotLemmas.{PointersApart, apart-write_bytes, length-overwrite_slots}

-- a fact about the result of checks, if they pass

abbrev pub IfPasses : {A : Type 0} → (A → Type 0) → Result A Cause → Type 0
IfPasses P (Ok x) = P x
IfPasses P (Err cause) = Unit {0}

pub then_passes : {A B : Type 0} (P : B → Type 0) (result : Result A Cause) (f : A → Result B Cause) → ((x : A) → IfPasses P (f x))
    → IfPasses P (result >>= f)
then_passes P (Ok x) f all = all x
then_passes P (Err cause) f all = tt

-- the same, if the first checks also establish a fact
pub then_keeps : {A B : Type 0} (P : A → Type 0) (Q : B → Type 0) (result : Result A Cause) (f : A → Result B Cause) → IfPasses P result
    → ((x : A) → P x → IfPasses Q (f x)) → IfPasses Q (result >>= f)
then_keeps P Q (Ok x) f one all = all x one
then_keeps P Q (Err cause) f one all = tt

-- an argument that was checked meets the prototype

allowed_admits : (x : Interval) (n : ℕ) → is_allowed x n ≡ true → Admits x n
allowed_admits x n is = record { above = grind (arith, nat_tests); below = grind (arith, nat_tests) }

any_frame : (result : Result ℕ Cause) → IfPasses (Meets argument.Frame) result
any_frame (Ok n) = tt
any_frame (Err cause) = tt

word_meets : (number : ℕ) (required : Argument) (value : Value) → IfPasses (Meets required) (argument_word number required value)
word_meets number argument.Frame value = any_frame (argument_word number argument.Frame value)
word_meets number (argument.Number allowed) (Number n) = by_test (is_allowed allowed n) refl
  where
    by_test : (inside : Bool) → is_allowed allowed n ≡ inside → IfPasses (Meets (argument.Number allowed))
        (if inside then Ok n else Err (BadArgument number))
    by_test true is = allowed_admits allowed n is
    by_test false is = tt
word_meets number required value = tt

argument_meets : (state : State) (number : ℕ) (required : Argument) → IfPasses (Meets required) (argument_in state number required)
argument_meets state number argument.Unused = tt
argument_meets state number argument.Frame = then_passes (Meets argument.Frame) (read state number) _ (word_meets number argument.Frame)
argument_meets state number (argument.Number allowed) = then_passes (Meets (argument.Number allowed)) (read state number) _
    (word_meets number (argument.Number allowed))

-- each argument meets its requirement
pub record MatchPrototype (required : List Argument) (arguments : List ℕ) : Type 0 where
  pub count : length arguments ≡ 3
  pub each : (at : ℕ) → Meets (get_or required at argument.Unused) (get_or arguments at 0)

abbrev AreMetAt : List Argument → List ℕ → Type 0
AreMetAt required arguments = (at : ℕ) → Meets (get_or required at argument.Unused) (get_or arguments at 0)

none_met : AreMetAt [] []
none_met at = tt

more_met : (first : Argument) (required : List Argument) (word : ℕ) (arguments : List ℕ) → Meets first word → AreMetAt required arguments
    → AreMetAt (first ∷ required) (word ∷ arguments)
more_met first required word arguments one others zero = one
more_met first required word arguments one others (suc at) = others at

arguments_match : (state : State) (a b c : Argument) → IfPasses (MatchPrototype (a ∷ b ∷ c ∷ [])) (arguments_in state (a ∷ b ∷ c ∷ []))
arguments_match state a b c =
    then_keeps (Meets a) _ (argument_in state 1 a) _ (argument_meets state 1 a) (λ x one.
    then_keeps (Meets b) _ (argument_in state 2 b) _ (argument_meets state 2 b) (λ y two.
    then_keeps (Meets c) _ (argument_in state 3 c) _ (argument_meets state 3 c) (λ z three.
    record {
      count = refl;
      each = more_met a (b ∷ c ∷ []) x (y ∷ z ∷ []) one (more_met b (c ∷ []) y (z ∷ []) two (more_met c [] z [] three none_met));
    })))

-- lent bytes lie within the frame, and those that are read are written

pub word_inside : (at count bytes : ℕ) → lie_within (cast_signed w64 at) count bytes ≡ true → at + count ≤ bytes
word_inside at count bytes inside =
    elim (cases_lt at (2 ^ 63)) [
      | inl below ↦ let is : cast_signed w64 at ≡ pos at = to_z_pos w64 at below in pos_inside (rw is at inside)
      | inr above ↦ absurd (false≢true (sym (negative_outside above) ∙ inside))
    ]
  where
    pos_inside : lie_within (pos at) count bytes ≡ true → at + count ≤ bytes
    pos_inside within = grind (arith, nat_tests)

    negative_outside : 2 ^ 63 ≤ at → lie_within (cast_signed w64 at) count bytes ≡ false
    negative_outside above = let test : ltb at (2 ^ 63) ≡ false = grind (arith, nat_tests) in rw test refl

-- the arguments of a call whose checks passed
pub record IsLent (state : State) (required : List Argument) (frame : FrameUse) (arguments : List ℕ) : Type 0 where
  pub matches : MatchPrototype required arguments
  pub within : LieWithin frame arguments
  pub written : IsTrue (all_written (bytes_read frame arguments state.frame.bytes))

bytes_lent : (state : State) (required : List Argument) (arguments : List ℕ) → MatchPrototype required arguments
    → IfPasses (IsLent state required frame_use.Writes) (lend_bytes arguments)
bytes_lent state required arguments matches = by_test (lie_within (cast_signed w64 (second arguments)) (third arguments) FRAME_LENGTH) refl
  where
    by_test : (inside : Bool) → lie_within (cast_signed w64 (second arguments)) (third arguments) FRAME_LENGTH ≡ inside
        → IfPasses (IsLent state required frame_use.Writes) (if inside then Ok arguments else Err OutOfBounds)
    by_test true is = record { matches = matches; within = word_inside (second arguments) (third arguments) FRAME_LENGTH is; written = refl }
    by_test false is = tt

written_lent : (state : State) (required : List Argument) (arguments : List ℕ) → IsLent state required frame_use.Writes arguments
    → IfPasses (IsLent state required frame_use.Reads) (lend_written state arguments)
written_lent state required arguments lent = by_test (all_written (bytes_read frame_use.Reads arguments state.frame.bytes)) refl
  where
    by_test : (all : Bool) → all_written (bytes_read frame_use.Reads arguments state.frame.bytes) ≡ all
        → IfPasses (IsLent state required frame_use.Reads) (if all then Ok arguments else Err UnwrittenFrame)
    by_test true is = record { matches = lent.matches; within = lent.within; written = is }
    by_test false is = tt

frame_lent : (state : State) (required : List Argument) (frame : FrameUse) (arguments : List ℕ) → MatchPrototype required arguments
    → IfPasses (IsLent state required frame) (lend_frame state frame arguments)
frame_lent state required frame_use.Nothing arguments matches = record { matches = matches; within = tt; written = refl }
frame_lent state required frame_use.Writes arguments matches = bytes_lent state required arguments matches
frame_lent state required frame_use.Reads arguments matches =
    then_keeps (IsLent state required frame_use.Writes) _ (lend_bytes arguments) _ (bytes_lent state required arguments matches)
    (written_lent state required)

-- so a call whose checks passed can be made

abbrev required : Helper → ℕ → Argument
required helper at = get_or (signature helper).arguments at argument.Unused

prototype_matches : (state : State) (helper : Helper) → IfPasses (MatchPrototype (signature helper).arguments)
    (arguments_in state (signature helper).arguments)
prototype_matches state helper =
    subst (λ (all : List Argument). IfPasses (MatchPrototype all) (arguments_in state all)) (three-required helper)
    (arguments_match state (required helper 0) (required helper 1) (required helper 2))

can_be_called : (state : State) (helper : Helper) (arguments : List ℕ)
    → IsLent state (signature helper).arguments (frame_use (signature helper).group) arguments → CanBeCalled state helper arguments
can_be_called state helper arguments lent = record
    { meets = record { count = lent.matches.count; each = lent.matches.each; within = lent.within }; written = lent.written }

call_can_be_made : (state : State) (helper : Helper) → IfPasses (CanBeMade state) (call_helper state helper)
call_can_be_made state helper =
    then_keeps (IsLent state (signature helper).arguments (frame_use (signature helper).group)) (CanBeMade state)
    (arguments_in state (signature helper).arguments >>= lend_frame state (frame_use (signature helper).group)) _
    (then_keeps (MatchPrototype (signature helper).arguments) _ (arguments_in state (signature helper).arguments) _ (prototype_matches state helper)
    (frame_lent state (signature helper).arguments (frame_use (signature helper).group)))
    (can_be_called state helper)

pub called_can_be_made : (state : State) (found : Option Helper) → IfPasses (CanBeMade state) (call_change state found)
called_can_be_made state None = tt
called_can_be_made state (Some helper) = call_can_be_made state helper

-- what a call writes, if anything, lies within the frame

short_bytes : (count : ℕ) (name : Option (List ℕ)) → length (first_bytes count name) ≤ count
short_bytes count None = let long : length (first_bytes count None) ≡ count = length-replicate count 32 in omega arith
short_bytes count (Some name) = omega (arith, length-take count name)

does_inside : (m : Meaning) (segment : SegmentParts) (arguments bytes : List ℕ) (score : ℕ) → LieWithin (frame_use (group_of m)) arguments
    → ((does m segment arguments bytes score).written ≡ [])
    ⊎ (second arguments + length (does m segment arguments bytes score).written ≤ FRAME_LENGTH)
does_inside (CopiesIntoFrame copied) segment arguments bytes score within =
    inr (let short = short_bytes (third arguments) (copied segment arguments) in omega arith)
does_inside otherwise segment arguments bytes score within = inl refl

written_inside : (segment : SegmentParts) (helper : Helper) (arguments bytes : List ℕ) (score : ℕ)
    → LieWithin (frame_use (signature helper).group) arguments → ((call helper segment arguments bytes score).written ≡ [])
    ⊎ (second arguments + length (call helper segment arguments bytes score).written ≤ FRAME_LENGTH)
written_inside segment helper arguments bytes score within =
    does_inside (meaning helper) segment arguments bytes score
    (subst (λ (s : Group). LieWithin (frame_use s) arguments) (sym (group-is helper)) within)

-- the frame after a call
abbrev pub frame_after : SegmentParts → State → Helper → List ℕ → List FrameByte
frame_after segment state helper arguments = write state.frame.bytes (second arguments)
    (map Byte (called segment state helper arguments).written)

-- a fact about a frame still holds after a call, if writing bytes within the frame preserves it
after_call : (P : FrameContents → Type 0) (segment : SegmentParts) (state : State) (helper : Helper) (arguments : List ℕ)
    → CanBeCalled state helper arguments → P state.frame
    → ((at : ℕ) (bytes : List ℕ) → at + length bytes ≤ FRAME_LENGTH → P (write_bytes state.frame at bytes))
    → P (state_after state (second arguments) (called segment state helper arguments)).frame
after_call P segment state helper arguments can before within =
    elim (written_inside segment helper arguments (written_bytes
    (bytes_read (frame_use (signature helper).group) arguments state.frame.bytes)) state.score can.meets.within) [
      | inl none ↦
          subst (λ (bytes : List ℕ). P (write_bytes state.frame (second arguments) bytes)) (sym none)
          (subst (λ (bytes : List FrameByte). P (record { bytes = bytes; slots = state.frame.slots }))
          (sym (write-nothing state.frame.bytes (second arguments))) before)
      | inr inside ↦ within (second arguments) (called segment state helper arguments).written inside
    ]

pub length-frame_after : (segment : SegmentParts) (state : State) (helper : Helper) (arguments : List ℕ) → CanBeCalled state helper arguments
    → length state.frame.bytes ≡ FRAME_LENGTH → length (frame_after segment state helper arguments) ≡ FRAME_LENGTH
length-frame_after segment state helper arguments can long =
    after_call (λ frame. length frame.bytes ≡ FRAME_LENGTH) segment state helper arguments can long
    (λ at bytes within. let same = length-map bytes Byte in length-write state.frame.bytes (map Byte bytes) at (omega arith) ∙ long)

pub length-slots_after : (segment : SegmentParts) (state : State) (helper : Helper) (arguments : List ℕ) → CanBeCalled state helper arguments
    → length state.frame.slots ≡ SLOTS → length (state_after state (second arguments)
    (called segment state helper arguments)).frame.slots ≡ SLOTS
length-slots_after segment state helper arguments can long =
    after_call (λ frame. length frame.slots ≡ SLOTS) segment state helper arguments can long
    (λ at bytes within. length-overwrite_slots None state.frame.slots at (length bytes) (omega arith) ∙ long)

-- if pointers are kept apart from written bytes, they are so after a call
pub apart-frame_after : (segment : SegmentParts) (state : State) (helper : Helper) (arguments : List ℕ) → CanBeCalled state helper arguments
    → length state.frame.bytes ≡ FRAME_LENGTH → length state.frame.slots ≡ SLOTS → PointersApart state.frame
    → PointersApart (state_after state (second arguments) (called segment state helper arguments)).frame
apart-frame_after segment state helper arguments can whole long apart =
    after_call PointersApart segment state helper arguments can apart
    (λ at bytes within. apart-write_bytes state.frame at bytes (omega arith) (omega arith) apart)

-- if the frame holds bytes, it does so after a call
pub bytes-frame_after : (segment : SegmentParts) (state : State) (helper : Helper) (arguments : List ℕ) → IsSegment segment
    → CanBeCalled state helper arguments → HoldBytes state.frame.bytes → HoldBytes (frame_after segment state helper arguments)
bytes-frame_after segment state helper arguments is can all =
    let read = bytes_read (frame_use (signature helper).group) arguments state.frame.bytes in
    bytes-write state.frame.bytes (second arguments) (map Byte (called segment state helper arguments).written) all
    (bytes-map (called segment state helper arguments).written
    (written-bytes helper segment arguments (written_bytes read) state.score is can.meets).bytes)
