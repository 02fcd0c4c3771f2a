-- A code that reads only the record gives the same answer on segments with the same record: each step leads to the same configuration.
use Rattle.std.proofs.Common.{◌≡◌, ℕ, ◌+◌, ◌-◌, ◌==◌, Bool, true, false, IsTrue, List, [], ◌∷◌, length, nat_lt, Option, Some, None}
use Rattle.std.proofs.Common.{IfSome, Result, Ok, if◌then◌else◌, refl, ap, ◌∙◌, subst}
use Rattle.std.specs.Int.{cast_unsigned, w32}
use Rattle.std.proofs.lemmas.Bool.{and_parts}
use Rattle.bpf_insn.specs.Code.{instruction_at, spelling}
use Rattle.bpf_insn.specs.declared.instruction.Insn.{Insn}
use Rattle.tl_segments.specs.Segment.{SegmentParts}
use Rattle.bpf_helpers.specs.Call.{bytes_read, second}
use Rattle.bpf_helpers.specs.Helper as helper
use Rattle.bpf_helpers.specs.Helper.{by_number, signature}
use Rattle.bpf_helpers.specs.Group.{frame_use}
use Rattle.bpf_helpers.specs.declared.helper.Helper.{Helper}
use Rattle.bpf_helpers.proofs.RecordLemmas.{calls_alike}
use Rattle.bpf_meaning.specs.Memory.{written_bytes}
use Rattle.bpf_meaning.specs.State.{start}
use Rattle.bpf_meaning.specs.Effect.{arguments_in, call_change, effect_of, instruction_effect, lend_frame, ◌>>=◌}
use Rattle.bpf_meaning.specs.Step.{Configuration, Running, after, carry_out, next_of, state_after}
use Rattle.bpf_meaning.specs.Run.{Answers, FollowSteps}
use Rattle.bpf_meaning.specs.RecordAlone.{call_reads_record_alone, instruction_reads_record_alone, reads_record_alone}
use Rattle.bpf_meaning.specs.declared.cause.Cause.{Cause}
use Rattle.bpf_meaning.specs.declared.effect.Change.{Change}
use Rattle.bpf_meaning.specs.declared.effect.Change.TheVariants.{CallHelper}
use Rattle.bpf_meaning.specs.declared.effect.Effect.{Effect}
use Rattle.bpf_meaning.specs.declared.effect.Effect.TheVariants.{Continue}
use Rattle.bpf_meaning.specs.declared.state.State.{State}
use Rattle.bpf_meaning.proofs.EffectLemmas.{ContinuesWith, ChangesSatisfy, effect_satisfies}
use Rattle.bpf_meaning.proofs.CallLemmas.{IfPasses, then_passes}

-- an instruction of a code that reads only the record reads only the record

abbrev FoundAlone : Option Insn → Type 0
FoundAlone found = IfSome found (λ insn. IsTrue (instruction_reads_record_alone insn))

first_or_later : (insn : Insn) (later : Option Insn) (begins inside : Bool) → IsTrue (instruction_reads_record_alone insn)
    → FoundAlone later → FoundAlone (if begins then Some insn else (if inside then None else later))
first_or_later insn later true inside first rest = first
first_or_later insn later false true first rest = tt
first_or_later insn later false false first rest = rest

found_alone : (code : List Insn) (place : ℕ) → IsTrue (reads_record_alone code) → FoundAlone (instruction_at code place)
found_alone [] place alone = tt
found_alone (insn ∷ code) place alone =
    let each = and_parts (instruction_reads_record_alone insn) (reads_record_alone code) alone in
    let later = place - length (spelling insn) in
    first_or_later insn (instruction_at code later) (place == 0) (nat_lt place (length (spelling insn))) each.0
    (found_alone code later each.1)

-- a change by such an instruction: a helper function that it calls reads only the record
abbrev IsOfRecord : Change → Type 0
IsOfRecord (CallHelper called arguments) = IsTrue (helper.reads_record_alone called)
IsOfRecord change = Unit {0}

call_of_record : (state : State) (found : Option Helper) → IsTrue (call_reads_record_alone found)
    → IfPasses IsOfRecord (call_change state found)
call_of_record state None alone = tt
call_of_record state (Some called) alone =
    then_passes IsOfRecord (arguments_in state (signature called).arguments >>= lend_frame state (frame_use (signature called).group))
    (λ arguments. Ok (CallHelper called arguments)) (λ arguments. alone)

changes_of_record : (state : State) (insn : Insn) → IsTrue (instruction_reads_record_alone insn) → ChangesSatisfy state insn IsOfRecord
changes_of_record state insn alone = record {
  nothing = tt;
  set = λ register value. tt;
  store_bytes = λ from size number inside. tt;
  store_pointer = λ from size pointer slot is inside. tt;
  call = λ immediate is. call_of_record state (by_number (cast_unsigned w32 immediate))
      (subst (λ (x : Insn). IsTrue (instruction_reads_record_alone x)) is alone);
}

-- an instruction has the same effect on segments with the same record: no check reads the segment, except for loads, which read the record

rows_alike : (code : List Insn) (segment other : SegmentParts) (state : State) (next : ℕ) (insn : Insn) → segment.bytes ≡ other.bytes
    → instruction_effect code segment state next insn ≡ instruction_effect code other state next insn
rows_alike code segment other state next insn same = ap
    (λ (bytes : List ℕ). instruction_effect code (record segment { bytes = bytes }) state next insn) same

-- such a change results in the same state on both segments

changes_alike : (segment other : SegmentParts) (state : State) (change : Change) → IsOfRecord change → segment.bytes ≡ other.bytes
    → carry_out segment state change ≡ carry_out other state change
changes_alike segment other state (CallHelper called arguments) is same =
    ap (state_after state (second arguments))
    (calls_alike called segment other arguments (written_bytes
    (bytes_read (frame_use (signature called).group) arguments state.frame.bytes)) state.score is same)
changes_alike segment other state change is same = refl

applied_alike : (segment other : SegmentParts) (state : State) (result : Result Effect Cause) → IfPasses (ContinuesWith IsOfRecord) result
    → segment.bytes ≡ other.bytes → next_of segment state result ≡ next_of other state result
applied_alike segment other state (Ok (Continue change place)) is same =
    ap (λ (there : State). Running (record there { place = place })) (changes_alike segment other state change is same)
applied_alike segment other state result is same = refl

-- so a step leads to the same configuration

found_alike : (code : List Insn) (segment other : SegmentParts) (state : State) (found : Option Insn) → FoundAlone found
    → segment.bytes ≡ other.bytes → next_of segment state (effect_of code segment state found) ≡ next_of other state
    (effect_of code other state found)
found_alike code segment other state None alone same = refl
found_alike code segment other state (Some insn) alone same =
    let next = state.place + length (spelling insn) in
    applied_alike segment other state (instruction_effect code segment state next insn)
    (effect_satisfies code segment state next IsOfRecord insn (changes_of_record state insn alone)) same
    ∙ ap (next_of other state) (rows_alike code segment other state next insn same)

pub steps_alike : (code : List Insn) (segment other : SegmentParts) (state : State) → IsTrue (reads_record_alone code)
    → segment.bytes ≡ other.bytes → after code segment state ≡ after code other state
unfolding after
steps_alike code segment other state alone same =
    found_alike code segment other state (instruction_at code state.place) (found_alone code state.place alone) same

-- and a run on one segment is a run on the other
pub runs_alike : (code : List Insn) (segment other : SegmentParts) (from : Configuration) (run : List Configuration)
    → IsTrue (reads_record_alone code) → segment.bytes ≡ other.bytes → FollowSteps code segment from run → FollowSteps code other from run
runs_alike code segment other from [] alone same follow = tt
runs_alike code segment other (Running state) (next ∷ run) alone same follow =
    (follow.0 ∙ steps_alike code segment other state alone same, runs_alike code segment other next run alone same follow.1)
runs_alike code segment other ended (next ∷ run) alone same follow = absurd follow.0

pub answers_alike : (code : List Insn) (segment other : SegmentParts) (answer score : ℕ) → IsTrue (reads_record_alone code)
    → segment.bytes ≡ other.bytes → Answers code segment answer score → Answers code other answer score
answers_alike code segment other answer score alone same answers = record {
  run = answers.run;
  is_run = runs_alike code segment other (Running start) answers.run alone same answers.is_run;
  exits = answers.exits;
}
