-- What a run of a filter's program does at each instruction.
use Rattle.std.proofs.Common.{◌≡◌, ℕ, ◌+◌, ℤ, pos, Bool, true, false, is_some, List, [], ◌∷◌, ◌++◌, length, Option, Some, Ok, Err}
use Rattle.std.proofs.Common.{if◌then◌else◌, refl, sym, ap, ◌∙◌, subst, arith}
use Rattle.std.specs.Prelude.{◌+ℤ◌, int_le, nat_lt}
use Rattle.std.proofs.lemmas.Bool.{false≢true}
use Rattle.bpf_insn.specs.Arithmetic.{immediate_operand, condition_holds, wide_number}
use Rattle.bpf_insn.specs.Code.{instruction_at, spelling, word_count}
use Rattle.bpf_insn.specs.Frame.{FrameContents}
use Rattle.bpf_insn.specs.declared.instruction.Condition.{Condition}
use Rattle.bpf_insn.specs.declared.instruction.Insn.{Insn}
use Rattle.bpf_insn.specs.declared.instruction.Insn.TheVariants.{Exit, JumpIf, WideLoad}
use Rattle.bpf_insn.specs.Jump.{words}
use Rattle.bpf_insn.specs.declared.instruction.JumpDistance.TheVariants.{Short, Long}
use Rattle.bpf_insn.specs.declared.instruction.Source.{Source}
use Rattle.bpf_insn.specs.declared.instruction.Source.TheVariants.{Immediate, Register}
use Rattle.bpf_insn.specs.declared.instruction.Width.TheVariants.{Bits64}
use Rattle.bpf_insn.specs.declared.memory.TheConstants.{FRAME_LENGTH}
use Rattle.bpf_insn.specs.declared.value.Area.TheVariants as area
use Rattle.bpf_insn.specs.declared.value.Value.{Value}
use Rattle.bpf_insn.specs.declared.value.Value.TheVariants as value
use Rattle.bpf_insn.proofs.PlaceLemmas.{word_count-append, word_count-cons}
use Rattle.bpf_meaning.specs.Effect.{continue_at, continue_with, effect_of, instruction_effect}
use Rattle.bpf_meaning.specs.Run.{FollowSteps, last_of}
use Rattle.bpf_meaning.specs.Step.{Configuration, Running, Exited, after, carry_out, next_of}
use Rattle.bpf_meaning.specs.declared.cause.Cause.TheVariants.{IntoWide, OutOfProgram}
use Rattle.bpf_meaning.specs.declared.effect.Change.{Change}
use Rattle.bpf_meaning.specs.declared.effect.Change.TheVariants.{Nothing, SetRegister}
use Rattle.bpf_meaning.specs.declared.effect.Effect.TheVariants.{Continue}
use Rattle.bpf_meaning.specs.declared.state.State.{State}
use Rattle.tl_segments.specs.Segment.{SegmentParts}
use Rattle.cql2_code.specs.Layout.{copy, in_field, jump, move, from_result, from_argument_1, from_frame, into_result, into_argument_1, into_argument_2}
use Rattle.cql2_code.specs.Layout.{into_argument_3}

-- these instructions follow one another from a place
abbrev pub HasAt : List Insn → ℕ → List Insn → Type 0
HasAt code place [] = Unit {0}
HasAt code place (insn ∷ rest) = (instruction_at code place ≡ Some insn) × HasAt code (place + length (spelling insn)) rest

-- an instruction begins at a place
abbrev pub Begins : List Insn → ℕ → Type 0
Begins code place = is_some (instruction_at code place) ≡ true

-- a code that runs on a segment, with the score so far
pub record Setting : Type 0 where
  pub code : List Insn
  pub segment : SegmentParts
  pub score : ℕ

-- what a question's instructions change: registers 0 to 5 and 7 to 9, and the frame
pub record Scratch : Type 0 where
  pub v0 : Value
  pub v1 : Value
  pub v2 : Value
  pub v3 : Value
  pub v4 : Value
  pub v5 : Value
  pub v7 : Value
  pub v8 : Value
  pub v9 : Value
  pub frame : FrameContents
  pub whole : length frame.bytes ≡ FRAME_LENGTH

-- the same, with a number in one of the registers
abbrev pub with_0 : Scratch → ℕ → Scratch
with_0 scratch number = record scratch { v0 = value.Number number }

abbrev pub with_1 : Scratch → ℕ → Scratch
with_1 scratch number = record scratch { v1 = value.Number number }

abbrev pub with_2 : Scratch → ℕ → Scratch
with_2 scratch number = record scratch { v2 = value.Number number }

abbrev pub with_3 : Scratch → ℕ → Scratch
with_3 scratch number = record scratch { v3 = value.Number number }

-- pointers to the record's first byte and past the frame's last byte
abbrev pub to_record : Value
to_record = value.Pointer (record { area = area.Record; offset = pos 0 })

abbrev pub to_frame : Value
to_frame = value.Pointer (record { area = area.Frame; offset = pos FRAME_LENGTH })

-- the state at a place, with the record's pointer in register 6
abbrev pub state : Setting → Scratch → ℕ → State
state on scratch place = record {
  place = place;
  registers = scratch.v0 ∷ scratch.v1 ∷ scratch.v2 ∷ scratch.v3 ∷ scratch.v4 ∷ scratch.v5 ∷ to_record ∷ scratch.v7 ∷ scratch.v8
      ∷ scratch.v9 ∷ to_frame ∷ [];
  frame = scratch.frame;
  score = on.score;
}

abbrev pub running : Setting → Scratch → ℕ → Configuration
running on scratch place = Running (state on scratch place)

-- some run from one configuration reaches another
pub record Reaches (on : Setting) (from to : Configuration) : Type 0 where
  pub run : List Configuration
  pub follows : FollowSteps on.code on.segment from run
  pub ends : last_of from run ≡ to

pub stays : (on : Setting) (from : Configuration) → Reaches on from from
stays on from = record { run = []; follows = tt; ends = refl }

-- a step, followed by a run
pub steps_on : (on : Setting) (state : State) (next to : Configuration) → next ≡ after on.code on.segment state → Reaches on next to
    → Reaches on (Running state) to
steps_on on state next to is reaches = record { run = next ∷ reaches.run; follows = (is, reaches.follows); ends = reaches.ends }

-- one run after another
follow-append : (on : Setting) (from middle : Configuration) (run more : List Configuration) → FollowSteps on.code on.segment from run
    → last_of from run ≡ middle → FollowSteps on.code on.segment middle more → FollowSteps on.code on.segment from (run ++ more)
follow-append on from middle [] more f e g = subst (λ (c : Configuration). FollowSteps on.code on.segment c more) (sym e) g
follow-append on from middle (next ∷ run) more f e g = (f.0, follow-append on next middle run more f.1 e g)

last-append : (from middle : Configuration) (run more : List Configuration) → last_of from run ≡ middle
    → last_of from (run ++ more) ≡ last_of middle more
last-append from middle [] more e = ap (λ (c : Configuration). last_of c more) e
last-append from middle (next ∷ run) more e = last-append next middle run more e

pub and_on : (on : Setting) (from middle to : Configuration) → Reaches on from middle → Reaches on middle to → Reaches on from to
and_on on from middle to a b = record {
  run = a.run ++ b.run;
  follows = follow-append on from middle a.run b.run a.follows a.ends b.follows;
  ends = last-append from middle a.run b.run a.ends ∙ b.ends;
}

-- a prefix of the instructions at a place is there, and the others follow it

pub has_front : (code : List Insn) (place : ℕ) (a b : List Insn) → HasAt code place (a ++ b) → HasAt code place a
has_front code place [] b has = tt
has_front code place (insn ∷ a) b has = (has.0, has_front code (place + length (spelling insn)) a b has.1)

pub has_back : (code : List Insn) (place : ℕ) (a b : List Insn) → HasAt code place (a ++ b) → HasAt code (place + word_count a) b
has_back code place [] b has = let e : place ≡ place + 0 = omega arith in subst (λ (p : ℕ). HasAt code p b) e has
has_back code place (insn ∷ a) b has =
    let count = word_count-cons insn a in
    let e : place + length (spelling insn) + word_count a ≡ place + word_count (insn ∷ a) = omega arith in
    subst (λ (p : ℕ). HasAt code p b) e (has_back code (place + length (spelling insn)) a b has.1)

-- an instruction begins at the place after these instructions, or after none of them
pub begins_at : (code : List Insn) (place : ℕ) (insns : List Insn) → HasAt code place insns → Begins code (place + word_count insns)
    → Begins code place
begins_at code place [] has end = let e : place + 0 ≡ place = omega arith in subst (Begins code) e end
begins_at code place (insn ∷ rest) has end = ap is_some has.0

-- the next configuration, by the instruction at the place
pub after_at : (on : Setting) (from : State) (insn : Insn) → instruction_at on.code from.place ≡ Some insn
    → after on.code on.segment from
    ≡ next_of on.segment from (instruction_effect on.code on.segment from (from.place + length (spelling insn)) insn)
unfolding after
after_at on from insn at = ap (λ (found : Option Insn). next_of on.segment from (effect_of on.code on.segment from found)) at

-- continuing at a place where an instruction begins
pub continues_at : (on : Setting) (from : State) (place : ℕ) (change : Change) → Begins on.code place
    → next_of on.segment from (continue_with on.code place change) ≡ Running (record (carry_out on.segment from change) { place = place })
continues_at on from place change begins = by_test (is_some (instruction_at on.code place)) begins
  where
    by_test : (begins : Bool) → begins ≡ true
        → next_of on.segment from
        (if begins then Ok (Continue change place) else (if nat_lt place (word_count on.code) then Err IntoWide else Err OutOfProgram))
        ≡ Running (record (carry_out on.segment from change) { place = place })
    by_test true is = refl
    by_test false is = absurd (false≢true is)

-- an instruction continues with the next one, with other registers or another frame
pub record Does (on : Setting) (insn : Insn) (from to : Scratch) : Type 0 where
  pub step : (place : ℕ) → instruction_at on.code place ≡ Some insn → Begins on.code (place + length (spelling insn))
      → running on to (place + length (spelling insn)) ≡ after on.code on.segment (state on from place)

-- instructions run one after the other, to the place after them
pub record Runs (on : Setting) (insns : List Insn) (from to : Scratch) : Type 0 where
  pub reaches : (place : ℕ) → HasAt on.code place insns → Begins on.code (place + word_count insns)
      → Reaches on (running on from place) (running on to (place + word_count insns))

-- no instruction, and an instruction before others
pub no_more : {on : Setting} {scratch : Scratch} → Runs on [] scratch scratch
no_more {on} {scratch} = record {
  reaches = λ place has end.
      let e : place ≡ place + 0 = omega arith in
      subst (λ (p : ℕ). Reaches on (running on scratch place) (running on scratch p)) e (stays on (running on scratch place));
}

pub one_more : {on : Setting} {insn : Insn} {rest : List Insn} {from middle to : Scratch} → Does on insn from middle → Runs on rest middle to
    → Runs on (insn ∷ rest) from to
one_more {on} {insn} {rest} {from} {middle} {to} does more = record {
  reaches = λ place has end.
      let count = word_count-cons insn rest in
      let e : place + length (spelling insn) + word_count rest ≡ place + word_count (insn ∷ rest) = omega arith in
      let there : Begins on.code (place + length (spelling insn) + word_count rest) = subst (Begins on.code) (sym e) end in
      let next = begins_at on.code (place + length (spelling insn)) rest has.1 there in
      subst (λ (p : ℕ). Reaches on (running on from place) (running on to p)) e
      (steps_on on (state on from place) (running on middle (place + length (spelling insn))) _ (does.step place has.0 next)
      (more.reaches (place + length (spelling insn)) has.1 there));
}

-- two codes, one after the other
pub and_then : {on : Setting} {insns others : List Insn} {from middle to : Scratch} → Runs on insns from middle → Runs on others middle to
    → Runs on (insns ++ others) from to
and_then {on} {insns} {others} {from} {middle} {to} one two = record {
  reaches = λ place has end.
      let count = word_count-append insns others in
      let e : place + word_count insns + word_count others ≡ place + word_count (insns ++ others) = omega arith in
      let back = has_back on.code place insns others has in
      let there : Begins on.code (place + word_count insns + word_count others) = subst (Begins on.code) (sym e) end in
      let next = begins_at on.code (place + word_count insns) others back there in
      subst (λ (p : ℕ). Reaches on (running on from place) (running on to p)) e
      (and_on on _ (running on middle (place + word_count insns)) _ (one.reaches place (has_front on.code place insns others has) next)
      (two.reaches (place + word_count insns) back there));
}

-- an instruction with a change
pub changes : (on : Setting) (insn : Insn) (change : Change) (from to : Scratch)
    → ((place : ℕ) → instruction_effect on.code on.segment (state on from place) (place + length (spelling insn)) insn
    ≡ continue_with on.code (place + length (spelling insn)) change)
    → ((place next : ℕ)
    → let made : State = record (carry_out on.segment (state on from place) change) { place = next } in made ≡ state on to next)
    → Does on insn from to
changes on insn change from to effect made = record {
  step = λ place at begins.
      let next = place + length (spelling insn) in
      sym
      (after_at on (state on from place) insn at ∙ ap (next_of on.segment (state on from place)) (effect place)
      ∙ continues_at on (state on from place) next change begins ∙ ap (λ (s : State). Running s) (made place next));
}

-- moves and loads of numbers into registers

pub moves_0 : (on : Setting) (from : Scratch) (number : ℕ) → Does on (move into_result (pos number)) from (with_0 from number)
moves_0 on from number =
    changes on (move into_result (pos number)) (SetRegister into_result (value.Number number))
    from (with_0 from number) (λ place. refl) (λ place next. refl)

pub moves_1 : (on : Setting) (from : Scratch) (number : ℕ) → Does on (move into_argument_1 (pos number)) from (with_1 from number)
moves_1 on from number =
    changes on (move into_argument_1 (pos number)) (SetRegister into_argument_1 (value.Number number))
    from (with_1 from number) (λ place. refl) (λ place next. refl)

pub moves_2 : (on : Setting) (from : Scratch) (number : ℕ) → Does on (move into_argument_2 (pos number)) from (with_2 from number)
moves_2 on from number =
    changes on (move into_argument_2 (pos number)) (SetRegister into_argument_2 (value.Number number))
    from (with_2 from number) (λ place. refl) (λ place next. refl)

pub moves_3 : (on : Setting) (from : Scratch) (number : ℕ) → Does on (move into_argument_3 (pos number)) from (with_3 from number)
moves_3 on from number =
    changes on (move into_argument_3 (pos number)) (SetRegister into_argument_3 (value.Number number))
    from (with_3 from number) (λ place. refl) (λ place next. refl)

pub loads_wide_1 : (on : Setting) (from : Scratch) (low high : ℤ) → Does on (WideLoad into_argument_1 low high) from (with_1 from (wide_number low high))
loads_wide_1 on from low high =
    changes on (WideLoad into_argument_1 low high) (SetRegister into_argument_1 (value.Number (wide_number low high)))
    from (with_1 from (wide_number low high))
    (λ place. refl) (λ place next. refl)

pub loads_wide_2 : (on : Setting) (from : Scratch) (low high : ℤ) → Does on (WideLoad into_argument_2 low high) from (with_2 from (wide_number low high))
loads_wide_2 on from low high =
    changes on (WideLoad into_argument_2 low high) (SetRegister into_argument_2 (value.Number (wide_number low high)))
    from (with_2 from (wide_number low high))
    (λ place. refl) (λ place next. refl)

-- copies of registers

pub copies_0_to_1 : (on : Setting) (from : Scratch) (number : ℕ)
    → Does on (copy into_argument_1 from_result) (with_0 from number) (with_1 (with_0 from number) number)
copies_0_to_1 on from number =
    changes on (copy into_argument_1 from_result) (SetRegister into_argument_1 (value.Number number))
    (with_0 from number) (with_1 (with_0 from number) number) (λ place. refl)
    (λ place next. refl)

pub copies_10_to_2 : (on : Setting) (from : Scratch) → Does on (copy into_argument_2 from_frame) from (record from { v2 = to_frame })
copies_10_to_2 on from =
    changes on (copy into_argument_2 from_frame) (SetRegister into_argument_2 to_frame)
    from (record from { v2 = to_frame }) (λ place. refl) (λ place next. refl)

-- jumps

-- a jump's field holds its distance
pub field_is : (distance : ℤ) → words (in_field distance) ≡ distance
unfolding in_field
field_is distance = by_size (int_le distance (pos 32767))
  where
    by_size : (near : Bool) → words (if near then Short distance else Long distance) ≡ distance
    by_size true = refl
    by_size false = refl

-- a jump that is always taken
pub jumps : (on : Setting) (scratch : Scratch) (place skip : ℕ) → instruction_at on.code place ≡ Some (jump (pos skip))
    → Begins on.code (place + 1 + skip) → running on scratch (place + 1 + skip) ≡ after on.code on.segment (state on scratch place)
jumps on scratch place skip at target =
    sym
    (after_at on (state on scratch place) (jump (pos skip)) at
    ∙ ap (λ (distance : ℤ). next_of on.segment (state on scratch place) (continue_at on.code (pos (place + 1) +ℤ distance))) (field_is (pos skip))
    ∙ continues_at on (state on scratch place) (place + 1 + skip) Nothing target)

-- a jump that may be taken
pub branches : (on : Setting) (scratch : Scratch) (place skip : ℕ) (taken : Bool) → Begins on.code (place + 1)
    → Begins on.code (place + 1 + skip)
    → next_of on.segment (state on scratch place)
    (if taken then continue_with on.code (place + 1 + skip) Nothing else continue_with on.code (place + 1) Nothing)
    ≡ running on scratch (if taken then place + 1 + skip else place + 1)
branches on scratch place skip true next target = continues_at on (state on scratch place) (place + 1 + skip) Nothing target
branches on scratch place skip false next target = continues_at on (state on scratch place) (place + 1) Nothing next

abbrev pub conditional_jump : Condition → Source → ℕ → Insn
conditional_jump condition source skip = JumpIf condition Bits64 from_result source (pos skip)

-- a conditional jump at a place, with two targets
pub record JumpsAt (on : Setting) (place : ℕ) (condition : Condition) (source : Source) (skip : ℕ) : Type 0 where
  pub at : instruction_at on.code place ≡ Some (conditional_jump condition source skip)
  pub next : Begins on.code (place + 1)
  pub target : Begins on.code (place + 1 + skip)

pub jumps_by_immediate : (on : Setting) (from : Scratch) (n place skip : ℕ) (condition : Condition) (number : ℤ)
    → JumpsAt on place condition (Immediate number) skip
    → running on (with_0 from n) (if condition_holds condition Bits64 n (immediate_operand number) then place + 1 + skip else place + 1)
    ≡ after on.code on.segment (state on (with_0 from n) place)
jumps_by_immediate on from n place skip condition number jump =
    let scratch : Scratch = with_0 from n in
    sym
    (after_at on (state on scratch place) (conditional_jump condition (Immediate number) skip) jump.at
    ∙ branches on scratch place skip (condition_holds condition Bits64 n (immediate_operand number)) jump.next jump.target)

pub jumps_by_register : (on : Setting) (from : Scratch) (n m place skip : ℕ) (condition : Condition)
    → JumpsAt on place condition (Register from_argument_1) skip
    → running on (with_1 (with_0 from n) m) (if condition_holds condition Bits64 n m then place + 1 + skip else place + 1)
    ≡ after on.code on.segment (state on (with_1 (with_0 from n) m) place)
jumps_by_register on from n m place skip condition jump =
    let scratch : Scratch = with_1 (with_0 from n) m in
    sym
    (after_at on (state on scratch place) (conditional_jump condition (Register from_argument_1) skip) jump.at
    ∙ branches on scratch place skip (condition_holds condition Bits64 n m) jump.next jump.target)

-- a conditional jump on an operand compares two numbers
pub record BranchesOn (on : Setting) (scratch : Scratch) (source : Source) (x y : ℕ) : Type 0 where
  pub jumps : (place skip : ℕ) (condition : Condition) → JumpsAt on place condition source skip
      → running on scratch (if condition_holds condition Bits64 x y then place + 1 + skip else place + 1)
      ≡ after on.code on.segment (state on scratch place)

pub branches_on_immediate : (on : Setting) (from : Scratch) (n : ℕ) (number : ℤ)
    → BranchesOn on (with_0 from n) (Immediate number) n (immediate_operand number)
branches_on_immediate on from n number =
    record { jumps = λ place skip condition jump. jumps_by_immediate on from n place skip condition number jump }

pub branches_on_register : (on : Setting) (from : Scratch) (n m : ℕ) → BranchesOn on (with_1 (with_0 from n) m) (Register from_argument_1) n m
branches_on_register on from n m = record { jumps = λ place skip condition jump. jumps_by_register on from n m place skip condition jump }

-- the end of a program
pub exits : (on : Setting) (from : Scratch) (n place : ℕ) → instruction_at on.code place ≡ Some Exit
    → Exited n on.score ≡ after on.code on.segment (state on (with_0 from n) place)
exits on from n place at = sym (after_at on (state on (with_0 from n) place) Exit at)
