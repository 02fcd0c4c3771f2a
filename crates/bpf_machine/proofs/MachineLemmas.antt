-- What a run in progress leads to, and what a run that exits excludes.
use Rattle.std.proofs.Common.{◌≡◌, ℕ, ◌≤◌, List, [], ◌∷◌, length, Some, None, refl, sym, ap, subst, arith}
use Rattle.bpf_insn.specs.Code.{place_of}
use Rattle.bpf_insn.specs.declared.instruction.Insn.{Insn}
use Rattle.tl_segments.specs.Segment.{SegmentParts}
use Rattle.bpf_meaning.specs.State.{start}
use Rattle.bpf_meaning.specs.Step.{Configuration, Running, Exited, Stuck, after}
use Rattle.bpf_meaning.specs.Run.{FollowSteps, last_of, Answers, IsNeverStuck, Exits}
use Rattle.bpf_meaning.specs.declared.cause.Cause.{Cause}
use Rattle.bpf_meaning.specs.declared.state.State.{State}
use Rattle.bpf_machine.specs.Machine as machine
use Rattle.bpf_machine.specs.Machine.{Does, HoldsState, IsReached}
use Rattle.bpf_machine.specs.Words.{Holds, words_of}
use Rattle.bpf_machine.specs.declared.bare.Answer.{Answer}
use Rattle.bpf_machine.specs.declared.bare.Bare.{Bare}
use Rattle.bpf_meaning.proofs.RunLemmas.{continues, one_next, ends_there, IsReachable, comes_to}

module _ (code : List Insn) (segment : SegmentParts) where
  module _ {answer score : ℕ} {state : State} where
    -- a run that exits is longer than every run that is still in progress
    pub exits_first : (from : Configuration) (run others : List Configuration)
        → FollowSteps code segment from run → FollowSteps code segment from others → last_of from run ≡ Exited answer score
        → last_of from others ≡ Running state → length run ≤ length others → ⊥
    exits_first from [] others f g e h short =
        let same = ends_there code segment answer score others (subst (λ (c : Configuration). FollowSteps code segment c others) e g) in
        let there = subst (λ (c : Configuration). last_of c others ≡ Running state) e h in
        cc
    exits_first from (next ∷ run) [] f g e h short = absurd (omega arith)
    exits_first from (next ∷ run) (there ∷ others) f g e h short =
        let same = one_next code segment from there next g.0 f.0 in
        exits_first next run others f.1
        (subst (λ (c : Configuration). FollowSteps code segment c others) same g.1) e
        (subst (λ (c : Configuration). last_of c others ≡ Running state) same h) (omega arith)

  -- what a run in progress leads to

  pub comes_to_answer : (steps : ℕ) (state : State) (answer score : ℕ) → IsReachable code segment steps state
      → Exited answer score ≡ after code segment state → Answers code segment answer score
  comes_to_answer steps state answer score reachable is =
      let end = comes_to code segment steps state (Exited answer score) reachable is in
      record { run = end.run; is_run = end.is_run; exits = end.ends }

  pub is_never_stuck : (steps : ℕ) (state : State) (place : ℕ) (cause : Cause) → IsNeverStuck code segment
      → IsReachable code segment steps state → Stuck place cause ≡ after code segment state → ⊥
  is_never_stuck steps state place cause never reachable is =
      let end = comes_to code segment steps state (Stuck place cause) reachable is in never end.run end.is_run place cause end.ends

  pub has_exited : (steps : ℕ) (state : State) → Exits code segment → IsReachable code segment steps state → length code ≤ steps → ⊥
  has_exited steps state exits reachable late =
      let short = exits.short in let long = reachable.long in
      exits_first (Running start) exits.run reachable.run exits.is_run reachable.is_run exits.exits reachable.ends (omega arith)

-- what a step that goes on, or ends, says of the next configuration

pub went_on : (code : List Insn) (configuration : Configuration) (old new : Bare) → Does code configuration None old new → (state : State)
    × (configuration ≡ Running state) × HoldsState code state new
went_on code (Running state) old new does = (state, refl, does)
went_on code (Exited r0 score) old new does = absurd does
went_on code (Stuck place cause) old new does = absurd does

pub has_ended : (code : List Insn) (configuration : Configuration) (answer : Answer) (old new : Bare)
    → Does code configuration (Some answer) old new → configuration ≡ Exited answer.r0 answer.score
has_ended code (Exited r0 score) answer old new does = let first = does.0 in let second = does.1 in cc
has_ended code (Running state) answer old new does = absurd does
has_ended code (Stuck place cause) answer old new does = absurd does

pub reached_by : (code : List Insn) (segment : SegmentParts) (steps : ℕ) (state : State) → IsReachable code segment steps state
    → IsReached code segment state
reached_by code segment steps state reachable = record { run = reachable.run; is_run = reachable.is_run; ends = reachable.ends }

-- a step that goes on leaves the machine with a run in progress

next_is_reached : (code : List Insn) (segment : SegmentParts) (state next : State) → IsReached code segment state
    → after code segment state ≡ Running next → IsReached code segment next
next_is_reached code segment state next reached is =
    let reachable = continues code segment (length reached.run) state next
    (record { run = reached.run; is_run = reached.is_run; ends = reached.ends; long = refl }) (sym is) in
    record { run = reachable.run; is_run = reachable.is_run; ends = reachable.ends }

pub next_is_reachable : (code : List Insn) (segment : SegmentParts) (state : State) (old new : Bare) → IsReached code segment state
    → Does code (after code segment state) None old new → machine.IsReachable code segment new
next_is_reachable code segment state old new reached does =
    let on = went_on code (after code segment state) old new does in
    record { state = on.0; reached = next_is_reached code segment state on.0 reached on.1; holds = on.2 }

-- and so does the start

pub begins : (code : List Insn) (segment : SegmentParts) (bare : Bare) → bare.at ≡ 0 → Holds start (words_of bare)
    → machine.IsReachable code segment bare
begins code segment bare at holds = record {
  state = start;
  reached = record { run = []; is_run = tt; ends = refl };
  holds = record { at = sym (ap (place_of code) at); words = holds };
}
