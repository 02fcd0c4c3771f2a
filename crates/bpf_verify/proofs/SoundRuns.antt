-- Soundness: an accepted code whose jumps go forward and that ends in EXIT is safe.
use Rattle.std.proofs.Common.{◌≡◌, ℕ, zero, suc, ◌≤◌, List, [], ◌∷◌, length, refl, sym, subst, arith}
use Rattle.bpf_insn.specs.Immediates.{HaveImmediates}
use Rattle.bpf_insn.specs.declared.instruction.Insn.{Insn}
use Rattle.bpf_flow.specs.Flow.{IsForward}
use Rattle.bpf_meaning.specs.Run.{FollowSteps, IsRun, last_of, end_of, Exits, IsSafe}
use Rattle.tl_segments.specs.Segment.{SegmentParts, IsSegment}
use Rattle.bpf_meaning.specs.State.{start}
use Rattle.bpf_meaning.specs.Step.{Configuration, Running, Exited, Stuck, after}
use Rattle.bpf_meaning.specs.declared.state.State.{State}
use Rattle.bpf_verify.specs.Annotation.{Annotation, HasGoodAnnotation}
use Rattle.bpf_verify.proofs.SoundSteps.{IsVerified, IsAdmittedState, ComesTo, step_comes, starts}
use Rattle.bpf_verify.proofs.SoundPlaces.{count_from, count_from-start, count_from-later}

-- Each configuration of a run is a state at an instruction, admitted by the annotation, or an exit.

abbrev pub IsAdmitted : List Insn → Annotation → Configuration → Type 0
IsAdmitted code annotation (Running state) = IsAdmittedState code annotation state
IsAdmitted code annotation (Exited answer score) = Unit {0}
IsAdmitted code annotation (Stuck place cause) = ⊥

comes_admitted : (code : List Insn) (annotation : Annotation) (state : State) (next : Configuration) → ComesTo code annotation state next
    → IsAdmitted code annotation next
comes_admitted code annotation state (Running there) comes = comes.0
comes_admitted code annotation state (Exited answer score) comes = tt
comes_admitted code annotation state (Stuck place cause) comes = absurd comes

from_admitted : (code : List Insn) (segment : SegmentParts) (annotation : Annotation) → IsVerified code segment annotation
    → (from : Configuration) (run : List Configuration) → IsAdmitted code annotation from → FollowSteps code segment from run
    → IsAdmitted code annotation (last_of from run)
from_admitted code segment annotation verified from [] admitted follow = admitted
from_admitted code segment annotation verified (Running state) (next ∷ run) admitted_state follow =
    from_admitted code segment annotation verified next run
    (comes_admitted code annotation state next (subst (ComesTo code annotation state) (sym follow.0)
    (step_comes code segment annotation state verified admitted_state))) follow.1
from_admitted code segment annotation verified ended (next ∷ run) admitted follow = absurd follow.0

pub end_admitted : (code : List Insn) (segment : SegmentParts) (annotation : Annotation) → IsVerified code segment annotation
    → (run : List Configuration) → IsRun code segment run → IsAdmitted code annotation (end_of run)
end_admitted code segment annotation verified run is_run =
    from_admitted code segment annotation verified (Running start) run (starts code segment annotation verified) is_run

-- Each step leaves fewer instructions, so the run exits.

-- from a state on, the code exits in at most `steps` steps
record ExitsFrom (code : List Insn) (segment : SegmentParts) (state : State) (steps : ℕ) : Type 0 where
  run : List Configuration
  follow : FollowSteps code segment (Running state) run
  answer : ℕ
  score : ℕ
  exits : last_of (Running state) run ≡ Exited answer score
  short : length run ≤ steps

module _ {code : List Insn} (segment : SegmentParts) {annotation : Annotation} {state : State} (steps : ℕ) where
  -- by what follows the state
  exits_by : IsAdmittedState code annotation state → count_from code state.place ≤ suc steps
      → ((there : State) → IsAdmittedState code annotation there → count_from code there.place ≤ steps → ExitsFrom code segment there steps)
      → {next : Configuration} → next ≡ after code segment state → ComesTo code annotation state next
      → ExitsFrom code segment state (suc steps)
  exits_by admitted_state few others {next = Stuck place cause} is comes = absurd comes
  exits_by admitted_state few others {next = Exited answer score} is comes =
      record { run = Exited answer score ∷ []; follow = (is, tt); answer = answer; score = score; exits = refl; short = omega arith }
  exits_by admitted_state few others {next = Running there} is comes =
      let fewer = count_from-later code state.place there.place admitted_state.insn admitted_state.is_insn comes.1 in
      let rest = others there comes.0 (omega arith) in
      record {
        run = Running there ∷ rest.run;
        follow = (is, rest.follow);
        answer = rest.answer;
        score = rest.score;
        exits = rest.exits;
        short = let short = rest.short in omega arith;
      }

exits_from : (code : List Insn) (segment : SegmentParts) (annotation : Annotation) → IsVerified code segment annotation
    → (steps : ℕ) (state : State) → IsAdmittedState code annotation state → count_from code state.place ≤ steps
    → ExitsFrom code segment state steps
exits_from code segment annotation verified zero state admitted_state few =
    let more = count_from-later code state.place (suc state.place) admitted_state.insn admitted_state.is_insn (omega arith) in absurd (omega arith)
exits_from code segment annotation verified (suc steps) state admitted_state few =
    exits_by segment steps admitted_state few (exits_from code segment annotation verified steps) refl
    (step_comes code segment annotation state verified admitted_state)

exits : (code : List Insn) (segment : SegmentParts) (annotation : Annotation) → IsVerified code segment annotation → Exits code segment
exits code segment annotation verified =
    let all : count_from code 0 ≤ length code = (let same = count_from-start code in omega arith) in
    let x = exits_from code segment annotation verified (length code) start (starts code segment annotation verified) all in
    record { run = x.run; is_run = x.follow; answer = x.answer; score = x.score; exits = x.exits; short = x.short }

pub good_is_safe : (code : List Insn) → IsForward code → HaveImmediates code → HasGoodAnnotation code → IsSafe code
good_is_safe code forward immediates accepted = record {
  never_stuck = λ segment is run is_run place cause end. subst (IsAdmitted code accepted.0) end
      (end_admitted code segment accepted.0 (verified segment is) run is_run);
  exits = λ segment is. exits code segment accepted.0 (verified segment is);
}
  where
    verified : (segment : SegmentParts) → IsSegment segment → IsVerified code segment accepted.0
    verified segment is = record { forward = forward; good = accepted.1; is_segment = is; immediates = immediates }
