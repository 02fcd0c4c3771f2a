-- Runs of a code on a segment, its answer, and its safety. The bound on steps is this project's own.
use Rattle.std.specs.Prelude.{◌≡◌, ◌≢◌, ℕ, ◌≤◌, List, [], ◌∷◌, length}
use Rattle.bpf_insn.specs.declared.instruction.Insn.{Insn}
use Rattle.tl_segments.specs.Segment.{SegmentParts, IsSegment}
use Rattle.bpf_meaning.specs.State.{start}
use Rattle.bpf_meaning.specs.Step.{Configuration, Running, Exited, Stuck, after}
use Rattle.bpf_meaning.specs.declared.cause.Cause.{Cause}
use Rattle.bpf_meaning.specs.declared.outcome.Outcome.{Outcome}
use Rattle.bpf_meaning.specs.declared.outcome.Outcome.TheVariants as outcome
use Rattle.bpf_meaning.specs.declared.state.State.{State}

-- one step: a running configuration has one successor, and one that has ended has none
abbrev pub Step : List Insn → SegmentParts → Configuration → Configuration → Type 0
Step code segment (Running state) next = next ≡ after code segment state
Step code segment (Exited answer score) next = ⊥
Step code segment (Stuck place cause) next = ⊥

-- there is exactly one next configuration
pub record HasOneNext (code : List Insn) (segment : SegmentParts) (from : Configuration) : Type 0 where
  pub next : Configuration
  pub is_next : Step code segment from next
  pub only : (other : Configuration) → Step code segment from other → other ≡ next

-- there is no next configuration
abbrev pub HasNoNext : List Insn → SegmentParts → Configuration → Type 0
HasNoNext code segment from = (next : Configuration) → Step code segment from next → ⊥

-- each configuration is a step from the one before it
abbrev pub FollowSteps : List Insn → SegmentParts → Configuration → List Configuration → Type 0
FollowSteps code segment from [] = Unit {0}
FollowSteps code segment from (next ∷ rest) = Step code segment from next × FollowSteps code segment next rest

-- a run: the configurations after the start. Its length is the number of steps, including the step into an end.
abbrev pub IsRun : List Insn → SegmentParts → List Configuration → Type 0
IsRun code segment run = FollowSteps code segment (Running start) run

-- the last configuration
abbrev pub last_of : Configuration → List Configuration → Configuration
last_of from [] = from
last_of from (next ∷ rest) = last_of next rest

-- the configuration that a run has reached
abbrev pub end_of : List Configuration → Configuration
end_of run = last_of (Running start) run

-- a run of at most `limit` steps ends as an outcome says, and one that is still running has taken all of them
abbrev pub EndsAs : List Configuration → ℕ → Outcome → Type 0
EndsAs run limit outcome.Running = (state : State) × (end_of run ≡ Running state) × (length run ≡ limit)
EndsAs run limit (outcome.Exit answer score) = (end_of run ≡ Exited answer score) × (length run ≤ limit)
EndsAs run limit (outcome.Stuck place cause) = (end_of run ≡ Stuck place cause) × (length run ≤ limit)

-- the outcome of a trace: some run of at most `limit` steps ends with it
pub record IsTraced (code : List Insn) (segment : SegmentParts) (limit : ℕ) (outcome : Outcome) : Type 0 where
  pub run : List Configuration
  pub is_run : IsRun code segment run
  pub ends : EndsAs run limit outcome

-- some run ends with this answer and score
pub record Answers (code : List Insn) (segment : SegmentParts) (answer score : ℕ) : Type 0 where
  pub run : List Configuration
  pub is_run : IsRun code segment run
  pub exits : end_of run ≡ Exited answer score

-- no run is stuck
abbrev pub IsNeverStuck : List Insn → SegmentParts → Type 0
IsNeverStuck code segment =
    (run : List Configuration) → IsRun code segment run → (place : ℕ) (cause : Cause) → end_of run ≢ Stuck place cause

-- some run exits, in no more steps than there are instructions
pub record Exits (code : List Insn) (segment : SegmentParts) : Type 0 where
  pub run : List Configuration
  pub is_run : IsRun code segment run
  pub answer : ℕ
  pub score : ℕ
  pub exits : end_of run ≡ Exited answer score
  pub short : length run ≤ length code

-- on every segment, no run is stuck, and some run exits in no more steps than there are instructions
pub record IsSafe (code : List Insn) : Type 0 where
  pub never_stuck : (segment : SegmentParts) → IsSegment segment → IsNeverStuck code segment
  pub exits : (segment : SegmentParts) → IsSegment segment → Exits code segment
