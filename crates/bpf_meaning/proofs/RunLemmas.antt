-- Runs are determined: two runs of one code on one segment agree as far as both go.
use Rattle.std.proofs.Common.{◌≡◌, ℕ, ◌≤◌, ◌<◌, List, [], ◌∷◌, ◌++◌, length, refl, sym, ap, ◌∙◌, subst, arith, ◌+◌, length-append}
use Rattle.bpf_insn.specs.declared.instruction.Insn.{Insn}
use Rattle.tl_segments.specs.Segment.{SegmentParts}
use Rattle.bpf_meaning.specs.State.{start}
use Rattle.bpf_meaning.specs.Step.{Configuration, Running, Exited, Stuck, after, configuration_of}
use Rattle.bpf_meaning.specs.Run.{Step, HasOneNext, HasNoNext, FollowSteps, IsRun, last_of, end_of, Answers, IsTraced}
use Rattle.bpf_meaning.specs.declared.cause.Cause.{Cause}
use Rattle.bpf_meaning.specs.declared.outcome.Outcome.{Outcome}
use Rattle.bpf_meaning.specs.declared.outcome.Outcome.TheVariants as outcome
use Rattle.bpf_meaning.specs.declared.state.State.{State}

module _ (code : List Insn) (segment : SegmentParts) where
  -- a configuration with a next one hasn't ended, and has only one
  pub one_next : (from next other : Configuration) → Step code segment from next → Step code segment from other → next ≡ other
  one_next (Running state) next other a b = a ∙ sym b
  one_next ended next other a b = absurd a

  pub running_continues : (state : State) → HasOneNext code segment (Running state)
  running_continues state = record { next = after code segment state; is_next = refl; only = λ other step. step }

  pub exited_ends : (answer score : ℕ) → HasNoNext code segment (Exited answer score)
  exited_ends answer score next step = step

  pub stuck_ends : (place : ℕ) (cause : Cause) → HasNoNext code segment (Stuck place cause)
  stuck_ends place cause next step = step

  -- two sequences of steps from one configuration agree as far as both go
  pub agree_from : (from : Configuration) (run longer : List Configuration) → FollowSteps code segment from run
      → FollowSteps code segment from longer → length run ≤ length longer → (rest : List Configuration) × (longer ≡ run ++ rest)
  agree_from from [] longer f g short = (longer, refl)
  agree_from from (next ∷ run) [] f g short = let no : ⊥ = omega (arith, short) in absurd no
  agree_from from (next ∷ run) (there ∷ longer) f g short =
      let same = one_next from there next g.0 f.0 in
      let more = agree_from next run longer f.1 (subst (λ from. FollowSteps code segment from longer) same g.1) (omega (arith, short)) in
      (more.0, ap (λ (c : Configuration). c ∷ longer) same ∙ ap (λ (l : List Configuration). next ∷ l) more.1)

  pub runs_agree_lem : (run longer : List Configuration) → IsRun code segment run → IsRun code segment longer → length run ≤ length longer
      → (rest : List Configuration) × (longer ≡ run ++ rest)
  runs_agree_lem run longer f g short = agree_from (Running start) run longer f g short

  -- nothing follows a configuration that has ended
  pub ends_there : (answer score : ℕ) (run : List Configuration) → FollowSteps code segment (Exited answer score) run
      → last_of (Exited answer score) run ≡ Exited answer score
  ends_there answer score [] follow = refl
  ends_there answer score (next ∷ run) follow = absurd follow.0

  module _ {answer score other other_score : ℕ} where
    -- two sequences of steps that both exit have the same exit
    pub same_exit : (from : Configuration) (run others : List Configuration)
        → FollowSteps code segment from run → FollowSteps code segment from others → last_of from run ≡ Exited answer score
        → last_of from others ≡ Exited other other_score → Exited answer score ≡ Exited other other_score
    same_exit from [] others f g e h =
        sym (ends_there answer score others (subst (λ from. FollowSteps code segment from others) e g))
        ∙ subst (λ from. last_of from others ≡ Exited other other_score) e h
    same_exit from (next ∷ run) [] f g e h =
        absurd (subst (λ from. Step code segment from next) h f.0)
    same_exit from (next ∷ run) (there ∷ others) f g e h =
        let same = one_next from there next g.0 f.0 in
        same_exit next run others f.1
        (subst (λ from. FollowSteps code segment from others) same g.1) e
        (subst (λ from. last_of from others ≡ Exited other other_score) same h)

  pub one_answer_lem : (answer score other other_score : ℕ) → Answers code segment answer score → Answers code segment other other_score
      → (answer ≡ other) × (score ≡ other_score)
  one_answer_lem answer score other other_score a b =
      let same = same_exit (Running start) a.run b.run a.is_run b.is_run a.exits b.exits in
      (cc, cc)

  -- runs that grow at their end

  -- one more step
  pub follow_more : (from : Configuration) (run : List Configuration) (state : State) (next : Configuration)
      → FollowSteps code segment from run → last_of from run ≡ Running state → next ≡ after code segment state
      → FollowSteps code segment from (run ++ next ∷ [])
  follow_more from [] state next follow ends is = (subst (λ (c : Configuration). Step code segment c next) (sym ends) is, tt)
  follow_more from (there ∷ run) state next follow ends is = (follow.0, follow_more there run state next follow.1 ends is)

pub last_of-more : (from : Configuration) (run : List Configuration) (next : Configuration) → last_of from (run ++ next ∷ []) ≡ next
last_of-more from [] next = refl
last_of-more from (there ∷ run) next = last_of-more there run next

-- some run of this many steps is in this state and hasn't ended
pub record IsReachable (code : List Insn) (segment : SegmentParts) (steps : ℕ) (state : State) : Type 0 where
  pub run : List Configuration
  pub is_run : IsRun code segment run
  pub ends : end_of run ≡ Running state
  pub long : length run ≡ steps

-- such a run, and the configuration after it
pub record ComesTo (code : List Insn) (segment : SegmentParts) (steps : ℕ) (next : Configuration) : Type 0 where
  pub run : List Configuration
  pub is_run : IsRun code segment run
  pub ends : end_of run ≡ next
  pub long : length run ≡ steps + 1

pub comes_to : (code : List Insn) (segment : SegmentParts) (steps : ℕ) (state : State) (next : Configuration)
    → IsReachable code segment steps state → next ≡ after code segment state → ComesTo code segment steps next
comes_to code segment steps state next reachable is = record {
  run = reachable.run ++ next ∷ [];
  is_run = follow_more code segment (Running start) reachable.run state next reachable.is_run reachable.ends is;
  ends = last_of-more (Running start) reachable.run next;
  long = length-append reachable.run (next ∷ []) ∙ ap (λ (n : ℕ). n + 1) reachable.long;
}

pub continues : (code : List Insn) (segment : SegmentParts) (steps : ℕ) (state next : State) → IsReachable code segment steps state
    → Running next ≡ after code segment state → IsReachable code segment (steps + 1) next
continues code segment steps state next reachable is =
    let reachable = comes_to code segment steps state (Running next) reachable is in
    record { run = reachable.run; is_run = reachable.is_run; ends = reachable.ends; long = reachable.long }

-- the outcome of a trace whose run has ended, and of one whose run hasn't
pub traces_end : {code : List Insn} {segment : SegmentParts} {steps : ℕ} (limit : ℕ) {state : State} (next : State) (ended : Outcome)
    → IsReachable code segment steps state → steps < limit → configuration_of ended next ≡ after code segment state
    → (ended ≡ outcome.Running → ⊥) → IsTraced code segment limit ended
traces_end limit next outcome.Running reachable less is ends = absurd (ends refl)
traces_end limit next (outcome.Exit answer score) reachable less is ends =
    let reachable = comes_to _ _ _ _ (Exited answer score) reachable is in
    record { run = reachable.run; is_run = reachable.is_run; ends = (reachable.ends, let long = reachable.long in omega arith) }
traces_end limit next (outcome.Stuck place cause) reachable less is ends =
    let reachable = comes_to _ _ _ _ (Stuck place cause) reachable is in
    record { run = reachable.run; is_run = reachable.is_run; ends = (reachable.ends, let long = reachable.long in omega arith) }

pub traces_on : (code : List Insn) (segment : SegmentParts) (steps limit : ℕ) (state : State) → IsReachable code segment steps state
    → steps ≡ limit → IsTraced code segment limit outcome.Running
traces_on code segment steps limit state reachable all = record { run = reachable.run; is_run = reachable.is_run; ends = (state, reachable.ends, reachable.long ∙ all) }
