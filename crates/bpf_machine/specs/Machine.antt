-- Steps of the bare machine, compared with the meaning of a code: the machine holds the words of a state that some run reaches.
use Rattle.std.specs.Prelude.{◌≡◌, ℕ, List, Option, Some, None}
use Rattle.bpf_insn.specs.Code.{place_of}
use Rattle.bpf_insn.specs.declared.instruction.Insn.{Insn}
use Rattle.tl_segments.specs.Segment.{SegmentParts}
use Rattle.bpf_meaning.specs.Run.{IsRun, end_of}
use Rattle.bpf_meaning.specs.Step.{Configuration, Running, Exited}
use Rattle.bpf_meaning.specs.declared.state.State.{State}
use Rattle.bpf_machine.specs.Words.{Ends, Holds, words_of, end_of as end_of_words}
use Rattle.bpf_machine.specs.declared.bare.Answer.{Answer}
use Rattle.bpf_machine.specs.declared.bare.Bare.{Bare}

-- the machine is at the entry of a state's place, and its words hold the state
pub record HoldsState (code : List Insn) (state : State) (bare : Bare) : Type 0 where
  pub at : state.place ≡ place_of code bare.at
  pub words : Holds state (words_of bare)

-- some run of a code on a segment reaches a state
pub record IsReached (code : List Insn) (segment : SegmentParts) (state : State) : Type 0 where
  pub run : List Configuration
  pub is_run : IsRun code segment run
  pub ends : end_of run ≡ Running state

-- the machine holds a state that some run of the code on the segment reaches
pub record IsReachable (code : List Insn) (segment : SegmentParts) (bare : Bare) : Type 0 where
  pub state : State
  pub reached : IsReached code segment state
  pub holds : HoldsState code state bare

-- a step agrees with the next configuration: it goes on with its state, or ends with its answer and leaves the machine unchanged
abbrev pub Does : List Insn → Configuration → Option Answer → Bare → Bare → Type 0
Does code (Running state) None old new = HoldsState code state new
Does code (Exited r0 score) (Some answer) old new = (answer.r0 ≡ r0) × (answer.score ≡ score) × (new ≡ old)
Does code configuration answer old new = ⊥

-- The same for an instruction that leads to an entry, at which the machine then holds the next state, or to the end, with the answer in its words.
abbrev pub StepsTo : List Insn → Configuration → Option ℕ → Bare → Bare → Type 0
StepsTo code configuration (Some next) old new = Does code configuration None old (record new { at = next })
StepsTo code configuration None old new =
    (answer : Answer) → Ends answer.r0 answer.score ≡ end_of_words (words_of new) → Does code configuration (Some answer) old new
