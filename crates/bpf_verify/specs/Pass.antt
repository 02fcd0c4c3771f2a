-- The one pass over a code: it visits the places in ascending order, takes the state at each one, and propagates the states that the transfer
-- function yields along the edges. It keeps the states ahead of it: the one at its current place, and those that wait at targets of jumps.
use Rattle.std.specs.Prelude.{◌≡◌, ◌≢◌, ℕ, ℤ, pos, ◌+◌, ◌<◌, ◌≤◌, ◌==◌, if◌then◌else◌, List, [], length, map, Option, Some, None, option_map, Ok, Err}
use Rattle.std.specs.Map.{lookup}
use Rattle.std.specs.Option.{unwrap_or}
use Rattle.std.specs.declared.boxed.Box.{Box}
use Rattle.bpf_insn.specs.Code.{spelling}
use Rattle.bpf_insn.specs.Jump.{jump_distance}
use Rattle.bpf_insn.specs.declared.instruction.Insn.{Insn}
use Rattle.bpf_flow.specs.Flow.{IsForward, JumpsBy, target_of}
use Rattle.bpf_verify.specs.Annotation.{Annotation}
use Rattle.bpf_verify.specs.LiftedState.{LiftedState, Unreached, Reached, Edges, entry, join, IsProper, AreProperEdges}
use Rattle.bpf_verify.specs.Transfer.{transfer}
use Rattle.bpf_verify.specs.declared.worklist.EdgeStates.{EdgeStates}
use Rattle.bpf_verify.specs.declared.fault.VerifyFault.{VerifyFault}
use Rattle.bpf_verify.specs.declared.fault.VerifyFault.TheVariants.{Refused, Memory}
use Rattle.bpf_verify.specs.declared.abstract_state.AbstractState.{AbstractState}
use Rattle.bpf_verify.specs.Visit.{Visit}

-- the states ahead of the pass over a code: its current place, the state on the edge from the instruction before that place, and the states that
-- wait, by place
pub record PassState : Type 0 where
  pub code : List Insn
  pub place : ℕ
  pub straight : LiftedState
  pub waiting : List (ℕ × LiftedState)

-- the state on an edge, which is the bottom if the edge isn't reached
abbrev pub state_of : {A : Type 0} → Option (Box AbstractState A) → LiftedState
state_of None = Unreached
state_of (Some known) = Reached known.value

-- the states by place, as abstract states
abbrev pub states_in : {A : Type 0} → List (ℕ × Box AbstractState A) → List (ℕ × LiftedState)
states_in known = map (λ there. (there.0, Reached there.1.value)) known

-- the states ahead, from the state on the edge from the instruction before the place and the states at targets of jumps
abbrev pub pass_state : {A : Type 0} → List Insn → ℕ → Option (Box AbstractState A) → List (ℕ × Box AbstractState A) → PassState
pass_state code place straight waiting = record { code = code; place = place; straight = state_of straight; waiting = states_in waiting }

-- the state that waits at a place
abbrev pub waiting_at : List (ℕ × LiftedState) → Annotation
waiting_at states place = unwrap_or (lookup (λ at. place == at) states) Unreached

-- each state is proper
abbrev pub AreProper : Annotation → Type 0
AreProper states = (place : ℕ) → IsProper (states place)

-- a state is joined into the one at a place, if there is a place
abbrev pub joined : Annotation → ℕ → LiftedState → Annotation
joined states place state other = if other == place then join (states other) state else states other

abbrev pub joined_if : Annotation → Option ℕ → LiftedState → Annotation
joined_if states None state = states
joined_if states (Some place) state = joined states place state

-- the states that are kept, as an annotation: at the current place of the pass, the state on the edge from the instruction before it is joined into
-- the one that waits there
abbrev pub pending : PassState → Annotation
pending worklist = joined (waiting_at worklist.waiting) worklist.place worklist.straight

-- at the start, place 0 is reached, and nothing waits
abbrev pub initial : List Insn → PassState
initial code = record { code = code; place = 0; straight = Reached entry; waiting = [] }

-- a jump before a place leads to that place or to a later one
pub record IsTargetAhead (code : List Insn) (place to : ℕ) : Type 0 where
  pub jump : ℕ
  pub passed : jump < place
  pub distance : ℤ
  pub jumps : JumpsBy code jump distance
  pub leads : target_of jump distance ≡ pos to
  pub not_before : place ≤ to

-- the code's jumps go forward, the kept states are proper, and states wait only at targets ahead of jumps that were passed
pub record IsProperPass (worklist : PassState) : Type 0 where
  pub forward : IsForward worklist.code
  pub straight : IsProper worklist.straight
  pub proper : AreProper (waiting_at worklist.waiting)
  pub wait : (to : ℕ) → waiting_at worklist.waiting to ≢ Unreached → IsTargetAhead worklist.code worklist.place to

-- the states on the edges out of an instruction, as abstract states
abbrev pub edges_of : {A : Type 0} → EdgeStates A → Edges
edges_of edges = record { next = state_of edges.next; target = state_of edges.target }

-- the states on the edges out of an instruction are joined into the states that the edges lead to: at the target of a jump, and at the next place
abbrev pub propagated : Annotation → ℕ → Option ℕ → Edges → Annotation
propagated states next target edges = joined (joined_if states target edges.target) next edges.next

-- A visit of the instruction at the current place of the pass: none of its checks fails in the state there, and the pass goes on to the next place,
-- with the states on the edges propagated.
pub record Visits (insn : Insn) (before after : PassState) : Type 0 where
  pub edges : Edges
  pub passes : transfer (pending before before.place) insn ≡ Ok edges
  pub proper : AreProperEdges edges
  pub target : Option ℕ
  pub leads : option_map pos target ≡ option_map (target_of before.place) (jump_distance insn)
  pub place : after.place ≡ before.place + length (spelling insn)
  pub code : after.code ≡ before.code
  pub states : (other : ℕ) → before.place < other → pending after other ≡ propagated (pending before) after.place target edges other

-- why a visit fails: this check of the instruction is the first that fails, or memory runs out
abbrev pub IsVisitFault : PassState → Insn → VerifyFault → Type 0
IsVisitFault before insn (Refused place cause) = (place ≡ before.place) × (transfer (pending before place) insn ≡ Err cause)
IsVisitFault before insn Memory = Unit {0}

-- what the pass shows of the current instruction
abbrev pub visit_of : PassState → Insn → Visit
visit_of worklist insn = record { place = worklist.place; insn = insn; state = pending worklist worklist.place }

-- a visitor was shown the instruction whose check failed
abbrev pub IsRefusedVisit : {V : Type 0} → (V → Visit → V) → Visit → VerifyFault → V → V → Type 0
IsRefusedVisit visited visit (Refused place cause) old new = new ≡ visited old visit
IsRefusedVisit visited visit Memory old new = Unit {0}
