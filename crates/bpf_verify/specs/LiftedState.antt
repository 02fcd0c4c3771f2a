-- Abstract states: what is known of each register and of the frame before an instruction, whatever the segment, or that no edge leads there. They
-- are partially ordered: a lower state says more, and the unreached state is the bottom.
use Rattle.std.specs.Prelude.{◌≡◌, ℕ, pos, [], ◌∷◌, length, replicate, slice_set, get_or}
use Rattle.bpf_frame.specs.FrameMap as map
use Rattle.bpf_kinds.specs.Kind as kind
use Rattle.bpf_kinds.specs.Offsets as offsets
use Rattle.bpf_kinds.specs.declared.kind.Kind.{Kind}
use Rattle.bpf_kinds.specs.declared.kind.Kind.TheVariants.{Record, Frame, Nothing}
use Rattle.bpf_meaning.specs.State.{register_value}
use Rattle.bpf_insn.specs.declared.memory.TheConstants.{FRAME_LENGTH}
use Rattle.bpf_meaning.specs.declared.state.State.{State}
use Rattle.bpf_meaning.specs.declared.state.TheConstants.{REGISTERS}
use Rattle.bpf_verify.specs.declared.abstract_state.AbstractState.{AbstractState}

-- the state before an instruction, which is the bottom if no edge leads there
pub data LiftedState : Type 0 where
  Unreached : LiftedState
  Reached : (known : AbstractState) → LiftedState

-- the states after an instruction, on each edge out of it: to the next instruction, and to the target of a jump
pub record Edges : Type 0 where
  pub next : LiftedState
  pub target : LiftedState

-- the kind of a register
abbrev pub kind_of : AbstractState → ℕ → Kind
kind_of known register = get_or known.registers register Nothing

-- a state with a register's kind replaced
abbrev pub with_kind : AbstractState → ℕ → Kind → AbstractState
with_kind known register kind = record known { registers = slice_set known.registers register kind }

-- the state at the start: register 1 points to the record's first byte, register 10 past the end of the frame, and no byte of the frame is written
abbrev pub entry : AbstractState
entry = record {
  registers = Nothing ∷ Record (offsets.between (pos 0) (pos 0)) ∷ Nothing ∷ Nothing ∷ Nothing ∷ Nothing ∷ Nothing ∷ Nothing ∷ Nothing
      ∷ Nothing ∷ Frame (offsets.between (pos FRAME_LENGTH) (pos FRAME_LENGTH)) ∷ [];
  frame = map.unwritten;
}

-- the state in which nothing is known
abbrev pub unknown : AbstractState
unknown = record { registers = replicate REGISTERS Nothing; frame = map.unwritten }

-- eleven proper kinds, and a proper map of the frame
pub record IsProperState (known : AbstractState) : Type 0 where
  pub count : length known.registers ≡ REGISTERS
  pub kinds : (register : ℕ) → kind.IsProper (kind_of known register)
  pub frame : map.IsProper known.frame

-- an abstract state admits a state: each register's kind admits its value, and what is known of the frame admits its frame
pub record AdmitsState (known : AbstractState) (state : State) : Type 0 where
  pub registers : (register : ℕ) → kind.Admits (kind_of known register) (register_value state register)
  pub frame : map.Admits known.frame state.frame

-- a state lies within another one: each register's kind does, and so does what is known of the frame
pub record IsWithinState (known other : AbstractState) : Type 0 where
  pub registers : (register : ℕ) → kind.IsWithin (kind_of known register) (kind_of other register)
  pub frame : map.IsWithin known.frame other.frame

-- one state is below another one, and both are proper
pub record IsBelow (lower higher : AbstractState) : Type 0 where
  pub proper : IsProperState lower
  pub proper_higher : IsProperState higher
  pub within : IsWithinState lower higher

-- the least upper bound of two states: kind by kind, and what is known of the frame in both
abbrev pub join_states : AbstractState → AbstractState → AbstractState
join_states known other = record {
  registers = kind.join_kinds known.registers other.registers;
  frame = map.join known.frame other.frame;
}

-- the bottom admits no state, and is below every other one
abbrev pub IsProper : LiftedState → Type 0
IsProper Unreached = Unit {0}
IsProper (Reached known) = IsProperState known

abbrev pub Admits : LiftedState → State → Type 0
Admits Unreached state = ⊥
Admits (Reached known) state = AdmitsState known state

abbrev pub IsWithin : LiftedState → LiftedState → Type 0
IsWithin Unreached other = Unit {0}
IsWithin (Reached known) Unreached = ⊥
IsWithin (Reached known) (Reached other) = IsWithinState known other

-- the least abstract state above two
abbrev pub join : LiftedState → LiftedState → LiftedState
join Unreached other = other
join (Reached known) Unreached = Reached known
join (Reached known) (Reached other) = Reached (join_states known other)

-- the states on both edges out of an instruction are proper
pub record AreProperEdges (edges : Edges) : Type 0 where
  pub next : IsProper edges.next
  pub target : IsProper edges.target

-- on both edges out of an instruction, one state lies within the other
pub record AreEdgesWithin (edges others : Edges) : Type 0 where
  pub next : IsWithin edges.next others.next
  pub target : IsWithin edges.target others.target
