-- The state before each instruction of a filter's program. The instruction alone determines it: exactly what it needs, and no more.
use Rattle.std.proofs.Common.{ℕ, zero, suc, ◌+◌, ◌-◌, ◌*◌, ◌/◌, ◌^◌, pos, Bool, true, false, List, [], ◌∷◌, ◌++◌, get_or, Option, Some, None, if◌then◌else◌}
use Rattle.std.proofs.Common.{sym, ◌∙◌, subst}
use Rattle.std.specs.Prelude.{◌==◌, unsigned_abs}
use Rattle.std.proofs.lemmas.Bool.{false≢true}
use Rattle.bpf_frame.proofs.ProperLemmas.{get_or-alike}
use Rattle.bpf_frame.specs.FrameMap as map
use Rattle.bpf_frame.specs.FrameMap.{mark, touch, unwritten}
use Rattle.bpf_insn.specs.Code.{instruction_at}
use Rattle.bpf_insn.specs.declared.instruction.Insn.{Insn}
use Rattle.bpf_insn.specs.declared.instruction.Insn.TheVariants.{Alu, MoveSignExtended, Negate, JumpIf, Call, Exit, StoreImmediate, WideLoad}
use Rattle.bpf_insn.specs.declared.instruction.Operation.{Operation}
use Rattle.bpf_insn.specs.declared.instruction.Operation.TheVariants.{Move}
use Rattle.bpf_insn.specs.declared.instruction.Source.{Source}
use Rattle.bpf_insn.specs.declared.instruction.Source.TheVariants.{Immediate, Register}
use Rattle.bpf_insn.specs.declared.memory.TheConstants.{FRAME_LENGTH, SLOTS}
use Rattle.bpf_kinds.proofs.KindLemmas as kinds
use Rattle.bpf_kinds.specs.Interval.{between, single}
use Rattle.bpf_kinds.specs.Kind as kind
use Rattle.bpf_kinds.specs.Offsets as offsets
use Rattle.bpf_kinds.specs.declared.kind.Kind.{Kind}
use Rattle.bpf_kinds.specs.declared.kind.Kind.TheVariants.{Number, Record, Frame, Nothing}
use Rattle.bpf_verify.specs.Annotation.{Annotation}
use Rattle.bpf_verify.specs.LiftedState.{LiftedState, Unreached, Reached, IsWithin, entry}
use Rattle.bpf_verify.proofs.StateLaws.{reflexive}

-- the contents of registers 0 to 3 and of the frame; register 6 holds the record's pointer
pub record Held : Type 0 where
  pub v0 : Kind
  pub v1 : Kind
  pub v2 : Kind
  pub v3 : Kind
  pub frame : map.Contents

-- pointers to the first byte of the record and to a byte of the frame
abbrev pub to_record : Kind
to_record = Record (offsets.between (pos 0) (pos 0))

abbrev pub frame_at : ℕ → Kind
frame_at at = Frame (offsets.between (pos at) (pos at))

-- the numbers up to a maximum, and any number
abbrev pub up_to : ℕ → Kind
up_to most = Number (between 0 most)

abbrev pub any_number : Kind
any_number = up_to (2 ^ 64 - 1)

-- the contents of each of registers 7 to 9, by whether the program keeps numbers in them
abbrev pub saved : Bool → Kind
saved true = any_number
saved false = Nothing

abbrev pub all_saved : Bool → List Kind
all_saved keeps = saved keeps ∷ saved keeps ∷ saved keeps ∷ []

abbrev pub registers_of : List Kind → Held → List Kind
registers_of saved held =
    held.v0 ∷ held.v1 ∷ held.v2 ∷ held.v3 ∷ Nothing ∷ Nothing ∷ to_record ∷ (saved ++ frame_at FRAME_LENGTH ∷ [])

-- nothing else is known of registers 0 to 3 and the frame
abbrev pub nothing : Held
nothing = record { v0 = Nothing; v1 = Nothing; v2 = Nothing; v3 = Nothing; frame = unwritten }

-- the state with these contents of registers 7 to 9
abbrev pub knowing_saved : List Kind → Held → LiftedState
knowing_saved saved held = Reached (record { registers = registers_of saved held; frame = held.frame })

-- at the start of a program that keeps numbers, before registers 7, 8 and 9 are set
abbrev pub setting_7 : LiftedState
setting_7 = knowing_saved (Nothing ∷ Nothing ∷ Nothing ∷ []) nothing

abbrev pub setting_8 : LiftedState
setting_8 = knowing_saved (any_number ∷ Nothing ∷ Nothing ∷ []) nothing

abbrev pub setting_9 : LiftedState
setting_9 = knowing_saved (any_number ∷ any_number ∷ Nothing ∷ []) nothing

-- the frame after a number of a name's words were stored
abbrev pub stored : ℕ → map.Contents
stored zero = unwritten
stored (suc word) = mark (touch (stored word) (480 + 4 * word) (480 + 4 * word + 3)) (480 + 4 * word) 4

-- the contents of registers 0 to 5 in the code of a shape, which leaves the frame alone
pub record Six : Type 0 where
  pub s0 : Kind
  pub s1 : Kind
  pub s2 : Kind
  pub s3 : Kind
  pub s4 : Kind
  pub s5 : Kind

-- numbers in all of them
abbrev pub six_numbers : Six
six_numbers = record { s0 = any_number; s1 = any_number; s2 = any_number; s3 = any_number; s4 = any_number; s5 = any_number }

-- the states, by whether the program keeps numbers in registers 7 to 9
module _ (keeps : Bool) where
  abbrev pub six_registers : Six → List Kind
  six_registers six =
      six.s0 ∷ six.s1 ∷ six.s2 ∷ six.s3 ∷ six.s4 ∷ six.s5 ∷ to_record ∷ (all_saved keeps ++ frame_at FRAME_LENGTH ∷ [])

  abbrev pub drawing : Six → LiftedState
  drawing six = Reached (record { registers = six_registers six; frame = unwritten })

  -- the states while the numbers of a shape's code are set, in registers 0, 1 and 5, then 3, 4 and 2
  abbrev pub setting_3 : LiftedState
  setting_3 = drawing (record six_numbers { s2 = Nothing; s3 = Nothing; s4 = Nothing })

  abbrev pub setting_4 : LiftedState
  setting_4 = drawing (record six_numbers { s2 = Nothing; s4 = Nothing })

  abbrev pub setting_2 : LiftedState
  setting_2 = drawing (record six_numbers { s2 = Nothing })

  abbrev pub drawn : LiftedState
  drawn = drawing six_numbers

  abbrev pub knowing : Held → LiftedState
  knowing held = knowing_saved (all_saved keeps) held

  -- between tests, nothing else is known
  abbrev pub resting : LiftedState
  resting = knowing nothing

  -- a number in register 0, in register 1, in both, and in registers 1 and 2
  abbrev pub answered : LiftedState
  answered = knowing (record nothing { v0 = any_number })

  abbrev pub given : ℕ → LiftedState
  given most = knowing (record nothing { v1 = up_to most })

  abbrev pub given_any : LiftedState
  given_any = knowing (record nothing { v1 = any_number })

  abbrev pub compared : LiftedState
  compared = knowing (record nothing { v0 = any_number; v1 = any_number })

  abbrev pub given_two : LiftedState
  given_two = knowing (record nothing { v1 = any_number; v2 = any_number })

  -- a name's index in register 1, and a pointer into the frame in register 2
  abbrev pub pointed : ℕ → LiftedState
  pointed at = knowing (record nothing { v1 = any_number; v2 = frame_at at })

  -- the arguments of the call that compares a name, after a number of its words were stored
  abbrev pub named : ℕ → LiftedState
  named words = knowing (record { v0 = Nothing; v1 = any_number; v2 = frame_at 480; v3 = Number (single 30); frame = stored words })

  -- the state before an instruction, by the register that receives a number, a copy or a wide load, and by the helper function that is called
  abbrev pub before_move : ℕ → LiftedState
  before_move register =
      get_or (resting ∷ resting ∷ given_any ∷ pointed 480 ∷ setting_4 ∷ resting ∷ resting ∷ setting_7 ∷ setting_8 ∷ setting_9 ∷ []) register resting

  -- only the code of a shape copies register 3, or something into registers 3 to 5
  abbrev pub before_copy : ℕ → ℕ → LiftedState
  before_copy register source =
      if source == 3 then drawn
      else get_or (given_any ∷ answered ∷ given_any ∷ drawn ∷ drawn ∷ compared ∷ Reached entry ∷ answered ∷ answered ∷ answered ∷ []) register resting

  abbrev pub before_wide_load : ℕ → LiftedState
  before_wide_load register = get_or (resting ∷ answered ∷ given_any ∷ setting_3 ∷ drawn ∷ []) register resting

  abbrev pub before_call : ℕ → LiftedState
  before_call helper =
      get_or (resting ∷ given 16 ∷ given 16 ∷ resting ∷ resting ∷ given_two ∷ resting ∷ named 8 ∷ given_any ∷ given 3 ∷ []) helper resting

  -- a word of the name is stored after the words before it
  abbrev pub before_store : ℕ → LiftedState
  before_store back = named ((32 - back) / 4)

  abbrev pub before_compare : Source → LiftedState
  before_compare (Immediate number) = answered
  before_compare (Register register) = compared

  -- an operation changes register 0, or moves the pointer in register 2; those on other registers are in the code of a shape
  abbrev pub before_operation : ℕ → LiftedState
  before_operation register = get_or (answered ∷ drawn ∷ pointed FRAME_LENGTH ∷ drawn ∷ drawn ∷ []) register (pointed FRAME_LENGTH)

  abbrev pub before_combination : ℕ → LiftedState
  before_combination register = get_or (compared ∷ compared ∷ compared ∷ drawn ∷ drawn ∷ []) register compared

  abbrev pub before_alu : Operation → ℕ → Source → LiftedState
  before_alu Move register (Register source) = before_copy register source.number
  before_alu Move register (Immediate number) = before_move register
  before_alu operation register (Register source) = before_combination register
  before_alu operation register (Immediate number) = before_operation register

  -- only the code of a shape compares other registers than register 0
  abbrev pub before_jump : ℕ → Source → LiftedState
  before_jump left right = get_or (before_compare right ∷ []) left drawn

  -- the state before an instruction
  abbrev pub before : Insn → LiftedState
  before (Alu operation width destination source) = before_alu operation destination.number source
  before (Negate width destination) = answered
  before (MoveSignExtended extension destination source) = setting_2
  before (JumpIf condition width left right distance) = before_jump left.number right
  before (Call number) = before_call (unsigned_abs number)
  before Exit = answered
  before (StoreImmediate size base offset number) = before_store (unsigned_abs offset)
  before (WideLoad destination low high) = before_wide_load destination.number
  before insn = resting

  abbrev pub state_before : Option Insn → LiftedState
  state_before None = Unreached
  state_before (Some insn) = before insn

  abbrev pub annotation_of : List Insn → Annotation
  annotation_of code place = state_before (instruction_at code place)

-- knowing more is within knowing less

to_nothing : (k : Kind) → kind.IsWithin k Nothing
to_nothing (Number x) = tt
to_nothing (Record x) = tt
to_nothing (Frame x) = tt
to_nothing Nothing = tt

pub within_unwritten : (frame : map.Contents) → map.IsWithin frame unwritten
within_unwritten frame = record {
  marks = λ at marked. absurd (false≢true (sym (get_or-alike FRAME_LENGTH at false) ∙ marked));
  kinds = λ slot.
      let held = map.slot_kind frame slot in subst (kind.IsWithin held) (sym (get_or-alike SLOTS slot Nothing)) (to_nothing held);
}

-- registers 0 to 3 of one state know more than those of another, one by one
pub record KnowsMore (held other : Held) : Type 0 where
  pub v0 : kind.IsWithin held.v0 other.v0
  pub v1 : kind.IsWithin held.v1 other.v1
  pub v2 : kind.IsWithin held.v2 other.v2
  pub v3 : kind.IsWithin held.v3 other.v3
  pub frame : map.IsWithin held.frame other.frame

-- between tests, everything is forgotten
pub forgets : (held : Held) → KnowsMore held nothing
forgets held = record {
  v0 = to_nothing held.v0;
  v1 = to_nothing held.v1;
  v2 = to_nothing held.v2;
  v3 = to_nothing held.v3;
  frame = within_unwritten held.frame;
}

-- what registers 7 to 9 hold
pub record SavedKinds : Type 0 where
  pub v7 : Kind
  pub v8 : Kind
  pub v9 : Kind

abbrev pub saved_kinds : Kind → Kind → Kind → SavedKinds
saved_kinds v7 v8 v9 = record { v7 = v7; v8 = v8; v9 = v9 }

abbrev pub list_of : SavedKinds → List Kind
list_of kinds = kinds.v7 ∷ kinds.v8 ∷ kinds.v9 ∷ []

-- registers 7 to 9 of one state know more than those of another
pub record KeepsMore (some others : SavedKinds) : Type 0 where
  pub v7 : kind.IsWithin some.v7 others.v7
  pub v8 : kind.IsWithin some.v8 others.v8
  pub v9 : kind.IsWithin some.v9 others.v9

pub keeps_more : (some others : SavedKinds) (held other : Held) → KeepsMore some others → KnowsMore held other
    → IsWithin (knowing_saved (list_of some) held) (knowing_saved (list_of others) other)
keeps_more some others held other saved more = record { registers = each; frame = more.frame }
  where
    same : IsWithin (Reached entry) (Reached entry)
    same = reflexive (Reached entry)

    each : (register : ℕ) → kind.IsWithin (get_or (registers_of (list_of some) held) register Nothing)
        (get_or (registers_of (list_of others) other) register Nothing)
    each zero = more.v0
    each (suc zero) = more.v1
    each (suc (suc zero)) = more.v2
    each (suc (suc (suc zero))) = more.v3
    each (suc (suc (suc (suc zero)))) = tt
    each (suc (suc (suc (suc (suc zero))))) = tt
    each (suc (suc (suc (suc (suc (suc zero)))))) = same.registers 1
    each (suc (suc (suc (suc (suc (suc (suc zero))))))) = saved.v7
    each (suc (suc (suc (suc (suc (suc (suc (suc zero)))))))) = saved.v8
    each (suc (suc (suc (suc (suc (suc (suc (suc (suc zero))))))))) = saved.v9
    each (suc (suc (suc (suc (suc (suc (suc (suc (suc (suc register)))))))))) =
        same.registers (suc (suc (suc (suc (suc (suc (suc (suc (suc (suc register))))))))))

module _ (keeps : Bool) where
  pub knows_more : (held other : Held) → KnowsMore held other → IsWithin (knowing keeps held) (knowing keeps other)
  knows_more held other = keeps_more all all held other (record { v7 = same; v8 = same; v9 = same })
    where
      all : SavedKinds
      all = saved_kinds (saved keeps) (saved keeps) (saved keeps)

      same : kind.IsWithin (saved keeps) (saved keeps)
      same = kinds.reflexive (saved keeps)

  pub rests_after : (held : Held) → IsWithin (knowing keeps held) (resting keeps)
  rests_after held = knows_more held nothing (forgets held)
