-- The transfer function, or abstract step: the states after an instruction, from the state before it, or the first check that fails for some of the
-- possible values. It walks the instruction table with kinds in place of values. How much is known of results is this project's own choice.
use Rattle.std.specs.Prelude.{◌≡◌, ℕ, zero, suc, ◌+◌, ℤ, pos, ◌+ℤ◌, ◌&&◌, ◌==◌, Bool, true, false, IsTrue, int_le, nat_le, unsigned_abs, List, [], ◌∷◌, ◌++◌, drop, replicate, get_or, Option, Some, None, Result, Ok, Err, if◌then◌else◌}
use Rattle.std.specs.Int.{w32}
use Rattle.std.specs.Ordering.{int_eq}
use Rattle.bpf_insn.specs.Arithmetic as arithmetic
use Rattle.bpf_insn.specs.Arithmetic.{operand_bits, low_bits}
use Rattle.bpf_insn.specs.declared.instruction.Insn.{Insn}
use Rattle.bpf_insn.specs.declared.instruction.Source.{Source}
use Rattle.bpf_insn.specs.declared.instruction.Source.TheVariants.{Immediate, Register}
use Rattle.bpf_insn.specs.declared.instruction.LoadFormat.{LoadFormat}
use Rattle.bpf_insn.specs.declared.instruction.StoreSize.{StoreSize}
use Rattle.bpf_insn.specs.declared.value.Area.{Area}
use Rattle.bpf_insn.specs.declared.value.Area.TheVariants as area
use Rattle.bpf_kinds.specs.Interval as interval
use Rattle.bpf_kinds.specs.Interval.{single, cut}
use Rattle.bpf_kinds.specs.Kind as kind
use Rattle.bpf_kinds.specs.Offsets as pointer_offsets
use Rattle.bpf_kinds.specs.Results.{alu, negate, extend, byte_swap, load, wide_number, immediate_operand}
use Rattle.bpf_kinds.specs.Narrowing.{refine}
use Rattle.bpf_kinds.specs.Moving.{near_distances, move_by, move_back_by}
use Rattle.bpf_kinds.specs.declared.interval.Interval.{Interval}
use Rattle.bpf_kinds.specs.declared.kind.Kind.{Kind}
use Rattle.bpf_kinds.specs.declared.kind.Kind.TheVariants.{Number, Record, Frame, Nothing}
use Rattle.bpf_kinds.specs.declared.narrowing.Narrowed.{Narrowed}
use Rattle.bpf_kinds.specs.declared.offsets.Offsets.{Offsets}
use Rattle.bpf_frame.specs.FrameMap.{all_written, mark, set_slot, slot_kind, touch}
use Rattle.bpf_insn.specs.Frame.{slot_at}
use Rattle.bpf_helpers.specs.Helper.{signature}
use Rattle.bpf_helpers.specs.Group.{frame_use}
use Rattle.bpf_helpers.specs.declared.helper.Helper.{Helper}
use Rattle.bpf_helpers.specs.declared.signature.Argument.{Argument}
use Rattle.bpf_helpers.specs.declared.signature.Argument.TheVariants as argument
use Rattle.bpf_helpers.specs.declared.signature.FrameUse.{FrameUse}
use Rattle.bpf_helpers.specs.declared.signature.FrameUse.TheVariants as frame_use
use Rattle.bpf_helpers.specs.declared.signature.FrameUse.TheVariants.{Writes, Reads}
use Rattle.bpf_insn.specs.Memory.{load_length, store_length}
use Rattle.bpf_meaning.specs.Checks.{◌>>=◌}
use Rattle.bpf_meaning.specs.Tags as tags
use Rattle.bpf_meaning.specs.Walk.{Registers, Domain, compared_operand, walk}
use Rattle.bpf_meaning.specs.declared.cause.Cause.{Cause}
use Rattle.bpf_meaning.specs.declared.cause.Cause.TheVariants.{ReadsNothing, PointerArithmetic, LeavesArea, NotPointer, OutOfBounds, UnwrittenFrame, WritesRecord, StoresPointer, ComparesPointer, UnknownHelper, BadArgument}
use Rattle.bpf_insn.specs.declared.memory.TheConstants.{FRAME_LENGTH}
use Rattle.tl_records.specs.declared.layout.TheConstants.{RECORD_LENGTH}
use Rattle.bpf_verify.specs.LiftedState.{LiftedState, Unreached, Reached, Edges, kind_of, with_kind}
use Rattle.bpf_verify.specs.declared.abstract_state.AbstractState.{AbstractState}
use Rattle.bpf_verify.specs.declared.calls.LentBytes.{LentBytes}
use Rattle.bpf_verify.specs.declared.comparison.JumpCondition.{JumpCondition}
use Rattle.bpf_verify.specs.declared.comparison.Edge.{Edge}
use Rattle.bpf_verify.specs.declared.comparison.Edge.TheVariants as edge
use Rattle.bpf_verify.specs.declared.comparison.Edge.TheVariants.{Unchanged, Narrows}
use Rattle.bpf_verify.specs.declared.successors.Successors.{Successors}
use Rattle.bpf_verify.specs.declared.successors.Successors.TheVariants as successors
use Rattle.bpf_verify.specs.declared.successors.Successors.TheVariants.{Next, Target, Branch}
use Rattle.bpf_verify.specs.declared.memory.Pointers.{Pointers}

-- the kind read from a register, if the register holds something
abbrev pub read_kind : ℕ → Kind → Result Kind Cause
read_kind register Nothing = Err (ReadsNothing register)
read_kind register (Number x) = Ok (Number x)
read_kind register (Record x) = Ok (Record x)
read_kind register (Frame x) = Ok (Frame x)

-- the kind of a register that is read
abbrev pub read : AbstractState → ℕ → Result Kind Cause
read known register = read_kind register (kind_of known register)

-- the interval of a number kind, or the cause if the kind is no number
abbrev pub number_or : Cause → Kind → Result Interval Cause
number_or cause (Number x) = Ok x
number_or cause kind = Err cause

-- a result, or the cause if there is none
abbrev pub or_cause : {A : Type 0} → Cause → Option A → Result A Cause
or_cause cause (Some found) = Ok found
or_cause cause None = Err cause

-- a kind as a tagged one
abbrev pub tagged_kind : Kind → tags.Tagged Interval Offsets
tagged_kind Nothing = tags.Empty
tagged_kind (Number x) = tags.Number x
tagged_kind (Record x) = tags.Pointer area.Record x
tagged_kind (Frame x) = tags.Pointer area.Frame x

-- pointers into an area
abbrev pub kind_pointer : Area → Offsets → Kind
kind_pointer area.Record x = Record x
kind_pointer area.Frame x = Frame x

-- kinds, with intervals for numbers and ranges of offsets for pointers
abbrev pub kind_tags : tags.Tags
kind_tags = record {
  Values = Kind;
  Numbers = Interval;
  Offsets = Offsets;
  Distances = Offsets;
  tagged = tagged_kind;
  number = Number;
  pointer = kind_pointer;
  result = alu;
  low_half = cut w32;
  distance = λ x. or_cause PointerArithmetic (near_distances x);
  forwards = λ x distances. or_cause LeavesArea (move_by x distances);
  backwards = λ x distances. or_cause LeavesArea (move_back_by x distances);
}

-- the right operand is the same register as the left one
abbrev pub is_register : ℕ → Source → Bool
is_register left (Immediate value) = false
is_register left (Register register) = left == register.number

-- a state with a comparison's operands narrowed, on an edge
abbrev pub with_narrowed : AbstractState → ℕ → Source → Narrowed → AbstractState
with_narrowed known left (Immediate value) both = with_kind known left (Number both.left)
with_narrowed known left (Register right) both = with_kind (with_kind known left (Number both.left)) right.number (Number both.right)

-- what a conditional jump adds on an edge; comparing a register with itself adds nothing
abbrev pub narrowed : Option Narrowed → Edge
narrowed None = edge.Unreached
narrowed (Some both) = Narrows both

abbrev pub branch : JumpCondition → Interval → Interval → Bool → Edge
branch comparison x y taken =
    if is_register comparison.left.number comparison.right
    then Unchanged
    else narrowed (refine comparison.condition comparison.width x y taken)

-- the state on an edge, from the state before the jump and what the jump adds
abbrev pub on_edge : AbstractState → JumpCondition → Edge → LiftedState
on_edge known comparison edge.Unreached = Unreached
on_edge known comparison Unchanged = Reached known
on_edge known comparison (Narrows both) = Reached (with_narrowed known comparison.left.number comparison.right both)

-- the states on the edges out of an instruction, from the state after it and where control goes
abbrev pub edges_to : AbstractState → Successors → Edges
edges_to known successors.End = record { next = Unreached; target = Unreached }
edges_to known Next = record { next = Reached known; target = Unreached }
edges_to known Target = record { next = Unreached; target = Reached known }
edges_to known (Branch comparison next target) = record { next = on_edge known comparison next; target = on_edge known comparison target }

-- both edges of a conditional jump: it must compare numbers, which is checked after both operands are read
abbrev pub compare : AbstractState → JumpCondition → Kind → Kind → Result Edges Cause
compare known comparison (Number x) (Number y) =
    Ok (edges_to known (Branch comparison (branch comparison x y false) (branch comparison x y true)))
compare known comparison x y = Err ComparesPointer

-- the pointers in the base register of a load or a store
abbrev pub only_pointers : Kind → Result Pointers Cause
only_pointers (Record offsets) = Ok (record { area = area.Record; offsets = offsets })
only_pointers (Frame offsets) = Ok (record { area = area.Frame; offsets = offsets })
only_pointers kind = Err NotPointer

abbrev pub pointers_in : AbstractState → ℕ → Result Pointers Cause
pointers_in known register = read known register >>= only_pointers

-- pointers lie within others: they point into the same area, at offsets within theirs
pub record ArePointersWithin (pointers others : Pointers) : Type 0 where
  pub into : pointers.area ≡ others.area
  pub offsets : pointer_offsets.IsWithin pointers.offsets others.offsets

-- the registers' kinds; an immediate is truncated to the width of a comparison
abbrev pub kind_registers : AbstractState → Registers
kind_registers known = record {
  Value = Kind;
  Number = Interval;
  Pointer = Pointers;
  read = read known;
  number = Number;
  number_or = number_or;
  pointer_in = pointers_in known;
  immediate = λ immediate. Number (immediate_operand immediate);
  compared = λ width immediate. Number (single (low_bits (operand_bits width) (arithmetic.immediate_operand immediate)));
  wide = wide_number;
  extend = extend;
  negate = negate;
  byte_swap = byte_swap;
  move = tags.move kind_tags;
  operate = tags.operate kind_tags;
}

abbrev pub branches : AbstractState → JumpCondition → Result Edges Cause
branches known comparison =
    read known comparison.left.number >>= λ x. compared_operand (kind_registers known) comparison.width comparison.right >>= λ y. compare known comparison x y

-- `count` bytes from each of the offsets plus `offset` lie within the first `bytes` bytes of an area
abbrev pub lie_within : Offsets → ℤ → ℕ → ℕ → Bool
lie_within offsets offset count bytes =
    int_le (pos 0) (offsets.low +ℤ offset) && int_le ((offsets.high +ℤ offset) +ℤ pos count) (pos bytes)

abbrev pub area_length : Area → ℕ
area_length area.Record = RECORD_LENGTH
area_length area.Frame = FRAME_LENGTH

-- every byte of the frame that may be read is marked, if at most the given number of bytes is read, starting at one of the offsets plus `offset`
abbrev pub all_marked : AbstractState → Offsets → ℤ → ℕ → Bool
all_marked known offsets offset zero = true
all_marked known offsets offset (suc more) =
    all_written known.frame.marks (unsigned_abs (offsets.low +ℤ offset)) (unsigned_abs (offsets.high +ℤ offset) + more)

-- the slot that `count` bytes fill exactly, starting at the offsets plus `offset`; there is none if that isn't a single offset, or the bytes aren't
-- a whole slot. Another check makes sure that they lie within the frame.
abbrev pub known_slot : Offsets → ℤ → ℕ → Option ℕ
known_slot offsets offset count = if int_eq offsets.low offsets.high then slot_at (unsigned_abs (offsets.low +ℤ offset)) count else None

-- the kind in a slot, if there is one
abbrev pub slot_kind_or_nothing : AbstractState → Option ℕ → Kind
slot_kind_or_nothing known None = Nothing
slot_kind_or_nothing known (Some slot) = slot_kind known.frame slot

-- a kind, or the alternative if nothing is known
abbrev pub kind_or : Result Kind Cause → Kind → Result Kind Cause
kind_or otherwise Nothing = otherwise
kind_or otherwise (Number x) = Ok (Number x)
kind_or otherwise (Record x) = Ok (Record x)
kind_or otherwise (Frame x) = Ok (Frame x)

-- a load from an area: bytes of the record are always written, and bytes of the frame must be marked, or be a slot whose kind is known
abbrev pub load_area : AbstractState → LoadFormat → Pointers → ℤ → Result Kind Cause
load_area known format pointers offset = of_area pointers.area
  where
    loaded : Result Kind Cause
    loaded = Ok (Number (load format))

    of_area : Area → Result Kind Cause
    of_area area.Record = loaded
    of_area area.Frame =
        kind_or (if all_marked known pointers.offsets offset (load_length format) then loaded else Err UnwrittenFrame)
        (slot_kind_or_nothing known (known_slot pointers.offsets offset (load_length format)))

-- a load, whose bytes must lie within the area and be written
abbrev pub load_from : AbstractState → LoadFormat → Pointers → ℤ → Result Kind Cause
load_from known format pointers offset =
    if lie_within pointers.offsets offset (load_length format) (area_length pointers.area) then load_area known format pointers offset else Err OutOfBounds

-- offsets into the frame: the record is read-only
abbrev pub frame_offsets : Pointers → Result Offsets Cause
frame_offsets pointers = frame_only pointers.area pointers.offsets
  where
    frame_only : Area → Offsets → Result Offsets Cause
    frame_only area.Record offsets = Err WritesRecord
    frame_only area.Frame offsets = Ok offsets

-- the state after a possible write of at most the given number of bytes to the frame, starting at one of the offsets plus `offset`: nothing is
-- known of the slots of these bytes any more
abbrev pub touch_bytes : AbstractState → Offsets → ℤ → ℕ → AbstractState
touch_bytes known offsets offset zero = known
touch_bytes known offsets offset (suc more) = record known {
  frame = touch known.frame (unsigned_abs (offsets.low +ℤ offset)) (unsigned_abs (offsets.high +ℤ offset) + more);
}

-- the state after a certain write of `count` bytes to the frame, starting at one of the offsets plus `offset`: the bytes are marked if that is a
-- single offset, and otherwise none are
abbrev pub mark_bytes : AbstractState → Offsets → ℤ → ℕ → AbstractState
mark_bytes known offsets offset count =
    if int_eq offsets.low offsets.high
    then record known { frame = mark known.frame (unsigned_abs (offsets.low +ℤ offset)) count }
    else known

-- the state after a write of at least `least` and at most `most` bytes
abbrev pub write_bytes : AbstractState → Offsets → ℤ → ℕ → ℕ → AbstractState
write_bytes known offsets offset least most = mark_bytes (touch_bytes known offsets offset most) offsets offset least

-- the state after a store of a value of a kind: a whole slot gets the kind, and any other bytes are written
abbrev pub store_kind : AbstractState → Offsets → ℤ → ℕ → Kind → Option ℕ → AbstractState
store_kind known offsets offset count kind None = write_bytes known offsets offset count count
store_kind known offsets offset count kind (Some slot) = record known { frame = set_slot known.frame slot kind }

-- a kind whose values may be stored: pointers only in a whole slot
abbrev pub storable : Option ℕ → Kind → Result Kind Cause
storable slot (Number x) = Ok (Number x)
storable (Some slot) (Record x) = Ok (Record x)
storable (Some slot) (Frame x) = Ok (Frame x)
storable slot kind = Err StoresPointer

-- the state after a store, whose bytes must lie within the frame
abbrev pub store_at : AbstractState → Offsets → ℤ → StoreSize → Kind → Result AbstractState Cause
store_at known offsets offset size kind =
    storable (known_slot offsets offset (store_length size)) kind >>= λ kind.
    if lie_within offsets offset (store_length size) FRAME_LENGTH
    then Ok (store_kind known offsets offset (store_length size) kind (known_slot offsets offset (store_length size)))
    else Err OutOfBounds

-- all numbers of an interval lie in the interval that a prototype allows
abbrev pub are_allowed : Interval → Interval → Bool
are_allowed allowed x = nat_le allowed.low x.low && nat_le x.high allowed.high

-- the kind of an argument, if the prototype accepts all of its values
abbrev pub argument_kind : ℕ → Argument → Kind → Result Kind Cause
argument_kind number argument.Unused kind = Ok Nothing
argument_kind number (argument.Number allowed) (Number x) = if are_allowed allowed x then Ok (Number x) else Err (BadArgument number)
argument_kind number argument.Frame (Frame offsets) = Ok (Frame offsets)
argument_kind number required kind = Err (BadArgument number)

-- each argument's kind is proper
abbrev pub AreProper : List Kind → Type 0
AreProper arguments = (at : ℕ) → kind.IsProper (get_or arguments at Nothing)

-- the argument with a number, counted from 1, in the register of that number; an unused argument isn't read
abbrev pub argument_in : AbstractState → ℕ → Argument → Result Kind Cause
argument_in known number argument.Unused = Ok Nothing
argument_in known number (argument.Number allowed) = read known number >>= argument_kind number (argument.Number allowed)
argument_in known number argument.Frame = read known number >>= argument_kind number argument.Frame

-- the arguments that a prototype requires, in order
abbrev pub arguments_in : AbstractState → List Argument → Result (List Kind) Cause
arguments_in known required =
    argument_in known 1 (get_or required 0 argument.Unused) >>= λ one.
    argument_in known 2 (get_or required 1 argument.Unused) >>= λ two.
    argument_in known 3 (get_or required 2 argument.Unused) >>= λ three. Ok (one ∷ two ∷ three ∷ [])

-- the bytes of the frame that a call reads or writes, which its second argument points to and its third one counts: they lie within the frame from
-- the lowest offset on, and from the highest offset on with the highest count
abbrev pub lend_bytes : Kind → Kind → Result LentBytes Cause
lend_bytes (Frame offsets) (Number count) =
    if lie_within offsets (pos 0) count.high FRAME_LENGTH then Ok (record { offsets = offsets; count = count }) else Err OutOfBounds
lend_bytes second third = Err OutOfBounds

-- the bytes of the frame that a call may read or write lie within it, whatever their count
pub record LieWithinFrame (bytes : LentBytes) : Type 0 where
  pub offsets : pointer_offsets.IsProper bytes.offsets
  pub count : interval.IsProper bytes.count
  pub within : IsTrue (lie_within bytes.offsets (pos 0) bytes.count.high FRAME_LENGTH)

-- the bytes that a call reads must be marked
abbrev pub lend_read : AbstractState → LentBytes → Result AbstractState Cause
lend_read known bytes = if all_marked known bytes.offsets (pos 0) bytes.count.high then Ok known else Err UnwrittenFrame

-- the state after a call's use of the frame: a call that writes marks the bytes that it writes in any case, and touches those that it may write
abbrev pub lend_frame : AbstractState → FrameUse → List Kind → Result AbstractState Cause
lend_frame known frame_use.Nothing arguments = Ok known
lend_frame known Writes arguments =
    lend_bytes (get_or arguments 1 Nothing) (get_or arguments 2 Nothing) >>= λ bytes. Ok (write_bytes known bytes.offsets (pos 0) bytes.count.low bytes.count.high)
lend_frame known Reads arguments = lend_bytes (get_or arguments 1 Nothing) (get_or arguments 2 Nothing) >>= lend_read known

-- the state after a call: register 0 holds an answer in the prototype's interval, registers 1 to 5 hold nothing, and the others are kept
abbrev pub state_after : Interval → AbstractState → AbstractState
state_after answer known = record known { registers = Number answer ∷ replicate 5 Nothing ++ drop 6 known.registers }

-- a call of a helper function, if there is one
abbrev pub call : AbstractState → Option Helper → Result AbstractState Cause
call known None = Err UnknownHelper
call known (Some helper) =
    arguments_in known (signature helper).arguments >>= lend_frame known (frame_use (signature helper).group) >>= λ after. Ok (state_after (signature helper).answer after)

-- on to the next instruction with a register set
abbrev pub set_register : AbstractState → ℕ → Kind → Result Edges Cause
set_register known register kind = Ok (edges_to (with_kind known register kind) Next)

-- the domain of kinds: what is known of values
abbrev pub kinds : AbstractState → Domain
kinds known = record {
  registers = kind_registers known;
  Offset = Offsets;
  Change = AbstractState;
  Outcome = Edges;
  load = load_from known;
  frame = λ pointers offset. frame_offsets pointers;
  store_at = store_at known;
  call = λ helper. call known (Some helper);
  set = λ destination. set_register known destination.number;
  continue_with = λ updated. Ok (edges_to updated Next);
  jump = λ distance. Ok (edges_to known Target);
  branch = λ jump. compare known (record { condition = jump.condition; width = jump.width; left = jump.left; right = jump.right });
  end = λ answer. Ok (edges_to known successors.End);
}

-- The transfer function: the states on the edges out of an instruction, from the state before it, or the first check that fails. An instruction
-- that isn't reached fails no check and leads nowhere.
abbrev pub transfer : LiftedState → Insn → Result Edges Cause
transfer Unreached insn = Ok (record { next = Unreached; target = Unreached })
transfer (Reached known) insn = walk (kinds known) insn
