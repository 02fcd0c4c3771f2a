-- The causes of refusals: each is that of a check that an instruction can fail.
use Rattle.std.proofs.Common.{ℕ, ℤ, pos, Bool, true, false, if◌then◌else◌, List, get_or, Option, Some, None, Result, Ok, Err, subst}
use Rattle.std.specs.Int.{w32, cast_unsigned}
use Rattle.bpf_helpers.specs.Helper.{by_number, signature}
use Rattle.bpf_helpers.specs.Group.{frame_use}
use Rattle.bpf_helpers.specs.declared.helper.Helper.{Helper}
use Rattle.bpf_helpers.specs.declared.signature.Argument.{Argument}
use Rattle.bpf_helpers.specs.declared.signature.Argument.TheVariants as argument
use Rattle.bpf_helpers.specs.declared.signature.FrameUse.{FrameUse}
use Rattle.bpf_helpers.specs.declared.signature.FrameUse.TheVariants as frame_use
use Rattle.bpf_insn.specs.Memory.{load_length, store_length}
use Rattle.bpf_insn.specs.declared.instruction.Insn.{Insn}
use Rattle.bpf_insn.specs.declared.instruction.Insn.TheVariants.{Alu, MoveSignExtended, Negate, ByteSwap, JumpIf, Jump, Call, Exit, Load, StoreImmediate, Store, WideLoad}
use Rattle.bpf_insn.specs.declared.instruction.LoadFormat.{LoadFormat}
use Rattle.bpf_insn.specs.declared.instruction.Operation.{Operation}
use Rattle.bpf_insn.specs.declared.instruction.Operation.TheVariants.{Add, Subtract, Move}
use Rattle.bpf_insn.specs.declared.instruction.Source.{Source}
use Rattle.bpf_insn.specs.declared.instruction.Source.TheVariants.{Immediate, Register}
use Rattle.bpf_insn.specs.declared.instruction.StoreSize.{StoreSize}
use Rattle.bpf_insn.specs.declared.instruction.Width.{Width}
use Rattle.bpf_insn.specs.declared.instruction.Width.TheVariants.{Bits32, Bits64}
use Rattle.bpf_insn.specs.declared.memory.TheConstants.{FRAME_LENGTH}
use Rattle.bpf_insn.specs.declared.value.Area.{Area}
use Rattle.bpf_insn.specs.declared.value.Area.TheVariants as area
use Rattle.bpf_kinds.specs.Moving.{near_distances, move_by, move_back_by}
use Rattle.bpf_kinds.specs.declared.interval.Interval.{Interval}
use Rattle.bpf_kinds.specs.declared.kind.Kind.{Kind}
use Rattle.bpf_kinds.specs.declared.kind.Kind.TheVariants.{Number, Record, Frame, Nothing}
use Rattle.bpf_kinds.specs.declared.offsets.Offsets.{Offsets}
use Rattle.bpf_meaning.specs.Checks.{◌>>=◌}
use Rattle.bpf_meaning.specs.Tags as tags
use Rattle.bpf_meaning.specs.Walk.{compared_operand, number_in, operand, operation_value, store, walk}
use Rattle.bpf_meaning.specs.Walk.{call as of_helper}
use Rattle.bpf_meaning.specs.declared.cause.Cause.{Cause}
use Rattle.bpf_meaning.specs.declared.cause.Cause.TheVariants as cause
use Rattle.bpf_verify.specs.Annotation.{IsRefusedAt}
use Rattle.bpf_verify.specs.LiftedState.{LiftedState, Unreached, Reached, kind_of}
use Rattle.bpf_verify.specs.Transfer.{all_marked, area_length, argument_in, argument_kind, arguments_in, are_allowed, compare, frame_offsets}
use Rattle.bpf_verify.specs.Transfer.{kind_or, kind_registers, kind_tags, kinds, known_slot, tagged_kind, lend_bytes, lend_frame, lend_read, lie_within, load_area}
use Rattle.bpf_verify.specs.Transfer.{load_from, number_or, only_pointers, or_cause, pointers_in, read, read_kind, slot_kind_or_nothing, storable}
use Rattle.bpf_verify.specs.Transfer.{store_at, transfer}
use Rattle.bpf_verify.specs.declared.abstract_state.AbstractState.{AbstractState}
use Rattle.bpf_verify.specs.declared.comparison.JumpCondition.{JumpCondition}
use Rattle.bpf_verify.specs.declared.memory.Pointers.{Pointers}

-- a check of an instruction can fail with this cause
abbrev pub IsOfCheck : Cause → Type 0
IsOfCheck cause.OutOfProgram = ⊥
IsOfCheck cause.IntoWide = ⊥
IsOfCheck cause = Unit {0}

abbrev FailsByCheck : {A : Type 0} → Result A Cause → Type 0
FailsByCheck (Ok x) = Unit {0}
FailsByCheck (Err cause) = IsOfCheck cause

both : {A B : Type 0} (first : Result A Cause) (next : A → Result B Cause) → FailsByCheck first → ((x : A) → FailsByCheck (next x))
    → FailsByCheck (first >>= next)
both (Ok x) next is others = others x
both (Err cause) next is others = is

either : {A : Type 0} (test : Bool) (passes fails : Result A Cause) → FailsByCheck passes → FailsByCheck fails
    → FailsByCheck (if test then passes else fails)
either true passes fails is other = is
either false passes fails is other = other

-- Registers and arithmetic

read_is : (register : ℕ) (kind : Kind) → FailsByCheck (read_kind register kind)
read_is register Nothing = tt
read_is register (Number x) = tt
read_is register (Record x) = tt
read_is register (Frame x) = tt

number_is : (cause : Cause) → IsOfCheck cause → (kind : Kind) → FailsByCheck (number_or cause kind)
number_is cause is Nothing = is
number_is cause is (Number x) = tt
number_is cause is (Record x) = is
number_is cause is (Frame x) = is

found_is : {A : Type 0} (cause : Cause) → IsOfCheck cause → (found : Option A) → FailsByCheck (or_cause cause found)
found_is cause is None = is
found_is cause is (Some x) = tt

move_is : (width : Width) (kind : Kind) → FailsByCheck (tags.move kind_tags width kind)
move_is Bits64 kind = tt
move_is Bits32 Nothing = tt
move_is Bits32 (Number x) = tt
move_is Bits32 (Record x) = tt
move_is Bits32 (Frame x) = tt

forward_is : (offset : Offsets) (y : Interval) → FailsByCheck (tags.move_pointer kind_tags offset y)
forward_is offset y = both (or_cause cause.PointerArithmetic (near_distances y)) (λ distances. or_cause cause.LeavesArea (move_by offset distances))
    (found_is cause.PointerArithmetic tt (near_distances y)) (λ distances. found_is cause.LeavesArea tt (move_by offset distances))

backward_is : (offset : Offsets) (y : Interval) → FailsByCheck (tags.move_pointer_back kind_tags offset y)
backward_is offset y = both (or_cause cause.PointerArithmetic (near_distances y)) (λ distances. or_cause cause.LeavesArea (move_back_by offset distances))
    (found_is cause.PointerArithmetic tt (near_distances y)) (λ distances. found_is cause.LeavesArea tt (move_back_by offset distances))

on_pointer_is : (operation : Operation) (offset : Offsets) (y : Interval) → FailsByCheck (tags.operate_on_pointer kind_tags operation offset y)
on_pointer_is Add offset y = forward_is offset y
on_pointer_is Subtract offset y = backward_is offset y
on_pointer_is operation offset y = tt

with_pointer_is : (operation : Operation) (x : Interval) (offset : Offsets) → FailsByCheck (tags.operate_with_pointer kind_tags operation x offset)
with_pointer_is Add x offset = forward_is offset x
with_pointer_is operation x offset = tt

tagged_is : (operation : Operation) (width : Width) (x y : tags.Tagged Interval Offsets)
    → FailsByCheck (tags.operate_tagged kind_tags operation width x y)
tagged_is operation width (tags.Number x) (tags.Number y) = tt
tagged_is operation Bits64 (tags.Pointer area offset) (tags.Number y) =
    both (tags.operate_on_pointer kind_tags operation offset y) _ (on_pointer_is operation offset y) (λ moved. tt)
tagged_is operation Bits64 (tags.Number x) (tags.Pointer area offset) =
    both (tags.operate_with_pointer kind_tags operation x offset) _ (with_pointer_is operation x offset) (λ moved. tt)
tagged_is operation width x y = tt

-- the other steps of an instruction
module _ (known : AbstractState) where
  operand_is : (source : Source) → FailsByCheck (operand (kind_registers known) source)
  operand_is (Immediate value) = tt
  operand_is (Register register) = read_is register.number (kind_of known register.number)

  compared_is : (width : Width) (source : Source) → FailsByCheck (compared_operand (kind_registers known) width source)
  compared_is width (Immediate value) = tt
  compared_is width (Register register) = read_is register.number (kind_of known register.number)

  number_in_is : (register : ℕ) → FailsByCheck (number_in (kind_registers known) register)
  number_in_is register =
      both (read known register) (number_or cause.PointerArithmetic) (read_is register (kind_of known register))
      (number_is cause.PointerArithmetic tt)

  value_is : (operation : Operation) (width : Width) (destination : ℕ) (source : Source)
      → FailsByCheck (operation_value (kind_registers known) operation width destination source)
  value_is Move width destination source =
      both (operand (kind_registers known) source) (tags.move kind_tags width) (operand_is source) (move_is width)
  value_is operation width destination source =
      both (read known destination) _ (read_is destination (kind_of known destination)) (λ x.
      both (operand (kind_registers known) source) _ (operand_is source) (λ y. tagged_is operation width (tagged_kind x) (tagged_kind y)))

  compare_is : (comparison : JumpCondition) (x y : Kind) → FailsByCheck (compare known comparison x y)
  compare_is comparison (Number x) (Number y) = tt
  compare_is comparison x y = tt

  -- Memory

  only_is : (kind : Kind) → FailsByCheck (only_pointers kind)
  only_is Nothing = tt
  only_is (Number x) = tt
  only_is (Record x) = tt
  only_is (Frame x) = tt

  pointers_is : (base : ℕ) → FailsByCheck (pointers_in known base)
  pointers_is base = both (read known base) only_pointers (read_is base (kind_of known base)) only_is

  kind_or_is : (otherwise : Result Kind Cause) (kind : Kind) → FailsByCheck otherwise → FailsByCheck (kind_or otherwise kind)
  kind_or_is otherwise Nothing is = is
  kind_or_is otherwise (Number x) is = tt
  kind_or_is otherwise (Record x) is = tt
  kind_or_is otherwise (Frame x) is = tt

  load_area_is : (format : LoadFormat) (into : Area) (x : Offsets) (offset : ℤ)
      → FailsByCheck (load_area known format (record { area = into; offsets = x }) offset)
  load_area_is format area.Record x offset = tt
  load_area_is format area.Frame x offset =
      kind_or_is _ (slot_kind_or_nothing known (known_slot x offset (load_length format)))
      (either (all_marked known x offset (load_length format)) _ _ tt tt)

  load_is : (format : LoadFormat) (pointers : Pointers) (offset : ℤ) → FailsByCheck (load_from known format pointers offset)
  load_is format pointers offset =
      either (lie_within pointers.offsets offset (load_length format) (area_length pointers.area)) _ _
      (load_area_is format pointers.area pointers.offsets offset) tt

  frame_is : (into : Area) (x : Offsets) → FailsByCheck (frame_offsets (record { area = into; offsets = x }))
  frame_is area.Record x = tt
  frame_is area.Frame x = tt

  storable_is : (slot : Option ℕ) (kind : Kind) → FailsByCheck (storable slot kind)
  storable_is None Nothing = tt
  storable_is None (Number x) = tt
  storable_is None (Record x) = tt
  storable_is None (Frame x) = tt
  storable_is (Some slot) Nothing = tt
  storable_is (Some slot) (Number x) = tt
  storable_is (Some slot) (Record x) = tt
  storable_is (Some slot) (Frame x) = tt

  store_at_is : (x : Offsets) (offset : ℤ) (size : StoreSize) (kind : Kind) → FailsByCheck (store_at known x offset size kind)
  store_at_is x offset size kind =
      both (storable (known_slot x offset (store_length size)) kind) _ (storable_is (known_slot x offset (store_length size)) kind)
      (λ kind. either (lie_within x offset (store_length size) FRAME_LENGTH) _ _ tt tt)

  store_is : (size : StoreSize) (base : ℕ) (offset : ℤ) (source : Source) → FailsByCheck (store (kinds known) size base offset source)
  store_is size base offset source =
      both (pointers_in known base) _ (pointers_is base) (λ pointers.
      both (frame_offsets pointers) _ (frame_is pointers.area pointers.offsets) (λ from.
      both (operand (kind_registers known) source) _ (operand_is source) (store_at_is from offset size)))

  -- Calls

  argument_kind_is : (number : ℕ) (required : Argument) (kind : Kind) → FailsByCheck (argument_kind number required kind)
  argument_kind_is number argument.Unused kind = tt
  argument_kind_is number (argument.Number allowed) Nothing = tt
  argument_kind_is number (argument.Number allowed) (Number x) = either (are_allowed allowed x) _ _ tt tt
  argument_kind_is number (argument.Number allowed) (Record x) = tt
  argument_kind_is number (argument.Number allowed) (Frame x) = tt
  argument_kind_is number argument.Frame Nothing = tt
  argument_kind_is number argument.Frame (Number x) = tt
  argument_kind_is number argument.Frame (Record x) = tt
  argument_kind_is number argument.Frame (Frame x) = tt

  argument_is : (number : ℕ) (required : Argument) → FailsByCheck (argument_in known number required)
  argument_is number argument.Unused = tt
  argument_is number (argument.Number allowed) =
      both (read known number) _ (read_is number (kind_of known number)) (argument_kind_is number (argument.Number allowed))
  argument_is number argument.Frame =
      both (read known number) _ (read_is number (kind_of known number)) (argument_kind_is number argument.Frame)

  arguments_are : (required : List Argument) → FailsByCheck (arguments_in known required)
  arguments_are required =
      let first = get_or required 0 argument.Unused in
      let second = get_or required 1 argument.Unused in
      let third = get_or required 2 argument.Unused in
      both (argument_in known 1 first) _ (argument_is 1 first) (λ one.
      both (argument_in known 2 second) _ (argument_is 2 second) (λ two.
      both (argument_in known 3 third) _ (argument_is 3 third) (λ three. tt)))

  lend_bytes_is : (x y : Kind) → FailsByCheck (lend_bytes x y)
  lend_bytes_is (Frame offsets) (Number count) = either (lie_within offsets (pos 0) count.high FRAME_LENGTH) _ _ tt tt
  lend_bytes_is x y = tt

  lend_frame_is : (lent : FrameUse) (arguments : List Kind) → FailsByCheck (lend_frame known lent arguments)
  lend_frame_is frame_use.Nothing arguments = tt
  lend_frame_is frame_use.Writes arguments =
      both (lend_bytes (get_or arguments 1 Nothing) (get_or arguments 2 Nothing)) _
      (lend_bytes_is (get_or arguments 1 Nothing) (get_or arguments 2 Nothing)) (λ bytes. tt)
  lend_frame_is frame_use.Reads arguments =
      both (lend_bytes (get_or arguments 1 Nothing) (get_or arguments 2 Nothing)) (lend_read known)
      (lend_bytes_is (get_or arguments 1 Nothing) (get_or arguments 2 Nothing))
      (λ bytes. either (all_marked known bytes.offsets (pos 0) bytes.count.high) _ _ tt tt)

  call_is : (helper : Option Helper) → FailsByCheck (of_helper (kinds known) helper)
  call_is None = tt
  call_is (Some helper) =
      let required = (signature helper).arguments in
      let lent = frame_use (signature helper).group in
      both (arguments_in known required >>= lend_frame known lent) _
      (both (arguments_in known required) (lend_frame known lent) (arguments_are required) (lend_frame_is lent)) (λ after. tt)

  -- Instructions

  walk_is : (insn : Insn) → FailsByCheck (walk (kinds known) insn)
  walk_is (Alu operation width destination source) =
      both (operation_value (kind_registers known) operation width destination.number source) _
      (value_is operation width destination.number source) (λ kind. tt)
  walk_is (MoveSignExtended extension destination source) =
      both (number_in (kind_registers known) source.number) _ (number_in_is source.number) (λ x. tt)
  walk_is (Negate width destination) =
      both (number_in (kind_registers known) destination.number) _ (number_in_is destination.number) (λ x. tt)
  walk_is (ByteSwap order width destination) =
      both (number_in (kind_registers known) destination.number) _ (number_in_is destination.number) (λ x. tt)
  walk_is (JumpIf condition width left right distance) =
      both (read known left.number) _ (read_is left.number (kind_of known left.number)) (λ x.
      both (compared_operand (kind_registers known) width right) _ (compared_is width right) (λ y.
      compare_is (record { condition = condition; width = width; left = left; right = right }) x y))
  walk_is (Jump distance) = tt
  walk_is (Call immediate) =
      both (of_helper (kinds known) (by_number (cast_unsigned w32 immediate))) _ (call_is (by_number (cast_unsigned w32 immediate))) (λ after. tt)
  walk_is Exit =
      both (read known 0 >>= number_or cause.ExitNotNumber) _
      (both (read known 0) (number_or cause.ExitNotNumber) (read_is 0 (kind_of known 0)) (number_is cause.ExitNotNumber tt)) (λ x. tt)
  walk_is (Load format destination base offset) =
      both (pointers_in known base.number >>= λ pointers. load_from known format pointers offset) _
      (both (pointers_in known base.number) _ (pointers_is base.number) (λ pointers. load_is format pointers offset)) (λ kind. tt)
  walk_is (StoreImmediate size base offset immediate) =
      both (store (kinds known) size base.number offset (Immediate immediate)) _
      (store_is size base.number offset (Immediate immediate)) (λ after. tt)
  walk_is (Store size base offset source) =
      both (store (kinds known) size base.number offset (Register source)) _ (store_is size base.number offset (Register source)) (λ after. tt)
  walk_is (WideLoad destination immediate next_immediate) = tt

transfer_is : (state : LiftedState) (insn : Insn) → FailsByCheck (transfer state insn)
transfer_is Unreached insn = tt
transfer_is (Reached known) insn = walk_is known insn

-- a code is refused for a check that fails
pub refused_is : (code : List Insn) (place : ℕ) (cause : Cause) → IsRefusedAt code place cause → IsOfCheck cause
refused_is code place cause refused = subst FailsByCheck refused.fails (transfer_is (refused.annotation place) refused.insn)
