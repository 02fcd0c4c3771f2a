-- The state before each instruction of a filter's program is proper.
use Rattle.std.proofs.Common.{ℕ, zero, suc, ◌+◌, ◌-◌, ◌*◌, ◌/◌, ◌^◌, ◌<◌, ◌≤◌, ℤ, pos, Bool, true, false, List, [], ◌∷◌, get_or, Option, Some, None}
use Rattle.std.proofs.Common.{if◌then◌else◌, refl}
use Rattle.std.proofs.Common.{arith, lit≤, lit<}
use Rattle.std.specs.Prelude.{◌==◌, FitsSigned, unsigned_abs}
use Rattle.std.specs.Int.{w16}
use Rattle.std.proofs.lemmas.Int.{ints}
use Rattle.bpf_frame.proofs.ProperLemmas.{mark_is_proper, touch_is_proper, unwritten_is_proper}
use Rattle.bpf_frame.specs.FrameMap as map
use Rattle.bpf_frame.specs.FrameMap.{mark, touch, unwritten}
use Rattle.bpf_insn.specs.Code.{instruction_at}
use Rattle.bpf_insn.specs.declared.instruction.Insn.{Insn}
use Rattle.bpf_insn.specs.declared.instruction.Insn.TheVariants.{Alu, MoveSignExtended, Negate, JumpIf, Call, Exit, StoreImmediate, WideLoad}
use Rattle.bpf_insn.specs.declared.instruction.Operation.{Operation}
use Rattle.bpf_insn.specs.declared.instruction.Operation.TheVariants.{Move}
use Rattle.bpf_insn.specs.declared.instruction.Source.{Source}
use Rattle.bpf_insn.specs.declared.instruction.Source.TheVariants.{Immediate, Register}
use Rattle.bpf_insn.specs.declared.memory.TheConstants.{FRAME_LENGTH}
use Rattle.bpf_kinds.specs.Interval.{single}
use Rattle.bpf_kinds.specs.Kind as kind
use Rattle.bpf_kinds.specs.Offsets as offsets
use Rattle.bpf_kinds.specs.declared.kind.Kind.{Kind}
use Rattle.bpf_kinds.specs.declared.kind.Kind.TheVariants.{Number, Nothing}
use Rattle.bpf_verify.specs.LiftedState.{LiftedState, Reached, IsProper, entry}
use Rattle.bpf_verify.proofs.PassLemmas.{entry_is_proper}
use Rattle.cql2_code.proofs.AbstractState.{Held, annotation_of, answered, any_number, before, before_alu, before_call, before_compare, before_copy}
use Rattle.cql2_code.proofs.AbstractState.{before_move, before_operation, before_wide_load, compared, frame_at, given, given_any, given_two}
use Rattle.cql2_code.proofs.AbstractState.{saved, knowing, knowing_saved, named, nothing, pointed, registers_of, resting, setting_7, setting_8}
use Rattle.cql2_code.proofs.AbstractState.{Six, before_combination, before_jump, drawing, drawn, setting_2, setting_3, setting_4, six_numbers, six_registers}
use Rattle.cql2_code.proofs.AbstractState.{setting_9, state_before, stored, up_to}

at_proper : (offset : ℤ) → FitsSigned w16 offset → offsets.IsProper (offsets.between offset offset)
at_proper offset fits = record { ordered = omega (arith, ints); low = fits; high = fits }

frame_at_proper : (at : ℕ) → at ≤ FRAME_LENGTH → kind.IsProper (frame_at at)
frame_at_proper at within = at_proper (pos at) (record { sfits = omega arith })

up_to_proper : (most : ℕ) → most < 2 ^ 64 → kind.IsProper (up_to most)
up_to_proper most fits = record { ordered = omega arith; fits = fits }

-- the states of registers 0 to 3 are proper, one by one
record AreProper (held : Held) : Type 0 where
  v0 : kind.IsProper held.v0
  v1 : kind.IsProper held.v1
  v2 : kind.IsProper held.v2
  v3 : kind.IsProper held.v3

stored_proper : (words : ℕ) → words ≤ 8 → map.IsProper (stored words)
stored_proper zero few = unwritten_is_proper
stored_proper (suc word) few =
    let before = stored_proper word (omega arith) in
    let at = 480 + 4 * word in
    mark_is_proper (touch (stored word) at (at + 3)) at 4 (touch_is_proper (stored word) at (at + 3) before (omega arith) (omega arith))
    (omega arith)

any_proper : kind.IsProper any_number
any_proper = up_to_proper (2 ^ 64 - 1) (lit< tt)

-- the states in a list, and the one past its end
abbrev AllProper : List LiftedState → Type 0
AllProper [] = Unit {0}
AllProper (x ∷ xs) = IsProper x × AllProper xs

listed_proper : (states : List LiftedState) (otherwise : LiftedState) → AllProper states → IsProper otherwise → (at : ℕ)
    → IsProper (get_or states at otherwise)
listed_proper [] otherwise all rest at = rest
listed_proper (x ∷ xs) otherwise all rest zero = all.0
listed_proper (x ∷ xs) otherwise all rest (suc at) = listed_proper xs otherwise all.1 rest at

-- the states of registers 7 to 9 are proper, one by one
record AreProperSaved (a b c : Kind) : Type 0 where
  v7 : kind.IsProper a
  v8 : kind.IsProper b
  v9 : kind.IsProper c

knowing_saved_proper : (a b c : Kind) (held : Held) → AreProperSaved a b c → AreProper held → map.IsProper held.frame
    → IsProper (knowing_saved (a ∷ b ∷ c ∷ []) held)
knowing_saved_proper a b c held saved_proper proper frame = record { count = refl; kinds = each; frame = frame }
  where
    each : (register : ℕ) → kind.IsProper (get_or (registers_of (a ∷ b ∷ c ∷ []) held) register Nothing)
    each zero = proper.v0
    each (suc zero) = proper.v1
    each (suc (suc zero)) = proper.v2
    each (suc (suc (suc zero))) = proper.v3
    each (suc (suc (suc (suc zero)))) = tt
    each (suc (suc (suc (suc (suc zero))))) = tt
    each (suc (suc (suc (suc (suc (suc zero)))))) = entry_is_proper.kinds 1
    each (suc (suc (suc (suc (suc (suc (suc zero))))))) = saved_proper.v7
    each (suc (suc (suc (suc (suc (suc (suc (suc zero)))))))) = saved_proper.v8
    each (suc (suc (suc (suc (suc (suc (suc (suc (suc zero))))))))) = saved_proper.v9
    each (suc (suc (suc (suc (suc (suc (suc (suc (suc (suc register)))))))))) =
        entry_is_proper.kinds (suc (suc (suc (suc (suc (suc (suc (suc (suc (suc register))))))))))

saved_proper : (keeps : Bool) → kind.IsProper (saved keeps)
saved_proper true = any_proper
saved_proper false = tt

all_nothing : AreProper nothing
all_nothing = record { v0 = tt; v1 = tt; v2 = tt; v3 = tt }

setting_7_proper : IsProper setting_7
setting_7_proper = knowing_saved_proper _ _ _ nothing (record { v7 = tt; v8 = tt; v9 = tt }) all_nothing unwritten_is_proper

setting_8_proper : IsProper setting_8
setting_8_proper = knowing_saved_proper _ _ _ nothing (record { v7 = any_proper; v8 = tt; v9 = tt }) all_nothing unwritten_is_proper

setting_9_proper : IsProper setting_9
setting_9_proper = knowing_saved_proper _ _ _ nothing (record { v7 = any_proper; v8 = any_proper; v9 = tt }) all_nothing unwritten_is_proper

module _ (keeps : Bool) where
  knowing_proper : (held : Held) → AreProper held → map.IsProper held.frame → IsProper (knowing keeps held)
  knowing_proper held proper frame =
      knowing_saved_proper (saved keeps) (saved keeps) (saved keeps) held (record { v7 = saved_proper keeps; v8 = saved_proper keeps; v9 = saved_proper keeps })
      proper frame

  resting_proper : IsProper (resting keeps)
  resting_proper = knowing_proper nothing (record { v0 = tt; v1 = tt; v2 = tt; v3 = tt }) unwritten_is_proper

  answered_proper : IsProper (answered keeps)
  answered_proper =
      knowing_proper (record nothing { v0 = any_number }) (record { v0 = any_proper; v1 = tt; v2 = tt; v3 = tt }) unwritten_is_proper

  given_proper : (most : ℕ) → most < 2 ^ 64 → IsProper (given keeps most)
  given_proper most fits =
      knowing_proper (record nothing { v1 = up_to most }) (record { v0 = tt; v1 = up_to_proper most fits; v2 = tt; v3 = tt })
      unwritten_is_proper

  given_any_proper : IsProper (given_any keeps)
  given_any_proper =
      knowing_proper (record nothing { v1 = any_number }) (record { v0 = tt; v1 = any_proper; v2 = tt; v3 = tt }) unwritten_is_proper

  compared_proper : IsProper (compared keeps)
  compared_proper =
      knowing_proper (record nothing { v0 = any_number; v1 = any_number })
      (record { v0 = any_proper; v1 = any_proper; v2 = tt; v3 = tt }) unwritten_is_proper

  given_two_proper : IsProper (given_two keeps)
  given_two_proper =
      knowing_proper (record nothing { v1 = any_number; v2 = any_number })
      (record { v0 = tt; v1 = any_proper; v2 = any_proper; v3 = tt }) unwritten_is_proper

  pointed_proper : (at : ℕ) → at ≤ FRAME_LENGTH → IsProper (pointed keeps at)
  pointed_proper at within =
      knowing_proper (record nothing { v1 = any_number; v2 = frame_at at })
      (record { v0 = tt; v1 = any_proper; v2 = frame_at_proper at within; v3 = tt }) unwritten_is_proper

  named_proper : (words : ℕ) → words ≤ 8 → IsProper (named keeps words)
  named_proper words few =
      let thirty : kind.IsProper (Number (single 30)) = record { ordered = omega arith; fits = lit< tt } in
      knowing_proper (record { v0 = Nothing; v1 = any_number; v2 = frame_at 480; v3 = Number (single 30); frame = stored words })
      (record { v0 = tt; v1 = any_proper; v2 = frame_at_proper 480 (lit≤ tt); v3 = thirty }) (stored_proper words few)

  -- the states of registers 0 to 5 are proper, one by one
  record AreProperSix (six : Six) : Type 0 where
    s0 : kind.IsProper six.s0
    s1 : kind.IsProper six.s1
    s2 : kind.IsProper six.s2
    s3 : kind.IsProper six.s3
    s4 : kind.IsProper six.s4
    s5 : kind.IsProper six.s5

  drawing_proper : (six : Six) → AreProperSix six → IsProper (drawing keeps six)
  drawing_proper six proper = record { count = refl; kinds = each; frame = unwritten_is_proper }
    where
      each : (register : ℕ) → kind.IsProper (get_or (six_registers keeps six) register Nothing)
      each zero = proper.s0
      each (suc zero) = proper.s1
      each (suc (suc zero)) = proper.s2
      each (suc (suc (suc zero))) = proper.s3
      each (suc (suc (suc (suc zero)))) = proper.s4
      each (suc (suc (suc (suc (suc zero))))) = proper.s5
      each (suc (suc (suc (suc (suc (suc register)))))) = resting_proper.kinds (suc (suc (suc (suc (suc (suc register))))))

  drawn_proper : IsProper (drawn keeps)
  drawn_proper = drawing_proper six_numbers
      (record { s0 = any_proper; s1 = any_proper; s2 = any_proper; s3 = any_proper; s4 = any_proper; s5 = any_proper })

  setting_2_proper : IsProper (setting_2 keeps)
  setting_2_proper = drawing_proper _
      (record { s0 = any_proper; s1 = any_proper; s2 = tt; s3 = any_proper; s4 = any_proper; s5 = any_proper })

  setting_3_proper : IsProper (setting_3 keeps)
  setting_3_proper = drawing_proper _ (record { s0 = any_proper; s1 = any_proper; s2 = tt; s3 = tt; s4 = tt; s5 = any_proper })

  setting_4_proper : IsProper (setting_4 keeps)
  setting_4_proper = drawing_proper _ (record { s0 = any_proper; s1 = any_proper; s2 = tt; s3 = any_proper; s4 = tt; s5 = any_proper })

  answered_all : AllProper (answered keeps ∷ answered keeps ∷ answered keeps ∷ [])
  answered_all = (answered_proper, (answered_proper, (answered_proper, tt)))

  before_move_proper : (register : ℕ) → IsProper (before_move keeps register)
  before_move_proper = listed_proper
      (resting keeps ∷ resting keeps ∷ given_any keeps ∷ pointed keeps 480 ∷ setting_4 keeps ∷ resting keeps ∷ resting keeps ∷ setting_7
      ∷ setting_8 ∷ setting_9 ∷ []) (resting keeps) (
        resting_proper,
        (
          resting_proper,
          (
            given_any_proper,
            (
              pointed_proper 480 (lit≤ tt),
              (setting_4_proper, (resting_proper, (resting_proper, (setting_7_proper, (setting_8_proper, (setting_9_proper, tt)))))),
            ),
          ),
        ),
      ) resting_proper

  before_copy_proper : (register source : ℕ) → IsProper (before_copy keeps register source)
  before_copy_proper register source = by_source (source == 3)
    where
      states : List LiftedState
      states = given_any keeps ∷ answered keeps ∷ given_any keeps ∷ drawn keeps ∷ drawn keeps ∷ compared keeps ∷ Reached entry ∷ answered keeps
          ∷ answered keeps ∷ answered keeps ∷ []

      all : AllProper states
      all = (
        given_any_proper,
        (answered_proper, (given_any_proper, (drawn_proper, (drawn_proper, (compared_proper, (entry_is_proper, answered_all)))))),
      )

      by_source : (third : Bool) → IsProper (if third then drawn keeps else get_or states register (resting keeps))
      by_source true = drawn_proper
      by_source false = listed_proper states (resting keeps) all resting_proper register

  before_wide_load_proper : (register : ℕ) → IsProper (before_wide_load keeps register)
  before_wide_load_proper = listed_proper
      (resting keeps ∷ answered keeps ∷ given_any keeps ∷ setting_3 keeps ∷ drawn keeps ∷ []) (resting keeps)
      (resting_proper, (answered_proper, (given_any_proper, (setting_3_proper, (drawn_proper, tt))))) resting_proper

  before_call_proper : (helper : ℕ) → IsProper (before_call keeps helper)
  before_call_proper =
      let ids = given_proper 16 (lit< tt) in
      let from_6 : AllProper (resting keeps ∷ named keeps 8 ∷ given_any keeps ∷ given keeps 3 ∷ []) =
      (resting_proper, (named_proper 8 (lit≤ tt), (given_any_proper, (given_proper 3 (lit< tt), tt)))) in
      listed_proper
      (resting keeps ∷ given keeps 16 ∷ given keeps 16 ∷ resting keeps ∷ resting keeps ∷ given_two keeps ∷ resting keeps ∷ named keeps 8
      ∷ given_any keeps ∷ given keeps 3 ∷ []) (resting keeps)
      (resting_proper, (ids, (ids, (resting_proper, (resting_proper, (given_two_proper, from_6)))))) resting_proper

  before_operation_proper : (register : ℕ) → IsProper (before_operation keeps register)
  before_operation_proper =
      let pointer = pointed_proper FRAME_LENGTH (lit≤ tt) in
      listed_proper (answered keeps ∷ drawn keeps ∷ pointed keeps FRAME_LENGTH ∷ drawn keeps ∷ drawn keeps ∷ []) (pointed keeps FRAME_LENGTH)
      (answered_proper, (drawn_proper, (pointer, (drawn_proper, (drawn_proper, tt))))) pointer

  before_combination_proper : (register : ℕ) → IsProper (before_combination keeps register)
  before_combination_proper =
      listed_proper (compared keeps ∷ compared keeps ∷ compared keeps ∷ drawn keeps ∷ drawn keeps ∷ []) (compared keeps)
      (compared_proper, (compared_proper, (compared_proper, (drawn_proper, (drawn_proper, tt))))) compared_proper

  before_alu_proper : (operation : Operation) (register : ℕ) (source : Source) → IsProper (before_alu keeps operation register source)
  before_alu_proper Move register (Register source) = before_copy_proper register source.number
  before_alu_proper Move register (Immediate number) = before_move_proper register
  before_alu_proper operation register (Register source) = before_combination_proper register
  before_alu_proper operation register (Immediate number) = before_operation_proper register

  before_compare_proper : (right : Source) → IsProper (before_compare keeps right)
  before_compare_proper (Immediate number) = answered_proper
  before_compare_proper (Register register) = compared_proper

  before_jump_proper : (left : ℕ) (right : Source) → IsProper (before_jump keeps left right)
  before_jump_proper left right =
      listed_proper (before_compare keeps right ∷ []) (drawn keeps) (before_compare_proper right, tt) drawn_proper left

  before_proper : (insn : Insn) → IsProper (before keeps insn)
  before_proper (Alu operation width destination source) = before_alu_proper operation destination.number source
  before_proper (Negate width destination) = answered_proper
  before_proper (MoveSignExtended extension destination source) = setting_2_proper
  before_proper (JumpIf condition width left right distance) = before_jump_proper left.number right
  before_proper (Call number) = before_call_proper (unsigned_abs number)
  before_proper Exit = answered_proper
  before_proper (StoreImmediate size base offset number) = named_proper ((32 - unsigned_abs offset) / 4) (omega arith)
  before_proper (WideLoad destination low high) = before_wide_load_proper destination.number
  before_proper insn = resting_proper

  pub annotation_proper : (code : List Insn) (place : ℕ) → IsProper (annotation_of keeps code place)
  annotation_proper code place = by_insn (instruction_at code place)
    where
      by_insn : (found : Option Insn) → IsProper (state_before keeps found)
      by_insn None = tt
      by_insn (Some insn) = before_proper insn
