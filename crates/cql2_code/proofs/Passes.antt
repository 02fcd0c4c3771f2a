-- Every instruction of a filter's program that is not a jump passes the verifier's checks, one after the other.
use Rattle.std.proofs.Common.{◌≡◌, ℕ, ◌+◌, ◌-◌, ◌/◌, ◌%◌, ◌^◌, ◌<◌, ◌≤◌, pos, Bool, true, false, List, [], ◌∷◌, ◌++◌, Option, Some, None}
use Rattle.std.proofs.Common.{Ok, if◌then◌else◌, refl, sym, subst, arith, rules, lit<}
use Rattle.std.specs.Prelude.{nat_le}
use Rattle.std.specs.Int.{cast_signed, w32}
use Rattle.bpf_frame.specs.FrameMap as map
use Rattle.bpf_frame.specs.OrderLaws as maps
use Rattle.bpf_helpers.specs.declared.helper.Helper.TheVariants as helper
use Rattle.bpf_insn.specs.Arithmetic.{wide_number}
use Rattle.bpf_insn.specs.Jump.{jump_distance}
use Rattle.bpf_insn.specs.declared.instruction.Insn.{Insn}
use Rattle.bpf_insn.specs.declared.instruction.Insn.TheVariants.{Exit}
use Rattle.bpf_insn.specs.declared.memory.TheConstants.{FRAME_LENGTH}
use Rattle.bpf_kinds.proofs.KindLemmas as kinds
use Rattle.bpf_kinds.specs.Interval.{between, single}
use Rattle.bpf_kinds.specs.Kind as kind
use Rattle.bpf_kinds.specs.Offsets as offsets
use Rattle.bpf_kinds.specs.declared.kind.Kind.TheVariants.{Number}
use Rattle.bpf_verify.proofs.StateLaws.{reflexive}
use Rattle.bpf_verify.specs.LiftedState.{LiftedState, Unreached, IsWithin}
use Rattle.bpf_verify.specs.Transfer.{lie_within, transfer}
use Rattle.tl_records.specs.declared.layout.TheConstants.{RECORD_LENGTH}
use Rattle.cql2.specs.declared.column.NumericColumn.{NumericColumn}
use Rattle.cql2.specs.declared.column.NumericColumn.TheVariants as column
use Rattle.cql2_code.specs.Layout.{answer_code, call, chosen_code, copy, load, move, move_to_name, from_result, from_frame, set_number, store_name}
use Rattle.cql2_code.specs.Layout.{store_word, subject_code, into_result, into_argument_1, into_argument_2, into_argument_3, wide_load}
use Rattle.cql2_code.specs.Question.{IsSoundSubject, chunk_length, coordinate_id, field_id}
use Rattle.cql2_code.specs.declared.question.Chunk.{Chunk}
use Rattle.cql2_code.specs.declared.question.Chunk.TheVariants.{Byte, Word, DoubleWord}
use Rattle.cql2_code.specs.declared.question.Subject.{Subject}
use Rattle.cql2_code.specs.declared.question.Subject.TheVariants as subject
use Rattle.cql2_code.proofs.Columns.{coordinate_small, field_small}
use Rattle.cql2_code.proofs.Operands.{wide_is}
use Rattle.cql2_code.proofs.AbstractState.{Held, KnowsMore, answered, any_number, before, compared, given, given_any, given_two, knowing}
use Rattle.cql2_code.proofs.AbstractState.{knows_more, named, nothing, pointed, rests_after, resting, stored, up_to, within_unwritten}

-- a number up to another
among : (number most : ℕ) → number ≤ most → kind.IsWithin (Number (single number)) (up_to most)
among number most small = record { low = omega arith; high = small }

-- an interval of numbers up to another
fewer : (low high most : ℕ) → high ≤ most → kind.IsWithin (Number (between low high)) (up_to most)
fewer low high most small = record { low = omega arith; high = small }

lies_inside : (i count : ℕ) → i + count ≤ RECORD_LENGTH → lie_within (offsets.between (pos 0) (pos 0)) (pos i) count RECORD_LENGTH ≡ true
lies_inside i count within = search rules

-- the number of a wide load
abbrev wide : ℕ → ℕ
wide number = wide_number (cast_signed w32 (number % 2 ^ 32)) (cast_signed w32 (number / 2 ^ 32))

wide_fits : (number : ℕ) → number < 2 ^ 64 → wide number ≤ 2 ^ 64 - 1
wide_fits number fits = let is = wide_is number fits in omega arith

module _ (keeps : Bool) where
  -- an instruction that is not a jump passes, and the state after it suffices there
  pub record Passes (insn : Insn) (needed : LiftedState) : Type 0 where
    pub after : LiftedState
    pub passes : transfer (before keeps insn) insn ≡ Ok (record { next = after; target = Unreached })
    pub straight : jump_distance insn ≡ None
    pub within : IsWithin after needed

  -- the state that instructions need before them, given the state needed after them
  abbrev pub needed_by : List Insn → LiftedState → LiftedState
  needed_by [] end = end
  needed_by (insn ∷ rest) end = before keeps insn

  -- all instructions pass
  abbrev pub AllPass : List Insn → LiftedState → Type 0
  AllPass [] end = Unit {0}
  AllPass (insn ∷ rest) end = Passes insn (needed_by rest end) × AllPass rest end

  pub needed_by-append : (a b : List Insn) (end : LiftedState) → needed_by (a ++ b) end ≡ needed_by a (needed_by b end)
  needed_by-append [] b end = refl
  needed_by-append (insn ∷ a) b end = refl

  pub all_pass-append : (a b : List Insn) (end : LiftedState) → AllPass a (needed_by b end) → AllPass b end → AllPass (a ++ b) end
  all_pass-append [] b end one two = two
  all_pass-append (insn ∷ a) b end one two = (
    subst (Passes insn) (sym (needed_by-append a b end)) one.0,
    all_pass-append a b end one.1 two,
  )

  -- an instruction with this state after it
  pub passes : (insn : Insn) (held other : Held) → transfer (before keeps insn) insn ≡ Ok (record { next = knowing keeps held; target = Unreached })
      → jump_distance insn ≡ None → KnowsMore held other → Passes insn (knowing keeps other)
  passes insn held other is straight more =
      record { after = knowing keeps held; passes = is; straight = straight; within = knows_more keeps held other more }

  -- moves of numbers

  pub passes_move_0 : (number : ℕ) → number < 2 ^ 64 → Passes (move into_result (pos number)) (answered keeps)
  passes_move_0 number fits =
      passes (move into_result (pos number)) (record nothing { v0 = Number (single number) }) (record nothing { v0 = any_number }) refl refl
      (record { v0 = among number (2 ^ 64 - 1) (omega arith); v1 = tt; v2 = tt; v3 = tt; frame = maps.reflexive map.unwritten })

  pub passes_move_1 : (number most : ℕ) → number ≤ most → Passes (move into_argument_1 (pos number)) (given keeps most)
  passes_move_1 number most small =
      passes (move into_argument_1 (pos number)) (record nothing { v1 = Number (single number) }) (record nothing { v1 = up_to most }) refl refl
      (record { v0 = tt; v1 = among number most small; v2 = tt; v3 = tt; frame = maps.reflexive map.unwritten })

  -- the end of a program
  pub passes_exit : (needed : LiftedState) → Passes Exit needed
  passes_exit needed = record { after = Unreached; passes = refl; straight = refl; within = tt }

  -- an instruction that puts a number into register 0
  takes : (insn : Insn) (low high : ℕ) (frame : map.Contents) → high < 2 ^ 64
      → (let held : Held = record nothing { v0 = Number (between low high); frame = frame } in
      transfer (before keeps insn) insn ≡ Ok (record { next = knowing keeps held; target = Unreached }))
      → jump_distance insn ≡ None → Passes insn (answered keeps)
  takes insn low high frame fits is straight =
      passes insn (record nothing { v0 = Number (between low high); frame = frame }) (record nothing { v0 = any_number }) is straight
      (record { v0 = fewer low high (2 ^ 64 - 1) (omega arith); v1 = tt; v2 = tt; v3 = tt; frame = within_unwritten frame })

  -- calls

  passes_field : Passes (call helper.Field) (answered keeps)
  passes_field = takes (call helper.Field) 0 99999999999 map.unwritten (lit< tt) refl refl

  passes_has : Passes (call helper.HasField) (answered keeps)
  passes_has = takes (call helper.HasField) 0 1 map.unwritten (lit< tt) refl refl

  passes_names : Passes (call helper.NameCount) (answered keeps)
  passes_names = takes (call helper.NameCount) 0 5000 map.unwritten (lit< tt) refl refl

  passes_ranges : Passes (call helper.RangeCount) (answered keeps)
  passes_ranges = takes (call helper.RangeCount) 1 1001 map.unwritten (lit< tt) refl refl

  passes_in_range : Passes (call helper.InRange) (answered keeps)
  passes_in_range = takes (call helper.InRange) 0 3 map.unwritten (lit< tt) refl refl

  passes_name_is : Passes (call helper.NameIs) (answered keeps)
  passes_name_is = takes (call helper.NameIs) 0 1 (stored 8) (lit< tt) refl refl

  pub passes_coordinate : Passes (call helper.Coord) (answered keeps)
  passes_coordinate = takes (call helper.Coord) 0 (2 ^ 64 - 1) map.unwritten (lit< tt) refl refl

  passes_emit : Passes (call helper.Emit) (resting keeps)
  passes_emit = record {
    after = knowing keeps (record nothing { v0 = Number (single 0) });
    passes = refl;
    straight = refl;
    within = rests_after keeps (record nothing { v0 = Number (single 0) });
  }

  -- loads

  pub passes_load : (chunk : Chunk) (i : ℕ) → i + chunk_length chunk ≤ RECORD_LENGTH → Passes (load chunk i) (answered keeps)
  passes_load Byte i within = takes (load Byte i) 0 (2 ^ 8 - 1) map.unwritten (lit< tt) (rw (lies_inside i 1 within)) refl
  passes_load Word i within = takes (load Word i) 0 (2 ^ 32 - 1) map.unwritten (lit< tt) (rw (lies_inside i 4 within)) refl
  passes_load DoubleWord i within = takes (load DoubleWord i) 0 (2 ^ 64 - 1) map.unwritten (lit< tt) (rw (lies_inside i 8 within)) refl

  -- numbers, by their halves

  pub passes_wide_load_1 : (number : ℕ) → number < 2 ^ 64 → Passes (wide_load into_argument_1 number) (compared keeps)
  passes_wide_load_1 number fits =
      passes (wide_load into_argument_1 number) (record nothing { v0 = any_number; v1 = Number (single (wide number)) })
      (record nothing { v0 = any_number; v1 = any_number }) refl refl
      (record {
        v0 = kinds.reflexive any_number;
        v1 = among (wide number) (2 ^ 64 - 1) (wide_fits number fits);
        v2 = tt;
        v3 = tt;
        frame = maps.reflexive map.unwritten;
      })

  -- register 2 receives a number
  passes_second : (insn : Insn) (number : ℕ) → number ≤ 2 ^ 64 - 1
      → (let held : Held = record nothing { v1 = any_number; v2 = Number (single number) } in
      transfer (before keeps insn) insn ≡ Ok (record { next = knowing keeps held; target = Unreached }))
      → jump_distance insn ≡ None → Passes insn (given_two keeps)
  passes_second insn number fits is straight =
      passes insn (record nothing { v1 = any_number; v2 = Number (single number) }) (record nothing { v1 = any_number; v2 = any_number }) is
      straight
      (record {
        v0 = tt;
        v1 = kinds.reflexive any_number;
        v2 = among number (2 ^ 64 - 1) fits;
        v3 = tt;
        frame = maps.reflexive map.unwritten;
      })

  passes_set_number : (number : ℕ) → number < 2 ^ 64 → Passes (set_number into_argument_2 number) (given_two keeps)
  passes_set_number number fits = by_size (nat_le number 2147483647)
    where
      by_size : (small : Bool) → Passes (if small then move into_argument_2 (pos number) else wide_load into_argument_2 number) (given_two keeps)
      by_size true = passes_second (move into_argument_2 (pos number)) number (omega arith) refl refl
      by_size false = passes_second (wide_load into_argument_2 number) (wide number) (wide_fits number fits) refl refl

  before_set_number : (number : ℕ) → before keeps (set_number into_argument_2 number) ≡ given_any keeps
  before_set_number number = by_size (nat_le number 2147483647)
    where
      by_size : (small : Bool) → before keeps (if small then move into_argument_2 (pos number) else wide_load into_argument_2 number) ≡ given_any keeps
      by_size true = refl
      by_size false = refl

  -- an instruction with exactly this state after it
  exactly : (insn : Insn) (needed : LiftedState) → transfer (before keeps insn) insn ≡ Ok (record { next = needed; target = Unreached })
      → jump_distance insn ≡ None → Passes insn needed
  exactly insn needed is straight = record { after = needed; passes = is; straight = straight; within = reflexive needed }

  passes_copy_10 : Passes (copy into_argument_2 from_frame) (pointed keeps FRAME_LENGTH)
  passes_copy_10 = exactly (copy into_argument_2 from_frame) (pointed keeps FRAME_LENGTH) refl refl

  passes_move_to_name : Passes move_to_name (pointed keeps 480)
  passes_move_to_name = exactly move_to_name (pointed keeps 480) refl refl

  passes_move_3 : Passes (move into_argument_3 (pos 30)) (named keeps 0)
  passes_move_3 = exactly (move into_argument_3 (pos 30)) (named keeps 0) refl refl

  pub passes_copy_0 : Passes (copy into_argument_1 from_result) (given_any keeps)
  passes_copy_0 =
      passes (copy into_argument_1 from_result) (record nothing { v0 = any_number; v1 = any_number }) (record nothing { v1 = any_number }) refl refl
      (record { v0 = tt; v1 = kinds.reflexive any_number; v2 = tt; v3 = tt; frame = maps.reflexive map.unwritten })

  -- the stores of a name

  store_passes : (required : List ℕ) → AllPass (store_name required) (named keeps 8)
  store_passes required = (
    exactly (store_word 0 required) (named keeps 1) refl refl,
    (
      exactly (store_word 1 required) (named keeps 2) refl refl,
      (
        exactly (store_word 2 required) (named keeps 3) refl refl,
        (
          exactly (store_word 3 required) (named keeps 4) refl refl,
          (
            exactly (store_word 4 required) (named keeps 5) refl refl,
            (
              exactly (store_word 5 required) (named keeps 6) refl refl,
              (exactly (store_word 6 required) (named keeps 7) refl refl, (exactly (store_word 7 required) (named keeps 8) refl refl, tt)),
            ),
          ),
        ),
      ),
    ),
  )

  -- codes

  name_is_passes : (name : ℕ) (required : List ℕ) → name < 2 ^ 16 → AllPass (subject_code (subject.NameIs name required)) (answered keeps)
  name_is_passes name required fits = (
    passes_move_1 name (2 ^ 64 - 1) (omega arith),
    (
      passes_copy_10,
      (
        passes_move_to_name,
        (passes_move_3, all_pass-append (store_name required) (call helper.NameIs ∷ []) (answered keeps) (store_passes required) (passes_name_is, tt)),
      ),
    ),
  )

  pub subject_passes : (s : Subject) → IsSoundSubject s → AllPass (subject_code s) (answered keeps)
  subject_passes (subject.Number column) sound = (passes_move_1 (field_id column) 16 (field_small column), (passes_field, tt))
  subject_passes (subject.HasNumber column) sound = (passes_move_1 (field_id column) 16 (field_small column), (passes_has, tt))
  subject_passes (subject.Coordinate column) sound = (
    passes_move_1 (coordinate_id column) 3 (coordinate_small column),
    (passes_coordinate, tt),
  )
  subject_passes subject.Names sound = (passes_names, tt)
  subject_passes subject.Ranges sound = (passes_ranges, tt)
  subject_passes (subject.InRange range house) sound =
      let fits = sound.0 in (
        subst (Passes (move into_argument_1 (pos range))) (sym (before_set_number house)) (passes_move_1 range (2 ^ 64 - 1) (omega arith)),
        (passes_set_number house sound.1, (passes_in_range, tt)),
      )
  subject_passes (subject.NameIs name required) sound = name_is_passes name required sound.0
  subject_passes (subject.Load chunk at) sound = (passes_load chunk at sound, tt)

  -- the code of a subject needs only the record's pointer
  pub subject_rests : (s : Subject) → needed_by (subject_code s) (answered keeps) ≡ resting keeps
  subject_rests (subject.Number column) = refl
  subject_rests (subject.HasNumber column) = refl
  subject_rests (subject.Coordinate column) = refl
  subject_rests subject.Names = refl
  subject_rests subject.Ranges = refl
  subject_rests (subject.InRange range house) = refl
  subject_rests (subject.NameIs name required) = refl
  subject_rests (subject.Load chunk at) = refl

  pub answer_passes : (number : ℕ) (needed : LiftedState) → number < 2 ^ 64 → AllPass (answer_code number) needed
  answer_passes number needed fits = (passes_move_0 number fits, (passes_exit needed, tt))

  pub chosen_passes : (score : Option NumericColumn) (needed : LiftedState) → AllPass (chosen_code score) needed
  chosen_passes None needed = answer_passes 1 needed (lit< tt)
  chosen_passes (Some (column.Number field)) needed = (
    passes_move_1 (field_id field) 16 (field_small field),
    (passes_field, (passes_copy_0, (passes_emit, answer_passes 1 needed (lit< tt)))),
  )
  chosen_passes (Some (column.Coordinate end)) needed = (
    passes_move_1 (coordinate_id end) 3 (coordinate_small end),
    (passes_coordinate, (passes_copy_0, (passes_emit, answer_passes 1 needed (lit< tt)))),
  )

  pub chosen_rests : (score : Option NumericColumn) (needed : LiftedState) → needed_by (chosen_code score) needed ≡ resting keeps
  chosen_rests None needed = refl
  chosen_rests (Some (column.Number field)) needed = refl
  chosen_rests (Some (column.Coordinate end)) needed = refl
