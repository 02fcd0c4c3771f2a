-- Runs of a subject's code: they load its number into register 0.
use Rattle.std.proofs.Common.{◌≡◌, ℕ, ◌<◌, ◌^◌, pos, Bool, true, false, List, take, drop, if◌then◌else◌, subst, arith}
use Rattle.std.specs.Prelude.{nat_le}
use Rattle.std.proofs.Common.{map, take_all}
use Rattle.bpf_helpers.specs.declared.helper.Helper.TheVariants as helper
use Rattle.bpf_insn.specs.Frame.{Byte}
use Rattle.bpf_insn.specs.declared.instruction.Insn.{Insn}
use Rattle.tl_segments.specs.Segment.{IsSegment}
use Rattle.cql2_code.specs.Layout.{call, move, set_number, store_name, subject_code, wide_load, into_argument_2}
use Rattle.cql2_code.specs.Question.{IsSoundSubject, coordinate_id, field_id, value as number_in}
use Rattle.cql2_code.specs.declared.question.Subject.{Subject}
use Rattle.cql2_code.specs.declared.question.Subject.TheVariants.{Number, HasNumber, Coordinate, Names, Ranges, InRange, NameIs, Load}
use Rattle.cql2_code.proofs.Calls.{answered, calls_coordinate, calls_field, calls_has, calls_in_range, calls_names, calls_ranges}
use Rattle.cql2_code.proofs.Columns.{coordinate_allowed, field_allowed}
use Rattle.cql2_code.proofs.Loads.{loads}
use Rattle.cql2_code.proofs.Operands.{wide_is}
use Rattle.cql2_code.proofs.Steps.{with_0, with_1, with_2, Does, Runs, Scratch, Setting, copies_10_to_2, loads_wide_2, moves_1, moves_2}
use Rattle.cql2_code.proofs.Steps.{moves_3, and_then, no_more, one_more}
use Rattle.cql2_code.proofs.Stores.{Holds, Stores, calls_name_is, moves_to_name, name_arguments, name_read, name_stored, to_name}

-- a subject's code leaves its number in register 0, whatever the other registers hold
pub record Takes (on : Setting) (subject : Subject) (from : Scratch) : Type 0 where
  pub to : Scratch
  pub runs : Runs on (subject_code subject) from (with_0 to (number_in subject on.segment))

-- a number is put into register 2, by its size
sets_2 : (on : Setting) (from : Scratch) (number : ℕ) → number < 2 ^ 64 → Does on (set_number into_argument_2 number) from (with_2 from number)
sets_2 on from number fits = by_size (nat_le number 2147483647)
  where
    wide : Insn
    wide = wide_load into_argument_2 number

    by_size : (small : Bool) → Does on (if small then move into_argument_2 (pos number) else wide) from (with_2 from number)
    by_size true = moves_2 on from number
    by_size false = subst (λ (n : ℕ). Does on wide from (with_2 from n)) (wide_is number fits) (loads_wide_2 on from _ _)

takes_in_range : (on : Setting) (range house : ℕ) (from : Scratch) → IsSoundSubject (InRange range house)
    → Takes on (InRange range house) from
takes_in_range on range house from sound =
    let fits = sound.0 in
    record {
      to = answered from 0 house;
      runs = one_more (moves_1 on from range)
          (one_more (sets_2 on (with_1 from range) house sound.1)
          (one_more (calls_in_range on from range house (omega arith) sound.1) no_more));
    }

-- a name that is stored in the frame and compared
takes_name_is : (on : Setting) (name : ℕ) (required : List ℕ) (from : Scratch) → IsSoundSubject (NameIs name required)
    → Takes on (NameIs name required) from
takes_name_is on name required from sound = record {
  to = answered with_name 0 480;
  runs = one_more (moves_1 on from name)
      (one_more (copies_10_to_2 on (with_1 from name))
      (one_more (moves_to_name on (with_1 from name))
      (one_more (moves_3 on (record (with_1 from name) { v2 = to_name }) 30)
      (and_then stored.runs (one_more call_7 no_more)))));
}
  where
    stored : Stores on (store_name required) (name_arguments from name) required
    stored = name_stored on (name_arguments from name) required sound.1

    with_name : Scratch
    with_name = record from { frame = stored.frame; whole = stored.whole }

    whole : take 32 required ≡ required
    whole = take_all 32 required (let long = sound.1.length in omega arith)

    reads : take 30 (drop 480 stored.frame.bytes) ≡ map Byte (take 30 required)
    reads = name_read stored.frame.bytes required (let long = sound.1.length in omega arith)
        (subst (Holds stored.frame.bytes) whole stored.holds)

    call_7 : Does on (call helper.NameIs) (name_arguments with_name name) (answered with_name (number_in (NameIs name required) on.segment) 480)
    call_7 = calls_name_is on with_name name (take 30 required) (let fits = sound.0 in omega arith) reads

-- every sound subject's code does this
pub takes : (on : Setting) (subject : Subject) (from : Scratch) → IsSoundSubject subject → IsSegment on.segment → Takes on subject from
takes on (Number column) from sound segment = record {
  to = answered from 0 0;
  runs = one_more (moves_1 on from (field_id column)) (one_more (calls_field on from (field_id column) (field_allowed column)) no_more);
}
takes on (HasNumber column) from sound segment = record {
  to = answered from 0 0;
  runs = one_more (moves_1 on from (field_id column)) (one_more (calls_has on from (field_id column) (field_allowed column)) no_more);
}
takes on (Coordinate column) from sound segment = record {
  to = answered from 0 0;
  runs = one_more (moves_1 on from (coordinate_id column))
      (one_more (calls_coordinate on from (coordinate_id column) (coordinate_allowed column)) no_more);
}
takes on Names from sound segment = record { to = answered from 0 0; runs = one_more (calls_names on from) no_more }
takes on Ranges from sound segment = record { to = answered from 0 0; runs = one_more (calls_ranges on from) no_more }
takes on (InRange range house) from sound segment = takes_in_range on range house from sound
takes on (NameIs name required) from sound segment = takes_name_is on name required from sound
takes on (Load chunk at) from sound segment = record {
  to = from;
  runs = one_more (loads on from chunk at (let long = segment.bytes.length in omega arith)) no_more;
}
