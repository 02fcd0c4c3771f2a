-- Runs of the code that reads a segment's line.
use Rattle.std.proofs.Common.{◌≡◌, ℕ, ◌-◌, ◌≤◌, ◌^◌, ℤ, pos, Option, Some, None, IfSome, refl, ◌∙◌, subst, arith}
use Rattle.std.specs.Prelude.{unsigned_abs}
use Rattle.bpf_helpers.specs.Meaning.{coordinate_word}
use Rattle.bpf_helpers.specs.declared.helper.Helper.TheVariants.{Coord}
use Rattle.bpf_insn.specs.Arithmetic.{extension_of}
use Rattle.bpf_insn.specs.declared.instruction.Insn.TheVariants.{MoveSignExtended}
use Rattle.bpf_insn.specs.declared.instruction.SignExtension.TheVariants.{Bits32To64}
use Rattle.bpf_insn.specs.declared.value.Value.TheVariants as value
use Rattle.bpf_meaning.specs.declared.effect.Change.TheVariants.{SetRegister}
use Rattle.tl_segments.specs.Segment.{SegmentParts}
use Rattle.cql2.specs.Column.{numeric_value}
use Rattle.cql2.specs.declared.column.CoordinateColumn.{CoordinateColumn}
use Rattle.cql2.specs.declared.column.CoordinateColumn.TheVariants.{Frlong, Frlat}
use Rattle.cql2.specs.declared.column.NumericColumn.TheVariants.{Coordinate}
use Rattle.cql2.proofs.Sides.{IsShort}
use Rattle.cql2_code.specs.Layout.{call, copy, from_result, into_argument_1, move, wide_load}
use Rattle.cql2_code.specs.Question.{coordinate_id}
use Rattle.cql2_code.specs.ShapeCode.{coordinate_at, end_latitude, end_longitude, into_end_latitude, into_first, into_second, into_side, line_code}
use Rattle.cql2_code.specs.ShapeCode.{line_of, or_zero}
use Rattle.cql2_code.specs.declared.line.Extent.{Extent}
use Rattle.cql2_code.proofs.Calls.{answered, calls_coordinate}
use Rattle.cql2_code.proofs.ColumnBounds.{IsUpTo, column_up_to}
use Rattle.cql2_code.proofs.Columns.{coordinate_allowed}
use Rattle.cql2_code.proofs.NumberLemmas.{word_read}
use Rattle.cql2_code.proofs.SavedSteps.{copies_to_saved, with_saved}
use Rattle.cql2_code.proofs.ShapeHands.{Hand, filled}
use Rattle.cql2_code.proofs.Steps.{with_1, Does, Runs, Scratch, Setting, changes, moves_1, no_more, one_more}
use Rattle.cql2_code.proofs.Words.{word}

-- coordinates have at most nine digits, and a missing one counts as 0

or_zero_small : (found : Option ℤ) → IfSome found (IsUpTo (10 ^ 9 - 1)) → unsigned_abs (or_zero found) ≤ 10 ^ 9
or_zero_small None few = omega arith
or_zero_small (Some millionths) few = omega arith

at_small : (segment : SegmentParts) (column : CoordinateColumn) → unsigned_abs (coordinate_at segment column) ≤ 10 ^ 9
at_small segment column = or_zero_small _ (column_up_to (Coordinate column) segment.bytes)

pub line_short : (extent : Extent) (segment : SegmentParts) → IsShort (line_of extent segment)
line_short extent segment = record {
  start = record { longitude = at_small segment Frlong; latitude = at_small segment Frlat };
  end = record { longitude = at_small segment (end_longitude extent); latitude = at_small segment (end_latitude extent) };
}

-- a coordinate as helper functions return it
word_of : (found : Option ℤ) → coordinate_word found ≡ word (or_zero found)
word_of None = refl
word_of (Some millionths) = refl

module _ (extent : Extent) (on : Setting) where
  reads : (from : Scratch) (column : CoordinateColumn)
      → Does on (call Coord) (with_1 from (coordinate_id column)) (answered from (word (coordinate_at on.segment column)) 0)
  reads from column =
      subst (λ (n : ℕ). Does on (call Coord) (with_1 from (coordinate_id column)) (answered from n 0))
      (word_read (Coordinate column) on.segment ∙ word_of (numeric_value (Coordinate column) on.segment.bytes))
      (calls_coordinate on from (coordinate_id column) (coordinate_allowed column))

  module _ (from : Scratch) where
    abbrev first : Scratch
    first = with_saved 0 (answered from (word (coordinate_at on.segment Frlong)) 0) (word (coordinate_at on.segment Frlong))

    abbrev second : Scratch
    second = with_saved 1 (answered first (word (coordinate_at on.segment Frlat)) 0) (word (coordinate_at on.segment Frlat))

    abbrev third : Scratch
    third =
        let longitude = word (coordinate_at on.segment (end_longitude extent)) in with_saved 2 (answered second longitude 0) longitude

    abbrev pub fourth : Scratch
    fourth = answered third (word (coordinate_at on.segment (end_latitude extent))) 0

    -- the registers once all of them are set
    abbrev pub start_hand : Hand
    start_hand = record {
      lead = word (coordinate_at on.segment (end_latitude extent));
      mark = 0;
      side = extension_of Bits32To64 (word (coordinate_at on.segment (end_latitude extent)));
      first = 0;
      second = 0;
    }

    pub line_runs : Runs on (line_code extent) from (filled fourth (line_of extent on.segment) start_hand)
    line_runs =
        one_more (moves_1 on from 0)
        (one_more (reads from Frlong)
        (one_more (copies_to_saved on 0 (answered from (word (coordinate_at on.segment Frlong)) 0) (word (coordinate_at on.segment Frlong)))
        (one_more (moves_1 on first 1)
        (one_more (reads first Frlat)
        (one_more (copies_to_saved on 1 (answered first (word (coordinate_at on.segment Frlat)) 0) (word (coordinate_at on.segment Frlat)))
        (one_more (moves_1 on second (coordinate_id (end_longitude extent)))
        (one_more (reads second (end_longitude extent))
        (one_more (copies_to_saved on 2 (answered second longitude 0) longitude)
        (one_more (moves_1 on third (coordinate_id (end_latitude extent)))
        (one_more (reads third (end_latitude extent))
        (one_more set_1 (one_more set_5 (one_more set_3 (one_more set_4 (one_more set_2 no_more)))))))))))))))
      where
        longitude : ℕ
        longitude = word (coordinate_at on.segment (end_longitude extent))

        with_mark : Scratch
        with_mark = with_1 fourth 0

        with_end : Scratch
        with_end = record with_mark { v5 = value.Number (word (coordinate_at on.segment (end_latitude extent))) }

        with_first : Scratch
        with_first = record with_end { v3 = value.Number 0 }

        with_second : Scratch
        with_second = record with_first { v4 = value.Number 0 }

        set_1 : Does on (wide_load into_argument_1 0) fourth with_mark
        set_1 = changes on _ (SetRegister into_argument_1 (value.Number 0)) _ _ (λ place. refl) (λ place next. refl)

        set_5 : Does on (copy into_end_latitude from_result) with_mark with_end
        set_5 = changes on _ (SetRegister into_end_latitude (value.Number _)) _ _ (λ place. refl) (λ place next. refl)

        set_3 : Does on (wide_load into_first 0) with_end with_first
        set_3 = changes on _ (SetRegister into_first (value.Number 0)) _ _ (λ place. refl) (λ place next. refl)

        set_4 : Does on (move into_second (pos 0)) with_first with_second
        set_4 = changes on _ (SetRegister into_second (value.Number 0)) _ _ (λ place. refl) (λ place next. refl)

        set_2 : Does on (MoveSignExtended Bits32To64 into_side from_result) with_second (filled fourth (line_of extent on.segment) start_hand)
        set_2 = changes on _ (SetRegister into_side (value.Number _)) _ _ (λ place. refl) (λ place next. refl)
