-- The code that decides whether the ends of a segment's line lie in a box.
use Rattle.std.specs.Prelude.{Bool, List}
use Rattle.bpf_insn.specs.declared.instruction.Insn.{Insn}
use Rattle.cql2.specs.Geometry.{Edge, contains, lies_in_bounds}
use Rattle.cql2.specs.declared.geometry.Bounds.{Bounds}
use Rattle.cql2_code.specs.Question.{Block}
use Rattle.cql2_code.specs.ShapeCode.{Marking, asks_marks, from_end_latitude, from_end_longitude, from_start_latitude, from_start_longitude, marks_met}
use Rattle.cql2_code.specs.ShapeCode.{unless_outside}
use Rattle.cql2_code.specs.declared.line.Extent.{Extent}
use Rattle.cql2_code.specs.declared.line.Extent.TheVariants.{Whole, Start}

-- the line is marked if the ends that are read lie in a box
abbrev pub within_code : Extent → Bounds → List Insn
within_code Whole bounds =
    unless_outside bounds from_start_longitude from_start_latitude (unless_outside bounds from_end_longitude from_end_latitude marks_met)
within_code Start bounds = unless_outside bounds from_start_longitude from_start_latitude marks_met

abbrev pub ends_in : Extent → Bounds → Edge → Bool
ends_in Whole bounds line = contains bounds line
ends_in Start bounds line = lies_in_bounds bounds line.start

abbrev pub marks_within : Extent → Bounds → Marking
marks_within extent bounds = record { code = within_code extent bounds; is_marked = ends_in extent bounds }

-- the ends that are read lie in a box
abbrev pub within_bounds : Extent → Bounds → Block
within_bounds extent bounds = asks_marks extent (marks_within extent bounds)
