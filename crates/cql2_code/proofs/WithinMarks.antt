-- Runs of the code that decides whether the ends of a line lie in a box: it marks the line if they do.
use Rattle.std.proofs.Common.{◌≡◌, ℕ, ℤ, Bool, true, false, not, List, if◌then◌else◌, refl, subst}
use Rattle.std.specs.Prelude.{◌&&◌}
use Rattle.bpf_insn.specs.Arithmetic.{immediate_operand}
use Rattle.bpf_insn.specs.declared.instruction.Insn.{Insn}
use Rattle.bpf_insn.specs.declared.register.Register.{Register}
use Rattle.cql2.specs.Geometry.{Edge, Point, lies_in_bounds}
use Rattle.cql2.specs.declared.filter.Comparison.{Comparison}
use Rattle.cql2.specs.declared.filter.Comparison.TheVariants.{Greater, Less}
use Rattle.cql2.specs.declared.geometry.Bounds.{Bounds}
use Rattle.cql2.proofs.Sides.{IsNear, IsShort}
use Rattle.cql2_code.specs.ShapeCode.{compare_number, from_end_latitude, from_end_longitude, from_start_latitude, from_start_longitude, marks_met}
use Rattle.cql2_code.specs.ShapeCode.{rounded_up, unless_outside}
use Rattle.cql2_code.specs.Skipping.{Compared, unless}
use Rattle.cql2_code.specs.WithinCode.{ends_in, within_code}
use Rattle.cql2_code.specs.declared.line.Extent.{Extent}
use Rattle.cql2_code.specs.declared.line.Extent.TheVariants.{Whole, Start}
use Rattle.cql2_code.proofs.DrawnRuns.{Compares, holds, runs_unless}
use Rattle.cql2_code.proofs.ShapeHands.{Hand, compares_end_latitude, compares_end_longitude, compares_start_latitude, compares_start_longitude, filled}
use Rattle.cql2_code.proofs.ShapeMarks.{Marks, and-true, marks_here}
use Rattle.cql2_code.proofs.SideWords.{near_fits}
use Rattle.cql2_code.proofs.Steps.{Runs, Scratch, Setting}
use Rattle.cql2_code.proofs.WithinLemmas.{down_fits, inside_is, up_fits}
use Rattle.cql2_code.proofs.Words.{compares_greater, compares_less, word}

module _ (on : Setting) (base : Scratch) (line : Edge) where
  -- the part is skipped if a comparison holds
  skipping : (compared : Compared) (part : List Insn) (hand : Hand) (x y : ℕ) (skipped met : Bool)
      → Compares on (filled base line hand) compared x y → holds compared x y ≡ skipped → Marks on base line part hand met
      → Marks on base line (unless compared part) hand (not skipped && met)
  skipping compared part hand x y skipped met compares is marks =
      by_answer skipped
      (subst (λ (t : Bool). Runs on (unless compared part) (filled base line hand) (if t then filled base line hand else filled base line marks.to)) is
      (runs_unless on (filled base line hand) compared x y compares part (filled base line marks.to) marks.runs))
    where
      by_answer : (t : Bool)
          → Runs on (unless compared part) (filled base line hand) (if t then filled base line hand else filled base line marks.to)
          → Marks on base line (unless compared part) hand (not t && met)
      by_answer true runs = record { to = hand; runs = runs; lead = refl; mark_is = refl }
      by_answer false runs = record { to = marks.to; runs = runs; lead = marks.lead; mark_is = marks.mark_is }

  -- a register holds a coordinate
  abbrev ComparesBy : Hand → Register → ℤ → Type 0
  ComparesBy hand register coordinate = (comparison : Comparison) (number : ℤ)
      → Compares on (filled base line hand) (compare_number comparison register number) (word coordinate) (immediate_operand number)

  outside_marks : (bounds : Bounds) (longitude latitude : Register) (point : Point) (hand : Hand) → IsNear point
      → ComparesBy hand longitude point.longitude → ComparesBy hand latitude point.latitude
      → (part : List Insn) (met : Bool) → Marks on base line part hand met
      → Marks on base line (unless_outside bounds longitude latitude part) hand (lies_in_bounds bounds point && met)
  outside_marks bounds longitude latitude point hand near by_longitude by_latitude part met marks =
      let here = near_fits point near in
      subst (Marks on base line (unless_outside bounds longitude latitude part) hand) (inside_is bounds point met)
      (skipping (compare_number Less longitude (rounded_up bounds.west)) _ hand _ _ _ _ (by_longitude Less (rounded_up bounds.west))
      (compares_less point.longitude (rounded_up bounds.west) (record { first = here.0; second = up_fits bounds.west }))
      (skipping (compare_number Greater longitude bounds.east.millionths) _ hand _ _ _ _ (by_longitude Greater bounds.east.millionths)
      (compares_greater point.longitude bounds.east.millionths (record { first = here.0; second = down_fits bounds.east }))
      (skipping (compare_number Less latitude (rounded_up bounds.south)) _ hand _ _ _ _ (by_latitude Less (rounded_up bounds.south))
      (compares_less point.latitude (rounded_up bounds.south) (record { first = here.1; second = up_fits bounds.south }))
      (skipping (compare_number Greater latitude bounds.north.millionths) part hand _ _ _ met (by_latitude Greater bounds.north.millionths)
      (compares_greater point.latitude bounds.north.millionths (record { first = here.1; second = down_fits bounds.north }))
      marks))))

  module _ (short : IsShort line) (bounds : Bounds) (hand : Hand) where
    start_marks : (part : List Insn) (met : Bool) → Marks on base line part hand met
        → Marks on base line (unless_outside bounds from_start_longitude from_start_latitude part) hand (lies_in_bounds bounds line.start && met)
    start_marks =
        outside_marks bounds from_start_longitude from_start_latitude line.start hand short.start
        (λ comparison number. compares_start_longitude on base line comparison number hand)
        (λ comparison number. compares_start_latitude on base line comparison number hand)

    end_marks : (part : List Insn) (met : Bool) → Marks on base line part hand met
        → Marks on base line (unless_outside bounds from_end_longitude from_end_latitude part) hand (lies_in_bounds bounds line.end && met)
    end_marks =
        outside_marks bounds from_end_longitude from_end_latitude line.end hand short.end
        (λ comparison number. compares_end_longitude on base line comparison number hand)
        (λ comparison number. compares_end_latitude on base line comparison number hand)

    pub start_in : Marks on base line (unless_outside bounds from_start_longitude from_start_latitude marks_met) hand (lies_in_bounds bounds line.start)
    start_in =
        subst (Marks on base line (unless_outside bounds from_start_longitude from_start_latitude marks_met) hand)
        (and-true (lies_in_bounds bounds line.start)) (start_marks marks_met true (marks_here on base line hand))

    pub end_in : Marks on base line (unless_outside bounds from_end_longitude from_end_latitude marks_met) hand (lies_in_bounds bounds line.end)
    end_in =
        subst (Marks on base line (unless_outside bounds from_end_longitude from_end_latitude marks_met) hand)
        (and-true (lies_in_bounds bounds line.end)) (end_marks marks_met true (marks_here on base line hand))

    -- the ends that are read lie in the box
    pub within_marks : (extent : Extent) → Marks on base line (within_code extent bounds) hand (ends_in extent bounds line)
    within_marks Whole = start_marks _ _ end_in
    within_marks Start = start_in
