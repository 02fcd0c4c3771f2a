-- Runs of a box's code: it marks that the line meets an edge of the box.
use Rattle.std.proofs.Common.{◌≡◌, ℕ, ℤ, Bool, true, not, List, [], ◌∷◌, refl, sym, ap, ◌∙◌, subst, arith}
use Rattle.std.specs.Prelude.{◌&&◌, ◌≤ℤ◌}
use Rattle.std.specs.Int.{int_max, int_min}
use Rattle.std.proofs.lemmas.Int.{ints}
use Rattle.bpf_insn.specs.declared.instruction.Insn.{Insn}
use Rattle.cql2.specs.Femtodegrees.{in_femtodegrees}
use Rattle.cql2.specs.Geometry.{Edge, Point, are_greater, are_less, boxes_overlap, corner, femtodegrees, finer_edge, is_left, is_right, lies_beside}
use Rattle.cql2.specs.Geometry.{meets_edge}
use Rattle.cql2.specs.declared.filter.Comparison.TheVariants.{Greater, GreaterOrEqual, Less, LessOrEqual}
use Rattle.cql2.specs.declared.geometry.Bound.{Bound}
use Rattle.cql2.specs.declared.geometry.Bounds.{Bounds}
use Rattle.cql2.proofs.Sides.{IsShort, across}
use Rattle.cql2.proofs.Upright.{meets_east, meets_north}
use Rattle.cql2_code.specs.Layout.{from_result}
use Rattle.cql2_code.specs.ShapeCode.{bounds_edge_code, compare, from_first}
use Rattle.cql2_code.specs.ShapeCode.{from_side, inner_limits, marks_met, northeast, rectangles_of, rounded_up}
use Rattle.cql2_code.specs.ShapeCode.{southwest, unless_both_lie}
use Rattle.cql2_code.specs.declared.bounds.Rectangle.{Rectangle}
use Rattle.cql2_code.specs.declared.bounds.Rounding.TheVariants.{Down, Up}
use Rattle.cql2_code.proofs.BoundsHands.{corners_run}
use Rattle.cql2_code.proofs.BoundsSides.{corner_left_holds, corner_right_holds, greater_rounded, less_rounded, rounded_across}
use Rattle.cql2_code.proofs.DrawnRuns.{holds}
use Rattle.cql2_code.proofs.ShapeHands.{Hand, compares_first_result, compares_side_result}
use Rattle.cql2_code.proofs.ShapeMarks.{LimitsFit, Marks, after, and-true, beyond_marks, both_are, marks_here, neither, reaches, skipping}
use Rattle.cql2_code.proofs.Steps.{Scratch, Setting}
use Rattle.cql2_code.proofs.WithinLemmas.{down_fits, up_fits}
use Rattle.cql2_code.proofs.Words.{word}

-- an edge of a box as a line
abbrev pub box_edge : Rectangle → Edge
box_edge edge = record { start = corner edge.west edge.south; end = corner edge.east edge.north }

-- it goes to the east or to the north
pub record IsUpright (edge : Rectangle) : Type 0 where
  pub longitudes : femtodegrees edge.west ≤ℤ femtodegrees edge.east
  pub latitudes : femtodegrees edge.south ≤ℤ femtodegrees edge.north
  pub meets : (line : Edge) → meets_edge line (box_edge edge) ≡ (not (lies_beside line (box_edge edge)) && boxes_overlap line (box_edge edge))

abbrev pub AreUpright : List Rectangle → Type 0
AreUpright [] = Unit {0}
AreUpright (edge ∷ edges) = IsUpright edge × AreUpright edges

same_at_most : (a : ℤ) → a ≤ℤ a
same_at_most a = omega (arith, ints)

pub edges_upright : (bounds : Bounds) → AreUpright (rectangles_of bounds)
edges_upright bounds = (
  record {
    longitudes = bounds.longitudes;
    latitudes = same_at_most (femtodegrees bounds.south);
    meets = λ line. meets_east line (femtodegrees bounds.west) (femtodegrees bounds.east) (femtodegrees bounds.south) bounds.longitudes;
  },
  (
    record {
      longitudes = same_at_most (femtodegrees bounds.east);
      latitudes = bounds.latitudes;
      meets = λ line. meets_north line (femtodegrees bounds.east) (femtodegrees bounds.south) (femtodegrees bounds.north) bounds.latitudes;
    },
    (
      record {
        longitudes = bounds.longitudes;
        latitudes = same_at_most (femtodegrees bounds.north);
        meets = λ line. meets_east line (femtodegrees bounds.west) (femtodegrees bounds.east) (femtodegrees bounds.north) bounds.longitudes;
      },
      (
        record {
          longitudes = same_at_most (femtodegrees bounds.west);
          latitudes = bounds.latitudes;
          meets = λ line. meets_north line (femtodegrees bounds.west) (femtodegrees bounds.south) (femtodegrees bounds.north) bounds.latitudes;
        },
        tt,
      ),
    ),
  ),
)

inner_fit : (edge : Rectangle) → LimitsFit (inner_limits edge)
inner_fit edge =
    record { west = up_fits edge.west; east = down_fits edge.east; south = up_fits edge.south; north = down_fits edge.north }

-- ranges that are rounded inwards

least_is : (a b : ℤ) → a ≤ℤ b → a ≡ int_min a b
least_is a b ordered = grind (arith, ints, ordered)

greatest_is : (a b : ℤ) → a ≤ℤ b → b ≡ int_max a b
greatest_is a b ordered = grind (arith, ints, ordered)

less_are : (a b : ℤ) (low high : Bound) → femtodegrees low ≤ℤ femtodegrees high
    → are_less a b (rounded_up low) ≡ are_less (in_femtodegrees a 0) (in_femtodegrees b 0) (int_min (femtodegrees low) (femtodegrees high))
less_are a b low high ordered =
    both_are (less_rounded a low) (less_rounded b low)
    ∙ ap (are_less (in_femtodegrees a 0) (in_femtodegrees b 0)) (least_is (femtodegrees low) (femtodegrees high) ordered)

greater_are : (a b : ℤ) (low high : Bound) → femtodegrees low ≤ℤ femtodegrees high
    → are_greater a b high.millionths ≡ are_greater (in_femtodegrees a 0) (in_femtodegrees b 0) (int_max (femtodegrees low) (femtodegrees high))
greater_are a b low high ordered =
    both_are (greater_rounded a high) (greater_rounded b high)
    ∙ ap (are_greater (in_femtodegrees a 0) (in_femtodegrees b 0)) (greatest_is (femtodegrees low) (femtodegrees high) ordered)

reaches_is : (line : Edge) (edge : Rectangle) → IsUpright edge → reaches line (inner_limits edge) ≡ boxes_overlap (finer_edge line) (box_edge edge)
reaches_is line edge upright =
    both_are
    (both_are (ap not (less_are line.start.longitude line.end.longitude edge.west edge.east upright.longitudes))
    (ap not (greater_are line.start.longitude line.end.longitude edge.west edge.east upright.longitudes)))
    (both_are (ap not (less_are line.start.latitude line.end.latitude edge.south edge.north upright.latitudes))
    (ap not (greater_are line.start.latitude line.end.latitude edge.south edge.north upright.latitudes)))

module _ (on : Setting) (base : Scratch) (line : Edge) (short : IsShort line) where
  module _ (edge : Rectangle) where
    abbrev fine : Edge
    fine = finer_edge line

    abbrev start : Point
    start = corner edge.west edge.south

    abbrev end : Point
    end = corner edge.east edge.north

    -- the corners, on the sides of the line

    unless_left : (part : List Insn) (hand : Hand) (met : Bool) → hand.side ≡ word (rounded_across line Up (southwest edge))
        → hand.first ≡ word (rounded_across line Up (northeast edge)) → hand.lead ≡ word (across line line.start) → Marks on base line part hand met
        → Marks on base line (unless_both_lie Greater part) hand (not (is_left fine start && is_left fine end) && met)
    unless_left part hand met side first lead marks =
        skipping on base line (compare Greater from_side from_result) (compare Greater from_first from_result) part hand _ _ _ _ _ met
        (record { turned_first = compares_side_result on base line LessOrEqual hand; second_compares = compares_first_result on base line Greater hand })
        (both_are
        (ap (λ (n : ℕ). holds (compare Greater from_side from_result) n hand.lead) side
        ∙ ap (λ (n : ℕ). holds (compare Greater from_side from_result) (word (rounded_across line Up (southwest edge))) n) lead
        ∙ corner_left_holds line short (southwest edge))
        (ap (λ (n : ℕ). holds (compare Greater from_first from_result) n hand.lead) first
        ∙ ap (λ (n : ℕ). holds (compare Greater from_first from_result) (word (rounded_across line Up (northeast edge))) n) lead
        ∙ corner_left_holds line short (northeast edge)))
        marks

    unless_right : (part : List Insn) (hand : Hand) (met : Bool) → hand.side ≡ word (rounded_across line Down (southwest edge))
        → hand.first ≡ word (rounded_across line Down (northeast edge)) → hand.lead ≡ word (across line line.start) → Marks on base line part hand met
        → Marks on base line (unless_both_lie Less part) hand (not (is_right fine start && is_right fine end) && met)
    unless_right part hand met side first lead marks =
        skipping on base line (compare Less from_side from_result) (compare Less from_first from_result) part hand _ _ _ _ _ met
        (record { turned_first = compares_side_result on base line GreaterOrEqual hand; second_compares = compares_first_result on base line Less hand })
        (both_are
        (ap (λ (n : ℕ). holds (compare Less from_side from_result) n hand.lead) side
        ∙ ap (λ (n : ℕ). holds (compare Less from_side from_result) (word (rounded_across line Down (southwest edge))) n) lead
        ∙ corner_right_holds line short (southwest edge))
        (ap (λ (n : ℕ). holds (compare Less from_first from_result) n hand.lead) first
        ∙ ap (λ (n : ℕ). holds (compare Less from_first from_result) (word (rounded_across line Down (northeast edge))) n) lead
        ∙ corner_right_holds line short (northeast edge)))
        marks

    pub bounds_edge_marks : IsUpright edge → (hand : Hand) → hand.lead ≡ word (across line line.start)
        → Marks on base line (bounds_edge_code edge) hand (meets_edge fine (box_edge edge))
    bounds_edge_marks upright hand lead =
        let up = corners_run on base line short Up edge hand in
        let first : Hand = record hand {
          side = word (rounded_across line Up (southwest edge));
          first = word (rounded_across line Up (northeast edge));
          second = up.second;
        } in
        let down = corners_run on base line short Down edge first in
        let last : Hand = record hand {
          side = word (rounded_across line Down (southwest edge));
          first = word (rounded_across line Down (northeast edge));
          second = down.second;
        } in
        subst (Marks on base line (bounds_edge_code edge) hand)
        (neither (is_left fine start && is_left fine end) (is_right fine start && is_right fine end) (reaches line (inner_limits edge) && true)
        ∙ ap (λ (t : Bool). not (lies_beside fine (box_edge edge)) && t) (and-true (reaches line (inner_limits edge)) ∙ reaches_is line edge upright)
        ∙ sym (upright.meets fine))
        (after on base line first up.runs refl
        (unless_left _ first _ refl refl lead
        (after on base line last down.runs refl
        (unless_right _ last _ refl refl lead
        (beyond_marks on base line (inner_limits edge) (inner_fit edge) short marks_met last true (marks_here on base line last))))))
