-- Runs of the code of a shape: it marks that the line meets the shape.
use Rattle.std.proofs.Common.{◌≡◌, ℕ, pos, Bool, true, false, not, List, [], ◌∷◌, ◌++◌, if◌then◌else◌, refl, sym, ap, ◌∙◌, subst}
use Rattle.std.specs.Prelude.{◌||◌}
use Rattle.std.specs.Bool.{beq}
use Rattle.std.specs.List.{flat_map, list_any}
use Rattle.bpf_insn.specs.Arithmetic.{immediate_operand, result_of}
use Rattle.bpf_insn.specs.declared.instruction.Insn.{Insn}
use Rattle.bpf_insn.specs.declared.instruction.Operation.TheVariants as operation
use Rattle.bpf_insn.specs.declared.instruction.Width.TheVariants.{Bits64}
use Rattle.cql2.specs.Geometry.{Edge, Point, crosses_odd, edge_of, edges_of_bounds, edges_of_polygon, edges_through, finer_edge, is_crossed}
use Rattle.cql2.specs.Geometry.{lies_in_bounds, meets, meets_edge, meets_polygon, meets_some}
use Rattle.cql2.specs.declared.filter.Comparison.TheVariants.{Equal}
use Rattle.cql2.specs.declared.geometry.Bounds.{Bounds}
use Rattle.cql2.specs.declared.geometry.Polygon.{Polygon}
use Rattle.cql2.specs.declared.geometry.Shape.{Shape}
use Rattle.cql2.specs.declared.geometry.Shape.TheVariants as shape
use Rattle.cql2.proofs.Edges.{AreShort, edge_short, polygon_short, through_short}
use Rattle.cql2.proofs.Sides.{IsShort, across}
use Rattle.cql2_code.specs.ShapeCode.{bounds_code, bounds_edge_code, compare_number, edge_code, from_end_latitude, from_end_longitude, from_first}
use Rattle.cql2_code.specs.ShapeCode.{from_start_latitude, from_start_longitude, inside_code, marks_met, polygon_code, polygon_edge_code, rectangles_of}
use Rattle.cql2_code.specs.ShapeCode.{shape_code, unless_outside}
use Rattle.cql2_code.specs.Skipping.{unless}
use Rattle.cql2_code.specs.declared.bounds.Rectangle.{Rectangle}
use Rattle.cql2_code.proofs.BoundsMarks.{AreUpright, bounds_edge_marks, box_edge, edges_upright}
use Rattle.cql2_code.proofs.DrawnRuns.{holds, runs_unless}
use Rattle.cql2_code.proofs.ShapeHands.{Hand, Moves, compares_first}
use Rattle.cql2_code.proofs.ShapeHands.{copies_argument_1_to_first, filled, marks_argument_1, masks_argument_1, masks_first}
use Rattle.cql2_code.proofs.ShapeHands.{sides_run}
use Rattle.cql2_code.proofs.ShapeMarks.{Leaves, after, edge_marks, marked, marked_if, meets_marks}
use Rattle.cql2_code.proofs.ShapeRays.{exchanged_if, rays_run}
use Rattle.cql2_code.proofs.Steps.{Runs, Scratch, Setting, and_then, no_more, one_more}
use Rattle.cql2_code.proofs.WithinMarks.{end_in, start_in}
use Rattle.cql2_code.proofs.Words.{word}

-- the marks, by whether the rays from the line's start and end have crossed an odd number of edges, and whether the line meets the shape
abbrev pub mark_of : Bool → Bool → Bool → ℕ
mark_of false false false = 0
mark_of true false false = 1
mark_of false true false = 2
mark_of true true false = 3
mark_of false false true = 4
mark_of true false true = 5
mark_of false true true = 6
mark_of true true true = 7

marked_is : (a b c : Bool) → marked (mark_of a b c) ≡ mark_of a b true
marked_is false false false = refl
marked_is true false false = refl
marked_is false true false = refl
marked_is true true false = refl
marked_is false false true = refl
marked_is true false true = refl
marked_is false true true = refl
marked_is true true true = refl

or-true : (c : Bool) → (c || true) ≡ true
or-true true = refl
or-true false = refl

or-false : (c : Bool) → (c || false) ≡ c
or-false true = refl
or-false false = refl

or-assoc : (a b c : Bool) → ((a || b) || c) ≡ (a || (b || c))
or-assoc true b c = refl
or-assoc false b c = refl

pub marks_are : (a b c met : Bool) → marked_if met (mark_of a b c) ≡ mark_of a b (c || met)
marks_are a b c true = marked_is a b c ∙ ap (mark_of a b) (sym (or-true c))
marks_are a b c false = ap (mark_of a b) (sym (or-false c))

-- one is odd exactly if the other is even
abbrev differ : Bool → Bool → Bool
differ a b = not (beq a b)

start_exchanged : (crossed a b c : Bool) → exchanged_if crossed (pos 1) (mark_of a b c) ≡ mark_of (differ crossed a) b c
start_exchanged true false false false = refl
start_exchanged true true false false = refl
start_exchanged true false true false = refl
start_exchanged true true true false = refl
start_exchanged true false false true = refl
start_exchanged true true false true = refl
start_exchanged true false true true = refl
start_exchanged true true true true = refl
start_exchanged false false b c = refl
start_exchanged false true b c = refl

end_exchanged : (crossed a b c : Bool) → exchanged_if crossed (pos 2) (mark_of a b c) ≡ mark_of a (differ crossed b) c
end_exchanged true false false false = refl
end_exchanged true true false false = refl
end_exchanged true false true false = refl
end_exchanged true true true false = refl
end_exchanged true false false true = refl
end_exchanged true true false true = refl
end_exchanged true false true true = refl
end_exchanged true true true true = refl
end_exchanged false a false c = refl
end_exchanged false a true c = refl

-- edges that follow others
abbrev odd_after : Bool → Point → List Edge → Bool
odd_after odd point [] = odd
odd_after odd point (edge ∷ edges) = odd_after (differ (is_crossed point edge) odd) point edges

differ-assoc : (a b c : Bool) → differ (differ a b) c ≡ differ b (differ a c)
differ-assoc true true true = refl
differ-assoc true true false = refl
differ-assoc true false true = refl
differ-assoc true false false = refl
differ-assoc false true true = refl
differ-assoc false true false = refl
differ-assoc false false true = refl
differ-assoc false false false = refl

differ-false : (a : Bool) → differ a false ≡ a
differ-false true = refl
differ-false false = refl

differ-none : (a : Bool) → differ false a ≡ a
differ-none true = refl
differ-none false = refl

odd_is : (odd : Bool) (point : Point) (edges : List Edge) → odd_after odd point edges ≡ differ odd (crosses_odd point edges)
odd_is odd point [] = sym (differ-false odd)
odd_is odd point (edge ∷ edges) =
    odd_is (differ (is_crossed point edge) odd) point edges ∙ differ-assoc (is_crossed point edge) odd (crosses_odd point edges)

-- the marks after a polygon's edges
abbrev odd_marks : ℕ → ℕ
odd_marks mark = result_of operation.And Bits64 mark (immediate_operand (pos 3))

abbrev saved_mark : ℕ → ℕ
saved_mark mark = result_of operation.And Bits64 mark (immediate_operand (pos 4))

inside_is : (a b c : Bool)
    → saved_mark (if holds (compare_number Equal from_first (pos 0)) (odd_marks (mark_of a b c)) (immediate_operand (pos 0)) then mark_of a b c
    else marked (mark_of a b c))
    ≡ mark_of false false (c || (a || b))
inside_is false false false = refl
inside_is true false false = refl
inside_is false true false = refl
inside_is true true false = refl
inside_is false false true = refl
inside_is true false true = refl
inside_is false true true = refl
inside_is true true true = refl

inside_last : (c s e m : Bool) → ((c || m) || (s || e)) ≡ (c || ((s || e) || m))
inside_last true s e m = refl
inside_last false s e true = sym (or-true (s || e))
inside_last false s e false = sym (or-false (s || e))

module _ (on : Setting) (base : Scratch) (line : Edge) (short : IsShort line) where
  -- a code turns marks into others
  abbrev pub Turns : List Insn → ℕ → ℕ → Type 0
  Turns code mark other = (hand : Hand) → hand.lead ≡ word (across line line.start) → hand.mark ≡ mark → Leaves on base line code hand other

  leaves_as : {code : List Insn} {hand : Hand} (mark other : ℕ) → mark ≡ other → Leaves on base line code hand mark
      → Leaves on base line code hand other
  leaves_as {code} {hand} mark other is leaves = subst (Leaves on base line code hand) is leaves

  turns_as : {code : List Insn} (mark one other : ℕ) → one ≡ other → Turns code mark one → Turns code mark other
  turns_as mark one other is turns hand lead held = leaves_as one other is (turns hand lead held)

  turns_none : (mark : ℕ) → Turns [] mark mark
  turns_none mark hand lead held = record { to = hand; runs = no_more; lead = refl; mark_is = held }

  turns_both : (a b : List Insn) (one two three : ℕ) → Turns a one two → Turns b two three → Turns (a ++ b) one three
  turns_both a b one two three first second hand lead held =
      let middle = first hand lead held in
      let last = second middle.to (middle.lead ∙ lead) middle.mark_is in
      record { to = last.to; runs = and_then middle.runs last.runs; lead = last.lead ∙ middle.lead; mark_is = last.mark_is }

  -- an edge, and several edges
  edge_turns : (edge : Edge) → IsShort edge → (a b c : Bool) → Turns (edge_code edge) (mark_of a b c) (mark_of a b (c || meets_edge line edge))
  edge_turns edge edge_is a b c hand lead held =
      leaves_as _ _ (ap (marked_if (meets_edge line edge)) held ∙ marks_are a b c (meets_edge line edge))
      (edge_marks on base line short edge edge_is hand lead)

  edges_turn : (edges : List Edge) → AreShort edges → (a b c : Bool)
      → Turns (flat_map edge_code edges) (mark_of a b c) (mark_of a b (c || meets_some edges line))
  edges_turn [] are a b c = turns_as _ _ _ (ap (mark_of a b) (sym (or-false c))) (turns_none (mark_of a b c))
  edges_turn (edge ∷ edges) are a b c =
      turns_as _ _ _ (ap (mark_of a b) (or-assoc c (meets_edge line edge) (meets_some edges line)))
      (turns_both (edge_code edge) (flat_map edge_code edges) _ _ _ (edge_turns edge are.0 a b c)
      (edges_turn edges are.1 a b (c || meets_edge line edge)))

  -- those of a polygon
  polygon_edge_turns : (edge : Edge) → IsShort edge → (a b c : Bool)
      → Turns (polygon_edge_code edge) (mark_of a b c)
      (mark_of (differ (is_crossed line.start edge) a) (differ (is_crossed line.end edge) b) (c || meets_edge line edge))
  polygon_edge_turns edge edge_is a b c hand lead held =
      let there : Hand = record hand {
        side = word (across edge line.start);
        first = word (across edge line.end);
        second = word (across edge edge.start);
      } in
      let mark = exchanged_if (is_crossed line.end edge) (pos 2) (exchanged_if (is_crossed line.start edge) (pos 1) hand.mark) in
      let rayed : Hand = record there { mark = mark } in
      let is : mark ≡ mark_of (differ (is_crossed line.start edge) a) (differ (is_crossed line.end edge) b) c =
      ap (λ (n : ℕ). exchanged_if (is_crossed line.end edge) (pos 2) (exchanged_if (is_crossed line.start edge) (pos 1) n)) held
      ∙ ap (exchanged_if (is_crossed line.end edge) (pos 2)) (start_exchanged (is_crossed line.start edge) a b c)
      ∙ end_exchanged (is_crossed line.end edge) (differ (is_crossed line.start edge) a) b c in
      leaves_as _ _
      (ap (marked_if (meets_edge line edge)) is
      ∙ marks_are (differ (is_crossed line.start edge) a) (differ (is_crossed line.end edge) b) c (meets_edge line edge))
      (after on base line there (sides_run on base line edge edge_is short.start short.end hand) refl
      (after on base line rayed (rays_run on base line edge edge_is there short refl refl refl) refl
      (meets_marks on base line short edge edge_is rayed lead refl refl refl)))

  polygon_edges_turn : (edges : List Edge) → AreShort edges → (a b c : Bool)
      → Turns (flat_map polygon_edge_code edges) (mark_of a b c)
      (mark_of (odd_after a line.start edges) (odd_after b line.end edges) (c || meets_some edges line))
  polygon_edges_turn [] are a b c = turns_as _ _ _ (ap (mark_of a b) (sym (or-false c))) (turns_none (mark_of a b c))
  polygon_edges_turn (edge ∷ edges) are a b c =
      let start = differ (is_crossed line.start edge) a in
      let end = differ (is_crossed line.end edge) b in
      turns_as _ _ _
      (ap (mark_of (odd_after start line.start edges) (odd_after end line.end edges)) (or-assoc c (meets_edge line edge) (meets_some edges line)))
      (turns_both (polygon_edge_code edge) (flat_map polygon_edge_code edges) _ _ _ (polygon_edge_turns edge are.0 a b c)
      (polygon_edges_turn edges are.1 start end (c || meets_edge line edge)))

  inside_turns : (a b c : Bool) → Turns inside_code (mark_of a b c) (mark_of false false (c || (a || b)))
  inside_turns a b c hand lead held =
      leaves_as _ _
      (ap (λ (n : ℕ). saved_mark (if holds (compare_number Equal from_first (pos 0)) (odd_marks n) (immediate_operand (pos 0)) then n else marked n)) held
      ∙ inside_is a b c)
      (by_answer (holds (compare_number Equal from_first (pos 0)) (odd_marks hand.mark) (immediate_operand (pos 0)))
      (runs_unless on (filled base line odd) (compare_number Equal from_first (pos 0)) _ _ (compares_first on base line Equal (pos 0) odd) marks_met
      (filled base line met) (one_more (marks_argument_1 on base line (pos 4) odd) no_more)))
    where
      copied : Hand
      copied = record hand { first = hand.mark }

      odd : Hand
      odd = record hand { first = odd_marks hand.mark }

      met : Hand
      met = record odd { mark = marked hand.mark }

      first : (to : Hand) → Moves on base line (unless (compare_number Equal from_first (pos 0)) marks_met) odd to
          → Moves on base line inside_code hand (record to { mark = saved_mark to.mark })
      first to runs =
          one_more (copies_argument_1_to_first on base line hand)
          (one_more (masks_first on base line (pos 3) copied) (and_then runs (one_more (masks_argument_1 on base line (pos 4) to) no_more)))

      by_answer : (skipped : Bool)
          → Runs on (unless (compare_number Equal from_first (pos 0)) marks_met) (filled base line odd)
          (if skipped then filled base line odd else filled base line met)
          → Leaves on base line inside_code hand (saved_mark (if skipped then hand.mark else marked hand.mark))
      by_answer true runs = record { to = record odd { mark = saved_mark hand.mark }; runs = first odd runs; lead = refl; mark_is = refl }
      by_answer false runs = record { to = record met { mark = saved_mark (marked hand.mark) }; runs = first met runs; lead = refl; mark_is = refl }

  polygon_turns : {A : Type 0} (polygon : Polygon A) (c : Bool)
      → Turns (polygon_code polygon) (mark_of false false c) (mark_of false false (c || meets_polygon line polygon))
  polygon_turns polygon c =
      let edges = edges_of_polygon polygon in
      let start = odd_is false line.start edges ∙ differ-none (crosses_odd line.start edges) in
      let end = odd_is false line.end edges ∙ differ-none (crosses_odd line.end edges) in
      turns_as _ _ _
      (ap (λ (t : Bool). mark_of false false ((c || meets_some edges line) || (t || odd_after false line.end edges))) start
      ∙ ap (λ (t : Bool). mark_of false false ((c || meets_some edges line) || (crosses_odd line.start edges || t))) end
      ∙ ap (mark_of false false) (inside_last c (crosses_odd line.start edges) (crosses_odd line.end edges) (meets_some edges line)))
      (turns_both (flat_map polygon_edge_code edges) inside_code _ _ _ (polygon_edges_turn edges (polygon_short polygon) false false c)
      (inside_turns (odd_after false line.start edges) (odd_after false line.end edges) (c || meets_some edges line)))

  polygons_turn : {A : Type 0} (polygons : List (Polygon A)) (c : Bool)
      → Turns (flat_map polygon_code polygons) (mark_of false false c) (mark_of false false (c || list_any (meets_polygon line) polygons))
  polygons_turn [] c = turns_as _ _ _ (ap (mark_of false false) (sym (or-false c))) (turns_none (mark_of false false c))
  polygons_turn (polygon ∷ polygons) c =
      turns_as _ _ _ (ap (mark_of false false) (or-assoc c (meets_polygon line polygon) (list_any (meets_polygon line) polygons)))
      (turns_both (polygon_code polygon) (flat_map polygon_code polygons) _ _ _ (polygon_turns polygon c)
      (polygons_turn polygons (c || meets_polygon line polygon)))

  -- a box

  bounds_edges_turn : (edges : List Rectangle) → AreUpright edges → (c : Bool)
      → Turns (flat_map bounds_edge_code edges) (mark_of false false c)
      (mark_of false false (c || list_any (λ (edge : Rectangle). meets_edge (finer_edge line) (box_edge edge)) edges))
  bounds_edges_turn [] are c = turns_as _ _ _ (ap (mark_of false false) (sym (or-false c))) (turns_none (mark_of false false c))
  bounds_edges_turn (edge ∷ edges) are c =
      let met = meets_edge (finer_edge line) (box_edge edge) in
      turns_as _ _ _
      (ap (mark_of false false)
      (or-assoc c met (list_any (λ (edge : Rectangle). meets_edge (finer_edge line) (box_edge edge)) edges)))
      (turns_both (bounds_edge_code edge) (flat_map bounds_edge_code edges) _ _ _
      (λ hand lead held. leaves_as _ _ (ap (marked_if met) held ∙ marks_are false false c met) (bounds_edge_marks on base line short edge are.0 hand lead))
      (bounds_edges_turn edges are.1 (c || met)))

  bounds_turn : (bounds : Bounds) → Turns (bounds_code bounds) 0
      (mark_of false false
      ((lies_in_bounds bounds line.start || lies_in_bounds bounds line.end) || meets_some (edges_of_bounds bounds) (finer_edge line)))
  bounds_turn bounds =
      let start = lies_in_bounds bounds line.start in
      let end = lies_in_bounds bounds line.end in
      turns_both (unless_outside bounds from_start_longitude from_start_latitude marks_met) _ _ (mark_of false false start) _
      (λ hand lead held. leaves_as _ _ (ap (marked_if start) held ∙ marks_are false false false start) (start_in on base line short bounds hand))
      (turns_both (unless_outside bounds from_end_longitude from_end_latitude marks_met) _ _ (mark_of false false (start || end)) _
      (λ hand lead held. leaves_as _ _ (ap (marked_if end) held ∙ marks_are false false start end) (end_in on base line short bounds hand))
      (bounds_edges_turn (rectangles_of bounds) (edges_upright bounds) (start || end)))

  -- a shape's code marks that the line meets the shape
  pub shape_turns : {A : Type 0} (shape : Shape A) → Turns (shape_code shape) 0 (mark_of false false (meets shape line))
  shape_turns (shape.Point vertex) = edge_turns (edge_of vertex vertex) (edge_short vertex vertex) false false false
  shape_turns (shape.Line vertices) = edges_turn (edges_through vertices.items) (through_short vertices.items) false false false
  shape_turns (shape.Bounds bounds) = bounds_turn bounds
  shape_turns (shape.Polygons several) = polygons_turn several.polygons.items false
