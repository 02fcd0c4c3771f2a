-- Runs of the code of an edge: it marks that the line meets the edge.
use Rattle.std.proofs.Common.{◌≡◌, ℕ, ℤ, pos, Bool, true, false, not, List, ◌++◌, if◌then◌else◌, refl, ap, ◌∙◌, subst}
use Rattle.std.specs.Prelude.{FitsSigned, ◌&&◌, ◌||◌, int_lt}
use Rattle.std.specs.Int.{w64}
use Rattle.bpf_insn.specs.Arithmetic.{immediate_operand, result_of}
use Rattle.bpf_insn.specs.declared.instruction.Insn.{Insn}
use Rattle.bpf_insn.specs.declared.instruction.Operation.TheVariants as operation
use Rattle.bpf_insn.specs.declared.instruction.Width.TheVariants.{Bits64}
use Rattle.cql2.specs.Geometry.{Edge, are_greater, are_less, boxes_overlap, is_left, is_right, lies_beside, meets_edge}
use Rattle.cql2.specs.declared.filter.Comparison.TheVariants.{Greater, GreaterOrEqual, Less, LessOrEqual}
use Rattle.cql2.proofs.Sides.{IsShort, across}
use Rattle.cql2_code.specs.Layout.{from_result}
use Rattle.cql2_code.specs.ShapeCode.{compare, compare_number, edge_code, from_end_latitude, from_end_longitude, from_first, from_second, from_side}
use Rattle.cql2_code.specs.ShapeCode.{from_start_latitude, from_start_longitude, limits_of, marks_met, meets_code, unless_beside, unless_beyond}
use Rattle.cql2_code.specs.Skipping.{Compared, unless_both}
use Rattle.cql2_code.specs.declared.edges.EdgeLimits.{EdgeLimits}
use Rattle.cql2_code.proofs.DrawnRuns.{ComparesBoth, holds, runs_unless_both}
use Rattle.cql2_code.proofs.ShapeHands.{Hand, Moves, compares_end_latitude, compares_end_longitude, compares_first_result, compares_first_second}
use Rattle.cql2_code.proofs.ShapeHands.{compares_side_result, compares_side_second, compares_start_latitude, compares_start_longitude, copies_first_to_side}
use Rattle.cql2_code.proofs.ShapeHands.{filled, marks_argument_1, point_runs, sides_run}
use Rattle.cql2_code.proofs.SideWords.{left_holds, near_fits, right_holds}
use Rattle.cql2_code.proofs.Steps.{Runs, Scratch, Setting, and_then, no_more, one_more}
use Rattle.cql2_code.proofs.Words.{compares_greater, compares_less, word}

-- the marks once the line meets the shape
abbrev pub marked : ℕ → ℕ
marked mark = result_of operation.Or Bits64 mark (immediate_operand (pos 4))

abbrev pub marked_if : Bool → ℕ → ℕ
marked_if met mark = if met then marked mark else mark

-- two numbers, of which one is the lesser or the greater one, fit
pub fits_either : (other : Bool) (a b : ℤ) → FitsSigned w64 a → FitsSigned w64 b → FitsSigned w64 (if other then b else a)
fits_either true a b one two = two
fits_either false a b one two = one

-- limits fit into 64 bits with a sign
pub record LimitsFit (limits : EdgeLimits) : Type 0 where
  pub west : FitsSigned w64 limits.west
  pub east : FitsSigned w64 limits.east
  pub south : FitsSigned w64 limits.south
  pub north : FitsSigned w64 limits.north

pub both_are : {a b x y : Bool} → a ≡ x → b ≡ y → (a && b) ≡ (x && y)
both_are {a} {b} {x} {y} one two = ap (λ (t : Bool). t && b) one ∙ ap (λ (t : Bool). x && t) two

pub neither : (x y rest : Bool) → (not x && (not y && rest)) ≡ (not (x || y) && rest)
neither true y rest = refl
neither false y rest = refl

pub and-true : (b : Bool) → (b && true) ≡ b
and-true true = refl
and-true false = refl

pub and-assoc : (a b c : Bool) → (a && (b && c)) ≡ ((a && b) && c)
and-assoc true b c = refl
and-assoc false b c = refl

grouped : (w e s n rest : Bool) → (not w && (not e && (not s && (not n && rest)))) ≡ (((not w && not e) && (not s && not n)) && rest)
grouped true e s n rest = refl
grouped false true s n rest = refl
grouped false false true n rest = refl
grouped false false false n rest = refl

-- a line isn't beyond limits in any of the four directions
abbrev pub reaches : Edge → EdgeLimits → Bool
reaches line limits =
    (not (are_less line.start.longitude line.end.longitude limits.west) && not (are_greater line.start.longitude line.end.longitude limits.east))
    && (not (are_less line.start.latitude line.end.latitude limits.south) && not (are_greater line.start.latitude line.end.latitude limits.north))

module _ (on : Setting) (base : Scratch) (line : Edge) where
  -- a code leaves these marks, and what register 0 holds
  pub record Leaves (code : List Insn) (hand : Hand) (mark : ℕ) : Type 0 where
    pub to : Hand
    pub runs : Moves on base line code hand to
    pub lead : to.lead ≡ hand.lead
    pub mark_is : to.mark ≡ mark

  -- it marks that the line meets the shape if this holds
  abbrev pub Marks : List Insn → Hand → Bool → Type 0
  Marks code hand met = Leaves code hand (marked_if met hand.mark)

  pub after : {a b : List Insn} {hand : Hand} {mark : ℕ} (middle : Hand) → Moves on base line a hand middle → middle.lead ≡ hand.lead
      → Leaves b middle mark → Leaves (a ++ b) hand mark
  after middle moves lead leaves =
      record { to = leaves.to; runs = and_then moves leaves.runs; lead = leaves.lead ∙ lead; mark_is = leaves.mark_is }

  pub marks_here : (hand : Hand) → Marks marks_met hand true
  marks_here hand = record {
    to = record hand { mark = marked hand.mark };
    runs = one_more (marks_argument_1 on base line (pos 4) hand) no_more;
    lead = refl;
    mark_is = refl;
  }

  -- the part is skipped if both comparisons hold
  pub skipping : (first second : Compared) (part : List Insn) (hand : Hand) (x y a b : ℕ) (both met : Bool)
      → ComparesBoth on (filled base line hand) first second x y a b → (holds first x y && holds second a b) ≡ both → Marks part hand met
      → Marks (unless_both first second part) hand (not both && met)
  skipping first second part hand x y a b both met compares is marks =
      by_both both
      (subst (λ (t : Bool). Runs on (unless_both first second part) (filled base line hand)
      (if t then filled base line hand else filled base line marks.to)) is
      (runs_unless_both on (filled base line hand) first second x y a b compares part (filled base line marks.to) marks.runs))
    where
      by_both : (t : Bool)
          → Runs on (unless_both first second part) (filled base line hand) (if t then filled base line hand else filled base line marks.to)
          → Marks (unless_both first second part) hand (not t && met)
      by_both true runs = record { to = hand; runs = runs; lead = refl; mark_is = refl }
      by_both false runs = record { to = marks.to; runs = runs; lead = marks.lead; mark_is = marks.mark_is }

  pub beyond_marks : (limits : EdgeLimits) → LimitsFit limits → IsShort line → (part : List Insn) (hand : Hand) (met : Bool) → Marks part hand met
      → Marks (unless_beyond limits part) hand (reaches line limits && met)
  beyond_marks limits fit short part hand met marks =
      let start = near_fits line.start short.start in
      let end = near_fits line.end short.end in
      subst (Marks (unless_beyond limits part) hand)
      (grouped (are_less line.start.longitude line.end.longitude limits.west) (are_greater line.start.longitude line.end.longitude limits.east)
      (are_less line.start.latitude line.end.latitude limits.south) (are_greater line.start.latitude line.end.latitude limits.north) met)
      (skipping (compare_number Less from_start_longitude limits.west) (compare_number Less from_end_longitude limits.west) _ hand _ _ _ _ _ _
      (record {
        turned_first = compares_start_longitude on base line GreaterOrEqual limits.west hand;
        second_compares = compares_end_longitude on base line Less limits.west hand;
      })
      (both_are (compares_less line.start.longitude limits.west (record { first = start.0; second = fit.west }))
      (compares_less line.end.longitude limits.west (record { first = end.0; second = fit.west })))
      (skipping (compare_number Greater from_start_longitude limits.east) (compare_number Greater from_end_longitude limits.east) _ hand _ _ _ _ _ _
      (record {
        turned_first = compares_start_longitude on base line LessOrEqual limits.east hand;
        second_compares = compares_end_longitude on base line Greater limits.east hand;
      })
      (both_are (compares_greater line.start.longitude limits.east (record { first = start.0; second = fit.east }))
      (compares_greater line.end.longitude limits.east (record { first = end.0; second = fit.east })))
      (skipping (compare_number Less from_start_latitude limits.south) (compare_number Less from_end_latitude limits.south) _ hand _ _ _ _ _ _
      (record {
        turned_first = compares_start_latitude on base line GreaterOrEqual limits.south hand;
        second_compares = compares_end_latitude on base line Less limits.south hand;
      })
      (both_are (compares_less line.start.latitude limits.south (record { first = start.1; second = fit.south }))
      (compares_less line.end.latitude limits.south (record { first = end.1; second = fit.south })))
      (skipping (compare_number Greater from_start_latitude limits.north) (compare_number Greater from_end_latitude limits.north) part hand _ _ _ _ _ met
      (record {
        turned_first = compares_start_latitude on base line LessOrEqual limits.north hand;
        second_compares = compares_end_latitude on base line Greater limits.north hand;
      })
      (both_are (compares_greater line.start.latitude limits.north (record { first = start.1; second = fit.north }))
      (compares_greater line.end.latitude limits.north (record { first = end.1; second = fit.north })))
      marks))))

  module _ (short : IsShort line) (edge : Edge) (edge_short : IsShort edge) where
    limits_fit : LimitsFit (limits_of edge)
    limits_fit =
        let start = near_fits edge.start edge_short.start in
        let end = near_fits edge.end edge_short.end in
        record {
          west = fits_either (int_lt edge.end.longitude edge.start.longitude) _ _ start.0 end.0;
          east = fits_either (int_lt edge.end.longitude edge.start.longitude) _ _ end.0 start.0;
          south = fits_either (int_lt edge.end.latitude edge.start.latitude) _ _ start.1 end.1;
          north = fits_either (int_lt edge.end.latitude edge.start.latitude) _ _ end.1 start.1;
        }

    -- the line's ends, on the sides of the edge
    beside_second : (part : List Insn) (hand : Hand) (met : Bool) → hand.side ≡ word (across edge line.start) → hand.first ≡ word (across edge line.end)
        → hand.second ≡ word (across edge edge.start) → Marks part hand met
        → Marks (unless_beside from_second part) hand (not (lies_beside edge line) && met)
    beside_second part hand met side first second marks =
        subst (Marks (unless_beside from_second part) hand)
        (neither (is_left edge line.start && is_left edge line.end) (is_right edge line.start && is_right edge line.end) met)
        (skipping (compare Greater from_side from_second) (compare Greater from_first from_second) _ hand _ _ _ _ _ _
        (record { turned_first = compares_side_second on base line LessOrEqual hand; second_compares = compares_first_second on base line Greater hand })
        (both_are
        (ap (λ (n : ℕ). holds (compare Greater from_side from_second) n hand.second) side
        ∙ ap (λ (n : ℕ). holds (compare Greater from_side from_second) (word (across edge line.start)) n) second
        ∙ left_holds edge edge_short line.start short.start)
        (ap (λ (n : ℕ). holds (compare Greater from_first from_second) n hand.second) first
        ∙ ap (λ (n : ℕ). holds (compare Greater from_first from_second) (word (across edge line.end)) n) second
        ∙ left_holds edge edge_short line.end short.end))
        (skipping (compare Less from_side from_second) (compare Less from_first from_second) part hand _ _ _ _ _ met
        (record { turned_first = compares_side_second on base line GreaterOrEqual hand; second_compares = compares_first_second on base line Less hand })
        (both_are
        (ap (λ (n : ℕ). holds (compare Less from_side from_second) n hand.second) side
        ∙ ap (λ (n : ℕ). holds (compare Less from_side from_second) (word (across edge line.start)) n) second
        ∙ right_holds edge edge_short line.start short.start)
        (ap (λ (n : ℕ). holds (compare Less from_first from_second) n hand.second) first
        ∙ ap (λ (n : ℕ). holds (compare Less from_first from_second) (word (across edge line.end)) n) second
        ∙ right_holds edge edge_short line.end short.end))
        marks))

    -- the edge's ends, on the sides of the line
    beside_result : (part : List Insn) (hand : Hand) (met : Bool) → hand.side ≡ word (across line edge.start) → hand.first ≡ word (across line edge.end)
        → hand.lead ≡ word (across line line.start) → Marks part hand met
        → Marks (unless_beside from_result part) hand (not (lies_beside line edge) && met)
    beside_result part hand met side first lead marks =
        subst (Marks (unless_beside from_result part) hand)
        (neither (is_left line edge.start && is_left line edge.end) (is_right line edge.start && is_right line edge.end) met)
        (skipping (compare Greater from_side from_result) (compare Greater from_first from_result) _ hand _ _ _ _ _ _
        (record { turned_first = compares_side_result on base line LessOrEqual hand; second_compares = compares_first_result on base line Greater hand })
        (both_are
        (ap (λ (n : ℕ). holds (compare Greater from_side from_result) n hand.lead) side
        ∙ ap (λ (n : ℕ). holds (compare Greater from_side from_result) (word (across line edge.start)) n) lead
        ∙ left_holds line short edge.start edge_short.start)
        (ap (λ (n : ℕ). holds (compare Greater from_first from_result) n hand.lead) first
        ∙ ap (λ (n : ℕ). holds (compare Greater from_first from_result) (word (across line edge.end)) n) lead
        ∙ left_holds line short edge.end edge_short.end))
        (skipping (compare Less from_side from_result) (compare Less from_first from_result) part hand _ _ _ _ _ met
        (record { turned_first = compares_side_result on base line GreaterOrEqual hand; second_compares = compares_first_result on base line Less hand })
        (both_are
        (ap (λ (n : ℕ). holds (compare Less from_side from_result) n hand.lead) side
        ∙ ap (λ (n : ℕ). holds (compare Less from_side from_result) (word (across line edge.start)) n) lead
        ∙ right_holds line short edge.start edge_short.start)
        (ap (λ (n : ℕ). holds (compare Less from_first from_result) n hand.lead) first
        ∙ ap (λ (n : ℕ). holds (compare Less from_first from_result) (word (across line edge.end)) n) lead
        ∙ right_holds line short edge.end edge_short.end))
        marks))

    -- after the sides of the line's ends, in registers 2 to 4
    pub meets_marks : (hand : Hand) → hand.lead ≡ word (across line line.start) → hand.side ≡ word (across edge line.start)
        → hand.first ≡ word (across edge line.end) → hand.second ≡ word (across edge edge.start)
        → Marks (meets_code edge) hand (meets_edge line edge)
    meets_marks hand lead side first second =
        let start = point_runs on base line short edge.start hand edge_short.start in
        let found : Hand = record hand { first = word (across line edge.start); second = start.second } in
        let between : Hand = record found { side = word (across line edge.start) } in
        let end = point_runs on base line short edge.end between edge_short.end in
        let last : Hand = record between { first = word (across line edge.end); second = end.second } in
        subst (Marks (meets_code edge) hand)
        (ap (λ (t : Bool). not (lies_beside edge line) && (not (lies_beside line edge) && t)) (and-true (boxes_overlap line edge))
        ∙ and-assoc (not (lies_beside edge line)) (not (lies_beside line edge)) (boxes_overlap line edge))
        (beside_second _ hand _ side first second
        (after found start.runs refl
        (after between (one_more (copies_first_to_side on base line found) no_more) refl
        (after last end.runs refl
        (beside_result _ last _ refl refl lead (beyond_marks (limits_of edge) limits_fit short marks_met last true (marks_here last)))))))

    pub edge_marks : (hand : Hand) → hand.lead ≡ word (across line line.start) → Marks (edge_code edge) hand (meets_edge line edge)
    edge_marks hand lead =
        let there : Hand = record hand {
          side = word (across edge line.start);
          first = word (across edge line.end);
          second = word (across edge edge.start);
        } in
        after there (sides_run on base line edge edge_short short.start short.end hand) refl (meets_marks there lead refl refl refl)
