-- Runs of the code that marks which rays cross an edge.
use Rattle.std.proofs.Common.{◌≡◌, ℕ, ℤ, pos, Bool, true, false, not, List, [], ◌∷◌, if◌then◌else◌, sym, ap, ◌∙◌, subst}
use Rattle.std.specs.Prelude.{FitsSigned, ◌&&◌, int_le, int_lt}
use Rattle.std.specs.Int.{w64, int_max, int_min}
use Rattle.bpf_insn.specs.Arithmetic.{condition_holds, immediate_operand, result_of}
use Rattle.bpf_insn.specs.declared.instruction.Insn.{Insn}
use Rattle.bpf_insn.specs.declared.instruction.Operation.TheVariants as operation
use Rattle.bpf_insn.specs.declared.instruction.Width.TheVariants.{Bits64}
use Rattle.cql2.specs.Geometry.{Edge, Point, is_crossed, is_left, is_right}
use Rattle.cql2.specs.declared.filter.Comparison.{Comparison}
use Rattle.cql2.specs.declared.filter.Comparison.TheVariants.{GreaterOrEqual, Less, LessOrEqual}
use Rattle.cql2.proofs.Sides.{IsNear, IsShort, across}
use Rattle.cql2_code.specs.Layout.{into_argument_1}
use Rattle.cql2_code.specs.Question.{condition_of}
use Rattle.cql2_code.specs.ShapeCode.{combine_number, compare, compare_number, from_end_latitude, from_first, from_second, from_side, from_start_latitude}
use Rattle.cql2_code.specs.ShapeCode.{ray_code, rays_code}
use Rattle.cql2_code.specs.Skipping.{Compared, unless}
use Rattle.cql2_code.proofs.DrawnRuns.{Compares, holds, runs_unless}
use Rattle.cql2_code.proofs.Operands.{int_less, opposite_is_not}
use Rattle.cql2_code.proofs.ShapeHands.{Hand, Moves, compares_end_latitude, compares_first_second, compares_side_second, compares_start_latitude}
use Rattle.cql2_code.proofs.ShapeHands.{exchanges_argument_1, filled}
use Rattle.cql2_code.proofs.ShapeMarks.{and-assoc, and-true, fits_either}
use Rattle.cql2_code.proofs.SideWords.{left_holds, near_fits, right_holds}
use Rattle.cql2_code.proofs.Steps.{Runs, Scratch, Setting, and_then, no_more, one_more}
use Rattle.cql2_code.proofs.Words.{compares_greater_or_equal, compares_less, word}

-- the marks, of which one is exchanged if a ray crosses an edge
abbrev pub exchanged_if : Bool → ℤ → ℕ → ℕ
exchanged_if crossed bit mark = if crossed then result_of operation.ExclusiveOr Bits64 mark (immediate_operand bit) else mark

module _ (on : Setting) (base : Scratch) (line : Edge) where
  -- a code exchanges a mark if this holds, and changes nothing else
  abbrev Exchanges : List Insn → Hand → ℤ → Bool → Type 0
  Exchanges code hand bit crossed = Moves on base line code hand (record hand { mark = exchanged_if crossed bit hand.mark })

  skipping : (compared : Compared) (part : List Insn) (hand : Hand) (bit : ℤ) (x y : ℕ) (skipped crossed : Bool)
      → Compares on (filled base line hand) compared x y → holds compared x y ≡ skipped → Exchanges part hand bit crossed
      → Exchanges (unless compared part) hand bit (not skipped && crossed)
  skipping compared part hand bit x y skipped crossed compares is exchanges =
      by_answer skipped
      (subst (λ (t : Bool). Runs on (unless compared part) (filled base line hand)
      (if t then filled base line hand else filled base line (record hand { mark = exchanged_if crossed bit hand.mark }))) is
      (runs_unless on (filled base line hand) compared x y compares part
      (filled base line (record hand { mark = exchanged_if crossed bit hand.mark })) exchanges))
    where
      by_answer : (t : Bool)
          → Runs on (unless compared part) (filled base line hand)
          (if t then filled base line hand else filled base line (record hand { mark = exchanged_if crossed bit hand.mark }))
          → Exchanges (unless compared part) hand bit (not t && crossed)
      by_answer true runs = runs
      by_answer false runs = runs

  exchanged_here : (hand : Hand) (bit : ℤ) → Exchanges (combine_number operation.ExclusiveOr into_argument_1 bit ∷ []) hand bit true
  exchanged_here hand bit = one_more (exchanges_argument_1 on base line bit hand) no_more

  module _ (edge : Edge) (edge_short : IsShort edge) where
    abbrev south : ℤ
    south = int_min edge.start.latitude edge.end.latitude

    abbrev north : ℤ
    north = int_max edge.start.latitude edge.end.latitude

    south_fits : FitsSigned w64 south
    south_fits = fits_either (int_lt edge.end.latitude edge.start.latitude) _ _ (near_fits edge.start edge_short.start).1
        (near_fits edge.end edge_short.end).1

    north_fits : FitsSigned w64 north
    north_fits = fits_either (int_lt edge.end.latitude edge.start.latitude) _ _ (near_fits edge.end edge_short.end).1
        (near_fits edge.start edge_short.start).1

    abbrev across_comparison : Comparison
    across_comparison = if int_lt edge.start.latitude edge.end.latitude then LessOrEqual else GreaterOrEqual

    -- the point lies to the east of the edge or on it
    east_is : (point : Point) → IsNear point
        → (not (condition_holds (condition_of across_comparison) Bits64 (word (across edge point)) (word (across edge edge.start))) && true)
        ≡ (if int_lt edge.start.latitude edge.end.latitude then is_left edge point else is_right edge point)
    east_is point near = by_direction (int_lt edge.start.latitude edge.end.latitude)
      where
        x : ℕ
        x = word (across edge point)

        y : ℕ
        y = word (across edge edge.start)

        by_direction : (goes_north : Bool)
            → (not (condition_holds (condition_of (if goes_north then LessOrEqual else GreaterOrEqual)) Bits64 x y) && true)
            ≡ (if goes_north then is_left edge point else is_right edge point)
        by_direction true = and-true _ ∙ sym (opposite_is_not LessOrEqual x y) ∙ left_holds edge edge_short point near
        by_direction false = and-true _ ∙ sym (opposite_is_not GreaterOrEqual x y) ∙ right_holds edge edge_short point near

    crossed_is : (point : Point) → IsNear point
        → (not (int_lt point.latitude south) && (not (int_le north point.latitude)
        && (not (condition_holds (condition_of across_comparison) Bits64 (word (across edge point)) (word (across edge edge.start))) && true)))
        ≡ is_crossed point edge
    crossed_is point near =
        ap (λ (t : Bool). not (int_lt point.latitude south) && (not (int_le north point.latitude) && t)) (east_is point near)
        ∙ ap (λ (t : Bool). not (int_lt point.latitude south) && (t
        && (if int_lt edge.start.latitude edge.end.latitude then is_left edge point else is_right edge point)))
        (sym (int_less point.latitude north))
        ∙ and-assoc (not (int_lt point.latitude south)) (int_lt point.latitude north)
        (if int_lt edge.start.latitude edge.end.latitude then is_left edge point else is_right edge point)

    start_ray : (hand : Hand) → IsNear line.start → hand.side ≡ word (across edge line.start) → hand.second ≡ word (across edge edge.start)
        → Exchanges (ray_code edge from_start_latitude from_side (pos 1)) hand (pos 1) (is_crossed line.start edge)
    start_ray hand near side second =
        subst (Exchanges (ray_code edge from_start_latitude from_side (pos 1)) hand (pos 1)) (crossed_is line.start near)
        (skipping (compare_number Less from_start_latitude south) _ hand (pos 1) _ _ _ _ (compares_start_latitude on base line Less south hand)
        (compares_less line.start.latitude south (record { first = (near_fits line.start near).1; second = south_fits }))
        (skipping (compare_number GreaterOrEqual from_start_latitude north) _ hand (pos 1) _ _ _ _
        (compares_start_latitude on base line GreaterOrEqual north hand)
        (compares_greater_or_equal line.start.latitude north (record { first = (near_fits line.start near).1; second = north_fits }))
        (skipping (compare across_comparison from_side from_second) _ hand (pos 1) _ _ _ true
        (compares_side_second on base line across_comparison hand)
        (ap (λ (n : ℕ). holds (compare across_comparison from_side from_second) n hand.second) side
        ∙ ap (λ (n : ℕ). holds (compare across_comparison from_side from_second) (word (across edge line.start)) n) second)
        (exchanged_here hand (pos 1)))))

    end_ray : (hand : Hand) → IsNear line.end → hand.first ≡ word (across edge line.end) → hand.second ≡ word (across edge edge.start)
        → Exchanges (ray_code edge from_end_latitude from_first (pos 2)) hand (pos 2) (is_crossed line.end edge)
    end_ray hand near first second =
        subst (Exchanges (ray_code edge from_end_latitude from_first (pos 2)) hand (pos 2)) (crossed_is line.end near)
        (skipping (compare_number Less from_end_latitude south) _ hand (pos 2) _ _ _ _ (compares_end_latitude on base line Less south hand)
        (compares_less line.end.latitude south (record { first = (near_fits line.end near).1; second = south_fits }))
        (skipping (compare_number GreaterOrEqual from_end_latitude north) _ hand (pos 2) _ _ _ _
        (compares_end_latitude on base line GreaterOrEqual north hand)
        (compares_greater_or_equal line.end.latitude north (record { first = (near_fits line.end near).1; second = north_fits }))
        (skipping (compare across_comparison from_first from_second) _ hand (pos 2) _ _ _ true
        (compares_first_second on base line across_comparison hand)
        (ap (λ (n : ℕ). holds (compare across_comparison from_first from_second) n hand.second) first
        ∙ ap (λ (n : ℕ). holds (compare across_comparison from_first from_second) (word (across edge line.end)) n) second)
        (exchanged_here hand (pos 2)))))

    -- the marks of both rays
    abbrev pub rayed : ℕ → ℕ
    rayed mark = exchanged_if (is_crossed line.end edge) (pos 2) (exchanged_if (is_crossed line.start edge) (pos 1) mark)

    pub rays_run : (hand : Hand) → IsShort line → hand.side ≡ word (across edge line.start) → hand.first ≡ word (across edge line.end)
        → hand.second ≡ word (across edge edge.start) → Moves on base line (rays_code edge) hand (record hand { mark = rayed hand.mark })
    rays_run hand short side first second =
        let middle : Hand = record hand { mark = exchanged_if (is_crossed line.start edge) (pos 1) hand.mark } in
        and_then (start_ray hand short.start side second) (end_ray middle short.end first second)
