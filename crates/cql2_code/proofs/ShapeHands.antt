-- Runs of a shape's code, instruction by instruction: what the registers hold.
use Rattle.std.proofs.Common.{◌≡◌, ℕ, ◌^◌, ◌<◌, ℤ, List, refl, sym, ap, ◌∙◌, subst}
use Rattle.std.specs.Prelude.{FitsSigned, ◌*ℤ◌}
use Rattle.std.specs.Int.{w64}
use Rattle.std.proofs.Math.IntN.{*ℤ_comm}
use Rattle.bpf_insn.specs.Arithmetic.{condition_holds, immediate_operand, result_of}
use Rattle.bpf_insn.specs.declared.instruction.Insn.{Insn}
use Rattle.bpf_insn.specs.declared.instruction.Operation.TheVariants as operation
use Rattle.bpf_insn.specs.declared.instruction.Width.TheVariants.{Bits64}
use Rattle.bpf_insn.specs.declared.value.Value.TheVariants as value
use Rattle.bpf_meaning.specs.declared.effect.Change.TheVariants.{SetRegister}
use Rattle.cql2.specs.Geometry.{Edge, Point, eastward, northward}
use Rattle.cql2.specs.declared.filter.Comparison.{Comparison}
use Rattle.cql2.proofs.Sides.{IsNear, IsShort, across}
use Rattle.cql2_code.specs.Layout.{copy, from_argument_1, from_result, into_argument_1, into_result, wide_load}
use Rattle.cql2_code.specs.Question.{condition_of}
use Rattle.cql2_code.specs.ShapeCode.{combine, combine_number, compare, compare_number, end_across, from_end_latitude, from_end_longitude, from_first}
use Rattle.cql2_code.specs.ShapeCode.{from_second, from_side, from_start_latitude, from_start_longitude, into_first, into_second, into_side}
use Rattle.cql2_code.specs.ShapeCode.{lead_code, line_eastward, line_northward, point_across, sides_code, start_across}
use Rattle.cql2_code.proofs.DrawnRuns.{Compares}
use Rattle.cql2_code.proofs.Operands.{operand_fits, wide_is}
use Rattle.cql2_code.proofs.SideWords.{across_fits, across_word, east_fits, eastward_fits, near_fits, north_fits, northward_fits, start_fits}
use Rattle.cql2_code.proofs.Steps.{Does, Runs, Scratch, Setting, after_at, and_then, branches, changes, no_more, one_more, state}
use Rattle.cql2_code.proofs.Words.{Fit, multiplies, subtracts, word}

-- registers 0 to 4
pub record Hand : Type 0 where
  pub lead : ℕ
  pub mark : ℕ
  pub side : ℕ
  pub first : ℕ
  pub second : ℕ

-- the registers and the frame, with the line's ends in registers 5 and 7 to 9
abbrev pub filled : Scratch → Edge → Hand → Scratch
filled base line hand = record base {
  v0 = value.Number hand.lead;
  v1 = value.Number hand.mark;
  v2 = value.Number hand.side;
  v3 = value.Number hand.first;
  v4 = value.Number hand.second;
  v5 = value.Number (word line.end.latitude);
  v7 = value.Number (word line.start.longitude);
  v8 = value.Number (word line.start.latitude);
  v9 = value.Number (word line.end.longitude);
}

-- products, in the order of their factors in a side
multiplied : (a b : ℤ) → Fit a b → FitsSigned w64 (b *ℤ a) → result_of operation.Multiply Bits64 (word a) (word b) ≡ word (b *ℤ a)
multiplied a b fit fits = multiplies a b fit (subst (FitsSigned w64) (*ℤ_comm b a) fits) ∙ ap word (*ℤ_comm a b)

module _ (on : Setting) (base : Scratch) (line : Edge) where
  -- instructions that change one of the registers
  abbrev Holds : Hand → Scratch
  Holds hand = filled base line hand

  abbrev pub Moves : List Insn → Hand → Hand → Type 0
  Moves code from to = Runs on code (filled base line from) (filled base line to)

  copies_start_latitude_to_first : (hand : Hand)
      → Does on (copy into_first from_start_latitude) (Holds hand)
      (Holds (record hand { first = word line.start.latitude }))
  copies_start_latitude_to_first hand = changes on _ (SetRegister into_first (value.Number _)) _ _ (λ place. refl) (λ place next. refl)

  copies_end_latitude_to_first : (hand : Hand)
      → Does on (copy into_first from_end_latitude) (Holds hand)
      (Holds (record hand { first = word line.end.latitude }))
  copies_end_latitude_to_first hand = changes on _ (SetRegister into_first (value.Number _)) _ _ (λ place. refl) (λ place next. refl)

  copies_end_longitude_to_first : (hand : Hand)
      → Does on (copy into_first from_end_longitude) (Holds hand)
      (Holds (record hand { first = word line.end.longitude }))
  copies_end_longitude_to_first hand = changes on _ (SetRegister into_first (value.Number _)) _ _ (λ place. refl) (λ place next. refl)

  pub copies_argument_1_to_first : (hand : Hand)
      → Does on (copy into_first from_argument_1) (Holds hand)
      (Holds (record hand { first = hand.mark }))
  copies_argument_1_to_first hand = changes on _ (SetRegister into_first (value.Number _)) _ _ (λ place. refl) (λ place next. refl)

  copies_start_longitude_to_second : (hand : Hand)
      → Does on (copy into_second from_start_longitude) (Holds hand)
      (Holds (record hand { second = word line.start.longitude }))
  copies_start_longitude_to_second hand = changes on _ (SetRegister into_second (value.Number _)) _ _ (λ place. refl) (λ place next. refl)

  pub copies_end_longitude_to_second : (hand : Hand)
      → Does on (copy into_second from_end_longitude) (Holds hand)
      (Holds (record hand { second = word line.end.longitude }))
  copies_end_longitude_to_second hand = changes on _ (SetRegister into_second (value.Number _)) _ _ (λ place. refl) (λ place next. refl)

  copies_end_latitude_to_second : (hand : Hand)
      → Does on (copy into_second from_end_latitude) (Holds hand)
      (Holds (record hand { second = word line.end.latitude }))
  copies_end_latitude_to_second hand = changes on _ (SetRegister into_second (value.Number _)) _ _ (λ place. refl) (λ place next. refl)

  pub copies_first_to_side : (hand : Hand)
      → Does on (copy into_side from_first) (Holds hand)
      (Holds (record hand { side = hand.first }))
  copies_first_to_side hand = changes on _ (SetRegister into_side (value.Number _)) _ _ (λ place. refl) (λ place next. refl)

  pub copies_first_to_result : (hand : Hand)
      → Does on (copy into_result from_first) (Holds hand)
      (Holds (record hand { lead = hand.first }))
  copies_first_to_result hand = changes on _ (SetRegister into_result (value.Number _)) _ _ (λ place. refl) (λ place next. refl)

  pub subtracts_second_from_first : (hand : Hand)
      → Does on (combine operation.Subtract into_first from_second) (Holds hand)
      (Holds (record hand { first = result_of operation.Subtract Bits64 hand.first hand.second }))
  subtracts_second_from_first hand = changes on _ (SetRegister into_first (value.Number _)) _ _ (λ place. refl) (λ place next. refl)

  subtracts_start_longitude_from_first : (hand : Hand)
      → Does on (combine operation.Subtract into_first from_start_longitude) (Holds hand)
      (Holds (record hand { first = result_of operation.Subtract Bits64 hand.first (word line.start.longitude) }))
  subtracts_start_longitude_from_first hand = changes on _ (SetRegister into_first (value.Number _)) _ _ (λ place. refl) (λ place next. refl)

  subtracts_start_latitude_from_second : (hand : Hand)
      → Does on (combine operation.Subtract into_second from_start_latitude) (Holds hand)
      (Holds (record hand { second = result_of operation.Subtract Bits64 hand.second (word line.start.latitude) }))
  subtracts_start_latitude_from_second hand = changes on _ (SetRegister into_second (value.Number _)) _ _ (λ place. refl) (λ place next. refl)

  multiplies_first_by_start_latitude : (hand : Hand)
      → Does on (combine operation.Multiply into_first from_start_latitude) (Holds hand)
      (Holds (record hand { first = result_of operation.Multiply Bits64 hand.first (word line.start.latitude) }))
  multiplies_first_by_start_latitude hand = changes on _ (SetRegister into_first (value.Number _)) _ _ (λ place. refl) (λ place next. refl)

  multiplies_second_by_start_longitude : (hand : Hand)
      → Does on (combine operation.Multiply into_second from_start_longitude) (Holds hand)
      (Holds (record hand { second = result_of operation.Multiply Bits64 hand.second (word line.start.longitude) }))
  multiplies_second_by_start_longitude hand = changes on _ (SetRegister into_second (value.Number _)) _ _ (λ place. refl) (λ place next. refl)

  multiplies_first : (number : ℤ) (hand : Hand)
      → Does on (combine_number operation.Multiply into_first number) (Holds hand)
      (Holds (record hand { first = result_of operation.Multiply Bits64 hand.first (immediate_operand number) }))
  multiplies_first number hand = changes on _ (SetRegister into_first (value.Number _)) _ _ (λ place. refl) (λ place next. refl)

  pub multiplies_second : (number : ℤ) (hand : Hand)
      → Does on (combine_number operation.Multiply into_second number) (Holds hand)
      (Holds (record hand { second = result_of operation.Multiply Bits64 hand.second (immediate_operand number) }))
  multiplies_second number hand = changes on _ (SetRegister into_second (value.Number _)) _ _ (λ place. refl) (λ place next. refl)

  pub masks_first : (number : ℤ) (hand : Hand)
      → Does on (combine_number operation.And into_first number) (Holds hand)
      (Holds (record hand { first = result_of operation.And Bits64 hand.first (immediate_operand number) }))
  masks_first number hand = changes on _ (SetRegister into_first (value.Number _)) _ _ (λ place. refl) (λ place next. refl)

  pub marks_argument_1 : (number : ℤ) (hand : Hand)
      → Does on (combine_number operation.Or into_argument_1 number) (Holds hand)
      (Holds (record hand { mark = result_of operation.Or Bits64 hand.mark (immediate_operand number) }))
  marks_argument_1 number hand = changes on _ (SetRegister into_argument_1 (value.Number _)) _ _ (λ place. refl) (λ place next. refl)

  pub exchanges_argument_1 : (number : ℤ) (hand : Hand)
      → Does on (combine_number operation.ExclusiveOr into_argument_1 number) (Holds hand)
      (Holds (record hand { mark = result_of operation.ExclusiveOr Bits64 hand.mark (immediate_operand number) }))
  exchanges_argument_1 number hand = changes on _ (SetRegister into_argument_1 (value.Number _)) _ _ (λ place. refl) (λ place next. refl)

  pub masks_argument_1 : (number : ℤ) (hand : Hand)
      → Does on (combine_number operation.And into_argument_1 number) (Holds hand)
      (Holds (record hand { mark = result_of operation.And Bits64 hand.mark (immediate_operand number) }))
  masks_argument_1 number hand = changes on _ (SetRegister into_argument_1 (value.Number _)) _ _ (λ place. refl) (λ place next. refl)

  pub loads_second : (number : ℕ) (hand : Hand) → number < 2 ^ 64
      → Does on (wide_load into_second number) (Holds hand) (Holds (record hand { second = number }))
  loads_second number hand fits =
      subst (λ (n : ℕ). Does on (wide_load into_second number) (Holds hand) (Holds (record hand { second = n }))) (wide_is number fits)
      (changes on _ (SetRegister into_second (value.Number _)) _ _ (λ place. refl) (λ place next. refl))

  -- comparisons

  pub compares_first_second : (comparison : Comparison) (hand : Hand)
      → Compares on (Holds hand) (compare comparison from_first from_second) hand.first hand.second
  compares_first_second comparison hand = record {
    step = λ place words at next target.
        sym (after_at on (state on (Holds hand) place) _ at
        ∙ branches on (Holds hand) place words (condition_holds (condition_of comparison) Bits64 hand.first hand.second) next target);
  }

  pub compares_side_second : (comparison : Comparison) (hand : Hand) → Compares on (Holds hand) (compare comparison from_side from_second) hand.side hand.second
  compares_side_second comparison hand = record {
    step = λ place words at next target.
        sym (after_at on (state on (Holds hand) place) _ at
        ∙ branches on (Holds hand) place words (condition_holds (condition_of comparison) Bits64 hand.side hand.second) next target);
  }

  pub compares_first_result : (comparison : Comparison) (hand : Hand)
      → Compares on (Holds hand) (compare comparison from_first from_result) hand.first hand.lead
  compares_first_result comparison hand = record {
    step = λ place words at next target.
        sym (after_at on (state on (Holds hand) place) _ at
        ∙ branches on (Holds hand) place words (condition_holds (condition_of comparison) Bits64 hand.first hand.lead) next target);
  }

  pub compares_side_result : (comparison : Comparison) (hand : Hand) → Compares on (Holds hand) (compare comparison from_side from_result) hand.side hand.lead
  compares_side_result comparison hand = record {
    step = λ place words at next target.
        sym (after_at on (state on (Holds hand) place) _ at
        ∙ branches on (Holds hand) place words (condition_holds (condition_of comparison) Bits64 hand.side hand.lead) next target);
  }

  pub compares_first : (comparison : Comparison) (number : ℤ) (hand : Hand)
      → Compares on (Holds hand) (compare_number comparison from_first number) (hand.first) (immediate_operand number)
  compares_first comparison number hand = record {
    step = λ place words at next target.
        sym (after_at on (state on (Holds hand) place) _ at
        ∙ branches on (Holds hand) place words (condition_holds (condition_of comparison) Bits64 (hand.first) (immediate_operand number)) next target);
  }

  pub compares_start_longitude : (comparison : Comparison) (number : ℤ) (hand : Hand)
      → Compares on (Holds hand) (compare_number comparison from_start_longitude number) (word line.start.longitude) (immediate_operand number)
  compares_start_longitude comparison number hand = record {
    step = λ place words at next target.
        sym (after_at on (state on (Holds hand) place) _ at
        ∙ branches on (Holds hand) place words (condition_holds (condition_of comparison) Bits64 (word line.start.longitude)
        (immediate_operand number)) next target);
  }

  pub compares_start_latitude : (comparison : Comparison) (number : ℤ) (hand : Hand)
      → Compares on (Holds hand) (compare_number comparison from_start_latitude number) (word line.start.latitude) (immediate_operand number)
  compares_start_latitude comparison number hand = record {
    step = λ place words at next target.
        sym (after_at on (state on (Holds hand) place) _ at
        ∙ branches on (Holds hand) place words (condition_holds (condition_of comparison) Bits64 (word line.start.latitude)
        (immediate_operand number)) next target);
  }

  pub compares_end_longitude : (comparison : Comparison) (number : ℤ) (hand : Hand)
      → Compares on (Holds hand) (compare_number comparison from_end_longitude number) (word line.end.longitude) (immediate_operand number)
  compares_end_longitude comparison number hand = record {
    step = λ place words at next target.
        sym (after_at on (state on (Holds hand) place) _ at
        ∙ branches on (Holds hand) place words (condition_holds (condition_of comparison) Bits64 (word line.end.longitude)
        (immediate_operand number)) next target);
  }

  pub compares_end_latitude : (comparison : Comparison) (number : ℤ) (hand : Hand)
      → Compares on (Holds hand) (compare_number comparison from_end_latitude number) (word line.end.latitude) (immediate_operand number)
  compares_end_latitude comparison number hand = record {
    step = λ place words at next target.
        sym (after_at on (state on (Holds hand) place) _ at
        ∙ branches on (Holds hand) place words (condition_holds (condition_of comparison) Bits64 (word line.end.latitude)
        (immediate_operand number)) next target);
  }

  -- sides

  -- a code leaves a number in register 3; register 4 may change
  pub record Finds (code : List Insn) (hand : Hand) (number : ℤ) : Type 0 where
    pub second : ℕ
    pub runs : Moves code hand (record hand { first = word number; second = second })

  pub found : (code : List Insn) (hand : Hand) (number : ℤ) (first second : ℕ) → first ≡ word number
      → Moves code hand (record hand { first = first; second = second }) → Finds code hand number
  found code hand number first second is runs =
      record { second = second; runs = subst (λ (n : ℕ). Moves code hand (record hand { first = n; second = second })) is runs }

  module _ (edge : Edge) (short : IsShort edge) (near_start : IsNear line.start) (near_end : IsNear line.end) where
    across_by : (point : Point) → IsNear point
        → result_of operation.Subtract Bits64 (result_of operation.Multiply Bits64 (word point.latitude) (word (eastward edge)))
        (result_of operation.Multiply Bits64 (word point.longitude) (word (northward edge)))
        ≡ word (across edge point)
    across_by point near =
        ap (λ (n : ℕ). result_of operation.Subtract Bits64 n (result_of operation.Multiply Bits64 (word point.longitude) (word (northward edge))))
        (multiplied point.latitude (eastward edge) (record { first = (near_fits point near).1; second = eastward_fits edge short })
        (east_fits edge short point near))
        ∙ ap (λ (n : ℕ). result_of operation.Subtract Bits64 (word (eastward edge *ℤ point.latitude)) n)
        (multiplied point.longitude (northward edge) (record { first = (near_fits point near).0; second = northward_fits edge short })
        (north_fits edge short point near))
        ∙ subtracts (eastward edge *ℤ point.latitude) (northward edge *ℤ point.longitude)
        (record { first = east_fits edge short point near; second = north_fits edge short point near }) (across_fits edge short point near)

    start_runs : (hand : Hand) → Finds (end_across edge from_start_longitude from_start_latitude) hand (across edge line.start)
    start_runs hand = found _ hand _ _ _ (across_by line.start near_start)
        (one_more (copies_start_latitude_to_first _) (one_more (multiplies_first _ _)
        (one_more (copies_start_longitude_to_second _) (one_more (multiplies_second _ _) (one_more (subtracts_second_from_first _) no_more)))))

    end_runs : (hand : Hand) → Finds (end_across edge from_end_longitude from_end_latitude) hand (across edge line.end)
    end_runs hand = found _ hand _ _ _ (across_by line.end near_end)
        (one_more (copies_end_latitude_to_first _) (one_more (multiplies_first _ _)
        (one_more (copies_end_longitude_to_second _) (one_more (multiplies_second _ _) (one_more (subtracts_second_from_first _) no_more)))))

    -- how far the line's ends and the edge's start lie across the edge
    pub sides_run : (hand : Hand) → Moves (sides_code edge) hand (record hand {
      side = word (across edge line.start);
      first = word (across edge line.end);
      second = word (across edge edge.start);
    })
    sides_run hand =
        let start = start_runs hand in
        let between : Hand = record hand { side = word (across edge line.start); first = word (across edge line.start); second = start.second } in
        let end = end_runs between in
        and_then start.runs
        (one_more (copies_first_to_side _)
        (and_then end.runs (one_more (loads_second _ _ (operand_fits (start_across edge) (start_fits edge short))) no_more)))

  -- how far points lie across the line
  module _ (short : IsShort line) where
    eastward_runs : (hand : Hand) → Moves line_eastward hand (record hand { first = word (eastward line) })
    eastward_runs hand =
        subst (λ (n : ℕ). Moves line_eastward hand (record hand { first = n }))
        (subtracts line.end.longitude line.start.longitude
        (record { first = (near_fits line.end short.end).0; second = (near_fits line.start short.start).0 }) (eastward_fits line short))
        (one_more (copies_end_longitude_to_first _) (one_more (subtracts_start_longitude_from_first _) no_more))

    pub northward_runs : (hand : Hand) → Moves line_northward hand (record hand { second = word (northward line) })
    northward_runs hand =
        subst (λ (n : ℕ). Moves line_northward hand (record hand { second = n }))
        (subtracts line.end.latitude line.start.latitude
        (record { first = (near_fits line.end short.end).1; second = (near_fits line.start short.start).1 }) (northward_fits line short))
        (one_more (copies_end_latitude_to_second _) (one_more (subtracts_start_latitude_from_second _) no_more))

    across_of : (point : Point) → IsNear point
        → result_of operation.Subtract Bits64 (result_of operation.Multiply Bits64 (word (eastward line)) (word point.latitude))
        (result_of operation.Multiply Bits64 (word (northward line)) (word point.longitude))
        ≡ word (across line point)
    across_of point near = across_word line short point near

    pub point_runs : (point : Point) (hand : Hand) → IsNear point → Finds (point_across point) hand (across line point)
    point_runs point hand near = found _ hand _ _ _ (across_of point near)
        (and_then (eastward_runs hand)
        (one_more (multiplies_first _ _)
        (and_then (northward_runs _) (one_more (multiplies_second _ _) (one_more (subtracts_second_from_first _) no_more)))))

    -- register 0 receives how far its start does
    pub record Leads (hand : Hand) : Type 0 where
      pub first : ℕ
      pub second : ℕ
      pub runs : Moves lead_code hand (record hand { lead = word (across line line.start); first = first; second = second })

    led : (hand : Hand) (lead first second : ℕ) → lead ≡ word (across line line.start)
        → Moves lead_code hand (record hand { lead = lead; first = first; second = second }) → Leads hand
    led hand lead first second is runs = record {
      first = first;
      second = second;
      runs = subst (λ (n : ℕ). Moves lead_code hand (record hand { lead = n; first = first; second = second })) is runs;
    }

    pub lead_runs : (hand : Hand) → Leads hand
    lead_runs hand = led hand _ _ _ (across_of line.start short.start)
        (and_then (eastward_runs hand)
        (one_more (multiplies_first_by_start_latitude _)
        (and_then (northward_runs _)
        (one_more (multiplies_second_by_start_longitude _)
        (one_more (subtracts_second_from_first _) (one_more (copies_first_to_result _) no_more))))))
