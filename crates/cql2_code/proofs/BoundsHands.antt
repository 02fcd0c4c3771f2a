-- Runs of a box's code, instruction by instruction: how far a corner lies across the line.
use Rattle.std.proofs.Common.{◌≡◌, ℕ, ◌<◌, ◌^◌, ◌==◌, ◌&&◌, ℤ, pos, Bool, true, false, [], ◌∷◌, ◌++◌, if◌then◌else◌, refl, sym, ap, ◌∙◌, subst, arith, lit<}
use Rattle.std.specs.Prelude.{◌+ℤ◌, unsigned_abs, ◌≤◌}
use Rattle.std.proofs.lemmas.Bool.{eqb-true}
use Rattle.std.proofs.lemmas.Int.{ints}
use Rattle.bpf_insn.specs.Arithmetic.{immediate_operand, result_of}
use Rattle.bpf_insn.specs.declared.instruction.Operation.TheVariants as operation
use Rattle.bpf_insn.specs.declared.instruction.Width.TheVariants.{Bits64}
use Rattle.bpf_insn.specs.declared.value.Value.TheVariants as value
use Rattle.bpf_meaning.specs.declared.effect.Change.TheVariants.{SetRegister}
use Rattle.cql2.specs.Geometry.{Edge, Point, eastward, northward}
use Rattle.cql2.proofs.Finer.{no_rests}
use Rattle.cql2.proofs.Sides.{IsNear, IsShort, across}
use Rattle.cql2_code.specs.Layout.{copy}
use Rattle.cql2_code.specs.ShapeCode.{add_across, combine, combine_number, corner_across, corners_across, from_end_longitude, from_second}
use Rattle.cql2_code.specs.ShapeCode.{from_start_longitude, into_first, into_second, northeast, point_across, rest_point, round_first}
use Rattle.cql2_code.specs.ShapeCode.{rounding_shift, southwest, whole_point}
use Rattle.cql2_code.specs.declared.bounds.Corner.{Corner}
use Rattle.cql2_code.specs.declared.bounds.Rectangle.{Rectangle}
use Rattle.cql2_code.specs.declared.bounds.Rounding.{Rounding}
use Rattle.cql2_code.specs.declared.bounds.Rounding.TheVariants.{Down, Up}
use Rattle.cql2_code.proofs.BoundsSides.{added_word, corner_small, corner_word, rest_near, rounded, rounded_across, whole_near}
use Rattle.cql2_code.proofs.ShapeHands.{Finds, Hand, Moves, copies_end_longitude_to_second, copies_first_to_side, filled, found, loads_second}
use Rattle.cql2_code.proofs.ShapeHands.{multiplies_second, northward_runs, point_runs, subtracts_second_from_first}
use Rattle.cql2_code.proofs.SideWords.{eastward_fits, near_fits}
use Rattle.cql2_code.proofs.Steps.{Does, Scratch, Setting, and_then, changes, no_more, one_more}
use Rattle.cql2_code.proofs.Words.{subtracts, word}

module _ (on : Setting) (base : Scratch) (line : Edge) where
  abbrev Holds : Hand → Scratch
  Holds hand = filled base line hand

  adds_second_to_first : (hand : Hand)
      → Does on (combine operation.Add into_first from_second) (Holds hand)
      (Holds (record hand { first = result_of operation.Add Bits64 hand.first hand.second }))
  adds_second_to_first hand = changes on _ (SetRegister into_first (value.Number _)) _ _ (λ place. refl) (λ place next. refl)

  subtracts_start_longitude_from_second : (hand : Hand)
      → Does on (combine operation.Subtract into_second from_start_longitude) (Holds hand)
      (Holds (record hand { second = result_of operation.Subtract Bits64 hand.second (word line.start.longitude) }))
  subtracts_start_longitude_from_second hand = changes on _ (SetRegister into_second (value.Number _)) _ _ (λ place. refl) (λ place next. refl)

  divides_first : (number : ℤ) (hand : Hand)
      → Does on (combine_number operation.SignedDivide into_first number) (Holds hand)
      (Holds (record hand { first = result_of operation.SignedDivide Bits64 hand.first (immediate_operand number) }))
  divides_first number hand = changes on _ (SetRegister into_first (value.Number _)) _ _ (λ place. refl) (λ place next. refl)

  lowers_first : (number : ℤ) (hand : Hand)
      → Does on (combine_number operation.Subtract into_first number) (Holds hand)
      (Holds (record hand { first = result_of operation.Subtract Bits64 hand.first (immediate_operand number) }))
  lowers_first number hand = changes on _ (SetRegister into_first (value.Number _)) _ _ (λ place. refl) (λ place next. refl)

  shift_fits : (rounding : Rounding) → rounding_shift rounding < 2 ^ 64
  shift_fits Down = lit< tt
  shift_fits Up = lit< tt

  -- a 10^9th of the number in register 3, rounded
  rounds_run : (rounding : Rounding) (hand : Hand) (number : ℤ)
      → result_of operation.Subtract Bits64
      (result_of operation.Subtract Bits64
      (result_of operation.SignedDivide Bits64 (result_of operation.Add Bits64 hand.first (rounding_shift rounding)) (word (pos 1000000000)))
      (word (pos 2000000000)))
      (word (pos 2000000000))
      ≡ word number
      → Finds on base line (round_first rounding) hand number
  rounds_run rounding hand number is = found on base line (round_first rounding) hand number _ _ is
      (one_more (loads_second on base line (rounding_shift rounding) hand (shift_fits rounding))
      (one_more (adds_second_to_first _)
      (one_more (divides_first (pos 1000000000) _)
      (one_more (lowers_first (pos 2000000000) _) (one_more (lowers_first (pos 2000000000) _) no_more)))))

  module _ (short : IsShort line) where
    eastward_runs : (hand : Hand)
        → Moves on base line (copy into_second from_end_longitude ∷ combine operation.Subtract into_second from_start_longitude ∷ []) hand
        (record hand { second = word (eastward line) })
    eastward_runs hand =
        subst (λ (n : ℕ). Moves on base line (copy into_second from_end_longitude ∷ combine operation.Subtract into_second from_start_longitude ∷ [])
        hand (record hand { second = n }))
        (subtracts line.end.longitude line.start.longitude
        (record { first = (near_fits line.end short.end).0; second = (near_fits line.start short.start).0 }) (eastward_fits line short))
        (one_more (copies_end_longitude_to_second on base line hand) (one_more (subtracts_start_longitude_from_second _) no_more))

    adds_run : (point : Point) (hand : Hand) (number : ℤ) → IsNear point → unsigned_abs number ≤ 10 ^ 10 → hand.first ≡ word number
        → Finds on base line (add_across point) hand (across line point +ℤ number)
    adds_run point hand number near few is = found on base line (add_across point) hand (across line point +ℤ number) _ _
        (ap (λ (n : ℕ). result_of operation.Subtract Bits64
        (result_of operation.Add Bits64 n (result_of operation.Multiply Bits64 (word (eastward line)) (word point.latitude)))
        (result_of operation.Multiply Bits64 (word (northward line)) (word point.longitude))) is
        ∙ added_word line short number point near few)
        (and_then (eastward_runs hand)
        (one_more (multiplies_second on base line _ _)
        (one_more (adds_second_to_first _)
        (and_then (northward_runs on base line short _)
        (one_more (multiplies_second on base line _ _) (one_more (subtracts_second_from_first on base line _) no_more))))))

    -- the corner's rests are computed first, if there are some
    rests_run : (rounding : Rounding) (corner : Corner) (hand : Hand)
        → Finds on base line (point_across (rest_point corner) ++ (round_first rounding ++ add_across (whole_point corner))) hand
        (rounded_across line rounding corner)
    rests_run rounding corner hand =
        let rest = across line (rest_point corner) in
        let point = point_runs on base line short (rest_point corner) hand (rest_near corner) in
        let pointed : Hand = record hand { first = word rest; second = point.second } in
        let round = rounds_run rounding pointed (rounded rounding rest) (corner_word line short corner rounding) in
        let done : Hand = record hand { first = word (rounded rounding rest); second = round.second } in
        let all = adds_run (whole_point corner) done (rounded rounding rest) (whole_near corner) (corner_small line short corner rounding) refl in
        record { second = all.second; runs = and_then point.runs (and_then round.runs all.runs) }

    none_rounded : (rounding : Rounding) → rounded rounding (pos 0) ≡ pos 0
    none_rounded Down = refl
    none_rounded Up = refl

    nothing_more : (a : ℤ) → a ≡ a +ℤ pos 0
    nothing_more a = omega (arith, ints)

    whole_is : (rounding : Rounding) (corner : Corner) → corner.longitude.rest ≡ 0 → corner.latitude.rest ≡ 0
        → across line (whole_point corner) ≡ rounded_across line rounding corner
    whole_is rounding corner east north =
        nothing_more (across line (whole_point corner))
        ∙ ap (λ (z : ℤ). across line (whole_point corner) +ℤ z)
        (sym (ap (rounded rounding) (no_rests line corner.longitude corner.latitude east north) ∙ none_rounded rounding))

    corner_runs : (rounding : Rounding) (corner : Corner) (hand : Hand)
        → Finds on base line (corner_across rounding corner) hand (rounded_across line rounding corner)
    corner_runs rounding corner hand = by_rests (corner.longitude.rest == 0) (corner.latitude.rest == 0) refl refl
      where
        by_rests : (east north : Bool) → (corner.longitude.rest == 0) ≡ east → (corner.latitude.rest == 0) ≡ north
            → Finds on base line (if east && north then point_across (whole_point corner)
            else point_across (rest_point corner) ++ (round_first rounding ++ add_across (whole_point corner))) hand (rounded_across line rounding corner)
        by_rests true true one two =
            subst (Finds on base line (point_across (whole_point corner)) hand)
            (whole_is rounding corner (eqb-true corner.longitude.rest 0 one) (eqb-true corner.latitude.rest 0 two))
            (point_runs on base line short (whole_point corner) hand (whole_near corner))
        by_rests true false one two = rests_run rounding corner hand
        by_rests false north one two = rests_run rounding corner hand

    -- an edge's corners, into registers 2 and 3; register 4 may change
    pub record Lies (rounding : Rounding) (edge : Rectangle) (hand : Hand) : Type 0 where
      pub second : ℕ
      pub runs : Moves on base line (corners_across rounding edge) hand (record hand {
        side = word (rounded_across line rounding (southwest edge));
        first = word (rounded_across line rounding (northeast edge));
        second = second;
      })

    pub corners_run : (rounding : Rounding) (edge : Rectangle) (hand : Hand) → Lies rounding edge hand
    corners_run rounding edge hand =
        let start = corner_runs rounding (southwest edge) hand in
        let reached : Hand = record hand { first = word (rounded_across line rounding (southwest edge)); second = start.second } in
        let between : Hand = record reached { side = word (rounded_across line rounding (southwest edge)) } in
        let end = corner_runs rounding (northeast edge) between in
        record { second = end.second; runs = and_then start.runs (one_more (copies_first_to_side on base line reached) end.runs) }
