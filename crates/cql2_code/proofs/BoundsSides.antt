-- The side of the line on which a corner of a box lies, as a program computes it on 64 bits.
use Rattle.std.proofs.Common.{◌≡◌, ℕ, ◌+◌, ◌*◌, ◌^◌, ◌≤◌, ◌<◌, ◌==◌, ℤ, pos, negsuc, Bool, true, false, refl, sym, ap, ◌∙◌, subst, if◌then◌else◌, arith, lit<}
use Rattle.std.specs.Prelude.{FitsSigned, ◌+ℤ◌, ◌-ℤ◌, ◌*ℤ◌, ◌≤ℤ◌, ◌<ℤ◌, int_div, int_lt, unsigned_abs}
use Rattle.std.specs.Int.{w64}
use Rattle.std.proofs.lemmas.Bool.{eqb-true}
use Rattle.std.proofs.lemmas.Int.{ints}
use Rattle.bpf_insn.specs.Arithmetic.{condition_holds, result_of}
use Rattle.bpf_insn.specs.declared.instruction.Condition.TheVariants.{SignedGreater, SignedLess}
use Rattle.bpf_insn.specs.declared.instruction.Operation.TheVariants.{Add, Multiply, SignedDivide, Subtract}
use Rattle.bpf_insn.specs.declared.instruction.Width.TheVariants.{Bits64}
use Rattle.cql2.specs.Femtodegrees.{in_femtodegrees}
use Rattle.cql2.specs.Geometry.{Edge, Point, corner, eastward, femtodegrees, finer_edge, is_left, is_right, northward}
use Rattle.cql2.specs.declared.geometry.Bound.{Bound}
use Rattle.cql2.proofs.Finer.{IsDown, IsUp, corner_left, corner_right}
use Rattle.cql2.proofs.Sides.{IsNear, IsShort, across, across_small, east_small, fits_64}
use Rattle.cql2_code.specs.ShapeCode.{rest_point, rounded_up, rounding_shift, whole_point}
use Rattle.cql2_code.specs.declared.bounds.Corner.{Corner}
use Rattle.cql2_code.specs.declared.bounds.Rounding.{Rounding}
use Rattle.cql2_code.specs.declared.bounds.Rounding.TheVariants.{Down, Up}
use Rattle.cql2_code.proofs.SideWords.{east_fits, eastward_fits, near_fits, north_fits, northward_fits, start_fits}
use Rattle.cql2_code.proofs.WordLemmas.{IsWord, abs_divide, add_is, divide_is, fits_by, subtract_is, word_is, written}
use Rattle.cql2_code.proofs.Words.{adds, compares_greater, compares_less, multiplies, subtracts, word}

-- bounds have at most ten digits, and the rests of millionths at most nine
pub whole_near : (corner : Corner) → IsNear (whole_point corner)
whole_near corner = record { longitude = corner.longitude.millionths_fit; latitude = corner.latitude.millionths_fit }

pub rest_near : (corner : Corner) → IsNear (rest_point corner)
rest_near corner =
    let longitude = corner.longitude.rest_fits in
    let latitude = corner.latitude.rest_fits in
    record { longitude = omega arith; latitude = omega arith }

-- bounds rounded inwards

pub less_rounded : (number : ℤ) (bound : Bound) → int_lt number (rounded_up bound) ≡ int_lt (in_femtodegrees number 0) (femtodegrees bound)
less_rounded number bound = by_rest bound.millionths bound.rest (bound.rest == 0) refl bound.rest_fits
  where
    by_rest : (millionths : ℤ) (rest : ℕ) (none : Bool) → (rest == 0) ≡ none → rest < 10 ^ 9
        → int_lt number (if none then millionths else millionths +ℤ pos 1) ≡ int_lt (in_femtodegrees number 0) (in_femtodegrees millionths rest)
    by_rest millionths rest true is fits = let zero = eqb-true rest 0 is in grind (arith, ints, zero)
    by_rest millionths rest false is fits = grind (arith, ints)

pub greater_rounded : (number : ℤ) (bound : Bound) → int_lt bound.millionths number ≡ int_lt (femtodegrees bound) (in_femtodegrees number 0)
greater_rounded number bound = let fits = bound.rest_fits in grind (arith, ints, fits)

-- A 10^9th of a number, rounded

abbrev pub quotient : Rounding → ℤ → ℤ
quotient rounding number = int_div (number +ℤ pos (rounding_shift rounding)) (pos 1000000000)

abbrev pub rounded : Rounding → ℤ → ℤ
rounded rounding number = (quotient rounding number -ℤ pos 2000000000) -ℤ pos 2000000000

quotient_most : (number : ℤ) → pos 0 ≤ℤ number → (int_div number (pos 1000000000) *ℤ pos (10 ^ 9)) ≤ℤ number
quotient_most (pos n) known = omega (arith, ints)
quotient_most (negsuc n) known = let no : ⊥ = omega (arith, ints, known) in absurd no

quotient_least : (number : ℤ) → pos 0 ≤ℤ number → number <ℤ (int_div number (pos 1000000000) *ℤ pos (10 ^ 9) +ℤ pos (10 ^ 9))
quotient_least (pos n) known = omega (arith, ints)
quotient_least (negsuc n) known = let no : ⊥ = omega (arith, ints, known) in absurd no

module _ (number : ℤ) (small : unsigned_abs number ≤ 4 * 10 ^ 18) where
  shifted_positive : (rounding : Rounding) → pos 0 ≤ℤ (number +ℤ pos (rounding_shift rounding))
  shifted_positive Down = omega (arith, ints, small)
  shifted_positive Up = omega (arith, ints, small)

  pub rounded_is_up : IsUp number (rounded Up number)
  rounded_is_up =
      let most = quotient_most (number +ℤ pos (rounding_shift Up)) (shifted_positive Up) in
      let least = quotient_least (number +ℤ pos (rounding_shift Up)) (shifted_positive Up) in
      record { least = omega (arith, ints, most, least); no_less = omega (arith, ints, most, least) }

  pub rounded_is_down : IsDown number (rounded Down number)
  rounded_is_down =
      let most = quotient_most (number +ℤ pos (rounding_shift Down)) (shifted_positive Down) in
      let least = quotient_least (number +ℤ pos (rounding_shift Down)) (shifted_positive Down) in
      record { greatest = omega (arith, ints, most, least); no_greater = omega (arith, ints, most, least) }

  pub rounded_small : (rounding : Rounding) → unsigned_abs (rounded rounding number) ≤ 10 ^ 10
  rounded_small Up =
      let least = rounded_is_up.least in let no_less = rounded_is_up.no_less in omega (arith, ints, least, no_less, small)
  rounded_small Down =
      let greatest = rounded_is_down.greatest in let no_greater = rounded_is_down.no_greater in omega (arith, ints, greatest, no_greater, small)

  -- the numbers in between fit into 64 bits

  sum_small : (rounding : Rounding) → unsigned_abs (number +ℤ pos (rounding_shift rounding)) ≤ 9 * 10 ^ 18
  sum_small Down = omega (arith, ints, small)
  sum_small Up = omega (arith, ints, small)

  quotient_small : (rounding : Rounding) → unsigned_abs (quotient rounding number) ≤ 9 * 10 ^ 18
  quotient_small rounding =
      let less = abs_divide (number +ℤ pos (rounding_shift rounding)) (pos 1000000000) in let sum = sum_small rounding in omega arith

  lowered_fits : (rounding : Rounding) → FitsSigned w64 (quotient rounding number -ℤ pos 2000000000)
  lowered_fits rounding =
      let few = quotient_small rounding in
      fits_by (quotient rounding number -ℤ pos 2000000000) (9 * 10 ^ 18 + 2000000000) (omega (arith, ints, few)) (lit< tt)

  shift_is : (rounding : Rounding) → IsWord (rounding_shift rounding) (pos (rounding_shift rounding))
  shift_is Down = record { small = lit< tt; is = refl }
  shift_is Up = record { small = lit< tt; is = refl }

  pub rounded_fits : (rounding : Rounding) → FitsSigned w64 (rounded rounding number)
  rounded_fits rounding = fits_by (rounded rounding number) (10 ^ 10) (rounded_small rounding) (lit< tt)

  pub rounded_word : (rounding : Rounding)
      → result_of Subtract Bits64
      (result_of Subtract Bits64 (result_of SignedDivide Bits64 (result_of Add Bits64 (word number) (rounding_shift rounding)) (word (pos 1000000000)))
      (word (pos 2000000000)))
      (word (pos 2000000000))
      ≡ word (rounded rounding number)
  rounded_word rounding =
      let billion = written (pos 1000000000) (fits_by (pos 1000000000) (10 ^ 10) (omega arith) (lit< tt)) in
      let half = written (pos 2000000000) (fits_by (pos 2000000000) (10 ^ 10) (omega arith) (lit< tt)) in
      let sum = add_is (written number (fits_by number (4 * 10 ^ 18) small (lit< tt))) (shift_is rounding)
      (fits_by (number +ℤ pos (rounding_shift rounding)) (9 * 10 ^ 18) (sum_small rounding) (lit< tt)) in
      let divided = divide_is sum billion refl (fits_by (quotient rounding number) (9 * 10 ^ 18) (quotient_small rounding) (lit< tt)) in
      word_is (subtract_is (subtract_is divided half (lowered_fits rounding)) half (rounded_fits rounding))

-- how far a corner lies across a line
abbrev pub rounded_across : Edge → Rounding → Corner → ℤ
rounded_across line rounding place = across line (whole_point place) +ℤ rounded rounding (across line (rest_point place))

regrouped : (number a b : ℤ) → (number +ℤ a) -ℤ b ≡ (a -ℤ b) +ℤ number
regrouped number a b = omega (arith, ints)

module _ (line : Edge) (short : IsShort line) where
  -- what a point lies across it is added to a number
  pub added_word : (number : ℤ) (point : Point) → IsNear point → unsigned_abs number ≤ 10 ^ 10
      → result_of Subtract Bits64 (result_of Add Bits64 (word number) (result_of Multiply Bits64 (word (eastward line)) (word point.latitude)))
      (result_of Multiply Bits64 (word (northward line)) (word point.longitude))
      ≡ word (across line point +ℤ number)
  added_word number point near few =
      ap (λ (n : ℕ). result_of Subtract Bits64 (result_of Add Bits64 (word number) n)
      (result_of Multiply Bits64 (word (northward line)) (word point.longitude)))
      (multiplies (eastward line) point.latitude (record { first = eastward_fits line short; second = (near_fits point near).1 })
      (east_fits line short point near))
      ∙ ap (λ (n : ℕ). result_of Subtract Bits64 (result_of Add Bits64 (word number) (word (eastward line *ℤ point.latitude))) n)
      (multiplies (northward line) point.longitude (record { first = northward_fits line short; second = (near_fits point near).0 })
      (north_fits line short point near))
      ∙ ap (λ (n : ℕ). result_of Subtract Bits64 n (word (northward line *ℤ point.longitude)))
      (adds number (eastward line *ℤ point.latitude) (record { first = number_fits; second = east_fits line short point near }) sum_fits)
      ∙ subtracts (number +ℤ eastward line *ℤ point.latitude) (northward line *ℤ point.longitude)
      (record { first = sum_fits; second = north_fits line short point near }) (subst (FitsSigned w64) (sym same) all_fits)
      ∙ ap word same
    where
      number_fits : FitsSigned w64 number
      number_fits = fits_by number (10 ^ 10) few (lit< tt)

      sum_fits : FitsSigned w64 (number +ℤ eastward line *ℤ point.latitude)
      sum_fits = let east = east_small line point short near in fits_64 (number +ℤ eastward line *ℤ point.latitude) (omega (arith, ints, east, few))

      all_fits : FitsSigned w64 (across line point +ℤ number)
      all_fits = let all = across_small line point short near in fits_64 (across line point +ℤ number) (omega (arith, ints, all, few))

      same : (number +ℤ eastward line *ℤ point.latitude) -ℤ northward line *ℤ point.longitude ≡ across line point +ℤ number
      same = regrouped number (eastward line *ℤ point.latitude) (northward line *ℤ point.longitude)

  module _ (place : Corner) where
    rests_small : unsigned_abs (across line (rest_point place)) ≤ 4 * 10 ^ 18
    rests_small = across_small line (rest_point place) short (rest_near place)

    pub corner_small : (rounding : Rounding) → unsigned_abs (rounded rounding (across line (rest_point place))) ≤ 10 ^ 10
    corner_small rounding = rounded_small (across line (rest_point place)) rests_small rounding

    corner_fits : (rounding : Rounding) → FitsSigned w64 (rounded_across line rounding place)
    corner_fits rounding =
        let whole = across_small line (whole_point place) short (whole_near place) in
        let few = corner_small rounding in
        fits_64 (rounded_across line rounding place) (omega (arith, ints, whole, few))

    pub corner_word : (rounding : Rounding)
        → result_of Subtract Bits64
        (result_of Subtract Bits64
        (result_of SignedDivide Bits64 (result_of Add Bits64 (word (across line (rest_point place))) (rounding_shift rounding)) (word (pos 1000000000)))
        (word (pos 2000000000)))
        (word (pos 2000000000))
        ≡ word (rounded rounding (across line (rest_point place)))
    corner_word rounding = rounded_word (across line (rest_point place)) rests_small rounding

    -- its sign decides the side
    pub corner_left_holds : condition_holds SignedGreater Bits64 (word (rounded_across line Up place)) (word (across line line.start))
        ≡ is_left (finer_edge line) (corner place.longitude place.latitude)
    corner_left_holds =
        compares_greater (rounded_across line Up place) (across line line.start) (record { first = corner_fits Up; second = start_fits line short })
        ∙ sym (corner_left line place.longitude place.latitude (rounded Up (across line (rest_point place)))
        (rounded_is_up (across line (rest_point place)) rests_small))

    pub corner_right_holds : condition_holds SignedLess Bits64 (word (rounded_across line Down place)) (word (across line line.start))
        ≡ is_right (finer_edge line) (corner place.longitude place.latitude)
    corner_right_holds =
        compares_less (rounded_across line Down place) (across line line.start) (record { first = corner_fits Down; second = start_fits line short })
        ∙ sym (corner_right line place.longitude place.latitude (rounded Down (across line (rest_point place)))
        (rounded_is_down (across line (rest_point place)) rests_small))
