-- The side of an edge on which a point lies, as a program computes it on 64 bits.
use Rattle.std.proofs.Common.{◌≡◌, ℤ, sym, ap, ◌∙◌, subst, arith}
use Rattle.std.specs.Prelude.{FitsSigned, ◌-ℤ◌, ◌*ℤ◌}
use Rattle.std.specs.Int.{w64, cast_signed, cast_unsigned}
use Rattle.bpf_insn.specs.Arithmetic.{condition_holds, result_of}
use Rattle.bpf_insn.specs.declared.instruction.Condition.TheVariants.{SignedGreater, SignedLess}
use Rattle.bpf_insn.specs.declared.instruction.Operation.TheVariants.{Multiply, Subtract}
use Rattle.bpf_insn.specs.declared.instruction.Width.TheVariants.{Bits64}
use Rattle.cql2.specs.Geometry.{Edge, Point, eastward, is_left, is_right, northward}
use Rattle.cql2.proofs.Sides.{IsNear, IsShort, across, across_small, east_small, eastward_small, fits_64, left_is, north_small}
use Rattle.cql2.proofs.Sides.{northward_small, right_is}
use Rattle.cql2_code.proofs.Words.{compares_greater, compares_less, multiplies, signed_word, subtracts, word}

-- a coordinate of at most nine digits fits
pub near_fits : (point : Point) → IsNear point → (FitsSigned w64 point.longitude) × (FitsSigned w64 point.latitude)
near_fits point near =
    let longitude = near.longitude in
    let latitude = near.latitude in
    (fits_64 point.longitude (omega arith), fits_64 point.latitude (omega arith))

module _ (edge : Edge) (short : IsShort edge) where
  pub eastward_fits : FitsSigned w64 (eastward edge)
  eastward_fits = let small = eastward_small edge short in fits_64 (eastward edge) (omega arith)

  pub northward_fits : FitsSigned w64 (northward edge)
  northward_fits = let small = northward_small edge short in fits_64 (northward edge) (omega arith)

  module _ (point : Point) (near : IsNear point) where
    pub east_fits : FitsSigned w64 (eastward edge *ℤ point.latitude)
    east_fits = let small = east_small edge point short near in fits_64 (eastward edge *ℤ point.latitude) (omega arith)

    pub north_fits : FitsSigned w64 (northward edge *ℤ point.longitude)
    north_fits = let small = north_small edge point short near in fits_64 (northward edge *ℤ point.longitude) (omega arith)

    pub across_fits : FitsSigned w64 (across edge point)
    across_fits = let small = across_small edge point short near in fits_64 (across edge point) (omega arith)

    -- what a point lies across an edge, from its coordinates and the edge's direction
    pub across_word : result_of Subtract Bits64 (result_of Multiply Bits64 (word (eastward edge)) (word point.latitude))
        (result_of Multiply Bits64 (word (northward edge)) (word point.longitude))
        ≡ word (across edge point)
    across_word =
        ap (λ n. result_of Subtract Bits64 n (result_of Multiply Bits64 (word (northward edge)) (word point.longitude)))
        (multiplies (eastward edge) point.latitude (record { first = eastward_fits; second = (near_fits point near).1 }) east_fits)
        ∙ ap (λ n. result_of Subtract Bits64 (word (eastward edge *ℤ point.latitude)) n)
        (multiplies (northward edge) point.longitude (record { first = northward_fits; second = (near_fits point near).0 }) north_fits)
        ∙ subtracts (eastward edge *ℤ point.latitude) (northward edge *ℤ point.longitude)
        (record { first = east_fits; second = north_fits }) across_fits

  pub start_fits : FitsSigned w64 (across edge edge.start)
  start_fits = across_fits edge.start short.start

  -- its sign decides the side
  pub left_holds : (point : Point) → IsNear point
      → condition_holds SignedGreater Bits64 (word (across edge point)) (word (across edge edge.start)) ≡ is_left edge point
  left_holds point near =
      compares_greater (across edge point) (across edge edge.start) (record { first = across_fits point near; second = start_fits })
      ∙ sym (left_is edge point)

  pub right_holds : (point : Point) → IsNear point
      → condition_holds SignedLess Bits64 (word (across edge point)) (word (across edge edge.start)) ≡ is_right edge point
  right_holds point near =
      compares_less (across edge point) (across edge edge.start) (record { first = across_fits point near; second = start_fits })
      ∙ sym (right_is edge point)

-- a number that is read from its bits

abbrev pub reread : ℤ → ℤ
reread number = cast_signed w64 (cast_unsigned w64 number)

pub product_reread : (a b c : ℤ) → FitsSigned w64 a → FitsSigned w64 b → FitsSigned w64 c → FitsSigned w64 (a -ℤ b)
    → reread (reread a -ℤ reread b) *ℤ reread c ≡ (a -ℤ b) *ℤ c
product_reread a b c one two three difference =
    ap (λ (z : ℤ). reread (z -ℤ reread b) *ℤ reread c) (signed_word a one) ∙ ap (λ (z : ℤ). reread (a -ℤ z) *ℤ reread c) (signed_word b two)
    ∙ ap (λ (z : ℤ). z *ℤ reread c) (signed_word (a -ℤ b) difference) ∙ ap (λ (z : ℤ). (a -ℤ b) *ℤ z) (signed_word c three)

module _ (edge : Edge) (short : IsShort edge) where
  abbrev pub east_product : ℤ
  east_product = reread (reread edge.end.longitude -ℤ reread edge.start.longitude) *ℤ reread edge.start.latitude

  abbrev pub north_product : ℤ
  north_product = reread (reread edge.end.latitude -ℤ reread edge.start.latitude) *ℤ reread edge.start.longitude

  east_product_is : east_product ≡ eastward edge *ℤ edge.start.latitude
  east_product_is =
      product_reread edge.end.longitude edge.start.longitude edge.start.latitude (near_fits edge.end short.end).0
      (near_fits edge.start short.start).0 (near_fits edge.start short.start).1 (eastward_fits edge short)

  north_product_is : north_product ≡ northward edge *ℤ edge.start.longitude
  north_product_is =
      product_reread edge.end.latitude edge.start.latitude edge.start.longitude (near_fits edge.end short.end).1
      (near_fits edge.start short.start).1 (near_fits edge.start short.start).0 (northward_fits edge short)

  pub east_product_fits : FitsSigned w64 east_product
  east_product_fits = subst (FitsSigned w64) (sym east_product_is) (east_fits edge short edge.start short.start)

  pub north_product_fits : FitsSigned w64 north_product
  north_product_fits = subst (FitsSigned w64) (sym north_product_is) (north_fits edge short edge.start short.start)

  difference_is : reread east_product -ℤ reread north_product ≡ across edge edge.start
  difference_is =
      ap (λ (z : ℤ). z -ℤ reread north_product) (signed_word east_product east_product_fits ∙ east_product_is)
      ∙ ap (λ (z : ℤ). eastward edge *ℤ edge.start.latitude -ℤ z) (signed_word north_product north_product_fits ∙ north_product_is)

  pub difference_fits : FitsSigned w64 (reread east_product -ℤ reread north_product)
  difference_fits = subst (FitsSigned w64) (sym difference_is) (start_fits edge short)

  pub start_reread : reread (reread east_product -ℤ reread north_product) ≡ across edge edge.start
  start_reread = signed_word _ difference_fits ∙ difference_is
