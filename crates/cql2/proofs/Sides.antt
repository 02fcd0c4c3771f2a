-- The side of an edge on which a point lies. It is the difference of what the point and the edge's start lie across the edge. With coordinates of at
-- most 1000 degrees, all of these numbers fit into 64 bits with a sign.
use Rattle.std.proofs.Common.{◌≡◌, ◌*◌, ◌^◌, ◌≤◌, ℤ, pos, sym, ap, ◌∙◌, subst, arith}
use Rattle.std.specs.Prelude.{◌-ℤ◌, ◌*ℤ◌, int_lt, unsigned_abs, FitsSigned}
use Rattle.std.specs.Int.{w64}
use Rattle.std.proofs.lemmas.Int.{fits_signed_from_abs, ints}
use Rattle.cql2.specs.Geometry.{Edge, Point, eastward, is_left, is_right, northward, side}
use Rattle.cql2.proofs.Products.{abs-mul, abs-sub, mul-sub}

-- how far a point lies across an edge's direction, to its left
abbrev pub across : Edge → Point → ℤ
across edge point = eastward edge *ℤ point.latitude -ℤ northward edge *ℤ point.longitude

regrouped : (a b c d : ℤ) → (a -ℤ b) -ℤ (c -ℤ d) ≡ (a -ℤ c) -ℤ (b -ℤ d)
regrouped a b c d = omega (arith, ints)

pub side_is : (edge : Edge) (point : Point) → side edge point ≡ across edge point -ℤ across edge edge.start
side_is edge point =
    ap (λ (z : ℤ). z -ℤ northward edge *ℤ (point.longitude -ℤ edge.start.longitude))
    (mul-sub (eastward edge) point.latitude edge.start.latitude)
    ∙ ap (λ (z : ℤ). (eastward edge *ℤ point.latitude -ℤ eastward edge *ℤ edge.start.latitude) -ℤ z)
    (mul-sub (northward edge) point.longitude edge.start.longitude)
    ∙ regrouped (eastward edge *ℤ point.latitude) (eastward edge *ℤ edge.start.latitude) (northward edge *ℤ point.longitude)
    (northward edge *ℤ edge.start.longitude)

-- the signs of the side, by comparing what the point and the edge's start lie across the edge

above_is : (a b : ℤ) → int_lt (pos 0) (b -ℤ a) ≡ int_lt a b
above_is a b = grind (arith, ints)

below_is : (a b : ℤ) → int_lt (b -ℤ a) (pos 0) ≡ int_lt b a
below_is a b = grind (arith, ints)

pub left_is : (edge : Edge) (point : Point) → is_left edge point ≡ int_lt (across edge edge.start) (across edge point)
left_is edge point = ap (λ (z : ℤ). int_lt (pos 0) z) (side_is edge point) ∙ above_is (across edge edge.start) (across edge point)

pub right_is : (edge : Edge) (point : Point) → is_right edge point ≡ int_lt (across edge point) (across edge edge.start)
right_is edge point = ap (λ (z : ℤ). int_lt z (pos 0)) (side_is edge point) ∙ below_is (across edge edge.start) (across edge point)

-- sizes

-- a point's coordinates are at most 1000 degrees
pub record IsNear (point : Point) : Type 0 where
  pub longitude : unsigned_abs point.longitude ≤ 10 ^ 9
  pub latitude : unsigned_abs point.latitude ≤ 10 ^ 9

-- so have those of an edge's ends
pub record IsShort (edge : Edge) : Type 0 where
  pub start : IsNear edge.start
  pub end : IsNear edge.end

-- a difference of two such coordinates
difference_small : (a b : ℤ) → unsigned_abs a ≤ 10 ^ 9 → unsigned_abs b ≤ 10 ^ 9 → unsigned_abs (a -ℤ b) ≤ 2 * 10 ^ 9
difference_small a b one two = let most = abs-sub a b in omega arith

pub eastward_small : (edge : Edge) → IsShort edge → unsigned_abs (eastward edge) ≤ 2 * 10 ^ 9
eastward_small edge short = difference_small edge.end.longitude edge.start.longitude short.end.longitude short.start.longitude

pub northward_small : (edge : Edge) → IsShort edge → unsigned_abs (northward edge) ≤ 2 * 10 ^ 9
northward_small edge short = difference_small edge.end.latitude edge.start.latitude short.end.latitude short.start.latitude

-- the products that a point lies across an edge
pub east_small : (edge : Edge) (point : Point) → IsShort edge → IsNear point
    → unsigned_abs (eastward edge *ℤ point.latitude) ≤ 2 * 10 ^ 18
east_small edge point short near =
    abs-mul (eastward edge) point.latitude (2 * 10 ^ 9) (10 ^ 9) (eastward_small edge short) near.latitude

pub north_small : (edge : Edge) (point : Point) → IsShort edge → IsNear point
    → unsigned_abs (northward edge *ℤ point.longitude) ≤ 2 * 10 ^ 18
north_small edge point short near =
    abs-mul (northward edge) point.longitude (2 * 10 ^ 9) (10 ^ 9) (northward_small edge short) near.longitude

pub across_small : (edge : Edge) (point : Point) → IsShort edge → IsNear point → unsigned_abs (across edge point) ≤ 4 * 10 ^ 18
across_small edge point short near =
    let east = east_small edge point short near in
    let north = north_small edge point short near in
    let most = abs-sub (eastward edge *ℤ point.latitude) (northward edge *ℤ point.longitude) in
    omega arith

pub side_small : (edge : Edge) (point : Point) → IsShort edge → IsNear point → unsigned_abs (side edge point) ≤ 8 * 10 ^ 18
side_small edge point short near =
    subst (λ (z : ℤ). unsigned_abs z ≤ 8 * 10 ^ 18) (sym (side_is edge point))
    (let here = across_small edge point short near in
    let start = across_small edge edge.start short short.start in
    let most = abs-sub (across edge point) (across edge edge.start) in
    omega arith)

-- a number of this size fits into 64 bits with a sign
pub fits_64 : (z : ℤ) → unsigned_abs z ≤ 8 * 10 ^ 18 → FitsSigned w64 z
fits_64 z small = fits_signed_from_abs w64 z (omega arith)

pub side_fits : (edge : Edge) (point : Point) → IsShort edge → IsNear point → FitsSigned w64 (side edge point)
side_fits edge point short near = fits_64 (side edge point) (side_small edge point short near)
