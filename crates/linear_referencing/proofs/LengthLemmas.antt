-- Lengths of lines, and of squares.
use Rattle.std.proofs.Common.{◌≡◌, ◌<◌, ◌≤◌, ℕ, ◌+◌, ◌-◌, ◌*◌, ◌^◌, List, [], ◌∷◌, ◌++◌, length, take, get_or, append_assoc, refl, sym, ap, ◌∙◌, arith, inl, inr}
use Rattle.std.proofs.lemmas.Bool.{cases_lt}
use Rattle.std.proofs.Math.Nat.{mul-le-mul}
use Rattle.std.proofs.lemmas.List.{take_more}
use Rattle.linear_referencing.specs.Length.{IsLength, IsPieceLength}
use Rattle.tl_segments.specs.declared.shape.Point.{Point}

-- a line that goes on to one more point is longer by the last piece
pub length-longer : (before : List Point) (from to : Point) (total piece : ℕ) → IsLength (before ++ from ∷ []) total → IsPieceLength from to piece
    → IsLength (before ++ from ∷ to ∷ []) (total + piece)
length-longer [] from to total piece is_length is_piece = (piece, 0, is_piece, refl, omega (arith, is_length))
length-longer (point ∷ []) from to total piece (first, others, is_first, is_others, is_total) is_piece =
    (first, others + piece, is_first, (piece, 0, is_piece, refl, omega (arith, is_others)), omega (arith, is_total))
length-longer (point ∷ next ∷ before) from to total piece (first, others, is_first, is_others, is_total) is_piece =
    (first, others + piece, is_first, length-longer (next ∷ before) from to others piece is_others is_piece, omega (arith, is_total))

-- The line from a first point on through as many of the others ends at this point, and is this long.
abbrev pub IsReached : Point → List Point → ℕ → Point → ℕ → Type 0
IsReached first others index from total =
    (before : List Point) × (first ∷ take index others ≡ before ++ from ∷ []) × IsLength (before ++ from ∷ []) total

module _ (first : Point) (others : List Point) where
  -- the line to the next point
  pub reached-next : (index : ℕ) (from default : Point) (total piece : ℕ) → index < length others → IsReached first others index from total
      → IsPieceLength from (get_or others index default) piece → IsReached first others (index + 1) (get_or others index default) (total + piece)
  reached-next index from default total piece within (before, is_line, is_length) is_piece =
      let to = get_or others index default in (
        before ++ from ∷ [],
        ap (λ points. first ∷ points) (take_more others index default within) ∙ ap (λ points. points ++ to ∷ []) is_line,
        rw (append_assoc before (from ∷ []) (to ∷ [])) (length-longer before from to total piece is_length is_piece),
      )

-- what has a smaller square is smaller
pub square-smaller : (r n : ℕ) → r * r < n * n → r < n
square-smaller r n squares = elim (cases_lt r n) [ inl less ↦ less | inr more ↦ absurd (omega (arith, squares, mul-le-mul more more)) ]

-- two points have one distance
one-piece-length : (from to : Point) (piece other : ℕ) → IsPieceLength from to piece → IsPieceLength from to other → piece ≡ other
one-piece-length from to piece other (lower, upper) (lower', upper') =
    omega (arith, square-smaller piece (other + 1) (omega (arith, lower, upper')), square-smaller other (piece + 1) (omega (arith, lower', upper)))

-- a line has one length
pub one_length_lem : (points : List Point) (total other : ℕ) → IsLength points total → IsLength points other → total ≡ other
one_length_lem [] total other is_total is_other = is_total ∙ sym is_other
one_length_lem (point ∷ []) total other is_total is_other = is_total ∙ sym is_other
one_length_lem (from ∷ to ∷ after) total other (piece, others, is_piece, is_others, sum) (piece', others', is_piece', is_others', sum') =
    omega (arith, sum, sum', one-piece-length from to piece piece' is_piece is_piece', one_length_lem (to ∷ after) others others' is_others is_others')

square-at-most : (a b : ℕ) → a ≤ b → a * a ≤ b * b
square-at-most a b le = mul-le-mul le le

-- the length of a piece whose sides are short is small
pub piece-small : (r east north : ℕ) → east < 2 ^ 48 → north < 2 ^ 48 → r * r ≤ east * east + north * north → r < 2 ^ 49
piece-small r east north short short' squares = square-smaller r (2 ^ 49)
    (omega (arith, squares, square-at-most east (2 ^ 48) (omega arith), square-at-most north (2 ^ 48) (omega arith)))

product-at-most : (a b m n : ℕ) → a ≤ m → b ≤ n → a * b ≤ m * n
product-at-most a b m n le le' = mul-le-mul le le'

-- a difference of longitudes times a cosine
pub product-small : (a b : ℕ) → a < 2 ^ 32 → b < 2 ^ 16 → a * b < 2 ^ 48
product-small a b small small' = omega (arith, product-at-most a b (2 ^ 32 - 1) (2 ^ 16 - 1) (omega arith) (omega arith))
