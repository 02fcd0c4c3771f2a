-- Shapes: the points of a line, the place of a part, and what one more line adds.
use Rattle.std.proofs.Common.{◌≡◌, ℕ, suc, ◌+◌, ◌-◌, ◌<◌, ◌≤◌, List, [], ◌∷◌, ◌++◌, length, map, get_or, take, drop}
use Rattle.std.proofs.Common.{Option, Some, None, inl, inr, refl, sym, ap, subst, ◌∙◌, arith}
use Rattle.std.specs.List.{range_with_len}
use Rattle.std.proofs.lemmas.Bool.Decides.{eqb_tells}
use Rattle.std.proofs.lemmas.List.{get_or-map, map-append, take-append-drop}
use Rattle.std.proofs.lemmas.List.FromFn.{map-range_with_len_more, take-map-range_with_len, get_or-map-range_with_len, length-map-range_with_len}
use Rattle.std.proofs.Math.Seq.{drop-cons}
use Rattle.tl_segments.specs.Shape.{ShapePartParts, before_none, point_at, points_in}
use Rattle.tl_segments.specs.Shape.{sequence_at}
use Rattle.tl_segments.specs.declared.shape.Point.{Point}

-- Points

before_none-all : (points : List Point) → before_none (map Some points) ≡ points
before_none-all [] = refl
before_none-all (point ∷ points) = ap (λ l. point ∷ l) (before_none-all points)

before_none-until : (points : List Point) (others : List (Option Point)) → before_none (map Some points ++ None ∷ others) ≡ points
before_none-until [] others = refl
before_none-until (point ∷ points) others = ap (λ l. point ∷ l) (before_none-until points others)

module _ (line : List ℕ) (points : List Point) where
  -- one more point
  pub points-more : (point : Point) (k : ℕ) → map Some points ≡ map (point_at line) (range_with_len 1 k)
      → Some point ≡ point_at line (k + 1) → map Some (points ++ point ∷ []) ≡ map (point_at line) (range_with_len 1 (k + 1))
  points-more point k so_far is =
      map-append Some points (point ∷ [])
      ∙ ap (λ l. l ++ Some point ∷ []) so_far
      ∙ ap (λ found. map (point_at line) (range_with_len 1 k) ++ found ∷ []) is
      ∙ sym (map-range_with_len_more (point_at line) 1 k (k + 1) (omega arith))

  -- all points
  pub points_all : (k : ℕ) → k ≡ 10 → map Some points ≡ map (point_at line) (range_with_len 1 k) → points ≡ points_in line
  unfolding points_in
  points_all k all so_far =
      sym (before_none-all points) ∙ ap before_none so_far ∙ ap (λ k. before_none (map (point_at line) (range_with_len 1 k))) all

  -- the points before an unused one
  pub points_until : (k : ℕ) → k < 10 → map Some points ≡ map (point_at line) (range_with_len 1 k) → None ≡ point_at line (k + 1)
      → points ≡ points_in line
  unfolding points_in
  points_until k inside so_far unused =
      let all : List (Option Point) = map (point_at line) (range_with_len 1 10) in
      let long : length all ≡ 10 = length-map-range_with_len (point_at line) 1 10 in
      let first : take k all ≡ map Some points =
      take-map-range_with_len (point_at line) 1 10 k (omega arith) ∙ sym so_far in
      let here : get_or all k None ≡ None =
      get_or-map-range_with_len (point_at line) 1 10 k (k + 1) None inside (omega arith) ∙ sym unused in
      sym (before_none-until points (drop (suc k) all))
      ∙ ap (λ l. before_none (l ++ None ∷ drop (suc k) all)) (sym first)
      ∙ ap (λ found. before_none (take k all ++ found ∷ drop (suc k) all)) (sym here)
      ∙ ap (λ l. before_none (take k all ++ l)) (sym (drop-cons all k None (omega (arith, long))))
      ∙ ap before_none (take-append-drop k all)

length-before_none : (points : List (Option Point)) → length (before_none points) ≤ length points
length-before_none [] = omega arith
length-before_none (None ∷ points) = omega arith
length-before_none (Some point ∷ points) = omega (arith, length-before_none points)

-- a line has at most ten points
pub few_points_in : (line : List ℕ) → length (points_in line) ≤ 10
unfolding points_in
few_points_in line =
    let all : List (Option Point) = map (point_at line) (range_with_len 1 10) in
    omega (arith, length-before_none all, length-map-range_with_len (point_at line) 1 10)

-- Places

module _ (parts : List ShapePartParts) where
  pub sequence_at-is : (k : ℕ) (part : ShapePartParts) → k < length parts → part ≡ get_or parts k part → sequence_at parts k ≡ part.sequence
  sequence_at-is k part inside is =
      get_or-map (λ (part : ShapePartParts). part.sequence) parts k part 0 inside ∙ ap (λ (part : ShapePartParts). part.sequence) (sym is)

  -- the parts from one place earlier on, if the one there has a greater sequence number
  pub greater-more : (sequence place : ℕ) (part : ShapePartParts) → 0 < place → place ≤ length parts → part ≡ get_or parts (place - 1) part
      → sequence < part.sequence → ((k : ℕ) → place ≤ k → k < length parts → sequence < sequence_at parts k)
      → (k : ℕ) → place - 1 ≤ k → k < length parts → sequence < sequence_at parts k
  greater-more sequence place part some within is greater so_far k from to = elim (eqb_tells k (place - 1)) [
    | inl here ↦ subst (λ k. sequence < sequence_at parts k) (sym here.1)
        (omega (arith, greater, sequence_at-is (place - 1) part (omega arith) is))
    | inr other ↦ so_far k (let apart = other.1 in omega (arith, apart)) to
  ]
