-- Places on a line.
use Rattle.std.proofs.Common.{◌≡◌, ◌<◌, ◌≤◌, ℕ, ◌+◌, ◌-◌, List, [], ◌∷◌, ◌++◌, length, take, drop, get_or, append_assoc, sym, ap, ◌∙◌, arith}
use Rattle.std.proofs.lemmas.Grind.{common_steps}
use Rattle.std.proofs.lemmas.List.{take_more, take-append-drop}
use Rattle.linear_referencing.specs.Length.{IsPieceLength}
use Rattle.linear_referencing.specs.Place.{IsAtDistance, place_between}
use Rattle.linear_referencing.specs.declared.place.Place.{Place}
use Rattle.tl_segments.specs.declared.shape.Point.{Point}
use Rattle.linear_referencing.proofs.LengthLemmas.{IsReached}

-- a list before, at and after an index
split-at : (points : List Point) (index : ℕ) (default : Point) → index < length points
    → points ≡ take index points ++ get_or points index default ∷ drop (index + 1) points
split-at points index default within =
    sym (take-append-drop (index + 1) points) ∙ ap (λ front. front ++ drop (index + 1) points) (take_more points index default within)
    ∙ append_assoc (take index points) (get_or points index default ∷ []) (drop (index + 1) points)

-- a line is its first point and the others
pub first-and-others : (points : List Point) (default : Point) → 1 ≤ length points
    → points ≡ get_or points 0 default ∷ take (length points - 1) (drop 1 points)
first-and-others points default some = grind (arith, common_steps)

-- The place is this distance from the start of a line, on the piece that ends at this one of the points after the first.
pub record IsOnPiece (first : Point) (others : List Point) (index : ℕ) (default : Point) (distance : ℕ) (place : Place) : Type 0 where
  pub inside : index < length others
  pub from : Point
  pub start : ℕ
  pub is_reached : IsReached first others index from start
  pub piece : ℕ
  pub of_piece : IsPieceLength from (get_or others index default) piece
  pub rest : ℕ
  pub within : rest ≤ piece
  pub is_distance : distance ≡ start + rest
  pub is_place : place ≡ place_between from (get_or others index default) rest piece

pub at-distance : (points : List Point) (first : Point) (others : List Point) (index : ℕ) (default : Point) (distance : ℕ) (place : Place)
    → points ≡ first ∷ others → IsOnPiece first others index default distance place → IsAtDistance points distance place
at-distance points first others index default distance place is_points on =
    let to = get_or others index default in
    let before = on.is_reached.0 in record {
      before = before;
      from = on.from;
      to = to;
      after = drop (index + 1) others;
      on_line = is_points ∙ ap (λ points. first ∷ points) (split-at others index default on.inside)
          ∙ ap (λ points. points ++ to ∷ drop (index + 1) others) on.is_reached.1
          ∙ append_assoc before (on.from ∷ []) (to ∷ drop (index + 1) others);
      start = on.start;
      to_piece = on.is_reached.2;
      rest = on.rest;
      is_distance = on.is_distance;
      piece = on.piece;
      of_piece = on.of_piece;
      within = on.within;
      is_place = on.is_place;
    }
