-- Places on a line, by their distance from its start (linear referencing).
use Rattle.std.specs.Prelude.{◌≡◌, ◌≤◌, ℕ, ◌+◌, ◌*◌, ◌/◌, ℤ, pos, ◌+ℤ◌, ◌-ℤ◌, ◌*ℤ◌, ◌≤ℤ◌, ◌⊎◌, int_div, ◌==◌, if◌then◌else◌, List, [], ◌∷◌, ◌++◌}
use Rattle.linear_referencing.specs.Length.{IsLength, IsPieceLength}
use Rattle.linear_referencing.specs.declared.place.Share.{Share}
use Rattle.linear_referencing.specs.declared.place.Place.{Place}
use Rattle.tl_segments.specs.declared.shape.Point.{Point}

-- as far from one coordinate to another as a part is of a whole, with the quotient truncated toward zero
abbrev pub coordinate_between : ℤ → ℤ → ℕ → ℕ → ℤ
coordinate_between from to part whole = if whole == 0 then from else from +ℤ int_div ((to -ℤ from) *ℤ pos part) (pos whole)

-- the coordinate is one of two others or between them
abbrev pub IsBetween : ℤ → ℤ → ℤ → Type 0
IsBetween from to coordinate = ((from ≤ℤ coordinate) × (coordinate ≤ℤ to)) ⊎ ((to ≤ℤ coordinate) × (coordinate ≤ℤ from))

-- the place at this distance from the first of two points, which are `whole` apart
abbrev pub place_between : Point → Point → ℕ → ℕ → Place
place_between from to part whole = record {
  longitude = coordinate_between from.longitude to.longitude part whole;
  latitude = coordinate_between from.latitude to.latitude part whole;
}

-- The place is on a piece of the line, and this distance from the start of the line along it.
pub record IsAtDistance (points : List Point) (distance : ℕ) (place : Place) : Type 0 where
  pub before : List Point
  pub from : Point
  pub to : Point
  pub after : List Point
  pub on_line : points ≡ before ++ from ∷ to ∷ after
  pub start : ℕ
  pub to_piece : IsLength (before ++ from ∷ []) start
  pub rest : ℕ
  pub is_distance : distance ≡ start + rest
  pub piece : ℕ
  pub of_piece : IsPieceLength from to piece
  pub within : rest ≤ piece
  pub is_place : place ≡ place_between from to rest piece

-- the place at this share of the line's length, rounded down to a whole unit
pub record IsAtShare (points : List Point) (share : Share) (place : Place) : Type 0 where
  pub total : ℕ
  pub is_total : IsLength points total
  pub at_distance : IsAtDistance points (total * share.part / share.whole) place
