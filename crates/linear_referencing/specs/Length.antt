-- The length of a line on the sphere, in units of 1/32,768 of a millionth of a degree of latitude.
use Rattle.std.specs.Prelude.{◌≡◌, ◌≤◌, ◌<◌, ℕ, ◌+◌, ◌*◌, ◌/◌, ◌%◌, ◌-◌, ◌^◌, nat_abs, ◌+ℤ◌, ◌-ℤ◌, List, [], ◌∷◌, slice_index}
use Rattle.tl_segments.specs.declared.shape.Point.{Point}

-- the cosine of each whole degree from 0 to 90, in units of 1/32,768, rounded to the nearest
abbrev pub cosines : List ℕ
cosines =
    32768 ∷ 32763 ∷ 32748 ∷ 32723 ∷ 32688 ∷ 32643 ∷ 32588 ∷ 32524 ∷ 32449 ∷ 32365 ∷ 32270 ∷ 32166 ∷ 32052 ∷ 31928 ∷ 31795 ∷ 31651 ∷ 31499 ∷
    31336 ∷ 31164 ∷ 30983 ∷ 30792 ∷ 30592 ∷ 30382 ∷ 30163 ∷ 29935 ∷ 29698 ∷ 29452 ∷ 29197 ∷ 28932 ∷ 28660 ∷ 28378 ∷ 28088 ∷ 27789 ∷ 27482 ∷
    27166 ∷ 26842 ∷ 26510 ∷ 26170 ∷ 25822 ∷ 25466 ∷ 25102 ∷ 24730 ∷ 24351 ∷ 23965 ∷ 23571 ∷ 23170 ∷ 22763 ∷ 22348 ∷ 21926 ∷ 21498 ∷ 21063 ∷
    20622 ∷ 20174 ∷ 19720 ∷ 19261 ∷ 18795 ∷ 18324 ∷ 17847 ∷ 17364 ∷ 16877 ∷ 16384 ∷ 15886 ∷ 15384 ∷ 14876 ∷ 14365 ∷ 13848 ∷ 13328 ∷ 12803 ∷
    12275 ∷ 11743 ∷ 11207 ∷ 10668 ∷ 10126 ∷ 9580 ∷ 9032 ∷ 8481 ∷ 7927 ∷ 7371 ∷ 6813 ∷ 6252 ∷ 5690 ∷ 5126 ∷ 4560 ∷ 3993 ∷ 3425 ∷ 2856 ∷ 2286 ∷
    1715 ∷ 1144 ∷ 572 ∷ 0 ∷ []

-- the cosine of whole degrees, in units of 1/32,768; 0 from 90 degrees on
abbrev pub cosine_at : ℕ → ℕ
cosine_at degree = slice_index cosines degree

-- the cosine of a latitude in millionths of a degree, linear between whole degrees
abbrev pub cosine : ℕ → ℕ
cosine latitude =
    (cosine_at (latitude / 10 ^ 6) * (10 ^ 6 - latitude % 10 ^ 6) + cosine_at (latitude / 10 ^ 6 + 1) * (latitude % 10 ^ 6)) / 10 ^ 6

-- how far the middle between two points is from the equator, in millionths of a degree
abbrev pub mean_latitude : Point → Point → ℕ
mean_latitude from to = nat_abs (from.latitude +ℤ to.latitude) / 2

-- how far a point is to the east or west of another one, and to the north or south
abbrev pub east : Point → Point → ℕ
east from to = nat_abs (from.longitude -ℤ to.longitude) * cosine (mean_latitude from to)

abbrev pub north : Point → Point → ℕ
north from to = nat_abs (from.latitude -ℤ to.latitude) * 2 ^ 15

-- the square of the distance of two points (Pythagoras)
abbrev pub squared_length : Point → Point → ℕ
squared_length from to = east from to * east from to + north from to * north from to

-- the distance of two points, rounded down to a whole unit
abbrev pub IsPieceLength : Point → Point → ℕ → Type 0
IsPieceLength from to amount = (amount * amount ≤ squared_length from to) × (squared_length from to < (amount + 1) * (amount + 1))

-- the length of a line: the sum of its pieces
abbrev pub IsLength : List Point → ℕ → Type 0
IsLength [] total = total ≡ 0
IsLength (point ∷ []) total = total ≡ 0
IsLength (from ∷ to ∷ after) total =
    (piece : ℕ) × (others : ℕ) × IsPieceLength from to piece × IsLength (to ∷ after) others × (total ≡ piece + others)
