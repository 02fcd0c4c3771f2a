-- The corners of a box, as they are read.
use Rattle.std.specs.Prelude.{◌<◌, ◌^◌, ◌≤ℤ◌, unsigned_abs}
use Rattle.cql2_text.specs.Geometry.{Box}
use Rattle.cql2_text.specs.declared.shape.Corners.{Corners}

abbrev pub numbers_of : Corners → Box
numbers_of corners =
    record {
      west = corners.west.number;
      south = corners.south.number;
      east = corners.east.number;
      north = corners.north.number;
    }

-- each is less than 1000 degrees
pub record AreSmall (corners : Corners) : Type 0 where
  pub west : unsigned_abs corners.west.number < 10 ^ 18
  pub south : unsigned_abs corners.south.number < 10 ^ 18
  pub east : unsigned_abs corners.east.number < 10 ^ 18
  pub north : unsigned_abs corners.north.number < 10 ^ 18

-- the box isn't turned around
pub record IsOrdered (corners : Corners) : Type 0 where
  pub longitudes : corners.west.number ≤ℤ corners.east.number
  pub latitudes : corners.south.number ≤ℤ corners.north.number
