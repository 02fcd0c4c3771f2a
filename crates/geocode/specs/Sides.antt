-- The sides of an address range (TIGER/Line 2006, record types 1 and 6).
use Rattle.std.specs.Prelude.{ℕ, List}
use Rattle.tl_segments.specs.declared.range.RangeFields.{RangeFields}
use Rattle.geocode.specs.declared.hit.Side.{Side}
use Rattle.geocode.specs.declared.hit.Side.TheVariants.{Left, Right}
use Rattle.geocode.specs.declared.sides.SideFields.{SideFields}

-- the fields of a range that belong to one side
pub record SideParts : Type 0 where
  pub from : List ℕ
  pub to : List ℕ
  pub zip : List ℕ

-- the fields of a borrowed side
abbrev pub parts_of : SideFields → SideParts
parts_of side = record { from = side.from.now; to = side.to.now; zip = side.zip.now }

abbrev pub side_of : RangeFields → Side → SideParts
side_of range Left = record { from = range.fraddl; to = range.toaddl; zip = range.zipl }
side_of range Right = record { from = range.fraddr; to = range.toaddr; zip = range.zipr }
