-- The line of text of a hit.
use Rattle.std.specs.Prelude.{ℕ, List, ◌++◌, codes, decimal, Option, Some, None}
use Rattle.std.specs.Fmt.{signed_decimal}
use Rattle.std.specs.List.{flat_map}
use Rattle.geocode.specs.declared.hit.Hit.{Hit}
use Rattle.linear_referencing.specs.declared.place.Place.{Place}
use Rattle.geocode.specs.declared.hit.Side.{Side}
use Rattle.geocode.specs.declared.hit.Side.TheVariants.{Left, Right}

abbrev pub letter : Side → List ℕ
letter Left = codes "L"
letter Right = codes "R"

-- longitude and latitude in decimal, without a plus sign; each is a single minus if there is no place
abbrev pub place_text : Option Place → List ℕ
place_text (Some place) = signed_decimal place.longitude ++ codes "\t" ++ signed_decimal place.latitude
place_text None = codes "-\t-"

-- TLID, the side's letter, longitude and latitude, separated by tabs and terminated by LF
abbrev pub line : Hit → List ℕ
line hit = decimal hit.tlid ++ codes "\t" ++ letter hit.side ++ codes "\t" ++ place_text hit.place ++ codes "\n"

-- the lines of the hits, one after the other
abbrev pub hit_lines : List Hit → List ℕ
hit_lines hits = flat_map line hits
