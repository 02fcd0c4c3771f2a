-- Affixes of street names (TIGER/Line 2006, FEDIRP, FETYPE and FEDIRS of record types 1 and 5).
use Rattle.std.specs.Prelude.{ℕ, List, replicate}
use Rattle.tl_segments.specs.Range.{AreBytes}
use Rattle.tl_segments.specs.declared.full_name.TheConstants.{DIRECTION_LENGTH, TYPE_LENGTH}

-- the prefix direction of a name, its feature type, and its suffix direction
pub record Affixes : Type 0 where
  pub fedirp : List ℕ
  pub fetype : List ℕ
  pub fedirs : List ℕ

-- the fields are bytes and have the layout's lengths
pub record AreAffixes (affixes : Affixes) : Type 0 where
  pub fedirp : AreBytes DIRECTION_LENGTH affixes.fedirp
  pub fetype : AreBytes TYPE_LENGTH affixes.fetype
  pub fedirs : AreBytes DIRECTION_LENGTH affixes.fedirs

-- the affixes of a name that has none: blanks
abbrev pub no_affixes : Affixes
no_affixes = record {
  fedirp = replicate DIRECTION_LENGTH 32;
  fetype = replicate TYPE_LENGTH 32;
  fedirs = replicate DIRECTION_LENGTH 32;
}
