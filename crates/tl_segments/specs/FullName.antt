-- Full street names (TIGER/Line 2006, FEDIRP, FENAME, FETYPE and FEDIRS of record types 1 and 5).
use Rattle.std.specs.Prelude.{◌≡◌, ℕ, List, [], ◌∷◌, ◌++◌, length, map}
use Rattle.tl_records.specs.Layout.{field_at}
use Rattle.tl_records.specs.declared.layout.TheConstants.Type1.{FEDIRP, FENAME, FETYPE, FEDIRS}
use Rattle.tl_segments.specs.Affixes.{Affixes}
use Rattle.tl_segments.specs.Range.{AreBytes}
use Rattle.tl_segments.specs.Segment.{SegmentParts}
use Rattle.tl_segments.specs.declared.full_name.FullName.{FullName}
use Rattle.tl_segments.specs.declared.full_name.TheConstants.{DIRECTION_LENGTH, TYPE_LENGTH}
use Rattle.tl_segments.specs.declared.name.TheConstants.{NAME_LENGTH}
use Rattle.tl_segments.specs.declared.range.RangeFields.{RangeFields}
pub use Rattle.tl_segments.specs.declared.full_name.FullNameFields.{FullNameFields}

-- the fields have the layout's lengths
pub record HasNameLengths (name : FullNameFields) : Type 0 where
  pub fedirp : length name.fedirp ≡ DIRECTION_LENGTH
  pub fename : length name.fename ≡ NAME_LENGTH
  pub fetype : length name.fetype ≡ TYPE_LENGTH
  pub fedirs : length name.fedirs ≡ DIRECTION_LENGTH

-- the fields are bytes and have the layout's lengths
pub record IsFullName (name : FullNameFields) : Type 0 where
  pub fedirp : AreBytes DIRECTION_LENGTH name.fedirp
  pub fename : AreBytes NAME_LENGTH name.fename
  pub fetype : AreBytes TYPE_LENGTH name.fetype
  pub fedirs : AreBytes DIRECTION_LENGTH name.fedirs

-- the fields of a borrowed full name
abbrev pub full_name_of : FullName → FullNameFields
full_name_of name = record {
  fedirp = name.fedirp.now;
  fename = name.fename.now;
  fetype = name.fetype.now;
  fedirs = name.fedirs.now;
}

-- the full name in a type 1 record
abbrev pub own_full_name : List ℕ → FullNameFields
own_full_name bytes = record {
  fedirp = field_at FEDIRP bytes;
  fename = field_at FENAME bytes;
  fetype = field_at FETYPE bytes;
  fedirs = field_at FEDIRS bytes;
}

-- the affixes of a full name
abbrev pub affixes_of : FullNameFields → Affixes
affixes_of name = record { fedirp = name.fedirp; fetype = name.fetype; fedirs = name.fedirs }

-- a name with its affixes
abbrev pub with_affixes : Affixes → List ℕ → FullNameFields
with_affixes affixes name = record { fedirp = affixes.fedirp; fename = name; fetype = affixes.fetype; fedirs = affixes.fedirs }

-- each name with its affixes
abbrev pub all_with_affixes : List Affixes → List (List ℕ) → List FullNameFields
all_with_affixes (affixes ∷ others) (name ∷ names) = with_affixes affixes name ∷ all_with_affixes others names
all_with_affixes affixes names = []

-- the contents of a segment with this record, these alternate names and these further ranges
abbrev pub contents : List ℕ → List FullNameFields → List RangeFields → SegmentParts
contents bytes names ranges = record {
  bytes = bytes;
  names = map (λ name. name.fename) names;
  affixes = map affixes_of names;
  ranges = ranges;
}

-- the segment with more alternate names
abbrev pub with_names : SegmentParts → List FullNameFields → SegmentParts
with_names segment names = record segment {
  names = segment.names ++ map (λ name. name.fename) names;
  affixes = segment.affixes ++ map affixes_of names;
}

-- the full names of a segment in order, counted from 0: that of the record, and then the alternate ones
abbrev pub full_names_of : SegmentParts → List FullNameFields
full_names_of segment = own_full_name segment.bytes ∷ all_with_affixes segment.affixes segment.names
