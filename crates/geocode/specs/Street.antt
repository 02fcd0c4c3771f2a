-- Streets, as a search names them (TIGER/Line 2006, FEDIRP, FENAME, FETYPE and FEDIRS of record types 1 and 5).
use Rattle.std.specs.Prelude.{◌≡◌, ℕ, Bool, true, ◌&&◌, ◌||◌, List, find, Option, is_some}
use Rattle.tl_fields.specs.Number.{is_blank}
use Rattle.tl_segments.specs.FullName.{full_names_of}
use Rattle.tl_segments.specs.Name.{name_equals}
use Rattle.tl_segments.specs.Segment.{SegmentParts}
use Rattle.tl_segments.specs.declared.full_name.FullNameFields.{FullNameFields}
use Rattle.geocode.specs.declared.street.Street.{Street}

-- a street's name, and its directions and type if they are wanted
pub record StreetParts : Type 0 where
  pub name : List ℕ
  pub predir : List ℕ
  pub kind : List ℕ
  pub sufdir : List ℕ

abbrev pub parts_of : Street → StreetParts
parts_of street = record { name = street.name.text.now; predir = street.predir.now; kind = street.kind.now; sufdir = street.sufdir.now }

-- a field equals the wanted text, compared as names are; a blank text matches any field
abbrev pub agrees : List ℕ → List ℕ → Bool
agrees wanted field = is_blank wanted || name_equals field wanted

-- a full name is the street's
abbrev pub fits : StreetParts → FullNameFields → Bool
fits street name =
    name_equals name.fename street.name && agrees street.predir name.fedirp && agrees street.kind name.fetype && agrees street.sufdir name.fedirs

-- the first full name of a segment that is the street's
abbrev pub name_on : StreetParts → SegmentParts → Option FullNameFields
name_on street segment = find (fits street) (full_names_of segment)

-- some full name of a segment is the street's
abbrev pub is_on_street : StreetParts → SegmentParts → Bool
is_on_street street segment = is_some (name_on street segment)

-- neither a direction nor a type is wanted
pub record WantsNameAlone (street : StreetParts) : Type 0 where
  pub predir : is_blank street.predir ≡ true
  pub kind : is_blank street.kind ≡ true
  pub sufdir : is_blank street.sufdir ≡ true
