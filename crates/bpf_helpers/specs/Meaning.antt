-- What the helper functions return about a segment (TIGER/Line 2006: record type 1 for fields and coordinates; types 1, 4 and 5 for names; types 1
-- and 6 for ranges). The set of functions and their answers are this project's own.
use Rattle.std.specs.Prelude.{ℕ, ℤ, ◌+◌, ◌*◌, Bool, true, false, List, [], take, replicate, slice_get, Option, Some, None}
use Rattle.std.specs.Int.{w64, cast_unsigned}
use Rattle.tl_fields.specs.Coordinate.{coordinate_of}
use Rattle.tl_fields.specs.Number.{number_of}
use Rattle.tl_records.specs.Layout.{field_at}
use Rattle.tl_records.specs.declared.layout.Places.{Places}
use Rattle.tl_segments.specs.Name.{name_equals}
use Rattle.tl_segments.specs.Range.{lies_on}
use Rattle.tl_segments.specs.declared.range.RangeFields.{RangeFields}
use Rattle.bpf_helpers.specs.declared.fields.TheConstants.{FIELDS, COORDINATES}

-- 1 for true, 0 for false
abbrev pub truth : Bool → ℕ
truth true = 1
truth false = 0

-- the bytes of a record at the given places, or no bytes if there are no places
abbrev pub bytes_at : List ℕ → Option Places → List ℕ
bytes_at line None = []
bytes_at line (Some places) = field_at places line

-- the number in the field with an id, if the field has one
abbrev pub field_number : List ℕ → ℕ → Option ℕ
field_number line id = number_of (bytes_at line (slice_get FIELDS id))

abbrev pub or_zero : Option ℕ → ℕ
or_zero None = 0
or_zero (Some n) = n

-- the sides of a range on which a house number lies: 0 for none, 1 for the left, 2 for the right, 3 for both
abbrev pub sides : ℕ → Option RangeFields → ℕ
sides house None = 0
sides house (Some range) = truth (lies_on house range.fraddl range.toaddl) + 2 * truth (lies_on house range.fraddr range.toaddr)

-- a name equals some bytes; a missing name equals none
abbrev pub is_name : List ℕ → Option (List ℕ) → Bool
is_name required None = false
is_name required (Some name) = name_equals name required

-- the first `count` bytes of a name, or blanks if the name is missing
abbrev pub first_bytes : ℕ → Option (List ℕ) → List ℕ
first_bytes count None = replicate count 32
first_bytes count (Some name) = take count name

-- a coordinate in two's complement, 0 if it's missing
abbrev pub coordinate_word : Option ℤ → ℕ
coordinate_word None = 0
coordinate_word (Some millionths) = cast_unsigned w64 millionths

-- a coordinate of the segment's ends: 0 and 1 are the longitude and latitude of its start, 2 and 3 those of its end
abbrev pub coordinate : List ℕ → ℕ → ℕ
coordinate line which = coordinate_word (coordinate_of (bytes_at line (slice_get COORDINATES which)))
