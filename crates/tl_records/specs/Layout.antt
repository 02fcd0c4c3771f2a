-- Fields by the columns of a record layout (TIGER/Line 2006, record layouts, columns Beg and End).
use Rattle.std.specs.Prelude.{ℕ, ◌+◌, ◌*◌, ◌≤◌, List, Some, None}
use Rattle.tl_fields.specs.Field.{field_of}
use Rattle.tl_records.specs.declared.fault.LineFaultKind.TheVariants.{BadTlid, BadFeature}
use Rattle.tl_records.specs.declared.layout.Layout.{Layout}
use Rattle.tl_records.specs.declared.layout.Places.{Places}

-- from one column of a line to another, counted from 1, both inclusive
abbrev pub places : ℕ → ℕ → Places
places first last = record { 0 = first; 1 = last }

-- the field in these columns of a line
abbrev pub field_at : Places → List ℕ → List ℕ
field_at places line = field_of line places.0 places.1

-- these are columns of a line of `count` bytes: counted from 1, the last not before the first
abbrev pub IsWithin : Places → ℕ → Type 0
IsWithin places count = (1 ≤ places.0) × (places.0 ≤ places.1) × (places.1 ≤ count)

-- The layout of each record type's lines: their length, their first byte (the digit of the type), the field that must have a number, the flaw of a
-- line in which it has none, and the field for the line's sequence number, if it must have a number too.
abbrev pub type1 : Layout
type1 = record { length = 228; tag = 49; number = places 6 15; without_number = BadTlid; sequence = None }

abbrev pub type2 : Layout
type2 = record { length = 208; tag = 50; number = places 6 15; without_number = BadTlid; sequence = Some (places 16 18) }

abbrev pub type4 : Layout
type4 = record { length = 58; tag = 52; number = places 6 15; without_number = BadTlid; sequence = None }

abbrev pub type5 : Layout
type5 = record { length = 56; tag = 53; number = places 11 18; without_number = BadFeature; sequence = None }

abbrev pub type6 : Layout
type6 = record { length = 76; tag = 54; number = places 6 15; without_number = BadTlid; sequence = None }

-- the fields of the n-th point of a type 2 line, counted from 1: LONG1 and LAT1, .., LONG10 and LAT10
abbrev pub longitude : ℕ → Places
longitude n = places (19 * n) (19 * n + 9)

abbrev pub latitude : ℕ → Places
latitude n = places (19 * n + 10) (19 * n + 18)
