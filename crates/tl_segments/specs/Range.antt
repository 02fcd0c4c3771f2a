-- Address ranges (TIGER/Line 2006, record types 1 and 6).
use Rattle.std.specs.Prelude.{◌≡◌, ℕ, ◌%◌, ◌^◌, ◌<◌, min, max, nat_le, Bool, false, not, ◌==◌, ◌&&◌, ◌||◌, List, length, slice_index, Option, Some}
use Rattle.tl_fields.specs.Number.{number_of}
use Rattle.tl_records.specs.Layout.{field_at}
use Rattle.tl_records.specs.declared.layout.TheConstants.Type1.{FRADDL, TOADDL, FRADDR, TOADDR, ZIPL, ZIPR}
use Rattle.tl_segments.specs.declared.range.Range.{Range}
use Rattle.tl_segments.specs.declared.range.RangeFields.{RangeFields}
use Rattle.tl_segments.specs.declared.range.TheConstants.{ADDRESS_LENGTH, ZIP_LENGTH}

-- a field of `count` bytes
pub record AreBytes (count : ℕ) (field : List ℕ) : Type 0 where
  pub length : length field ≡ count
  pub bytes : (i : ℕ) → slice_index field i < 2 ^ 8

-- the fields have the layout's lengths
pub record HasFieldLengths (range : RangeFields) : Type 0 where
  pub fraddl : length range.fraddl ≡ ADDRESS_LENGTH
  pub toaddl : length range.toaddl ≡ ADDRESS_LENGTH
  pub fraddr : length range.fraddr ≡ ADDRESS_LENGTH
  pub toaddr : length range.toaddr ≡ ADDRESS_LENGTH
  pub zipl : length range.zipl ≡ ZIP_LENGTH
  pub zipr : length range.zipr ≡ ZIP_LENGTH

-- the fields are bytes and have the layout's lengths
pub record IsRange (range : RangeFields) : Type 0 where
  pub fraddl : AreBytes ADDRESS_LENGTH range.fraddl
  pub toaddl : AreBytes ADDRESS_LENGTH range.toaddl
  pub fraddr : AreBytes ADDRESS_LENGTH range.fraddr
  pub toaddr : AreBytes ADDRESS_LENGTH range.toaddr
  pub zipl : AreBytes ZIP_LENGTH range.zipl
  pub zipr : AreBytes ZIP_LENGTH range.zipr

-- the fields of a borrowed range
abbrev pub fields_of : Range → RangeFields
fields_of range = record {
  fraddl = range.fraddl.now;
  toaddl = range.toaddl.now;
  fraddr = range.fraddr.now;
  toaddr = range.toaddr.now;
  zipl = range.zipl.now;
  zipr = range.zipr.now;
}

-- the range in a type 1 record itself
abbrev pub own_range : List ℕ → RangeFields
own_range bytes = record {
  fraddl = field_at FRADDL bytes;
  toaddl = field_at TOADDL bytes;
  fraddr = field_at FRADDR bytes;
  toaddr = field_at TOADDR bytes;
  zipl = field_at ZIPL bytes;
  zipr = field_at ZIPR bytes;
}

-- between two numbers, inclusive, in either order
abbrev pub is_between : ℕ → ℕ → ℕ → Bool
is_between from to number = nat_le (min from to) number && nat_le number (max from to)

-- if both ends are even or both odd, the number has the same parity
abbrev pub matches_parity : ℕ → ℕ → ℕ → Bool
matches_parity from to number = not (from % 2 == to % 2) || number % 2 == from % 2

-- a house number lies on a side whose ends have these numbers
abbrev pub lies_between : ℕ → Option ℕ → Option ℕ → Bool
lies_between number (Some from) (Some to) = is_between from to number && matches_parity from to number
lies_between number from to = false

-- a house number lies on the side with these FR and TO addresses: both have a number, and it lies between them
abbrev pub lies_on : ℕ → List ℕ → List ℕ → Bool
lies_on number fr to = lies_between number (number_of fr) (number_of to)
