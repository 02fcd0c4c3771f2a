-- Fields of a segment's record.
use Rattle.std.proofs.Common.{◌≡◌, ℕ, ◌+◌, ◌-◌, ◌<◌, ◌≤◌, zero, suc, List, [], ◌∷◌, take, drop, slice_index, Some}
use Rattle.std.proofs.Common.{slice_get, arith}
use Rattle.std.proofs.lemmas.Grind.{common_steps}
use Rattle.std.proofs.lemmas.List.{get_or-drop}
use Rattle.tl_fields.specs.Field.{field_of}
use Rattle.tl_segments.specs.FullName.{IsFullName, own_full_name}
use Rattle.tl_segments.specs.Range.{AreBytes, IsRange, own_range}

-- item 0 is the record's own
pub slice_get_own : {X : Type 0} (own : X) (further : List X) (n : ℕ) → n < 1 → slice_get (own ∷ further) n ≡ Some own
slice_get_own own further n first = grind (arith, common_steps)

-- taking bytes from the beginning, or dropping them, leaves bytes
pub below-take : (n : ℕ) (bytes : List ℕ) → ((i : ℕ) → slice_index bytes i < 256) → (i : ℕ) → slice_index (take n bytes) i < 256
below-take zero bytes below i = omega arith
below-take (suc n) [] below i = omega arith
below-take (suc n) (byte ∷ bytes) below zero = below 0
below-take (suc n) (byte ∷ bytes) below (suc i) = below-take n bytes (λ j. below (suc j)) i

below-drop : (n : ℕ) (bytes : List ℕ) → ((i : ℕ) → slice_index bytes i < 256) → (i : ℕ) → slice_index (drop n bytes) i < 256
below-drop n bytes below i = rw (get_or-drop n bytes i 0) (below (n + i))

-- a field of bytes consists of bytes
pub AreBytes-field_of : (bytes : List ℕ) (total first last : ℕ) → AreBytes total bytes → 1 ≤ first → first ≤ last → last ≤ total
    → AreBytes (last + 1 - first) (field_of bytes first last)
AreBytes-field_of bytes total first last are from order until = record {
  length = grind (arith, common_steps);
  bytes = below-take (last + 1 - first) (drop (first - 1) bytes) (below-drop (first - 1) bytes are.bytes);
}

-- the fields of a record's own full name have the right lengths
pub own_full_name_fields : (bytes : List ℕ) → AreBytes 228 bytes → IsFullName (own_full_name bytes)
own_full_name_fields bytes are = record {
  fedirp = AreBytes-field_of bytes 228 18 19 are (omega arith) (omega arith) (omega arith);
  fename = AreBytes-field_of bytes 228 20 49 are (omega arith) (omega arith) (omega arith);
  fetype = AreBytes-field_of bytes 228 50 53 are (omega arith) (omega arith) (omega arith);
  fedirs = AreBytes-field_of bytes 228 54 55 are (omega arith) (omega arith) (omega arith);
}

-- the fields of a record's own range have the right lengths
pub own_range_fields : (bytes : List ℕ) → AreBytes 228 bytes → IsRange (own_range bytes)
own_range_fields bytes are = record {
  fraddl = AreBytes-field_of bytes 228 59 69 are (omega arith) (omega arith) (omega arith);
  toaddl = AreBytes-field_of bytes 228 70 80 are (omega arith) (omega arith) (omega arith);
  fraddr = AreBytes-field_of bytes 228 81 91 are (omega arith) (omega arith) (omega arith);
  toaddr = AreBytes-field_of bytes 228 92 102 are (omega arith) (omega arith) (omega arith);
  zipl = AreBytes-field_of bytes 228 107 111 are (omega arith) (omega arith) (omega arith);
  zipr = AreBytes-field_of bytes 228 112 116 are (omega arith) (omega arith) (omega arith);
}
