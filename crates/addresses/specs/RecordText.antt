-- The texts of a file's records (RFC 4180, section 2): a record ends with a line feed outside quotation marks.
use Rattle.std.specs.Prelude.{◌≡◌, ◌⊎◌, ℕ, suc, Bool, false, not, ◌&&◌, ◌==◌, if◌then◌else◌, List, [], ◌∷◌, ◌++◌, length, take, Some, slice_get}
use Rattle.std.specs.List.{count_by, fold}

abbrev pub is_line_feed : ℕ → Bool
is_line_feed byte = byte == 10

abbrev pub line_feeds : List ℕ → ℕ
line_feeds bytes = count_by is_line_feed bytes

abbrev pub is_quotation_mark : ℕ → Bool
is_quotation_mark byte = byte == 34

abbrev pub quotation_marks : List ℕ → ℕ
quotation_marks bytes = count_by is_quotation_mark bytes

-- whether the byte after this one is inside quotation marks: a mark opens or closes
abbrev pub inside_after : Bool → ℕ → Bool
inside_after inside byte = if is_quotation_mark byte then not inside else inside

-- whether a quotation mark is open after these bytes: the number of marks is odd
abbrev pub is_open : List ℕ → Bool
is_open bytes = fold inside_after false bytes

-- a byte followed by texts, joined to the first of them
abbrev pub joined : ℕ → List (List ℕ) → List (List ℕ)
joined byte [] = (byte ∷ []) ∷ []
joined byte (text ∷ texts) = (byte ∷ text) ∷ texts

-- a line feed outside quotation marks ends a text
abbrev pub with_byte : ℕ → Bool → List (List ℕ) → List (List ℕ)
with_byte byte inside texts = if is_line_feed byte && not inside then (byte ∷ []) ∷ texts else joined byte texts

unfoldable pub texts_from : Bool → List ℕ → List (List ℕ)
texts_from inside [] = []
texts_from inside (byte ∷ rest) = with_byte byte (inside_after inside byte) (texts_from (inside_after inside byte) rest)

-- The texts of a file's records, each with its line end. A record ends with the first line feed preceded by an even number of its quotation marks.
-- The last record may lack its line end.
abbrev pub record_texts : List ℕ → List (List ℕ)
record_texts file = texts_from false file

-- a line feed preceded by an even number of quotation marks
abbrev pub EndsAt : List ℕ → ℕ → Type 0
EndsAt text at = (slice_get text at ≡ Some 10) × (is_open (take at text) ≡ false)

-- A file's first record and the rest. If the record's text has such a line feed, it is the last byte. Only the file's last record may have none.
pub record IsFirstText (file text rest : List ℕ) : Type 0 where
  pub split : file ≡ text ++ rest
  pub first : (at : ℕ) → EndsAt text at → suc at ≡ length text
  pub ended : ((at : ℕ) × EndsAt text at) ⊎ (rest ≡ [])
