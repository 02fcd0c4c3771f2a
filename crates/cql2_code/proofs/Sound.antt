-- Each test in a filter's questions is sound: its numbers are within their types, and it reads bytes of the record.
use Rattle.std.proofs.Common.{◌≡◌, ℕ, zero, suc, ◌+◌, ◌-◌, ◌<◌, ◌≤◌, ◌^◌, ◌==◌, ℤ, nat_le, Bool, true, false, not, List, [], ◌∷◌}
use Rattle.std.proofs.Common.{length, map, replicate, Option, Some, None, if◌then◌else◌, refl, sym, ap, ◌∙◌, arith}
use Rattle.std.proofs.Common.{rules}
use Rattle.std.specs.Prelude.{FitsSigned}
use Rattle.std.specs.Int.{w64, cast_signed}
use Rattle.std.proofs.lemmas.Bool.{leb-true, ltb-true}
use Rattle.std.proofs.lemmas.List.{length-map, length-replicate}
use Rattle.cql2.specs.Pattern.{are_bytes, is_byte}
use Rattle.cql2.specs.declared.column.Column.{Column}
use Rattle.cql2.specs.declared.column.Column.TheVariants.{Numeric, Text}
use Rattle.cql2.specs.declared.column.NumericColumn.{NumericColumn}
use Rattle.cql2.specs.declared.column.NumericColumn.TheVariants.{Number, Coordinate}
use Rattle.cql2.specs.declared.column.TextColumn.{TextColumn}
use Rattle.cql2.specs.declared.filter.Comparison.{Comparison}
use Rattle.cql2.specs.declared.filter.Comparison.TheVariants.{Equal, NotEqual, Less, LessOrEqual, Greater, GreaterOrEqual}
use Rattle.cql2.specs.declared.filter.Filter.{Filter}
use Rattle.cql2.specs.declared.filter.Filter.TheVariants.{Constant, And', Or', Not', IsNull, CompareNumber, CompareNumbers, CompareText, CompareTexts}
use Rattle.cql2.specs.declared.filter.Filter.TheVariants.{Like, Function}
use Rattle.cql2.specs.Column.{is_right_justified}
use Rattle.cql2.specs.Folding.{is_alike}
use Rattle.cql2.specs.declared.pattern.PatternPart.{PatternPart}
use Rattle.cql2.specs.declared.pattern.PatternPart.TheVariants.{Exactly, Alike, One, Many}
use Rattle.cql2_code.specs.Grid.{grid}
use Rattle.cql2_code.specs.Lowering.{are_pieces, bytes_alike, cell, ends_at, is_among, is_last, is_piece, rows_of}
use Rattle.cql2_code.specs.Pieces.{least_length, pieces_of}
use Rattle.cql2_code.specs.Lowering.{asks_about, asks_without_blanks_before, compares_columns, compares_fields, field_of, is_blank_field}
use Rattle.cql2_code.specs.Lowering.{is_less_field, is_same_field}
use Rattle.cql2_code.specs.Lowering.{are_required, asks_like, asks_whether, both, byte_test, chunk_test}
use Rattle.cql2_code.specs.Lowering.{compares_bytes, compares_number, compares_text, ends_filled, ends_so, exact_bytes, has_bytes, has_each}
use Rattle.cql2_code.specs.Lowering.{has_few, has_value, holds_of_blanks, holds_of_zero, is_blank, is_each_required, is_greater}
use Rattle.cql2_code.specs.Lowering.{is_less, is_like, is_null, is_required}
use Rattle.cql2_code.specs.Lowering.{number_of, test}
use Rattle.cql2_code.specs.Question.{Question, Coded, Decided, Opposite, Joined, bytes_value, chunk_length, if_asked}
use Rattle.cql2_code.specs.declared.field.Field.{Field}
use Rattle.cql2_code.specs.declared.question.Chunk.{Chunk}
use Rattle.cql2_code.specs.declared.question.Chunk.TheVariants.{Word, DoubleWord}
use Rattle.cql2_code.proofs.AmongLemmas.{among_sound}
use Rattle.cql2_code.proofs.Blocks.{IsSound, if_asked_sound}
use Rattle.cql2_code.proofs.ByteLemmas.{AreSmall, small_blanks}
use Rattle.cql2_code.proofs.ExpressionSound.{exact_sound, has_value_sound}
use Rattle.cql2_code.proofs.FieldLemmas.{IsInside}
use Rattle.cql2_code.proofs.FunctionLemmas.{function_soundly}
use Rattle.cql2_code.proofs.GridLemmas.{SoundCells, SoundRows, grid_sound}
use Rattle.cql2_code.proofs.NumberLemmas.{small_fits}
use Rattle.cql2_code.proofs.PairLemmas.{pair_sound}
use Rattle.cql2_code.proofs.PieceLemmas.{ArePieces, Cut, IsPiece, cut_pieces, lengths, piece_bytes}
use Rattle.cql2_code.proofs.TextColumnLemmas.{column_within}
use Rattle.cql2_code.proofs.TextLemmas.{exactly_piece, text_required}
use Rattle.cql2_code.proofs.RequiredLemmas.{Fits, FitsField, Spells, fits_first, fits_record, fits_rest, small_required, small_where, spells}

-- Bytes of the record

byte_sound : (at : ℕ) (comparison : Comparison) (byte : ℕ) → at < 228 → byte < 2 ^ 8 → IsSound (byte_test at comparison byte)
byte_sound at comparison byte within small = record { subject = omega arith; operand = small_fits byte (omega arith) }

word_fits : (number : ℕ) → FitsSigned w64 (cast_signed w64 number)
word_fits number = search rules

chunk_sound : (chunk : Chunk) (at : ℕ) (bytes : List ℕ) → at + chunk_length chunk ≤ 228 → IsSound (chunk_test chunk at bytes)
chunk_sound chunk at bytes within = record { subject = within; operand = word_fits (bytes_value bytes) }

each_sound : (at : ℕ) (bytes : List ℕ) → AreSmall bytes → at + length bytes ≤ 228 → IsSound (has_each at bytes)
each_sound at [] small within = tt
each_sound at (byte ∷ []) small within = byte_sound at Equal byte (omega arith) small.0
each_sound at (byte ∷ next ∷ bytes) small within =
    (byte_sound at Equal byte (omega arith) small.0, each_sound (at + 1) (next ∷ bytes) small.1 (omega arith))

few_sound : (at : ℕ) (bytes : List ℕ) → AreSmall bytes → at + length bytes ≤ 228 → IsSound (has_few at bytes)
few_sound at (a ∷ b ∷ c ∷ d ∷ []) small within = chunk_sound Word at (a ∷ b ∷ c ∷ d ∷ []) (omega arith)
few_sound at (a ∷ b ∷ c ∷ d ∷ next ∷ bytes) (sa, (sb, (sc, (sd, small)))) within =
    (chunk_sound Word at (a ∷ b ∷ c ∷ d ∷ []) (omega arith), each_sound (at + 4) (next ∷ bytes) small (omega arith))
few_sound at bytes small within = each_sound at bytes small within

bytes_sound : (at : ℕ) (bytes : List ℕ) → AreSmall bytes → at + length bytes ≤ 228 → IsSound (has_bytes at bytes)
bytes_sound at (a ∷ b ∷ c ∷ d ∷ e ∷ f ∷ g ∷ h ∷ []) small within =
    chunk_sound DoubleWord at (a ∷ b ∷ c ∷ d ∷ e ∷ f ∷ g ∷ h ∷ []) (omega arith)
bytes_sound at (a ∷ b ∷ c ∷ d ∷ e ∷ f ∷ g ∷ h ∷ next ∷ bytes) (sa, (sb, (sc, (sd, (se, (sf, (sg, (sh, small)))))))) within = (
  chunk_sound DoubleWord at (a ∷ b ∷ c ∷ d ∷ e ∷ f ∷ g ∷ h ∷ []) (omega arith),
  bytes_sound (at + 8) (next ∷ bytes) small (omega arith),
)
bytes_sound at bytes small within = few_sound at bytes small within

blank_sound : (at count : ℕ) → at + count ≤ 228 → IsSound (is_blank at count)
blank_sound at count within = bytes_sound at (replicate count 32) (small_blanks count) (omega (arith, length-replicate {A = ℕ} count 32))

-- Numbers

number_test_sound : (column : NumericColumn) (comparison : Comparison) (literal : ℤ) → FitsSigned w64 literal
    → IsSound (test (number_of column) comparison literal)
number_test_sound (Number field) comparison literal fits = record { subject = tt; operand = fits }
number_test_sound (Coordinate place) comparison literal fits = record { subject = tt; operand = fits }

compares_number_sound : (column : NumericColumn) (comparison : Comparison) (literal : ℤ) → FitsSigned w64 literal
    → IsSound (compares_number column comparison literal)
compares_number_sound column comparison literal fits = by_zero (holds_of_zero comparison literal)
  where
    by_zero : (holds : Bool) → IsSound (if holds then Joined true (has_value column) (test (number_of column) comparison literal)
        else test (number_of column) comparison literal)
    by_zero true = (has_value_sound column, number_test_sound column comparison literal fits)
    by_zero false = number_test_sound column comparison literal fits

-- Patterns

is_among_sound : (at : ℕ) (bytes : List ℕ) → at < 228 → AreSmall bytes → IsSound (is_among at bytes)
is_among_sound at [] within small = tt
is_among_sound at (byte ∷ []) within small = byte_sound at Equal byte within small.0
is_among_sound at (byte ∷ next ∷ bytes) within small = among_sound at byte (next ∷ bytes) within small

byte_required_sound : (at : ℕ) (required : PatternPart) → at < 228 → is_byte required ≡ true → IsSound (is_required at required)
byte_required_sound at (Exactly byte) within are = byte_sound at Equal byte within (ltb-true byte 256 are)
byte_required_sound at (Alike folding required) within are =
    is_among_sound at (bytes_alike folding required) within (small_where (λ byte. is_alike folding byte required) 256 (omega arith))
byte_required_sound at One within are = tt
byte_required_sound at Many within are = tt

each_required_sound : (at : ℕ) (piece : List PatternPart) → Fits at piece → IsSound (is_each_required at piece)
each_required_sound at [] fits = tt
each_required_sound at (required ∷ []) fits = let first = fits_first at required [] fits in byte_required_sound at required first.0 first.1
each_required_sound at (required ∷ next ∷ piece) fits =
    let first = fits_first at required (next ∷ piece) fits in
    (byte_required_sound at required first.0 first.1, each_required_sound (at + 1) (next ∷ piece) (fits_rest at required (next ∷ piece) fits))

required_sound_by : (at : ℕ) (piece : List PatternPart) (exact : Option (List ℕ)) → exact_bytes piece ≡ exact → Spells exact piece
    → Fits at piece → IsSound (are_required at piece)
required_sound_by at piece None exact spelled fits = rw exact (each_required_sound at piece fits)
required_sound_by at piece (Some bytes) exact spelled fits =
    let count : length piece ≡ length bytes = ap length spelled ∙ length-map bytes Exactly in
    let within = fits.within in
    rw exact (bytes_sound at bytes (small_required bytes (sym (ap are_bytes spelled) ∙ piece_bytes piece fits.are)) (omega arith))

required_sound : (at : ℕ) (piece : List PatternPart) → Fits at piece → IsSound (are_required at piece)
required_sound at piece fits = required_sound_by at piece (exact_bytes piece) refl (spells piece) fits

-- the rest of a field after some bytes
rest_sound : (field : Field) (lies : IsInside field) (count : ℕ) → count ≤ field.width
    → IsSound (is_blank (field.offset + count) (field.width - count))
rest_sound field lies count few =
    blank_sound (field.offset + count) (field.width - count) (omega arith)

module _ (field : Field) (lies : IsInside field) (from : ℕ) (piece : List PatternPart) (fits : FitsField field from piece) where
  required_here : IsSound (are_required (field.offset + from) piece)
  required_here = required_sound (field.offset + from) piece (fits_record field lies from piece fits)

  closes_here : IsSound (is_blank (field.offset + (from + length piece)) (field.width - (from + length piece)))
  closes_here = rest_sound field lies (from + length piece) fits.within

  fills_here : IsSound (is_blank (field.offset + (from + length piece - 1)) (field.width - (from + length piece - 1)))
  fills_here = let within = fits.within in rest_sound field lies (from + length piece - 1) (omega arith)

  closed_sound : (whole : Bool) → IsSound (both (are_required (field.offset + from) piece)
      (if whole then None else Some (is_blank (field.offset + (from + length piece)) (field.width - (from + length piece)))))
  closed_sound true = required_here
  closed_sound false = (required_here, closes_here)

  ends_so_sound : (is_open filled : Bool)
      → IsSound (both (are_required (field.offset + from) piece) (ends_so is_open filled field (from + length piece)))
  ends_so_sound true true = required_here
  ends_so_sound true false = (required_here, fills_here)
  ends_so_sound false true = closed_sound (from + length piece == field.width)
  ends_so_sound false false = (required_here, (closes_here, fills_here))

  cell_sound : (last is_open : Bool) → IsSound (cell field piece last is_open from)
  cell_sound true is_open = ends_so_sound is_open (ends_filled piece)
  cell_sound false is_open = required_here

module _ (field : Field) (lies : IsInside field) (piece : List PatternPart) (are : IsPiece piece) (is_open : Bool) where
  piece_by : (short : Bool) → nat_le (length piece) field.width ≡ short
      → IsSound (if short then ends_at field piece is_open 0 else Decided false)
  piece_by true short =
      let few = leb-true (length piece) field.width short in
      ends_so_sound field lies 0 piece (record { within = omega arith; are = are }) is_open (ends_filled piece)
  piece_by false short = tt

  piece_sound : IsSound (is_piece field piece is_open)
  piece_sound = piece_by (nat_le (length piece) field.width) refl

  -- the cells of a piece after a `%`
  cells_sound : (last : Bool) (from at left : ℕ) → from + at + length piece + left ≤ suc field.width
      → SoundCells (λ shift. cell field piece last is_open (from + shift)) at left
  cells_sound last from at zero fits = tt
  cells_sound last from at (suc left) fits =
      (cell_sound field lies (from + at) piece (record { within = omega arith; are = are }) last is_open, cells_sound last from (at + 1) left (omega arith))

rows_sound : (field : Field) (lies : IsInside field) (is_open : Bool) (from columns : ℕ) (pieces : List (List PatternPart)) → ArePieces pieces
    → from + lengths pieces + columns ≤ suc field.width → SoundRows (rows_of field is_open from pieces) columns
rows_sound field lies is_open from columns [] are fits = tt
rows_sound field lies is_open from columns (piece ∷ pieces) are fits = (
  cells_sound field lies piece are.0.are is_open (is_last pieces) from 0 columns (omega arith),
  rows_sound field lies is_open (from + length piece) columns pieces are.1 (omega arith),
)

module _ (field : Field) (lies : IsInside field) (pattern : List PatternPart) where
  pieces_by : (first piece : List PatternPart) (others : List (List PatternPart)) (is_open short : Bool)
      → nat_le (least_length pattern) field.width ≡ short → Cut pattern first (piece ∷ others) is_open
      → IsSound (if short then Joined true (are_required field.offset first)
      (Coded (grid (rows_of field is_open (length first) (piece ∷ others)) (suc (field.width - least_length pattern))))
      else Decided false)
  pieces_by first piece others is_open true short cut =
      let few = leb-true (least_length pattern) field.width short in
      let takes = cut.takes in (
        required_sound field.offset first (record { within = omega arith; are = cut.first_is }),
        grid_sound (rows_of field is_open (length first) (piece ∷ others)) (suc (field.width - least_length pattern))
            (rows_sound field lies is_open (length first) (suc (field.width - least_length pattern)) (piece ∷ others) cut.others_are (omega arith)),
      )
  pieces_by first piece others is_open false short cut = tt

  pieces_sound : (first : List PatternPart) (others : List (List PatternPart)) (is_open : Bool) → Cut pattern first others is_open
      → IsSound (are_pieces field first others is_open (least_length pattern))
  pieces_sound first [] is_open cut = piece_sound field lies first cut.first_is is_open
  pieces_sound first (piece ∷ others) is_open cut =
      pieces_by first piece others is_open (nat_le (least_length pattern) field.width) refl cut

  like_sound : are_bytes pattern ≡ true → IsSound (is_like field pattern)
  like_sound are =
      let pieces = pieces_of pattern in pieces_sound pieces.first pieces.others pieces.is_open (cut_pieces pattern are)

blank_field_sound : (field : Field) → IsInside field → IsSound (is_blank_field field)
blank_field_sound field lies = blank_sound field.offset field.width lies

-- Texts

less_sound : (at left : ℕ) (text : List ℕ) → at + left ≤ 228 → AreSmall text → IsSound (is_less at left text)
less_sound at left [] within small = tt
less_sound at zero (byte ∷ text) within small = tt
less_sound at (suc left) (byte ∷ text) within small = (
  byte_sound at Less byte (omega arith) small.0,
  (byte_sound at Equal byte (omega arith) small.0, less_sound (at + 1) left text (omega arith) small.1),
)

greater_sound : (at left : ℕ) (text : List ℕ) → at + left ≤ 228 → AreSmall text → IsSound (is_greater at left text)
greater_sound at zero text within small = tt
greater_sound at (suc left) [] within small = blank_sound at (suc left) within
greater_sound at (suc left) (byte ∷ text) within small = (
  byte_sound at Greater byte (omega arith) small.0,
  (byte_sound at Equal byte (omega arith) small.0, greater_sound (at + 1) left text (omega arith) small.1),
)

module _ (field : Field) (lies : IsInside field) (text : List ℕ) (small : AreSmall text) where
  same_sound : IsSound (is_piece field (map Exactly text) false)
  same_sound = piece_sound field lies (map Exactly text) (exactly_piece text small) false

  less_here : IsSound (is_less field.offset field.width text)
  less_here = less_sound field.offset field.width text lies small

  greater_here : IsSound (is_greater field.offset field.width text)
  greater_here = greater_sound field.offset field.width text lies small

  compares_bytes_sound : (comparison : Comparison) → IsSound (compares_bytes field comparison text)
  compares_bytes_sound Equal = same_sound
  compares_bytes_sound NotEqual = same_sound
  compares_bytes_sound Less = less_here
  compares_bytes_sound LessOrEqual = greater_here
  compares_bytes_sound Greater = greater_here
  compares_bytes_sound GreaterOrEqual = less_here

-- Two fields

same_field_sound : (at left other more : ℕ) → at + left ≤ 228 → other + more ≤ 228 → IsSound (is_same_field at left other more)
same_field_sound at zero other more within inside = blank_sound other more inside
same_field_sound at (suc left) other zero within inside = blank_sound at (suc left) within
same_field_sound at (suc left) other (suc more) within inside = (
  pair_sound at Equal other (omega arith) (omega arith),
  same_field_sound (at + 1) left (other + 1) more (omega arith) (omega arith),
)

less_field_sound : (at left other more : ℕ) → at + left ≤ 228 → other + more ≤ 228 → IsSound (is_less_field at left other more)
less_field_sound at zero other zero within inside = tt
less_field_sound at (suc left) other zero within inside = tt
less_field_sound at zero other (suc more) within inside = blank_sound other (suc more) inside
less_field_sound at (suc left) other (suc more) within inside = (
  blank_sound other (suc more) inside,
  (
    blank_sound at (suc left) within,
    (
      pair_sound at Less other (omega arith) (omega arith),
      (pair_sound at Equal other (omega arith) (omega arith), less_field_sound (at + 1) left (other + 1) more (omega arith) (omega arith)),
    ),
  ),
)

fields_sound : (first second : Field) → IsInside first → IsInside second → (comparison : Comparison)
    → IsSound (compares_fields first comparison second)
fields_sound first second lies inside Equal = same_field_sound _ _ _ _ lies inside
fields_sound first second lies inside NotEqual = same_field_sound _ _ _ _ lies inside
fields_sound first second lies inside Less = less_field_sound _ _ _ _ lies inside
fields_sound first second lies inside LessOrEqual = less_field_sound _ _ _ _ inside lies
fields_sound first second lies inside Greater = less_field_sound _ _ _ _ inside lies
fields_sound first second lies inside GreaterOrEqual = less_field_sound _ _ _ _ lies inside

-- The texts of columns

module _ (ask : Field → Question) (sound : (field : Field) → IsInside field → IsSound (ask field)) where
  without_blanks_sound : (at left : ℕ) → at + left ≤ 228 → IsSound (asks_without_blanks_before ask at left)
  without_blanks_sound at zero lies = tt
  without_blanks_sound at (suc left) lies = (
    (byte_sound at NotEqual 32 (omega arith) (omega arith), sound (record { offset = at; width = suc left }) lies),
    (byte_sound at Equal 32 (omega arith) (omega arith), without_blanks_sound (at + 1) left (omega arith)),
  )

  about_by : (right of_blanks : Bool) (field : Field) → IsInside field
      → IsSound (if right then asks_without_blanks_before ask field.offset field.width
      else if of_blanks then Joined true (Opposite (is_blank_field field)) (ask field)
      else ask field)
  about_by true of_blanks field lies = without_blanks_sound field.offset field.width lies
  about_by false true field lies = (blank_field_sound field lies, sound field lies)
  about_by false false field lies = sound field lies

  about_sound : (of_blanks : Bool) (column : TextColumn) → IsSound (asks_about of_blanks ask column)
  about_sound of_blanks column = about_by (is_right_justified column) of_blanks (field_of column) (column_within column)

compares_text_sound : (column : TextColumn) (text : List ℕ) → AreSmall text → (comparison : Comparison)
    → IsSound (compares_text column comparison text)
compares_text_sound column text small comparison =
    about_sound (λ field. compares_bytes field comparison text) (λ field lies. compares_bytes_sound field lies text small comparison)
    (holds_of_blanks comparison) column

asks_like_sound : (column : TextColumn) (pattern : List PatternPart) (asked : Bool) → are_bytes pattern ≡ true
    → IsSound (asks_like column pattern asked)
asks_like_sound column pattern asked are =
    about_sound (λ field. if_asked (is_like field pattern) asked)
    (λ field lies. if_asked_sound (is_like field pattern) asked (like_sound field lies pattern are)) (not asked) column

compares_columns_sound : (first second : TextColumn) (comparison : Comparison) → IsSound (compares_columns first comparison second)
compares_columns_sound first second comparison =
    about_sound (λ field. asks_about true (compares_fields field comparison) second)
    (λ field lies. about_sound (compares_fields field comparison) (λ other inside. fields_sound field other lies inside comparison) true second)
    true first

-- Filters

null_sound : (column : Column) → IsSound (is_null column)
null_sound (Numeric column) = has_value_sound column
null_sound (Text column) = blank_field_sound (field_of column) (column_within column)

pub asks_soundly : {A : Type 0} (filter : Filter A) (asked : Bool) → IsSound (asks_whether filter asked)
asks_soundly (Constant value) asked = tt
asks_soundly (And' p first q second) asked = (asks_soundly first asked, asks_soundly second asked)
asks_soundly (Or' p first q second) asked = (asks_soundly first asked, asks_soundly second asked)
asks_soundly (Not' p inner) true = asks_soundly inner false
asks_soundly (Not' p inner) false = asks_soundly inner true
asks_soundly (IsNull column) asked = if_asked_sound (is_null column) asked (null_sound column)
asks_soundly (CompareNumber column comparison literal) asked = compares_number_sound column _ literal.number literal.fits
asks_soundly (CompareNumbers first comparison second) asked =
    exact_sound first.expression _ second.expression first.is_exact second.is_exact
asks_soundly (CompareTexts first comparison second) asked = compares_columns_sound first second _
asks_soundly (CompareText column comparison text) asked =
    compares_text_sound column text.bytes.items (text_required text.bytes.items text.is_text).small _
asks_soundly (Like column pattern) asked = asks_like_sound column pattern.parts.items asked pattern.are_bytes
asks_soundly (Function function) asked = function_soundly function asked
