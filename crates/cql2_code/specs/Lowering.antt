-- The questions whether a filter is true and whether it is false. Each has an answer, even if the filter is neither. NOT exchanges them.
use Rattle.std.specs.Prelude.{◌≤◌, ℕ, zero, suc, ◌+◌, ◌-◌, ◌==◌, ℤ, pos, nat_le, Bool, true, false, not, List, [], ◌∷◌, length, map, replicate}
use Rattle.std.specs.Prelude.{Option, Some, None, MatchResult, Result, if◌then◌else◌}
use Rattle.std.specs.Bool.{beq}
use Rattle.std.specs.Int.{w64, cast_signed}
use Rattle.tl_records.specs.declared.layout.TheConstants.{RECORD_LENGTH}
use Rattle.tl_segments.specs.declared.name.TheConstants.{NAME_LENGTH}
use Rattle.cql2.specs.Column.{is_right_justified, text_places}
use Rattle.cql2.specs.Filter.{compares}
use Rattle.cql2.specs.declared.column.Column.{Column}
use Rattle.cql2.specs.declared.column.Column.TheVariants.{Numeric, Text}
use Rattle.cql2.specs.declared.column.NumericColumn.{NumericColumn}
use Rattle.cql2.specs.declared.column.TextColumn.{TextColumn}
use Rattle.cql2.specs.declared.filter.Comparison.{Comparison}
use Rattle.cql2.specs.declared.filter.Comparison.TheVariants.{Equal, NotEqual, Less, LessOrEqual, Greater, GreaterOrEqual}
use Rattle.cql2.specs.declared.filter.Filter.{Filter}
use Rattle.cql2.specs.declared.filter.Filter.TheVariants.{Constant, And', Or', Not', IsNull, CompareNumber, CompareNumbers, CompareText, CompareTexts, Like}
use Rattle.cql2.specs.declared.filter.Filter.TheVariants.{Function}
use Rattle.cql2.specs.Folding.{is_alike}
use Rattle.cql2.specs.declared.pattern.Folding.{Folding}
use Rattle.cql2.specs.declared.pattern.PatternPart.{PatternPart}
use Rattle.cql2.specs.declared.pattern.PatternPart.TheVariants.{Exactly, Alike, One, Many}
use Rattle.cql2_code.specs.Among.{among}
use Rattle.cql2_code.specs.Grid.{grid}
use Rattle.cql2_code.specs.Pieces.{least_length, pieces_of}
use Rattle.cql2_code.specs.Question.{Question, Coded, Decided, Opposite, Joined, bytes_value}
pub use Rattle.cql2_code.specs.Question.{if_asked}
use Rattle.bpf_insn.specs.declared.instruction.Insn.{Insn}
pub use Rattle.cql2_code.specs.Columns.{has_value, number_of, test}
use Rattle.cql2_code.specs.BytePairs.{compares_pair}
use Rattle.cql2_code.specs.Expressions.{compares_numbers}
use Rattle.cql2_code.specs.Layout.{Refuses, Writes, opposite, program}
use Rattle.cql2_code.specs.Function.{asks_function}
use Rattle.cql2_code.specs.declared.fault.CompileFault.{CompileFault}
use Rattle.cql2_code.specs.declared.field.Field.{Field}
use Rattle.cql2_code.specs.declared.question.Exits.{Exits}
use Rattle.cql2_code.specs.declared.question.Chunk.{Chunk}
use Rattle.cql2_code.specs.declared.question.Chunk.TheVariants.{Byte, Word, DoubleWord}
use Rattle.cql2_code.specs.declared.question.Subject.TheVariants.{Load}

-- Numeric columns

-- a comparison holds for 0 and a number
abbrev pub holds_of_zero : Comparison → ℤ → Bool
holds_of_zero comparison literal = compares comparison (pos 0) literal

-- a comparison holds for a column's number and another; if it also holds for 0, the column must have a number
abbrev pub compares_number : NumericColumn → Comparison → ℤ → Question
compares_number column comparison literal =
    if holds_of_zero comparison literal
    then Joined true (has_value column) (test (number_of column) comparison literal)
    else test (number_of column) comparison literal

-- Bytes of the record

abbrev pub byte_test : ℕ → Comparison → ℕ → Question
byte_test at comparison byte = test (Load Byte at) comparison (pos byte)

-- the chunk of the record at an offset has these bytes
abbrev pub chunk_test : Chunk → ℕ → List ℕ → Question
chunk_test chunk at bytes = test (Load chunk at) Equal (cast_signed w64 (bytes_value bytes))

-- The record has these bytes at an offset. They are compared one by one,
abbrev pub has_each : ℕ → List ℕ → Question
has_each at [] = Decided true
has_each at (byte ∷ []) = byte_test at Equal byte
has_each at (byte ∷ next ∷ bytes) = Joined true (byte_test at Equal byte) (has_each (at + 1) (next ∷ bytes))

-- the first four at once if there are at least four,
abbrev pub has_few : ℕ → List ℕ → Question
has_few at (a ∷ b ∷ c ∷ d ∷ []) = chunk_test Word at (a ∷ b ∷ c ∷ d ∷ [])
has_few at (a ∷ b ∷ c ∷ d ∷ next ∷ bytes) = Joined true (chunk_test Word at (a ∷ b ∷ c ∷ d ∷ [])) (has_each (at + 4) (next ∷ bytes))
has_few at bytes = has_each at bytes

-- and eight at once as long as at least eight are left.
abbrev pub has_bytes : ℕ → List ℕ → Question
has_bytes at (a ∷ b ∷ c ∷ d ∷ e ∷ f ∷ g ∷ h ∷ []) = chunk_test DoubleWord at (a ∷ b ∷ c ∷ d ∷ e ∷ f ∷ g ∷ h ∷ [])
has_bytes at (a ∷ b ∷ c ∷ d ∷ e ∷ f ∷ g ∷ h ∷ next ∷ bytes) =
    Joined true (chunk_test DoubleWord at (a ∷ b ∷ c ∷ d ∷ e ∷ f ∷ g ∷ h ∷ [])) (has_bytes (at + 8) (next ∷ bytes))
has_bytes at bytes = has_few at bytes

-- `count` bytes at an offset are blank
abbrev pub is_blank : ℕ → ℕ → Question
is_blank at count = has_bytes at (replicate count 32)

-- Fields of text columns

abbrev pub field_of : TextColumn → Field
field_of column =
    let offset = (text_places column).0 - 1 in record { offset = offset; width = (text_places column).1 - offset }

-- it is part of the record, and no longer than a name
abbrev pub IsTextField : Field → Type 0
IsTextField field = (field.offset + field.width ≤ RECORD_LENGTH) × (field.width ≤ NAME_LENGTH)

abbrev pub is_blank_field : Field → Question
is_blank_field field = is_blank field.offset field.width

-- the bytes below a limit that a test chooses, in descending order
unfoldable pub bytes_where : (ℕ → Bool) → ℕ → List ℕ
bytes_where good zero = []
bytes_where good (suc byte) = if good byte then byte ∷ bytes_where good byte else bytes_where good byte

-- the bytes that are the same as this one but for what is ignored
abbrev pub bytes_alike : Folding → ℕ → List ℕ
bytes_alike folding required = bytes_where (λ byte. is_alike folding byte required) 256

-- a byte is one of several
abbrev pub is_among : ℕ → List ℕ → Question
is_among at [] = Decided false
is_among at (byte ∷ []) = byte_test at Equal byte
is_among at (byte ∷ next ∷ bytes) = Coded (among at byte (next ∷ bytes))

-- a byte matches a part of a pattern
abbrev pub is_required : ℕ → PatternPart → Question
is_required at (Exactly byte) = byte_test at Equal byte
is_required at (Alike folding required) = is_among at (bytes_alike folding required)
is_required at One = Decided true
is_required at Many = Decided true

-- the bytes of a piece that wants each of them exactly
abbrev pub exact_bytes : List PatternPart → Option (List ℕ)
exact_bytes [] = Some []
exact_bytes (Exactly byte ∷ piece) = before byte (exact_bytes piece)
  where
    before : ℕ → Option (List ℕ) → Option (List ℕ)
    before byte None = None
    before byte (Some bytes) = Some (byte ∷ bytes)
exact_bytes (Alike folding required ∷ piece) = None
exact_bytes (One ∷ piece) = None
exact_bytes (Many ∷ piece) = None

abbrev pub is_each_required : ℕ → List PatternPart → Question
is_each_required at [] = Decided true
is_each_required at (required ∷ []) = is_required at required
is_each_required at (required ∷ next ∷ piece) = Joined true (is_required at required) (is_each_required (at + 1) (next ∷ piece))

abbrev pub are_required : ℕ → List PatternPart → Question
are_required at piece = by_exact (exact_bytes piece)
  where
    by_exact : Option (List ℕ) → Question
    by_exact (Some bytes) = has_bytes at bytes
    by_exact None = is_each_required at piece

-- the last byte of a piece is not a blank
abbrev pub is_filled : PatternPart → Bool
is_filled (Exactly byte) = not (byte == 32)
is_filled (Alike folding required) = not (is_alike folding 32 required)
is_filled One = false
is_filled Many = false

abbrev pub ends_filled : List PatternPart → Bool
ends_filled [] = false
ends_filled (required ∷ []) = is_filled required
ends_filled (required ∷ next ∷ piece) = ends_filled (next ∷ piece)

-- The question after the required bytes, whose end is given. If no more bytes may follow, the rest of the field must be blank. If the last required
-- byte may be a blank, the text is long enough only if the field isn't blank from that byte on.
abbrev pub ends_so : Bool → Bool → Field → ℕ → Option Question
ends_so true true field count = None
ends_so true false field count = Some (Opposite (is_blank (field.offset + (count - 1)) (field.width - (count - 1))))
ends_so false true field count =
    if count == field.width then None else Some (is_blank (field.offset + count) (field.width - count))
ends_so false false field count = Some (Joined true (is_blank (field.offset + count) (field.width - count))
    (Opposite (is_blank (field.offset + (count - 1)) (field.width - (count - 1)))))

abbrev pub both : Question → Option Question → Question
both first None = first
both first (Some second) = Joined true first second

-- the exits of the first question, once the code of the second one, if there is one, is written
abbrev pub WritesBefore : Option Question → Exits → Exits → List Insn → List Insn → Type 0
WritesBefore second exits first old new = (required : Question) (all : List Insn)
    → Writes required first new all → Writes (both required second) exits old all

-- the code of the second question is written, or refused whatever the first one is
abbrev pub PrependsBefore : Result Exits CompileFault → Option Question → Exits → List Insn → List Insn → Type 0
PrependsBefore result second exits old new = MatchResult result (λ first. WritesBefore second exits first old new)
    (λ fault. (required : Question) → Refuses (both required second) exits old fault)

-- a pattern's last piece is in a field from a byte on, which isn't blank there: the text ends after it, or later if the pattern is open
abbrev pub ends_at : Field → List PatternPart → Bool → ℕ → Question
ends_at field piece is_open from =
    both (are_required (field.offset + from) piece) (ends_so is_open (ends_filled piece) field (from + length piece))

-- a field isn't blank and matches a pattern of one piece
abbrev pub is_piece : Field → List PatternPart → Bool → Question
is_piece field piece is_open = if nat_le (length piece) field.width then ends_at field piece is_open 0 else Decided false

-- a piece after a `%` is in a field from a byte on
abbrev pub cell : Field → List PatternPart → Bool → Bool → ℕ → Question
cell field piece true is_open at = ends_at field piece is_open at
cell field piece false is_open at = are_required (field.offset + at) piece

-- no piece follows
abbrev pub is_last : List (List PatternPart) → Bool
is_last [] = true
is_last (piece ∷ pieces) = false

-- the pieces after a `%`, by the number of bytes that the `%`s before them take
abbrev pub rows_of : Field → Bool → ℕ → List (List PatternPart) → List (ℕ → Question)
rows_of field is_open from [] = []
rows_of field is_open from (piece ∷ pieces) =
    (λ shift. cell field piece (is_last pieces) is_open (from + shift)) ∷ rows_of field is_open (from + length piece) pieces

-- A field isn't blank and matches a pattern: each piece is searched for after the previous one. What follows a `%` matches all the more the earlier
-- it may begin, so the leftmost place will do.
abbrev pub are_pieces : Field → List PatternPart → List (List PatternPart) → Bool → ℕ → Question
are_pieces field first [] is_open total = is_piece field first is_open
are_pieces field first (piece ∷ others) is_open total =
    if nat_le total field.width
    then Joined true (are_required field.offset first)
    (Coded (grid (rows_of field is_open (length first) (piece ∷ others)) (suc (field.width - total))))
    else Decided false

abbrev pub is_like : Field → List PatternPart → Question
is_like field pattern = let pieces = pieces_of pattern in are_pieces field pieces.first pieces.others pieces.is_open (least_length pattern)

-- the rest of a field, given by its offset and length, is less than a text
abbrev pub is_less : ℕ → ℕ → List ℕ → Question
is_less at left [] = Decided false
is_less at zero (byte ∷ text) = Decided true
is_less at (suc left) (byte ∷ text) =
    Joined false (byte_test at Less byte) (Joined true (byte_test at Equal byte) (is_less (at + 1) left text))

-- the rest of a field is greater than a text
abbrev pub is_greater : ℕ → ℕ → List ℕ → Question
is_greater at zero text = Decided false
is_greater at (suc left) [] = Opposite (is_blank at (suc left))
is_greater at (suc left) (byte ∷ text) =
    Joined false (byte_test at Greater byte) (Joined true (byte_test at Equal byte) (is_greater (at + 1) left text))

-- a comparison holds for the text in a field that isn't blank, and a text
abbrev pub compares_bytes : Field → Comparison → List ℕ → Question
compares_bytes field Equal text = is_piece field (map Exactly text) false
compares_bytes field NotEqual text = Opposite (is_piece field (map Exactly text) false)
compares_bytes field Less text = is_less field.offset field.width text
compares_bytes field GreaterOrEqual text = Opposite (is_less field.offset field.width text)
compares_bytes field Greater text = is_greater field.offset field.width text
compares_bytes field LessOrEqual text = Opposite (is_greater field.offset field.width text)

-- whether a comparison holds for a blank field, which is less than any text
abbrev pub holds_of_blanks : Comparison → Bool
holds_of_blanks Equal = false
holds_of_blanks NotEqual = true
holds_of_blanks Less = true
holds_of_blanks LessOrEqual = true
holds_of_blanks Greater = false
holds_of_blanks GreaterOrEqual = false

-- Two fields, each given by its offset and length

-- they hold the same text
abbrev pub is_same_field : ℕ → ℕ → ℕ → ℕ → Question
is_same_field at zero other more = is_blank other more
is_same_field at (suc left) other zero = is_blank at (suc left)
is_same_field at (suc left) other (suc more) = Joined true (compares_pair at Equal other) (is_same_field (at + 1) left (other + 1) more)

-- the text in the first one is less than that in the second one
abbrev pub is_less_field : ℕ → ℕ → ℕ → ℕ → Question
is_less_field at left other zero = Decided false
is_less_field at zero other (suc more) = Opposite (is_blank other (suc more))
is_less_field at (suc left) other (suc more) =
    Joined true (Opposite (is_blank other (suc more)))
    (Joined false (is_blank at (suc left))
    (Joined false (compares_pair at Less other)
    (Joined true (compares_pair at Equal other) (is_less_field (at + 1) left (other + 1) more))))

-- a comparison holds for the texts in two fields that aren't blank
abbrev pub compares_fields : Field → Comparison → Field → Question
compares_fields first Equal second = is_same_field first.offset first.width second.offset second.width
compares_fields first NotEqual second = Opposite (is_same_field first.offset first.width second.offset second.width)
compares_fields first Less second = is_less_field first.offset first.width second.offset second.width
compares_fields first GreaterOrEqual second = Opposite (is_less_field first.offset first.width second.offset second.width)
compares_fields first Greater second = is_less_field second.offset second.width first.offset first.width
compares_fields first LessOrEqual second = Opposite (is_less_field second.offset second.width first.offset first.width)

-- The texts of columns

-- a field begins with no blank, and a question about it has the answer yes
abbrev pub asks_if_filled : (Field → Question) → Field → Question
asks_if_filled ask field = Joined true (byte_test field.offset NotEqual 32) (ask field)

-- a question about the rest of a field, given by its offset and length, without the blanks before its text; no if it is blank
abbrev pub asks_without_blanks_before : (Field → Question) → ℕ → ℕ → Question
asks_without_blanks_before ask at zero = Decided false
asks_without_blanks_before ask at (suc left) =
    Joined false (asks_if_filled ask (record { offset = at; width = suc left }))
    (Joined true (byte_test at Equal 32) (asks_without_blanks_before ask (at + 1) left))

-- A column isn't NULL, and a question about its text has the answer yes. The question is asked about the field that begins with the text.
-- `of_blanks` says whether it could also have the answer yes for a blank field.
abbrev pub asks_about : Bool → (Field → Question) → TextColumn → Question
asks_about of_blanks ask column =
    let field = field_of column in
    if is_right_justified column then asks_without_blanks_before ask field.offset field.width
    else if of_blanks then Joined true (Opposite (is_blank_field field)) (ask field)
    else ask field

-- a column isn't NULL, and a comparison holds for it and a text
abbrev pub compares_text : TextColumn → Comparison → List ℕ → Question
compares_text column comparison text =
    asks_about (holds_of_blanks comparison) (λ field. compares_bytes field comparison text) column

-- a column matches a pattern, or isn't NULL and doesn't match it
abbrev pub asks_like : TextColumn → List PatternPart → Bool → Question
asks_like column pattern asked = asks_about (not asked) (λ field. if_asked (is_like field pattern) asked) column

-- neither of two columns is NULL, and a comparison holds for them
abbrev pub compares_columns : TextColumn → Comparison → TextColumn → Question
compares_columns first comparison second =
    asks_about true (λ field. asks_about true (compares_fields field comparison) second) first

-- Filters

abbrev pub is_null : Column → Question
is_null (Numeric column) = Opposite (has_value column)
is_null (Text column) = is_blank_field (field_of column)

abbrev pub asks_whether : {A : Type 0} → Filter A → Bool → Question
asks_whether (Constant value) asked = Decided (beq value asked)
asks_whether (And' p first q second) asked = Joined asked (asks_whether first asked) (asks_whether second asked)
asks_whether (Or' p first q second) asked = Joined (not asked) (asks_whether first asked) (asks_whether second asked)
asks_whether (Not' p inner) asked = asks_whether inner (not asked)
asks_whether (IsNull column) asked = if_asked (is_null column) asked
asks_whether (CompareNumber column comparison literal) asked =
    compares_number column (if asked then comparison else opposite comparison) literal.number
asks_whether (CompareNumbers first comparison second) asked =
    compares_numbers first.expression (if asked then comparison else opposite comparison) second.expression
asks_whether (CompareTexts first comparison second) asked =
    compares_columns first (if asked then comparison else opposite comparison) second
asks_whether (CompareText column comparison text) asked =
    compares_text column (if asked then comparison else opposite comparison) text.bytes.items
asks_whether (Like column pattern) asked = asks_like column pattern.parts.items asked
asks_whether (Function function) asked = asks_function function asked

-- a filter with no others in it
abbrev pub is_leaf : {A : Type 0} → Filter A → Bool
is_leaf (And' p first q second) = false
is_leaf (Or' p first q second) = false
is_leaf (Not' p inner) = false
is_leaf filter = true

-- the program of a filter
abbrev pub program_of : {A : Type 0} → Filter A → Option NumericColumn → List Insn
program_of filter score = program score (asks_whether filter true)
