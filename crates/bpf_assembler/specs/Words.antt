-- The words of a line of program text.
use Rattle.std.specs.Prelude.{ℕ, Bool, ◌&&◌, ◌||◌, ◌==◌, not, nat_lt, nat_le, if◌then◌else◌, List, [], ◌∷◌, length, reverse, slice_index, Option, Some, None}
use Rattle.std.specs.List.{list_all, before_first, after_first, position_or_len}
use Rattle.std.specs.Char.{is_ascii_lowercase, is_ascii_digit, is_ascii_alphanumeric}

-- a blank or a tab
abbrev pub is_blank : ℕ → Bool
is_blank byte = byte == 32 || byte == 9

abbrev pub is_semicolon : ℕ → Bool
is_semicolon byte = byte == 59

abbrev pub is_comma : ℕ → Bool
is_comma byte = byte == 44

-- `+` or `-`
abbrev pub is_sign : ℕ → Bool
is_sign byte = byte == 43 || byte == 45

-- the bytes without the blanks and tabs at the start
abbrev pub trim_start : List ℕ → List ℕ
trim_start [] = []
trim_start (byte ∷ bytes) = if is_blank byte then trim_start bytes else byte ∷ bytes

-- the bytes without the blanks and tabs at both ends
abbrev pub trim : List ℕ → List ℕ
trim bytes = reverse (trim_start (reverse (trim_start bytes)))

-- a line's content, without its comment, which begins at a semicolon
abbrev pub content_of : List ℕ → List ℕ
content_of line = trim (before_first is_semicolon line)

-- the first word, and the text after it
abbrev pub first_word : List ℕ → List ℕ
first_word content = before_first is_blank content

abbrev pub after_word : List ℕ → List ℕ
after_word content = trim (after_first is_blank content)

-- a mnemonic consists of small letters, digits and underscores
abbrev pub is_mnemonic_byte : ℕ → Bool
is_mnemonic_byte byte = is_ascii_lowercase byte || is_ascii_digit byte || byte == 95

-- a label consists of 1 to 32 letters, digits and underscores, and doesn't begin with a digit
abbrev pub is_label_byte : ℕ → Bool
is_label_byte byte = is_ascii_alphanumeric byte || byte == 95

abbrev pub is_label : List ℕ → Bool
is_label name =
    nat_le 1 (length name) && nat_le (length name) 32 && not (is_ascii_digit (slice_index name 0)) && list_all is_label_byte name

-- the operand before the first comma, and the text after the comma
abbrev pub split_operand : List ℕ → Option (List ℕ × List ℕ)
split_operand operands =
    if nat_lt (position_or_len is_comma operands) (length operands)
    then Some (trim (before_first is_comma operands), trim (after_first is_comma operands))
    else None
