-- Positions in a text: a line, and a character in it, both counted from 1.
use Rattle.std.specs.Prelude.{ℕ, suc, ◌+◌, ◌-◌, Bool, ◌&&◌, ◌==◌, nat_le, nat_lt, ◌≡◌, false, if◌then◌else◌, List, [], ◌∷◌, ⊤}
use Rattle.std.specs.List.{count_by, fold}

abbrev pub is_line_feed : ℕ → Bool
is_line_feed byte = byte == 10

-- a byte that continues a character
abbrev pub is_continuation : ℕ → Bool
is_continuation byte = nat_le 128 byte && nat_lt byte 192

-- the line of the byte after this prefix of a text
abbrev pub line_after : List ℕ → ℕ
line_after front = 1 + count_by is_line_feed front

-- The position in its line of the character after this prefix of a text. A line feed begins a line; every other byte that begins a character
-- counts as one.
abbrev pub next_column : ℕ → ℕ → ℕ
next_column column byte = if is_line_feed byte then 1 else (if is_continuation byte then column else column + 1)

abbrev pub column_after : List ℕ → ℕ
column_after front = fold next_column 1 front

-- the number of bytes before the character at a column of a text of one line
abbrev pub offset_of : ℕ → List ℕ → ℕ
offset_of column [] = 0
offset_of column (byte ∷ rest) =
    if is_continuation byte then suc (offset_of column rest)
    else if nat_le column 1 then 0
    else suc (offset_of (column - 1) rest)

-- a text that begins with a character, or is empty
abbrev pub BeginsCharacter : List ℕ → Type 0
BeginsCharacter [] = ⊤
BeginsCharacter (byte ∷ rest) = is_continuation byte ≡ false
