-- Positions in a text: a line, and a character in it, both counted from 1.
use Rattle.std.specs.Prelude.{◌≡◌, ℕ, ◌+◌, ◌++◌, Bool, ◌&&◌, ◌==◌, nat_le, nat_lt, if◌then◌else◌, List, ⊤}
use Rattle.std.specs.List.{count_by, fold}
use Rattle.cql2_text.specs.declared.fault.FilterFault.{FilterFault}
use Rattle.cql2_text.specs.declared.fault.FilterFault.TheVariants.{At, Memory}
use Rattle.cql2_text.specs.declared.fault.FilterFaultKind.{FilterFaultKind}

abbrev pub is_line_feed : ℕ → Bool
is_line_feed byte = byte == 10

-- a byte that continues a character
abbrev pub is_continuation : ℕ → Bool
is_continuation byte = nat_le 128 byte && nat_lt byte 192

-- the line of the byte after this prefix of a text
abbrev pub line_after : List ℕ → ℕ
line_after front = 1 + count_by is_line_feed front

-- The position in its line of the character after this prefix of a text. A line feed begins a line; every other byte that begins a character
-- counts as one.
abbrev pub next_column : ℕ → ℕ → ℕ
next_column column byte = if is_line_feed byte then 1 else (if is_continuation byte then column else column + 1)

abbrev pub column_after : List ℕ → ℕ
column_after front = fold next_column 1 front

-- a flaw, placed after this prefix of a text
abbrev pub fault_after : List ℕ → FilterFaultKind → FilterFault
fault_after front flaw = At (line_after front) (column_after front) flaw

-- a fault lies within a text: it is placed after a prefix of it
abbrev pub IsPlacedIn : List ℕ → FilterFault → Type 0
IsPlacedIn text Memory = ⊤
IsPlacedIn text (At line column flaw) =
    (front : List ℕ) × (after : List ℕ) × (text ≡ front ++ after) × (line ≡ line_after front) × (column ≡ column_after front)
