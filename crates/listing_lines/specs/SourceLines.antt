-- Lines of source code, each with the place in the program that it belongs to.
use Rattle.std.specs.Prelude.{◌≡◌, ℕ, ◌+◌, Bool, ◌==◌, nat_lt, nat_le, if◌then◌else◌, List, [], ◌∷◌, ◌++◌, length, Option, Some, None}
use Rattle.std.specs.Prelude.{option_map, option_and_then, Result, Ok, Err, codes}
use Rattle.std.specs.List.{after_first, before_first, position_or_len}
use Rattle.std.specs.Str.{is_utf8}
use Rattle.std.specs.Str.Lines.{lines}
use Rattle.numerals.specs.Numeral.{decimal_in}
use Rattle.listing_lines.specs.declared.source_lines.LinesFault.{LinesFault}
use Rattle.listing_lines.specs.declared.source_lines.SourceLineFaultKind.{SourceLineFaultKind}
use Rattle.listing_lines.specs.declared.source_lines.SourceLineFaultKind.TheVariants.{NotText, WithoutPlace, OutOfOrder}
use Rattle.listing_lines.specs.declared.source_lines.PlacedLine.{PlacedLine}
use Rattle.listing_lines.specs.declared.source_lines.SourceLines.{SourceLines}
use Rattle.listing_lines.specs.declared.source_lines.TheConstants.{MAX_PLACE, PLACE_DIGITS}

-- a line: its place, and its text
pub record SourceLine : Type 0 where
  pub place : ℕ
  pub text : List ℕ

abbrev pub line_of : PlacedLine → SourceLine
line_of line = record { place = line.place; text = line.text.now }

-- a line as a listing shows it
abbrev pub source_text : SourceLine → List ℕ
source_text line = codes "; " ++ line.text ++ codes "\n"

-- the place written in one to five decimal digits, if a program can have it
unfoldable pub place_in : List ℕ → Option ℕ
place_in digits = option_and_then (λ place. if nat_le place MAX_PLACE then Some place else None) (decimal_in PLACE_DIGITS digits)

abbrev pub is_tab : ℕ → Bool
is_tab byte = byte == 9

-- a place and a text, separated by a tab
unfoldable pub line_in : List ℕ → Option SourceLine
line_in text =
    if nat_lt (position_or_len is_tab text) (length text)
    then option_map (λ place. record { place = place; text = after_first is_tab text }) (place_in (before_first is_tab text))
    else None

-- a line whose place isn't less than that of the line above it
abbrev pub in_order : ℕ → Option SourceLine → Result SourceLine SourceLineFaultKind
in_order last None = Err WithoutPlace
in_order last (Some line) = if nat_lt line.place last then Err OutOfOrder else Ok line

-- a line's place and text, given the place of the line above it
unfoldable pub valid_line : ℕ → List ℕ → Result SourceLine SourceLineFaultKind
valid_line last text = if is_utf8 text then in_order last (line_in text) else Err NotText

-- lines put before other lines
abbrev pub preceded : List SourceLine → Result (List SourceLine) LinesFault → Result (List SourceLine) LinesFault
preceded lines (Ok later) = Ok (lines ++ later)
preceded lines (Err fault) = Err fault

abbrev pub fault_at : ℕ → SourceLineFaultKind → LinesFault
fault_at number flaw = record { line = number; flaw = flaw }

abbrev pub followed : ℕ → Result SourceLine SourceLineFaultKind → (ℕ → Result (List SourceLine) LinesFault) → Result (List SourceLine) LinesFault
followed number (Ok line) later = preceded (line ∷ []) (later line.place)
followed number (Err flaw) later = Err (fault_at number flaw)

-- the lines from a line number on, given the place of the line above them, or the first fault
unfoldable pub lines_from : ℕ → ℕ → List (List ℕ) → Result (List SourceLine) LinesFault
lines_from number last [] = Ok []
lines_from number last (text ∷ texts) = followed number (valid_line last text) (λ place. lines_from (number + 1) place texts)

-- the lines of a file, which end in LF or CR LF
abbrev pub lines_in : List ℕ → Result (List SourceLine) LinesFault
lines_in file = lines_from 1 0 (lines file)

-- the lines of a file, or none if it has a fault
abbrev pub lines_or_none : Result (List SourceLine) LinesFault → List SourceLine
lines_or_none (Ok lines) = lines
lines_or_none (Err fault) = []

abbrev pub parts_of : SourceLines → List SourceLine
parts_of lines = lines_or_none (lines_in lines.file.now)

-- the result of reading the line with a number
abbrev pub IsChecked : ℕ → Result SourceLine SourceLineFaultKind → Result PlacedLine LinesFault → Type 0
IsChecked number held (Ok line) = held ≡ Ok (line_of line)
IsChecked number held (Err fault) = (fault.line ≡ number) × (held ≡ Err fault.flaw)
