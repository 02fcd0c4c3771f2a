-- The parts of cells in a text that has quotation marks only around cells and doubled within them.
use Rattle.std.specs.Prelude.{◌≡◌, ◌⊎◌, ℕ, Bool, List, [], ◌∷◌, ◌++◌, ◌==◌, ◌||◌, if◌then◌else◌, Option, Some, None}
use Rattle.addresses.specs.declared.regular.RecordPart.{RecordPart}
use Rattle.addresses.specs.declared.regular.RecordPart.TheVariants.{Start, Plain, Quoted, Closed}

abbrev pub is_line_end : ℕ → Bool
is_line_end byte = (byte == 13) || (byte == 10)

-- the line with its line end, LF or CR LF
abbrev pub EndsLine : List ℕ → List ℕ → Type 0
EndsLine line text = (text ≡ line ++ 10 ∷ []) ⊎ (text ≡ line ++ 13 ∷ 10 ∷ [])

-- after a byte outside quotation marks: a comma ends the cell, and a mark or a line end has no place here
abbrev pub after_plain : ℕ → Option RecordPart
after_plain byte = if byte == 44 then Some Start else (if (byte == 34) || is_line_end byte then None else Some Plain)

-- the part after a byte, if there is one
abbrev pub after : RecordPart → ℕ → Option RecordPart
after Start byte = if byte == 34 then Some Quoted else after_plain byte
after Plain byte = after_plain byte
after Quoted byte = if byte == 34 then Some Closed else Some Quoted
after Closed byte = if byte == 34 then Some Quoted else (if byte == 44 then Some Start else None)
