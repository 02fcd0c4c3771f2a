-- Refusals, and their line of text. A fault's refusal has one of four forms, `refused`, `detailed`, `io` and `memory`, and a position.
use Rattle.std.specs.Prelude.{ℕ, List, [], ◌++◌, Option, Some, None, codes, decimal}
use Rattle.refusals.specs.declared.refusal.Class.{Class}
use Rattle.refusals.specs.declared.refusal.Class.TheVariants.{Refused, Io, Memory}
use Rattle.refusals.specs.declared.refusal.Position.{Position}
use Rattle.refusals.specs.declared.refusal.Position.TheVariants.{Whole, Place, Line, Character, FileLine}

-- A refusal: its class, number and name; optionally the number of a register, an argument or another refusal; and its position.
pub record RefusalParts : Type 0 where
  pub class : Class
  pub number : Option ℕ
  pub name : List ℕ
  pub detail : Option ℕ
  pub position : Position

-- the input has a fault
abbrev pub refused : ℕ → List ℕ → RefusalParts
refused number name = record { class = Refused; number = Some number; name = name; detail = None; position = Whole }

abbrev pub detailed : ℕ → List ℕ → Option ℕ → RefusalParts
detailed number name detail = record { class = Refused; number = Some number; name = name; detail = detail; position = Whole }

-- a read or a write failed
abbrev pub io : ℕ → List ℕ → RefusalParts
io number name = record { class = Io; number = Some number; name = name; detail = None; position = Whole }

-- an allocation failed; the refusal has no number
abbrev pub memory : RefusalParts
memory = record { class = Memory; number = None; name = codes "memory"; detail = None; position = Whole }

-- the refusal at a word of a program
abbrev pub at_place : ℕ → RefusalParts → RefusalParts
at_place place refusal = record refusal { position = Place place }

-- the refusal at a line of a text
abbrev pub at_line : ℕ → RefusalParts → RefusalParts
at_line line refusal = record refusal { position = Line line }

-- the refusal at a character of a line of a text
abbrev pub at_character : ℕ → ℕ → RefusalParts → RefusalParts
at_character line column refusal = record refusal { position = Character line column }

-- the refusal at a line of a county's file of a record type
abbrev pub at_file_line : ℕ → ℕ → RefusalParts → RefusalParts
at_file_line record_type line refusal = record refusal { position = FileLine record_type line }

abbrev pub number_text : Option ℕ → List ℕ
number_text None = []
number_text (Some number) = decimal number ++ codes " "

abbrev pub detail_text : Option ℕ → List ℕ
detail_text None = []
detail_text (Some detail) = codes "(" ++ decimal detail ++ codes ")"

-- the position and the name, and the detail, which isn't written at a character or at a line of a file
abbrev pub position_text : Position → List ℕ → Option ℕ → List ℕ
position_text Whole name detail = name ++ detail_text detail
position_text (Place place) name detail = codes "place " ++ decimal place ++ codes " " ++ name ++ detail_text detail
position_text (Line line) name detail = codes "line " ++ decimal line ++ codes " " ++ name ++ detail_text detail
position_text (Character line column) name detail = codes "line " ++ decimal line ++ codes " column " ++ decimal column ++ codes " " ++ name
position_text (FileLine record_type line) name detail = codes "rt" ++ decimal record_type ++ codes " line " ++ decimal line ++ codes " " ++ name

-- the line of text, without its line end
abbrev pub line : RefusalParts → List ℕ
line refusal = codes "refused " ++ number_text refusal.number ++ position_text refusal.position refusal.name refusal.detail
