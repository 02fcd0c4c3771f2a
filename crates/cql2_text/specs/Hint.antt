-- What to write in place of what other query languages have.
use Rattle.std.specs.Prelude.{◌≡◌, ℕ, ◌≤◌, Bool, ◌||◌, ◌==◌, if◌then◌else◌, List, length, codes, Option, Some, None}
use Rattle.std.specs.Str.{str_eq_ignore_ascii_case}
use Rattle.cql2_text.specs.Nearest.{IsRestFrom}
use Rattle.cql2_text.specs.declared.fault.Construct.{Construct}
use Rattle.cql2_text.specs.declared.fault.Construct.TheVariants.{Operator, Number, Text, Casei, Accenti, Shape, Operand, Area, Bbox}
use Rattle.cql2_text.specs.declared.fault.FilterFault.{FilterFault}
use Rattle.cql2_text.specs.declared.fault.FilterFault.TheVariants.{At, Memory}
use Rattle.cql2_text.specs.declared.fault.FilterFaultKind.{FilterFaultKind}
use Rattle.cql2_text.specs.declared.fault.FilterFaultKind.TheVariants.{Syntax, UnknownColumn, WrongType}
use Rattle.cql2_text.specs.declared.hint.Hint.{Hint}
use Rattle.cql2_text.specs.declared.hint.Hint.TheVariants as hint
use Rattle.cql2_text.specs.declared.reader.TheConstants.{MAX_TEXT_LENGTH}
use Rattle.cql2_tokens.specs.Lexed.{begins, is_quote}
use Rattle.cql2_tokens.specs.Nearest.{LeadsText}

abbrev pub is_word : List ℕ → List ℕ → Bool
is_word word name = str_eq_ignore_ascii_case word name

-- a spatial predicate of CQL2 (21-065r2, spatial functions) that there is not, also without its prefix
abbrev pub is_spatial : List ℕ → Bool
is_spatial name =
    is_word (codes "S_CONTAINS") name || is_word (codes "CONTAINS") name || is_word (codes "S_TOUCHES") name
    || is_word (codes "S_CROSSES") name || is_word (codes "S_OVERLAPS") name || is_word (codes "S_EQUALS") name

-- a function of SQL that changes the case
abbrev pub changes_case : List ℕ → Bool
changes_case name = str_eq_ignore_ascii_case (codes "UPPER") name || str_eq_ignore_ascii_case (codes "LOWER") name

abbrev pub function_hint : List ℕ → Option Hint
function_hint name =
    if is_word (codes "INTERSECTS") name then Some hint.Intersects
    else (if is_word (codes "DISJOINT") name then Some hint.Disjoint
    else (if is_word (codes "WITHIN") name then Some hint.Within
    else (if is_spatial name then Some hint.Spatial
    else (if changes_case name then Some hint.Casei else None))))

-- a literal of several shapes that there is not
abbrev pub is_collection : List ℕ → Bool
is_collection name =
    is_word (codes "MULTIPOINT") name || is_word (codes "MULTILINESTRING") name || is_word (codes "GEOMETRYCOLLECTION") name

abbrev pub shape_hint : List ℕ → Option Hint
shape_hint name =
    if is_word (codes "ENVELOPE") name then Some hint.Bbox else (if is_collection name then Some hint.Each else None)

abbrev pub is_shape : List ℕ → Bool
is_shape name =
    is_word (codes "POINT") name || is_word (codes "LINESTRING") name || is_word (codes "POLYGON") name
    || is_word (codes "MULTIPOLYGON") name

-- S_WITHIN asks for a box
abbrev pub box_hint : List ℕ → Option Hint
box_hint name =
    if is_word (codes "ENVELOPE") name then Some hint.Bbox
    else (if is_shape name || is_collection name then Some hint.Within else None)

abbrev pub is_exclamation_mark : ℕ → Bool
is_exclamation_mark byte = byte == 33

abbrev pub is_sign : ℕ → Bool
is_sign byte = byte == 60 || byte == 61 || byte == 62

abbrev pub is_double_quote : ℕ → Bool
is_double_quote byte = byte == 34

-- a second sign where a literal is expected, as in `==`
abbrev pub literal_hint : List ℕ → Option Hint
literal_hint text = if begins is_sign text then Some hint.OneSign else None

-- what to write in place of `!=`, of a second sign, and of a text in double quotes
abbrev pub syntax_hint : Construct → List ℕ → Option Hint
syntax_hint Operator text = if begins is_exclamation_mark text then Some hint.NotEqual else None
syntax_hint Number text = literal_hint text
syntax_hint Casei text = literal_hint text
syntax_hint Accenti text = literal_hint text
syntax_hint Text text = if begins is_double_quote text then Some hint.SingleQuotes else literal_hint text
syntax_hint expected text = None

-- the hint for a flaw, given the text from it on
abbrev pub IsHint : FilterFaultKind → List ℕ → Option Hint → Type 0
IsHint UnknownColumn text given = (name : List ℕ) × LeadsText name text × (given ≡ function_hint name)
IsHint (Syntax Shape) text given = (name : List ℕ) × LeadsText name text × (given ≡ shape_hint name)
IsHint (Syntax Operand) text given = (name : List ℕ) × LeadsText name text × (given ≡ shape_hint name)
IsHint (Syntax Area) text given = (name : List ℕ) × LeadsText name text × (given ≡ shape_hint name)
IsHint (Syntax Bbox) text given = (name : List ℕ) × LeadsText name text × (given ≡ box_hint name)
IsHint (Syntax expected) text given = given ≡ syntax_hint expected text
IsHint WrongType text given = given ≡ (if begins is_quote text then Some hint.Number else None)
IsHint flaw text given = given ≡ None

-- the hint for a flaw at this line and column of a text that may be read
pub record IsHintAt (text : List ℕ) (line column : ℕ) (flaw : FilterFaultKind) (given : Option Hint) : Type 0 where
  pub rest : List ℕ
  pub is_rest : length text ≤ MAX_TEXT_LENGTH → IsRestFrom text line column rest
  pub is_hint : IsHint flaw rest given

abbrev pub Hints : FilterFault → List ℕ → Option Hint → Type 0
Hints (At line column flaw) text given = IsHintAt text line column flaw given
Hints Memory text given = given ≡ None
