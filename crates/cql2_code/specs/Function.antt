-- The questions about a function of filters.
use Rattle.std.specs.Prelude.{◌≡◌, ℕ, zero, suc, ◌+◌, ◌-◌, ◌==◌, ◌||◌, pos, Bool, true, false, List, ◌++◌, length, replicate, Result, if◌then◌else◌}
use Rattle.bpf_insn.specs.Code.{word_count}
use Rattle.bpf_insn.specs.declared.instruction.Insn.{Insn}
use Rattle.tl_segments.specs.declared.limits.TheConstants.{MAX_RANGES}
use Rattle.cql2.specs.declared.column.CoordinateColumn.{CoordinateColumn}
use Rattle.cql2.specs.declared.column.CoordinateColumn.TheVariants.{Frlong, Frlat, Tolong, Tolat}
use Rattle.cql2.specs.declared.column.NumericColumn.TheVariants.{Coordinate}
use Rattle.cql2.specs.declared.filter.Comparison.TheVariants.{NotEqual, LessOrEqual, Greater, GreaterOrEqual}
use Rattle.cql2.specs.declared.function.Function.{Function}
use Rattle.cql2.specs.declared.function.Function.TheVariants.{HasNumber, HasName, Intersects, StartsIn, StartsInBounds, Within}
use Rattle.cql2.specs.declared.geometry.Bounds.{Bounds}
use Rattle.cql2.specs.declared.geometry.Shape.{Shape}
use Rattle.cql2.specs.declared.geometry.Shape.TheVariants.{Polygons}
use Rattle.cql2_code.specs.Columns.{has_value, test}
use Rattle.cql2_code.specs.Layout.{Prepends, Writes}
use Rattle.cql2_code.specs.Question.{Block, Question, Coded, Decided, Joined, Opposite, if_asked}
use Rattle.cql2_code.specs.ShapeCode.{meets_shape}
use Rattle.cql2_code.specs.WithinCode.{within_bounds}
use Rattle.cql2_code.specs.declared.fault.CompileFault.{CompileFault}
use Rattle.cql2_code.specs.declared.line.Extent.{Extent}
use Rattle.cql2_code.specs.declared.line.Extent.TheVariants.{Whole, Start}
use Rattle.cql2_code.specs.declared.question.Exits.{Exits}
use Rattle.cql2_code.specs.declared.question.Subject.TheVariants.{Names, Ranges, InRange, NameIs}

-- Names and ranges

-- the indices at which the code first asks whether there are that many names or ranges: the powers of two
abbrev pub checks_for_end : ℕ → Bool
checks_for_end at = at == 1 || at == 2 || at == 4 || at == 8 || at == 16 || at == 32 || at == 64 || at == 128 || at == 256 || at == 512

-- a house number lies on a side of one of several ranges, given by the index of the first one and by their count
unfoldable pub lies_from : ℕ → ℕ → ℕ → Question
lies_from house at zero = Decided false
lies_from house at (suc more) =
    if checks_for_end at
    then Joined true (test Ranges Greater (pos at))
    (Joined false (test (InRange at house) NotEqual (pos 0)) (lies_from house (at + 1) more))
    else Joined false (test (InRange at house) NotEqual (pos 0)) (lies_from house (at + 1) more)

-- the code that asks about a range is written before the code that asks about later ones, or refused
abbrev pub PrependsRange : Result (Unit {0}) CompileFault → ℕ → ℕ → ℕ → Exits → List Insn → List Insn → Type 0
PrependsRange result house range end exits old new = (more : ℕ) (rest : List Insn) → word_count rest ≡ end
    → Writes (lies_from house (range + 1) more) exits rest old → Prepends result (lies_from house range (suc more)) exits rest new

abbrev pub asks_has_number : ℕ → Bool → Question
asks_has_number house asked = if_asked (lies_from house 0 (suc MAX_RANGES)) asked

-- a name as it is in the frame: padded with blanks
abbrev pub name_block : List ℕ → List ℕ
name_block text = text ++ replicate (32 - length text) 32

-- one of several names, given by the index of the first one and by their count, is the required one
unfoldable pub is_named_from : List ℕ → ℕ → ℕ → Question
is_named_from required at zero = Decided false
is_named_from required at (suc more) =
    if checks_for_end at
    then Joined true (test Names GreaterOrEqual (pos at))
    (Joined false (test (NameIs at required) NotEqual (pos 0)) (is_named_from required (at + 1) more))
    else Joined false (test (NameIs at required) NotEqual (pos 0)) (is_named_from required (at + 1) more)

abbrev pub PrependsName : Result (Unit {0}) CompileFault → List ℕ → ℕ → ℕ → Exits → List Insn → List Insn → Type 0
PrependsName result required name end exits old new = (more : ℕ) (rest : List Insn) → word_count rest ≡ end
    → Writes (is_named_from required (name + 1) more) exits rest old → Prepends result (is_named_from required name (suc more)) exits rest new

abbrev pub is_named : List ℕ → ℕ → Question
is_named text most = is_named_from (name_block text) 0 (suc most)

-- whether a name is the required one; or whether none is, and the segment has no more names
abbrev pub asks_has_name : List ℕ → ℕ → Bool → Question
asks_has_name text most true = is_named text most
asks_has_name text most false = Joined true (test Names LessOrEqual (pos most)) (Opposite (is_named text most))

-- Shapes

-- neither of two coordinates is NULL
abbrev pub knows_point : CoordinateColumn → CoordinateColumn → Question
knows_point longitude latitude = Joined true (has_value (Coordinate longitude)) (has_value (Coordinate latitude))

-- none of the coordinates that are read is NULL
abbrev pub knows_line : Extent → Question
knows_line Whole = Joined true (knows_point Frlong Frlat) (knows_point Tolong Tolat)
knows_line Start = knows_point Frlong Frlat

-- whether a block's answer is the one asked, of a line that is read
abbrev pub asks_line : Extent → Block → Bool → Question
asks_line extent block asked = Joined true (knows_line extent) (if_asked (Coded block) asked)

abbrev pub asks_meets : {A : Type 0} → Extent → Shape A → Bool → Question
asks_meets extent shape asked = asks_line extent (meets_shape extent shape) asked

abbrev pub asks_within : Extent → Bounds → Bool → Question
asks_within extent bounds asked = asks_line extent (within_bounds extent bounds) asked

-- Functions

-- A segment starts in polygons exactly if the line from its start to its start meets them.
abbrev pub asks_function : {A : Type 0} → Function A → Bool → Question
asks_function (HasNumber house) asked = asks_has_number house.number asked
asks_function (HasName text limit) asked = asks_has_name text.bytes.items limit.number asked
asks_function (Intersects shape) asked = asks_meets Whole shape asked
asks_function (StartsIn several) asked = asks_meets Start (Polygons several) asked
asks_function (StartsInBounds bounds) asked = asks_within Start bounds asked
asks_function (Within bounds) asked = asks_within Whole bounds asked
