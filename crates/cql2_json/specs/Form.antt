-- The arrays of CQL2's JSON encoding: how many values they have, what these are, and what text writes around and between them
-- (CQL2, 21-065r2, annexes B and C).
use Rattle.std.specs.Prelude.{ℕ, suc, zero, ◌==◌, nat_le, List, codes, Bool, true}
use Rattle.cql2_json.specs.Operator.{first_separator, later_separator, operand_count, operator_closing, operator_opening}
use Rattle.cql2_json.specs.declared.fault.ItemCount.{ItemCount}
use Rattle.cql2_json.specs.declared.fault.ItemCount.TheVariants.{Any, One, Two, Three, Four, OneOrMore, TwoOrMore, FourOrMore}
use Rattle.cql2_json.specs.declared.fault.ExpectedValue.{ExpectedValue}
use Rattle.cql2_json.specs.declared.fault.ExpectedValue.TheVariants as needed
use Rattle.cql2_json.specs.declared.form.Form.{Form}
use Rattle.cql2_json.specs.declared.form.Form.TheVariants.{Operands, Arguments, List as ValueList, Box, Position, Point, MultiPoint, Line, MultiLine}
use Rattle.cql2_json.specs.declared.form.Form.TheVariants.{Ring, Polygon, MultiPolygon}
use Rattle.cql2_json.specs.declared.form.ValueKind.{ValueKind}
use Rattle.cql2_json.specs.declared.form.ValueKind.TheVariants.{Expression, Number, Array}
use Rattle.cql2_json.specs.declared.operator.JsonOperator.TheVariants.{In}

abbrev pub admits : ItemCount → ℕ → Bool
admits Any count = true
admits One count = count == 1
admits Two count = count == 2
admits Three count = count == 3
admits Four count = count == 4
admits OneOrMore count = nat_le 1 count
admits TwoOrMore count = nat_le 2 count
admits FourOrMore count = nat_le 4 count

-- how many values an array of a form has
abbrev pub count_of : Form → ItemCount
count_of (Operands operator) = operand_count operator
count_of Arguments = Any
count_of ValueList = OneOrMore
count_of Box = Four
count_of Position = Two
count_of Point = Two
count_of MultiPoint = OneOrMore
count_of Line = TwoOrMore
count_of MultiLine = OneOrMore
count_of Ring = FourOrMore
count_of Polygon = OneOrMore
count_of MultiPolygon = OneOrMore

-- before the first value
abbrev pub opening : Form → List ℕ
opening (Operands operator) = operator_opening operator
opening Box = codes "BBOX("
opening Position = codes ""
opening form = codes "("

-- before the value at an index
abbrev pub separator : Form → ℕ → List ℕ
separator form zero = codes ""
separator (Operands operator) (suc zero) = first_separator operator
separator (Operands operator) (suc (suc index)) = later_separator operator
separator Position (suc index) = codes " "
separator Point (suc index) = codes " "
separator form (suc index) = codes ", "

-- after the last value
abbrev pub closing : Form → List ℕ
closing (Operands operator) = operator_closing operator
closing Position = codes ""
closing form = codes ")"

-- what the value at an index is
abbrev pub item_kind : Form → ℕ → ValueKind
item_kind (Operands In) (suc zero) = Array ValueList
item_kind (Operands operator) index = Expression
item_kind Arguments index = Expression
item_kind ValueList index = Expression
item_kind Box index = Number
item_kind Position index = Number
item_kind Point index = Number
item_kind MultiPoint index = Array Point
item_kind Line index = Array Position
item_kind MultiLine index = Array Line
item_kind Ring index = Array Position
item_kind Polygon index = Array Ring
item_kind MultiPolygon index = Array Polygon

-- what is expected in place of a value of another kind
abbrev pub expected_value : ValueKind → ExpectedValue
expected_value Expression = needed.Expression
expected_value Number = needed.Number
expected_value (Array form) = needed.Array (count_of form)
