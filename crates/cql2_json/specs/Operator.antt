-- The operators of CQL2's JSON encoding, by the value of op, and what its Text encoding writes around and between their operands
-- (CQL2, 21-065r2, annexes B and C).
use Rattle.std.specs.Prelude.{ℕ, List, codes, bytes_eq, if◌then◌else◌, Option, Some, None}
use Rattle.cql2_json.specs.declared.fault.ItemCount.{ItemCount}
use Rattle.cql2_json.specs.declared.fault.ItemCount.TheVariants.{One, Two, Three, TwoOrMore}
use Rattle.cql2_json.specs.declared.operator.JsonOperator.{JsonOperator}
use Rattle.cql2_json.specs.declared.operator.JsonOperator.TheVariants.{And, Or, Not, Equal, NotEqual, Less, Greater, LessOrEqual, GreaterOrEqual}
use Rattle.cql2_json.specs.declared.operator.JsonOperator.TheVariants.{Like, Between, In, IsNull, Plus, Minus, Times, Over, Modulo, Quotient, Power}

abbrev pub operator_of_name : List ℕ → Option JsonOperator
operator_of_name name =
    if bytes_eq name (codes "and") then Some And
    else if bytes_eq name (codes "or") then Some Or
    else if bytes_eq name (codes "not") then Some Not
    else if bytes_eq name (codes "=") then Some Equal
    else if bytes_eq name (codes "<>") then Some NotEqual
    else if bytes_eq name (codes "<") then Some Less
    else if bytes_eq name (codes ">") then Some Greater
    else if bytes_eq name (codes "<=") then Some LessOrEqual
    else if bytes_eq name (codes ">=") then Some GreaterOrEqual
    else if bytes_eq name (codes "like") then Some Like
    else if bytes_eq name (codes "between") then Some Between
    else if bytes_eq name (codes "in") then Some In
    else if bytes_eq name (codes "isNull") then Some IsNull
    else if bytes_eq name (codes "+") then Some Plus
    else if bytes_eq name (codes "-") then Some Minus
    else if bytes_eq name (codes "*") then Some Times
    else if bytes_eq name (codes "/") then Some Over
    else if bytes_eq name (codes "%") then Some Modulo
    else if bytes_eq name (codes "div") then Some Quotient
    else if bytes_eq name (codes "^") then Some Power
    else None

abbrev pub operand_count : JsonOperator → ItemCount
operand_count And = TwoOrMore
operand_count Or = TwoOrMore
operand_count Not = One
operand_count IsNull = One
operand_count Between = Three
operand_count operator = Two

-- before the first operand
abbrev pub operator_opening : JsonOperator → List ℕ
operator_opening Not = codes "(NOT "
operator_opening operator = codes "("

-- before the second operand
abbrev pub first_separator : JsonOperator → List ℕ
first_separator And = codes " AND "
first_separator Or = codes " OR "
first_separator Equal = codes " = "
first_separator NotEqual = codes " <> "
first_separator Less = codes " < "
first_separator Greater = codes " > "
first_separator LessOrEqual = codes " <= "
first_separator GreaterOrEqual = codes " >= "
first_separator Like = codes " LIKE "
first_separator Between = codes " BETWEEN "
first_separator In = codes " IN "
first_separator Plus = codes " + "
first_separator Minus = codes " - "
first_separator Times = codes " * "
first_separator Over = codes " / "
first_separator Modulo = codes " % "
first_separator Quotient = codes " DIV "
first_separator Power = codes " ^ "
first_separator operator = codes ""

-- before each later operand
abbrev pub later_separator : JsonOperator → List ℕ
later_separator Between = codes " AND "
later_separator operator = first_separator operator

-- after the last operand
abbrev pub operator_closing : JsonOperator → List ℕ
operator_closing IsNull = codes " IS NULL)"
operator_closing operator = codes ")"
