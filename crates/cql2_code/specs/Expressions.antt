-- The code that compares numeric expressions. It computes them in register 0 (RFC 9669, section 4.1), and keeps a first operand in one of
-- registers 7 to 9 while the second one is computed.
use Rattle.std.specs.Prelude.{ℕ, suc, ℤ, pos, Bool, true, not, List, [], ◌∷◌, ◌++◌, if◌then◌else◌}
use Rattle.std.specs.Ordering.{int_eq}
use Rattle.bpf_insn.specs.Arithmetic.{condition_holds, immediate_operand, negate, result_of}
use Rattle.bpf_insn.specs.declared.instruction.Insn.{Insn}
use Rattle.bpf_insn.specs.declared.instruction.Insn.TheVariants.{Alu, Negate}
use Rattle.bpf_insn.specs.declared.instruction.Operation.{Operation}
use Rattle.bpf_insn.specs.declared.instruction.Operation.TheVariants as operation
use Rattle.bpf_insn.specs.declared.instruction.Source.{Source}
use Rattle.bpf_insn.specs.declared.instruction.Source.TheVariants.{Immediate, Register}
use Rattle.bpf_insn.specs.declared.instruction.Width.TheVariants.{Bits64}
use Rattle.cql2.specs.declared.expression.Expression.{Expression}
use Rattle.cql2.specs.declared.expression.Expression.TheVariants.{Literal, Column, Negated', Combined'}
use Rattle.cql2.specs.declared.expression.Operator.{Operator}
use Rattle.cql2.specs.declared.expression.Operator.TheVariants.{Add, Subtract, Multiply, Divide, Remainder}
use Rattle.cql2.specs.declared.filter.Comparison.{Comparison}
use Rattle.cql2.specs.declared.filter.Comparison.TheVariants.{NotEqual}
use Rattle.tl_segments.specs.Segment.{SegmentParts}
use Rattle.cql2_code.specs.Columns.{has_value, number_of}
use Rattle.cql2_code.specs.Layout.{comparison_code, copy, from_argument_1, from_saved, from_result, into_argument_1, into_saved, into_result}
use Rattle.cql2_code.specs.Layout.{is_narrow, move, opposite, subject_code, wide_load}
use Rattle.cql2_code.specs.Question.{Block, Question, Coded, Decided, Joined, condition_of, value}

-- Division and remainder are the signed ones, which cut the quotient towards zero.
abbrev pub operation_of : Operator → Operation
operation_of Add = operation.Add
operation_of Subtract = operation.Subtract
operation_of Multiply = operation.Multiply
operation_of Divide = operation.SignedDivide
operation_of Remainder = operation.SignedModulo

-- an operation on register 0 and another operand
abbrev pub operate : Operator → Source → Insn
operate operator operand = Alu (operation_of operator) Bits64 into_result operand

-- a literal is put into register 0
abbrev pub set_literal : ℤ → Insn
set_literal literal = if is_narrow literal then move into_result literal else wide_load into_result (immediate_operand literal)

-- an operation on register 0 and a literal, which is put into register 1 if no immediate holds it
abbrev pub combine_literal : Operator → ℤ → List Insn
combine_literal operator literal =
    if is_narrow literal
    then operate operator (Immediate literal) ∷ []
    else wide_load into_argument_1 (immediate_operand literal) ∷ operate operator (Register from_argument_1) ∷ []

-- an operation on the number saved at a level and register 0
abbrev pub combine_saved : Operator → ℕ → List Insn
combine_saved operator level =
    copy into_argument_1 from_result ∷ copy into_result (from_saved level) ∷ operate operator (Register from_argument_1) ∷ []

-- the code after that of a first operand, by that of the second one
abbrev pub second_code : {A : Type 0} → Operator → ℕ → Expression A → List Insn → List Insn
second_code operator level (Literal literal) code = combine_literal operator literal.number
second_code operator level second code = copy (into_saved level) from_result ∷ (code ++ combine_saved operator level)

-- the code that computes an expression in register 0, and keeps numbers from a level on
abbrev pub number_code : {A : Type 0} → Expression A → ℕ → List Insn
number_code (Literal literal) level = set_literal literal.number ∷ []
number_code (Column column) level = subject_code (number_of column)
number_code (Negated' p inner) level = number_code inner level ++ Negate Bits64 into_result ∷ []
number_code (Combined' operator p first q second) level =
    number_code first level ++ second_code operator level second (number_code second (suc level))

-- the number that it leaves there
abbrev pub word_of : {A : Type 0} → Expression A → SegmentParts → ℕ
word_of (Literal literal) segment = immediate_operand literal.number
word_of (Column column) segment = value (number_of column) segment
word_of (Negated' p inner) segment = negate Bits64 (word_of inner segment)
word_of (Combined' operator p first q second) segment =
    result_of (operation_of operator) Bits64 (word_of first segment) (word_of second segment)

-- a comparison of register 0 with 0, which jumps unless the answer is the one that falls through
abbrev pub zero_comparison : Comparison → Bool → ℕ → List Insn
zero_comparison comparison falls skip = comparison_code (if falls then opposite comparison else comparison) (pos 0) skip

-- a comparison of a number with 0, by the code that computes the number
abbrev pub compares_zero : List Insn → (SegmentParts → ℕ) → Comparison → Block
compares_zero code word comparison = record {
  code = λ falls skip. code ++ zero_comparison comparison falls skip;
  answer = λ segment. condition_holds (condition_of comparison) Bits64 (word segment) (immediate_operand (pos 0));
}

-- two expressions are compared by their difference
abbrev pub difference_code : {A : Type 0} → Expression A → Expression A → List Insn
difference_code first second = number_code first 0 ++ second_code Subtract 0 second (number_code second 1)

abbrev pub difference_word : {A : Type 0} → Expression A → Expression A → SegmentParts → ℕ
difference_word first second segment = result_of operation.Subtract Bits64 (word_of first segment) (word_of second segment)

abbrev pub compares_difference : {A : Type 0} → Expression A → Comparison → Expression A → Question
compares_difference first comparison second =
    Coded (compares_zero (difference_code first second) (difference_word first second) comparison)

-- an expression with a value isn't 0
abbrev pub is_not_zero : {A : Type 0} → Expression A → Question
is_not_zero expression = Coded (compares_zero (number_code expression 0) (word_of expression) NotEqual)

-- a divisor isn't 0
abbrev pub is_divisor : {A : Type 0} → Expression A → Question
is_divisor (Literal literal) = Decided (not (int_eq literal.number (pos 0)))
is_divisor divisor = is_not_zero divisor

-- the second operand has a value with which the operator has one
abbrev pub has_second : {A : Type 0} → Operator → Expression A → Question → Question
has_second Divide second known = Joined true known (is_divisor second)
has_second Remainder second known = Joined true known (is_divisor second)
has_second operator second known = known

-- an expression has a value: each column in it has one, and no divisor is 0
abbrev pub is_known : {A : Type 0} → Expression A → Question
is_known (Literal literal) = Decided true
is_known (Column column) = has_value column
is_known (Negated' p inner) = is_known inner
is_known (Combined' operator p first q second) = Joined true (is_known first) (has_second operator second (is_known second))

-- two expressions have values, and a comparison holds for them
abbrev pub compares_numbers : {A : Type 0} → Expression A → Comparison → Expression A → Question
compares_numbers first comparison second =
    Joined true (is_known first) (Joined true (is_known second) (compares_difference first comparison second))
