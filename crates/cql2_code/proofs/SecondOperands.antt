-- The code of a second operand: that of a literal, or that of any other expression, for which the first operand is saved.
use Rattle.std.proofs.Common.{◌≡◌, ℕ, suc, List, ◌∷◌, ◌++◌, refl}
use Rattle.bpf_insn.specs.declared.instruction.Insn.{Insn}
use Rattle.cql2.specs.Expression.{depth, saved_for}
use Rattle.cql2.specs.declared.expression.Expression.{Expression}
use Rattle.cql2.specs.declared.expression.Expression.TheVariants.{Literal, Column, Negated', Combined'}
use Rattle.cql2.specs.declared.expression.Operator.{Operator}
use Rattle.cql2.specs.declared.number.Literal.{Literal as LiteralParts}
use Rattle.cql2_code.specs.Expressions.{second_code, combine_saved, combine_literal}
use Rattle.cql2_code.specs.Layout.{copy, from_result, into_saved}

-- the code for a second operand that isn't a literal
abbrev pub saved_code_of : Operator → ℕ → List Insn → List Insn
saved_code_of operator level code = copy (into_saved level) from_result ∷ (code ++ combine_saved operator level)

-- what holds of both codes holds of the code of any second operand
pub second_by : {A : Type 0} (Property : Expression A → List Insn → Type 0) (operator : Operator) (level : ℕ) (second : Expression A)
    (code : List Insn) → ((literal : LiteralParts) → Property (Literal literal) (combine_literal operator literal.number))
    → ((other : Expression A) → saved_for other (depth other) ≡ suc (depth other) → other ≡ second
    → Property other (saved_code_of operator level code))
    → Property second (second_code operator level second code)
second_by Property operator level (Literal literal) code of_literal of_other = of_literal literal
second_by Property operator level (Column column) code of_literal of_other = of_other (Column column) refl refl
second_by Property operator level (Negated' p inner) code of_literal of_other = of_other (Negated' p inner) refl refl
second_by Property operator level (Combined' operation p first q second) code of_literal of_other =
    of_other (Combined' operation p first q second) refl refl
