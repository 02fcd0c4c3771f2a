-- Runs of a numeric expression's code: they leave its number in register 0, and keep the numbers of lower levels.
use Rattle.std.proofs.Common.{◌≡◌, ℕ, zero, suc, ◌+◌, ◌<◌, ◌≤◌, List, ◌++◌, refl, sym, ◌∙◌, arith}
use Rattle.bpf_insn.specs.Arithmetic.{result_of}
use Rattle.bpf_insn.specs.declared.instruction.Insn.{Insn}
use Rattle.bpf_insn.specs.declared.instruction.Width.TheVariants.{Bits64}
use Rattle.bpf_insn.specs.declared.value.Value.{Value}
use Rattle.bpf_insn.specs.declared.value.Value.TheVariants as value
use Rattle.cql2.specs.Expression.{depth, saved_for}
use Rattle.cql2.specs.declared.column.NumericColumn.{NumericColumn}
use Rattle.cql2.specs.declared.column.NumericColumn.TheVariants as column
use Rattle.cql2.specs.declared.expression.Expression.{Expression}
use Rattle.cql2.specs.declared.expression.Expression.TheVariants.{Literal, Column, Negated', Combined'}
use Rattle.cql2.specs.declared.expression.Operator.{Operator}
use Rattle.cql2_code.specs.Columns.{number_of}
use Rattle.cql2_code.specs.Expressions.{number_code, operation_of, second_code, word_of}
use Rattle.cql2_code.specs.Layout.{subject_code}
use Rattle.cql2_code.specs.Question.{coordinate_id, field_id, value as number_in}
use Rattle.cql2_code.proofs.Calls.{answered, calls_coordinate, calls_field}
use Rattle.cql2_code.proofs.Columns.{coordinate_allowed, field_allowed}
use Rattle.cql2_code.proofs.SavedSteps.{with_saved, copies_to_saved}
use Rattle.cql2_code.proofs.OperationSteps.{combines, combines_literal, saved_at, negates, reads_saved, sets_literal}
use Rattle.cql2_code.proofs.SecondOperands.{saved_code_of, second_by}
use Rattle.cql2_code.proofs.Steps.{with_0, with_1, Runs, Scratch, Setting, and_then, copies_0_to_1, moves_1, no_more, one_more}

-- a code leaves a number in register 0, and what is saved at lower levels
pub record Computes (on : Setting) (code : List Insn) (number level : ℕ) (from : Scratch) : Type 0 where
  pub to : Scratch
  pub runs : Runs on code from (with_0 to number)
  pub keeps : (lower : ℕ) → lower < level → saved_at lower to ≡ saved_at lower from

-- what is saved stays when other registers change

stays_saved : (lower : ℕ) (scratch : Scratch) (v0 v1 : Value) → saved_at lower (record scratch { v0 = v0; v1 = v1 }) ≡ saved_at lower scratch
stays_saved zero scratch v0 v1 = refl
stays_saved (suc zero) scratch v0 v1 = refl
stays_saved (suc (suc lower)) scratch v0 v1 = refl

stays_answered : (lower : ℕ) (scratch : Scratch) (answer second : ℕ) → saved_at lower (answered scratch answer second) ≡ saved_at lower scratch
stays_answered zero scratch answer second = refl
stays_answered (suc zero) scratch answer second = refl
stays_answered (suc (suc lower)) scratch answer second = refl

saved_here : (level : ℕ) (scratch : Scratch) (number : ℕ) → saved_at level (with_saved level scratch number) ≡ value.Number number
saved_here zero scratch number = refl
saved_here (suc zero) scratch number = refl
saved_here (suc (suc level)) scratch number = refl

saved_below : (lower level : ℕ) (scratch : Scratch) (number : ℕ) → lower < level → level ≤ 2
    → saved_at lower (with_saved level scratch number) ≡ saved_at lower scratch
saved_below zero zero scratch number below few = absurd (omega arith)
saved_below (suc lower) zero scratch number below few = absurd (omega arith)
saved_below zero (suc zero) scratch number below few = refl
saved_below (suc lower) (suc zero) scratch number below few = absurd (omega arith)
saved_below zero (suc (suc level)) scratch number below few = refl
saved_below (suc zero) (suc (suc level)) scratch number below few = refl
saved_below (suc (suc lower)) (suc (suc level)) scratch number below few = absurd (omega arith)

module _ (on : Setting) where
  column_runs : (column : NumericColumn) (level : ℕ) (from : Scratch)
      → Computes on (subject_code (number_of column)) (number_in (number_of column) on.segment) level from
  column_runs (column.Number field) level from = record {
    to = answered from 0 0;
    runs = one_more (moves_1 on from (field_id field)) (one_more (calls_field on from (field_id field) (field_allowed field)) no_more);
    keeps = λ lower below. stays_answered lower from 0 0;
  }
  column_runs (column.Coordinate place) level from = record {
    to = answered from 0 0;
    runs = one_more (moves_1 on from (coordinate_id place))
        (one_more (calls_coordinate on from (coordinate_id place) (coordinate_allowed place)) no_more);
    keeps = λ lower below. stays_answered lower from 0 0;
  }

  -- The code after a first operand's combines its number with that of a second operand,
  -- if the code of the second operand computes its number once the first one is saved,
  pub combined_runs : (operator : Operator) (level : ℕ) (code : List Insn) (from : Scratch) (x y : ℕ)
      → Computes on code y (suc level) (with_saved level (with_0 from x) x) → level ≤ 2
      → Computes on (saved_code_of operator level code) (result_of (operation_of operator) Bits64 x y) level (with_0 from x)
  combined_runs operator level code from x y inner few =
      let answer : Scratch = with_0 inner.to y in
      let both : Scratch = with_0 (with_1 answer y) x in
      let here = stays_saved level inner.to (value.Number y) (value.Number y) ∙ inner.keeps level (omega arith) ∙ saved_here level (with_0 from x) x in
      record {
        to = both;
        runs = one_more (copies_to_saved on level from x)
            (and_then inner.runs
            (one_more (copies_0_to_1 on inner.to y)
            (one_more (reads_saved on level (with_1 answer y) x here) (one_more (combines on operator answer x y) no_more))));
        keeps = λ lower below.
            stays_saved lower inner.to (value.Number x) (value.Number y) ∙ inner.keeps lower (omega arith)
            ∙ saved_below lower level (with_0 from x) x below few;
      }

  -- or if it is a literal.
  pub second_runs : {A : Type 0} (operator : Operator) (level : ℕ) (second : Expression A) (code : List Insn) (from : Scratch) (x : ℕ)
      → level + saved_for second (depth second) ≤ 3
      → ((start : Scratch) → suc level + depth second ≤ 3 → Computes on code (word_of second on.segment) (suc level) start)
      → Computes on (second_code operator level second code) (result_of (operation_of operator) Bits64 x (word_of second on.segment)) level
      (with_0 from x)
  second_runs {A} operator level second code from x =
      second_by
      (λ (operand : Expression A) (insns : List Insn). level + saved_for operand (depth operand) ≤ 3
      → ((start : Scratch) → suc level + depth operand ≤ 3 → Computes on code (word_of operand on.segment) (suc level) start)
      → Computes on insns (result_of (operation_of operator) Bits64 x (word_of operand on.segment)) level (with_0 from x))
      operator level second code
      (λ literal few computes.
      let combined = combines_literal on operator literal.number from x literal.fits in
      record {
        to = record from { v1 = combined.argument };
        runs = combined.runs;
        keeps = λ lower below. stays_saved lower from from.v0 combined.argument ∙ sym (stays_saved lower from (value.Number x) from.v1);
      })
      (λ other deeper same few computes. combined_runs operator level code from x (word_of other on.segment)
      (computes (with_saved level (with_0 from x) x) (omega (arith, deeper))) (omega (arith, deeper)))

  pub number_runs : {A : Type 0} (expression : Expression A) (level : ℕ) (from : Scratch) → level + depth expression ≤ 3
      → Computes on (number_code expression level) (word_of expression on.segment) level from
  number_runs (Literal literal) level from few = record {
    to = from;
    runs = one_more (sets_literal on from literal.number literal.fits) no_more;
    keeps = λ lower below. refl;
  }
  number_runs (Column column) level from few = column_runs column level from
  number_runs (Negated' p inner) level from few =
      let first = number_runs inner level from few in
      record { to = first.to; runs = and_then first.runs (one_more (negates on first.to _) no_more); keeps = first.keeps }
  number_runs (Combined' operator p first q second) level from few =
      let front = number_runs first level from (omega arith) in
      let back = second_runs operator level second (number_code second (suc level)) front.to (word_of first on.segment) (omega arith)
      (λ start fewer. number_runs second (suc level) start fewer) in
      record {
        to = back.to;
        runs = and_then front.runs back.runs;
        keeps = λ lower below.
            back.keeps lower below ∙ stays_saved lower front.to (value.Number (word_of first on.segment)) front.to.v1 ∙ front.keeps lower below;
      }

  -- the same of a difference
  pub after_runs : {A : Type 0} (operator : Operator) (first second : Expression A) (from : Scratch) → depth first ≤ 3
      → saved_for second (depth second) ≤ 3
      → Computes on (number_code first 0 ++ second_code operator 0 second (number_code second 1))
      (result_of (operation_of operator) Bits64 (word_of first on.segment) (word_of second on.segment)) 0 from
  after_runs operator first second from few fewer =
      let front = number_runs first 0 from (omega arith) in
      let back = second_runs operator 0 second (number_code second 1) front.to (word_of first on.segment) (omega arith)
      (λ start few. number_runs second 1 start few) in
      record { to = back.to; runs = and_then front.runs back.runs; keeps = λ lower below. absurd (omega arith) }
