-- The questions about numeric expressions are sound.
use Rattle.std.proofs.Common.{suc, ◌≤◌, List, sym, ap, ◌∙◌, subst, arith}
use Rattle.bpf_insn.specs.declared.instruction.Insn.{Insn}
use Rattle.cql2.specs.declared.column.NumericColumn.{NumericColumn}
use Rattle.cql2.specs.declared.column.NumericColumn.TheVariants as column
use Rattle.std.specs.Prelude.{IsTrue}
use Rattle.cql2.specs.Expression.{depth, is_exact, saved_for}
use Rattle.cql2.specs.declared.expression.Expression.{Expression}
use Rattle.cql2.specs.declared.expression.Expression.TheVariants.{Literal, Column, Negated', Combined'}
use Rattle.cql2.specs.declared.expression.Operator.{Operator}
use Rattle.cql2.specs.declared.expression.Operator.TheVariants.{Add, Subtract, Multiply, Divide, Remainder}
use Rattle.cql2.specs.declared.filter.Comparison.{Comparison}
use Rattle.cql2.specs.declared.filter.Comparison.TheVariants.{NotEqual}
use Rattle.cql2_code.specs.Columns.{has_value}
use Rattle.cql2_code.specs.Expressions.{compares_numbers, difference_code, difference_word, has_second, is_divisor}
use Rattle.cql2_code.specs.Expressions.{is_known, number_code, second_code, word_of}
use Rattle.cql2_code.specs.Question.{Question}
use Rattle.cql2_code.proofs.AbstractState.{answered}
use Rattle.cql2_code.proofs.Blocks.{IsSound, keeps_back, keeps_front}
use Rattle.cql2_code.proofs.ExactLemmas.{exact_depth}
use Rattle.cql2_code.proofs.ExpressionPasses.{number_passes, number_rests, second_needs, second_passes}
use Rattle.cql2_code.proofs.ExpressionRuns.{after_runs, number_runs}
use Rattle.cql2_code.proofs.NumberLemmas.{small_fits}
use Rattle.cql2_code.proofs.Passes.{AllPass, all_pass-append, needed_by, needed_by-append}
use Rattle.cql2_code.proofs.ZeroBlocks.{IsSoundCode, zero_sound}

pub has_value_sound : (column : NumericColumn) → IsSound (has_value column)
has_value_sound (column.Number field) = record { subject = tt; operand = small_fits 0 (omega arith) }
has_value_sound (column.Coordinate place) = record { subject = tt; operand = small_fits 0 (omega arith) }

number_sound : {A : Type 0} (expression : Expression A) → depth expression ≤ 3 → IsSoundCode (number_code expression 0) (word_of expression)
number_sound expression few = record {
  rests = λ keeps. number_rests keeps expression 0;
  passes = λ keeps saved. number_passes keeps expression 0 saved;
  runs = λ on segment from. number_runs on expression 0 from (omega arith);
}

difference_sound : {A : Type 0} (first second : Expression A) → depth first ≤ 3 → saved_for second (depth second) ≤ 3
    → IsSoundCode (difference_code first second) (difference_word first second)
difference_sound first second few fewer = record {
  rests = λ keeps.
      needed_by-append keeps front back (answered keeps) ∙ ap (needed_by keeps front) (second_needs keeps Subtract 0 second inner)
      ∙ number_rests keeps first 0;
  passes = λ keeps saved.
      all_pass-append keeps front back (answered keeps)
      (subst (AllPass keeps front) (sym (second_needs keeps Subtract 0 second inner)) (number_passes keeps first 0 (keeps_front keeps front back saved)))
      (second_passes keeps Subtract 0 second inner (number_rests keeps second 1) (number_passes keeps second 1) (keeps_back keeps front back saved));
  runs = λ on segment from. after_runs on Subtract first second from few fewer;
}
  where
    front : List Insn
    front = number_code first 0

    inner : List Insn
    inner = number_code second 1

    back : List Insn
    back = second_code Subtract 0 second inner

divisor_sound : {A : Type 0} (divisor : Expression A) → depth divisor ≤ 3 → IsSound (is_divisor divisor)
divisor_sound (Literal literal) few = tt
divisor_sound {A} (Column column) few = zero_sound _ _ NotEqual (number_sound {A = A} (Column column) few)
divisor_sound {A} (Negated' p inner) few = zero_sound _ _ NotEqual (number_sound {A = A} (Negated' p inner) few)
divisor_sound {A} (Combined' operator p first q second) few = zero_sound _ _ NotEqual (number_sound {A = A} (Combined' operator p first q second) few)

second_sound : {A : Type 0} (operator : Operator) (second : Expression A) (known : Question) → depth second ≤ 3 → IsSound known
    → IsSound (has_second operator second known)
second_sound Add second known few sound = sound
second_sound Subtract second known few sound = sound
second_sound Multiply second known few sound = sound
second_sound Divide second known few sound = (sound, divisor_sound second few)
second_sound Remainder second known few sound = (sound, divisor_sound second few)

-- a second operand is no deeper than what is saved for it
inner_depth : {A : Type 0} (second : Expression A) → depth second ≤ saved_for second (depth second)
inner_depth (Literal literal) = omega arith
inner_depth (Column column) = omega arith
inner_depth (Negated' p inner) = omega arith
inner_depth (Combined' operator p first q second) = omega arith

known_sound : {A : Type 0} (expression : Expression A) → depth expression ≤ 3 → IsSound (is_known expression)
known_sound (Literal literal) few = tt
known_sound (Column column) few = has_value_sound column
known_sound (Negated' p inner) few = known_sound inner few
known_sound (Combined' operator p first q second) few =
    let inner = inner_depth second in (
      known_sound first (omega arith),
      second_sound operator second (is_known second) (omega arith) (known_sound second (omega arith)),
    )

compares_numbers_sound : {A : Type 0} (first : Expression A) (comparison : Comparison) (second : Expression A)
    → depth first ≤ 3 → saved_for second (depth second) ≤ 3 → IsSound (compares_numbers first comparison second)
compares_numbers_sound first comparison second few fewer =
    let inner = inner_depth second in (
      known_sound first few,
      (known_sound second (omega arith), zero_sound _ _ comparison (difference_sound first second few fewer)),
    )

-- a second operand needs at most one saved number more than its depth
saved_depth : {A : Type 0} (second : Expression A) → saved_for second (depth second) ≤ suc (depth second)
saved_depth (Literal literal) = omega arith
saved_depth (Column column) = omega arith
saved_depth (Negated' p inner) = omega arith
saved_depth (Combined' operator p first q second) = omega arith

pub exact_sound : {A : Type 0} (first : Expression A) (comparison : Comparison) (second : Expression A) → IsTrue (is_exact first)
    → IsTrue (is_exact second) → IsSound (compares_numbers first comparison second)
exact_sound first comparison second exact exact_too =
    let few = exact_depth first exact in
    let fewer = exact_depth second exact_too in
    let saved = saved_depth second in
    compares_numbers_sound first comparison second (omega arith) (omega arith)
