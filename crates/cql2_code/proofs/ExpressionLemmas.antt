-- The questions about numeric expressions have the answers of a comparison of values.
use Rattle.std.proofs.Common.{◌≡◌, ℕ, ◌+◌, ℤ, pos, neg_ℤ, ◌-ℤ◌, Bool, true, false, not, ◌&&◌}
use Rattle.std.proofs.Common.{Option, Some, None, is_some, option_map, if◌then◌else◌, refl, sym, ap, ◌∙◌, arith}
use Rattle.std.specs.Prelude.{FitsSigned, int_div, int_rem}
use Rattle.std.specs.Int.{w64}
use Rattle.std.specs.Ordering.{int_eq}
use Rattle.std.proofs.lemmas.Bool.{and_parts}
use Rattle.bpf_insn.specs.Arithmetic.{condition_holds, immediate_operand}
use Rattle.bpf_insn.specs.declared.instruction.Width.TheVariants.{Bits64}
use Rattle.tl_segments.specs.Segment.{SegmentParts}
use Rattle.cql2.specs.Expression.{bound, combined, is_bounded, of_both, value_of}
use Rattle.cql2.specs.Filter.{compares}
use Rattle.cql2.specs.Truth.{if_both, is}
use Rattle.cql2.specs.declared.expression.Expression.{Expression}
use Rattle.cql2.specs.declared.expression.Expression.TheVariants.{Literal, Column, Negated', Combined'}
use Rattle.cql2.specs.declared.expression.Operator.{Operator}
use Rattle.cql2.specs.declared.expression.Operator.TheVariants.{Add, Subtract, Multiply, Divide, Remainder}
use Rattle.cql2.specs.declared.filter.Comparison.{Comparison}
use Rattle.cql2.specs.declared.filter.Comparison.TheVariants.{NotEqual}
use Rattle.cql2_code.specs.Expressions.{compares_difference, compares_numbers, difference_word, has_second, is_divisor, is_known, word_of}
use Rattle.cql2_code.specs.Layout.{opposite}
use Rattle.cql2_code.specs.Question.{answer, condition_of, joined}
use Rattle.cql2_code.proofs.JoinLemmas.{is_it, isnt_it, joined_answers}
use Rattle.cql2_code.proofs.NumberLemmas.{compared, has_value_rightly, opposite_compares, small_fits}
use Rattle.cql2_code.proofs.WordLemmas.{IsWord, abs_subtract, difference_compares}
use Rattle.cql2_code.proofs.WordLemmas.{fits_by, subtract_is, word_is}
use Rattle.cql2_code.proofs.ExactWords.{computes_exactly, few, same_number}

-- a value compared with 0
pub zero_compares : (comparison : Comparison) (word : ℕ) (number : ℤ) → IsWord word number → FitsSigned w64 number
    → condition_holds (condition_of comparison) Bits64 word (immediate_operand (pos 0)) ≡ compares comparison number (pos 0)
zero_compares comparison word number held fits =
    ap (λ (n : ℕ). condition_holds (condition_of comparison) Bits64 n (immediate_operand (pos 0))) (word_is held)
    ∙ compared comparison number (pos 0) fits (small_fits 0 (omega arith))

-- whether an expression has a value

divisor_compares : {A : Type 0} (divisor : Expression A) (segment : SegmentParts) → is_bounded divisor ≡ true → (number : ℤ)
    → value_of divisor segment.bytes ≡ Some number
    → condition_holds (condition_of NotEqual) Bits64 (word_of divisor segment) (immediate_operand (pos 0)) ≡ not (int_eq number (pos 0))
divisor_compares divisor segment bounded number found =
    let exact = computes_exactly divisor segment bounded number found in
    let less = few divisor bounded in
    zero_compares NotEqual (word_of divisor segment) number exact.word_is (fits_by number (bound divisor) exact.small (omega arith))

divisor_rightly : {A : Type 0} (divisor : Expression A) (segment : SegmentParts) → is_bounded divisor ≡ true → (number : ℤ)
    → value_of divisor segment.bytes ≡ Some number → answer (is_divisor divisor) segment ≡ not (int_eq number (pos 0))
divisor_rightly (Literal literal) segment bounded number found =
    ap (λ (z : ℤ). not (int_eq z (pos 0))) (same_number literal.number number found)
divisor_rightly {A} (Column column) segment bounded number found = divisor_compares {A = A} (Column column) segment bounded number found
divisor_rightly (Negated' p inner) segment bounded number found = divisor_compares (Negated' p inner) segment bounded number found
divisor_rightly (Combined' operator p first q second) segment bounded number found =
    divisor_compares (Combined' operator p first q second) segment bounded number found

-- an operator has a value with this second operand
abbrev is_operand : Operator → Option ℤ → Bool
is_operand Divide (Some number) = not (int_eq number (pos 0))
is_operand Remainder (Some number) = not (int_eq number (pos 0))
is_operand operator found = is_some found

has_result : (zero : Bool) (number : ℤ) → not zero ≡ is_some (if zero then None else Some number)
has_result true number = refl
has_result false number = refl

has_both : (operator : Operator) (left right : Option ℤ)
    → joined true (is_some left) (is_operand operator right) ≡ is_some (of_both (combined operator) left right)
has_both Add (Some x) (Some y) = refl
has_both Subtract (Some x) (Some y) = refl
has_both Multiply (Some x) (Some y) = refl
has_both Divide (Some x) (Some y) = has_result (int_eq y (pos 0)) (int_div x y)
has_both Remainder (Some x) (Some y) = has_result (int_eq y (pos 0)) (int_rem x y)
has_both Add (Some x) None = refl
has_both Subtract (Some x) None = refl
has_both Multiply (Some x) None = refl
has_both Divide (Some x) None = refl
has_both Remainder (Some x) None = refl
has_both operator None right = refl

-- a divisor that may be missing
divides : (found : Option ℤ) (known divisor : Bool) → known ≡ is_some found
    → ((number : ℤ) → found ≡ Some number → divisor ≡ not (int_eq number (pos 0))) → joined true known divisor ≡ is_operand Divide found
divides None known divisor is right = ap (λ (b : Bool). joined true b divisor) is
divides (Some number) known divisor is right = ap (λ (b : Bool). joined true b divisor) is ∙ right number refl

same_operand : (found : Option ℤ) → is_operand Divide found ≡ is_operand Remainder found
same_operand None = refl
same_operand (Some number) = refl

second_rightly : {A : Type 0} (operator : Operator) (second : Expression A) (segment : SegmentParts) → is_bounded second ≡ true
    → answer (is_known second) segment ≡ is_some (value_of second segment.bytes)
    → answer (has_second operator second (is_known second)) segment ≡ is_operand operator (value_of second segment.bytes)
second_rightly Add second segment bounded known = known ∙ by_value (value_of second segment.bytes)
  where
    by_value : (found : Option ℤ) → is_some found ≡ is_operand Add found
    by_value None = refl
    by_value (Some number) = refl
second_rightly Subtract second segment bounded known = known ∙ by_value (value_of second segment.bytes)
  where
    by_value : (found : Option ℤ) → is_some found ≡ is_operand Subtract found
    by_value None = refl
    by_value (Some number) = refl
second_rightly Multiply second segment bounded known = known ∙ by_value (value_of second segment.bytes)
  where
    by_value : (found : Option ℤ) → is_some found ≡ is_operand Multiply found
    by_value None = refl
    by_value (Some number) = refl
second_rightly Divide second segment bounded known =
    divides (value_of second segment.bytes) _ _ known (divisor_rightly second segment bounded)
second_rightly Remainder second segment bounded known =
    divides (value_of second segment.bytes) _ _ known (divisor_rightly second segment bounded) ∙ same_operand (value_of second segment.bytes)

negated_known : (found : Option ℤ) → is_some found ≡ is_some (option_map neg_ℤ found)
negated_known None = refl
negated_known (Some number) = refl

known_rightly : {A : Type 0} (expression : Expression A) (segment : SegmentParts) → is_bounded expression ≡ true
    → answer (is_known expression) segment ≡ is_some (value_of expression segment.bytes)
known_rightly (Literal literal) segment bounded = refl
known_rightly (Column column) segment bounded = has_value_rightly column segment
known_rightly (Negated' p inner) segment bounded = known_rightly inner segment bounded ∙ negated_known (value_of inner segment.bytes)
known_rightly (Combined' operator p first q second) segment bounded =
    let both = and_parts (is_bounded first) (is_bounded second) (and_parts (is_bounded first && is_bounded second) _ bounded).0 in
    joined_answers true (known_rightly first segment both.0)
    (second_rightly operator second segment both.1 (known_rightly second segment both.1))
    ∙ has_both operator (value_of first segment.bytes) (value_of second segment.bytes)

-- the comparison of two values, each of which may be missing
both_compare : (comparison : Comparison) (left right : Option ℤ) (known others found : Bool) → known ≡ is_some left → others ≡ is_some right
    → ((x y : ℤ) → left ≡ Some x → right ≡ Some y → found ≡ compares comparison x y)
    → joined true known (joined true others found) ≡ is (if_both (compares comparison) left right) true
both_compare comparison None right known others found one two right_so = ap (λ (b : Bool). joined true b (joined true others found)) one
both_compare comparison (Some x) None known others found one two right_so =
    ap (λ (b : Bool). joined true b (joined true others found)) one ∙ ap (λ (b : Bool). joined true b found) two
both_compare comparison (Some x) (Some y) known others found one two right_so =
    ap (λ (b : Bool). joined true b (joined true others found)) one ∙ ap (λ (b : Bool). joined true b found) two ∙ right_so x y refl refl
    ∙ is_it (compares comparison x y)

opposite_of_both : (comparison : Comparison) (left right : Option ℤ)
    → is (if_both (compares (opposite comparison)) left right) true ≡ is (if_both (compares comparison) left right) false
opposite_of_both comparison None right = refl
opposite_of_both comparison (Some x) None = refl
opposite_of_both comparison (Some x) (Some y) = sym (is_it _) ∙ opposite_compares comparison x y ∙ isnt_it (compares comparison x y)

module _ {A : Type 0} (first second : Expression A) (segment : SegmentParts) (bounded : is_bounded first ≡ true)
    (bounded_too : is_bounded second ≡ true) where
  difference_rightly : (comparison : Comparison) (x y : ℤ) → value_of first segment.bytes ≡ Some x → value_of second segment.bytes ≡ Some y
      → answer (compares_difference first comparison second) segment ≡ compares comparison x y
  difference_rightly comparison x y found found_too =
      let one = computes_exactly first segment bounded x found in
      let two = computes_exactly second segment bounded_too y found_too in
      let less = few first bounded in
      let less_too = few second bounded_too in
      let sum = abs_subtract x y in
      let below = one.small in
      let below_too = two.small in
      let fits : FitsSigned w64 (x -ℤ y) = fits_by (x -ℤ y) (bound first + bound second) (omega arith) (omega arith) in
      zero_compares comparison (difference_word first second segment) (x -ℤ y) (subtract_is one.word_is two.word_is fits) fits
      ∙ difference_compares comparison x y

  compares_rightly : (comparison : Comparison) → answer (compares_numbers first comparison second) segment
      ≡ is (if_both (compares comparison) (value_of first segment.bytes) (value_of second segment.bytes)) true
  compares_rightly comparison =
      both_compare comparison (value_of first segment.bytes) (value_of second segment.bytes) _ _ _ (known_rightly first segment bounded)
      (known_rightly second segment bounded_too) (difference_rightly comparison)

  -- a comparison of two expressions, asked for either truth value
  pub compares_numbers_rightly : (comparison : Comparison) (asked : Bool)
      → answer (compares_numbers first (if asked then comparison else opposite comparison) second) segment
      ≡ is (if_both (compares comparison) (value_of first segment.bytes) (value_of second segment.bytes)) asked
  compares_numbers_rightly comparison true = compares_rightly comparison
  compares_numbers_rightly comparison false =
      compares_rightly (opposite comparison) ∙ opposite_of_both comparison (value_of first segment.bytes) (value_of second segment.bytes)
