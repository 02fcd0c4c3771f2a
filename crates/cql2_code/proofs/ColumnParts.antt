-- The questions about the texts in two fields, by the fields' lengths.
use Rattle.std.proofs.Common.{◌≡◌, ℕ, zero, suc, ◌+◌, ◌-◌, ◌<◌, true, false, ap, ◌∙◌, arith}
use Rattle.cql2.specs.declared.filter.Comparison.TheVariants.{Equal, Less}
use Rattle.cql2_code.specs.BytePairs.{compares_pair}
use Rattle.cql2_code.specs.Lowering.{is_blank, is_less_field, is_same_field}
use Rattle.cql2_code.specs.Question.{Joined, Opposite, Question}

pub same_with_both : (at left other more : ℕ) → 0 < left → 0 < more → is_same_field at left other more
    ≡ Joined true (compares_pair at Equal other) (is_same_field (at + 1) (left - 1) (other + 1) (more - 1))
same_with_both at zero other more some some_too = absurd (omega arith)
same_with_both at (suc left) other zero some some_too = absurd (omega arith)
same_with_both at (suc left) other (suc more) some some_too =
    let less : left ≡ suc left - 1 = omega arith in
    let less_too : more ≡ suc more - 1 = omega arith in
    ap (λ (n : ℕ). Joined true (compares_pair at Equal other) (is_same_field (at + 1) n (other + 1) more)) less
    ∙ ap (λ (n : ℕ). Joined true (compares_pair at Equal other) (is_same_field (at + 1) (suc left - 1) (other + 1) n)) less_too

-- the question about fields that are not empty, by the question about their rests
abbrev less_by : ℕ → ℕ → ℕ → ℕ → Question → Question
less_by at left other more rest =
    Joined true (Opposite (is_blank other more))
    (Joined false (is_blank at left) (Joined false (compares_pair at Less other) (Joined true (compares_pair at Equal other) rest)))

pub less_with_both : (at left other more : ℕ) → 0 < left → 0 < more → is_less_field at left other more
    ≡ Joined true (Opposite (is_blank other more))
    (Joined false (is_blank at left)
    (Joined false (compares_pair at Less other)
    (Joined true (compares_pair at Equal other) (is_less_field (at + 1) (left - 1) (other + 1) (more - 1)))))
less_with_both at zero other more some some_too = absurd (omega arith)
less_with_both at (suc left) other zero some some_too = absurd (omega arith)
less_with_both at (suc left) other (suc more) some some_too =
    let less : left ≡ suc left - 1 = omega arith in
    let less_too : more ≡ suc more - 1 = omega arith in
    ap (λ (n : ℕ). less_by at (suc left) other (suc more) (is_less_field (at + 1) n (other + 1) more)) less
    ∙ ap (λ (n : ℕ). less_by at (suc left) other (suc more) (is_less_field (at + 1) (suc left - 1) (other + 1) n)) less_too
