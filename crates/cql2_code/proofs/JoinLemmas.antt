-- The answers of joined questions follow the truth tables of AND, OR and NOT.
use Rattle.std.proofs.Common.{◌≡◌, Bool, true, false, not, ◌&&◌, ◌||◌, Option, Some, None, refl, ap, ◌∙◌}
use Rattle.std.specs.Bool.{beq}
use Rattle.tl_segments.specs.Segment.{SegmentParts}
use Rattle.cql2.specs.Truth.{and, is, negation, or}
use Rattle.cql2_code.specs.Question.{if_asked}
use Rattle.cql2_code.specs.Question.{Question, answer, joined}

-- AND and OR, asked for either truth value

pub and_joins : (first second : Option Bool) (asked : Bool)
    → joined asked (is first asked) (is second asked) ≡ is (and first second) asked
and_joins (Some true) (Some true) true = refl
and_joins (Some true) (Some false) true = refl
and_joins (Some true) None true = refl
and_joins (Some false) (Some true) true = refl
and_joins (Some false) (Some false) true = refl
and_joins (Some false) None true = refl
and_joins None (Some true) true = refl
and_joins None (Some false) true = refl
and_joins None None true = refl
and_joins (Some true) (Some true) false = refl
and_joins (Some true) (Some false) false = refl
and_joins (Some true) None false = refl
and_joins (Some false) (Some true) false = refl
and_joins (Some false) (Some false) false = refl
and_joins (Some false) None false = refl
and_joins None (Some true) false = refl
and_joins None (Some false) false = refl
and_joins None None false = refl

pub or_joins : (first second : Option Bool) (asked : Bool)
    → joined (not asked) (is first asked) (is second asked) ≡ is (or first second) asked
or_joins (Some true) (Some true) true = refl
or_joins (Some true) (Some false) true = refl
or_joins (Some true) None true = refl
or_joins (Some false) (Some true) true = refl
or_joins (Some false) (Some false) true = refl
or_joins (Some false) None true = refl
or_joins None (Some true) true = refl
or_joins None (Some false) true = refl
or_joins None None true = refl
or_joins (Some true) (Some true) false = refl
or_joins (Some true) (Some false) false = refl
or_joins (Some true) None false = refl
or_joins (Some false) (Some true) false = refl
or_joins (Some false) (Some false) false = refl
or_joins (Some false) None false = refl
or_joins None (Some true) false = refl
or_joins None (Some false) false = refl
or_joins None None false = refl

pub not_exchanges : (truth : Option Bool) (asked : Bool) → is truth (not asked) ≡ is (negation truth) asked
not_exchanges (Some true) true = refl
not_exchanges (Some false) true = refl
not_exchanges None true = refl
not_exchanges (Some true) false = refl
not_exchanges (Some false) false = refl
not_exchanges None false = refl

-- laws about tests

pub is_it : (found : Bool) → found ≡ beq found true
is_it true = refl
is_it false = refl

pub isnt_it : (found : Bool) → not found ≡ beq found false
isnt_it true = refl
isnt_it false = refl

pub not_not : (found : Bool) → not (not found) ≡ found
not_not true = refl
not_not false = refl

pub and_assoc : (a b c : Bool) → (a && (b && c)) ≡ (a && b && c)
and_assoc true b c = refl
and_assoc false b c = refl

pub and_twice : (a b : Bool) → (a && (a && b)) ≡ (a && b)
and_twice true b = refl
and_twice false b = refl

pub and_true : (a : Bool) → (a && true) ≡ a
and_true true = refl
and_true false = refl

pub and_false : (a : Bool) → (a && false) ≡ false
and_false true = refl
and_false false = refl

pub and_swap : (a b : Bool) → (a && b) ≡ (b && a)
and_swap true true = refl
and_swap true false = refl
and_swap false true = refl
and_swap false false = refl

-- joined with neutral answer yes: both; with no: either
pub joins_both : (first second : Bool) → joined true first second ≡ (first && second)
joins_both true second = refl
joins_both false second = refl

pub joins_either : (first second : Bool) → joined false first second ≡ (first || second)
joins_either true second = refl
joins_either false second = refl

-- the answers of two joined questions, from the answers of each
pub joined_answers : (neutral : Bool) {a b c d : Bool} → a ≡ b → c ≡ d → joined neutral a c ≡ joined neutral b d
joined_answers neutral {b = b} {c = c} first second = ap (λ (x : Bool). joined neutral x c) first ∙ ap (joined neutral b) second

pub both_answers : {a b c d : Bool} → a ≡ b → c ≡ d → joined true a c ≡ (b && d)
both_answers {b = b} {d = d} first second = joined_answers true first second ∙ joins_both b d

pub either_answers : {a b c d : Bool} → a ≡ b → c ≡ d → joined false a c ≡ (b || d)
either_answers {b = b} {d = d} first second = joined_answers false first second ∙ joins_either b d

pub asked_answers : (question : Question) (segment : SegmentParts) (asked : Bool)
    → answer (if_asked question asked) segment ≡ beq (answer question segment) asked
asked_answers question segment true = is_it (answer question segment)
asked_answers question segment false = isnt_it (answer question segment)
