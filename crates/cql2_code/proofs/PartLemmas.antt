-- Questions about one part of a segment after another, its names or its ranges, answer whether any part passes a test.
use Rattle.std.proofs.Common.{◌≡◌, ℕ, zero, suc, ◌+◌, nat_lt, Bool, true, false, ◌&&◌, ◌||◌, List, [], ◌∷◌, length, take, drop, slice_get}
use Rattle.std.proofs.Common.{Option, Some, None, if◌then◌else◌, refl, ap, ◌∙◌, arith}
use Rattle.std.specs.List.{list_any}
use Rattle.std.proofs.lemmas.Bool.{lt-ltb}
use Rattle.std.proofs.lemmas.Bool.Decides.{nat_tests}
use Rattle.tl_segments.specs.Segment.{SegmentParts}
use Rattle.cql2_code.specs.Question.{Question, Joined, answer}
use Rattle.cql2_code.proofs.JoinLemmas.{and_false, both_answers, either_answers}

-- the part exists and passes
abbrev pub passes : {X : Type 0} → (X → Bool) → Option X → Bool
passes good None = false
passes good (Some part) = good part

any_none : {X : Type 0} (good : X → Bool) (count : ℕ) → list_any good (take count []) ≡ false
any_none good zero = refl
any_none good (suc count) = refl

-- the part with this index passes, or a later one
any_from : {X : Type 0} (good : X → Bool) (parts : List X) (at more : ℕ)
    → (passes good (slice_get parts at) || list_any good (take more (drop (suc at) parts)))
    ≡ list_any good (take (suc more) (drop at parts))
any_from good [] zero more = any_none good more
any_from good [] (suc at) more = any_none good more
any_from good (part ∷ parts) zero more = refl
any_from good (part ∷ parts) (suc at) more = any_from good parts at more

less_more : (m n : ℕ) → nat_lt (suc m) (suc n) ≡ nat_lt m n
less_more m n = grind (arith, nat_tests)

-- no part after the last one passes
any_past : {X : Type 0} (good : X → Bool) (parts : List X) (at more : ℕ)
    → (nat_lt at (length parts) && list_any good (take (suc more) (drop at parts))) ≡ list_any good (take (suc more) (drop at parts))
any_past good [] zero more = refl
any_past good [] (suc at) more = and_false (nat_lt (suc at) 0)
any_past good (part ∷ parts) zero more =
    ap (λ (inside : Bool). inside && list_any good (part ∷ take more parts)) (lt-ltb 0 (suc (length parts)) (omega arith))
any_past good (part ∷ parts) (suc at) more =
    ap (λ (inside : Bool). inside && list_any good (take (suc more) (drop at parts))) (less_more at (length parts))
    ∙ any_past good parts at more

-- three questions: whether the part with this index exists, whether it passes, and whether a later one does
pub record AsksPart {X : Type 0} (good : X → Bool) (parts : List X) (at more : ℕ) (segment : SegmentParts) : Type 0 where
  pub inside : Question
  pub here : Question
  pub rest : Question
  pub inside_is : answer inside segment ≡ nat_lt at (length parts)
  pub here_is : answer here segment ≡ passes good (slice_get parts at)
  pub rest_is : answer rest segment ≡ list_any good (take more (drop (at + 1) parts))

module _ {X : Type 0} (good : X → Bool) (parts : List X) (at more : ℕ) (segment : SegmentParts) where
  part_here : (asks : AsksPart good parts at more segment)
      → answer (Joined false asks.here asks.rest) segment ≡ list_any good (take (suc more) (drop at parts))
  part_here asks =
      let next : at + 1 ≡ suc at = omega arith in
      either_answers asks.here_is asks.rest_is
      ∙ ap (λ (number : ℕ). passes good (slice_get parts at) || list_any good (take more (drop number parts))) next
      ∙ any_from good parts at more

  -- the code may ask first whether the part exists
  pub part_asked : (asks : AsksPart good parts at more segment) (milestone : Bool)
      → answer (if milestone then Joined true asks.inside (Joined false asks.here asks.rest) else Joined false asks.here asks.rest) segment
      ≡ list_any good (take (suc more) (drop at parts))
  part_asked asks true = both_answers asks.inside_is (part_here asks) ∙ any_past good parts at more
  part_asked asks false = part_here asks
