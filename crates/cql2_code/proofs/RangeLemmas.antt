-- Questions about ranges answer whether a house number lies on a side of one of them.
use Rattle.std.proofs.Common.{◌≡◌, ℕ, zero, suc, ◌+◌, ◌*◌, ◌<◌, ◌≤◌, ◌^◌, pos, nat_lt, Bool, true, false, ◌||◌, length, take, drop}
use Rattle.std.proofs.Common.{slice_get, Option, Some, None, refl, ap, ◌∙◌, arith}
use Rattle.std.specs.Bool.{beq}
use Rattle.std.specs.List.{list_any}
use Rattle.std.proofs.lemmas.List.{take_all}
use Rattle.bpf_helpers.specs.Meaning.{sides, truth as number_of_truth}
use Rattle.bpf_insn.specs.Arithmetic.{condition_holds}
use Rattle.bpf_insn.specs.declared.instruction.Width.TheVariants.{Bits64}
use Rattle.tl_segments.specs.Range.{lies_on}
use Rattle.tl_segments.specs.Segment.{SegmentParts, IsSegment, ranges_of}
use Rattle.tl_segments.specs.declared.range.RangeFields.{RangeFields}
use Rattle.tl_segments.specs.declared.limits.TheConstants.{MAX_RANGES}
use Rattle.cql2.specs.Function.{has_number}
use Rattle.cql2.specs.Truth.{is as is_truth}
use Rattle.cql2.specs.declared.filter.Comparison.TheVariants.{Greater, NotEqual}
use Rattle.cql2_code.specs.Columns.{test}
use Rattle.cql2_code.specs.Function.{asks_has_number, checks_for_end, lies_from}
use Rattle.cql2_code.specs.Question.{answer, condition_of}
use Rattle.cql2_code.specs.declared.question.Subject.TheVariants.{InRange, Ranges}
use Rattle.cql2_code.proofs.JoinLemmas.{asked_answers}
use Rattle.cql2_code.proofs.NumberLemmas.{compared, small_fits}
use Rattle.cql2_code.proofs.PartLemmas.{part_asked, passes}

some_side : (left right : Bool)
    → condition_holds (condition_of NotEqual) Bits64 (number_of_truth left + 2 * number_of_truth right) 0 ≡ (left || right)
some_side true true = refl
some_side true false = refl
some_side false true = refl
some_side false false = refl

side_found : (house : ℕ) (range : Option RangeFields)
    → condition_holds (condition_of NotEqual) Bits64 (sides house range) 0 ≡ passes (has_number house) range
side_found house None = refl
side_found house (Some range) = some_side (lies_on house range.fraddl range.toaddl) (lies_on house range.fraddr range.toaddr)

module _ (segment : SegmentParts) (is : IsSegment segment) where
  ranges_answer : (at : ℕ) → at < 2 ^ 62 → answer (test Ranges Greater (pos at)) segment ≡ nat_lt at (length (ranges_of segment))
  ranges_answer at small =
      let few = is.few_ranges in
      compared Greater (pos (length (ranges_of segment))) (pos at) (small_fits _ (omega arith)) (small_fits at (omega arith))

  -- it lies on a range with this index or a later one
  lies_found : (house at more : ℕ) → at + more ≤ 2 ^ 62
      → answer (lies_from house at more) segment ≡ list_any (has_number house) (take more (drop at (ranges_of segment)))
  unfolding lies_from
  lies_found house at zero small = refl
  lies_found house at (suc more) small =
      part_asked (has_number house) (ranges_of segment) at more segment (record {
        inside = test Ranges Greater (pos at);
        here = test (InRange at house) NotEqual (pos 0);
        rest = lies_from house (at + 1) more;
        inside_is = ranges_answer at (omega arith);
        here_is = side_found house (slice_get (ranges_of segment) at);
        rest_is = lies_found house (at + 1) more (omega arith);
      }) (checks_for_end at)

  lies_on_some : (house count : ℕ) → length (ranges_of segment) ≤ count → count ≤ 2 ^ 62
      → answer (lies_from house 0 count) segment ≡ list_any (has_number house) (ranges_of segment)
  lies_on_some house count few small =
      lies_found house 0 count (omega arith) ∙ ap (list_any (has_number house)) (take_all count (ranges_of segment) few)

  -- a house number, asked for either truth value
  pub has_number_rightly : (house : ℕ) (asked : Bool)
      → answer (asks_has_number house asked) segment ≡ is_truth (Some (list_any (has_number house) (ranges_of segment))) asked
  has_number_rightly house asked =
      let few = is.few_ranges in
      asked_answers (lies_from house 0 (suc MAX_RANGES)) segment asked
      ∙ ap (λ (found : Bool). beq found asked) (lies_on_some house (suc MAX_RANGES) (omega arith) (omega arith))
