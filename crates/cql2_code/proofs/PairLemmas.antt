-- A comparison of two bytes of the record is sound, and has the answer of a comparison of their values.
use Rattle.std.proofs.Common.{◌≡◌, ℕ, ◌<◌, pos, ◌-ℤ◌, List, get_or, refl, sym, ◌∙◌, subst, arith}
use Rattle.std.specs.Prelude.{FitsSigned}
use Rattle.std.specs.Int.{w64}
use Rattle.bpf_insn.specs.declared.instruction.Insn.{Insn}
use Rattle.tl_segments.specs.Segment.{SegmentParts, IsSegment}
use Rattle.cql2.specs.Filter.{compares}
use Rattle.cql2.specs.declared.expression.Operator.TheVariants.{Subtract}
use Rattle.cql2.specs.declared.filter.Comparison.{Comparison}
use Rattle.cql2_code.specs.BytePairs.{compares_pair, pair_code, pair_word}
use Rattle.cql2_code.specs.Layout.{subject_code}
use Rattle.cql2_code.specs.Question.{answer, value}
use Rattle.cql2_code.specs.declared.question.Chunk.TheVariants.{Byte}
use Rattle.cql2_code.specs.declared.question.Subject.TheVariants.{Load}
use Rattle.cql2_code.proofs.AbstractState.{answered}
use Rattle.cql2_code.proofs.Blocks.{IsSound, keeps_back}
use Rattle.cql2_code.proofs.ByteLemmas.{byte_read}
use Rattle.cql2_code.proofs.ExpressionLemmas.{zero_compares}
use Rattle.cql2_code.proofs.ExpressionPasses.{combined_passes}
use Rattle.cql2_code.proofs.ExpressionRuns.{Computes, combined_runs}
use Rattle.cql2_code.proofs.SavedSteps.{with_saved}
use Rattle.cql2_code.proofs.Loads.{loads}
use Rattle.cql2_code.proofs.NumberLemmas.{small_fits}
use Rattle.cql2_code.proofs.Passes.{all_pass-append, subject_passes}
use Rattle.cql2_code.proofs.SecondOperands.{saved_code_of}
use Rattle.cql2_code.proofs.Steps.{with_0, Scratch, Setting, and_then, no_more, one_more}
use Rattle.cql2_code.proofs.WordLemmas.{IsWord, abs_subtract, difference_compares, fits_by, subtract_is, written}
use Rattle.cql2_code.proofs.ZeroBlocks.{IsSoundCode, zero_sound}

load_computes : (on : Setting) (at level : ℕ) (from : Scratch) → at < 228 → IsSegment on.segment
    → Computes on (subject_code (Load Byte at)) (value (Load Byte at) on.segment) level from
load_computes on at level from within segment = record {
  to = from;
  runs = one_more (loads on from Byte at (let long = segment.bytes.length in omega arith)) no_more;
  keeps = λ lower below. refl;
}

-- the code of the second byte
abbrev back_of : ℕ → List Insn
back_of other = saved_code_of Subtract 0 (subject_code (Load Byte other))

pair_sound_code : (at other : ℕ) → at < 228 → other < 228 → IsSoundCode (pair_code at other) (pair_word at other)
pair_sound_code at other within inside = record {
  rests = λ keeps. refl;
  passes = λ keeps saved.
      all_pass-append keeps (subject_code (Load Byte at)) (back_of other) (answered keeps)
      (subject_passes keeps (Load Byte at) (omega arith))
      (combined_passes keeps Subtract 0 (subject_code (Load Byte other)) refl (λ inner. subject_passes keeps (Load Byte other) (omega arith))
      (keeps_back keeps (subject_code (Load Byte at)) (back_of other) saved));
  runs = λ on segment from.
      let x = value (Load Byte at) on.segment in
      let first = load_computes on at 0 from within segment in
      let both = combined_runs on Subtract 0 (subject_code (Load Byte other)) first.to x (value (Load Byte other) on.segment)
      (load_computes on other 1 (with_saved 0 (with_0 first.to x) x) inside segment) (omega arith) in
      record { to = both.to; runs = and_then first.runs both.runs; keeps = λ lower below. absurd (omega arith) };
}

pub pair_sound : (at : ℕ) (comparison : Comparison) (other : ℕ) → at < 228 → other < 228 → IsSound (compares_pair at comparison other)
pair_sound at comparison other within inside = zero_sound _ _ comparison (pair_sound_code at other within inside)

module _ (segment : SegmentParts) (is : IsSegment segment) where
  byte_word : (at : ℕ) → at < 228 → IsWord (value (Load Byte at) segment) (pos (get_or segment.bytes at 0))
  byte_word at within =
      let below = is.bytes.bytes at in
      subst (λ (word : ℕ). IsWord word (pos (get_or segment.bytes at 0))) (sym (byte_read segment is at within))
      (written (pos (get_or segment.bytes at 0)) (small_fits _ (omega arith)))

  pub pair_answer : (at : ℕ) (comparison : Comparison) (other : ℕ) → at < 228 → other < 228
      → answer (compares_pair at comparison other) segment
      ≡ compares comparison (pos (get_or segment.bytes at 0)) (pos (get_or segment.bytes other 0))
  pair_answer at comparison other within inside =
      let m = get_or segment.bytes at 0 in
      let n = get_or segment.bytes other 0 in
      let below = is.bytes.bytes at in
      let below_too = is.bytes.bytes other in
      let less = abs_subtract (pos m) (pos n) in
      let fits : FitsSigned w64 (pos m -ℤ pos n) = fits_by (pos m -ℤ pos n) 512 (omega arith) (omega arith) in
      zero_compares comparison (pair_word at other segment) (pos m -ℤ pos n) (subtract_is (byte_word at within) (byte_word other inside) fits) fits
      ∙ difference_compares comparison (pos m) (pos n)
