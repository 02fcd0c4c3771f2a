-- A block that compares a number with 0 is sound if the code that computes the number is.
use Rattle.std.proofs.Common.{◌≡◌, ℕ, ◌+◌, pos, Bool, List, ◌++◌, if◌then◌else◌, ap, ◌∙◌, subst, arith}
use Rattle.bpf_insn.specs.Arithmetic.{condition_holds, immediate_operand}
use Rattle.bpf_insn.specs.Code.{word_count}
use Rattle.bpf_insn.specs.declared.instruction.Insn.{Insn}
use Rattle.bpf_insn.specs.declared.instruction.Source.TheVariants.{Immediate}
use Rattle.bpf_insn.specs.declared.instruction.Width.TheVariants.{Bits64}
use Rattle.bpf_insn.proofs.PlaceLemmas.{word_count-append}
use Rattle.tl_segments.specs.Segment.{SegmentParts, IsSegment}
use Rattle.cql2.specs.declared.filter.Comparison.{Comparison}
use Rattle.cql2_code.specs.Expressions.{compares_zero}
use Rattle.cql2_code.specs.Layout.{comparison_code, opposite}
use Rattle.cql2_code.specs.Question.{condition_of}
use Rattle.cql2_code.proofs.AbstractState.{answered, resting}
use Rattle.cql2_code.proofs.Accepted.{comparison_good, comparison_needs}
use Rattle.cql2_code.proofs.Blocks.{IsSoundBlock, Keeps, Settled, keeps_front}
use Rattle.cql2_code.proofs.Codes.{second_placed}
use Rattle.cql2_code.proofs.ExpressionRuns.{Computes}
use Rattle.cql2_code.proofs.Good.{AreGoodAt, Rests, all_good, good-append, needs_at}
use Rattle.cql2_code.proofs.Leads.{Arrives, IsAt, Leads, exit_of}
use Rattle.cql2_code.proofs.NumberLemmas.{small_fits}
use Rattle.cql2_code.proofs.Passes.{AllPass, needed_by, needed_by-append}
use Rattle.cql2_code.proofs.Runs.{skip_leads, taken_to}
use Rattle.cql2_code.proofs.Steps.{with_0, Begins, Scratch, Setting, and_on, begins_at, branches_on_immediate, has_front, running}

-- a code computes a number in register 0, and needs nothing more
pub record IsSoundCode (code : List Insn) (number : SegmentParts → ℕ) : Type 0 where
  pub rests : (keeps : Bool) → needed_by keeps code (answered keeps) ≡ resting keeps
  pub passes : (keeps : Bool) → Keeps keeps code → AllPass keeps code (answered keeps)
  pub runs : (on : Setting) → IsSegment on.segment → (from : Scratch) → Computes on code (number on.segment) 0 from

module _ (code : List Insn) (number : SegmentParts → ℕ) (comparison : Comparison) (sound : IsSoundCode code number) where
  -- the comparison of the jump, by the answer that falls through
  abbrev jumping : Bool → Comparison
  jumping falls = if falls then opposite comparison else comparison

  abbrev back_code : Bool → ℕ → List Insn
  back_code falls skip = comparison_code (jumping falls) (pos 0) skip

  zero_needs : (keeps falls : Bool) (skip : ℕ) → needed_by keeps (code ++ back_code falls skip) (resting keeps) ≡ resting keeps
  zero_needs keeps falls skip =
      needed_by-append keeps code (back_code falls skip) (resting keeps)
      ∙ ap (needed_by keeps code) (comparison_needs keeps (jumping falls) (pos 0) skip) ∙ sound.rests keeps

  zero_good : (keeps : Bool) (whole : List Insn) (falls : Bool) (skip place : ℕ) → Keeps keeps (code ++ back_code falls skip)
      → Settled keeps whole place (code ++ back_code falls skip) skip → AreGoodAt keeps whole place (code ++ back_code falls skip)
  zero_good keeps whole falls skip place saved placed =
      let back = back_code falls skip in
      let after = second_placed (Rests keeps whole) whole place code back skip placed in
      let needs = needs_at keeps whole (place + word_count code) back (resting keeps) after.has after.end.needs
      ∙ comparison_needs keeps (jumping falls) (pos 0) skip in
      good-append keeps whole place code back
      (all_good keeps whole place code (answered keeps) (has_front whole place code back placed.has) needs
      (sound.passes keeps (keeps_front keeps code back saved)))
      (comparison_good keeps whole (place + word_count code) (jumping falls) (pos 0) skip (small_fits 0 (omega arith)) after)

  zero_leads : (on : Setting) (falls : Bool) (skip place : ℕ) → IsSegment on.segment → IsAt on.code place (code ++ back_code falls skip) skip
      → Leads on place
      (exit_of falls (condition_holds (condition_of comparison) Bits64 (number on.segment) (immediate_operand (pos 0)))
      (place + word_count (code ++ back_code falls skip)) skip)
  zero_leads on falls skip place segment placed scratch =
      let count = word_count-append code back in
      let e : place + word_count code + word_count back ≡ place + word_count (code ++ back) = omega arith in
      let there = subst (Arrives on (running on held (place + word_count code)))
      (ap (λ (end : ℕ). if is_taken then end + skip else end) e
      ∙ taken_to comparison falls (number on.segment) (immediate_operand (pos 0)) (place + word_count (code ++ back)) skip)
      (skip_leads on held (Immediate (pos 0)) (number on.segment) (immediate_operand (pos 0))
      (branches_on_immediate on first.to (number on.segment) (pos 0)) (jumping falls) skip (place + word_count code) after) in
      record {
        scratch = there.scratch;
        reaches = and_on on _ (running on held (place + word_count code)) _
            (first.runs.reaches place (has_front on.code place code back placed.has)
            (begins_at on.code (place + word_count code) back after.has after.end)) there.reaches;
      }
    where
      back : List Insn
      back = back_code falls skip

      after : IsAt on.code (place + word_count code) back skip
      after = second_placed (Begins on.code) on.code place code back skip placed

      first : Computes on code (number on.segment) 0 scratch
      first = sound.runs on segment scratch

      held : Scratch
      held = with_0 first.to (number on.segment)

      is_taken : Bool
      is_taken = condition_holds (condition_of (jumping falls)) Bits64 (number on.segment) (immediate_operand (pos 0))

  pub zero_sound : IsSoundBlock (compares_zero code number comparison)
  zero_sound = record { needs = zero_needs; good = zero_good; leads = zero_leads }
