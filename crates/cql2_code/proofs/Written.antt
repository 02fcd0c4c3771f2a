-- Code that is written back to front.
use Rattle.std.proofs.Common.{◌≡◌, ℕ, ◌-◌, Bool, true, false, not, if◌then◌else◌, Some, List, ◌++◌, sym, ap, ◌∙◌, arith}
use Rattle.std.proofs.Common.{append_assoc, subst}
use Rattle.bpf_insn.proofs.PlaceLemmas.{word_count-append}
use Rattle.bpf_insn.specs.Code.{word_count}
use Rattle.bpf_insn.specs.declared.instruction.Insn.{Insn}
use Rattle.cql2_code.specs.Layout.{IsBefore, Writes, first_skip, question_code}
use Rattle.cql2_code.specs.Lowering.{WritesBefore, if_asked}
use Rattle.cql2_code.specs.Question.{Question, Joined, Opposite}
use Rattle.cql2_code.specs.declared.question.Exits.{Exits}
use Rattle.cql2_code.proofs.Operands.{not_not}

module _ {neutral : Bool} {first second : Question} {exits before : Exits} {old middle new : List Insn} {words : ℕ} where
  -- the second of two questions was written, and then the first one, with the exits it has before the second
  pub joined : words ≡ word_count old → Writes second exits old middle → IsBefore neutral exits before (word_count middle - words)
      → Writes first before middle new → Writes (Joined neutral first second) exits old new
  joined counted last at front =
      let all = ap word_count last.code ∙ word_count-append code old in
      let count : word_count middle - words ≡ word_count code = omega arith in
      record {
        code = front.code
            ∙ ap (λ (falls : Bool). question_code first falls before.skip ++ middle) at.falls
            ∙ ap (λ (skip : ℕ). question_code first neutral skip ++ middle)
            (at.skip ∙ ap (λ (words : ℕ). first_skip exits.falls neutral words exits.skip) count)
            ∙ ap (λ (rest : List Insn). question_code first neutral (first_skip exits.falls neutral (word_count code) exits.skip) ++ rest)
            last.code
            ∙ sym (append_assoc (question_code first neutral (first_skip exits.falls neutral (word_count code) exits.skip)) code old);
      }
    where
      code : List Insn
      code = question_code second exits.falls exits.skip

-- an opposite is written as its question, with the other exit falling through
pub opposite_written : {question : Question} {exits other : Exits} {old new : List Insn}
    → other.falls ≡ not exits.falls → other.skip ≡ exits.skip → Writes question other old new → Writes (Opposite question) exits old new
opposite_written {question} {exits} {other} {old} {new} falls skip written = record {
  code = written.code
      ∙ ap (λ (b : Bool). question_code question b other.skip ++ old) falls
      ∙ ap (λ (n : ℕ). question_code question (not exits.falls) n ++ old) skip;
}

pub written_as : {question other : Question} {exits : Exits} {old new : List Insn} → question ≡ other
    → Writes question exits old new → Writes other exits old new
written_as {question} {other} {exits} {old} {new} same written = subst (λ (q : Question). Writes q exits old new) same written

module _ {question : Question} {exits other : Exits} {old new : List Insn} where
  -- a question or its opposite is written as the question, with the exits that follow from it
  pub asked_written : (asked : Bool) → other.falls ≡ (if asked then exits.falls else not exits.falls) → other.skip ≡ exits.skip
      → Writes question other old new → Writes (if_asked question asked) exits old new
  asked_written true falls skip written = record {
    code = written.code
        ∙ ap (λ (b : Bool). question_code question b other.skip ++ old) falls
        ∙ ap (λ (n : ℕ). question_code question exits.falls n ++ old) skip;
  }
  asked_written false falls skip written = opposite_written falls skip written

  -- the opposite of a question, or its own opposite, is written as the question
  pub null_written : (asked : Bool) → other.falls ≡ (if not asked then exits.falls else not exits.falls) → other.skip ≡ exits.skip
      → Writes question other old new → Writes (if_asked (Opposite question) asked) exits old new
  null_written true falls skip written = opposite_written falls skip written
  null_written false falls skip written = record {
    code = written.code
        ∙ ap (λ (b : Bool). question_code question b other.skip ++ old) (falls ∙ sym (not_not exits.falls))
        ∙ ap (λ (n : ℕ). question_code question (not (not exits.falls)) n ++ old) skip;
  }

-- once the second question is written, the first one can be written before it
pub before_second : {second : Question} {exits first : Exits} {old new : List Insn} {words : ℕ}
    → words ≡ word_count old → Writes second exits old new → IsBefore true exits first (word_count new - words)
    → WritesBefore (Some second) exits first old new
before_second counted last at = λ required all front. joined counted last at front
