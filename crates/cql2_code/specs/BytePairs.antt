-- The code that compares two bytes of the record, by their difference.
use Rattle.std.specs.Prelude.{ℕ, List, ◌∷◌, ◌++◌}
use Rattle.bpf_insn.specs.Arithmetic.{result_of}
use Rattle.bpf_insn.specs.declared.instruction.Insn.{Insn}
use Rattle.bpf_insn.specs.declared.instruction.Operation.TheVariants as operation
use Rattle.bpf_insn.specs.declared.instruction.Width.TheVariants.{Bits64}
use Rattle.cql2.specs.declared.expression.Operator.TheVariants.{Subtract}
use Rattle.cql2.specs.declared.filter.Comparison.{Comparison}
use Rattle.tl_segments.specs.Segment.{SegmentParts}
use Rattle.cql2_code.specs.Expressions.{combine_saved, compares_zero}
use Rattle.cql2_code.specs.Layout.{copy, from_result, into_saved, subject_code}
use Rattle.cql2_code.specs.Question.{Question, Coded, value}
use Rattle.cql2_code.specs.declared.question.Chunk.TheVariants.{Byte}
use Rattle.cql2_code.specs.declared.question.Subject.TheVariants.{Load}

abbrev pub pair_code : ℕ → ℕ → List Insn
pair_code at other =
    subject_code (Load Byte at)
    ++ copy (into_saved 0) from_result ∷ (subject_code (Load Byte other) ++ combine_saved Subtract 0)

abbrev pub pair_word : ℕ → ℕ → SegmentParts → ℕ
pair_word at other segment = result_of operation.Subtract Bits64 (value (Load Byte at) segment) (value (Load Byte other) segment)

-- a byte compared with another
abbrev pub compares_pair : ℕ → Comparison → ℕ → Question
compares_pair at comparison other = Coded (compares_zero (pair_code at other) (pair_word at other) comparison)
