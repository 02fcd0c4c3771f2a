-- A byte of the record that is loaded once and compared with several bytes.
use Rattle.std.specs.Prelude.{ℕ, ◌==◌, Bool, false, List, [], ◌∷◌, ◌++◌, pos, if◌then◌else◌}
use Rattle.std.specs.List.{list_any}
use Rattle.bpf_insn.specs.Code.{word_count}
use Rattle.bpf_insn.specs.declared.instruction.Insn.{Insn}
use Rattle.bpf_insn.specs.declared.instruction.Source.TheVariants.{Immediate}
use Rattle.cql2.specs.declared.filter.Comparison.TheVariants.{Equal, NotEqual}
use Rattle.cql2_code.specs.Layout.{first_skip, load, skip_if}
use Rattle.cql2_code.specs.Question.{Block, value}
use Rattle.cql2_code.specs.declared.question.Chunk.TheVariants.{Byte}
use Rattle.cql2_code.specs.declared.question.Subject.TheVariants.{Load}

-- the comparisons of the byte in register 0 with a byte and others: each but the last one jumps if the bytes are the same
abbrev pub comparisons : ℕ → List ℕ → Bool → ℕ → List Insn
comparisons byte [] falls skip = skip_if (if falls then NotEqual else Equal) (Immediate (pos byte)) skip
comparisons byte (next ∷ bytes) falls skip =
    let rest = comparisons next bytes falls skip in
    skip_if Equal (Immediate (pos byte)) (first_skip falls false (word_count rest) skip) ++ rest

-- the byte at an offset is this byte or one of the others
abbrev pub among : ℕ → ℕ → List ℕ → Block
among at byte bytes = record {
  code = λ falls skip. load Byte at ∷ comparisons byte bytes falls skip;
  answer = λ segment. list_any (λ other. value (Load Byte at) segment == other) (byte ∷ bytes);
}
