-- Instructions that are skipped if comparisons hold.
use Rattle.std.specs.Prelude.{ℕ, pos, List, ◌∷◌}
use Rattle.bpf_insn.specs.Code.{word_count}
use Rattle.bpf_insn.specs.declared.instruction.Insn.{Insn}
use Rattle.bpf_insn.specs.declared.instruction.Insn.TheVariants.{JumpIf}
use Rattle.bpf_insn.specs.declared.instruction.Source.{Source}
use Rattle.bpf_insn.specs.declared.instruction.Width.TheVariants.{Bits64}
use Rattle.bpf_insn.specs.declared.register.Register.{Register}
use Rattle.cql2.specs.declared.filter.Comparison.{Comparison}
use Rattle.cql2_code.specs.Layout.{opposite}
use Rattle.cql2_code.specs.Question.{condition_of}

-- a comparison of a register with an operand
pub record Compared : Type 0 where
  pub comparison : Comparison
  pub left : Register
  pub right : Source

-- a jump past the next words if the comparison holds
abbrev pub skip : Compared → ℕ → Insn
skip compared words = JumpIf (condition_of compared.comparison) Bits64 compared.left compared.right (pos words)

-- the comparison that holds exactly if this one doesn't
abbrev pub turned : Compared → Compared
turned compared = record compared { comparison = opposite compared.comparison }

abbrev pub unless : Compared → List Insn → List Insn
unless compared part = skip compared (word_count part) ∷ part

abbrev pub unless_both : Compared → Compared → List Insn → List Insn
unless_both first second part = skip (turned first) 1 ∷ unless second part
