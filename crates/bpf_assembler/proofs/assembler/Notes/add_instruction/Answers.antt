use Rattle.std.proofs.Common.{ℕ, refl, ap, arith}
use Rattle.bpf_assembler.specs.Statement.{Instruction}
use Rattle.bpf_assembler.specs.View.{name_view}
use Rattle.bpf_assembler.specs.Text.{item}
use Rattle.bpf_assembler.proofs.NoteLemmas.{noted-instruction, faultless-instruction}
use Rattle.bpf_assembler.proofs.assembler.Notes.add_instruction.Goals as goal

pub returns-clause-noted : goal.returns-clause-noted
returns-clause-noted g c = λ before notes line.
    let target = name_view c.args.target in
    let words = c.args.self.now.words in
    let numbered = ap (λ (n : ℕ). item n words c.args.insn target) line in (
      Instruction c.args.insn target,
      refl,
      faultless-instruction before c.args.insn target
          (omega (arith, notes.words_are, c.words-words.ensures)),
      rw (c.in_ok-push.ensures.items, c.words-words.ensures)
          (noted-instruction _ c.args.insn target notes numbered),
    )
