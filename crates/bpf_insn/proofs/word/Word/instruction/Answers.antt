use Rattle.std.proofs.Common.{sym, subst}
use Rattle.bpf_insn.specs.Row.{Fits}
use Rattle.bpf_insn.proofs.RowLemmas.{fits}
use Rattle.bpf_insn.proofs.word.Word.instruction.Goals as goal

pub instruction_of-requires : goal.instruction_of-requires
instruction_of-requires c =
    let is_insn = fits c.row.result c.args.self (sym c.in-None.ensures) in
    record {
      form = record { opcode = c.in-Some.ensures.opcode; fits = subst (λ row. Fits row c.args.self) c.row.ensures is_insn };
      one_word = c.in_default-form.not-WideLoad;
    }
