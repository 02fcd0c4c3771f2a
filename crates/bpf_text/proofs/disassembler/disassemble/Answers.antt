use Rattle.bpf_text.proofs.RoundTripLemmas.{text-means-all, read-back-next, text-next}
use Rattle.bpf_text.proofs.ReadRowLemmas.{read-back}
use Rattle.bpf_text.proofs.disassembler.disassemble.Goals as goal

pub returns-clause-means : goal.returns-clause-means
returns-clause-means g c =
    text-means-all c.loop-insn.insn-index c.loop-insn.invariant.written c.loop-insn.invariant.read c.loop-insn-test.false
    c.instructions-instructions.ensures.value c.words.ensures.sized

pub loop-insn-preserved : goal.loop-insn-preserved
loop-insn-preserved g c =
    let code = c.instructions-instructions.result.now in
    let i = c.loop-insn.insn-index in
    record {
      written = text-next code i c.loop-insn-test.true c.insn-item.is c.loop-insn.invariant.written c.in_ok-push_line.ensures.text;
      read = read-back-next code i c.insn-item.result c.loop-insn-test.true c.insn-item.is c.loop-insn.invariant.read
          (read-back c.insn-item.result c.in_ok-push_line.ensures.fits);
    }
