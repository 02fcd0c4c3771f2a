use Rattle.bpf_insn.proofs.EncoderLemmas.{no_words, code_more, writes_code, only_spelling}
use Rattle.bpf_insn.proofs.encoder.encode.Goals as goal

pub loop-instruction-init : goal.loop-instruction-init
loop-instruction-init g c = no_words c.in_ok-bytes.bytes.items c.in_ok-bytes.ensures.items

pub loop-instruction-preserved : goal.loop-instruction-preserved
loop-instruction-preserved g c =
    code_more c.instructions-instruction-items.result.now c.loop-instruction.instruction-index c.write_instruction.new.bytes.items
    c.loop-instruction-test.true c.instruction-item.is c.loop-instruction.invariant c.in_ok-write_instruction.ensures

pub returns-clause-only : goal.returns-clause-only
returns-clause-only g c = λ bytes small is.
    only_spelling c.args.code.now c.loop-instruction.bytes.items bytes
    (writes_code c.args.code.now c.instructions-instruction-items.result.now c.loop-instruction.instruction-index
    c.loop-instruction.bytes.items c.instructions-instruction-items.ensures.value c.loop-instruction-test.false
    c.loop-instruction.invariant)
    small is
