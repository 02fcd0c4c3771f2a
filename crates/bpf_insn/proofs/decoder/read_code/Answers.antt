use Rattle.bpf_insn.proofs.DecoderLemmas.{never_empty}
use Rattle.bpf_insn.proofs.decoder.read_code.Goals as goal

pub returns-clause-err : goal.returns-clause-err
returns-clause-err g c =
    let size = c.in_ok-check_length.ensures.ok in
    never_empty c.args.bytes.now _ c.finish.result size.0 size.1 c.in_ok-read_instructions.ensures.ok c.finish.ensures.err
