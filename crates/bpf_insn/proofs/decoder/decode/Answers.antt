use Rattle.bpf_insn.proofs.CodeLemmas.{decodes_to_code, names_the_fault}
use Rattle.bpf_insn.proofs.decoder.decode.Goals as goal

pub returns-clause-only : goal.returns-clause-only
returns-clause-only g c = decodes_to_code c.args.bytes.now c.read_code.result c.read_code.ensures.ok c.read_code.ensures.err

pub returns-clause-refused : goal.returns-clause-refused
returns-clause-refused g c = names_the_fault c.args.bytes.now c.read_code.result c.read_code.ensures.ok c.read_code.ensures.err
