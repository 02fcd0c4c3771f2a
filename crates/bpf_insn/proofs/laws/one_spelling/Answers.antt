use Rattle.bpf_insn.proofs.EncoderLemmas as encoder
use Rattle.bpf_insn.proofs.laws.one_spelling.Goals as goal

pub returns : goal.returns
returns g = encoder.one_spelling
