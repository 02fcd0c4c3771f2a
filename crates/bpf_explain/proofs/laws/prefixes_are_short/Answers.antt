use Rattle.bpf_explain.proofs.PrefixLemmas.{prefix-short}
use Rattle.bpf_explain.proofs.laws.prefixes_are_short.Goals as goal

pub returns : goal.returns
returns c = prefix-short
