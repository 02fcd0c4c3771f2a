use Rattle.bpf_meaning.proofs.ExtractLemmas.{extract_append, one_extract_lem}
use Rattle.bpf_meaning.proofs.laws.extracts_join.Goals as goal

pub returns-clause-join : goal.returns-clause-join
returns-clause-join c = extract_append

pub returns-clause-one : goal.returns-clause-one
returns-clause-one c = one_extract_lem
