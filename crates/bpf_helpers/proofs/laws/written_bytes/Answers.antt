-- What a call writes.
use Rattle.bpf_helpers.proofs.CallLemmas.{written-bytes, written-length}
use Rattle.bpf_helpers.proofs.laws.written_bytes.Goals as goal

pub returns-clause-length : goal.returns-clause-length
returns-clause-length c = written-length

pub returns-clause-bytes : goal.returns-clause-bytes
returns-clause-bytes c = λ helper segment arguments bytes score i is meets.
    (written-bytes helper segment arguments bytes score is meets).bytes i
