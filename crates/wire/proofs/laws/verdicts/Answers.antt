use Rattle.wire.proofs.VerdictLemmas.{one_extract, one_verdict}
use Rattle.wire.proofs.laws.verdicts.Goals as goal

pub returns-clause-verify : goal.returns-clause-verify
returns-clause-verify c = one_verdict

pub returns-clause-extract : goal.returns-clause-extract
returns-clause-extract c = one_extract
