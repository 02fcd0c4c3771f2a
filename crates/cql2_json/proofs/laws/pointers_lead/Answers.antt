use Rattle.cql2_json.proofs.LeadLemmas.{faults-lead, pieces-lead}
use Rattle.cql2_json.proofs.laws.pointers_lead.Goals as goal

pub returns-clause-faults : goal.returns-clause-faults
returns-clause-faults c = faults-lead

pub returns-clause-pieces : goal.returns-clause-pieces
returns-clause-pieces c = pieces-lead
