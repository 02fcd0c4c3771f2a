use Rattle.jobs.proofs.MapLemmas.{found_among}
use Rattle.jobs.proofs.RunLemmas.{own_alike, whole_run}
use Rattle.jobs.proofs.laws.runs.Goals as goal

pub returns-clause-own : goal.returns-clause-own
returns-clause-own c = λ counties exchanges table run. (whole_run counties exchanges table run).own

pub returns-clause-each : goal.returns-clause-each
returns-clause-each c = λ counties exchanges table run id job among.
    found_among table.jobs table.last_id id job (whole_run counties exchanges table run).ascend among

pub returns-clause-alike : goal.returns-clause-alike
returns-clause-alike c = λ counties exchanges others table other run also id other_id job other_job there found programs turns.
    own_alike programs turns ((whole_run counties exchanges table run).own id job there)
    ((whole_run counties others other also).own other_id other_job found)

pub returns-clause-ids : goal.returns-clause-ids
returns-clause-ids c = λ counties exchanges table run. (whole_run counties exchanges table run).ids

pub returns-clause-counties : goal.returns-clause-counties
returns-clause-counties c = λ counties exchanges table run. (whole_run counties exchanges table run).over
