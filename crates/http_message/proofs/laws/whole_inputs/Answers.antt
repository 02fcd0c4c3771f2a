use Rattle.http_message.proofs.WholeLemmas.{had_head, had_no_head, had_request, had_short_request}
use Rattle.http_message.proofs.laws.whole_inputs.Goals as goal

pub returns-clause-head : goal.returns-clause-head
returns-clause-head c = had_head

pub returns-clause-no_head : goal.returns-clause-no_head
returns-clause-no_head c = had_no_head

pub returns-clause-body : goal.returns-clause-body
returns-clause-body c = had_request

pub returns-clause-short_body : goal.returns-clause-short_body
returns-clause-short_body c = had_short_request
