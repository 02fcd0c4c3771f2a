use Rattle.http_message.proofs.HeadLemmas.{HasHead-append, HasHead-unique}
use Rattle.http_message.proofs.laws.one_head.Goals as goal

pub returns-clause-unique : goal.returns-clause-unique
returns-clause-unique c = HasHead-unique

pub returns-clause-lasting : goal.returns-clause-lasting
returns-clause-lasting c = HasHead-append
