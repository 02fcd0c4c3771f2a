use Rattle.cql2_tokens.proofs.NameLemmas.{keyword-found}
use Rattle.cql2_tokens.proofs.laws.keyword_texts.Goals as goal

pub returns : goal.returns
returns c = keyword-found
