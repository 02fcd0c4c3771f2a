use Rattle.cql2_tokens.proofs.NameLemmas.{column-found, column-no_keyword}
use Rattle.cql2_tokens.proofs.laws.column_names.Goals as goal

pub returns-clause-found : goal.returns-clause-found
returns-clause-found c = column-found

pub returns-clause-no_keyword : goal.returns-clause-no_keyword
returns-clause-no_keyword c = column-no_keyword
