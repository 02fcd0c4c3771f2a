use Rattle.cql2_json.proofs.PositionLemmas.{offset_of-column}
use Rattle.cql2_json.proofs.laws.offsets_of_columns.Goals as goal

pub returns : goal.returns
returns c = offset_of-column
