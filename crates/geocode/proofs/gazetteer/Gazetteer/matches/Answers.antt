use Rattle.std.proofs.Common.{[], rules}
use Rattle.geocode.proofs.gazetteer.Gazetteer.matches.Goals as goal

pub returns : goal.returns
returns g c = c.in_ok-push_found.ensures.matches [] (search rules)
