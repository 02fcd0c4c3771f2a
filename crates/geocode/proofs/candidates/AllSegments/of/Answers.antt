use Rattle.std.proofs.Common.{length, ap, refl}
use Rattle.geocode.proofs.CandidateLemmas.{all-complete}
use Rattle.geocode.proofs.candidates.AllSegments.of.Goals as goal

pub returns : goal.returns
returns g c = λ name. all-complete name c.args.county.now.segments (record { count = ap length c.segments.ensures.value; numbered = refl })
