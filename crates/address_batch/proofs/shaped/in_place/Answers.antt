use Rattle.std.proofs.Common.{refl, subst}
use Rattle.geocode.specs.Matches.{match_of}
use Rattle.geocode.specs.ShapePlace.{IsOnShape}
use Rattle.address_batch.proofs.shaped.in_place.Goals as goal

pub returns : goal.returns
returns g c = (
  c.in_ok-place.place,
  subst (λ parts. IsOnShape c.args.number (match_of c.args.found.now) parts c.in_ok-place.place) (c.parts_of.ensures.value) c.in_ok-place.ensures,
  refl,
)
