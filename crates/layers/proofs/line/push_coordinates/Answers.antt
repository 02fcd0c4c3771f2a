use Rattle.std.proofs.Common.{ℤ, FitsSigned, w32, ◌∷◌, [], ◌++◌, ap, ◌∙◌, arith}
use Rattle.std.proofs.Math.Facts.{to_z-of_z}
use Rattle.std.proofs.lemmas.Int.{ints}
use Rattle.numerals.specs.Degrees.{degrees}
use Rattle.layers.proofs.PointLemmas.{three}
use Rattle.layers.proofs.line.push_coordinates.Goals as goal

pub returns-clause-text : goal.returns-clause-text
returns-clause-text c =
    let point = c.args.point in
    let now = c.args.piece.now.items in
    let longitude : FitsSigned w32 point.longitude = omega (arith, ints, c.requires.small.longitude) in
    let latitude : FitsSigned w32 point.latitude = omega (arith, ints, c.requires.small.latitude) in
    three (degrees point.longitude) (c.args.between ∷ []) (degrees point.latitude) now
    (c.push_degrees.ensures.text ∙ ap (λ (z : ℤ). now ++ degrees z) (to_z-of_z longitude)) c.push.ensures.items
    (c.push_degrees-2.ensures.text ∙ ap (λ (z : ℤ). c.push.new.self.items ++ degrees z) (to_z-of_z latitude))
