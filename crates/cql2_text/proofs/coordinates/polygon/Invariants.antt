use Rattle.std.proofs.Common.{◌≡◌, List, ◌∷◌, length, map}
use Rattle.cql2.specs.Geometry.{Point as APoint}
use Rattle.cql2_text.specs.Geometry.{AreItems, InParentheses, IsRing, points_of_ring}
use Rattle.cql2_tokens.specs.declared.token.Token.{Token}
use Rattle.cql2_tokens.specs.declared.token.Token.TheVariants.{Close, Open}
use Rattle.cql2_text.proofs.GeometryLemmas.{Left}
use Rattle.cql2_text.proofs.coordinates.polygon.Given as goal

abbrev pub invariant-loop-after : goal.invariant-loop-after
invariant-loop-after g l = record {
  spelled : (inner : List Token) × (l.words ≡ Open ∷ inner) × AreItems IsRing inner l.rest (map points_of_ring l.rings.items);
  reads : (rest : List Token) (all : List (List APoint)) → InParentheses (AreItems IsRing) l.words rest all
      → Left IsRing l.rest (Close ∷ rest) (map points_of_ring l.rings.items) all;
}

abbrev pub decreases-loop-after : goal.decreases-loop-after
decreases-loop-after g l = length l.rest
