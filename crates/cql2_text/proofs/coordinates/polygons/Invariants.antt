use Rattle.std.proofs.Common.{◌≡◌, List, ◌∷◌, length, map}
use Rattle.cql2.specs.Geometry.{Point as APoint}
use Rattle.cql2_text.specs.Geometry.{AreItems, InParentheses, IsPolygon, rings_of}
use Rattle.cql2_tokens.specs.declared.token.Token.{Token}
use Rattle.cql2_tokens.specs.declared.token.Token.TheVariants.{Close, Open}
use Rattle.cql2_text.proofs.GeometryLemmas.{Left}
use Rattle.cql2_text.proofs.coordinates.polygons.Given as goal

abbrev pub invariant-loop-after : goal.invariant-loop-after
invariant-loop-after g l = record {
  spelled : (inner : List Token) × (l.words ≡ Open ∷ inner) × AreItems IsPolygon inner l.rest (map rings_of l.polygons.items);
  reads : (rest : List Token) (all : List (List (List APoint))) → InParentheses (AreItems IsPolygon) l.words rest all
      → Left IsPolygon l.rest (Close ∷ rest) (map rings_of l.polygons.items) all;
}

abbrev pub decreases-loop-after : goal.decreases-loop-after
decreases-loop-after g l = length l.rest
