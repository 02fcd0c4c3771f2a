use Rattle.std.proofs.Common.{◌≡◌, List, ◌∷◌, length, map}
use Rattle.cql2.specs.Geometry.{Point as APoint, point_of}
use Rattle.cql2_text.specs.Geometry.{AreItems, InParentheses, IsPosition}
use Rattle.cql2_tokens.specs.declared.token.Token.{Token}
use Rattle.cql2_tokens.specs.declared.token.Token.TheVariants.{Close, Open}
use Rattle.cql2_text.proofs.GeometryLemmas.{Left}
use Rattle.cql2_text.proofs.coordinates.positions.Given as goal

abbrev pub invariant-loop-after : goal.invariant-loop-after
invariant-loop-after g l = record {
  spelled : (inner : List Token) × (l.words ≡ Open ∷ inner) × AreItems IsPosition inner l.rest (map point_of l.vertices.items);
  reads : (rest : List Token) (all : List APoint) → InParentheses (AreItems IsPosition) l.words rest all
      → Left IsPosition l.rest (Close ∷ rest) (map point_of l.vertices.items) all;
}

abbrev pub decreases-loop-after : goal.decreases-loop-after
decreases-loop-after g l = length l.rest
