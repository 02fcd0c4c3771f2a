use Rattle.std.proofs.Common.{◌≡◌, [], ◌∷◌, ap, sym, ◌∙◌, rules}
use Rattle.cql2_text.specs.Geometry.{Bounds, Line, Point, Polygons, SpellsTaggedShape}
use Rattle.cql2_text.specs.declared.syntax_fault.SyntaxFault.TheVariants.{Memory}
use Rattle.cql2_tokens.specs.declared.token.ShapeTag.TheVariants as tag
use Rattle.cql2_text.proofs.shape.tagged_shape.Goals as goal

pub returns-in_err-vertex-in-Point-clause-reads : goal.returns-in_err-vertex-in-Point-clause-reads
returns-in_err-vertex-in-Point-clause-reads g c =
    λ rest content is.
    let own : SpellsTaggedShape tag.Point c.args.words.now rest content = rw c.in-Point.is at is in
    absurd (c.in_err-vertex-in-Point.ensures.reads _ _ own.1)

pub returns-in_err-vertices-in-LineString-clause-reads : goal.returns-in_err-vertices-in-LineString-clause-reads
returns-in_err-vertices-in-LineString-clause-reads g c =
    λ rest content is.
    let own : SpellsTaggedShape tag.LineString c.args.words.now rest content = rw c.in-LineString.is at is in
    let memory : c.in_err-vertices-in-LineString.field-0.0 ≡ Memory = c.in_err-vertices-in-LineString.ensures.reads _ _ own.1 in
    search rules

pub returns-in_err-polygon-in-Polygon-clause-reads : goal.returns-in_err-polygon-in-Polygon-clause-reads
returns-in_err-polygon-in-Polygon-clause-reads g c =
    λ rest content is.
    let own : SpellsTaggedShape tag.Polygon c.args.words.now rest content = rw c.in-Polygon.is at is in
    let memory : c.in_err-polygon-in-Polygon.field-0.0 ≡ Memory = c.in_err-polygon-in-Polygon.ensures.reads _ _ own.1 in
    search rules

pub returns-in_err-several-in-MultiPolygon-clause-reads : goal.returns-in_err-several-in-MultiPolygon-clause-reads
returns-in_err-several-in-MultiPolygon-clause-reads g c =
    λ rest content is.
    let own : SpellsTaggedShape tag.MultiPolygon c.args.words.now rest content = rw c.in-MultiPolygon.is at is in
    let memory : c.in_err-several-in-MultiPolygon.field-0.0 ≡ Memory = c.in_err-several-in-MultiPolygon.ensures.reads _ _ own.1 in
    search rules

pub returns-in_err-bounds-in-Bbox-clause-reads : goal.returns-in_err-bounds-in-Bbox-clause-reads
returns-in_err-bounds-in-Bbox-clause-reads g c =
    λ rest content is.
    let own : SpellsTaggedShape tag.Bbox c.args.words.now rest content = rw c.in-Bbox.is at is in
    absurd (c.in_err-bounds-in-Bbox.ensures.reads _ _ own.1)

pub returns-in_ok-vertex-in-Point-clause-reads : goal.returns-in_ok-vertex-in-Point-clause-reads
returns-in_ok-vertex-in-Point-clause-reads g c =
    λ rest content is.
    let own : SpellsTaggedShape tag.Point c.args.words.now rest content = rw c.in-Point.is at is in
    let read = c.in_ok-vertex-in-Point.ensures.reads _ _ own.1 in
    (read.0, ap (λ x. Point x) read.1 ∙ sym own.2)

pub returns-in_ok-vertices-in-LineString-clause-reads : goal.returns-in_ok-vertices-in-LineString-clause-reads
returns-in_ok-vertices-in-LineString-clause-reads g c =
    λ rest content is.
    let own : SpellsTaggedShape tag.LineString c.args.words.now rest content = rw c.in-LineString.is at is in
    let read = c.in_ok-vertices-in-LineString.ensures.reads _ _ own.1 in
    (read.0, ap (λ x. Line x) read.1 ∙ sym own.2)

pub returns-in_ok-several-in-MultiPolygon-clause-reads : goal.returns-in_ok-several-in-MultiPolygon-clause-reads
returns-in_ok-several-in-MultiPolygon-clause-reads g c =
    λ rest content is.
    let own : SpellsTaggedShape tag.MultiPolygon c.args.words.now rest content = rw c.in-MultiPolygon.is at is in
    let read = c.in_ok-several-in-MultiPolygon.ensures.reads _ _ own.1 in
    (read.0, ap (λ x. Polygons x) read.1 ∙ sym own.2)

pub returns-in_ok-push-in-Polygon-clause-reads : goal.returns-in_ok-push-in-Polygon-clause-reads
returns-in_ok-push-in-Polygon-clause-reads g c =
    λ rest content is.
    let own : SpellsTaggedShape tag.Polygon c.args.words.now rest content = rw c.in-Polygon.is at is in
    let read = c.in_ok-polygon-in-Polygon.ensures.reads _ _ own.1 in
    let content_is = ap (λ x. Polygons (x ∷ [])) read.1 ∙ sym own.2 in
    (read.0, rw (c.in_ok-push-in-Polygon.ensures.items, c.new-polygons.ensures.items) content_is)

pub returns-in_ok-bounds-in-Bbox-clause-reads : goal.returns-in_ok-bounds-in-Bbox-clause-reads
returns-in_ok-bounds-in-Bbox-clause-reads g c =
    λ rest content is.
    let own : SpellsTaggedShape tag.Bbox c.args.words.now rest content = rw c.in-Bbox.is at is in
    let read = c.in_ok-bounds-in-Bbox.ensures.reads _ _ own.1 in
    (read.0, ap (λ x. Bounds x) read.1 ∙ sym own.2)
