-- Functions in terms of their tokens.
use Rattle.std.proofs.Common.{◌≡◌, ◌<◌, ◌≤◌, List, ◌∷◌, length, refl, sym, ap, ◌∙◌, arith, ℕ}
use Rattle.tl_segments.specs.declared.name.TheConstants.{NAME_LENGTH}
use Rattle.cql2.specs.declared.filter.Filter.{Filter}
use Rattle.cql2.specs.declared.number.NameLimit.{NameLimit}
use Rattle.cql2_text.specs.Function.{SpellsFunction, SpellsHasName, SpellsHasNumber, SpellsIntersects, SpellsLimit, SpellsOperands}
use Rattle.cql2_text.specs.Function.{SpellsStartsIn, SpellsWithin, geometry_first, geometry_last, given, in_box, in_polygons, usual}
use Rattle.cql2_text.specs.Geometry.{ShapeContent, box_of}
use Rattle.cql2_text.specs.Number.{count_of, up_to_name_limit}
use Rattle.cql2_tokens.specs.Alike.{AreLike}
use Rattle.cql2_tokens.specs.declared.token.FunctionName.{FunctionName}
use Rattle.cql2_tokens.specs.declared.token.FunctionName.TheVariants as name
use Rattle.cql2_tokens.specs.declared.token.Keyword.TheVariants as word
use Rattle.cql2_tokens.specs.declared.token.Numeral.{Numeral}
use Rattle.cql2_tokens.specs.declared.token.ShapeTag.TheVariants as tag
use Rattle.cql2_tokens.specs.declared.token.Token.{Token}
use Rattle.cql2_tokens.specs.declared.token.Token.TheVariants.{Close, Comma, Keyword, Open}
use Rattle.cql2_text.proofs.AlikeLemmas.{Moved, first-by, moved-at, moved-text, same-first, signed-like}
use Rattle.cql2_text.proofs.GeometryLemmas.{box-shorter, moved-box, moved-shape, shape-shorter}
use Rattle.cql2_text.proofs.NumeralLemmas.{numeral-shorter}

-- Each function consumes tokens.

limit-shorter : (words rest : List Token) (limit : NameLimit) → SpellsLimit words rest limit → length rest ≤ length words
limit-shorter _ _ _ (given {words = words} {rest = rest} numeral is value) =
    let inner = numeral-shorter words rest numeral is in omega arith
limit-shorter _ _ _ (usual value) = omega arith

operands-shorter : (words rest : List Token) (content : ShapeContent) → SpellsOperands words rest content → length rest < length words
operands-shorter _ _ content (geometry_first {words = words} is) = let inner = shape-shorter words _ content is in omega arith
operands-shorter _ _ content (geometry_last {words = words} is) = let inner = shape-shorter words _ content is in omega arith

starts-shorter : {A : Type 0} (words rest : List Token) (made : Filter A) → SpellsStartsIn words rest made → length rest < length words
starts-shorter _ _ _ (in_box {words = words} is) = let inner = shape-shorter words _ _ is in omega arith
starts-shorter _ _ _ (in_polygons {words = words} is) = let inner = shape-shorter words _ _ is in omega arith

pub function-shorter : {A : Type 0} (n : FunctionName) (words rest : List Token) (made : Filter A) → SpellsFunction n words rest made
    → length rest < length words
function-shorter name.HasNumber words rest made is = omega (arith, ap length is.opened, numeral-shorter _ _ _ is.spelled)
function-shorter name.HasName words rest made is =
    omega (arith, ap length is.opened, ap length is.name.spelled, limit-shorter _ _ _ is.names)
function-shorter name.StartsIn words rest made is = starts-shorter words rest made is
function-shorter name.Intersects words rest made is = operands-shorter words rest _ is.operands
function-shorter name.Disjoint words rest made is = operands-shorter words rest _ is.intersects.operands
function-shorter name.Within words rest made is = omega (arith, ap length is.opened, box-shorter _ _ _ is.box)

-- Tokens that differ only in where their bytes are in memory spell the same function.

count_of-like : (most : ℕ) (numeral another : Numeral) → numeral.is_negative ≡ another.is_negative
    → numeral.whole.now ≡ another.whole.now → numeral.decimals.now ≡ another.decimals.now → count_of most numeral ≡ count_of most another
count_of-like most numeral another sign whole decimals = rw (sign, whole, decimals) refl

moved-limit : (words others rest : List Token) (limit : NameLimit) → AreLike words others → SpellsLimit words rest limit
    → Moved (λ w r. SpellsLimit w r limit) others rest
moved-limit _ others rest limit alike (given {words = words} numeral is value) =
    let first = same-first Comma words others refl alike in
    let like = signed-like words first.later rest numeral first.alike is in
    let counts = count_of-like 18 numeral like.another like.sign like.whole like.decimals in
    moved-at _ others _ rest first.is
    (record { after = like.later; alike = like.alike; is = given like.another like.is (ap up_to_name_limit (sym counts) ∙ value) })
moved-limit words others _ limit alike (usual value) = record { after = others; alike = alike; is = usual value }

module _ {A : Type 0} where
  moved-has_number : (words others rest : List Token) (made : Filter A) → AreLike words others → SpellsHasNumber words rest made
      → Moved (λ w r. SpellsHasNumber w r made) others rest
  moved-has_number words others rest made alike is =
      let first = first-by words others Open is.inner alike is.opened refl in
      let like = signed-like is.inner first.later (Close ∷ rest) is.numeral first.alike is.spelled in
      let closed = same-first Close rest like.later refl like.alike in
      let counts = count_of-like 11 is.numeral like.another like.sign like.whole like.decimals in
      record {
        after = closed.later;
        alike = closed.alike;
        is = record {
          numeral = like.another;
          house = is.house;
          inner = first.later;
          opened = first.is;
          spelled = rw closed.is at like.is;
          value = sym counts ∙ is.value;
          is = is.is;
        };
      }

  moved-has_name : (words others rest : List Token) (made : Filter A) → AreLike words others
      → SpellsHasName words rest made → Moved (λ w r. SpellsHasName w r made) others rest
  moved-has_name words others rest made alike is =
      let first = first-by words others Open is.inner alike is.opened refl in
      let name = moved-text NAME_LENGTH is.inner first.later is.after is.text first.alike is.name in
      let names = moved-limit is.after name.after (Close ∷ rest) is.limit name.alike is.names in
      let closed = same-first Close rest names.after refl names.alike in
      record {
        after = closed.later;
        alike = closed.alike;
        is = record {
          text = is.text;
          limit = is.limit;
          inner = first.later;
          after = name.after;
          opened = first.is;
          name = name.is;
          names = rw closed.is at names.is;
          is = is.is;
        };
      }

  moved-starts_in : (words others rest : List Token) (made : Filter A) → AreLike words others → SpellsStartsIn words rest made
      → Moved (λ w r. SpellsStartsIn w r made) others rest
  moved-starts_in _ others rest _ alike (in_box {words = words} is) =
      let opened = same-first Open words others refl alike in
      let inner = moved-shape words opened.later (Close ∷ rest) _ opened.alike is in
      let closed = same-first Close rest inner.after refl inner.alike in
      moved-at _ others _ rest opened.is
      (record { after = closed.later; alike = closed.alike; is = in_box (rw closed.is at inner.is) })
  moved-starts_in _ others rest _ alike (in_polygons {words = words} is) =
      let opened = same-first Open words others refl alike in
      let inner = moved-shape words opened.later (Close ∷ rest) _ opened.alike is in
      let closed = same-first Close rest inner.after refl inner.alike in
      moved-at _ others _ rest opened.is
      (record { after = closed.later; alike = closed.alike; is = in_polygons (rw closed.is at inner.is) })

moved-operands : (words others rest : List Token) (content : ShapeContent) → AreLike words others → SpellsOperands words rest content
    → Moved (λ w r. SpellsOperands w r content) others rest
moved-operands _ others rest content alike (geometry_first {words = words} is) =
    let opened = same-first Open (Keyword word.Geometry ∷ Comma ∷ words) others refl alike in
    let property = same-first (Keyword word.Geometry) (Comma ∷ words) opened.later refl opened.alike in
    let between = same-first Comma words property.later refl property.alike in
    let inner = moved-shape words between.later (Close ∷ rest) content between.alike is in
    let closed = same-first Close rest inner.after refl inner.alike in
    let begins = ap (λ (l : List Token). Keyword word.Geometry ∷ l) between.is in
    moved-at _ others _ rest (opened.is ∙ ap (λ (l : List Token). Open ∷ l) (property.is ∙ begins))
    (record { after = closed.later; alike = closed.alike; is = geometry_first (rw closed.is at inner.is) })
moved-operands _ others rest content alike (geometry_last {words = words} is) =
    let opened = same-first Open words others refl alike in
    let inner = moved-shape words opened.later _ content opened.alike is in
    let between = same-first Comma (Keyword word.Geometry ∷ Close ∷ rest) inner.after refl inner.alike in
    let property = same-first (Keyword word.Geometry) (Close ∷ rest) between.later refl between.alike in
    let closed = same-first Close rest property.later refl property.alike in
    moved-at _ others _ rest opened.is
    (record { after = closed.later; alike = closed.alike; is = geometry_last (rw (between.is, property.is, closed.is) at inner.is) })

module _ {A : Type 0} where
  moved-intersects : (words others rest : List Token) (made : Filter A) → AreLike words others → SpellsIntersects words rest made
      → Moved (λ w r. SpellsIntersects w r made) others rest
  moved-intersects words others rest made alike is =
      let moved = moved-operands words others rest _ alike is.operands in
      record { after = moved.after; alike = moved.alike; is = record { shape = is.shape; operands = moved.is; is = is.is } }

  moved-within : (words others rest : List Token) (made : Filter A) → AreLike words others → SpellsWithin words rest made
      → Moved (λ w r. SpellsWithin w r made) others rest
  moved-within words others rest made alike is =
      let opened = first-by words others Open (Keyword word.Geometry ∷ Comma ∷ Keyword (word.Shape tag.Bbox) ∷ is.inner) alike is.opened refl in
      let property = same-first (Keyword word.Geometry) (Comma ∷ Keyword (word.Shape tag.Bbox) ∷ is.inner) opened.later refl opened.alike in
      let between = same-first Comma (Keyword (word.Shape tag.Bbox) ∷ is.inner) property.later refl property.alike in
      let bbox = same-first (Keyword (word.Shape tag.Bbox)) is.inner between.later refl between.alike in
      let box = moved-box is.inner bbox.later (Close ∷ rest) (box_of is.bounds) bbox.alike is.box in
      let closed = same-first Close rest box.after refl box.alike in
      let from_comma = between.is ∙ ap (λ (l : List Token). Comma ∷ l) bbox.is in
      let from_property = property.is ∙ ap (λ (l : List Token). Keyword word.Geometry ∷ l) from_comma in
      record {
        after = closed.later;
        alike = closed.alike;
        is = record {
          bounds = is.bounds;
          inner = bbox.later;
          opened = opened.is ∙ ap (λ (l : List Token). Open ∷ l) from_property;
          box = rw closed.is at box.is;
          is = is.is;
        };
      }

  pub moved-function : (n : FunctionName) (words others rest : List Token) (made : Filter A) → AreLike words others
      → SpellsFunction n words rest made → Moved (λ w r. SpellsFunction n w r made) others rest
  moved-function name.HasNumber words others rest made alike is = moved-has_number words others rest made alike is
  moved-function name.HasName words others rest made alike is = moved-has_name words others rest made alike is
  moved-function name.StartsIn words others rest made alike is = moved-starts_in words others rest made alike is
  moved-function name.Intersects words others rest made alike is = moved-intersects words others rest made alike is
  moved-function name.Disjoint words others rest made alike is =
      let moved = moved-intersects words others rest is.meets alike is.intersects in
      record {
        after = moved.after;
        alike = moved.alike;
        is = record { meets = is.meets; intersects = moved.is; opposite = is.opposite };
      }
  moved-function name.Within words others rest made alike is = moved-within words others rest made alike is
