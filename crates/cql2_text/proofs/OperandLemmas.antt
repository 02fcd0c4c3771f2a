-- The operands of functions.
use Rattle.std.proofs.Common.{◌≡◌, ◌≢◌, List, ◌∷◌, refl}
use Rattle.cql2.specs.declared.filter.Filter.{Filter}
use Rattle.cql2_text.specs.Content.{Function, content}
use Rattle.cql2_text.specs.Function.{SpellsOperands, SpellsStartsIn, StartsIn, geometry_first, geometry_last, in_box, in_polygons}
use Rattle.cql2_text.specs.Geometry.{Bounds, Polygons, ShapeContent, SpellsShape, box_of, polygons_of}
use Rattle.cql2_tokens.specs.declared.token.Keyword.TheVariants as word
use Rattle.cql2_tokens.specs.declared.token.Token.{Token}
use Rattle.cql2_tokens.specs.declared.token.Token.TheVariants.{Close, Comma, Keyword, Open}

-- STARTS_IN of some shape
pub record IsArea {A : Type 0} (words rest : List Token) (made : Filter A) : Type 0 where
  pub area : ShapeContent
  pub inner : List Token
  pub opened : words ≡ Open ∷ inner
  pub spelled : SpellsShape inner (Close ∷ rest) area
  pub same : content made ≡ Function (StartsIn area)

pub area-of : {A : Type 0} {words rest : List Token} {made : Filter A} → SpellsStartsIn words rest made → IsArea words rest made
area-of (in_box {words = words} {bounds = bounds} is) =
    record { area = Bounds (box_of bounds); inner = words; opened = refl; spelled = is; same = refl }
area-of (in_polygons {words = words} {several = several} is) =
    record { area = Polygons (polygons_of several); inner = words; opened = refl; spelled = is; same = refl }

pub operands-open : {words rest : List Token} {content : ShapeContent} → SpellsOperands words rest content
    → (inner : List Token) × (words ≡ Open ∷ inner)
operands-open (geometry_first {words = words} is) = (Keyword word.Geometry ∷ Comma ∷ words, refl)
operands-open (geometry_last {words = words} is) = (words, refl)

pub operands-first : {words after rest : List Token} {content : ShapeContent} → SpellsOperands words rest content
    → words ≡ Open ∷ Keyword word.Geometry ∷ after
    → (inner : List Token) × (after ≡ Comma ∷ inner) × SpellsShape inner (Close ∷ rest) content
operands-first (geometry_first {words = words} is) opened = (words, cc opened, is)
operands-first (geometry_last {words = words} is) opened = let no : ⊥ = cc (opened, is.tagged) in absurd no

pub operands-last : {words inner rest : List Token} {content : ShapeContent} → SpellsOperands words rest content → words ≡ Open ∷ inner
    → ((w : List Token) → inner ≢ Keyword word.Geometry ∷ w) → SpellsShape inner (Comma ∷ Keyword word.Geometry ∷ Close ∷ rest) content
operands-last {inner = inner} (geometry_first {words = words} is) opened no_property =
    let e : inner ≡ Keyword word.Geometry ∷ Comma ∷ words = cc opened in absurd (no_property _ e)
operands-last {inner = inner} (geometry_last {words = words} is) opened no_property = let e : words ≡ inner = cc opened in rw e at is
