-- Shapes in terms of their tokens.
use Rattle.std.proofs.Common.{◌≡◌, ◌≢◌, ◌<◌, ◌≤◌, suc, ◌^◌, ℤ, unsigned_abs, to_z, of_z, w64}
use Rattle.std.proofs.Common.{List, [], ◌∷◌, ◌++◌, length, map, refl, sym, ap, ◌∙◌, slice_index_or, Ok, Err, Result, arith}
use Rattle.std.proofs.lemmas.Int.{fits_signed_from_abs, to_z-of_z}
use Rattle.cql2.specs.Geometry.{Point as APoint, point_of}
use Rattle.cql2.specs.declared.geometry.Vertex.{Vertex}
use Rattle.cql2_text.specs.Geometry.{AreCorners, AreItems, ArePolygons, Box, InParentheses, IsBox, IsCoordinate, IsCorner, IsLine, IsPolygon}
use Rattle.cql2_text.specs.Geometry.{IsPosition, IsRing, ShapeContent, SpellsShape, SpellsTaggedShape, more, one, points_of}
use Rattle.cql2_text.specs.Number.{coordinate_of}
use Rattle.cql2_text.specs.Numeral.{IsNumeral}
use Rattle.cql2_text.specs.declared.fault.FilterFaultKind.{FilterFaultKind}
use Rattle.cql2_text.specs.declared.unit.Unit.TheVariants.{Femtodegrees}
use Rattle.cql2_tokens.specs.Alike.{AreLike}
use Rattle.cql2_tokens.specs.declared.token.Keyword.TheVariants as word
use Rattle.cql2_tokens.specs.declared.token.Numeral.{Numeral}
use Rattle.cql2_tokens.specs.declared.token.ShapeTag.{ShapeTag}
use Rattle.cql2_tokens.specs.declared.token.ShapeTag.TheVariants as tag
use Rattle.cql2_tokens.specs.declared.token.Token.{Token}
use Rattle.cql2_tokens.specs.declared.token.Token.TheVariants.{Close, Comma, Keyword, Open}
use Rattle.cql2_text.proofs.AlikeLemmas.{Moved, first-by, moved-number, same-first, signed-like}
use Rattle.cql2_text.proofs.NumeralLemmas.{number-shorter, numeral-shorter}

-- Items

module _ {T : Type 0} {Item : List Token → List Token → T → Type 0} where
  -- one item more at the end
  pub items-more : {words middle rest : List Token} {items : List T} {item : T} → AreItems Item words (Comma ∷ middle) items
      → Item middle rest item → AreItems Item words rest (items ++ item ∷ [])
  items-more (one is) last = more is (one last)
  items-more (more is are) last = more is (items-more are last)

-- items up to the end, of which some have been read
pub data Left {T : Type 0} (Item : List Token → List Token → T → Type 0) (words «end» : List Token) (read all : List T) : Type 0 where
  none : words ≡ «end» → read ≡ all → Left Item words «end» read all
  some : {middle : List Token} {left : List T} → words ≡ Comma ∷ middle → AreItems Item middle «end» left → read ++ left ≡ all
      → Left Item words «end» read all

pub record NextItem {T : Type 0} (Item : List Token → List Token → T → Type 0) (words «end» : List Token) (read all : List T) : Type 0 where
  pub item : T
  pub after : List Token
  pub part : Item words after item
  pub left : Left Item after «end» (read ++ item ∷ []) all

snoc-append : {T : Type 0} (read : List T) (item : T) (items : List T) → (read ++ item ∷ []) ++ items ≡ read ++ item ∷ items
snoc-append [] item items = refl
snoc-append (first ∷ read) item items = ap (λ l. first ∷ l) (snoc-append read item items)

pub map-snoc : {T C : Type 0} (f : T → C) (items : List T) (item : T) → map f (items ++ item ∷ []) ≡ map f items ++ f item ∷ []
map-snoc f [] item = refl
map-snoc f (first ∷ items) item = ap (λ l. f first ∷ l) (map-snoc f items item)

module _ {T : Type 0} {Item : List Token → List Token → T → Type 0} where
  next-of : {words «end» : List Token} (read : List T) {left all : List T} → AreItems Item words «end» left → read ++ left ≡ all
      → NextItem Item words «end» read all
  next-of {«end» = «end»} read (one {item = item} is) same = record { item = item; after = «end»; part = is; left = none refl same }
  next-of read (more {middle = middle} {item = item} {items = items} is are) same =
      record { item = item; after = Comma ∷ middle; part = is; left = some refl are (snoc-append read item items ∙ same) }

  pub first-item : {words inner rest : List Token} {all : List T} → InParentheses (AreItems Item) words rest all → words ≡ Open ∷ inner
      → NextItem Item inner (Close ∷ rest) [] all
  first-item {inner = inner} is opened =
      let e : is.inner ≡ inner = cc (is.opened, opened) in next-of [] (rw e at is.inside) refl

  pub next-item : {words after rest : List Token} {read all : List T} → Left Item words (Close ∷ rest) read all → words ≡ Comma ∷ after
      → NextItem Item after (Close ∷ rest) read all
  next-item (none is same) comma = absurd (cc (is, comma))
  next-item {after = after} {read = read} (some {middle = middle} starts are same) comma =
      let e : middle ≡ after = cc (starts, comma) in next-of read (rw e at are) same

  pub last-item : {words rest : List Token} {read all : List T} → Left Item words (Close ∷ rest) read all
      → ((w : List Token) → words ≢ Comma ∷ w) → (words ≡ Close ∷ rest) × (read ≡ all)
  last-item (none is same) no_comma = (is, same)
  last-item (some starts are same) no_comma = absurd (no_comma _ starts)

  pub left-at : {words after «end» : List Token} {made read all : List T} → words ≡ after → made ≡ read → Left Item after «end» read all
      → Left Item words «end» made all
  left-at starts same left = rw (starts, same) left

module _ {T : Type 0} (Item : List Token → List Token → T → Type 0) where
  items-shorter : ((w r : List Token) (x : T) → Item w r x → length r < length w) → (words rest : List Token) (items : List T)
      → AreItems Item words rest items → length rest < length words
  items-shorter shorter words rest _ (one {item = item} is) = shorter words rest item is
  items-shorter shorter words rest _ (more {middle = middle} {item = item} {items = items} is are) =
      let first = shorter words (Comma ∷ middle) item is in
      let later = items-shorter shorter middle rest items are in
      omega arith

  parentheses-shorter : ((w r : List Token) (x : T) → Item w r x → length r < length w) → (words rest : List Token) (x : T)
      → InParentheses Item words rest x → length rest < length words
  parentheses-shorter shorter words rest x is = omega (arith, ap length is.opened, shorter is.inner (Close ∷ rest) x is.inside)

  moved-items : ((w o r : List Token) (x : T) → AreLike w o → Item w r x → Moved (λ v s. Item v s x) o r)
      → (words others rest : List Token) (items : List T) → AreLike words others → AreItems Item words rest items
      → Moved (λ w r. AreItems Item w r items) others rest
  moved-items move words others rest _ alike (one {item = item} is) =
      let moved = move words others rest item alike is in
      record { after = moved.after; alike = moved.alike; is = one moved.is }
  moved-items move words others rest _ alike (more {middle = middle} {item = item} {items = items} is are) =
      let first = move words others (Comma ∷ middle) item alike is in
      let between = same-first Comma middle first.after refl first.alike in
      let later = moved-items move middle between.later rest items between.alike are in
      record { after = later.after; alike = later.alike; is = more (rw between.is at first.is) later.is }

  moved-parentheses : ((w o r : List Token) (x : T) → AreLike w o → Item w r x → Moved (λ v s. Item v s x) o r)
      → (words others rest : List Token) (x : T) → AreLike words others → InParentheses Item words rest x
      → Moved (λ w r. InParentheses Item w r x) others rest
  moved-parentheses move words others rest x alike is =
      let opened = first-by words others Open is.inner alike is.opened refl in
      let inner = move is.inner opened.later (Close ∷ rest) x opened.alike is.inside in
      let closed = same-first Close rest inner.after refl inner.alike in
      record {
        after = closed.later;
        alike = closed.alike;
        is = record { inner = opened.later; opened = opened.is; inside = rw closed.is at inner.is };
      }

module _ {T : Type 0} {Inner : List Token → List Token → T → Type 0} where
  -- what is inside, where the opening parenthesis has been read
  pub inside-at : {words inner rest : List Token} {x : T} → InParentheses Inner words rest x → words ≡ Open ∷ inner
      → Inner inner (Close ∷ rest) x
  inside-at {inner = inner} is opened = let e : is.inner ≡ inner = cc (is.opened, opened) in rw e at is.inside

-- Positions

-- a coordinate that is written and read
pub read-back : (number : ℤ) → unsigned_abs number < 10 ^ 9 → to_z w64 (of_z w64 number) ≡ number
read-back number small =
    let below : unsigned_abs number < 2 ^ 63 = omega (arith, small) in
    to_z-of_z w64 number (fits_signed_from_abs w64 number below)

pub read-small : (number : ℤ) → unsigned_abs number < 10 ^ 9 → unsigned_abs (to_z w64 (of_z w64 number)) < 10 ^ 9
read-small number small = rw (read-back number small) small

pub coordinate-is : {words rest : List Token} (number : ℤ) (numeral : Numeral) → unsigned_abs number < 10 ^ 9 → IsNumeral words rest numeral
    → coordinate_of numeral ≡ Ok number → IsCoordinate words rest (to_z w64 (of_z w64 number))
coordinate-is number numeral small spelled value =
    record { numeral = numeral; spelled = spelled; value = rw (read-back number small) value }

same-ok : (result : Result ℤ FilterFaultKind) (number other : ℤ) → result ≡ Ok number → result ≡ Ok other → number ≡ other
same-ok result number other is also =
    let both = sym is ∙ also in cc both

ok-flaw : (result : Result ℤ FilterFaultKind) (flaw : FilterFaultKind) (other : ℤ) → result ≡ Err flaw → result ≡ Ok other → ⊥
ok-flaw result flaw other is also =
    let both = sym is ∙ also in cc both

pub coordinate-same : (numeral another : Numeral) (number other : ℤ) → unsigned_abs number < 10 ^ 9 → numeral ≡ another
    → coordinate_of numeral ≡ Ok number → coordinate_of another ≡ Ok other → to_z w64 (of_z w64 number) ≡ other
coordinate-same numeral another number other small same value also =
    read-back number small ∙ same-ok (coordinate_of numeral) number other value (ap coordinate_of same ∙ also)

pub coordinate-flaw : (numeral another : Numeral) (flaw : FilterFaultKind) (other : ℤ) → numeral ≡ another → coordinate_of numeral ≡ Err flaw
    → coordinate_of another ≡ Ok other → ⊥
coordinate-flaw numeral another flaw other same value also =
    ok-flaw (coordinate_of numeral) flaw other value (ap coordinate_of same ∙ also)

pub position-is : {words middle rest : List Token} (x y : ℤ) → unsigned_abs x < 10 ^ 9 → unsigned_abs y < 10 ^ 9 → IsCoordinate words middle x
    → IsCoordinate middle rest y → IsPosition words rest (record { longitude = to_z w64 (of_z w64 x); latitude = to_z w64 (of_z w64 y) })
position-is {middle = middle} x y small low is also =
    record { middle = middle; x = rw (read-back x small) is; y = rw (read-back y low) also }

pub point-is : (point : APoint) (x y : ℤ) → unsigned_abs x < 10 ^ 9 → unsigned_abs y < 10 ^ 9 → x ≡ point.longitude → y ≡ point.latitude
    → record { longitude = to_z w64 (of_z w64 x); latitude = to_z w64 (of_z w64 y) } ≡ point
point-is point x y small low is also = rw (read-back x small, read-back y low, is, also) refl

coordinate-shorter : (words rest : List Token) (number : ℤ) → IsCoordinate words rest number → length rest < length words
coordinate-shorter words rest number is = numeral-shorter words rest is.numeral is.spelled

pub position-shorter : (words rest : List Token) (point : APoint) → IsPosition words rest point → length rest < length words
position-shorter words rest point is = omega (arith, coordinate-shorter _ _ _ is.x, coordinate-shorter _ _ _ is.y)

pub coordinate_of-like : (numeral another : Numeral) → numeral.is_negative ≡ another.is_negative
    → numeral.whole.now ≡ another.whole.now → numeral.decimals.now ≡ another.decimals.now → coordinate_of numeral ≡ coordinate_of another
coordinate_of-like numeral another sign whole decimals = rw (sign, whole, decimals) refl

moved-coordinate : (words others rest : List Token) (number : ℤ) → AreLike words others → IsCoordinate words rest number
    → Moved (λ w r. IsCoordinate w r number) others rest
moved-coordinate words others rest number alike is =
    let like = signed-like words others rest is.numeral alike is.spelled in
    record {
      after = like.later;
      alike = like.alike;
      is = record {
        numeral = like.another;
        spelled = like.is;
        value = sym (coordinate_of-like is.numeral like.another like.sign like.whole like.decimals) ∙ is.value;
      };
    }

moved-position : (words others rest : List Token) (point : APoint) → AreLike words others → IsPosition words rest point
    → Moved (λ w r. IsPosition w r point) others rest
moved-position words others rest point alike is =
    let x = moved-coordinate words others is.middle point.longitude alike is.x in
    let y = moved-coordinate is.middle x.after rest point.latitude x.alike is.y in
    record { after = y.after; alike = y.alike; is = record { middle = x.after; x = x.is; y = y.is } }

-- Lines, rings and polygons

append-some : {T : Type 0} (items : List T) (item : T) → [] ≡ items ++ item ∷ [] → ⊥
append-some [] item is = cc is
append-some (first ∷ items) item is = cc is

pub snoc-parts : {T : Type 0} (items others : List T) (item other : T) → items ++ item ∷ [] ≡ others ++ other ∷ []
    → (items ≡ others) × (item ≡ other)
snoc-parts [] [] item other same = (refl, cc same)
snoc-parts [] (another ∷ others) item other same =
    let e : [] ≡ others ++ other ∷ [] = cc same in absurd (append-some others other e)
snoc-parts (first ∷ items) [] item other same =
    let e : [] ≡ items ++ item ∷ [] = cc same in absurd (append-some items item e)
snoc-parts (first ∷ items) (another ∷ others) item other same =
    let firsts : first ≡ another = cc same in
    let rests : items ++ item ∷ [] ≡ others ++ other ∷ [] = cc same in
    let parts = snoc-parts items others item other rests in
    (cc (firsts, parts.0), parts.1)

pub length-points : (vertices : List Vertex) → length (points_of vertices) ≡ length vertices
length-points [] = refl
length-points (vertex ∷ vertices) = ap (λ n. suc n) (length-points vertices)

length-more : {T : Type 0} (items : List T) (item : T) → length (items ++ item ∷ []) ≡ suc (length items)
length-more [] item = refl
length-more (first ∷ items) item = ap (λ n. suc n) (length-more items item)

pub line-some : (vertices : List Vertex) (points : List APoint) → points_of vertices ≡ points → 2 ≤ length points → length vertices < 2 → ⊥
line-some vertices points same enough few = let lengths = ap length same in let also = length-points vertices in omega (arith, enough)

-- Positions are read as `before`; the last one is taken off.

module _ {words rest : List Token} {points : List APoint} (is : IsRing words rest points) where
  ring-parts : (before vertices : List Vertex) (last : Vertex) → before ≡ vertices ++ last ∷ [] → points_of before ≡ points ++ is.first ∷ []
      → (points_of vertices ≡ points) × (point_of last ≡ is.first)
  ring-parts before vertices last popped same =
      snoc-parts (points_of vertices) points (point_of last) is.first
      (sym (map-snoc point_of vertices last) ∙ sym (ap points_of popped) ∙ same)

  pub ring-points : (before vertices : List Vertex) (last : Vertex) → before ≡ vertices ++ last ∷ []
      → points_of before ≡ points ++ is.first ∷ [] → points_of vertices ≡ points
  ring-points before vertices last popped same = (ring-parts before vertices last popped same).0

  pub ring-some : (before : List Vertex) → points_of before ≡ points ++ is.first ∷ [] → length before < 4 → ⊥
  ring-some before same few =
      let lengths = ap length same in
      let also = length-points before in
      let more = length-more points is.first in
      omega (arith, is.some)

  pub ring-closed : (before vertices : List Vertex) (last first : Vertex) → before ≡ vertices ++ last ∷ []
      → points_of before ≡ points ++ is.first ∷ [] → first ≡ slice_index_or vertices 0 first → 4 ≤ length before
      → point_of first ≡ point_of last
  ring-closed before [] last first popped same begins enough = absurd (omega (arith, enough, ap length popped))
  ring-closed before (vertex ∷ vertices) last first popped same begins enough =
      let parts = ring-parts before (vertex ∷ vertices) last popped same in
      let starts : point_of vertex ∷ points_of vertices ≡ is.first ∷ is.others = parts.0 ∙ is.begins in
      let is_first : point_of vertex ≡ is.first = cc starts in
      let found : first ≡ vertex = begins in
      ap point_of found ∙ is_first ∙ sym parts.1

positions-shorter : (words rest : List Token) (points : List APoint) → InParentheses (AreItems IsPosition) words rest points
    → length rest < length words
positions-shorter words rest points is =
    parentheses-shorter (AreItems IsPosition) (items-shorter IsPosition position-shorter) words rest points is

pub ring-shorter : (words rest : List Token) (points : List APoint) → IsRing words rest points → length rest < length words
ring-shorter words rest points is = positions-shorter words rest _ is.positions

pub polygon-shorter : (words rest : List Token) (rings : List (List APoint)) → IsPolygon words rest rings → length rest < length words
polygon-shorter words rest rings is =
    parentheses-shorter (AreItems IsRing) (items-shorter IsRing ring-shorter) words rest rings is

polygons-shorter : (words rest : List Token) (polygons : List (List (List APoint))) → ArePolygons words rest polygons
    → length rest < length words
polygons-shorter words rest polygons is =
    parentheses-shorter (AreItems IsPolygon) (items-shorter IsPolygon polygon-shorter) words rest polygons is

moved-positions : (words others rest : List Token) (points : List APoint) → AreLike words others
    → InParentheses (AreItems IsPosition) words rest points → Moved (λ w r. InParentheses (AreItems IsPosition) w r points) others rest
moved-positions words others rest points alike is =
    moved-parentheses (AreItems IsPosition) (moved-items IsPosition moved-position) words others rest points alike is

moved-line : (words others rest : List Token) (points : List APoint) → AreLike words others → IsLine words rest points
    → Moved (λ w r. IsLine w r points) others rest
moved-line words others rest points alike is =
    let moved = moved-positions words others rest points alike is.positions in
    record { after = moved.after; alike = moved.alike; is = record { positions = moved.is; some = is.some } }

moved-ring : (words others rest : List Token) (points : List APoint) → AreLike words others → IsRing words rest points
    → Moved (λ w r. IsRing w r points) others rest
moved-ring words others rest points alike is =
    let moved = moved-positions words others rest (points ++ is.first ∷ []) alike is.positions in
    record {
      after = moved.after;
      alike = moved.alike;
      is = record { first = is.first; others = is.others; begins = is.begins; positions = moved.is; some = is.some };
    }

moved-polygon : (words others rest : List Token) (rings : List (List APoint)) → AreLike words others → IsPolygon words rest rings
    → Moved (λ w r. IsPolygon w r rings) others rest
moved-polygon words others rest rings alike is =
    moved-parentheses (AreItems IsRing) (moved-items IsRing moved-ring) words others rest rings alike is

moved-polygons : (words others rest : List Token) (polygons : List (List (List APoint))) → AreLike words others
    → ArePolygons words rest polygons → Moved (λ w r. ArePolygons w r polygons) others rest
moved-polygons words others rest polygons alike is =
    moved-parentheses (AreItems IsPolygon) (moved-items IsPolygon moved-polygon) words others rest polygons alike is

-- Boxes

corner-shorter : (words rest : List Token) (x y : ℤ) → IsCorner words rest x y → length rest < length words
corner-shorter words rest x y is = omega (arith, number-shorter _ _ _ _ is.first, number-shorter _ _ _ _ is.second)

corners-shorter : (words rest : List Token) (box : Box) → AreCorners words rest box → length rest < length words
corners-shorter words rest box is =
    omega (arith, corner-shorter _ _ _ _ is.southwest, corner-shorter _ _ _ _ is.northeast)

pub box-shorter : (words rest : List Token) (box : Box) → IsBox words rest box → length rest < length words
box-shorter words rest box is = parentheses-shorter AreCorners corners-shorter words rest box is.corners

moved-corner : (words others rest : List Token) (x y : ℤ) → AreLike words others → IsCorner words rest x y
    → Moved (λ w r. IsCorner w r x y) others rest
moved-corner words others rest x y alike is =
    let first = moved-number Femtodegrees words others (Comma ∷ is.middle) x alike is.first in
    let between = same-first Comma is.middle first.after refl first.alike in
    let second = moved-number Femtodegrees is.middle between.later rest y between.alike is.second in
    record {
      after = second.after;
      alike = second.alike;
      is = record { middle = between.later; first = rw between.is at first.is; second = second.is };
    }

moved-corners : (words others rest : List Token) (box : Box) → AreLike words others → AreCorners words rest box
    → Moved (λ w r. AreCorners w r box) others rest
moved-corners words others rest box alike is =
    let southwest = moved-corner words others (Comma ∷ is.from_east) box.west box.south alike is.southwest in
    let between = same-first Comma is.from_east southwest.after refl southwest.alike in
    let northeast = moved-corner is.from_east between.later rest box.east box.north between.alike is.northeast in
    record {
      after = northeast.after;
      alike = northeast.alike;
      is = record { from_east = between.later; southwest = rw between.is at southwest.is; northeast = northeast.is };
    }

pub moved-box : (words others rest : List Token) (box : Box) → AreLike words others → IsBox words rest box
    → Moved (λ w r. IsBox w r box) others rest
moved-box words others rest box alike is =
    let moved = moved-parentheses AreCorners moved-corners words others rest box alike is.corners in
    record {
      after = moved.after;
      alike = moved.alike;
      is = record { corners = moved.is; longitudes = is.longitudes; latitudes = is.latitudes };
    }

-- Shapes

tagged-shorter : (t : ShapeTag) (words rest : List Token) (content : ShapeContent) → SpellsTaggedShape t words rest content
    → length rest < length words
tagged-shorter tag.Point words rest content is = parentheses-shorter IsPosition position-shorter words rest is.0 is.1
tagged-shorter tag.LineString words rest content is = positions-shorter words rest is.0 is.1.positions
tagged-shorter tag.Polygon words rest content is = polygon-shorter words rest is.0 is.1
tagged-shorter tag.MultiPolygon words rest content is = polygons-shorter words rest is.0 is.1
tagged-shorter tag.Bbox words rest content is = box-shorter words rest is.0 is.1

pub shape-shorter : (words rest : List Token) (content : ShapeContent) → SpellsShape words rest content → length rest < length words
shape-shorter words rest content is = omega (arith, ap length is.tagged, tagged-shorter is.tag is.inner rest content is.spelled)

moved-tagged : (t : ShapeTag) (words others rest : List Token) (content : ShapeContent) → AreLike words others
    → SpellsTaggedShape t words rest content → Moved (λ w r. SpellsTaggedShape t w r content) others rest
moved-tagged tag.Point words others rest content alike is =
    let moved = moved-parentheses IsPosition moved-position words others rest is.0 alike is.1 in
    record { after = moved.after; alike = moved.alike; is = (is.0, moved.is, is.2) }
moved-tagged tag.LineString words others rest content alike is =
    let moved = moved-line words others rest is.0 alike is.1 in
    record { after = moved.after; alike = moved.alike; is = (is.0, moved.is, is.2) }
moved-tagged tag.Polygon words others rest content alike is =
    let moved = moved-polygon words others rest is.0 alike is.1 in
    record { after = moved.after; alike = moved.alike; is = (is.0, moved.is, is.2) }
moved-tagged tag.MultiPolygon words others rest content alike is =
    let moved = moved-polygons words others rest is.0 alike is.1 in
    record { after = moved.after; alike = moved.alike; is = (is.0, moved.is, is.2) }
moved-tagged tag.Bbox words others rest content alike is =
    let moved = moved-box words others rest is.0 alike is.1 in
    record { after = moved.after; alike = moved.alike; is = (is.0, moved.is, is.2) }

pub moved-shape : (words others rest : List Token) (content : ShapeContent) → AreLike words others → SpellsShape words rest content
    → Moved (λ w r. SpellsShape w r content) others rest
moved-shape words others rest content alike is =
    let tagged = first-by words others (Keyword (word.Shape is.tag)) is.inner alike is.tagged refl in
    let inner = moved-tagged is.tag is.inner tagged.later rest content tagged.alike is.spelled in
    record {
      after = inner.after;
      alike = inner.alike;
      is = record { tag = is.tag; inner = tagged.later; tagged = tagged.is; spelled = inner.is; few = is.few };
    }
