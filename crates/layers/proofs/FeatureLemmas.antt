-- Features as their pieces.
use Rattle.std.proofs.Common.{◌≡◌, ℕ, true, false, List, [], ◌∷◌, ◌++◌, Option, Some, None, option_map, codes, decimal, refl, sym, ap, ◌∙◌, append_assoc}
use Rattle.std.proofs.lemmas.Grind.{flat_map-append}
use Rattle.std.proofs.lemmas.List.{append-nil}
use Rattle.std.specs.List.{flat_map}
use Rattle.cql2.specs.Column.{column_name}
use Rattle.cql2.specs.declared.column.Column.{Column as AColumn}
use Rattle.numerals.specs.Degrees.{degrees}
use Rattle.layers.proofs.NameLemmas.{escape-column_name}
use Rattle.layers.specs.Feature.{end_without_line, feature_line, feature_start, geometry_value, member_text, positions, properties, property, value_text}
use Rattle.layers.specs.Geometry.{ends_for, inner_parts, line_with, points_of}
use Rattle.layers.specs.Layout.{LayoutParts}
use Rattle.layers.specs.Line.{further_points, line_start, point_text, rest_text, start_text}
use Rattle.layers.specs.Value.{ValueParts, missing, text, number, value_of}
use Rattle.layers.specs.declared.ends.Ends.{Ends}
use Rattle.layers.specs.declared.line.Notation.TheVariants.{GeoJson}
use Rattle.json.specs.Json as json
use Rattle.json.specs.Print.{escape_byte, print, print_from, quoted}
use Rattle.json.specs.Token.{Token}
use Rattle.json.specs.Tree.{items_tokens, json_tokens, members_tokens}
use Rattle.tl_segments.specs.Segment.{SegmentParts}
use Rattle.tl_segments.specs.Shape.{ShapePartParts}
use Rattle.tl_segments.specs.declared.shape.Point.{Point}

-- how texts are joined

joined-member : (name value rest : List ℕ) → 44 ∷ ((34 ∷ (name ++ 34 ∷ []) ++ 58 ∷ []) ++ (value ++ rest))
    ≡ (codes ",\"" ++ name ++ codes "\":" ++ value) ++ rest
joined-member name value rest = simp append_assoc

joined-point : (x y rest : List ℕ) → 91 ∷ (x ++ 44 ∷ (y ++ 93 ∷ rest)) ≡ (codes "[" ++ (x ++ 44 ∷ [] ++ y) ++ codes "]") ++ rest
joined-point x y rest = simp append_assoc

joined-start : (a b c d : List ℕ) → a ++ (b ++ (c ++ d)) ≡ ((a ++ b) ++ c) ++ d
joined-start a b c d = simp append_assoc

joined-line : (before start parts end : List ℕ) → (before ++ (start ++ ((parts ++ 44 ∷ (end ++ [])) ++ 93 ∷ 125 ∷ 125 ∷ []))) ++ 10 ∷ []
    ≡ (before ++ start) ++ (parts ++ (44 ∷ [] ++ end ++ 93 ∷ 125 ∷ 125 ∷ 10 ∷ []))
joined-line before start parts end = simp (append_assoc, append-nil)

-- the value of a member, and what follows it
print-property : (value : ValueParts) (rest : List Token) → print_from false (json_tokens (property value) ++ rest) ≡ value_text value ++ print_from true rest
unfolding print_from
print-property missing rest = refl
print-property (text bytes) rest = refl
print-property (number bytes) rest = refl

print-properties : (columns : List AColumn) (line : List ℕ) (rest : List Token) → print_from true (members_tokens (properties columns line) ++ rest)
    ≡ flat_map (λ column. member_text column line) columns ++ 125 ∷ print_from true rest
unfolding print_from
print-properties [] line rest = refl
print-properties (column ∷ columns) line rest =
    let name = column_name column in
    let value = value_of column line in
    let more = members_tokens (properties columns line) in
    let members = flat_map (λ column. member_text column line) columns in
    ap (λ tokens. 44 ∷ ((quoted name ++ 58 ∷ []) ++ print_from false tokens)) (append_assoc (json_tokens (property value)) more rest)
    ∙ ap (λ text. 44 ∷ ((quoted name ++ 58 ∷ []) ++ text)) (print-property value (more ++ rest) ∙ ap (λ text. value_text value ++ text) (print-properties columns line rest))
    ∙ ap (λ name. 44 ∷ ((34 ∷ (name ++ 34 ∷ []) ++ 58 ∷ []) ++ (value_text value ++ (members ++ 125 ∷ print_from true rest)))) (escape-column_name column)
    ∙ joined-member name (value_text value) (members ++ 125 ∷ print_from true rest)
    ∙ sym (append_assoc (member_text column line) members (125 ∷ print_from true rest))

print-positions : (points : List Point) (rest : List Token) → print_from true (items_tokens (positions points) ++ rest)
    ≡ further_points GeoJson points ++ 93 ∷ print_from true rest
unfolding print_from
print-positions [] rest = refl
print-positions (point ∷ points) rest =
    ap (λ text. 44 ∷ 91 ∷ (degrees point.longitude ++ 44 ∷ (degrees point.latitude ++ 93 ∷ text))) (print-positions points rest)
    ∙ ap (λ text. 44 ∷ text) (joined-point (degrees point.longitude) (degrees point.latitude) (further_points GeoJson points ++ 93 ∷ print_from true rest))
    ∙ sym (append_assoc (44 ∷ point_text GeoJson point) (further_points GeoJson points) (93 ∷ print_from true rest))

pub print-first : (point : Point) (points : List Point) (rest : List Token) → print_from false (items_tokens (positions (point ∷ points)) ++ rest)
    ≡ point_text GeoJson point ++ (further_points GeoJson points ++ 93 ∷ print_from true rest)
unfolding print_from
print-first point points rest =
    ap (λ text. 91 ∷ (degrees point.longitude ++ 44 ∷ (degrees point.latitude ++ 93 ∷ text))) (print-positions points rest)
    ∙ joined-point (degrees point.longitude) (degrees point.latitude) (further_points GeoJson points ++ 93 ∷ print_from true rest)

-- the member of the geometry, and the end of the feature
abbrev pub geometry_tokens : json.Json → List Token
geometry_tokens value = Token.key (codes "geometry") ∷ (json_tokens value ++ Token.end_object ∷ [])

abbrev pub feature_with : ℕ → List AColumn → List ℕ → json.Json → json.Json
feature_with score columns line value = json.object (json.member (codes "type") (json.string (codes "Feature"))
    (json.member (codes "properties") (json.object (json.member (codes "score") (json.number (decimal score)) (properties columns line)))
    (json.member (codes "geometry") value json.no_members)))

pub print-feature : (score : ℕ) (columns : List AColumn) (line : List ℕ) (value : json.Json) → print (json_tokens (feature_with score columns line value))
    ≡ feature_start score columns line ++ 125 ∷ print_from true (geometry_tokens value)
unfolding print_from escape_byte
print-feature score columns line value =
    ap (λ text. codes "{\"type\":\"Feature\",\"properties\":{\"score\":" ++ (decimal score ++ text)) (print-properties columns line (geometry_tokens value))
    ∙ joined-start (codes "{\"type\":\"Feature\",\"properties\":{\"score\":") (decimal score) (flat_map (λ column. member_text column line) columns)
    (125 ∷ print_from true (geometry_tokens value))

points-further : (shape : List ShapePartParts) → further_points GeoJson (points_of shape) ≡ flat_map (λ part. further_points GeoJson part.points) shape
points-further [] = refl
points-further (part ∷ shape) =
    flat_map-append (λ point. 44 ∷ point_text GeoJson point) part.points (points_of shape) ∙ ap (λ rest. further_points GeoJson part.points ++ rest) (points-further shape)

-- a feature without a line
print-null : 125 ∷ print_from true (geometry_tokens json.null) ++ 10 ∷ [] ≡ end_without_line
unfolding print_from escape_byte
print-null = refl

-- a line
module _ (shape : List ShapePartParts) (ends : Ends) where
  abbrev start : List ℕ
  start = point_text GeoJson ends.start

  abbrev parts : List ℕ
  parts = flat_map (λ part. further_points GeoJson part.points) shape

  abbrev end : List ℕ
  end = point_text GeoJson ends.end

  print-line : 125 ∷ print_from true (geometry_tokens (geometry_value (Some (line_with (points_of shape) ends)))) ++ 10 ∷ []
      ≡ start_text GeoJson ends.start ++ rest_text GeoJson shape ends.end
  unfolding print_from escape_byte
  print-line =
      let points = points_of shape ++ ends.end ∷ [] in
      let items = items_tokens (positions (ends.start ∷ points)) in
      let ended = Token.end_object ∷ [] in
      ap (λ tokens. (line_start GeoJson ++ print_from false tokens) ++ 10 ∷ []) (append_assoc items ended ended)
      ∙ ap (λ text. (line_start GeoJson ++ text) ++ 10 ∷ []) (print-first ends.start points (Token.end_object ∷ ended)
      ∙ ap (λ text. start ++ (text ++ 93 ∷ 125 ∷ 125 ∷ [])) (flat_map-append (λ point. 44 ∷ point_text GeoJson point) (points_of shape) (ends.end ∷ [])
      ∙ ap (λ text. text ++ 44 ∷ (end ++ [])) (points-further shape)))
      ∙ joined-line (line_start GeoJson) start parts end

module _ (layout : LayoutParts) (score : ℕ) (segment : SegmentParts) (shape : List ShapePartParts) where
  feature_is : (line : Option (List Point))
      → option_map (line_with (points_of (inner_parts layout.geometry shape))) (ends_for layout.geometry segment.bytes) ≡ line
      → feature_start score layout.columns segment.bytes ++ (125 ∷ print_from true (geometry_tokens (geometry_value line)) ++ 10 ∷ [])
      ≡ feature_line layout score segment shape
  feature_is line is =
      sym (append_assoc (feature_start score layout.columns segment.bytes) (125 ∷ print_from true (geometry_tokens (geometry_value line))) (10 ∷ []))
      ∙ ap (λ text. text ++ 10 ∷ []) (sym (print-feature score layout.columns segment.bytes (geometry_value line)))
      ∙ ap (λ line. print (json_tokens (feature_with score layout.columns segment.bytes (geometry_value line))) ++ 10 ∷ []) (sym is)

  pub feature_without_line : ends_for layout.geometry segment.bytes ≡ None
      → feature_start score layout.columns segment.bytes ++ end_without_line ≡ feature_line layout score segment shape
  feature_without_line none =
      ap (λ text. feature_start score layout.columns segment.bytes ++ text) (sym print-null)
      ∙ feature_is None (ap (option_map (line_with (points_of (inner_parts layout.geometry shape)))) none)

  pub feature_with_line : (ends : Ends) → ends_for layout.geometry segment.bytes ≡ Some ends
      → (feature_start score layout.columns segment.bytes ++ start_text GeoJson ends.start) ++ rest_text GeoJson (inner_parts layout.geometry shape) ends.end
      ≡ feature_line layout score segment shape
  feature_with_line ends is =
      let before = feature_start score layout.columns segment.bytes in
      let inner = inner_parts layout.geometry shape in
      append_assoc before (start_text GeoJson ends.start) (rest_text GeoJson inner ends.end)
      ∙ ap (λ text. before ++ text) (sym (print-line inner ends))
      ∙ feature_is (Some (line_with (points_of inner) ends)) (ap (option_map (line_with (points_of inner))) is)
