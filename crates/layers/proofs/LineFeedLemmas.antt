-- Features have no line feed.
use Rattle.std.proofs.Common.{◌≡◌, ℕ, ◌+◌, ◌/◌, ◌%◌, ◌==◌, ◌&&◌, not, nat_lt, Bool, true, false, ℤ, List, [], ◌∷◌, ◌++◌, map, All, Option, Some, None, option_map, codes, decimal, refl, ap, ap₂, ◌∙◌, inl, inr, arith, append_assoc}
use Rattle.std.proofs.lemmas.Bool.{and_parts, cases_Bool, eqb-true, ne_eqb}
use Rattle.std.proofs.lemmas.List.Elements.{All-cons, All-nil}
use Rattle.std.proofs.lemmas.List.Splits.{slice_split_at}
use Rattle.std.specs.Char.{digit_char}
use Rattle.std.specs.List.{flat_map, list_all, slice_split}
use Rattle.cql2.specs.Column.{coordinate_places, number_places}
use Rattle.cql2.specs.declared.column.Column.{Column as AColumn}
use Rattle.cql2.specs.declared.column.Column.TheVariants.{Numeric, Text}
use Rattle.cql2.specs.declared.column.NumberColumn.TheVariants.{Tlid}
use Rattle.cql2.specs.declared.column.NumericColumn.TheVariants.{Number, Coordinate}
use Rattle.cql2.specs.Column.{column_name}
use Rattle.numerals.specs.Degrees.{degrees}
use Rattle.layers.proofs.DigitLemmas.{passes-append, passes-decimal, passes-degrees}
use Rattle.layers.proofs.FeatureLemmas.{geometry_tokens, print-feature, print-first}
use Rattle.layers.proofs.NameLemmas.{flat-column_name}
use Rattle.layers.specs.Feature.{feature_start, feature_text, features_text, geometry_value, member_text, positions, value_text}
use Rattle.layers.specs.Geometry.{line_of}
use Rattle.layers.specs.Layout.{LayoutParts, SelectedParts}
use Rattle.layers.specs.Line.{further_points, point_text}
use Rattle.layers.specs.Value.{number_value, text_value, value_of}
use Rattle.layers.specs.declared.line.Notation.TheVariants.{GeoJson}
use Rattle.json.specs.Print.{escape, escape_byte, print_from, quoted}
use Rattle.json.specs.Token.{Token}
use Rattle.json.specs.Tree.{items_tokens}
use Rattle.tl_fields.specs.Coordinate.{coordinate_of}
use Rattle.tl_fields.specs.Number.{number_of, trim}
use Rattle.tl_records.specs.Layout.{field_at}
use Rattle.tl_segments.specs.declared.shape.Point.{Point}

abbrev is_flat : ℕ → Bool
is_flat b = not (b == 10)

-- each byte is escaped without one

flat-same : (b c : ℕ) → (b == c) ≡ true → list_all is_flat (escape_byte c) ≡ true → list_all is_flat (escape_byte b) ≡ true
flat-same b c same flat = ap (λ b. list_all is_flat (escape_byte b)) (eqb-true b c same) ∙ flat

flat-hex : (d : ℕ) → is_flat (digit_char d) ≡ true
flat-hex d = elim (cases_Bool (nat_lt d 10)) [
  | inl low ↦ rw (low) (ap not (ne_eqb (48 + d) 10 (λ is. omega arith)))
  | inr high ↦ rw (high) (ap not (ne_eqb (87 + d) 10 (λ is. omega arith)))
]

-- a byte that is escaped by its number, or not at all
flat-other : (b : ℕ) → (b == 34) ≡ false → (b == 92) ≡ false → (b == 8) ≡ false → (b == 12) ≡ false → (b == 10) ≡ false → (b == 13) ≡ false
    → (b == 9) ≡ false → list_all is_flat (escape_byte b) ≡ true
unfolding escape_byte
flat-other b quote backslash backspace form_feed line_feed carriage_return tab = elim (cases_Bool (nat_lt b 32)) [
  | inl low ↦
      rw (quote, backslash, backspace, form_feed, line_feed, carriage_return, tab, low)
      (ap₂ (λ x y. x && (y && true)) (flat-hex (b / 16)) (flat-hex (b % 16)))
  | inr high ↦ rw (quote, backslash, backspace, form_feed, line_feed, carriage_return, tab, high) (ap (λ test. not test && true) line_feed)
]

flat-escape_byte : (b : ℕ) → list_all is_flat (escape_byte b) ≡ true
unfolding escape_byte
flat-escape_byte b = elim (cases_Bool (b == 34)) [
  | inl same ↦ flat-same b 34 same refl
  | inr quote ↦ elim (cases_Bool (b == 92)) [
    | inl same ↦ flat-same b 92 same refl
    | inr backslash ↦ elim (cases_Bool (b == 8)) [
      | inl same ↦ flat-same b 8 same refl
      | inr backspace ↦ elim (cases_Bool (b == 12)) [
        | inl same ↦ flat-same b 12 same refl
        | inr form_feed ↦ elim (cases_Bool (b == 10)) [
          | inl same ↦ flat-same b 10 same refl
          | inr line_feed ↦ elim (cases_Bool (b == 13)) [
            | inl same ↦ flat-same b 13 same refl
            | inr carriage_return ↦ elim (cases_Bool (b == 9)) [
              | inl same ↦ flat-same b 9 same refl
              | inr tab ↦ flat-other b quote backslash backspace form_feed line_feed carriage_return tab
            ]
          ]
        ]
      ]
    ]
  ]
]

flat-escape : (bytes : List ℕ) → list_all is_flat (escape bytes) ≡ true
flat-escape [] = refl
flat-escape (b ∷ bytes) = passes-append is_flat (escape_byte b) (escape bytes) (flat-escape_byte b) (flat-escape bytes)

flat-quoted : (bytes : List ℕ) → list_all is_flat (quoted bytes) ≡ true
flat-quoted bytes = passes-append is_flat (34 ∷ escape bytes) (34 ∷ []) (flat-escape bytes) refl

flat-digit : (d : ℕ) → is_flat (48 + d) ≡ true
flat-digit d = ap not (ne_eqb (48 + d) 10 (λ is. omega arith))

flat-decimal : (n : ℕ) → list_all is_flat (decimal n) ≡ true
flat-decimal n = passes-decimal is_flat refl refl flat-digit n

flat-degrees : (z : ℤ) → list_all is_flat (degrees z) ≡ true
flat-degrees z = passes-degrees is_flat refl refl flat-digit z

-- values

flat-integer : (o : Option ℕ) → list_all is_flat (value_text (number_value (option_map decimal o))) ≡ true
flat-integer None = refl
flat-integer (Some n) = flat-decimal n

flat-coordinate : (o : Option ℤ) → list_all is_flat (value_text (number_value (option_map degrees o))) ≡ true
flat-coordinate None = refl
flat-coordinate (Some z) = flat-degrees z

flat-text : (bytes : List ℕ) → list_all is_flat (value_text (text_value bytes)) ≡ true
flat-text [] = refl
flat-text (b ∷ bytes) = flat-quoted _

flat-value : (column : AColumn) (line : List ℕ) → list_all is_flat (value_text (value_of column line)) ≡ true
flat-value (Numeric (Number Tlid)) line = flat-integer (number_of (field_at (number_places Tlid) line))
flat-value (Numeric (Number column)) line = flat-text (trim (field_at (number_places column) line))
flat-value (Numeric (Coordinate column)) line = flat-coordinate (coordinate_of (field_at (coordinate_places column) line))
flat-value (Text column) line = flat-text _

flat-member : (column : AColumn) (line : List ℕ) → list_all is_flat (member_text column line) ≡ true
flat-member column line =
    let name = column_name column in
    passes-append is_flat ((44 ∷ 34 ∷ name) ++ 34 ∷ 58 ∷ []) (value_text (value_of column line))
    (passes-append is_flat (44 ∷ 34 ∷ name) (34 ∷ 58 ∷ []) (flat-column_name column) refl) (flat-value column line)

flat-members : (columns : List AColumn) (line : List ℕ) → list_all is_flat (flat_map (λ column. member_text column line) columns) ≡ true
flat-members [] line = refl
flat-members (column ∷ columns) line =
    passes-append is_flat (member_text column line) (flat_map (λ column. member_text column line) columns) (flat-member column line) (flat-members columns line)

flat-start : (score : ℕ) (columns : List AColumn) (line : List ℕ) → list_all is_flat (feature_start score columns line) ≡ true
flat-start score columns line =
    let before = codes "{\"type\":\"Feature\",\"properties\":{\"score\":" in
    passes-append is_flat (before ++ decimal score) (flat_map (λ column. member_text column line) columns)
    (passes-append is_flat before (decimal score) refl (flat-decimal score)) (flat-members columns line)

-- geometries

flat-point : (point : Point) → list_all is_flat (point_text GeoJson point) ≡ true
flat-point point =
    passes-append is_flat (91 ∷ ((degrees point.longitude ++ 44 ∷ []) ++ degrees point.latitude)) (93 ∷ [])
    (passes-append is_flat (degrees point.longitude ++ 44 ∷ []) (degrees point.latitude)
    (passes-append is_flat (degrees point.longitude) (44 ∷ []) (flat-degrees point.longitude) refl) (flat-degrees point.latitude)) refl

flat-further : (points : List Point) → list_all is_flat (further_points GeoJson points) ≡ true
flat-further [] = refl
flat-further (point ∷ points) = passes-append is_flat (44 ∷ point_text GeoJson point) (further_points GeoJson points) (flat-point point) (flat-further points)

flat-geometry : (line : Option (List Point)) → list_all is_flat (print_from true (geometry_tokens (geometry_value line))) ≡ true
unfolding print_from escape_byte
flat-geometry None = refl
flat-geometry (Some []) = refl
flat-geometry (Some (point ∷ points)) =
    let items = items_tokens (positions (point ∷ points)) in
    let ended = Token.end_object ∷ [] in
    ap (λ tokens. list_all is_flat (print_from false tokens)) (append_assoc items ended ended)
    ∙ ap (list_all is_flat) (print-first point points (Token.end_object ∷ ended))
    ∙ passes-append is_flat (point_text GeoJson point) (further_points GeoJson points ++ 93 ∷ 125 ∷ 125 ∷ []) (flat-point point)
    (passes-append is_flat (further_points GeoJson points) (93 ∷ 125 ∷ 125 ∷ []) (flat-further points) refl)

flat-feature : (layout : LayoutParts) (one : SelectedParts) → list_all is_flat (feature_text layout one.score one.segment one.shape) ≡ true
flat-feature layout one =
    let value = geometry_value (line_of layout.geometry one.segment.bytes one.shape) in
    ap (list_all is_flat) (print-feature one.score layout.columns one.segment.bytes value)
    ∙ passes-append is_flat (feature_start one.score layout.columns one.segment.bytes) (125 ∷ print_from true (geometry_tokens value))
    (flat-start one.score layout.columns one.segment.bytes) (flat-geometry (line_of layout.geometry one.segment.bytes one.shape))

All-flat : (bytes : List ℕ) → list_all is_flat bytes ≡ true → All (λ b. (b == 10) ≡ false) bytes
All-flat [] flat = All-nil (λ (b : ℕ). (b == 10) ≡ false)
All-flat (b ∷ bytes) flat =
    let parts = and_parts (is_flat b) (list_all is_flat bytes) flat in
    All-cons (λ (b : ℕ). (b == 10) ≡ false) b bytes (not-false (b == 10) parts.0) (All-flat bytes parts.1)
  where
    not-false : (test : Bool) → not test ≡ true → test ≡ false
    not-false true e = cc e
    not-false false e = refl

pub lines_of_features : (layout : LayoutParts) (selected : List SelectedParts) → slice_split (λ b. b == 10) (features_text layout selected)
    ≡ map (λ one. feature_text layout one.score one.segment one.shape) selected ++ [] ∷ []
lines_of_features layout [] = refl
lines_of_features layout (one ∷ selected) =
    let line = feature_text layout one.score one.segment one.shape in
    ap (slice_split (λ b. b == 10)) (append_assoc line (10 ∷ []) (features_text layout selected))
    ∙ slice_split_at (λ b. b == 10) line 10 (features_text layout selected) (All-flat line (flat-feature layout one)) refl
    ∙ ap (λ lines. line ∷ lines) (lines_of_features layout selected)
