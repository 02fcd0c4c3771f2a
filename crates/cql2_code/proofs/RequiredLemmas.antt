-- The questions about a piece of a pattern answer whether the record or a field has it.
use Rattle.std.proofs.Common.{◌≡◌, ℕ, zero, suc, ◌+◌, ◌-◌, ◌<◌, ◌≤◌, ◌==◌, nat_le, Bool, true, false, not, ◌&&◌, ◌||◌, List, [], ◌∷◌, ◌++◌}
use Rattle.std.proofs.Common.{length, length-drop, map, get_or, take, drop, Option, Some, None, if◌then◌else◌, refl, sym, ap, ◌∙◌, arith}
use Rattle.std.specs.List.{list_any}
use Rattle.std.proofs.lemmas.Bool.{and_parts, eqb-false, eqb-true, false≢true, leb-false, leb-true, ltb-true}
use Rattle.std.proofs.lemmas.Bool.Decides.{nat_tests}
use Rattle.std.proofs.lemmas.List.{drop-drop, drop-take, drop_all, length-map}
use Rattle.tl_fields.specs.Number.{is_blank as are_blank}
use Rattle.tl_segments.specs.Segment.{SegmentParts, IsSegment}
use Rattle.cql2.specs.Folding.{is_alike}
use Rattle.cql2.specs.Pattern.{are_bytes, is_byte, is_like as is_text_like}
use Rattle.cql2.specs.declared.pattern.PatternPart.{PatternPart}
use Rattle.cql2.specs.declared.pattern.PatternPart.TheVariants.{Exactly, Alike, One, Many}
use Rattle.cql2_code.specs.Lowering.{are_required, both, bytes_alike, bytes_where, ends_at, ends_filled, ends_so, exact_bytes, is_among, is_blank}
use Rattle.cql2_code.specs.Lowering.{is_each_required, is_filled, is_piece, is_required}
use Rattle.cql2_code.specs.Pieces.{least_length}
use Rattle.cql2_code.specs.Question.{Decided, answer}
use Rattle.cql2_code.specs.declared.field.Field.{Field}
use Rattle.cql2_code.proofs.ByteLemmas.{AreSmall, begins, byte_equals, byte_read, bytes_found, first_byte}
use Rattle.cql2_code.proofs.FieldLemmas.{IsInside, bytes_in, field_long, has_text, rest_found}
use Rattle.cql2_code.proofs.JoinLemmas.{and_assoc, and_false, and_true, and_twice, both_answers}
use Rattle.cql2_code.proofs.PieceLemmas.{IsPiece, is_single, like, like_none, like_part_field, piece_bytes, respelled, takes}
use Rattle.cql2_code.proofs.SearchLemmas.{like_long, wants}
use Rattle.cql2_code.proofs.TrimLemmas.{trimmed, trimmed_blank}

-- Fields

-- the field is blank after the required bytes
abbrev pub closes : List PatternPart → List ℕ → Bool
closes piece field = are_blank (drop (length piece) field)

-- the field isn't blank from the last required byte on
abbrev pub fills : List PatternPart → List ℕ → Bool
fills [] field = not (are_blank field)
fills (required ∷ []) field = not (are_blank field)
fills (required ∷ next ∷ piece) [] = false
fills (required ∷ next ∷ piece) (byte ∷ field) = fills (next ∷ piece) field

fills_is : (piece : List PatternPart) (field : List ℕ) → length piece ≤ length field
    → not (are_blank (drop (length piece - 1) field)) ≡ fills piece field
fills_is [] field long = refl
fills_is (required ∷ []) field long = refl
fills_is (required ∷ next ∷ piece) [] long = absurd (omega arith)
fills_is (required ∷ next ∷ piece) (byte ∷ field) long =
    let one_less : length (required ∷ next ∷ piece) - 1 ≡ suc (length (next ∷ piece) - 1) = omega arith in
    ap (λ (count : ℕ). not (are_blank (drop count (byte ∷ field)))) one_less ∙ fills_is (next ∷ piece) field (omega arith)

-- a piece, followed by more bytes if the pattern is open
abbrev pub ending : List PatternPart → Bool → List PatternPart
ending piece is_open = piece ++ respelled [] is_open

like_open : (text : List ℕ) → is_text_like (Many ∷ []) text ≡ true
like_open [] = refl
like_open (byte ∷ text) = like_open text

-- the text in a field matches a pattern of no bytes: the field is blank, or the pattern is open
like_nothing : (is_open : Bool) (field : List ℕ) → like (ending [] is_open) field ≡ (is_open || are_blank field)
like_nothing true field = like_open (trimmed field)
like_nothing false [] = refl
like_nothing false (byte ∷ field) = by_blank (are_blank (byte ∷ field))
  where
    by_blank : (blank : Bool) → is_text_like [] (if blank then [] else byte ∷ trimmed field) ≡ blank
    by_blank true = refl
    by_blank false = refl

has_more : (required : PatternPart) (pattern : List PatternPart) (byte : ℕ) (field : List ℕ) → is_single required ≡ true
    → has_text (is_text_like (required ∷ pattern)) (byte ∷ field)
    ≡ (not (are_blank (byte ∷ field)) && (takes required byte && like pattern field))
has_more required pattern byte field single =
    ap (λ (like : Bool). not (are_blank (byte ∷ field)) && like) (like_part_field required pattern byte field single)
    ∙ and_twice (not (are_blank (byte ∷ field))) (takes required byte && like pattern field)

last_required : (required closed filled : Bool) → (required && true && (closed && filled)) ≡ (filled && (required && closed))
last_required true true true = refl
last_required true true false = refl
last_required true false true = refl
last_required true false false = refl
last_required false true true = refl
last_required false true false = refl
last_required false false true = refl
last_required false false false = refl

-- a blank rest has no text that matches a pattern of one or more bytes
rest_like : (blank_byte required_byte : Bool) (required : PatternPart) (pattern : List PatternPart) (field : List ℕ) → is_single required ≡ true
    → (required_byte && has_text (is_text_like (required ∷ pattern)) field)
    ≡ (not (blank_byte && are_blank field) && (required_byte && like (required ∷ pattern) field))
rest_like blank_byte required_byte required pattern field single = by_blank blank_byte required_byte (are_blank field) refl
  where
    none : are_blank field ≡ true → like (required ∷ pattern) field ≡ false
    none is = ap (λ (text : List ℕ). is_text_like (required ∷ pattern) text) (trimmed_blank field is) ∙ like_none required pattern single

    by_blank : (blank_byte required_byte blank : Bool) → are_blank field ≡ blank
        → (required_byte && (not blank && like (required ∷ pattern) field))
        ≡ (not (blank_byte && blank) && (required_byte && like (required ∷ pattern) field))
    by_blank true true true is = refl
    by_blank true false true is = refl
    by_blank false true true is = sym (none is)
    by_blank false false true is = refl
    by_blank true required_byte false is = refl
    by_blank false required_byte false is = refl

-- A field isn't blank and its text matches a piece exactly if the field begins with the bytes that the piece wants, is blank after them unless
-- the pattern is open, and isn't blank from the last required byte on.
pub like_parts : (piece : List PatternPart) (is_open : Bool) (field : List ℕ) → IsPiece piece → length piece ≤ length field
    → (wants piece field && ((is_open || closes piece field) && fills piece field)) ≡ has_text (is_text_like (ending piece is_open)) field
like_parts [] is_open field are long =
    by_blank is_open (are_blank field) ∙ sym (ap (λ (like : Bool). not (are_blank field) && like) (like_nothing is_open field))
  where
    by_blank : (is_open blank : Bool) → ((is_open || blank) && not blank) ≡ (not blank && (is_open || blank))
    by_blank true true = refl
    by_blank true false = refl
    by_blank false true = refl
    by_blank false false = refl
like_parts (required ∷ piece) is_open [] are long = absurd (omega arith)
like_parts (required ∷ []) is_open (byte ∷ field) are long =
    last_required (takes required byte) (is_open || are_blank field) (not (are_blank (byte ∷ field)))
    ∙ ap (λ (like : Bool). not (are_blank (byte ∷ field)) && (takes required byte && like)) (sym (like_nothing is_open field))
    ∙ sym (has_more required (ending [] is_open) byte field are.0.single)
like_parts (required ∷ next ∷ piece) is_open (byte ∷ field) are long =
    sym (and_assoc (takes required byte) (wants (next ∷ piece) field) _)
    ∙ ap (λ (rest : Bool). takes required byte && rest) (like_parts (next ∷ piece) is_open field are.1 (omega arith))
    ∙ rest_like (byte == 32) (takes required byte) next (ending piece is_open) field are.1.0.single
    ∙ sym (has_more required (ending (next ∷ piece) is_open) byte field are.0.single)

pub taken_piece : (piece pattern : List PatternPart) → IsPiece piece → least_length (piece ++ pattern) ≡ length piece + least_length pattern
taken_piece [] pattern are = omega arith
taken_piece (part ∷ piece) pattern are = one_more part are.0.single (taken_piece piece pattern are.1)
  where
    one_more : (part : PatternPart) → is_single part ≡ true → least_length (piece ++ pattern) ≡ length piece + least_length pattern
        → least_length (part ∷ (piece ++ pattern)) ≡ suc (length piece) + least_length pattern
    one_more (Exactly required) single rest = omega arith
    one_more (Alike folding required) single rest = omega arith
    one_more One single rest = omega arith
    one_more Many single rest = absurd (false≢true single)

pub taken_ending : (piece : List PatternPart) (is_open : Bool) → IsPiece piece → least_length (ending piece is_open) ≡ length piece
taken_ending piece true are = let sum = taken_piece piece (Many ∷ []) are in omega arith
taken_ending piece false are = let sum = taken_piece piece [] are in omega arith

no_blank_by : (good : ℕ → Bool) (byte : ℕ) → not (good 32) ≡ true → good byte ≡ true → (byte == 32) ≡ false
no_blank_by good byte filled is = by_byte (byte == 32) refl
  where
    not_both : (found : Bool) → not found ≡ true → found ≡ true → ⊥
    not_both true one two = false≢true one
    not_both false one two = false≢true two

    by_byte : (blank : Bool) → (byte == 32) ≡ blank → blank ≡ false
    by_byte true same = absurd (not_both (good 32) filled (sym (ap good (eqb-true byte 32 same)) ∙ is))
    by_byte false same = refl

no_blank : (required : PatternPart) (byte : ℕ) → is_filled required ≡ true → takes required byte ≡ true → (byte == 32) ≡ false
no_blank (Exactly required) byte filled is = grind (arith, nat_tests)
no_blank (Alike folding required) byte filled is = no_blank_by (λ other. is_alike folding other required) byte filled is
no_blank One byte filled is = absurd (false≢true filled)
no_blank Many byte filled is = absurd (false≢true filled)

-- if the last required byte is not a blank, a field that begins with the required bytes isn't blank there
filled_on : (piece : List PatternPart) (field : List ℕ) → ends_filled piece ≡ true → wants piece field ≡ true → fills piece field ≡ true
filled_on [] field filled is = absurd (false≢true filled)
filled_on (required ∷ piece) [] filled is = absurd (false≢true is)
filled_on (required ∷ []) (byte ∷ field) filled is =
    ap (λ (blank : Bool). not (blank && are_blank field)) (no_blank required byte filled (and_parts (takes required byte) true is).0)
filled_on (required ∷ next ∷ piece) (byte ∷ field) filled is = filled_on (next ∷ piece) field filled (and_parts (takes required byte) _ is).1

-- Bytes of the record that a pattern requires

wants_take : (piece : List PatternPart) (count : ℕ) (bytes : List ℕ) → length piece ≤ count
    → wants piece bytes ≡ wants piece (take count bytes)
wants_take [] count bytes few = refl
wants_take (required ∷ piece) zero bytes few = absurd (omega arith)
wants_take (required ∷ piece) (suc count) [] few = refl
wants_take (required ∷ piece) (suc count) (byte ∷ bytes) few =
    ap (λ (rest : Bool). takes required byte && rest) (wants_take piece count bytes (omega arith))

-- a piece wants exactly these bytes, if it has exact bytes
abbrev pub Spells : Option (List ℕ) → List PatternPart → Type 0
Spells None piece = Unit {0}
Spells (Some bytes) piece = piece ≡ map Exactly bytes

spells_more : (byte : ℕ) (piece : List PatternPart) (found : Option (List ℕ)) → exact_bytes piece ≡ found → Spells found piece
    → Spells (exact_bytes (Exactly byte ∷ piece)) (Exactly byte ∷ piece)
spells_more byte piece None is spelled = rw is tt
spells_more byte piece (Some bytes) is spelled = rw is (ap (λ (rest : List PatternPart). Exactly byte ∷ rest) spelled)

pub spells : (piece : List PatternPart) → Spells (exact_bytes piece) piece
spells [] = refl
spells (Exactly byte ∷ piece) = spells_more byte piece (exact_bytes piece) refl (spells piece)
spells (Alike folding required ∷ piece) = tt
spells (One ∷ piece) = tt
spells (Many ∷ piece) = tt

begins_wants : (bytes required : List ℕ) → begins bytes required ≡ wants (map Exactly required) bytes
begins_wants bytes [] = refl
begins_wants [] (byte ∷ required) = refl
begins_wants (first ∷ bytes) (byte ∷ required) = ap (λ (rest : Bool). first == byte && rest) (begins_wants bytes required)

pub small_required : (bytes : List ℕ) → are_bytes (map Exactly bytes) ≡ true → AreSmall bytes
small_required [] are = tt
small_required (byte ∷ bytes) are =
    let parts = and_parts (is_byte (Exactly byte)) (are_bytes (map Exactly bytes)) are in
    (ltb-true byte 256 parts.0, small_required bytes parts.1)

-- the bytes that a test chooses

pub small_where : (good : ℕ → Bool) (limit : ℕ) → limit ≤ 256 → AreSmall (bytes_where good limit)
unfolding bytes_where
small_where good zero few = tt
small_where good (suc byte) few = by_test (good byte) (small_where good byte (omega arith))
  where
    by_test : (chosen : Bool) → AreSmall (bytes_where good byte)
        → AreSmall (if chosen then byte ∷ bytes_where good byte else bytes_where good byte)
    by_test true rest = (omega arith, rest)
    by_test false rest = rest

where_above : (good : ℕ → Bool) (limit byte : ℕ) → limit ≤ byte → list_any (λ other. byte == other) (bytes_where good limit) ≡ false
unfolding bytes_where
where_above good zero byte above = refl
where_above good (suc limit) byte above =
    by_test (good limit) (eqb-ne (omega arith)) (where_above good limit byte (omega arith))
  where
    eqb-ne : limit < byte → (byte == limit) ≡ false
    eqb-ne less = grind (arith, nat_tests)

    by_test : (chosen : Bool) → (byte == limit) ≡ false → list_any (λ other. byte == other) (bytes_where good limit) ≡ false
        → list_any (λ other. byte == other) (if chosen then limit ∷ bytes_where good limit else bytes_where good limit) ≡ false
    by_test true other rest = ap (λ (first : Bool). first || list_any (λ other. byte == other) (bytes_where good limit)) other ∙ rest
    by_test false other rest = rest

pub where_any : (good : ℕ → Bool) (limit byte : ℕ) → byte < limit → list_any (λ other. byte == other) (bytes_where good limit) ≡ good byte
unfolding bytes_where
where_any good zero byte below = absurd (omega arith)
where_any good (suc limit) byte below = by_byte (byte == limit) refl (λ less. where_any good limit byte less)
  where
    others : Bool
    others = list_any (λ other. byte == other) (bytes_where good limit)

    here : (chosen : Bool) → (byte == limit) ≡ true → others ≡ false
        → list_any (λ other. byte == other) (if chosen then limit ∷ bytes_where good limit else bytes_where good limit) ≡ chosen
    here true same rest = ap (λ (first : Bool). first || others) same
    here false same rest = rest

    later : (chosen : Bool) → (byte == limit) ≡ false
        → list_any (λ other. byte == other) (if chosen then limit ∷ bytes_where good limit else bytes_where good limit) ≡ others
    later true other = ap (λ (first : Bool). first || others) other
    later false other = refl

    by_byte : (same : Bool) → (byte == limit) ≡ same → (byte < limit → others ≡ good byte)
        → list_any (λ other. byte == other) (if good limit then limit ∷ bytes_where good limit else bytes_where good limit) ≡ good byte
    by_byte true is rest =
        let e = eqb-true byte limit is in here (good limit) is (where_above good limit byte (omega arith)) ∙ sym (ap good e)
    by_byte false is rest = let e = eqb-false byte limit is in later (good limit) is ∙ rest (omega arith)

-- a piece whose bytes are within the record, at an offset
pub record Fits (at : ℕ) (piece : List PatternPart) : Type 0 where
  pub within : at + length piece ≤ 228
  pub are : IsPiece piece

pub fits_first : (at : ℕ) (required : PatternPart) (piece : List PatternPart) → Fits at (required ∷ piece)
    → (at < 228) × (is_byte required ≡ true)
fits_first at required piece fits = let within = fits.within in (omega arith, fits.are.0.is_byte)

pub fits_rest : (at : ℕ) (required : PatternPart) (piece : List PatternPart) → Fits at (required ∷ piece) → Fits (at + 1) piece
fits_rest at required piece fits = let within = fits.within in record { within = omega arith; are = fits.are.1 }

module _ (segment : SegmentParts) (is : IsSegment segment) where
  among_found : (at : ℕ) (bytes : List ℕ) → at < 228 → AreSmall bytes
      → answer (is_among at bytes) segment ≡ list_any (λ other. get_or segment.bytes at 0 == other) bytes
  among_found at [] within small = refl
  among_found at (byte ∷ []) within small = byte_equals segment is at byte within small.0 ∙ sym (or_false (get_or segment.bytes at 0 == byte))
    where
      or_false : (a : Bool) → (a || false) ≡ a
      or_false true = refl
      or_false false = refl
  among_found at (byte ∷ next ∷ bytes) within small =
      ap (λ (number : ℕ). list_any (λ other. number == other) (byte ∷ next ∷ bytes)) (byte_read segment is at within)

  byte_required : (at : ℕ) (required : PatternPart) → at < 228 → is_byte required ≡ true
      → answer (is_required at required) segment ≡ takes required (get_or segment.bytes at 0)
  byte_required at (Exactly byte) within are = byte_equals segment is at byte within (ltb-true byte 256 are)
  byte_required at (Alike folding required) within are =
      among_found at (bytes_alike folding required) within (small_where (λ byte. is_alike folding byte required) 256 (omega arith))
      ∙ where_any (λ byte. is_alike folding byte required) 256 (get_or segment.bytes at 0) (is.bytes.bytes at)
  byte_required at One within are = refl
  byte_required at Many within are = refl

  first_required : (at : ℕ) (required : PatternPart) (piece : List PatternPart) → at < 228 → wants (required ∷ piece) (drop at segment.bytes)
      ≡ (takes required (get_or segment.bytes at 0) && wants piece (drop (at + 1) segment.bytes))
  first_required at required piece within = ap (λ (bytes : List ℕ). wants (required ∷ piece) bytes) (first_byte segment is at within)

  each_required : (at : ℕ) (piece : List PatternPart) → Fits at piece
      → answer (is_each_required at piece) segment ≡ wants piece (drop at segment.bytes)
  each_required at [] fits = refl
  each_required at (required ∷ []) fits =
      let first = fits_first at required [] fits in
      byte_required at required first.0 first.1
      ∙ sym (and_true (takes required (get_or segment.bytes at 0))) ∙ sym (first_required at required [] first.0)
  each_required at (required ∷ next ∷ piece) fits =
      let first = fits_first at required (next ∷ piece) fits in
      let others = each_required (at + 1) (next ∷ piece) (fits_rest at required (next ∷ piece) fits) in
      both_answers (byte_required at required first.0 first.1) others
      ∙ sym (first_required at required (next ∷ piece) first.0)

  required_by : (at : ℕ) (piece : List PatternPart) (exact : Option (List ℕ)) → exact_bytes piece ≡ exact → Spells exact piece
      → Fits at piece → answer (are_required at piece) segment ≡ wants piece (drop at segment.bytes)
  required_by at piece None exact spelled fits = rw exact (each_required at piece fits)
  required_by at piece (Some bytes) exact spelled fits =
      let count : length piece ≡ length bytes = ap length spelled ∙ length-map bytes Exactly in
      let within = fits.within in
      rw exact (bytes_found segment is at bytes (small_required bytes (sym (ap are_bytes spelled) ∙ piece_bytes piece fits.are)) (omega arith)
      ∙ begins_wants (drop at segment.bytes) bytes
      ∙ sym (ap (λ (required : List PatternPart). wants required (drop at segment.bytes)) spelled))

  required_found : (at : ℕ) (piece : List PatternPart) → Fits at piece
      → answer (are_required at piece) segment ≡ wants piece (drop at segment.bytes)
  required_found at piece fits = required_by at piece (exact_bytes piece) refl (spells piece) fits

-- Fields of columns

with_fills : (required filled : Bool) → (required ≡ true → filled ≡ true) → required ≡ (required && filled)
with_fills true filled so = sym (so refl)
with_fills false filled so = refl

with_both : (required closed filled : Bool) → (required ≡ true → filled ≡ true) → (required && closed) ≡ (required && (closed && filled))
with_both true closed filled so = sym (ap (λ (b : Bool). closed && b) (so refl) ∙ and_true closed)
with_both false closed filled so = refl

-- a piece from a byte of a field on
pub record FitsField (field : Field) (from : ℕ) (piece : List PatternPart) : Type 0 where
  pub within : from + length piece ≤ field.width
  pub are : IsPiece piece

pub fits_record : (field : Field) → IsInside field → (from : ℕ) (piece : List PatternPart) → FitsField field from piece
    → Fits (field.offset + from) piece
fits_record field lies from piece fits =
    let short = fits.within in record { within = omega arith; are = fits.are }

-- a last piece: it has a last part, or begins with the field
pub record FitsLast (field : Field) (from : ℕ) (piece : List PatternPart) : Type 0 where
  pub fits : FitsField field from piece
  pub last : from + length piece - 1 ≡ from + (length piece - 1)

module _ (segment : SegmentParts) (is : IsSegment segment) (field : Field) (lies : IsInside field) where
  -- a field from a byte on
  field_from : (from : ℕ) → from ≤ field.width
      → drop from (bytes_in field segment) ≡ take (field.width - from) (drop (field.offset + from) segment.bytes)
  field_from from few =
      let rest = field.width - from in
      let whole : field.width ≡ from + rest = omega arith in
      ap (λ (width : ℕ). drop from (take width (drop field.offset segment.bytes))) whole
      ∙ drop-take from rest (drop field.offset segment.bytes)
      ∙ ap (take rest) (drop-drop from field.offset segment.bytes)

  -- a piece is in a field from a byte on
  pub required_here : (from : ℕ) (piece : List PatternPart) → FitsField field from piece
      → answer (are_required (field.offset + from) piece) segment ≡ wants piece (drop from (bytes_in field segment))
  required_here from piece fits =
      let within = fits.within in
      required_found segment is (field.offset + from) piece (fits_record field lies from piece fits)
      ∙ wants_take piece (field.width - from) (drop (field.offset + from) segment.bytes) (omega arith)
      ∙ sym (ap (wants piece) (field_from from (omega arith)))

module _ (segment : SegmentParts) (is : IsSegment segment) (field : Field) (lies : IsInside field) (from : ℕ)
    (piece : List PatternPart) (all : FitsLast field from piece) where
  fills_here : not (answer (is_blank (field.offset + (from + length piece - 1)) (field.width - (from + length piece - 1))) segment)
      ≡ fills piece (drop from (bytes_in field segment))
  fills_here =
      let within = all.fits.within in
      let long = field_long segment is field lies in
      ap not (rest_found segment is field lies (from + length piece - 1) (omega arith))
      ∙ ap (λ (count : ℕ). not (are_blank (drop count (bytes_in field segment)))) all.last
      ∙ sym (ap (λ (bytes : List ℕ). not (are_blank bytes)) (drop-drop (length piece - 1) from (bytes_in field segment)))
      ∙ fills_is piece (drop from (bytes_in field segment)) (omega (arith, length-drop from (bytes_in field segment)))

  closes_here : answer (is_blank (field.offset + (from + length piece)) (field.width - (from + length piece))) segment
      ≡ closes piece (drop from (bytes_in field segment))
  closes_here =
      rest_found segment is field lies (from + length piece) all.fits.within
      ∙ sym (ap are_blank (drop-drop (length piece) from (bytes_in field segment)))

  filled_here : ends_filled piece ≡ true → wants piece (drop from (bytes_in field segment)) ≡ true
      → fills piece (drop from (bytes_in field segment)) ≡ true
  filled_here filled required = filled_on piece (drop from (bytes_in field segment)) filled required

  -- nothing follows after as many bytes as the field has
  whole_closes : from + length piece ≡ field.width → closes piece (drop from (bytes_in field segment)) ≡ true
  whole_closes whole =
      let long = field_long segment is field lies in
      ap are_blank (drop_all (length piece) (drop from (bytes_in field segment)) (omega (arith, length-drop from (bytes_in field segment))))

  ends_closed : (whole : Bool) → (from + length piece == field.width) ≡ whole → ends_filled piece ≡ true
      → answer (both (are_required (field.offset + from) piece) (if whole then None
      else Some (is_blank (field.offset + (from + length piece)) (field.width - (from + length piece))))) segment
      ≡ (wants piece (drop from (bytes_in field segment))
      && (closes piece (drop from (bytes_in field segment)) && fills piece (drop from (bytes_in field segment))))
  ends_closed true whole filled =
      required_here segment is field lies from piece all.fits ∙ with_fills _ _ (filled_here filled)
      ∙ ap (λ (closed : Bool). wants piece (drop from (bytes_in field segment)) && (closed && fills piece (drop from (bytes_in field segment))))
      (sym (whole_closes (eqb-true (from + length piece) field.width whole)))
  ends_closed false whole filled =
      both_answers (required_here segment is field lies from piece all.fits) closes_here ∙ with_both _ _ _ (filled_here filled)

  ends_so_found : (is_open filled : Bool) → ends_filled piece ≡ filled
      → answer (both (are_required (field.offset + from) piece) (ends_so is_open filled field (from + length piece))) segment
      ≡ (wants piece (drop from (bytes_in field segment))
      && ((is_open || closes piece (drop from (bytes_in field segment))) && fills piece (drop from (bytes_in field segment))))
  ends_so_found true true filled = required_here segment is field lies from piece all.fits ∙ with_fills _ _ (filled_here filled)
  ends_so_found true false filled = both_answers (required_here segment is field lies from piece all.fits) fills_here
  ends_so_found false true filled = ends_closed (from + length piece == field.width) refl filled
  ends_so_found false false filled =
      both_answers (required_here segment is field lies from piece all.fits) (both_answers closes_here fills_here)

  -- a pattern's last piece
  pub ends_found : (is_open : Bool) → answer (ends_at field piece is_open from) segment
      ≡ has_text (is_text_like (ending piece is_open)) (drop from (bytes_in field segment))
  ends_found is_open =
      let within = all.fits.within in
      let long = field_long segment is field lies in
      ends_so_found is_open (ends_filled piece) refl
      ∙ like_parts piece is_open (drop from (bytes_in field segment)) all.fits.are
      (omega (arith, length-drop from (bytes_in field segment)))

module _ (segment : SegmentParts) (is : IsSegment segment) (field : Field) (lies : IsInside field) (piece : List PatternPart)
    (are : IsPiece piece) where
  piece_by : (is_open short : Bool) → nat_le (length piece) field.width ≡ short
      → answer (if short then ends_at field piece is_open 0 else Decided false) segment
      ≡ has_text (is_text_like (ending piece is_open)) (bytes_in field segment)
  piece_by is_open true short =
      let few = leb-true (length piece) field.width short in
      ends_found segment is field lies 0 piece
      (record { fits = record { within = omega arith; are = are }; last = omega arith }) is_open
  piece_by is_open false short =
      let many = leb-false (length piece) field.width short in
      let long = field_long segment is field lies in
      let takes = taken_ending piece is_open are in
      let unlike = like_long (ending piece is_open) (bytes_in field segment) (omega arith) in
      sym (ap (λ (like : Bool). not (are_blank (bytes_in field segment)) && like) unlike
      ∙ and_false (not (are_blank (bytes_in field segment))))

  -- a field isn't blank and matches a pattern of one piece
  pub piece_found : (is_open : Bool) → answer (is_piece field piece is_open) segment
      ≡ has_text (is_text_like (ending piece is_open)) (bytes_in field segment)
  piece_found is_open = piece_by is_open (nat_le (length piece) field.width) refl
