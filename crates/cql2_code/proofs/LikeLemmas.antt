-- The questions about a text column and a pattern have the answers of LIKE.
use Rattle.std.proofs.Common.{◌≡◌, ℕ, zero, suc, ◌+◌, ◌-◌, ◌<◌, nat_le, Bool, true, false, not, ◌&&◌, List, [], ◌∷◌, ◌++◌}
use Rattle.std.proofs.Common.{length, length-drop, get_or, drop, option_map, if◌then◌else◌, refl, sym, ap, ◌∙◌, arith}
use Rattle.std.specs.Bool.{beq}
use Rattle.std.proofs.lemmas.Bool.{false≢true, leb-false, leb-true}
use Rattle.std.proofs.lemmas.List.{drop-drop, drop_more}
use Rattle.tl_fields.specs.Number.{is_blank as are_blank}
use Rattle.tl_segments.specs.Segment.{SegmentParts, IsSegment}
use Rattle.cql2.specs.Column.{text_value}
use Rattle.cql2.specs.Pattern.{are_bytes, is_like as is_text_like}
use Rattle.cql2.specs.Truth.{is as is_truth}
use Rattle.cql2.specs.declared.column.TextColumn.{TextColumn}
use Rattle.cql2.specs.declared.pattern.PatternPart.{PatternPart}
use Rattle.cql2_code.specs.Grid.{finds, grid}
use Rattle.cql2_code.specs.Lowering.{are_pieces, are_required, asks_like, if_asked, is_like, rows_of}
use Rattle.cql2_code.specs.Pieces.{least_length, pieces_of}
use Rattle.cql2_code.specs.Question.{Coded, Decided, Joined, answer}
use Rattle.cql2_code.specs.declared.field.Field.{Field}
use Rattle.cql2_code.proofs.FieldLemmas.{IsInside, bytes_in, field_long, has_text}
use Rattle.cql2_code.proofs.JoinLemmas.{and_false, asked_answers, both_answers}
use Rattle.cql2_code.proofs.PieceLemmas.{ArePieces, Cut, IsFilled, cut_pieces, lengths, like, like_none, respelled}
use Rattle.cql2_code.proofs.SearchLemmas.{begins_so, begins_wants, blank_drop, last_piece, like_long, like_piece, next_piece, some_text, wants}
use Rattle.cql2_code.proofs.SearchLemmas.{wants_begins}
use Rattle.cql2_code.proofs.TextColumnLemmas.{about_found, value_asked}
use Rattle.cql2_code.proofs.TrimLemmas.{trimmed, trimmed_blank}
use Rattle.cql2_code.proofs.RequiredLemmas.{ending, ends_found, piece_found, taken_piece, required_here}

-- Pieces that have a part

taken_respelled : (pieces : List (List PatternPart)) (is_open : Bool) → ArePieces pieces → least_length (respelled pieces is_open) ≡ lengths pieces
taken_respelled [] true are = refl
taken_respelled [] false are = refl
taken_respelled (piece ∷ pieces) is_open are =
    let first = taken_piece piece (respelled pieces is_open) are.0.are in
    let rest = taken_respelled pieces is_open are.1 in
    omega arith

-- they don't match the empty text
none_filled : (piece rest : List PatternPart) → IsFilled piece → is_text_like (piece ++ rest) [] ≡ false
none_filled [] rest filled = let some = filled.some in absurd (omega arith)
none_filled (part ∷ piece) rest filled = like_none part (piece ++ rest) filled.are.0.single

none_respelled : (piece : List PatternPart) (pieces : List (List PatternPart)) (is_open : Bool) → IsFilled piece
    → is_text_like (respelled (piece ∷ pieces) is_open) [] ≡ false
none_respelled piece pieces is_open filled = or_none (none_filled piece (respelled pieces is_open) filled)
  where
    or_none : is_text_like (piece ++ respelled pieces is_open) [] ≡ false → is_text_like (respelled (piece ∷ pieces) is_open) [] ≡ false
    or_none none = rw none refl

-- nor that of a blank field
text_filled : (pattern : List PatternPart) (field : List ℕ) → is_text_like pattern [] ≡ false
    → has_text (is_text_like pattern) field ≡ like pattern field
text_filled pattern field none = by_blank (are_blank field) refl
  where
    by_blank : (blank : Bool) → are_blank field ≡ blank → (not blank && is_text_like pattern (trimmed field)) ≡ is_text_like pattern (trimmed field)
    by_blank true is = sym (ap (is_text_like pattern) (trimmed_blank field is) ∙ none)
    by_blank false is = refl

choice : {a b c d e f : Bool} → a ≡ b → c ≡ d → e ≡ f → (if a then c else e) ≡ (if b then d else f)
choice first second third = cc

-- The grid of the pieces after a `%` finds them from a byte on exactly if the pattern matches there. The columns left are as many as there are
-- places for them.
module _ (segment : SegmentParts) (is : IsSegment segment) (field : Field) (lies : IsInside field) (is_open : Bool) where
  first_of : (from : ℕ) → from < field.width
      → drop from (bytes_in field segment) ≡ get_or (bytes_in field segment) from 0 ∷ drop (from + 1) (bytes_in field segment)
  first_of from within =
      let long = field_long segment is field lies in drop_more (bytes_in field segment) from 0 (omega arith)

  found : (piece : List PatternPart) (pieces : List (List PatternPart)) (from at left : ℕ) → IsFilled piece → ArePieces pieces
      → from + at + lengths (piece ∷ pieces) + left ≡ suc field.width
      → finds (rows_of field is_open from (piece ∷ pieces)) at left segment
      ≡ like (respelled (piece ∷ pieces) is_open) (drop (from + at) (bytes_in field segment))
  found piece pieces from at zero filled are sum =
      let long = field_long segment is field lies in
      let some = filled.some in
      let takes = taken_respelled (piece ∷ pieces) is_open (filled, are) in
      sym (like_long (respelled (piece ∷ pieces) is_open) (drop (from + at) (bytes_in field segment))
      (omega (arith, length-drop (from + at) (bytes_in field segment))))
  found piece [] from at (suc left) filled are sum =
      let some = filled.some in
      let first = first_of (from + at) (omega arith) in
      let next : from + (at + 1) ≡ from + at + 1 = omega arith in
      let here = ends_found segment is field lies (from + at) piece
      (record { fits = record { within = omega arith; are = filled.are }; last = omega arith }) is_open
      ∙ text_filled (ending piece is_open) (drop (from + at) (bytes_in field segment)) (none_filled piece (respelled [] is_open) filled)
      ∙ ap (like (ending piece is_open)) first in
      let later = found piece [] from (at + 1) left filled are (omega arith)
      ∙ ap (λ (n : ℕ). like (respelled (piece ∷ []) is_open) (drop n (bytes_in field segment))) next in
      choice here refl later
      ∙ sym (last_piece (ending piece is_open) (get_or (bytes_in field segment) (from + at) 0) (drop (from + at + 1) (bytes_in field segment)))
      ∙ sym (ap (like (respelled (piece ∷ []) is_open)) first)
  found piece (next ∷ pieces) from at (suc left) filled are sum =
      let some = filled.some in
      let first = first_of (from + at) (omega arith) in
      let step : from + (at + 1) ≡ from + at + 1 = omega arith in
      let following : from + length piece + at ≡ from + at + length piece = omega arith in
      let here = required_here segment is field lies (from + at) piece (record { within = omega arith; are = filled.are })
      ∙ ap (wants piece) first in
      let below = found next pieces (from + length piece) at (suc left) are.0 are.1 (omega arith)
      ∙ ap (λ (n : ℕ). like (respelled (next ∷ pieces) is_open) (drop n (bytes_in field segment))) following
      ∙ sym (ap (like (respelled (next ∷ pieces) is_open)) (drop-drop (length piece) (from + at) (bytes_in field segment)))
      ∙ ap (λ (bytes : List ℕ). like (respelled (next ∷ pieces) is_open) (drop (length piece) bytes)) first in
      let later = found piece (next ∷ pieces) from (at + 1) left filled are (omega arith)
      ∙ ap (λ (n : ℕ). like (respelled (piece ∷ next ∷ pieces) is_open) (drop n (bytes_in field segment))) step in
      choice here below later
      ∙ sym (next_piece piece (next ++ respelled pieces is_open) (get_or (bytes_in field segment) (from + at) 0)
      (drop (from + at + 1) (bytes_in field segment)) filled.are (none_respelled next pieces is_open are.0))
      ∙ sym (ap (like (respelled (piece ∷ next ∷ pieces) is_open)) first)

-- Patterns

matches_all : (blank required so more : Bool) → (so ≡ true → required ≡ true) → (required ≡ true → more ≡ true → so ≡ true)
    → (more ≡ true → blank ≡ false) → (required && more) ≡ (not blank && (so && more))
matches_all true required so true one two three = absurd (false≢true (sym (three refl)))
matches_all true true so false one two three = refl
matches_all true false so false one two three = refl
matches_all false true true more one two three = refl
matches_all false true false true one two three = absurd (false≢true (two refl refl))
matches_all false true false false one two three = refl
matches_all false false true more one two three = absurd (false≢true (one refl))
matches_all false false false more one two three = refl

module _ (segment : SegmentParts) (is : IsSegment segment) (field : Field) (lies : IsInside field) (pattern : List PatternPart) where
  -- a pattern as its pieces
  pieces_match : (first piece : List PatternPart) (others : List (List PatternPart)) (is_open : Bool) → Cut pattern first (piece ∷ others) is_open
      → (wants first (bytes_in field segment) && like (respelled (piece ∷ others) is_open) (drop (length first) (bytes_in field segment)))
      ≡ has_text (is_text_like pattern) (bytes_in field segment)
  pieces_match first piece others is_open cut =
      matches_all (are_blank bytes) (wants first bytes) (begins_so first bytes) (like rest (drop (length first) bytes))
      (begins_wants first bytes) (λ required more. wants_begins first bytes required (following more)) filled
      ∙ sym (ap (λ (like : Bool). not (are_blank bytes) && like)
      (cut.matches (trimmed bytes) ∙ like_piece first (piece ++ respelled others is_open) bytes cut.first_is))
    where
      bytes : List ℕ
      bytes = bytes_in field segment

      rest : List PatternPart
      rest = respelled (piece ∷ others) is_open

      following : like rest (drop (length first) bytes) ≡ true → are_blank (drop (length first) bytes) ≡ false
      following more = some_text rest (drop (length first) bytes) (none_respelled piece others is_open cut.others_are.0) more

      filled : like rest (drop (length first) bytes) ≡ true → are_blank bytes ≡ false
      filled more = by_blank (are_blank bytes) refl
        where
          by_blank : (blank : Bool) → are_blank bytes ≡ blank → blank ≡ false
          by_blank true is = absurd (false≢true (sym (following more) ∙ blank_drop (length first) bytes is))
          by_blank false is = refl

  pieces_by : (first piece : List PatternPart) (others : List (List PatternPart)) (is_open short : Bool)
      → nat_le (least_length pattern) field.width ≡ short → Cut pattern first (piece ∷ others) is_open
      → answer (if short then Joined true (are_required field.offset first)
      (Coded (grid (rows_of field is_open (length first) (piece ∷ others)) (suc (field.width - least_length pattern))))
      else Decided false) segment ≡ has_text (is_text_like pattern) (bytes_in field segment)
  pieces_by first piece others is_open true short cut =
      let few = leb-true (least_length pattern) field.width short in
      let takes = cut.takes in
      let start : field.offset ≡ field.offset + 0 = omega arith in
      let from : length first + 0 ≡ length first = omega arith in
      both_answers
      (ap (λ (at : ℕ). answer (are_required at first) segment) start
      ∙ required_here segment is field lies 0 first (record { within = omega arith; are = cut.first_is }))
      (found segment is field lies is_open piece others (length first) 0 (suc (field.width - least_length pattern)) cut.others_are.0
      cut.others_are.1 (omega arith)
      ∙ ap (λ (n : ℕ). like (respelled (piece ∷ others) is_open) (drop n (bytes_in field segment))) from)
      ∙ pieces_match first piece others is_open cut
  pieces_by first piece others is_open false short cut =
      let many = leb-false (least_length pattern) field.width short in
      let long = field_long segment is field lies in
      let unlike = like_long pattern (bytes_in field segment) (omega arith) in
      sym (ap (λ (like : Bool). not (are_blank (bytes_in field segment)) && like) unlike
      ∙ and_false (not (are_blank (bytes_in field segment))))

  pieces_found : (first : List PatternPart) (others : List (List PatternPart)) (is_open : Bool) → Cut pattern first others is_open
      → answer (are_pieces field first others is_open (least_length pattern)) segment ≡ has_text (is_text_like pattern) (bytes_in field segment)
  pieces_found first [] is_open cut =
      piece_found segment is field lies first cut.first_is is_open
      ∙ sym (ap (λ (like : Bool). not (are_blank (bytes_in field segment)) && like) (cut.matches (trimmed (bytes_in field segment))))
  pieces_found first (piece ∷ others) is_open cut =
      pieces_by first piece others is_open (nat_le (least_length pattern) field.width) refl cut

module _ (segment : SegmentParts) (is : IsSegment segment) (field : Field) (lies : IsInside field) (pattern : List PatternPart)
    (are : are_bytes pattern ≡ true) where
  -- a field isn't blank and matches a pattern
  like_found : answer (is_like field pattern) segment ≡ has_text (is_text_like pattern) (bytes_in field segment)
  like_found =
      let pieces = pieces_of pattern in
      pieces_found segment is field lies pattern pieces.first pieces.others pieces.is_open (cut_pieces pattern are)

  like_asked : (asked : Bool) → are_blank (bytes_in field segment) ≡ false → answer (if_asked (is_like field pattern) asked) segment
      ≡ beq (is_text_like pattern (trimmed (bytes_in field segment))) asked
  like_asked asked filled =
      asked_answers (is_like field pattern) segment asked
      ∙ ap (λ (found : Bool). beq found asked)
      (like_found ∙ ap (λ (blank : Bool). not blank && is_text_like pattern (trimmed (bytes_in field segment))) filled)

  like_blank : are_blank (bytes_in field segment) ≡ true → answer (is_like field pattern) segment ≡ false
  like_blank blank = like_found ∙ ap (λ (blank : Bool). not blank && is_text_like pattern (trimmed (bytes_in field segment))) blank

module _ (segment : SegmentParts) (is : IsSegment segment) (column : TextColumn) (pattern : List PatternPart)
    (are : are_bytes pattern ≡ true) where
  no_blanks : (asked : Bool) → not asked ≡ false → (field : Field) → IsInside field → are_blank (bytes_in field segment) ≡ true
      → answer (if_asked (is_like field pattern) asked) segment ≡ false
  no_blanks true of field lies blank = like_blank segment is field lies pattern are blank
  no_blanks false of field lies blank = absurd (false≢true (sym of))

  -- LIKE, asked for either truth value
  pub asks_like_rightly : (asked : Bool) → answer (asks_like column pattern asked) segment
      ≡ is_truth (option_map (is_text_like pattern) (text_value column segment.bytes)) asked
  asks_like_rightly asked =
      about_found segment is (not asked) (λ field. if_asked (is_like field pattern) asked) (λ text. beq (is_text_like pattern text) asked)
      (λ field lies filled. like_asked segment is field lies pattern are asked filled) (no_blanks asked) column
      ∙ value_asked (is_text_like pattern) column segment asked
