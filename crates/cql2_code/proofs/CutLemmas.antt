-- A pattern as it is cut while its code is written.
use Rattle.std.proofs.Common.{◌≡◌, ℕ, suc, ◌+◌, ◌-◌, ◌<◌, ◌≤◌, ◌==◌, nat_le, Bool, not, true, false, List, [], ◌∷◌, ◌++◌, length, get_or, take, drop}
use Rattle.std.proofs.Common.{if◌then◌else◌, refl, sym, ap, ◌∙◌, arith, append_assoc, append-nil}
use Rattle.std.proofs.lemmas.Bool.{false≢true, le-leb}
use Rattle.std.proofs.lemmas.Bool.Decides.{nat_tests}
use Rattle.std.proofs.lemmas.List.{drop_more}
use Rattle.cql2.specs.declared.pattern.PatternPart.{PatternPart}
use Rattle.cql2.specs.declared.pattern.PatternPart.TheVariants.{Exactly, Alike, One, Many}
use Rattle.cql2_code.specs.Grid.{grid}
use Rattle.cql2_code.specs.Lowering.{are_pieces, are_required, bytes_where, cell, is_last, is_like, is_piece, rows_of}
use Rattle.cql2_code.specs.Pieces.{following_many, least_length, pieces_of}
use Rattle.cql2_code.specs.Question.{Coded, Decided, Joined, Question}
use Rattle.cql2_code.specs.declared.field.Field.{Field}
use Rattle.cql2_code.proofs.PieceLemmas.{lengths}

-- The first `%`

following_none : (first : List PatternPart) (others : List (List PatternPart)) (is_open : Bool) → (following_many first others is_open).first ≡ []
following_none [] [] is_open = refl
following_none [] (piece ∷ others) is_open = refl
following_none (part ∷ first) others is_open = refl

pub first_none : (pattern : List PatternPart) → (pieces_of (Many ∷ pattern)).first ≡ []
first_none pattern = let rest = pieces_of pattern in following_none rest.first rest.others rest.is_open

-- another part begins the first piece, and takes a byte
pub record IsMore (part : PatternPart) (pattern : List PatternPart) : Type 0 where
  pub first : (pieces_of (part ∷ pattern)).first ≡ part ∷ (pieces_of pattern).first
  pub others : (pieces_of (part ∷ pattern)).others ≡ (pieces_of pattern).others
  pub is_open : (pieces_of (part ∷ pattern)).is_open ≡ (pieces_of pattern).is_open
  pub takes : least_length (part ∷ pattern) ≡ suc (least_length pattern)

pub one_part : (part : PatternPart) (pattern : List PatternPart) → (part ≡ Many → ⊥) → IsMore part pattern
one_part (Exactly required) pattern other = record { first = refl; others = refl; is_open = refl; takes = refl }
one_part (Alike folding required) pattern other = record { first = refl; others = refl; is_open = refl; takes = refl }
one_part One pattern other = record { first = refl; others = refl; is_open = refl; takes = refl }
one_part Many pattern other = absurd (other refl)

-- the part at a place
pub first_at : (pattern : List PatternPart) (at : ℕ) (default : PatternPart) → at < length pattern → get_or pattern at default ≡ Many
    → (pieces_of (drop at pattern)).first ≡ []
first_at pattern at default within is =
    ap (λ (rest : List PatternPart). (pieces_of rest).first) (drop_more pattern at default within)
    ∙ ap (λ (part : PatternPart). (pieces_of (part ∷ drop (at + 1) pattern)).first) is ∙ first_none (drop (at + 1) pattern)

-- a pattern is its first piece, and then a pattern that begins with `%` or is empty
pub record IsSplit (pattern : List PatternPart) (count : ℕ) : Type 0 where
  pub front : take count pattern ≡ (pieces_of pattern).first
  pub first : (pieces_of (drop count pattern)).first ≡ []
  pub others : (pieces_of (drop count pattern)).others ≡ (pieces_of pattern).others
  pub is_open : (pieces_of (drop count pattern)).is_open ≡ (pieces_of pattern).is_open
  pub takes : least_length pattern ≡ count + least_length (drop count pattern)

split_more : (part : PatternPart) (pattern : List PatternPart) → IsMore part pattern → IsSplit pattern (length (pieces_of pattern).first)
    → IsSplit (part ∷ pattern) (length (pieces_of (part ∷ pattern)).first)
split_more part pattern more split =
    let same : length (pieces_of (part ∷ pattern)).first ≡ suc (length (pieces_of pattern).first) = ap length more.first in
    let takes = more.takes in
    let rest = split.takes in
    rw same (record {
      front = ap (λ (front : List PatternPart). part ∷ front) split.front ∙ sym more.first;
      first = split.first;
      others = split.others ∙ sym more.others;
      is_open = split.is_open ∙ sym more.is_open;
      takes = omega arith;
    })

pub split_first : (pattern : List PatternPart) → IsSplit pattern (length (pieces_of pattern).first)
split_first [] = record { front = refl; first = refl; others = refl; is_open = refl; takes = refl }
split_first (Many ∷ pattern) =
    let none = first_none pattern in
    rw (ap length none) (record { front = sym none; first = none; others = refl; is_open = refl; takes = omega arith })
split_first (Exactly required ∷ pattern) =
    split_more (Exactly required) pattern (record { first = refl; others = refl; is_open = refl; takes = refl }) (split_first pattern)
split_first (Alike folding required ∷ pattern) =
    split_more (Alike folding required) pattern (record { first = refl; others = refl; is_open = refl; takes = refl }) (split_first pattern)
split_first (One ∷ pattern) = split_more One pattern (record { first = refl; others = refl; is_open = refl; takes = refl }) (split_first pattern)

-- Bytes that a test chooses, in descending order

pub where_none : (good : ℕ → Bool) → bytes_where good 0 ≡ []
unfolding bytes_where
where_none good = refl

where_first : (good : ℕ → Bool) (byte : ℕ) (chosen : Bool) → good byte ≡ chosen
    → bytes_where good (suc byte) ≡ (if chosen then byte ∷ bytes_where good byte else bytes_where good byte)
unfolding bytes_where
where_first good byte chosen is = ap (λ (b : Bool). if b then byte ∷ bytes_where good byte else bytes_where good byte) is

-- the next byte is chosen, or not
pub where_chosen : (good : ℕ → Bool) (bytes all : List ℕ) (above byte : ℕ) → above < 256 → byte ≡ 255 - above → good byte ≡ true
    → bytes ++ bytes_where good (256 - above) ≡ all → (bytes ++ byte ∷ []) ++ bytes_where good (256 - (above + 1)) ≡ all
where_chosen good bytes all above byte few is chosen before =
    let limit : 256 - above ≡ suc byte = omega arith in
    let next : 256 - (above + 1) ≡ byte = omega arith in
    append_assoc bytes (byte ∷ []) (bytes_where good (256 - (above + 1)))
    ∙ ap (λ (n : ℕ). bytes ++ byte ∷ bytes_where good n) next
    ∙ sym (ap (λ (rest : List ℕ). bytes ++ rest) (ap (bytes_where good) limit ∙ where_first good byte true chosen)) ∙ before

pub where_passed : (good : ℕ → Bool) (bytes all : List ℕ) (above byte : ℕ) → above < 256 → byte ≡ 255 - above → good byte ≡ false
    → bytes ++ bytes_where good (256 - above) ≡ all → bytes ++ bytes_where good (256 - (above + 1)) ≡ all
where_passed good bytes all above byte few is passed before =
    let limit : 256 - above ≡ suc byte = omega arith in
    let next : 256 - (above + 1) ≡ byte = omega arith in
    ap (λ (n : ℕ). bytes ++ bytes_where good n) next
    ∙ sym (ap (λ (rest : List ℕ). bytes ++ rest) (ap (bytes_where good) limit ∙ where_first good byte false passed)) ∙ before

pub where_all : (good : ℕ → Bool) (bytes all : List ℕ) (above : ℕ) → 256 ≤ above → bytes ++ bytes_where good (256 - above) ≡ all → bytes ≡ all
where_all good bytes all above end before =
    let none : 256 - above ≡ 0 = omega arith in
    sym (append-nil bytes) ∙ sym (ap (λ (rest : List ℕ). bytes ++ rest) (ap (bytes_where good) none ∙ where_none good)) ∙ before

-- A piece and what follows it

pub record IsFirstAndRest (pattern piece rest : List PatternPart) : Type 0 where
  pub piece_is : piece ≡ (pieces_of pattern).first
  pub first : (pieces_of rest).first ≡ []
  pub others : (pieces_of rest).others ≡ (pieces_of pattern).others
  pub is_open : (pieces_of rest).is_open ≡ (pieces_of pattern).is_open
  pub takes : least_length pattern ≡ length piece + least_length rest

pub first_and_rest : (pattern piece rest : List PatternPart) (count : ℕ) → count ≡ length (pieces_of pattern).first → piece ≡ take count pattern
    → rest ≡ drop count pattern → IsFirstAndRest pattern piece rest
first_and_rest pattern piece rest count counted front back =
    let split = split_first pattern in
    let piece_is = front ∙ ap (λ (n : ℕ). take n pattern) counted ∙ split.front in
    let rest_is = back ∙ ap (λ (n : ℕ). drop n pattern) counted in
    let length_is = ap length piece_is in
    let taken_is = ap least_length rest_is in
    let sum = split.takes in
    record {
      piece_is = piece_is;
      first = ap (λ (parts : List PatternPart). (pieces_of parts).first) rest_is ∙ split.first;
      others = ap (λ (parts : List PatternPart). (pieces_of parts).others) rest_is ∙ split.others;
      is_open = ap (λ (parts : List PatternPart). (pieces_of parts).is_open) rest_is ∙ split.is_open;
      takes = omega arith;
    }

-- what is taken by pieces that have a part, and whether a pattern of no piece is open
abbrev pub AreFilled : List (List PatternPart) → Type 0
AreFilled [] = Unit {0}
AreFilled (piece ∷ pieces) = (1 ≤ length piece) × AreFilled pieces

record IsCounted (pattern first : List PatternPart) (others : List (List PatternPart)) (is_open : Bool) : Type 0 where
  takes : least_length pattern ≡ length first + lengths others
  filled : AreFilled others
  open_is : length first ≡ 0 → length others ≡ 0 → is_open ≡ not (length pattern == 0)

not_none : (count : ℕ) → true ≡ not (suc count == 0)
not_none count = grind (arith, nat_tests)

counted_many : (pattern first : List PatternPart) (others : List (List PatternPart)) (is_open : Bool) → IsCounted pattern first others is_open
    → (let cut = following_many first others is_open in IsCounted (Many ∷ pattern) cut.first cut.others cut.is_open)
counted_many pattern [] [] is_open counted =
    record { takes = counted.takes; filled = tt; open_is = λ none no_others. not_none (length pattern) }
counted_many pattern [] (piece ∷ others) is_open counted =
    record { takes = counted.takes; filled = counted.filled; open_is = λ none no_others. absurd (omega arith) }
counted_many pattern (part ∷ first) others is_open counted =
    let sum = counted.takes in
    record { takes = omega arith; filled = (omega arith, counted.filled); open_is = λ none no_others. absurd (omega arith) }

counted_part : (part : PatternPart) (pattern first : List PatternPart) (others : List (List PatternPart)) (is_open : Bool)
    → least_length (part ∷ pattern) ≡ suc (least_length pattern) → IsCounted pattern first others is_open
    → IsCounted (part ∷ pattern) (part ∷ first) others is_open
counted_part part pattern first others is_open more counted =
    let sum = counted.takes in
    record { takes = omega arith; filled = counted.filled; open_is = λ none no_others. absurd (omega arith) }

count_pieces : (pattern : List PatternPart) → (let pieces = pieces_of pattern in IsCounted pattern pieces.first pieces.others pieces.is_open)
count_pieces [] = record { takes = refl; filled = tt; open_is = λ none no_others. refl }
count_pieces (Many ∷ pattern) =
    let pieces = pieces_of pattern in counted_many pattern pieces.first pieces.others pieces.is_open (count_pieces pattern)
count_pieces (Exactly required ∷ pattern) =
    let pieces = pieces_of pattern in
    counted_part (Exactly required) pattern pieces.first pieces.others pieces.is_open refl (count_pieces pattern)
count_pieces (Alike folding required ∷ pattern) =
    let pieces = pieces_of pattern in
    counted_part (Alike folding required) pattern pieces.first pieces.others pieces.is_open refl (count_pieces pattern)
count_pieces (One ∷ pattern) =
    let pieces = pieces_of pattern in counted_part One pattern pieces.first pieces.others pieces.is_open refl (count_pieces pattern)

-- no piece follows exactly if no byte is taken
none_taken : (others : List (List PatternPart)) (least_length : ℕ) → AreFilled others → least_length ≡ lengths others → is_last others ≡ (least_length == 0)
none_taken [] least_length filled sum = sym (ap (λ (n : ℕ). n == 0) sum)
none_taken (piece ∷ others) least_length filled sum =
    let some = filled.0 in some_taken least_length (omega arith)
  where
    some_taken : (least_length : ℕ) → 1 ≤ least_length → false ≡ (least_length == 0)
    some_taken least_length some = grind (arith, nat_tests)

pub last_taken : (pattern : List PatternPart) → (pieces_of pattern).first ≡ [] → is_last (pieces_of pattern).others ≡ (least_length pattern == 0)
last_taken pattern none =
    let counted = count_pieces pattern in
    let sum = counted.takes in
    let no_first = ap length none in
    none_taken (pieces_of pattern).others (least_length pattern) counted.filled (omega arith)

pub none_others : (pattern : List PatternPart) → (pieces_of pattern).first ≡ [] → least_length pattern ≡ 0 → (pieces_of pattern).others ≡ []
none_others pattern none zero_taken = by_others (pieces_of pattern).others (last_taken pattern none ∙ ap (λ (n : ℕ). n == 0) zero_taken)
  where
    by_others : (others : List (List PatternPart)) → is_last others ≡ true → others ≡ []
    by_others [] is = refl
    by_others (piece ∷ others) is = absurd (false≢true is)

pub open_length : (pattern : List PatternPart) → (pieces_of pattern).first ≡ [] → least_length pattern ≡ 0
    → (pieces_of pattern).is_open ≡ not (length pattern == 0)
open_length pattern none zero_taken =
    (count_pieces pattern).open_is (ap length none) (ap length (none_others pattern none zero_taken))

-- a pattern that begins with `%`
following_is : (part : PatternPart) (following : List PatternPart) → (pieces_of (part ∷ following)).first ≡ [] → part ≡ Many
following_is Many following none = refl
following_is (Exactly required) following none = absurd cc
following_is (Alike folding required) following none = absurd cc
following_is One following none = absurd cc

abbrev pub rows_following : Field → ℕ → List PatternPart → List (ℕ → Question)
rows_following field from pattern = rows_of field (pieces_of pattern).is_open from (pieces_of pattern).others

abbrev rows_cut : Field → ℕ → List PatternPart → List (List PatternPart) → Bool → List (ℕ → Question)
rows_cut field from first others is_open =
    let cut = following_many first others is_open in rows_of field cut.is_open from cut.others

-- A pattern is a `%`, and then a piece and the rest.
pub record IsManyAndRest (pattern following piece rest : List PatternPart) : Type 0 where
  pub part : PatternPart
  pub is : pattern ≡ part ∷ following
  pub begins : (pieces_of pattern).first ≡ []
  pub split : IsFirstAndRest following piece rest

is_many : {pattern following piece rest : List PatternPart} (cut : IsManyAndRest pattern following piece rest) → cut.part ≡ Many
is_many {following = following} cut =
    following_is cut.part following (sym (ap (λ (parts : List PatternPart). (pieces_of parts).first) cut.is) ∙ cut.begins)

-- the row of a piece
abbrev pub row_of : Field → ℕ → List PatternPart → List PatternPart → ℕ → Question
row_of field from piece rest shift = cell field piece (least_length rest == 0) (not (length rest == 0)) (from + shift)

row_is : (field : Field) (from : ℕ) (piece rest : List PatternPart) (others : List (List PatternPart)) (is_open : Bool)
    → (pieces_of rest).first ≡ [] → (pieces_of rest).others ≡ others → (pieces_of rest).is_open ≡ is_open
    → (let first : ℕ → Question = λ shift. cell field piece (is_last others) is_open (from + shift) in first) ≡ row_of field from piece rest
row_is field from piece rest [] is_open none others_are open_is =
    let sum = (count_pieces rest).takes in
    let no_first = ap length none in
    let no_others = ap lengths others_are in
    let zero_taken : least_length rest ≡ 0 = omega arith in
    ap (λ (b : Bool). (let first : ℕ → Question = λ shift. cell field piece true b (from + shift) in first))
    (sym open_is ∙ open_length rest none zero_taken)
    ∙ ap (λ (b : Bool). (let first : ℕ → Question = λ shift. cell field piece b (not (length rest == 0)) (from + shift) in first))
    (sym (ap is_last others_are) ∙ last_taken rest none)
row_is field from piece rest (next ∷ others) is_open none others_are open_is =
    ap (λ (b : Bool). (let first : ℕ → Question = λ shift. cell field piece b (not (length rest == 0)) (from + shift) in first))
    (sym (ap is_last others_are) ∙ last_taken rest none)

pub rows_next : (field : Field) (from : ℕ) (pattern following piece rest : List PatternPart) → IsManyAndRest pattern following piece rest
    → 0 < length piece → rows_following field from pattern ≡ row_of field from piece rest ∷ rows_following field (from + length piece) rest
rows_next field from pattern following [] rest cut some = absurd (omega arith)
rows_next field from pattern following (first ∷ piece) rest cut some =
    let split = cut.split in
    let others = (pieces_of following).others in
    let is_open = (pieces_of following).is_open in
    let later = rows_of field is_open (from + length (first ∷ piece)) others in
    ap (rows_following field from) cut.is ∙ ap (λ (begin : PatternPart). rows_following field from (begin ∷ following)) (is_many cut)
    ∙ ap (λ (parts : List PatternPart). rows_cut field from parts others is_open) (sym split.piece_is)
    ∙ ap (λ (row : ℕ → Question). row ∷ later)
    (row_is field from (first ∷ piece) rest others is_open split.first split.others split.is_open)
    ∙ ap (λ (rows : List (ℕ → Question)). row_of field from (first ∷ piece) rest ∷ rows)
    (ap (λ (b : Bool). rows_of field b (from + length (first ∷ piece)) others) (sym split.is_open)
    ∙ ap (rows_of field (pieces_of rest).is_open (from + length (first ∷ piece))) (sym split.others))

pub rows_empty : (field : Field) (from : ℕ) (pattern : List PatternPart) → length pattern ≡ 0 → rows_following field from pattern ≡ []
rows_empty field from [] none = refl
rows_empty field from (part ∷ pattern) none = absurd (omega arith)

-- what is taken after a `%`
pub taken_following : (pattern following piece rest : List PatternPart) → IsManyAndRest pattern following piece rest
    → least_length pattern ≡ length piece + least_length rest
taken_following pattern following piece rest cut =
    ap least_length cut.is ∙ ap (λ (first : PatternPart). least_length (first ∷ following)) (is_many cut) ∙ cut.split.takes

-- Whole patterns

pub like_one : (field : Field) (pattern piece rest : List PatternPart) → IsFirstAndRest pattern piece rest → least_length rest ≡ 0
    → is_like field pattern ≡ is_piece field piece (not (length rest == 0))
like_one field pattern piece rest split zero_taken =
    ap (λ (others : List (List PatternPart)).
    are_pieces field (pieces_of pattern).first others (pieces_of pattern).is_open (least_length pattern))
    (sym split.others ∙ none_others rest split.first zero_taken)
    ∙ ap (is_piece field (pieces_of pattern).first) (sym split.is_open ∙ open_length rest split.first zero_taken)
    ∙ ap (λ (first : List PatternPart). is_piece field first (not (length rest == 0))) (sym split.piece_is)

-- a pattern with a piece after a `%`
are_several : (field : Field) (first : List PatternPart) (others : List (List PatternPart)) (is_open : Bool) (total : ℕ)
    → is_last others ≡ false
    → are_pieces field first others is_open total
    ≡ (if nat_le total field.width
    then Joined true (are_required field.offset first)
    (Coded (grid (rows_of field is_open (length first) others) (suc (field.width - total))))
    else Decided false)
are_several field first [] is_open total more = absurd (false≢true (sym more))
are_several field first (piece ∷ others) is_open total more = refl

several : (rest : List PatternPart) → (pieces_of rest).first ≡ [] → 0 < least_length rest → is_last (pieces_of rest).others ≡ false
several rest none some = last_taken rest none ∙ some_taken (least_length rest) some
  where
    some_taken : (count : ℕ) → 0 < count → (count == 0) ≡ false
    some_taken count some = grind (arith, nat_tests)

pub like_long : (field : Field) (pattern piece rest : List PatternPart) → IsFirstAndRest pattern piece rest → 0 < least_length rest
    → field.width < least_length pattern → is_like field pattern ≡ Decided false
like_long field pattern piece rest split some long =
    are_several field (pieces_of pattern).first (pieces_of pattern).others (pieces_of pattern).is_open (least_length pattern)
    (sym (ap is_last split.others) ∙ several rest split.first some)
    ∙ rw (lt-leb-false (least_length pattern) field.width long) refl
  where
    lt-leb-false : (m n : ℕ) → n < m → nat_le m n ≡ false
    lt-leb-false m n less = grind (arith, nat_tests)

pub like_several : (field : Field) (pattern piece rest : List PatternPart) (columns : ℕ) → IsFirstAndRest pattern piece rest
    → 0 < least_length rest → least_length pattern ≤ field.width → columns ≡ field.width - least_length pattern + 1
    → is_like field pattern
    ≡ Joined true (are_required field.offset piece) (Coded (grid (rows_following field (length piece) rest) columns))
like_several field pattern piece rest columns split some short counted =
    let next : columns ≡ suc (field.width - least_length pattern) = omega arith in
    are_several field (pieces_of pattern).first (pieces_of pattern).others (pieces_of pattern).is_open (least_length pattern)
    (sym (ap is_last split.others) ∙ several rest split.first some)
    ∙ rw (le-leb (least_length pattern) field.width short)
    (ap (λ (n : ℕ). asks (pieces_of pattern).first (pieces_of pattern).others (pieces_of pattern).is_open n) (sym next)
    ∙ ap (λ (first : List PatternPart). asks first (pieces_of pattern).others (pieces_of pattern).is_open columns) (sym split.piece_is)
    ∙ ap (λ (others : List (List PatternPart)). asks piece others (pieces_of pattern).is_open columns) (sym split.others)
    ∙ ap (λ (b : Bool). asks piece (pieces_of rest).others b columns) (sym split.is_open))
  where
    asks : List PatternPart → List (List PatternPart) → Bool → ℕ → Question
    asks first others is_open columns =
        Joined true (are_required field.offset first) (Coded (grid (rows_of field is_open (length first) others) columns))
