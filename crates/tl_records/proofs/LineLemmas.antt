-- A file has exactly one list of lines: a nonempty file has exactly one first line.
use Rattle.std.proofs.Common.{zero, suc, ◌≡◌, ◌≢◌, ℕ, ◌<◌, ◌≤◌, inl, inr, List, [], ◌∷◌, ◌++◌, length, Some, refl, sym, ap, ◌∙◌, subst}
use Rattle.std.proofs.Common.{append_assoc, length-append, arith}
use Rattle.std.proofs.lemmas.List.{append_cancel_right}
use Rattle.std.proofs.lemmas.Bool.{cases_eq}
use Rattle.std.proofs.lemmas.List.Elements.{All-nil, All-cons, All-head, All-tail, All-push, All-pop}
use Rattle.counted_io.specs.Content.{HasNoLineFeed}
use Rattle.tl_records.specs.Lines.{EndsInCarriageReturn, IsEnded, by_lf, by_cr_lf, missing, IsFirstLine, AreLines, IsWithoutCarriageReturn}

-- the bytes before the first line feed, and those after it, are unique
pub one_cut : (front other rest after : List ℕ) → HasNoLineFeed front → HasNoLineFeed other → front ++ 10 ∷ rest ≡ other ++ 10 ∷ after
    → (front ≡ other) × (rest ≡ after)
one_cut [] [] rest after p q e = (refl, cc)
one_cut [] (c ∷ other) rest after p q e = absurd (All-head (λ b. b ≢ 10) c other q (cc))
one_cut (b ∷ front) [] rest after p q e = absurd (All-head (λ b. b ≢ 10) b front p (cc))
one_cut (b ∷ front) (c ∷ other) rest after p q e =
    let same : b ≡ c = cc in let tails : front ++ 10 ∷ rest ≡ other ++ 10 ∷ after = cc in
    let cut = one_cut front other rest after (All-tail (λ b. b ≢ 10) b front p) (All-tail (λ b. b ≢ 10) c other q) tails in
    (cc, cut.1)

-- bytes without a line feed can't be split at one
pub no_cut : (front rest whole : List ℕ) → HasNoLineFeed whole → whole ≡ front ++ 10 ∷ rest → ⊥
no_cut [] rest [] p e = cc
no_cut [] rest (c ∷ whole) p e = All-head (λ b. b ≢ 10) c whole p (cc)
no_cut (b ∷ front) rest [] p e = cc
no_cut (b ∷ front) rest (c ∷ whole) p e =
    no_cut front rest whole (All-tail (λ b. b ≢ 10) c whole p) (cc)

-- a line followed by CR and LF is the line with CR, followed by LF
pub cr_lf : (line rest : List ℕ) → line ++ 13 ∷ 10 ∷ rest ≡ (line ++ 13 ∷ []) ++ 10 ∷ rest
cr_lf line rest = sym (append_assoc line (13 ∷ []) (10 ∷ rest))

with_carriage_return : (line : List ℕ) → HasNoLineFeed line → HasNoLineFeed (line ++ 13 ∷ [])
with_carriage_return line p = All-push (λ b. b ≢ 10) line 13 p (λ e. cc)

-- a file has at most one first line
pub one_first_line_by : {file line other rest after : List ℕ} → HasNoLineFeed line → HasNoLineFeed other → IsEnded file line rest
    → IsEnded file other after → (line ≡ other) × (rest ≡ after)
one_first_line_by {line} {other} {rest} {after} p q (by_lf e n) (by_lf f m) = one_cut line other rest after p q (sym e ∙ f)
one_first_line_by {line} {other} {rest} {after} p q (by_lf e n) (by_cr_lf f) =
    let cut = one_cut line (other ++ 13 ∷ []) rest after p (with_carriage_return other q) (sym e ∙ f ∙ cr_lf other after) in
    absurd (n (other, cut.0))
one_first_line_by {line} {other} {rest} p q (by_lf e n) (missing f g h) = absurd (no_cut line rest other q (sym f ∙ e))
one_first_line_by {line} {other} {rest} {after} p q (by_cr_lf e) (by_lf f m) =
    let cut = one_cut other (line ++ 13 ∷ []) after rest q (with_carriage_return line p) (sym f ∙ e ∙ cr_lf line rest) in
    absurd (m (line, cut.0))
one_first_line_by {line} {other} {rest} {after} p q (by_cr_lf e) (by_cr_lf f) =
    let cut = one_cut (line ++ 13 ∷ []) (other ++ 13 ∷ []) rest after (with_carriage_return line p) (with_carriage_return other q)
    (sym (cr_lf line rest) ∙ sym e ∙ f ∙ cr_lf other after) in
    (append_cancel_right line other (13 ∷ []) cut.0, cut.1)
one_first_line_by {line} {other} {rest} p q (by_cr_lf e) (missing f g h) =
    absurd (no_cut (line ++ 13 ∷ []) rest other q (sym f ∙ e ∙ cr_lf line rest))
one_first_line_by {line} {other} {after} p q (missing e g h) (by_lf f m) = absurd (no_cut other after line p (sym e ∙ f))
one_first_line_by {line} {other} {after} p q (missing e g h) (by_cr_lf f) =
    absurd (no_cut (other ++ 13 ∷ []) after line p (sym e ∙ f ∙ cr_lf other after))
one_first_line_by p q (missing e g h) (missing f i j) = (sym e ∙ f, g ∙ sym i)

pub one_first_line : (file line other rest after : List ℕ) → IsFirstLine file line rest → IsFirstLine file other after → (line ≡ other)
    × (rest ≡ after)
one_first_line file line other rest after a b =
    one_first_line_by a.no_line_feed b.no_line_feed a.ended b.ended

append_not_empty : (front rest : List ℕ) (b : ℕ) → [] ≡ front ++ b ∷ rest → ⊥
append_not_empty [] rest b e = cc
append_not_empty (c ∷ front) rest b e = cc

ended_not_empty : (line rest : List ℕ) → IsEnded [] line rest → ⊥
ended_not_empty line rest (by_lf e n) = append_not_empty line rest 10 e
ended_not_empty line rest (by_cr_lf e) = append_not_empty line (10 ∷ rest) 13 e
ended_not_empty line rest (missing e f g) = g (sym e)

-- a file has at most one list of lines
pub one_list_of_lines_lem : (file : List ℕ) (lines others : List (List ℕ)) → AreLines file lines → AreLines file others → lines ≡ others
one_list_of_lines_lem file [] [] a b = refl
one_list_of_lines_lem file [] (other ∷ others) a b =
    absurd (ended_not_empty other b.0 (subst (λ file. IsEnded file other b.0) a b.1.ended))
one_list_of_lines_lem file (line ∷ lines) [] a b =
    absurd (ended_not_empty line a.0 (subst (λ file. IsEnded file line a.0) b a.1.ended))
one_list_of_lines_lem file (line ∷ lines) (other ∷ others) a b =
    let same = one_first_line file line other a.0 b.0 a.1 b.1 in
    let rest = one_list_of_lines_lem b.0 lines others (subst (λ after. AreLines after lines) same.1 a.2) b.2 in
    let first = same.0 in cc

-- a file split at its first line feed, or without a line feed
pub data IsCut (file : List ℕ) : Type 0 where
  at_lf : (front rest : List ℕ) → HasNoLineFeed front → file ≡ front ++ 10 ∷ rest → IsCut file
  nowhere : HasNoLineFeed file → IsCut file

cut_more : (b : ℕ) (file : List ℕ) → b ≢ 10 → IsCut file → IsCut (b ∷ file)
cut_more b file p (at_lf front rest q e) = at_lf (b ∷ front) rest (All-cons (λ b. b ≢ 10) b front p q) (ap (λ s. b ∷ s) e)
cut_more b file p (nowhere q) = nowhere (All-cons (λ b. b ≢ 10) b file p q)

pub is_cut : (file : List ℕ) → IsCut file
is_cut [] = nowhere (All-nil (λ b. b ≢ 10))
is_cut (b ∷ file) =
    elim (cases_eq b 10) [ inl e ↦ at_lf [] file (All-nil (λ b. b ≢ 10)) (ap (λ c. c ∷ file) e) | inr n ↦ cut_more b file n (is_cut file) ]

not_later : (b : ℕ) (content front : List ℕ) → content ≢ [] → ¬ EndsInCarriageReturn content → b ∷ content ≡ front ++ 13 ∷ [] → ⊥
not_later b content [] p n e = p (cc)
not_later b content (c ∷ front) p n e = n (front, cc)

-- prepending a byte to nonempty bytes leaves their last byte unchanged
carriage_return_later : (b : ℕ) (content line : List ℕ) → content ≢ [] → IsWithoutCarriageReturn content line → IsWithoutCarriageReturn (b ∷ content) (b ∷ line)
carriage_return_later b content line p (inl e) = inl (ap (λ s. b ∷ s) e)
carriage_return_later b content line p (inr (e, n)) =
    inr (ap (λ s. b ∷ s) e, λ ends. not_later b content ends.0 p n ends.1)

one_byte : (b : ℕ) (front : List ℕ) → b ≢ 13 → b ∷ [] ≡ front ++ 13 ∷ [] → ⊥
one_byte b [] p e = p (cc)
one_byte b (c ∷ front) p e = append_not_empty front [] 13 (cc)

-- bytes end in a carriage return, or they don't
pub without_carriage_return : (content : List ℕ) → (line : List ℕ) × IsWithoutCarriageReturn content line
without_carriage_return [] = ([], inr (refl, λ ends. append_not_empty ends.0 [] 13 ends.1))
without_carriage_return (b ∷ []) =
    elim (cases_eq b 13) [ inl e ↦ ([], inl (ap (λ c. c ∷ []) e)) | inr n ↦ (b ∷ [], inr (refl, λ ends. one_byte b ends.0 n ends.1)) ]
without_carriage_return (b ∷ c ∷ content) =
    let rest = without_carriage_return (c ∷ content) in
    (b ∷ rest.0, carriage_return_later b (c ∷ content) rest.0 (λ e. cc) rest.1)

-- a line followed by LF, without the CR before the LF
pub ended_by_lf : (file content line rest : List ℕ) → HasNoLineFeed content → file ≡ content ++ 10 ∷ rest → IsWithoutCarriageReturn content line
    → IsFirstLine file line rest
ended_by_lf file content line rest p e (inl f) = record {
  no_line_feed = (All-pop (λ b. b ≢ 10) content line (Some 13) f p).0;
  ended = by_cr_lf (e ∙ ap (λ s. s ++ 10 ∷ rest) f ∙ sym (cr_lf line rest));
}
ended_by_lf file content line rest p e (inr (f, n)) = record {
  no_line_feed = subst (λ s. HasNoLineFeed s) f p;
  ended = by_lf (e ∙ ap (λ s. s ++ 10 ∷ rest) f) (λ ends. n (ends.0, f ∙ ends.1));
}

-- the first line of a nonempty file
pub record HasFirstLine (file : List ℕ) : Type 0 where
  pub line : List ℕ
  pub rest : List ℕ
  pub first : IsFirstLine file line rest

first_line_from_cut : (file : List ℕ) → file ≢ [] → IsCut file → HasFirstLine file
first_line_from_cut file p (at_lf front rest q e) =
    let without = without_carriage_return front in
    record { line = without.0; rest = rest; first = ended_by_lf file front without.0 rest q e without.1 }
first_line_from_cut file p (nowhere q) =
    record { line = file; rest = []; first = record { no_line_feed = q; ended = missing refl refl p } }

pub has_first_line : (file : List ℕ) → file ≢ [] → HasFirstLine file
has_first_line file p = first_line_from_cut file p (is_cut file)

pub rest-shorter_by : (file line rest : List ℕ) → file ≢ [] → IsEnded file line rest → length rest < length file
rest-shorter_by file line rest p (by_lf e n) = rw e (omega (arith, length-append line (10 ∷ rest)))
rest-shorter_by file line rest p (by_cr_lf e) = rw e (omega (arith, length-append line (13 ∷ 10 ∷ rest)))
rest-shorter_by [] line rest p (missing e f n) = absurd (p refl)
rest-shorter_by (b ∷ file) line rest p (missing e f n) = rw f (omega arith)

lines_within : (n : ℕ) (file : List ℕ) → length file ≤ n → (lines : List (List ℕ)) × AreLines file lines
lines_within n [] p = ([], refl)
lines_within zero (b ∷ file) p = absurd (omega arith)
lines_within (suc n) (b ∷ file) p =
    let first = has_first_line (b ∷ file) (λ e. cc) in
    let shorter = rest-shorter_by (b ∷ file) first.line first.rest (λ e. cc) first.first.ended in
    let others = lines_within n first.rest (omega arith) in
    (first.line ∷ others.0, (first.rest, first.first, others.1))

pub every_file_has_lines_lem : (file : List ℕ) → (lines : List (List ℕ)) × AreLines file lines
every_file_has_lines_lem file = lines_within (length file) file (omega arith)
