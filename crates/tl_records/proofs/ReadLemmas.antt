-- Reading a line, for readers with known and with unknown bytes.
use Rattle.std.proofs.Common.{◌≡◌, ◌≢◌, ℕ, ◌≤◌, inl, inr, List, [], ◌∷◌, ◌++◌, length, Option, Some, None, ap, subst, ◌∙◌, append_assoc}
use Rattle.std.proofs.Common.{length-append, arith}
use Rattle.std.proofs.lemmas.List.Elements.{All-pop}
use Rattle.std.specs.Io.KnownBytes.{Consumes}
use Rattle.counted_io.specs.Content.{HasNoLineFeed}
use Rattle.tl_records.specs.Lines.{IfKnown, IsNextLine, IsWithoutCarriageReturn}
use Rattle.tl_records.proofs.LineLemmas.{ended_by_lf}

pub line_short : (content line : List ℕ) → length content ≤ 230 → IsWithoutCarriageReturn content line → length line ≤ 230
line_short content line short (inl e) = omega (arith, ap length e, length-append line (13 ∷ []))
line_short content line short (inr (e, n)) = omega (arith, ap length e)

pub line_whole : (content line : List ℕ) → HasNoLineFeed content → IsWithoutCarriageReturn content line → HasNoLineFeed line
line_whole content line p (inl e) = (All-pop (λ b. b ≢ 10) content line (Some 13) e p).0
line_whole content line p (inr (e, n)) = subst (λ s. HasNoLineFeed s) e p

-- a line that ends with LF
pub line_by_lf : (bytes left : Option (List ℕ)) (content line : List ℕ) → HasNoLineFeed content → length content ≤ 230
    → Consumes bytes left (content ++ 10 ∷ []) → IsWithoutCarriageReturn content line → IfKnown bytes left (IsNextLine line)
line_by_lf None left content line p short taken without = tt
line_by_lf (Some file) None content line p short taken without = absurd taken
line_by_lf (Some file) (Some rest) content line p short taken without =
    let cut : file ≡ content ++ 10 ∷ rest = taken ∙ append_assoc content (10 ∷ []) rest in (
      ended_by_lf file content line rest p cut without,
      line_short content line short without,
      rw cut (omega (arith, length-append content (10 ∷ rest))),
    )
