-- The lines of a text.
use Rattle.std.proofs.Common.{◌≡◌, ℕ, ◌+◌, ◌-◌, ◌<◌, ◌≤◌, Bool, false, List, [], ◌∷◌, length, take, drop, Some, None, refl, sym, ap, ◌∙◌}
use Rattle.std.proofs.Common.{arith}
use Rattle.std.specs.Prelude.{◌==◌}
use Rattle.std.specs.List.{slice_split, position, position_or_len, before_first, after_first, All}
use Rattle.std.specs.Str.Lines.{lines, lines_of_parts, strip_carriage_return}
use Rattle.std.proofs.lemmas.List.Splits.{slice_split_first, slice_split_none, length-slice_split}
use Rattle.std.proofs.lemmas.List.Sums.{fails_before_first}
use Rattle.std.proofs.lemmas.Bool.Decides.{nat_tests}
use Rattle.bpf_assembler.proofs.WordLemmas.{position-found, position-missing, rest-from}

abbrev is_line_feed : ℕ → Bool
is_line_feed byte = byte == 10

-- a part before other parts is a line
pub lines-more : (part : List ℕ) (parts : List (List ℕ)) → 1 ≤ length parts
    → lines_of_parts (part ∷ parts) ≡ strip_carriage_return part ∷ lines_of_parts parts
lines-more part [] some = absurd (omega arith)
lines-more part (next ∷ parts) some = refl

lines-cut : (text : List ℕ) → position_or_len is_line_feed text < length text
    → lines text ≡ strip_carriage_return (before_first is_line_feed text) ∷ lines (after_first is_line_feed text)
lines-cut text inside =
    let parts = slice_split_first is_line_feed text 0 inside in
    let some : 1 ≤ length (slice_split is_line_feed (after_first is_line_feed text)) =
    omega (arith, length-slice_split is_line_feed (after_first is_line_feed text)) in
    ap lines_of_parts parts ∙ lines-more _ _ some

-- the first line ends at the first line feed
pub lines-found : (text : List ℕ) (i : ℕ) → Some i ≡ position (λ byte. byte == 10) text
    → lines text ≡ strip_carriage_return (take i text) ∷ lines (take (length text - (i + 1)) (drop (i + 1) text))
lines-found text i found =
    let at = position-found is_line_feed text i (sym found) in
    rw (rest-from (i + 1) text, at.0) (lines-cut text at.1)

last-line : (text : List ℕ) → 0 < length text → lines_of_parts (text ∷ []) ≡ text ∷ []
last-line [] some = absurd (omega arith)
last-line (byte ∷ text) some = let full : (length (byte ∷ text) == 0) ≡ false = grind (arith, nat_tests) in rw full refl

-- a text without a line feed is its only line
pub lines-missing : (text : List ℕ) → 0 < length text → None ≡ position (λ byte. byte == 10) text → lines text ≡ text ∷ lines []
lines-missing text some missing =
    let past = position-missing is_line_feed text (sym missing) in
    let none : All (λ byte. is_line_feed byte ≡ false) text = λ k d inside. fails_before_first is_line_feed text k d (omega arith) in
    ap lines_of_parts (slice_split_none is_line_feed text none) ∙ last-line text some
