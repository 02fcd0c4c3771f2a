-- Source lines are read one by one.
use Rattle.std.proofs.Common.{◌≡◌, ℕ, ◌+◌, ◌<◌, ◌≤◌, true, false, List, [], ◌∷◌, ◌++◌, length, map, refl, sym, ap, subst, ◌∙◌, append_assoc}
use Rattle.std.proofs.Common.{arith}
use Rattle.std.specs.Prelude.{Option, Some, None, Result, Ok, Err, nat_lt}
use Rattle.std.specs.Str.{IsUtf8, is_utf8}
use Rattle.std.specs.Str.Lines.{lines}
use Rattle.std.proofs.lemmas.Str.{IsUtf8-from_is_utf8, is_utf8-from_IsUtf8}
use Rattle.std.proofs.lemmas.List.{append-nil, map-append}
use Rattle.std.proofs.lemmas.Bool.{false_from_ne_true}
use Rattle.std.proofs.lemmas.Bool.Decides.{nat_tests}
use Rattle.listing_lines.specs.SourceLines.{SourceLine, IsChecked, valid_line, fault_at, followed, in_order, line_in, line_of, lines_from, lines_in}
use Rattle.listing_lines.specs.SourceLines.{lines_or_none}
use Rattle.listing_lines.specs.SourceLines.{preceded}
use Rattle.listing_lines.specs.declared.source_lines.LinesFault.{LinesFault}
use Rattle.listing_lines.specs.declared.source_lines.SourceLineFaultKind.{SourceLineFaultKind}
use Rattle.listing_lines.specs.declared.source_lines.SourceLineFaultKind.TheVariants.{NotText, WithoutPlace, OutOfOrder}
use Rattle.listing_lines.specs.declared.source_lines.PlacedLine.{PlacedLine}

-- lines before lines before other lines
pub preceded-all : (lines more : List SourceLine) (later : Result (List SourceLine) LinesFault)
    → preceded lines (preceded more later) ≡ preceded (lines ++ more) later
preceded-all lines more (Ok later) = ap Ok (sym (append_assoc lines more later))
preceded-all lines more (Err fault) = refl

pub preceded-none : (later : Result (List SourceLine) LinesFault) → preceded [] later ≡ later
preceded-none (Ok later) = refl
preceded-none (Err fault) = refl

pub lines-next : (number last : ℕ) (text : List ℕ) (texts : List (List ℕ)) (line : SourceLine) → valid_line last text ≡ Ok line
    → lines_from number last (text ∷ texts) ≡ preceded (line ∷ []) (lines_from (number + 1) line.place texts)
unfolding lines_from
lines-next number last text texts line is = ap (λ held. followed number held (λ place. lines_from (number + 1) place texts)) is

pub lines-fault : (number last : ℕ) (text : List ℕ) (texts : List (List ℕ)) (flaw : SourceLineFaultKind) → valid_line last text ≡ Err flaw
    → lines_from number last (text ∷ texts) ≡ Err (fault_at number flaw)
unfolding lines_from
lines-fault number last text texts flaw is = ap (λ held. followed number held (λ place. lines_from (number + 1) place texts)) is

pub lines-none : (number last : ℕ) → lines_from number last [] ≡ Ok []
unfolding lines_from
lines-none number last = refl

-- a line's place and text
pub valid_line-text : (last : ℕ) (text : List ℕ) → IsUtf8 text → valid_line last text ≡ in_order last (line_in text)
unfolding valid_line
valid_line-text last text is = rw (is_utf8-from_IsUtf8 text is) refl

pub valid_line-not : (last : ℕ) (text : List ℕ) → (IsUtf8 text → ⊥) → valid_line last text ≡ Err NotText
unfolding valid_line
valid_line-not last text is = rw (false_from_ne_true (is_utf8 text) (λ test. is (IsUtf8-from_is_utf8 text test))) refl

pub order-fault : (last : ℕ) (found : Option SourceLine) (line : SourceLine) → Some line ≡ found → line.place < last → in_order last found ≡ Err OutOfOrder
order-fault last found line is before =
    let test : nat_lt line.place last ≡ true = grind (arith, nat_tests) in subst (λ o. in_order last o ≡ Err OutOfOrder) is (rw test refl)

pub order-ok : (last : ℕ) (found : Option SourceLine) (line : SourceLine) → Some line ≡ found → last ≤ line.place → in_order last found ≡ Ok line
order-ok last found line is after =
    let test : nat_lt line.place last ≡ false = grind (arith, nat_tests) in subst (λ o. in_order last o ≡ Ok line) is (rw test refl)

pub order-missing : (last : ℕ) (found : Option SourceLine) → None ≡ found → in_order last found ≡ Err WithoutPlace
order-missing last found is = subst (λ o. in_order last o ≡ Err WithoutPlace) is refl

-- a reader's state: the remaining text, the number of its first line, and the place of the line above it
pub record ReadState : Type 0 where
  pub rest : List ℕ
  pub number : ℕ
  pub last : ℕ

abbrev pub state : List ℕ → ℕ → ℕ → ReadState
state rest number last = record { rest = rest; number = number; last = last }

-- the lines before the state are read
abbrev pub AreRead : List ℕ → List SourceLine → ReadState → Type 0
AreRead file before at = lines_in file ≡ preceded before (lines_from at.number at.last (lines at.rest))

-- the first remaining line, with the result of reading it
pub record ReadsLine (at : ReadState) (after : List ℕ) (result : Result PlacedLine LinesFault) : Type 0 where
  pub text : List ℕ
  pub cut : lines at.rest ≡ text ∷ lines after
  pub is : IsChecked at.number (valid_line at.last text) result

-- one more line is read, or has a fault, or there is none
pub lines-more : (file : List ℕ) (before : List SourceLine) (at : ReadState) (after : List ℕ) (line : PlacedLine)
    → AreRead file before at → ReadsLine at after (Ok line) → AreRead file (before ++ (line_of line ∷ [])) (state after (at.number + 1) line.place)
lines-more file before at after line so_far reads =
    so_far ∙ ap (preceded before) (ap (lines_from at.number at.last) reads.cut
    ∙ lines-next at.number at.last reads.text (lines after) (line_of line) reads.is)
    ∙ preceded-all before (line_of line ∷ []) (lines_from (at.number + 1) line.place (lines after))

pub lines-more-all : (file : List ℕ) (before : List PlacedLine) (at : ReadState) (after : List ℕ) (line : PlacedLine)
    → AreRead file (map line_of before) at → ReadsLine at after (Ok line)
    → AreRead file (map line_of (before ++ (line ∷ []))) (state after (at.number + 1) line.place)
lines-more-all file before at after line so_far reads =
    lines-more file (map line_of before) at after line so_far reads
    ∙ ap (λ (ys : List SourceLine). preceded ys (lines_from (at.number + 1) line.place (lines after))) (sym (map-append line_of before (line ∷ [])))

same-fault : (fault : LinesFault) (number : ℕ) → fault.line ≡ number → fault_at number fault.flaw ≡ fault
same-fault fault number is = ap (λ (n : ℕ). fault_at n fault.flaw) (sym is)

pub lines-refused : (file : List ℕ) (before : List SourceLine) (at : ReadState) (after : List ℕ) (fault : LinesFault)
    → AreRead file before at → ReadsLine at after (Err fault) → lines_in file ≡ Err fault
lines-refused file before at after fault so_far reads =
    so_far ∙ ap (preceded before) (ap (lines_from at.number at.last) reads.cut
    ∙ lines-fault at.number at.last reads.text (lines after) fault.flaw reads.is.1)
    ∙ ap Err (same-fault fault at.number reads.is.0)

pub lines-read : (file rest : List ℕ) (before : List SourceLine) (number last : ℕ) → length rest ≡ 0
    → lines_in file ≡ preceded before (lines_from number last (lines rest)) → lines_in file ≡ Ok before
lines-read file [] before number last none so_far =
    so_far ∙ ap (preceded before) (lines-none number last) ∙ ap Ok (append-nil before)
lines-read file (byte ∷ rest) before number last none so_far = absurd (omega arith)

-- the lines of a file
pub has-lines : (held : Result (List SourceLine) LinesFault) (lines : List SourceLine) → held ≡ Ok lines → held ≡ Ok (lines_or_none held)
has-lines held lines is = is ∙ ap Ok (sym (ap lines_or_none is))
