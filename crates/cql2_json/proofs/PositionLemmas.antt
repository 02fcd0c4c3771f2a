-- The offset of a column.
use Rattle.std.proofs.Common.{◌≡◌, ℕ, suc, ◌+◌, ◌-◌, Bool, true, false, List, [], ◌∷◌, ◌++◌, length, refl, ap, ◌∙◌, arith}
use Rattle.std.specs.List.{fold, list_any}
use Rattle.std.specs.Prelude.{if◌then◌else◌, nat_le, ◌||◌}
use Rattle.std.proofs.lemmas.Bool.Decides.{nat_tests}
use Rattle.cql2_json.specs.Position.{BeginsCharacter, column_after, is_continuation, is_line_feed, next_column, offset_of}

-- the number of bytes that begin a character
abbrev characters : List ℕ → ℕ
characters [] = 0
characters (byte ∷ rest) = if is_continuation byte then characters rest else suc (characters rest)

no-part : (a b : Bool) → (a || b) ≡ false → (a ≡ false) × (b ≡ false)
no-part true b is = let never : ⊥ = cc in absurd never
no-part false b is = (refl, is)

step : (feed continues : Bool) (column : ℕ) → feed ≡ false
    → (if feed then 1 else (if continues then column else column + 1)) ≡ (if continues then column else column + 1)
step true continues column is = let never : ⊥ = cc in absurd never
step false continues column is = refl

counted : (continues : Bool) (column count : ℕ)
    → (if continues then column else column + 1) + count ≡ column + (if continues then count else suc count)
counted true column count = refl
counted false column count = omega arith

columns : (front : List ℕ) (column : ℕ) → list_any is_line_feed front ≡ false → fold next_column column front ≡ column + characters front
columns [] column none = omega arith
columns (byte ∷ rest) column none =
    let parts = no-part (is_line_feed byte) (list_any is_line_feed rest) none in
    columns rest (next_column column byte) parts.1
    ∙ ap (λ next. next + characters rest) (step (is_line_feed byte) (is_continuation byte) column parts.0)
    ∙ counted (is_continuation byte) column (characters rest)

passed : (continues : Bool) (count : ℕ) (rest after : List ℕ)
    → offset_of (1 + count) (rest ++ after) ≡ length rest
    → (if continues then suc (offset_of (1 + (if continues then count else suc count)) (rest ++ after))
    else if nat_le (1 + (if continues then count else suc count)) 1 then 0
    else suc (offset_of (1 + (if continues then count else suc count) - 1) (rest ++ after))) ≡ suc (length rest)
passed true count rest after is = ap suc is
passed false count rest after is =
    let more : nat_le (1 + suc count) 1 ≡ false = grind (arith, nat_tests) in
    let same : 1 + suc count - 1 ≡ 1 + count = omega arith in
    ap (λ b. if b then 0 else suc (offset_of (1 + suc count - 1) (rest ++ after))) more
    ∙ ap (λ column. suc (offset_of column (rest ++ after))) same ∙ ap suc is

at-end : (after : List ℕ) → BeginsCharacter after → offset_of 1 after ≡ 0
at-end [] begins = refl
at-end (byte ∷ rest) begins =
    ap (λ b. if b then suc (offset_of 1 rest) else if nat_le 1 1 then 0 else suc (offset_of (1 - 1) rest)) begins

offset_of-characters : (front after : List ℕ) → BeginsCharacter after → offset_of (1 + characters front) (front ++ after) ≡ length front
offset_of-characters [] after begins = at-end after begins
offset_of-characters (byte ∷ rest) after begins =
    passed (is_continuation byte) (characters rest) rest after (offset_of-characters rest after begins)

pub offset_of-column : (front after : List ℕ) → list_any is_line_feed front ≡ false → BeginsCharacter after
    → offset_of (column_after front) (front ++ after) ≡ length front
offset_of-column front after none begins =
    ap (λ column. offset_of column (front ++ after)) (columns front 1 none) ∙ offset_of-characters front after begins
