-- Hexadecimal digits, one by one.
use Rattle.std.proofs.Common.{◌≡◌, ℕ, suc, zero, ◌-◌, ◌*◌, ◌/◌, ◌%◌, ◌^◌, ◌<◌, List, [], ◌∷◌, ◌++◌, refl, sym, ap, ◌∙◌, arith}
use Rattle.std.proofs.lemmas.List.{append_assoc, append-nil}
use Rattle.std.specs.Char.{digit_char}
use Rattle.bpf_text.specs.CodeText.{hexadecimal}

hexadecimal-step : (remaining number : ℕ) → 0 < remaining → hexadecimal remaining number ≡ digit_char (number / 2 ^ (4 * (remaining - 1)) % 16) ∷ hexadecimal
    (remaining - 1) number
unfolding hexadecimal
hexadecimal-step zero number some = absurd (omega arith)
hexadecimal-step (suc more) number some = let less : suc more - 1 ≡ more = omega arith in rw less refl

hexadecimal-end : (remaining number : ℕ) → remaining ≡ 0 → hexadecimal remaining number ≡ []
unfolding hexadecimal
hexadecimal-end zero number none = refl
hexadecimal-end (suc more) number none = absurd (omega arith)

-- one more digit is written
pub written-more : {new digit all : List ℕ} (old : List ℕ) (remaining number : ℕ) → 0 < remaining → new ≡ old ++ digit
    → digit ≡ digit_char (number / 2 ^ (4 * (remaining - 1)) % 16) ∷ [] → old ++ hexadecimal remaining number ≡ all
    → new ++ hexadecimal (remaining - 1) number ≡ all
written-more old remaining number some adds is so_far =
    let rest = hexadecimal (remaining - 1) number in
    ap (λ (xs : List ℕ). xs ++ rest) (adds ∙ ap (λ (xs : List ℕ). old ++ xs) is)
    ∙ append_assoc old (digit_char (number / 2 ^ (4 * (remaining - 1)) % 16) ∷ []) rest
    ∙ ap (λ (xs : List ℕ). old ++ xs) (sym (hexadecimal-step remaining number some)) ∙ so_far

-- all digits are written
pub written-all : (new all : List ℕ) (remaining number : ℕ) → remaining ≡ 0 → new ++ hexadecimal remaining number ≡ all → new ≡ all
written-all new all remaining number none so_far = sym (append-nil new)
    ∙ ap (λ (xs : List ℕ). new ++ xs) (sym (hexadecimal-end remaining number none)) ∙ so_far
