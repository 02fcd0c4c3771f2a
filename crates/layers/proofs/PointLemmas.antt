-- Points of a line, written piece by piece.
use Rattle.std.proofs.Common.{◌≡◌, ℕ, List, ◌++◌, ap, ◌∙◌, append_assoc}

-- three texts, one after the other
pub three : (a b c now : List ℕ) {second third last : List ℕ} → second ≡ now ++ a → third ≡ second ++ b → last ≡ third ++ c → last ≡ now ++ ((a ++ b) ++ c)
three a b c now first_is second_is third_is =
    third_is ∙ ap (λ text. text ++ c) (second_is ∙ ap (λ text. text ++ b) first_is ∙ append_assoc now a b) ∙ append_assoc now (a ++ b) c
