-- Pieces of text that are appended one by one.
use Rattle.std.proofs.Common.{◌≡◌, ℕ, suc, ◌+◌, ◌<◌, ◌≤◌, List, ◌++◌, drop, get_or, length, Ok, Err, append_assoc, ap, sym, ◌∙◌, add-one, drop-cons}
use Rattle.std.specs.Prelude.{OnOk, Result}
use Rattle.std.proofs.Math.ListN.{drop_of_length-le}
use Rattle.std.proofs.lemmas.List.{append-nil}
use Rattle.std.specs.List.{flat_map}

-- the text so far, and the pieces that are left, are the complete text
abbrev pub Remain : {A : Type 0} → (A → List ℕ) → List A → ℕ → List ℕ → List ℕ → Type 0
Remain piece all index text whole = text ++ flat_map piece (drop index all) ≡ whole

pub piece_step : {A : Type 0} (piece : A → List ℕ) (all : List A) (fallback : A) (index : ℕ) (text whole : List ℕ) → index < length all
    → Remain piece all index text whole → Remain piece all (index + 1) (text ++ piece (get_or all index fallback)) whole
piece_step piece all fallback index text whole below so_far =
    rw add-one
    (append_assoc text (piece (get_or all index fallback)) (flat_map piece (drop (suc index) all))
    ∙ ap (λ left. text ++ flat_map piece left) (sym (drop-cons all index fallback below)) ∙ so_far)

pub pieces_done : {A : Type 0} (piece : A → List ℕ) (all : List A) (index : ℕ) (text whole : List ℕ) → length all ≤ index
    → Remain piece all index text whole → text ≡ whole
pieces_done piece all index text whole above so_far =
    sym (append-nil text) ∙ ap (λ left. text ++ flat_map piece left) (sym (drop_of_length-le all above)) ∙ so_far

-- the last call appends a piece to what the others appended
pub then_last : {V E : Type 0} (result : Result V E) (new middle old first last : List ℕ) → OnOk result (new ≡ middle ++ last)
    → middle ≡ old ++ first → OnOk result (new ≡ old ++ (first ++ last))
then_last (Ok value) new middle old first last appends before = appends ∙ ap (λ text. text ++ last) before ∙ append_assoc old first last
then_last (Err error) new middle old first last appends before = tt
