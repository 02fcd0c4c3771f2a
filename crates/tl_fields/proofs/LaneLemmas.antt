-- What the lowest bit of a mask says about the lanes before it.
use Rattle.std.proofs.Common.{◌≡◌, ℕ, ◌%◌, ◌^◌, ◌<◌, ◌≤◌, Bool, true, not, ◌||◌, List, [], ◌∷◌, map, length, get_or, Fits, w8}
use Rattle.std.proofs.Common.{refl, sym, ap, ap₂, ◌∙◌, arith, inl, inr}
use Rattle.std.proofs.lemmas.Bool.{agree_below, agree_below_at, not-true, cases_eq, eq-eqb, ne_eqb, cond-true, cond-false}
use Rattle.std.proofs.lemmas.Simd.{map-map, mask_l-mod, leading_from_mask_l, trailing_mask_l, Each1-get_or}
use Rattle.std.proofs.lemmas.List.{length-map}
use Rattle.std.proofs.lemmas.List.Sums.{prefix_len-le-length, prefix_len_passes}
use Rattle.std.specs.List.{prefix_len}
use lib.Lanes.{zip2, mask_l, top, Each1}
use Rattle.tl_fields.specs.Aligned.{lowest_set_bit}

zip2-map : (h : ℕ → ℕ → ℕ) (f g : ℕ → ℕ) (xs : List ℕ) → zip2 h (map f xs) (map g xs) ≡ map (λ x. h (f x) (g x)) xs
zip2-map h f g [] = refl
zip2-map h f g (x ∷ xs) = ap (λ r. h (f x) (g x) ∷ r) (zip2-map h f g xs)

-- an operation on two vectors that were computed lane by lane from v
pub joined : (h : ℕ → ℕ → ℕ) (f g : ℕ → ℕ) (v : List ℕ) {a b : List ℕ} → a ≡ map f v → b ≡ map g v → zip2 h a b ≡ map (λ x. h (f x) (g x)) v
joined h f g v p q = ap₂ (zip2 h) p q ∙ zip2-map h f g v

run_is : (p : ℕ → Bool) (v : List ℕ) (n : ℕ) → length v ≡ n → n ≤ 64 → lowest_set_bit (mask_l (map p v)) n ≡ prefix_len (λ x. not (p x)) v
run_is p v n long few =
    elim (cases_eq (mask_l (map p v)) 0) [
      | inl none ↦ cond-true _ _ _ (eq-eqb _ _ none) ∙ sym (leading_from_mask_l p v none ∙ long)
      | inr some ↦ cond-false _ _ _ (ne_eqb _ _ some) ∙ trailing_mask_l p 64 v (omega arith) (omega arith)
    ]

module _ (q : ℕ → Bool) (v z : List ℕ) (n r : ℕ) (long : length v ≡ n) (few : n ≤ 64) (fits : Each1 (Fits w8) v) (f : ℕ → ℕ)
    (lanes : z ≡ map f v) (found : r ≡ lowest_set_bit (mask_l (map (top 7) z) % 2 ^ 64) n) where
  abbrev stops : ℕ → Bool
  stops x = top 7 (f x)

  counted : r ≡ prefix_len (λ x. not (stops x)) v
  counted =
      let mask = ap (λ l. mask_l l % 2 ^ 64) (ap (map (top 7)) lanes ∙ map-map (top 7) f v)
      ∙ mask_l-mod (map stops v) 64 (omega (arith, length-map v stops, long)) in
      found ∙ ap (λ m. lowest_set_bit m n) mask ∙ run_is stops v n long few

  pub within : r ≤ n
  within = omega (arith, counted, long, prefix_len-le-length (λ x. not (stops x)) v)

  -- each byte at which no lane stops passes q
  pub passes : agree_below (λ x. stops x || q x) (λ _. true) 256 ≡ true → (k : ℕ) → k < r → q (get_or v k 0) ≡ true
  passes all k before =
      let inside : k < length v = omega (arith, within, long) in
      let continues = not-true _ (prefix_len_passes (λ x. not (stops x)) v k 0 (omega (arith, counted))) in
      sym (ap (λ b. b || q (get_or v k 0)) continues)
      ∙ agree_below_at (λ x. stops x || q x) (λ _. true) 256 (get_or v k 0) all (Each1-get_or (Fits w8) v k 0 inside fits).fits
