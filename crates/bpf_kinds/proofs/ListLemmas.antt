-- Lists of kinds, joined one by one, and facts about each element of a list.
use Rattle.std.proofs.Common.{◌≡◌, ℕ, suc, zero, ◌<◌, List, [], ◌∷◌, length, get_or, sym, ap, ◌∙◌, refl, arith}
use Rattle.std.specs.Prelude.{slice_set}
use Rattle.std.proofs.lemmas.List.{ext_get_or}
use Rattle.bpf_kinds.specs.Kind as kind
use Rattle.bpf_kinds.specs.Kind.{join_kinds}
use Rattle.bpf_kinds.specs.declared.kind.Kind.{Kind}
use Rattle.bpf_kinds.specs.declared.kind.Kind.TheVariants.{Nothing}

pub length-join_kinds : (xs ys : List Kind) → length xs ≡ length ys → length (join_kinds xs ys) ≡ length xs
length-join_kinds [] ys same = refl
length-join_kinds (x ∷ xs) [] same = absurd (omega arith)
length-join_kinds (x ∷ xs) (y ∷ ys) same = ap suc (length-join_kinds xs ys (omega arith))

pub get_or-join_kinds : (xs ys : List Kind) (place : ℕ) → length xs ≡ length ys
    → get_or (join_kinds xs ys) place Nothing ≡ kind.join (get_or xs place Nothing) (get_or ys place Nothing)
get_or-join_kinds [] [] place same = refl
get_or-join_kinds [] (y ∷ ys) place same = absurd (omega arith)
get_or-join_kinds (x ∷ xs) [] place same = absurd (omega arith)
get_or-join_kinds (x ∷ xs) (y ∷ ys) zero same = refl
get_or-join_kinds (x ∷ xs) (y ∷ ys) (suc place) same = get_or-join_kinds xs ys place (omega arith)

-- a list with the joined kinds at each index is the join of two lists
pub is_join_kinds : (xs ys joined : List Kind) (count : ℕ) → length xs ≡ count → length ys ≡ count → length joined ≡ count
    → ((place : ℕ) → place < count → get_or joined place Nothing ≡ kind.join (get_or xs place Nothing) (get_or ys place Nothing))
    → joined ≡ join_kinds xs ys
is_join_kinds xs ys joined count length-xs length-ys length-joined same =
    let same-length = length-xs ∙ sym length-ys in
    ext_get_or Nothing joined (join_kinds xs ys) (length-joined ∙ sym (length-join_kinds xs ys same-length ∙ length-xs))
    (λ place below. same place (omega arith) ∙ sym (get_or-join_kinds xs ys place same-length))

-- a fact about a list's elements still holds after one is written, if it holds of that one
pub set_each : {X : Type 0} (Property : ℕ → X → Type 0) (none : X) (xs : List X) (at : ℕ) (x : X) → Property at x
    → ((n : ℕ) → Property n (get_or xs n none)) → (n : ℕ) → Property n (get_or (slice_set xs at x) n none)
set_each Property none [] at x here all n = all n
set_each Property none (y ∷ xs) zero x here all zero = here
set_each Property none (y ∷ xs) zero x here all (suc n) = all (suc n)
set_each Property none (y ∷ xs) (suc at) x here all zero = all zero
set_each Property none (y ∷ xs) (suc at) x here all (suc n) = set_each (λ k. Property (suc k)) none xs at x here (λ k. all (suc k)) n

module _ {X Y : Type 0} (Property : X → Y → Type 0) (none : X) (nothing : Y) where
  -- a fact holds of the elements of two lists, one by one
  abbrev pub EachTwo : List X → List Y → Type 0
  EachTwo xs ys = (n : ℕ) → Property (get_or xs n none) (get_or ys n nothing)

  each_two : (x : X) (y : Y) (xs : List X) (ys : List Y) → Property x y → EachTwo xs ys → EachTwo (x ∷ xs) (y ∷ ys)
  each_two x y xs ys first others zero = first
  each_two x y xs ys first others (suc n) = others n

  -- a fact about two lists' elements, one by one, still holds after one of each is written, if it holds of those
  pub set_both : (xs : List X) (ys : List Y) (at : ℕ) (x : X) (y : Y) → length xs ≡ length ys → Property x y → EachTwo xs ys
      → EachTwo (slice_set xs at x) (slice_set ys at y)
  set_both [] [] at x y same here all = all
  set_both [] (b ∷ ys) at x y same here all = absurd (omega arith)
  set_both (a ∷ xs) [] at x y same here all = absurd (omega arith)
  set_both (a ∷ xs) (b ∷ ys) zero x y same here all = each_two x y xs ys here (λ n. all (suc n))
  set_both (a ∷ xs) (b ∷ ys) (suc at) x y same here all =
      each_two a b (slice_set xs at x) (slice_set ys at y) (all zero) (set_both xs ys at x y (omega arith) here (λ n. all (suc n)))
