-- Products of signed numbers: they distribute over sums and differences, and the size of a product is at most that of its factors.
use Rattle.std.proofs.Common.{◌≡◌, ℕ, zero, suc, ◌+◌, ◌*◌, ◌≤◌, ℤ, pos, negsuc, sym, ap, ◌∙◌, arith}
use Rattle.std.specs.Prelude.{◌+ℤ◌, ◌-ℤ◌, ◌*ℤ◌, neg_ℤ, unsigned_abs}
use Rattle.std.proofs.lemmas.Int.{ints, unsigned_abs-mul}
use Rattle.std.proofs.Math.IntN.{+ℤ_idl, +ℤ_invl, *ℤ_comm, pred_ℤ, pred_ℤ-*ℤ, pred_ℤ-+ℤ, suc_ℤ, suc_ℤ-*ℤ, suc_ℤ-+ℤ, zero-*ℤ}
use Rattle.std.proofs.Math.Nat.{mul-le-mul}

-- the product of a sum is the sum of the products

AddsProducts : ℤ → ℤ → ℤ → Type 0
AddsProducts a b c = (a +ℤ b) *ℤ c ≡ a *ℤ c +ℤ b *ℤ c

swapped : (x y z : ℤ) → (x +ℤ y) +ℤ z ≡ (x +ℤ z) +ℤ y
swapped x y z = omega (arith, ints)

swapped_minus : (x y z : ℤ) → (x +ℤ y) -ℤ z ≡ (x -ℤ z) +ℤ y
swapped_minus x y z = omega (arith, ints)

one_more : (a b c : ℤ) → (a +ℤ b) *ℤ c ≡ a *ℤ c +ℤ b *ℤ c → (suc_ℤ a +ℤ b) *ℤ c ≡ suc_ℤ a *ℤ c +ℤ b *ℤ c
one_more a b c is =
    ap (λ (z : ℤ). z *ℤ c) (suc_ℤ-+ℤ a b) ∙ suc_ℤ-*ℤ (a +ℤ b) c ∙ ap (λ (z : ℤ). z +ℤ c) is ∙ swapped (a *ℤ c) (b *ℤ c) c
    ∙ ap (λ (z : ℤ). z +ℤ b *ℤ c) (sym (suc_ℤ-*ℤ a c))

one_less : (a b c : ℤ) → (a +ℤ b) *ℤ c ≡ a *ℤ c +ℤ b *ℤ c → (pred_ℤ a +ℤ b) *ℤ c ≡ pred_ℤ a *ℤ c +ℤ b *ℤ c
one_less a b c is =
    ap (λ (z : ℤ). z *ℤ c) (pred_ℤ-+ℤ a b) ∙ pred_ℤ-*ℤ (a +ℤ b) c ∙ ap (λ (z : ℤ). z -ℤ c) is ∙ swapped_minus (a *ℤ c) (b *ℤ c) c
    ∙ ap (λ (z : ℤ). z +ℤ b *ℤ c) (sym (pred_ℤ-*ℤ a c))

none : (b c : ℤ) → (pos zero +ℤ b) *ℤ c ≡ pos zero *ℤ c +ℤ b *ℤ c
none b c =
    ap (λ (z : ℤ). z *ℤ c) (+ℤ_idl b) ∙ sym (+ℤ_idl (b *ℤ c)) ∙ ap (λ (z : ℤ). z +ℤ b *ℤ c) (sym (zero-*ℤ c))

pub add-mul : (a b c : ℤ) → (a +ℤ b) *ℤ c ≡ a *ℤ c +ℤ b *ℤ c
add-mul (pos zero) b c = none b c
add-mul (pos (suc n)) b c = one_more (pos n) b c (add-mul (pos n) b c)
add-mul (negsuc zero) b c = one_less (pos zero) b c (none b c)
add-mul (negsuc (suc n)) b c = one_less (negsuc n) b c (add-mul (negsuc n) b c)

-- and that of a difference their difference

cancelled : (x y : ℤ) → x +ℤ y ≡ pos zero → x ≡ neg_ℤ y
cancelled x y is = omega (arith, ints)

neg-mul : (b c : ℤ) → neg_ℤ b *ℤ c ≡ neg_ℤ (b *ℤ c)
neg-mul b c =
    cancelled (neg_ℤ b *ℤ c) (b *ℤ c) (sym (add-mul (neg_ℤ b) b c) ∙ ap (λ (z : ℤ). z *ℤ c) (+ℤ_invl b) ∙ zero-*ℤ c)

pub sub-mul : (a b c : ℤ) → (a -ℤ b) *ℤ c ≡ a *ℤ c -ℤ b *ℤ c
sub-mul a b c = add-mul a (neg_ℤ b) c ∙ ap (λ (z : ℤ). a *ℤ c +ℤ z) (neg-mul b c)

pub mul-sub : (a b c : ℤ) → a *ℤ (b -ℤ c) ≡ a *ℤ b -ℤ a *ℤ c
mul-sub a b c =
    *ℤ_comm a (b -ℤ c) ∙ sub-mul b c a ∙ ap (λ (z : ℤ). z -ℤ c *ℤ a) (*ℤ_comm b a) ∙ ap (λ (z : ℤ). a *ℤ b -ℤ z) (*ℤ_comm c a)

pub mul-add : (a b c : ℤ) → a *ℤ (b +ℤ c) ≡ a *ℤ b +ℤ a *ℤ c
mul-add a b c =
    *ℤ_comm a (b +ℤ c) ∙ add-mul b c a ∙ ap (λ (z : ℤ). z +ℤ c *ℤ a) (*ℤ_comm b a) ∙ ap (λ (z : ℤ). a *ℤ b +ℤ z) (*ℤ_comm c a)

-- sizes

pub abs-sub : (a b : ℤ) → unsigned_abs (a -ℤ b) ≤ unsigned_abs a + unsigned_abs b
abs-sub a b = omega (arith, ints)

pub abs-mul : (a b : ℤ) (m n : ℕ) → unsigned_abs a ≤ m → unsigned_abs b ≤ n → unsigned_abs (a *ℤ b) ≤ m * n
abs-mul a b m n small few = let is = unsigned_abs-mul a b in let most = mul-le-mul small few in omega arith
