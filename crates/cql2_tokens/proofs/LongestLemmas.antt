-- The longest prefix of bytes that satisfy a predicate.
use Rattle.std.proofs.Common.{◌≡◌, ℕ, ◌+◌, ◌-◌, ◌≤◌, Bool, true, false, not, List, [], ◌∷◌, suc, length, cond, Some, None, take, drop, refl}
use Rattle.std.proofs.Common.{sym, arith, nat_lt}
use Rattle.std.proofs.lemmas.List.{take_all, length-drop}
use Rattle.std.specs.List.{list_all, position, position_or_len}
use Rattle.std.proofs.lemmas.Bool.{ltb-false}
use Rattle.cql2_tokens.specs.Lexed.{IsLongest, begins}

found-by : (p : ℕ → Bool) (xs : List ℕ) (i : ℕ) (test : Bool) → nat_lt (position_or_len p xs) (length xs) ≡ test
    → cond test (Some (position_or_len p xs)) None ≡ Some i → i ≡ position_or_len p xs
found-by p xs i true is found = cc
found-by p xs i false is found = cc

missing-by : (p : ℕ → Bool) (xs : List ℕ) (test : Bool) → nat_lt (position_or_len p xs) (length xs) ≡ test
    → cond test (Some (position_or_len p xs)) None ≡ None → length xs ≤ position_or_len p xs
missing-by p xs true is missing = cc
missing-by p xs false is missing = ltb-false _ _ is

such-by : (p : ℕ → Bool) (x : ℕ) (xs : List ℕ) (n : ℕ) (b : Bool) → p x ≡ b → list_all p (take n xs) ≡ true
    → list_all p (take (cond (not (not b)) (1 + n) 0) (x ∷ xs)) ≡ true
such-by p x xs n true is later = let e : 1 + n ≡ suc n = omega arith in rw (e, is, later) refl
such-by p x xs n false is later = refl

such : (p : ℕ → Bool) (xs : List ℕ) → list_all p (take (position_or_len (λ x. not (p x)) xs) xs) ≡ true
such p [] = refl
such p (x ∷ xs) = such-by p x xs _ (p x) refl (such p xs)

stops-by : (p : ℕ → Bool) (x : ℕ) (xs : List ℕ) (n : ℕ) (b : Bool) → p x ≡ b → begins p (drop n xs) ≡ false
    → begins p (drop (cond (not (not b)) (1 + n) 0) (x ∷ xs)) ≡ false
stops-by p x xs n true is later = let e : 1 + n ≡ suc n = omega arith in rw e later
stops-by p x xs n false is later = is

stops : (p : ℕ → Bool) (xs : List ℕ) → begins p (drop (position_or_len (λ x. not (p x)) xs) xs) ≡ false
stops p [] = refl
stops p (x ∷ xs) = stops-by p x xs _ (p x) refl (stops p xs)

pub longest-found : (p : ℕ → Bool) (xs : List ℕ) (i : ℕ) → Some i ≡ position (λ x. not (p x)) xs
    → IsLongest p (take i xs) (take (length xs - i) (drop i xs))
longest-found p xs i found =
    let at : i ≡ position_or_len (λ x. not (p x)) xs = found-by (λ x. not (p x)) xs i _ refl (sym found) in
    let rest : take (length xs - i) (drop i xs) ≡ drop i xs = take_all (length xs - i) (drop i xs) (omega (arith, length-drop i xs)) in
    record { such = rw at (such p xs); longest = rw (rest, at) (stops p xs) }

pub longest-missing : (p : ℕ → Bool) (xs : List ℕ) → None ≡ position (λ x. not (p x)) xs → IsLongest p xs []
longest-missing p xs missing =
    let past : length xs ≤ position_or_len (λ x. not (p x)) xs = missing-by (λ x. not (p x)) xs _ refl (sym missing) in
    let whole : take (position_or_len (λ x. not (p x)) xs) xs ≡ xs = take_all _ xs past in
    record { such = rw whole at (such p xs); longest = refl }
