-- The index that `position` finds.
use Rattle.std.proofs.Common.{◌≡◌, ℕ, ◌<◌, ◌≤◌, nat_lt, Bool, true, false, List, [], length, cond, Some, None, ◌+◌, ◌-◌, take, drop, refl}
use Rattle.std.proofs.Common.{sym, ap, ◌∙◌, arith}
use Rattle.std.proofs.lemmas.List.{take_all, drop_all, length-drop}
use Rattle.std.specs.List.{position, position_or_len, before_first, after_first}
use Rattle.std.proofs.lemmas.Bool.{ltb-true, ltb-false, lt-ltb, le-ltb, le-leb}
use Rattle.std.specs.Prelude.{slice_index, slice_range}
use Rattle.bpf_assembler.specs.Operand.{memory_in, address_in}
use Rattle.bpf_assembler.specs.Words.{is_comma, split_operand, trim}

found-by : {X : Type 0} (p : X → Bool) (xs : List X) (i : ℕ) (test : Bool) → nat_lt (position_or_len p xs) (length xs) ≡ test
    → cond test (Some (position_or_len p xs)) None ≡ Some i → (i ≡ position_or_len p xs) × (position_or_len p xs < length xs)
found-by p xs i true is found = (cc, ltb-true _ _ is)
found-by p xs i false is found = cc

pub position-found : {X : Type 0} (p : X → Bool) (xs : List X) (i : ℕ) → position p xs ≡ Some i → (i ≡ position_or_len p xs)
    × (position_or_len p xs < length xs)
position-found p xs i found = found-by p xs i _ refl found

missing-by : {X : Type 0} (p : X → Bool) (xs : List X) (test : Bool) → nat_lt (position_or_len p xs) (length xs) ≡ test
    → cond test (Some (position_or_len p xs)) None ≡ None → length xs ≤ position_or_len p xs
missing-by p xs true is missing = cc
missing-by p xs false is missing = ltb-false _ _ is

pub position-missing : {X : Type 0} (p : X → Bool) (xs : List X) → position p xs ≡ None → length xs ≤ position_or_len p xs
position-missing p xs missing = missing-by p xs _ refl missing

-- the two parts of a list at the index that `position` finds
pub before-found : {X : Type 0} (p : X → Bool) (xs : List X) (i : ℕ) → Some i ≡ position p xs → take i xs ≡ before_first p xs
before-found p xs i found = ap (λ (n : ℕ). take n xs) (position-found p xs i (sym found)).0

-- the rest of a slice
pub rest-from : {X : Type 0} (k : ℕ) (xs : List X) → take (length xs - k) (drop k xs) ≡ drop k xs
rest-from k xs = take_all (length xs - k) (drop k xs) (omega (arith, length-drop k xs))

pub after-found : {X : Type 0} (p : X → Bool) (xs : List X) (i : ℕ) → Some i ≡ position p xs
    → take (length xs - (i + 1)) (drop (i + 1) xs) ≡ after_first p xs
after-found p xs i found = rest-from (i + 1) xs ∙ ap (λ (n : ℕ). drop (n + 1) xs) (position-found p xs i (sym found)).0

pub before-missing : {X : Type 0} (p : X → Bool) (xs : List X) → None ≡ position p xs → xs ≡ before_first p xs
before-missing p xs missing = sym (take_all (position_or_len p xs) xs (position-missing p xs (sym missing)))

pub after-missing : {X : Type 0} (p : X → Bool) (xs : List X) → None ≡ position p xs → [] ≡ after_first p xs
after-missing p xs missing =
    let past : length xs ≤ position_or_len p xs = position-missing p xs (sym missing) in
    sym (drop_all (position_or_len p xs + 1) xs (omega arith))

pub from-found : {X : Type 0} (p : X → Bool) (xs : List X) (i : ℕ) → Some i ≡ position p xs
    → take (length xs - i) (drop i xs) ≡ drop (position_or_len p xs) xs
from-found p xs i found = rest-from i xs ∙ ap (λ (n : ℕ). drop n xs) (position-found p xs i (sym found)).0

pub from-missing : {X : Type 0} (p : X → Bool) (xs : List X) → None ≡ position p xs → [] ≡ drop (position_or_len p xs) xs
from-missing p xs missing = sym (drop_all (position_or_len p xs) xs (position-missing p xs (sym missing)))

-- operands with and without a comma
pub cut-found : (xs : List ℕ) (i : ℕ) → Some i ≡ position is_comma xs
    → split_operand xs ≡ Some (trim (take i xs), trim (take (length xs - (i + 1)) (drop (i + 1) xs)))
cut-found xs i found =
    let at = position-found is_comma xs i (sym found) in
    rw (rest-from (i + 1) xs, at.0, lt-ltb _ _ at.1) refl

pub cut-missing : (xs : List ℕ) → None ≡ position is_comma xs → split_operand xs ≡ None
cut-missing xs missing = rw (le-ltb _ _ (position-missing is_comma xs (sym missing))) refl

-- a word in brackets
pub memory-bracketed : (word : List ℕ) → 2 ≤ length word → slice_index word 0 ≡ 91 → slice_index word (length word - 1) ≡ 93
    → memory_in word ≡ address_in (slice_range word 1 (length word - 1))
memory-bracketed word long opens closes = rw (le-leb _ _ long, opens, closes) refl
