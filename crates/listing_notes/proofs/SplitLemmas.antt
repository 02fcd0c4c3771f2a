-- A text that is split at a byte that its front excludes determines its front.
use Rattle.std.proofs.Common.{◌≡◌, ◌≢◌, ℕ, suc, ◌+◌, ◌%◌, ◌^◌, ◌<◌, ◌≤◌, Bool, true, List, [], ◌∷◌, ◌++◌, length, refl, sym, ap, ◌∙◌, arith}
use Rattle.std.specs.Prelude.{decimal, not, ◌==◌}
use Rattle.std.specs.List.{list_all}
use Rattle.std.proofs.lemmas.Bool.{and_parts, and_from}
use Rattle.std.proofs.lemmas.Bool.Decides.{nat_tests}
use Rattle.std.proofs.lemmas.Fmt.{decimal_by_steps}
use Rattle.std.proofs.lemmas.List.Folds.{list_all-append}

-- a digit's code, and texts that consist of digits
pub record IsDigit (byte : ℕ) : Type 0 where
  pub above : 48 ≤ byte
  pub below : byte ≤ 57

abbrev pub AreDigits : List ℕ → Type 0
AreDigits [] = Unit {0}
AreDigits (x ∷ xs) = IsDigit x × AreDigits xs

digit : (n : ℕ) → n < 10 → IsDigit (48 + n)
digit n small = record { above = omega arith; below = omega arith }

more-digits : (xs : List ℕ) (n : ℕ) → n < 10 → AreDigits xs → AreDigits (xs ++ (48 + n) ∷ [])
more-digits [] n small digits = (digit n small, tt)
more-digits (x ∷ xs) n small digits = (digits.0, more-digits xs n small digits.1)

pub decimal-digits : (n : ℕ) → n < 2 ^ 64 → AreDigits (decimal n)
decimal-digits n small =
    decimal_by_steps (λ m xs. AreDigits xs) (λ m less. (digit m less, tt)) (λ m xs _ digits. more-digits xs (m % 10) (omega arith) digits) n small

-- the first byte of a text, and the bytes after it
abbrev pub first : List ℕ → ℕ
first [] = 0
first (x ∷ xs) = x

abbrev pub rest : List ℕ → List ℕ
rest [] = []
rest (x ∷ xs) = xs

-- no byte of a text is this byte
abbrev pub excludes : ℕ → List ℕ → Bool
excludes byte text = list_all (λ x. not (x == byte)) text

pub excludes-append : (byte : ℕ) (xs ys : List ℕ) → excludes byte xs ≡ true → excludes byte ys ≡ true → excludes byte (xs ++ ys) ≡ true
excludes-append byte xs ys first_excludes then_excludes =
    list_all-append (λ x. not (x == byte)) xs ys ∙ and_from (excludes byte xs) (excludes byte ys) first_excludes then_excludes

pub digits-exclude : (byte : ℕ) (xs : List ℕ) → byte < 48 → AreDigits xs → excludes byte xs ≡ true
digits-exclude byte [] small digits = refl
digits-exclude byte (x ∷ xs) small digits =
    let above = digits.0.above in
    let differs : not (x == byte) ≡ true = grind (arith, nat_tests) in
    and_from (not (x == byte)) (excludes byte xs) differs (digits-exclude byte xs small digits.1)

pub decimal-excludes : (byte n : ℕ) → byte < 48 → n < 2 ^ 64 → excludes byte (decimal n) ≡ true
decimal-excludes byte n small fits = digits-exclude byte (decimal n) small (decimal-digits n fits)

-- a front without the byte, and a rest that is empty or begins with it
abbrev pub BeginsWith : ℕ → List ℕ → Type 0
BeginsWith byte [] = Unit {0}
BeginsWith byte (x ∷ xs) = x ≡ byte

pub record AreSplitAt (byte : ℕ) (front rest : List ℕ) : Type 0 where
  pub excluded : excludes byte front ≡ true
  pub begins : BeginsWith byte rest

not-it : (x byte : ℕ) → not (x == byte) ≡ true → x ≢ byte
not-it x byte test is = absurd (grind (arith, nat_tests))

tail-split : (byte x : ℕ) (front rest : List ℕ) → AreSplitAt byte (x ∷ front) rest → AreSplitAt byte front rest
tail-split byte x front rest split =
    record { excluded = (and_parts (not (x == byte)) (excludes byte front) split.excluded).1; begins = split.begins }

no-begin : (byte x : ℕ) (front rest : List ℕ) → AreSplitAt byte (x ∷ front) rest → x ≢ byte
no-begin byte x front rest split = not-it x byte (and_parts (not (x == byte)) (excludes byte front) split.excluded).0

-- the front is determined
pub fronts-equal : (byte : ℕ) (a c s t : List ℕ) → AreSplitAt byte a s → AreSplitAt byte c t → a ++ s ≡ c ++ t → a ≡ c
fronts-equal byte [] [] s t split other same = refl
fronts-equal byte [] (y ∷ c) [] t split other same = let n : 0 ≡ suc (length (c ++ t)) = ap length same in absurd (omega arith)
fronts-equal byte [] (y ∷ c) (x ∷ s) t split other same = absurd (no-begin byte y c t other (sym (ap first same) ∙ split.begins))
fronts-equal byte (x ∷ a) [] s [] split other same = let n : suc (length (a ++ s)) ≡ 0 = ap length same in absurd (omega arith)
fronts-equal byte (x ∷ a) [] s (y ∷ t) split other same = absurd (no-begin byte x a s split (ap first same ∙ other.begins))
fronts-equal byte (x ∷ a) (y ∷ c) s t split other same =
    let head : x ≡ y = ap first same in
    let more : a ≡ c = fronts-equal byte a c s t (tail-split byte x a s split) (tail-split byte y c t other) (ap rest same) in
    cc
