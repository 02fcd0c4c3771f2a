-- Words written side by side are read one by one.
use Rattle.std.proofs.Common.{◌≡◌, ℕ, ◌+◌, ◌≤◌, Bool, true, false, List, [], ◌∷◌, ◌++◌, length, take, drop, reverse, refl, sym, ap, ◌∙◌}
use Rattle.std.proofs.Common.{subst, arith}
use Rattle.std.specs.Prelude.{not}
use Rattle.std.specs.List.{list_all, position_or_len, before_first, after_first}
use Rattle.std.proofs.lemmas.Bool.{and_parts, and_from}
use Rattle.std.proofs.lemmas.List.{append_assoc, length-append, reverse-append, reverse-reverse, take_all}
use Rattle.std.proofs.lemmas.List.Folds.{list_all-append}
use Rattle.std.proofs.Math.Seq.{take-append_seam, drop-append-add}
use Rattle.bpf_assembler.specs.Words.{is_blank, trim_start, trim}

-- a property of each byte
pub all-by : (p q : ℕ → Bool) → ((byte : ℕ) → p byte ≡ true → q byte ≡ true) → (xs : List ℕ) → list_all p xs ≡ true → list_all q xs ≡ true
all-by p q implies [] all = refl
all-by p q implies (x ∷ xs) all =
    let parts = and_parts (p x) (list_all p xs) all in
    and_from _ _ (implies x parts.0) (all-by p q implies xs parts.1)

pub all-append : (p : ℕ → Bool) (xs ys : List ℕ) → list_all p xs ≡ true → list_all p ys ≡ true → list_all p (xs ++ ys) ≡ true
all-append p xs ys x y = list_all-append p xs ys ∙ and_from _ _ x y

all-reverse : (p : ℕ → Bool) (xs : List ℕ) → list_all p xs ≡ true → list_all p (reverse xs) ≡ true
all-reverse p [] all = refl
all-reverse p (x ∷ xs) all =
    let parts = and_parts (p x) (list_all p xs) all in
    ap (list_all p) (reverse-append (x ∷ []) xs) ∙ all-append p (reverse xs) (x ∷ []) (all-reverse p xs parts.1) (and_from _ _ parts.0 refl)

-- the index of the first byte of a kind
pub place-at : (p : ℕ → Bool) (xs ys : List ℕ) (c : ℕ) → list_all (λ byte. not (p byte)) xs ≡ true → p c ≡ true
    → position_or_len p (xs ++ c ∷ ys) ≡ length xs
place-at p [] ys c none is = rw is refl
place-at p (x ∷ xs) ys c none is =
    let parts = and_parts (not (p x)) (list_all (λ byte. not (p byte)) xs) none in
    rw parts.0 (omega (arith, place-at p xs ys c parts.1 is))

pub place-none : (p : ℕ → Bool) (xs : List ℕ) → list_all (λ byte. not (p byte)) xs ≡ true → position_or_len p xs ≡ length xs
place-none p [] none = refl
place-none p (x ∷ xs) none =
    let parts = and_parts (not (p x)) (list_all (λ byte. not (p byte)) xs) none in
    rw parts.0 (omega (arith, place-none p xs parts.1))

pub before-at : (p : ℕ → Bool) (xs ys : List ℕ) (c : ℕ) → list_all (λ byte. not (p byte)) xs ≡ true → p c ≡ true
    → before_first p (xs ++ c ∷ ys) ≡ xs
before-at p xs ys c none is = ap (λ (n : ℕ). take n (xs ++ c ∷ ys)) (place-at p xs ys c none is) ∙ take-append_seam xs (c ∷ ys)

pub after-at : (p : ℕ → Bool) (xs ys : List ℕ) (c : ℕ) → list_all (λ byte. not (p byte)) xs ≡ true → p c ≡ true
    → after_first p (xs ++ c ∷ ys) ≡ ys
after-at p xs ys c none is = ap (λ (n : ℕ). drop (n + 1) (xs ++ c ∷ ys)) (place-at p xs ys c none is) ∙ drop-append-add xs (c ∷ ys) 1

pub before-none : (p : ℕ → Bool) (xs : List ℕ) → list_all (λ byte. not (p byte)) xs ≡ true → before_first p xs ≡ xs
before-none p xs none = ap (λ (n : ℕ). take n xs) (place-none p xs none) ∙ take_all (length xs) xs (omega arith)

-- bytes that don't begin with a blank
abbrev pub starts : List ℕ → Bool
starts [] = true
starts (byte ∷ bytes) = not (is_blank byte)

-- bytes that neither begin nor end with a blank
pub record IsFramed (xs : List ℕ) : Type 0 where
  pub some : 1 ≤ length xs
  pub begins : starts xs ≡ true
  pub ends : starts (reverse xs) ≡ true

trim_start-by : (byte : ℕ) (bytes : List ℕ) (test : Bool) → is_blank byte ≡ test → not test ≡ true → trim_start (byte ∷ bytes) ≡ byte ∷ bytes
trim_start-by byte bytes true is begins = cc
trim_start-by byte bytes false is begins = rw is refl

trim_start-same : (xs : List ℕ) → starts xs ≡ true → trim_start xs ≡ xs
trim_start-same [] begins = refl
trim_start-same (byte ∷ bytes) begins = trim_start-by byte bytes (is_blank byte) refl begins

pub trim-framed : (xs : List ℕ) → IsFramed xs → trim xs ≡ xs
trim-framed xs framed =
    ap (λ (ys : List ℕ). reverse (trim_start (reverse ys))) (trim_start-same xs framed.begins)
    ∙ ap reverse (trim_start-same (reverse xs) framed.ends) ∙ reverse-reverse xs

starts-append : (xs ys : List ℕ) → 1 ≤ length xs → starts xs ≡ true → starts (xs ++ ys) ≡ true
starts-append [] ys some begins = absurd (omega arith)
starts-append (x ∷ xs) ys some begins = begins

some-reverse : (xs : List ℕ) → 1 ≤ length xs → 1 ≤ length (reverse xs)
some-reverse [] some = some
some-reverse (x ∷ xs) some = rw (reverse-append (x ∷ []) xs, length-append) (omega arith)

pub framed-join : (xs ys zs : List ℕ) → IsFramed xs → IsFramed zs → IsFramed ((xs ++ ys) ++ zs)
framed-join xs ys zs x z = record {
  some = omega (arith, x.some, length-append (xs ++ ys) zs, length-append xs ys);
  begins = subst (λ (l : List ℕ). starts l ≡ true) (sym (append_assoc xs ys zs)) (starts-append xs (ys ++ zs) x.some x.begins);
  ends = subst (λ (l : List ℕ). starts l ≡ true) (sym (reverse-append (xs ++ ys) zs))
      (starts-append (reverse zs) (reverse (xs ++ ys)) (some-reverse zs z.some) z.ends);
}

-- words without blanks
starts-word : (xs : List ℕ) → list_all (λ byte. not (is_blank byte)) xs ≡ true → starts xs ≡ true
starts-word [] word = refl
starts-word (x ∷ xs) word = (and_parts (not (is_blank x)) (list_all (λ byte. not (is_blank byte)) xs) word).0

pub framed-word : (xs : List ℕ) → 1 ≤ length xs → list_all (λ byte. not (is_blank byte)) xs ≡ true → IsFramed xs
framed-word xs some word = record { some = some; begins = starts-word xs word; ends = starts-word (reverse xs) (all-reverse _ xs word) }
