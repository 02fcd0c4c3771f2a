-- A byte order mark at the start of a file.
use Rattle.std.proofs.Common.{◌≡◌, ◌∙◌, ℕ, Bool, true, false, ◌&&◌, List, [], ◌∷◌, take, drop, nat_eq, refl, arith}
use Rattle.std.proofs.lemmas.Bool.Decides.{nat_tests}
use Rattle.std.specs.Cmp.Lexicographic.{pointwise}
use Rattle.csv.specs.Reading.{is_bom, strip_bom}

abbrev pub is_marked : List ℕ → Bool
is_marked file = pointwise nat_eq (take 3 file) (239 ∷ 187 ∷ 191 ∷ [])

bom-tests : (a b c : ℕ) → is_bom a b c ≡ pointwise nat_eq (a ∷ b ∷ c ∷ []) (239 ∷ 187 ∷ 191 ∷ [])
bom-tests a b c = tests (nat_eq a 239) (nat_eq b 187) (nat_eq c 191)
  where
    tests : (p q r : Bool) → (p && q && r) ≡ (p && (q && (r && true)))
    tests true true true = refl
    tests true true false = refl
    tests true false r = refl
    tests false q r = refl

-- a file without a byte order mark
pub unmarked : (file : List ℕ) → is_marked file ≡ false → strip_bom file ≡ file
unfolding strip_bom
unmarked [] plain = refl
unmarked (a ∷ []) plain = refl
unmarked (a ∷ b ∷ []) plain = refl
unmarked (a ∷ b ∷ c ∷ rest) plain = rw (bom-tests a b c ∙ plain) refl

-- a file with one
pub marked : (file : List ℕ) → is_marked file ≡ true → strip_bom file ≡ drop 3 file
unfolding strip_bom
marked [] mark = grind (arith, nat_tests)
marked (a ∷ []) mark = grind (arith, nat_tests)
marked (a ∷ b ∷ []) mark = grind (arith, nat_tests)
marked (a ∷ b ∷ c ∷ rest) mark = rw (bom-tests a b c ∙ mark) refl
