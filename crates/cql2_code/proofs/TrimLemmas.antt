-- A text without trailing blanks, by recursion from its first byte.
use Rattle.std.proofs.Common.{◌≡◌, ℕ, ◌==◌, Bool, true, false, ◌&&◌, List, [], ◌∷◌, ◌++◌, reverse, if◌then◌else◌, refl, sym, ap, ◌∙◌}
use Rattle.std.proofs.lemmas.List.{reverse-append}
use Rattle.std.proofs.lemmas.List.Folds.{list_all-append}
use Rattle.tl_fields.specs.Number.{is_blank, without_blanks_before}
use Rattle.cql2.specs.Column.{trim_end}
use Rattle.cql2_code.proofs.JoinLemmas.{and_false, and_swap, and_true}

-- the text in a field
abbrev pub trimmed : List ℕ → List ℕ
trimmed [] = []
trimmed (byte ∷ field) = if is_blank (byte ∷ field) then [] else byte ∷ trimmed field

-- a blank field has no text
pub trimmed_blank : (field : List ℕ) → is_blank field ≡ true → trimmed field ≡ []
trimmed_blank [] blank = refl
trimmed_blank (byte ∷ field) blank = ap (λ (b : Bool). if b then [] else byte ∷ trimmed field) blank

-- The same in terms of the definition, which drops the leading blanks of the reversed bytes.

-- the bytes without leading blanks, with one more byte at the end
abbrev without_before : List ℕ → ℕ → Bool → List ℕ
without_before bytes byte blank = if blank then without_blanks_before (byte ∷ []) else without_blanks_before bytes ++ byte ∷ []

without_one : (bytes : List ℕ) (byte : ℕ) → without_blanks_before (bytes ++ byte ∷ []) ≡ without_before bytes byte (is_blank bytes)
without_one [] byte = refl
without_one (first ∷ bytes) byte = by_first (without_one bytes byte) (first == 32)
  where
    by_first : without_blanks_before (bytes ++ byte ∷ []) ≡ without_before bytes byte (is_blank bytes) → (blank : Bool)
        → (if blank then without_blanks_before (bytes ++ byte ∷ []) else first ∷ (bytes ++ byte ∷ []))
        ≡ (if blank && is_blank bytes then without_blanks_before (byte ∷ [])
        else (if blank then without_blanks_before bytes else first ∷ bytes) ++ byte ∷ [])
    by_first others true = others
    by_first others false = refl

reverse_more : (byte : ℕ) (bytes : List ℕ) → reverse (byte ∷ bytes) ≡ reverse bytes ++ byte ∷ []
reverse_more byte bytes = reverse-append (byte ∷ []) bytes

blank_reverse : (bytes : List ℕ) → is_blank (reverse bytes) ≡ is_blank bytes
blank_reverse [] = refl
blank_reverse (byte ∷ bytes) =
    ap is_blank (reverse_more byte bytes) ∙ list_all-append (λ b. b == 32) (reverse bytes) (byte ∷ [])
    ∙ ap (λ (rest : Bool). rest && (byte == 32 && true)) (blank_reverse bytes)
    ∙ ap (λ (first : Bool). is_blank bytes && first) (and_true (byte == 32)) ∙ and_swap (is_blank bytes) (byte == 32)

trimmed_one : (field : List ℕ) (byte : ℕ) (blank : Bool) → is_blank field ≡ true
    → reverse (if blank then [] else byte ∷ []) ≡ (if blank && true then [] else byte ∷ trimmed field)
trimmed_one field byte true rest = refl
trimmed_one field byte false rest = ap (λ (bytes : List ℕ). byte ∷ bytes) (sym (trimmed_blank field rest))

trimmed_more : (field : List ℕ) (byte : ℕ) (blank : Bool) → is_blank field ≡ blank → trim_end field ≡ trimmed field
    → reverse (without_before (reverse field) byte blank) ≡ (if byte == 32 && blank then [] else byte ∷ trimmed field)
trimmed_more field byte true rest others = trimmed_one field byte (byte == 32) rest
trimmed_more field byte false rest others =
    reverse-append (without_blanks_before (reverse field)) (byte ∷ [])
    ∙ ap (λ (bytes : List ℕ). byte ∷ bytes) others
    ∙ sym (ap (λ (blank : Bool). if blank then [] else byte ∷ trimmed field) (and_false (byte == 32)))

pub trim_end_is : (field : List ℕ) → trim_end field ≡ trimmed field
trim_end_is [] = refl
trim_end_is (byte ∷ field) =
    ap (λ (bytes : List ℕ). reverse (without_blanks_before bytes)) (reverse_more byte field)
    ∙ ap reverse (without_one (reverse field) byte)
    ∙ ap (λ (blank : Bool). reverse (without_before (reverse field) byte blank)) (blank_reverse field)
    ∙ trimmed_more field byte (is_blank field) refl (trim_end_is field)
