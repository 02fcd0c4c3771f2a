-- Encoding a text in Latin-1, character by character.
use Rattle.std.proofs.Common.{◌≡◌, ◌≢◌, ◌⊎◌, ◌&&◌, ◌∙◌, ◌≤◌, ◌<◌, ◌+◌, ℕ, true, false, Bool, List, [], ◌∷◌, ◌++◌, Option, Some}
use Rattle.std.proofs.Common.{None, length, length-append, refl, sym, ap, subst, append_assoc, append-nil, arith, add-one, take}
use Rattle.std.proofs.Common.{get_or, inl, inr, chars, IsUtf8}
use Rattle.std.specs.List.{list_all}
use Rattle.std.specs.Prelude.{IfSome, nat_le, option_map}
use Rattle.std.proofs.Math.Seq.{take-suc}
use Rattle.std.proofs.lemmas.Bool.{cases_Bool}
use Rattle.std.proofs.lemmas.Bool.Decides.{nat_tests}
use Rattle.std.proofs.lemmas.List.Folds.{list_all-append}
use Rattle.std.proofs.lemmas.Str.{IsUtf8-past_char, chars_from_encodes, chars_past_char, encodes-append}
use Rattle.std.proofs.Math.Utf8.{encode}
use Rattle.geocode.specs.Latin1.{is_latin_1, latin_1, utf8_of}
use Rattle.geocode.specs.NameText.{name_text}
use Rattle.tl_segments.specs.declared.name.TheConstants.{NAME_LENGTH}

-- these characters of the text are encoded, and the others are left
pub record IsEncoded (text bytes left : List ℕ) : Type 0 where
  pub split : chars text ≡ bytes ++ chars left
  pub all : list_all is_latin_1 bytes ≡ true
  pub utf8 : IsUtf8 left

pub none-encoded : (text left : List ℕ) → IsUtf8 text → left ≡ text → IsEncoded text [] left
none-encoded text left utf8 whole = record { split = ap chars (sym whole); all = refl; utf8 = subst IsUtf8 (sym whole) utf8 }

split-next : (text bytes left rest : List ℕ) (character : ℕ) → IsEncoded text bytes left → left ≡ encode character ++ rest
    → chars text ≡ bytes ++ character ∷ chars rest
split-next text bytes left rest character before next =
    before.split ∙ ap (λ more. bytes ++ more) (chars_past_char left rest character before.utf8 next)

pub room : (text bytes left rest : List ℕ) (character : ℕ) → IsEncoded text bytes left → left ≡ encode character ++ rest
    → length (chars text) ≤ NAME_LENGTH → length bytes < NAME_LENGTH
room text bytes left rest character before next few =
    let split = ap length (split-next text bytes left rest character before next) ∙ length-append bytes (character ∷ chars rest) in
    omega (arith, split, few)

pub one-more : (text bytes left rest : List ℕ) (character : ℕ) → IsEncoded text bytes left → left ≡ encode character ++ rest
    → character < 256 → IsEncoded text (bytes ++ character ∷ []) rest
one-more text bytes left rest character before next small =
    let test : is_latin_1 character ≡ true = grind (arith, nat_tests) in
    record {
      split = split-next text bytes left rest character before next ∙ sym (append_assoc bytes (character ∷ []) (chars rest));
      all = rw (list_all-append is_latin_1 bytes (character ∷ []), before.all, test) refl;
      utf8 = IsUtf8-past_char left rest character before.utf8 next;
    }

no-chars : chars [] ≡ []
no-chars = sym (chars_from_encodes [] [] ([], (refl, refl)) refl)

pub all-encoded : (text bytes left : List ℕ) → IsEncoded text bytes left → left ≡ [] → Some bytes ≡ latin_1 text
all-encoded text bytes left before none =
    let whole : chars text ≡ bytes = before.split ∙ ap (λ rest. bytes ++ rest) (ap chars none ∙ no-chars) ∙ append-nil bytes in
    rw (whole, before.all) refl

pub other-character : (text bytes left rest : List ℕ) (character : ℕ) → IsEncoded text bytes left → left ≡ encode character ++ rest
    → 256 ≤ character → None ≡ latin_1 text
other-character text bytes left rest character before next large =
    let test : is_latin_1 character ≡ false = grind (arith, nat_tests) in
    let whole = split-next text bytes left rest character before next in
    rw (whole, list_all-append is_latin_1 bytes (character ∷ chars rest), before.all, test) refl

-- a text that is too short or too long
pub wrong-length : (text : List ℕ) (count : ℕ) → count ≡ length (chars text) → (count ≡ 0) ⊎ ((count ≢ 0) × (NAME_LENGTH < count))
    → None ≡ name_text text
wrong-length text count is (inl none) =
    let test : nat_le 1 (length (chars text)) ≡ false = grind (arith, nat_tests) in
    rw test refl
wrong-length text count is (inr many) =
    let long = many.1 in
    let test : nat_le (length (chars text)) NAME_LENGTH ≡ false = grind (arith, nat_tests) in
    rw (test, and-false (nat_le 1 (length (chars text)))) refl
  where
    and-false : (b : Bool) → (b && false) ≡ false
    and-false true = refl
    and-false false = refl

pub right-length : (text : List ℕ) (count : ℕ) → count ≡ length (chars text) → count ≢ 0 → count ≤ NAME_LENGTH
    → name_text text ≡ Some (latin_1 text)
right-length text count is some few =
    let first : nat_le 1 (length (chars text)) ≡ true = grind (arith, nat_tests) in
    let second : nat_le (length (chars text)) NAME_LENGTH ≡ true = grind (arith, nat_tests) in
    rw (first, second) refl

-- the name has a byte for each character
pub some-bytes : {B : Type 0} (items : B → List ℕ) (encoded : Option B) (text : List ℕ) → option_map items encoded ≡ latin_1 text
    → length (chars text) ≢ 0 → IfSome encoded (λ bytes. 1 ≤ length (items bytes))
some-bytes items None text is some = tt
some-bytes items (Some bytes) text is some = elim (cases_Bool (list_all is_latin_1 (chars text))) [
  | inl all ↦ let same : items bytes ≡ chars text = cc (rw all at is) in rw same (omega (arith, some))
  | inr other ↦ cc (rw other at is)
]

pub one-more-byte : (bytes before : List ℕ) (at : ℕ) → at < length bytes
    → (before ++ utf8_of (take at bytes)) ++ encode (get_or bytes at 0) ≡ before ++ utf8_of (take (at + 1) bytes)
one-more-byte bytes before at below =
    append_assoc before (utf8_of (take at bytes)) (encode (get_or bytes at 0))
    ∙ ap (λ (more : List ℕ). before ++ more)
    (ap (λ more. utf8_of (take at bytes) ++ more) (sym (append-nil (encode (get_or bytes at 0))))
    ∙ sym (encodes-append (take at bytes) (get_or bytes at 0 ∷ []))
    ∙ ap utf8_of (sym (take-suc bytes at 0 below) ∙ ap (λ n. take n bytes) (sym (add-one at))))
