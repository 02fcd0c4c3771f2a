-- Characters and the texts that they form.
use Rattle.std.proofs.Common.{◌≡◌, ℕ, ◌≤◌, Bool, true, List, [], ◌∷◌, ◌++◌, length, refl, sym, ap, ◌∙◌}
use Rattle.std.proofs.Common.{arith, append_assoc, append-nil, length-append}
use Rattle.std.specs.List.{flat_map, list_all}
use Rattle.std.proofs.lemmas.Bool.{and_parts}
use Rattle.std.proofs.lemmas.Bool.Decides.{nat_tests}
use Rattle.std.proofs.lemmas.Grind.{flat_map-append}
use Rattle.std.proofs.lemmas.List.Concat.{flat_map-cons}
use Rattle.std.proofs.lemmas.List.Folds.{list_all-append}
use Rattle.cql2_tokens.specs.Character.{HasCharacters, IsCharacter, character_text, is_character}

-- one more character
pub characters-more : (spelling bytes text rest : List ℕ) (byte : ℕ) → spelling ≡ flat_map character_text bytes ++ text
    → IsCharacter text byte rest → spelling ≡ flat_map character_text (bytes ++ byte ∷ []) ++ rest
characters-more spelling bytes text rest byte so_far next =
    rw (flat_map-append character_text bytes (byte ∷ []), so_far, next.spelled) (simp append_assoc)

pub all-more : (p : ℕ → Bool) (bytes : List ℕ) (byte : ℕ) → list_all p bytes ≡ true → p byte ≡ true → list_all p (bytes ++ byte ∷ []) ≡ true
all-more p bytes byte all one = rw (list_all-append p bytes (byte ∷ []), all, one) refl

-- the characters so far, and the remaining ones
pub record MoreCharacters (so_far text bytes : List ℕ) : Type 0 where
  pub more : List ℕ
  pub joined : bytes ≡ so_far ++ more
  pub has : HasCharacters text more

-- the next character
pub record NextCharacter (so_far text bytes : List ℕ) : Type 0 where
  pub byte : ℕ
  pub after : List ℕ
  pub is : IsCharacter text byte after
  pub later : MoreCharacters (so_far ++ byte ∷ []) after bytes

pub some-text : (byte : ℕ) → 1 ≤ length (character_text byte)
some-text byte = grind (arith, nat_tests)

next-by : (more so_far text bytes : List ℕ) → bytes ≡ so_far ++ more → HasCharacters text more → 1 ≤ length text
    → NextCharacter so_far text bytes
next-by [] so_far text bytes joined has some = absurd (omega (arith, ap length has.spelled))
next-by (byte ∷ more) so_far text bytes joined has some =
    let parts = and_parts (is_character byte) _ has.characters in
    let rest = flat_map character_text more in
    record {
      byte = byte;
      after = rest;
      is = record { spelled = has.spelled ∙ flat_map-cons character_text byte more; is_one = parts.0 };
      later = record {
        more = more;
        joined = joined ∙ sym (append_assoc so_far (byte ∷ []) more);
        has = record { spelled = refl; characters = parts.1 };
      };
    }

pub next-character : (so_far text bytes : List ℕ) → MoreCharacters so_far text bytes → 1 ≤ length text → NextCharacter so_far text bytes
next-character so_far text bytes are some = next-by are.more so_far text bytes are.joined are.has some

last-by : (more so_far text bytes : List ℕ) → bytes ≡ so_far ++ more → HasCharacters text more → length text ≡ 0 → so_far ≡ bytes
last-by [] so_far text bytes joined has none = sym (joined ∙ append-nil so_far)
last-by (byte ∷ more) so_far text bytes joined has none =
    let spelled = has.spelled ∙ flat_map-cons character_text byte more in
    absurd (omega (arith, some-text byte, ap length spelled, length-append (character_text byte) (flat_map character_text more)))

pub last-character : (so_far text bytes : List ℕ) → MoreCharacters so_far text bytes → length text ≡ 0 → so_far ≡ bytes
last-character so_far text bytes are none = last-by are.more so_far text bytes are.joined are.has none

module _ {so_far text bytes items after : List ℕ} {byte : ℕ} where
  -- the characters so far, followed by the next one
  pub pushed-character : (next : NextCharacter so_far text bytes) → byte ≡ next.byte → after ≡ next.after → items ≡ so_far ++ byte ∷ []
      → MoreCharacters items after bytes
  pushed-character next same rest pushed = rw (pushed, same, rest) next.later
