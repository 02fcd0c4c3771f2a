-- Patterns.
use Rattle.std.proofs.Common.{◌≡◌, ◌⊎◌, inl, inr, ◌≤◌, ℕ, true, false, List, [], ◌∷◌, ◌++◌, length, refl, sym, ap, ◌∙◌, arith}
use Rattle.std.proofs.Common.{append_assoc, append-nil, length-append}
use Rattle.std.proofs.lemmas.Bool.Decides.{nat_tests}
use Rattle.std.proofs.lemmas.List.Folds.{list_all-append}
use Rattle.cql2.specs.Pattern.{are_bytes, is_byte}
use Rattle.cql2.specs.declared.pattern.Folding.{Folding}
use Rattle.cql2.specs.declared.pattern.PatternPart.{PatternPart}
use Rattle.cql2.specs.declared.pattern.PatternPart.TheVariants.{Many, One}
use Rattle.cql2_tokens.specs.Character.{IsCharacter, character_text}
use Rattle.cql2_text.proofs.CharacterLemmas.{some-text}
use Rattle.cql2_text.specs.Pattern.{IsPattern, IsPatternPart, after_percents, character_pattern, empty, escaped, is_special, longer, many, one, ordinary}

-- a text that begins with an ASCII byte
starts-with : (text rest : List ℕ) (byte known : ℕ) → IsCharacter text byte rest → byte ≡ known → text ≡ character_text known ++ rest
starts-with text rest byte known is same = is.spelled ∙ ap (λ (b : ℕ). character_text b ++ rest) same

module _ {folding : Folding} {text rest : List ℕ} {byte : ℕ} where
  pub part-many : {after : List ℕ} → IsCharacter text byte rest → byte ≡ 37 → after ≡ after_percents rest
      → IsPatternPart folding text Many after
  part-many is same after_is = rw (starts-with text rest byte 37 is same, after_is) (many rest)

  pub part-one : IsCharacter text byte rest → byte ≡ 95 → IsPatternPart folding text One rest
  part-one is same = rw (starts-with text rest byte 95 is same) (one rest)

  pub part-escaped : {after : List ℕ} {next : ℕ} {part : PatternPart} → IsCharacter text byte rest → byte ≡ 92 → IsCharacter rest next after
      → part ≡ character_pattern folding next → IsPatternPart folding text part after
  part-escaped {after = after} {next = next} is same then made =
      let first = starts-with text rest byte 92 is same in
      let e : text ≡ 92 ∷ (character_text next ++ after) = first ∙ ap (λ (l : List ℕ). 92 ∷ l) then.spelled in
      rw (e, made) (escaped next after then.is_one)

  pub part-ordinary : {part : PatternPart} → IsCharacter text byte rest → is_special byte ≡ false → part ≡ character_pattern folding byte
      → IsPatternPart folding text part rest
  part-ordinary is plain made = rw (is.spelled, made) (ordinary byte rest is.is_one plain)

pub parts-more : (pattern : List PatternPart) (part : PatternPart) → are_bytes pattern ≡ true → is_byte part ≡ true
    → are_bytes (pattern ++ part ∷ []) ≡ true
parts-more pattern part all is = rw (list_all-append is_byte pattern (part ∷ []), all, is) refl

-- the meaning of a part, by the character that the text begins with
abbrev HasMeaning : Folding → ℕ → List ℕ → PatternPart → List ℕ → Type 0
HasMeaning folding byte after part rest =
    ((byte ≡ 37) × (part ≡ Many) × (after_percents after ≡ rest))
    ⊎ (((byte ≡ 95) × (part ≡ One) × (after ≡ rest))
    ⊎ (((byte ≡ 92) × ((following : ℕ) × IsCharacter after following rest × (part ≡ character_pattern folding following)))
    ⊎ ((is_special byte ≡ false) × (part ≡ character_pattern folding byte) × (after ≡ rest))))

pub record PartView (folding : Folding) (text : List ℕ) (part : PatternPart) (rest : List ℕ) : Type 0 where
  pub byte : ℕ
  pub after : List ℕ
  pub is : IsCharacter text byte after
  pub means : HasMeaning folding byte after part rest

pub view : (folding : Folding) (text : List ℕ) (part : PatternPart) (rest : List ℕ) → IsPatternPart folding text part rest
    → PartView folding text part rest
view folding _ _ _ (many rest) =
    record { byte = 37; after = rest; is = record { spelled = refl; is_one = refl }; means = inl (refl, refl, refl) }
view folding _ _ _ (one rest) =
    record { byte = 95; after = rest; is = record { spelled = refl; is_one = refl }; means = inr (inl (refl, refl, refl)) }
view folding _ _ _ (escaped byte rest is) =
    record {
      byte = 92;
      after = character_text byte ++ rest;
      is = record { spelled = refl; is_one = refl };
      means = inr (inr (inl (refl, (byte, record { spelled = refl; is_one = is }, refl))));
    }
view folding _ _ _ (ordinary byte rest is plain) =
    record { byte = byte; after = rest; is = record { spelled = refl; is_one = is }; means = inr (inr (inr (plain, refl, refl))) }

module _ (folding : Folding) (byte : ℕ) (after rest : List ℕ) (part : PatternPart) where
  means-escaped : HasMeaning folding byte after part rest → byte ≡ 92
      → (following : ℕ) × IsCharacter after following rest × (part ≡ character_pattern folding following)
  means-escaped (inl means) is = absurd (omega (arith, means.0))
  means-escaped (inr (inl means)) is = absurd (omega (arith, means.0))
  means-escaped (inr (inr (inl means))) is = means.1
  means-escaped (inr (inr (inr means))) is = absurd (grind (arith, nat_tests))

  means-ordinary : HasMeaning folding byte after part rest → is_special byte ≡ false
      → (part ≡ character_pattern folding byte) × (after ≡ rest)
  means-ordinary (inl means) plain = absurd (grind (arith, nat_tests))
  means-ordinary (inr (inl means)) plain = absurd (grind (arith, nat_tests))
  means-ordinary (inr (inr (inl means))) plain = let e : byte ≡ 92 = means.0 in absurd (grind (arith, nat_tests))
  means-ordinary (inr (inr (inr means))) plain = (means.1, means.2)

module _ {folding : Folding} {text rest : List ℕ} {part : PatternPart} (v : PartView folding text part rest) where
  pub is-escaped : v.byte ≡ 92 → (following : ℕ) × IsCharacter v.after following rest × (part ≡ character_pattern folding following)
  is-escaped is = means-escaped folding v.byte v.after rest part v.means is

  pub is-ordinary : is_special v.byte ≡ false → (part ≡ character_pattern folding v.byte) × (v.after ≡ rest)
  is-ordinary plain = means-ordinary folding v.byte v.after rest part v.means plain

no-character : (text : List ℕ) (byte : ℕ) (rest : List ℕ) → IsCharacter text byte rest → length text ≡ 0 → ⊥
no-character text byte rest is none =
    omega (arith, some-text byte, ap length is.spelled, length-append (character_text byte) rest)

-- the parts so far, and the remaining ones
pub record MoreParts (folding : Folding) (so_far : List PatternPart) (text : List ℕ) (parts : List PatternPart) : Type 0 where
  pub later : List PatternPart
  pub joined : parts ≡ so_far ++ later
  pub has : IsPattern folding text later

-- the next part
pub record NextPart (folding : Folding) (so_far : List PatternPart) (text : List ℕ) (parts : List PatternPart) : Type 0 where
  pub part : PatternPart
  pub after : List ℕ
  pub is : IsPatternPart folding text part after
  pub more_parts : MoreParts folding (so_far ++ part ∷ []) after parts

module _ (folding : Folding) (so_far parts : List PatternPart) where
  next-by : (text : List ℕ) (later : List PatternPart) → parts ≡ so_far ++ later → IsPattern folding text later → 1 ≤ length text
      → NextPart folding so_far text parts
  next-by _ _ joined empty some = absurd (omega arith)
  next-by _ _ joined (longer {rest = rest} {part = part} {parts = later} is has) some =
      record {
        part = part;
        after = rest;
        is = is;
        more_parts = record { later = later; joined = joined ∙ sym (append_assoc so_far (part ∷ []) later); has = has };
      }

  end-by : (text : List ℕ) (later : List PatternPart) → parts ≡ so_far ++ later → IsPattern folding text later → length text ≡ 0
      → so_far ≡ parts
  end-by _ _ joined empty none = sym (joined ∙ append-nil so_far)
  end-by text _ joined (longer {rest = rest} {part = part} is has) none =
      absurd (no-character text _ _ (view folding text part rest is).is none)

module _ {folding : Folding} {so_far : List PatternPart} {text : List ℕ} {parts : List PatternPart} where
  pub next-part : MoreParts folding so_far text parts → 1 ≤ length text → NextPart folding so_far text parts
  next-part are some = next-by folding so_far parts text are.later are.joined are.has some

  pub at-end : MoreParts folding so_far text parts → length text ≡ 0 → so_far ≡ parts
  at-end are none = end-by folding so_far parts text are.later are.joined are.has none

  -- the parts so far, followed by the next one
  pub pushed-part : {items : List PatternPart} {after : List ℕ} {part : PatternPart} (following : NextPart folding so_far text parts)
      → part ≡ following.part → after ≡ following.after → items ≡ so_far ++ part ∷ [] → MoreParts folding items after parts
  pushed-part following same rest pushed = rw (pushed, same, rest) following.more_parts

-- a literal whose first parts are known is a pattern if the rest of it is one
abbrev pub Continues : Folding → List ℕ → List PatternPart → List ℕ → Type 0
Continues folding spelling so_far text = (later : List PatternPart) → IsPattern folding text later → IsPattern folding spelling (so_far ++ later)

module _ {folding : Folding} {spelling text rest : List ℕ} (so_far : List PatternPart) {items : List PatternPart} {part : PatternPart} where
  pub continues-more : Continues folding spelling so_far text → IsPatternPart folding text part rest → items ≡ so_far ++ part ∷ []
      → Continues folding spelling items rest
  continues-more before is pushed later has =
      rw (pushed, append_assoc so_far (part ∷ []) later) (before (part ∷ later) (longer is has))

pub continues-to-end : (folding : Folding) (spelling text : List ℕ) (parts : List PatternPart) → Continues folding spelling parts text
    → length text ≡ 0 → IsPattern folding spelling parts
continues-to-end folding spelling [] parts before none = rw append-nil at (before [] empty)
continues-to-end folding spelling (byte ∷ text) parts before none = absurd (omega arith)
