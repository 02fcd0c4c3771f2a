-- CASEI and ACCENTI.
use Rattle.std.proofs.Common.{◌≡◌, ◌≤◌, ◌-◌, ◌+◌, ℕ, zero, suc, List, ◌∷◌, refl, sym, ap, ◌∙◌, arith, add-one}
use denote.Ref.{Bor}
use Rattle.cql2.specs.declared.column.Column.{Column as AColumn}
use Rattle.cql2.specs.declared.pattern.Folding.{Folding}
use Rattle.cql2_text.specs.Clause.{BeginsNoClause, IsClause, Opens, accenti, casei, closed, inside, nothing, with_accents, with_case}
use Rattle.cql2_text.specs.Read.{IsNotNext}
use Rattle.cql2_tokens.specs.declared.token.Keyword.TheVariants as word
use Rattle.cql2_tokens.specs.declared.token.Token.{Token}
use Rattle.cql2_tokens.specs.declared.token.Token.TheVariants.{Close, Column, Keyword, Open, Text}

-- one closing parenthesis more, or less
pub closed-more : (count : ℕ) (words inner rest : List Token) → 1 ≤ count → words ≡ Close ∷ inner → inner ≡ closed (count - 1) rest
    → words ≡ closed count rest
closed-more zero words inner rest some is more = absurd (omega arith)
closed-more (suc count) words inner rest some is more =
    let same : suc count - 1 ≡ count = omega arith in
    is ∙ ap (λ (l : List Token). Close ∷ l) (more ∙ ap (λ (n : ℕ). closed n rest) same)

pub closed-less : (count : ℕ) (words rest : List Token) → 1 ≤ count → words ≡ closed count rest → words ≡ Close ∷ closed (count - 1) rest
closed-less zero words rest some is = absurd (omega arith)
closed-less (suc count) words rest some is =
    let same : count ≡ suc count - 1 = omega arith in
    is ∙ ap (λ (n : ℕ). Close ∷ closed n rest) same

module _ {depth : ℕ} {folding found : Folding} {words after rest inner : List Token} where
  pub casei-more : words ≡ Keyword word.Casei ∷ after → after ≡ Open ∷ rest → found ≡ with_case folding → Opens depth folding rest inner
      → Opens (depth + 1) found words inner
  casei-more is opens ignored more = rw (is, opens, ignored, add-one depth) (casei more)

  pub accenti-more : words ≡ Keyword word.Accenti ∷ after → after ≡ Open ∷ rest → found ≡ with_accents folding
      → Opens depth folding rest inner → Opens (depth + 1) found words inner
  accenti-more is opens ignored more = rw (is, opens, ignored, add-one depth) (accenti more)

-- CASEI or ACCENTI, which ignores this besides, and those in it
pub record InnerOpens (besides : Folding → Folding) (depth : ℕ) (folding : Folding) (after inner : List Token) : Type 0 where
  pub before : ℕ
  pub ignored : Folding
  pub rest : List Token
  pub deeper : depth ≡ before + 1
  pub ignores : folding ≡ besides ignored
  pub starts : after ≡ Open ∷ rest
  pub opens : Opens before ignored rest inner

pub casei-inner : {depth : ℕ} {folding : Folding} {after inner : List Token} → BeginsNoClause inner
    → Opens depth folding (Keyword word.Casei ∷ after) inner → InnerOpens with_case depth folding after inner
casei-inner no_clause (inside words) = absurd (no_clause.no_casei _ refl)
casei-inner no_clause (casei {depth = before} {folding = ignored} {words = rest} is) =
    record {
      before = before;
      ignored = ignored;
      rest = rest;
      deeper = sym (add-one before);
      ignores = refl;
      starts = refl;
      opens = is;
    }

pub accenti-inner : {depth : ℕ} {folding : Folding} {after inner : List Token} → BeginsNoClause inner
    → Opens depth folding (Keyword word.Accenti ∷ after) inner → InnerOpens with_accents depth folding after inner
accenti-inner no_clause (inside words) = absurd (no_clause.no_accenti _ refl)
accenti-inner no_clause (accenti {depth = before} {folding = ignored} {words = rest} is) =
    record {
      before = before;
      ignored = ignored;
      rest = rest;
      deeper = sym (add-one before);
      ignores = refl;
      starts = refl;
      opens = is;
    }

pub none-opens : {depth : ℕ} {folding : Folding} {words inner : List Token} → IsNotNext word.Casei words → IsNotNext word.Accenti words
    → Opens depth folding words inner → (nothing ≡ folding) × (0 ≡ depth) × (words ≡ inner)
none-opens no_casei no_accenti (inside words) = (refl, refl, refl)
none-opens no_casei no_accenti (casei is) = absurd (no_casei _ refl)
none-opens no_casei no_accenti (accenti is) = absurd (no_accenti _ refl)

pub text-begins : (words rest : List Token) (spelling : Bor (List ℕ)) → words ≡ Text spelling ∷ rest → BeginsNoClause words
text-begins words rest spelling is = record { no_casei = λ w e. cc; no_accenti = λ w e. cc }

pub column-begins : (words rest : List Token) (column : AColumn) → words ≡ Column column ∷ rest → BeginsNoClause words
column-begins words rest column is = record { no_casei = λ w e. cc; no_accenti = λ w e. cc }

pub closed-same : (depth : ℕ) (rest other : List Token) → closed depth rest ≡ closed depth other → rest ≡ other
closed-same zero rest other same = same
closed-same (suc depth) rest other same = closed-same depth rest other (cc)

module _ (Inner : List Token → List Token → Type 0) {folding : Folding} {words rest : List Token} (is : IsClause Inner folding words rest) where
  -- what is inside, where the openings have been read
  pub read-inside : (depth : ℕ) (inner : List Token) → depth ≡ is.depth → inner ≡ is.inner → Inner inner (closed depth rest)
  read-inside depth inner same starts = rw (same, starts) is.inside
