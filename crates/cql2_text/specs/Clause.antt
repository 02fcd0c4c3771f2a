-- CASEI and ACCENTI around something (CQL2, 21-065r2, annex B, characterClause).
use Rattle.std.specs.Prelude.{ℕ, ◌≤◌, zero, suc, true, false, List, ◌∷◌}
use Rattle.cql2.specs.declared.pattern.Folding.{Folding}
use Rattle.cql2_text.specs.ReadNumber.{IsNotFirst}
use Rattle.cql2_tokens.specs.declared.token.Keyword.TheVariants as word
use Rattle.cql2_tokens.specs.declared.token.Token.{Token}
use Rattle.cql2_tokens.specs.declared.token.Token.TheVariants.{Keyword, Open, Close}

abbrev pub nothing : Folding
nothing = record { case = false; accents = false }

-- case or accents, and what else is ignored
abbrev pub with_case : Folding → Folding
with_case folding = record { case = true; accents = folding.accents }

abbrev pub with_accents : Folding → Folding
with_accents folding = record { case = folding.case; accents = true }

-- the tokens up to the inner ones are CASEI and ACCENTI, this many, each with its opening parenthesis, which together ignore this
pub data Opens : ℕ → Folding → List Token → List Token → Type 0 where
  inside : (inner : List Token) → Opens 0 nothing inner inner
  casei : {depth : ℕ} {folding : Folding} {words inner : List Token} → Opens depth folding words inner
      → Opens (suc depth) (with_case folding) (Keyword word.Casei ∷ Open ∷ words) inner
  accenti : {depth : ℕ} {folding : Folding} {words inner : List Token} → Opens depth folding words inner
      → Opens (suc depth) (with_accents folding) (Keyword word.Accenti ∷ Open ∷ words) inner

-- this many closing parentheses, and the rest
abbrev pub closed : ℕ → List Token → List Token
closed zero rest = rest
closed (suc depth) rest = Close ∷ closed depth rest

-- at least one and at most 64 of them
pub record IsOpened (depth : ℕ) (folding : Folding) (words inner : List Token) : Type 0 where
  pub opens : Opens depth folding words inner
  pub some : 1 ≤ depth
  pub few : depth ≤ 64

-- something in CASEI or ACCENTI or both, which together ignore this
pub record IsClause (Inner : List Token → List Token → Type 0) (folding : Folding) (words rest : List Token) : Type 0 where
  pub depth : ℕ
  pub inner : List Token
  pub opened : IsOpened depth folding words inner
  pub inside : Inner inner (closed depth rest)

-- the tokens begin with neither
pub record BeginsNoClause (words : List Token) : Type 0 where
  pub no_casei : IsNotFirst (Keyword word.Casei) words
  pub no_accenti : IsNotFirst (Keyword word.Accenti) words
