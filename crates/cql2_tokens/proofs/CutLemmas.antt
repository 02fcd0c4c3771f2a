-- The tokens of a text, from the first one on.
use Rattle.std.proofs.Common.{◌≡◌, ℕ, true, false, List, [], ◌∷◌, ◌++◌, length, refl, sym, ap, ◌∙◌, subst, arith}
use Rattle.std.proofs.Common.{append_assoc, append-nil}
use Rattle.cql2_tokens.specs.Alike.{AreLike, IsLike, next, none}
use Rattle.cql2_tokens.specs.Lexed.{IsToken, Lexes, is_white_space, start, token, white_space}
use Rattle.cql2_tokens.specs.declared.token.Token.{Token}
use Rattle.cql2_tokens.proofs.LexerLemmas.{token-shorter}
use Rattle.cql2_tokens.proofs.ViewLemmas.{blank-at, one-token}

-- the whole text consists of these tokens
pub data Cuts : List ℕ → List Token → Type 0 where
  ended : Cuts [] []
  blank : (byte : ℕ) (text : List ℕ) (tokens : List Token) → is_white_space byte ≡ true → Cuts text tokens → Cuts (byte ∷ text) tokens
  cut : (text rest : List ℕ) (first : Token) (tokens : List Token) → IsToken text rest first → Cuts rest tokens → Cuts text (first ∷ tokens)

cuts-of : (text rest : List ℕ) (tokens more : List Token) → Lexes text rest tokens → Cuts rest more → Cuts text (tokens ++ more)
cuts-of text _ _ more start cuts = cuts
cuts-of text _ _ more (white_space {byte = byte} {rest = rest} {tokens = tokens} is lexes) cuts =
    cuts-of text (byte ∷ rest) tokens more lexes (blank byte rest more is cuts)
cuts-of text _ _ more (token {middle = middle} {rest = rest} {next = first} {tokens = tokens} is lexes) cuts =
    rw append_assoc (cuts-of text middle tokens (first ∷ more) lexes (cut middle rest first more is cuts))

-- the tokens so far, and the remaining ones
pub record MoreTokens (so_far : List Token) (text : List ℕ) (words : List Token) : Type 0 where
  pub before : List Token
  pub more : List Token
  pub joined : words ≡ before ++ more
  pub alike : AreLike before so_far
  pub cuts : Cuts text more

pub all-tokens : (text : List ℕ) (words : List Token) → Lexes text [] words → MoreTokens [] text words
all-tokens text words lexes =
    let cuts = cuts-of text [] words [] lexes ended in
    record { before = []; more = words; joined = refl; alike = none; cuts = rw append-nil at cuts }

like-more : (words so_far : List Token) (word read : Token) → AreLike words so_far → IsLike word read
    → AreLike (words ++ word ∷ []) (so_far ++ read ∷ [])
like-more _ _ word read none is = next word read [] [] is none
like-more _ _ word read (next first other tokens others like are) is =
    next first other (tokens ++ word ∷ []) (others ++ read ∷ []) like (like-more tokens others word read are is)

blank-by : (text after : List ℕ) (more : List Token) (byte : ℕ) → Cuts text more → text ≡ byte ∷ after → is_white_space byte ≡ true
    → Cuts after more
blank-by _ after _ byte ended begun is = cc
blank-by _ after more byte (blank first text _ first_is cuts) begun is = let e : text ≡ after = cc in rw (← e) cuts
blank-by text after _ byte (cut _ rest first tokens is_token cuts) begun is = absurd (blank-at text rest after first byte is_token begun is)

pub blank-step : (so_far : List Token) (text after : List ℕ) (words : List Token) (byte : ℕ) → MoreTokens so_far text words
    → text ≡ byte ∷ after → is_white_space byte ≡ true → MoreTokens so_far after words
blank-step so_far text after words byte are begun is =
    record {
      before = are.before;
      more = are.more;
      joined = are.joined;
      alike = are.alike;
      cuts = blank-by text after are.more byte are.cuts begun is;
    }

-- a first token and the tokens after it
pub record FirstToken (text : List ℕ) (more : List Token) : Type 0 where
  pub rest : List ℕ
  pub first : Token
  pub later : List Token
  pub is : IsToken text rest first
  pub split : more ≡ first ∷ later
  pub cuts : Cuts rest later

first-by : (text after : List ℕ) (more : List Token) (byte : ℕ) → Cuts text more → text ≡ byte ∷ after → is_white_space byte ≡ false
    → FirstToken text more
first-by _ after _ byte ended begun no_blank = cc
first-by _ after more byte (blank first text _ first_is cuts) begun no_blank =
    let e : first ≡ byte = cc in
    let f : is_white_space byte ≡ true = rw e at first_is in cc (f, no_blank)
first-by text after _ byte (cut _ rest first tokens is cuts) begun no_blank =
    record { rest = rest; first = first; later = tokens; is = is; split = refl; cuts = cuts }

pub first-token : (so_far : List Token) (text after : List ℕ) (words : List Token) (byte : ℕ) (are : MoreTokens so_far text words)
    → text ≡ byte ∷ after → is_white_space byte ≡ false → FirstToken text are.more
first-token so_far text after words byte are begun no_blank = first-by text after are.more byte are.cuts begun no_blank

pub token-step : (so_far : List Token) (text rest : List ℕ) (words : List Token) (read : Token) (are : MoreTokens so_far text words)
    → FirstToken text are.more → IsToken text rest read → MoreTokens (so_far ++ read ∷ []) rest words
token-step so_far text rest words read are word is =
    let one = one-token text word.rest rest word.first read word.is is in
    record {
      before = are.before ++ word.first ∷ [];
      more = word.later;
      joined = are.joined ∙ ap (λ (l : List Token). are.before ++ l) word.split
          ∙ sym (append_assoc are.before (word.first ∷ []) word.later);
      alike = like-more are.before so_far word.first read are.alike one.1;
      cuts = subst (λ (t : List ℕ). Cuts t word.later) one.0 word.cuts;
    }

ended-by : (text : List ℕ) (more : List Token) → Cuts text more → length text ≡ 0 → more ≡ []
ended-by _ _ ended is = refl
ended-by _ more (blank byte text _ blank_is cuts) is = absurd (omega arith)
ended-by text _ (cut _ rest first tokens is_token cuts) is = absurd (omega (arith, token-shorter text rest first is_token))

pub all-read : (so_far : List Token) (text : List ℕ) (words : List Token) → MoreTokens so_far text words → length text ≡ 0
    → AreLike words so_far
all-read so_far text words are is =
    let e : words ≡ are.before =
    are.joined ∙ ap (λ (l : List Token). are.before ++ l) (ended-by text are.more are.cuts is) ∙ append-nil are.before in
    subst (λ (w : List Token). AreLike w so_far) (sym e) are.alike

pub nothing-left : (text : List ℕ) → length text ≡ 0 → text ≡ []
nothing-left [] is = refl
nothing-left (byte ∷ text) is = absurd (omega arith)
