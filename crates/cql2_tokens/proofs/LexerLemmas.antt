-- The tokens at the start of a text.
use Rattle.std.proofs.Common.{◌≡◌, ℕ, ◌+◌, ◌-◌, ◌<◌, ◌≤◌, Bool, true, false, ◌||◌, ◌==◌, List, [], ◌∷◌, ◌++◌, length}
use Rattle.std.proofs.Common.{take, drop, refl}
use Rattle.std.proofs.Common.{sym, ap, ◌∙◌, subst, arith, length-append}
use Rattle.std.specs.Char.{is_ascii_digit}
use Rattle.std.proofs.lemmas.Bool.Decides.{nat_tests}
use Rattle.std.proofs.lemmas.List.{take_all, length-drop}
use denote.Ref.{Bor}
use Rattle.cql2.specs.declared.filter.Comparison.{Comparison}
use Rattle.cql2.specs.declared.filter.Comparison.TheVariants.{Equal, NotEqual, Less, LessOrEqual, Greater, GreaterOrEqual}
use Rattle.cql2_tokens.specs.Lexed.{ArePaired, HasDecimals, IsClosingQuote, IsLongest, IsToken, IsWord, begins}
use Rattle.cql2_tokens.specs.Lexed.{is_name_byte, is_name_start, is_quote, sign_of}
use Rattle.cql2_tokens.specs.Lexed.{no_point, no_decimals, decimals, left_paren, right_paren, comma, plus_sign, minus_sign, asterisk, percent_sign}
use Rattle.cql2_tokens.specs.Lexed.{comparison_operator, keyword, property_name, unknown_name}
use Rattle.cql2_tokens.specs.Lexed.{quoted_name, unsigned_numeric_literal, character_literal}
use Rattle.cql2_tokens.specs.Lexed.{Lexes, white_space, is_white_space}
use Rattle.cql2_tokens.specs.declared.token.Token.{Token}
use Rattle.cql2_tokens.specs.declared.token.Token.TheVariants.{Compared, Text}

begins-neither : (text : List ℕ) (one other : ℕ) → begins (λ byte. byte == one) text ≡ false → begins (λ byte. byte == other) text ≡ false
    → begins (λ byte. byte == one || byte == other) text ≡ false
begins-neither [] one other first second = refl
begins-neither (byte ∷ text) one other first second = rw (first, second) refl

pub less-or-equal : (text rest : List ℕ) → text ≡ 61 ∷ rest → IsToken (60 ∷ text) rest (Compared LessOrEqual)
less-or-equal text rest is =
    subst (λ (t : List ℕ). IsToken (60 ∷ t) rest (Compared LessOrEqual)) (sym is) (comparison_operator LessOrEqual rest refl)

pub not-equal : (text rest : List ℕ) → text ≡ 62 ∷ rest → IsToken (60 ∷ text) rest (Compared NotEqual)
not-equal text rest is = subst (λ (t : List ℕ). IsToken (60 ∷ t) rest (Compared NotEqual)) (sym is) (comparison_operator NotEqual rest refl)

pub only-less : (text : List ℕ) → begins (λ byte. byte == 61) text ≡ false → begins (λ byte. byte == 62) text ≡ false
    → IsToken (60 ∷ text) text (Compared Less)
only-less text first second = comparison_operator Less text (begins-neither text 61 62 first second)

pub greater-or-equal : (text rest : List ℕ) → text ≡ 61 ∷ rest → IsToken (62 ∷ text) rest (Compared GreaterOrEqual)
greater-or-equal text rest is =
    subst (λ (t : List ℕ). IsToken (62 ∷ t) rest (Compared GreaterOrEqual)) (sym is) (comparison_operator GreaterOrEqual rest refl)

pub only-greater : (text : List ℕ) → begins (λ byte. byte == 61) text ≡ false → IsToken (62 ∷ text) text (Compared Greater)
only-greater text not_equal = comparison_operator Greater text not_equal

pub text-token : (spelling : Bor (List ℕ)) (text rest : List ℕ) → text ≡ spelling.now ++ 39 ∷ rest → ArePaired spelling.now
    → begins is_quote rest ≡ false
    → IsToken (39 ∷ text) rest (Text spelling)
text-token spelling text rest is paired single =
    subst (λ (t : List ℕ). IsToken (39 ∷ t) rest (Text spelling)) (sym is) (character_literal spelling rest paired single)

start-is-byte : (byte : ℕ) → is_name_start byte ≡ true → is_name_byte byte ≡ false → ⊥
start-is-byte byte starts is_none = grind (arith, nat_tests)

none-starts : (rest : List ℕ) → begins is_name_start rest ≡ true → begins is_name_byte rest ≡ false → ⊥
none-starts [] starts is_none = cc
none-starts (byte ∷ rest) starts is_none = start-is-byte byte starts is_none

-- the longest name at the start of a text that begins like a name
word-starts : (word rest : List ℕ) → begins is_name_start (word ++ rest) ≡ true → IsLongest is_name_byte word rest
    → begins is_name_start word ≡ true
word-starts [] rest starts longest = absurd (none-starts rest starts longest.longest)
word-starts (byte ∷ word) rest starts longest = starts

pub is-word : (text word rest : List ℕ) → begins is_name_start text ≡ true → text ≡ word ++ rest → IsLongest is_name_byte word rest
    → IsWord word rest
is-word text word rest starts is longest =
    record { starts = word-starts word rest (rw is at starts) longest; longest = longest }

pub has-no-decimals : (text after digits rest : List ℕ) → text ≡ 46 ∷ after → after ≡ digits ++ rest → IsLongest is_ascii_digit digits rest
    → length digits ≡ 0 → HasDecimals text text []
has-no-decimals text after [] rest point is longest none =
    let e : text ≡ 46 ∷ rest = point ∙ ap (λ (l : List ℕ). 46 ∷ l) is in
    subst (λ (t : List ℕ). HasDecimals t t []) (sym e) (no_decimals rest longest.longest)
has-no-decimals text after (digit ∷ digits) rest point is longest none = absurd (omega arith)

-- a token has at least one byte
begins-some : (p : ℕ → Bool) (word : List ℕ) → begins p word ≡ true → 1 ≤ length word
begins-some p [] begun = cc
begins-some p (byte ∷ word) begun = omega arith

decimals-le : (after rest digits : List ℕ) → HasDecimals after rest digits → length rest ≤ length after
decimals-le _ _ _ (no_point rest none) = omega arith
decimals-le _ _ _ (no_decimals rest none) = omega arith
decimals-le _ _ _ (decimals digits rest are) = omega (arith, length-append digits rest)

sign-some : (comparison : Comparison) → 1 ≤ length (sign_of comparison)
sign-some Equal = omega arith
sign-some NotEqual = omega arith
sign-some Less = omega arith
sign-some LessOrEqual = omega arith
sign-some Greater = omega arith
sign-some GreaterOrEqual = omega arith

pub token-shorter : (text rest : List ℕ) (token : Token) → IsToken text rest token → length rest < length text
token-shorter _ _ _ (left_paren rest) = omega arith
token-shorter _ _ _ (right_paren rest) = omega arith
token-shorter _ _ _ (comma rest) = omega arith
token-shorter _ _ _ (plus_sign rest) = omega arith
token-shorter _ _ _ (minus_sign rest) = omega arith
token-shorter _ _ _ (asterisk rest) = omega arith
token-shorter _ _ _ (percent_sign rest) = omega arith
token-shorter _ _ _ (comparison_operator comparison rest ends) =
    omega (arith, sign-some comparison, length-append (sign_of comparison) rest)
token-shorter _ _ _ (keyword word rest named is known) = omega (arith, begins-some _ word is.starts, length-append word rest)
token-shorter _ _ _ (property_name word rest column is no_keyword known) =
    omega (arith, begins-some _ word is.starts, length-append word rest)
token-shorter _ _ _ (unknown_name word rest is no_keyword unknown) = omega (arith, begins-some _ word is.starts, length-append word rest)
token-shorter _ _ _ (quoted_name word rest names) = omega (arith, length-append word (34 ∷ rest))
token-shorter _ _ _ (unsigned_numeric_literal numeral after rest unsigned are fraction) =
    omega (arith, are.some, decimals-le _ _ _ fraction, length-append numeral.whole.now after)
token-shorter _ _ _ (character_literal spelling rest paired single) = omega (arith, length-append spelling.now (39 ∷ rest))

-- a text and one more token
pub lexes-white-space : (text rest after : List ℕ) (tokens : List Token) (byte : ℕ) → Lexes text rest tokens → rest ≡ byte ∷ after
    → is_white_space byte ≡ true → Lexes text after tokens
lexes-white-space text rest after tokens byte so_far is space =
    white_space space (subst (λ (l : List ℕ). Lexes text l tokens) is so_far)

-- a text whose first byte is known
pub text-after : (text rest : List ℕ) (first known : ℕ) → text ≡ first ∷ rest → first ≡ known → text ≡ (known ∷ []) ++ rest
text-after text rest first known is same = is ∙ ap (λ (b : ℕ). b ∷ rest) same

module _ {text rest after : List ℕ} {first known : ℕ} {token : Token} where
  pub token-after : text ≡ first ∷ rest → first ≡ known → IsToken (known ∷ rest) after token → IsToken text after token
  token-after is same begun = subst (λ (t : List ℕ). IsToken t after token) (sym (text-after text rest first known is same)) begun

-- a text, cut at its closing quote
pub text-cut : (spelling : Bor (List ℕ)) (text : List ℕ) (index : ℕ) → spelling.now ≡ take index text → IsClosingQuote text index
    → IsToken (39 ∷ text) (take (length text - (index + 1)) (drop (index + 1) text)) (Text spelling)
text-cut spelling text index same quote =
    let rest = drop (index + 1) text in
    let whole : take (length text - (index + 1)) rest ≡ rest = take_all _ rest (omega (arith, length-drop (index + 1) text)) in
    rw whole (text-token spelling text rest (quote.split ∙ ap (λ (l : List ℕ). l ++ 39 ∷ rest) (sym same))
    (subst ArePaired (sym same) quote.paired) quote.single)
