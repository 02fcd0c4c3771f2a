-- The token at the start of a text, by the text's first byte.
use Rattle.std.proofs.Common.{◌≡◌, ◌≢◌, ℕ, Bool, true, false, ◌==◌, if◌then◌else◌, List, [], ◌∷◌, ◌++◌, length}
use Rattle.std.proofs.Common.{Option, Some, None, ◌⊎◌, inl, inr, IfNone, refl, sym, ap, ◌∙◌, subst, arith}
use Rattle.std.specs.Char.{is_ascii_digit}
use Rattle.std.specs.List.{list_all}
use Rattle.std.proofs.lemmas.Bool.{and_parts}
use Rattle.std.proofs.lemmas.Bool.Decides.{nat_tests}
use denote.Ref.{Bor}
use Rattle.cql2.specs.declared.column.Column.{Column as AColumn}
use Rattle.cql2.specs.declared.filter.Comparison.{Comparison}
use Rattle.cql2.specs.declared.filter.Comparison.TheVariants.{Equal, NotEqual, Less, LessOrEqual, Greater, GreaterOrEqual}
use Rattle.cql2_tokens.specs.Alike.{IsLike, numbers, same, texts}
use Rattle.cql2_tokens.specs.Lexed.{AreDigits, ArePaired, none, other, pair, HasDecimals, IsLongest, IsToken, IsWord, begins, continues, sign_of}
use Rattle.cql2_tokens.specs.Lexed.{is_name_byte, is_name_start, is_quote, is_white_space}
use Rattle.cql2_tokens.specs.Lexed.{no_point, no_decimals, decimals, left_paren, right_paren, comma, plus_sign, minus_sign, asterisk, percent_sign}
use Rattle.cql2_tokens.specs.Lexed.{comparison_operator, keyword, property_name, unknown_name}
use Rattle.cql2_tokens.specs.Lexed.{property, quoted_name, unsigned_numeric_literal, character_literal}
use Rattle.cql2_tokens.specs.Name.{column_named, is_geometry, keyword_named}
use Rattle.cql2_tokens.specs.declared.token.Keyword.{Keyword as AKeyword}
use Rattle.cql2_tokens.specs.declared.token.Numeral.{Numeral}
use Rattle.cql2_tokens.specs.declared.token.Sign.TheVariants.{Plus, Minus, Asterisk, Percent}
use Rattle.cql2_tokens.specs.declared.token.Token.{Token}
use Rattle.cql2_tokens.specs.declared.token.Token.TheVariants.{Close, Column, Comma, Compared, Keyword, Number, Open, Sign, Text, UnknownColumn}

-- the longest prefix of such bytes is unique
pub longest-one : (p : ℕ → Bool) (front rest another after : List ℕ) → IsLongest p front rest → IsLongest p another after
    → front ++ rest ≡ another ++ after → (front ≡ another) × (rest ≡ after)
longest-one p [] rest [] after is also same_text = (refl, same_text)
longest-one p [] rest (byte ∷ another) after is also same_text =
    let stops : begins p (byte ∷ (another ++ after)) ≡ false = rw same_text at is.longest in
    let holds : p byte ≡ true = (and_parts (p byte) _ also.such).0 in
    absurd (cc (stops, holds))
longest-one p (byte ∷ front) rest [] after is also same_text =
    let stops : begins p (byte ∷ (front ++ rest)) ≡ false = rw (← same_text) at also.longest in
    let holds : p byte ≡ true = (and_parts (p byte) _ is.such).0 in
    absurd (cc (stops, holds))
longest-one p (byte ∷ front) rest (first ∷ another) after is also same_text =
    let bytes : byte ≡ first = cc in
    let texts : front ++ rest ≡ another ++ after = cc in
    let before : IsLongest p front rest = record { such = (and_parts (p byte) _ is.such).1; longest = is.longest } in
    let later : IsLongest p another after = record { such = (and_parts (p first) _ also.such).1; longest = also.longest } in
    let tails = longest-one p front rest another after before later texts in
    (cc (bytes, tails.0), tails.1)

-- the token of a word
abbrev pub word_token : Option AKeyword → Option AColumn → Token
word_token (Some named) column = Keyword named
word_token None (Some column) = Column column
word_token None None = UnknownColumn

abbrev pub quoted_token : List ℕ → Token
quoted_token word = property (is_geometry word) (column_named word)

-- a number without its sign
pub record AreNumber (numeral : Numeral) (text rest : List ℕ) : Type 0 where
  pub after : List ℕ
  pub is : text ≡ numeral.whole.now ++ after
  pub digits : AreDigits numeral.whole.now after
  pub fraction : HasDecimals after rest numeral.decimals.now

pub data Kind : Type 0 where
  NameKind DigitKind OpenKind CloseKind CommaKind EqualKind LessKind GreaterKind TextKind QuotedKind PlusKind MinusKind AsteriskKind PercentKind NoKind : Kind

abbrev pub sign_kind : ℕ → Kind
sign_kind byte =
    if byte == 40 then OpenKind else (if byte == 41 then CloseKind else (if byte == 44 then CommaKind
    else (if byte == 61 then EqualKind else (if byte == 60 then LessKind else (if byte == 62 then GreaterKind
    else (if byte == 39 then TextKind else (if byte == 34 then QuotedKind else (if byte == 43 then PlusKind
    else (if byte == 45 then MinusKind else (if byte == 42 then AsteriskKind else (if byte == 37 then PercentKind else NoKind)))))))))))

abbrev pub kind_of : ℕ → Kind
kind_of byte = if is_name_start byte then NameKind else (if is_ascii_digit byte then DigitKind else sign_kind byte)

-- a token by the kind of its first byte and the bytes after it
pub data View : Kind → ℕ → List ℕ → List ℕ → Token → Type 0 where
  opening : (byte : ℕ) (rest : List ℕ) → View OpenKind byte rest rest Open
  closing : (byte : ℕ) (rest : List ℕ) → View CloseKind byte rest rest Close
  commas : (byte : ℕ) (rest : List ℕ) → View CommaKind byte rest rest Comma
  equal : (byte : ℕ) (rest : List ℕ) → View EqualKind byte rest rest (Compared Equal)
  less : (byte : ℕ) (rest : List ℕ) → continues Less rest ≡ false → View LessKind byte rest rest (Compared Less)
  less_or_equal : (byte : ℕ) (text rest : List ℕ) → text ≡ 61 ∷ rest → View LessKind byte text rest (Compared LessOrEqual)
  not_equal : (byte : ℕ) (text rest : List ℕ) → text ≡ 62 ∷ rest → View LessKind byte text rest (Compared NotEqual)
  greater : (byte : ℕ) (rest : List ℕ) → continues Greater rest ≡ false → View GreaterKind byte rest rest (Compared Greater)
  greater_or_equal : (byte : ℕ) (text rest : List ℕ) → text ≡ 61 ∷ rest → View GreaterKind byte text rest (Compared GreaterOrEqual)
  literal : (byte : ℕ) (spelling : Bor (List ℕ)) (text rest : List ℕ) → text ≡ spelling.now ++ 39 ∷ rest → ArePaired spelling.now
      → begins is_quote rest ≡ false → View TextKind byte text rest (Text spelling)
  quoted : (byte : ℕ) (word text rest : List ℕ) (token : Token) → text ≡ word ++ 34 ∷ rest → list_all is_name_byte word ≡ true
      → token ≡ quoted_token word → View QuotedKind byte text rest token
  plus : (byte : ℕ) (rest : List ℕ) → View PlusKind byte rest rest (Sign Plus)
  minus : (byte : ℕ) (rest : List ℕ) → View MinusKind byte rest rest (Sign Minus)
  times : (byte : ℕ) (rest : List ℕ) → View AsteriskKind byte rest rest (Sign Asterisk)
  percent : (byte : ℕ) (rest : List ℕ) → View PercentKind byte rest rest (Sign Percent)
  number : (byte : ℕ) (numeral : Numeral) (text rest : List ℕ) → numeral.is_negative ≡ false → AreNumber numeral (byte ∷ text) rest
      → View DigitKind byte text rest (Number numeral)
  named : (byte : ℕ) (word text rest : List ℕ) (token : Token) → byte ∷ text ≡ word ++ rest → IsLongest is_name_byte word rest
      → token ≡ word_token (keyword_named word) (column_named word) → View NameKind byte text rest token

pub record FirstByte (text rest : List ℕ) (token : Token) : Type 0 where
  pub byte : ℕ
  pub after : List ℕ
  pub is : text ≡ byte ∷ after
  pub view : View (kind_of byte) byte after rest token

named-view : (word rest : List ℕ) (token : Token) → IsWord word rest → token ≡ word_token (keyword_named word) (column_named word)
    → FirstByte (word ++ rest) rest token
named-view [] rest token is same_token = absurd (let e : false ≡ true = is.starts in cc)
named-view (byte ∷ word) rest token is same_token =
    let start : is_name_start byte ≡ true = is.starts in
    record {
      byte = byte;
      after = word ++ rest;
      is = refl;
      view = rw start (named byte (byte ∷ word) (word ++ rest) rest token refl is.longest same_token);
    }

digit-kind : (byte : ℕ) → is_ascii_digit byte ≡ true → is_name_start byte ≡ false
digit-kind byte digit = grind (arith, nat_tests)

digits-view : (numeral : Numeral) (whole after rest : List ℕ) → numeral.whole.now ≡ whole → numeral.is_negative ≡ false
    → AreDigits numeral.whole.now after → HasDecimals after rest numeral.decimals.now → FirstByte (whole ++ after) rest (Number numeral)
digits-view numeral [] after rest is unsigned are fraction = absurd (omega (arith, are.some, ap length is))
digits-view numeral (byte ∷ whole) after rest is unsigned are fraction =
    let such : list_all is_ascii_digit (byte ∷ whole) ≡ true = rw is at are.longest.such in
    let digit : is_ascii_digit byte ≡ true = (and_parts (is_ascii_digit byte) _ such).0 in
    record {
      byte = byte;
      after = whole ++ after;
      is = refl;
      view = rw (digit-kind byte digit, digit)
          (number byte numeral (whole ++ after) rest unsigned
          (record { after = after; is = ap (λ (w : List ℕ). w ++ after) (sym is); digits = are; fraction = fraction }));
    }

compared-view : (comparison : Comparison) (rest : List ℕ) → continues comparison rest ≡ false
    → FirstByte (sign_of comparison ++ rest) rest (Compared comparison)
compared-view Equal rest ends = record { byte = 61; after = rest; is = refl; view = equal 61 rest }
compared-view NotEqual rest ends = record { byte = 60; after = 62 ∷ rest; is = refl; view = not_equal 60 (62 ∷ rest) rest refl }
compared-view Less rest ends = record { byte = 60; after = rest; is = refl; view = less 60 rest ends }
compared-view LessOrEqual rest ends = record { byte = 60; after = 61 ∷ rest; is = refl; view = less_or_equal 60 (61 ∷ rest) rest refl }
compared-view Greater rest ends = record { byte = 62; after = rest; is = refl; view = greater 62 rest ends }
compared-view GreaterOrEqual rest ends =
    record { byte = 62; after = 61 ∷ rest; is = refl; view = greater_or_equal 62 (61 ∷ rest) rest refl }

pub first-byte : (text rest : List ℕ) (token : Token) → IsToken text rest token → FirstByte text rest token
first-byte _ _ _ (left_paren rest) = record { byte = 40; after = rest; is = refl; view = opening 40 rest }
first-byte _ _ _ (right_paren rest) = record { byte = 41; after = rest; is = refl; view = closing 41 rest }
first-byte _ _ _ (comma rest) = record { byte = 44; after = rest; is = refl; view = commas 44 rest }
first-byte _ _ _ (plus_sign rest) = record { byte = 43; after = rest; is = refl; view = plus 43 rest }
first-byte _ _ _ (minus_sign rest) = record { byte = 45; after = rest; is = refl; view = minus 45 rest }
first-byte _ _ _ (asterisk rest) = record { byte = 42; after = rest; is = refl; view = times 42 rest }
first-byte _ _ _ (percent_sign rest) = record { byte = 37; after = rest; is = refl; view = percent 37 rest }
first-byte _ _ _ (comparison_operator comparison rest ends) = compared-view comparison rest ends
first-byte _ _ _ (keyword word rest known is found) = named-view word rest (Keyword known) is (rw found refl)
first-byte _ _ _ (property_name word rest column is no_keyword found) =
    named-view word rest (Column column) is (rw (no_keyword, found) refl)
first-byte _ _ _ (unknown_name word rest is no_keyword missing) = named-view word rest UnknownColumn is (rw (no_keyword, missing) refl)
first-byte _ _ _ (quoted_name word rest names) =
    record {
      byte = 34;
      after = word ++ 34 ∷ rest;
      is = refl;
      view = quoted 34 word _ rest _ refl names refl;
    }
first-byte _ _ _ (unsigned_numeric_literal numeral after rest unsigned are fraction) =
    digits-view numeral numeral.whole.now after rest refl unsigned are fraction
first-byte _ _ _ (character_literal spelling rest paired single) =
    record { byte = 39; after = spelling.now ++ 39 ∷ rest; is = refl; view = literal 39 spelling _ rest refl paired single }

module _ {later after rest : List ℕ} {token : Token} where
  view-by : (first byte : ℕ) (kind : Kind) → View (kind_of first) first later rest token
      → first ∷ later ≡ byte ∷ after → kind_of byte ≡ kind → View kind byte after rest token
  view-by first byte kind is same_text same_kind =
      let bytes : first ≡ byte = cc in
      let texts : later ≡ after = cc in
      let moved = subst (λ (b : ℕ). View (kind_of b) b later rest token) bytes is in
      let kinds = subst (λ (k : Kind). View k byte later rest token) same_kind moved in
      subst (λ (t : List ℕ). View kind byte t rest token) texts kinds

module _ {text rest : List ℕ} {token : Token} where
  -- the bytes after the first one, as a token of that byte's kind
  pub view-at : (byte : ℕ) (after : List ℕ) (kind : Kind) → IsToken text rest token → text ≡ byte ∷ after
      → kind_of byte ≡ kind → View kind byte after rest token
  view-at byte after kind is begun same_kind =
      let first = first-byte text rest token is in
      let e : first.byte ∷ first.after ≡ byte ∷ after = sym first.is ∙ begun in
      view-by first.byte byte kind first.view e same_kind

quote-stops : (rest later : List ℕ) → rest ≡ 39 ∷ later → begins is_quote rest ≡ false → ⊥
quote-stops rest later is single = let e : begins is_quote (39 ∷ later) ≡ false = rw is at single in cc

no-quote : (byte : ℕ) → byte ≡ 39 → is_quote byte ≡ false → ⊥
no-quote byte is plain = let e : is_quote 39 ≡ false = rw is at plain in cc

one-literal : (spelling rest other_spelling after : List ℕ) → ArePaired spelling → ArePaired other_spelling
    → spelling ++ 39 ∷ rest ≡ other_spelling ++ 39 ∷ after → (begins is_quote rest ≡ false) × (begins is_quote after ≡ false)
    → (spelling ≡ other_spelling) × (rest ≡ after)
one-literal _ rest _ after none none same_text ends = (refl, cc)
one-literal _ rest _ after none (pair text are) same_text ends =
    let e : rest ≡ 39 ∷ (text ++ 39 ∷ after) = cc in absurd (quote-stops rest (text ++ 39 ∷ after) e ends.0)
one-literal _ rest _ after none (other byte text plain are) same_text ends =
    let e : byte ≡ 39 = cc in absurd (no-quote byte e plain)
one-literal _ rest _ after (pair text are) none same_text ends =
    let e : after ≡ 39 ∷ (text ++ 39 ∷ rest) = cc in absurd (quote-stops after (text ++ 39 ∷ rest) e ends.1)
one-literal _ rest _ after (pair text are) (pair more also) same_text ends =
    let tails = one-literal text rest more after are also (cc) ends in (ap (λ (t : List ℕ). 39 ∷ 39 ∷ t) tails.0, tails.1)
one-literal _ rest _ after (pair text are) (other byte more plain also) same_text ends =
    let e : byte ≡ 39 = cc in absurd (no-quote byte e plain)
one-literal _ rest _ after (other byte text plain are) none same_text ends =
    let e : byte ≡ 39 = cc in absurd (no-quote byte e plain)
one-literal _ rest _ after (other byte text plain are) (pair more also) same_text ends =
    let e : byte ≡ 39 = cc in absurd (no-quote byte e plain)
one-literal _ rest _ after (other byte text plain are) (other first more plain_too also) same_text ends =
    let bytes : byte ≡ first = cc in
    let texts : text ++ 39 ∷ rest ≡ more ++ 39 ∷ after = cc in
    let tails = one-literal text rest more after are also texts ends in
    (cc (bytes, tails.0), tails.1)

-- decimals in terms of equations
abbrev DecimalsBy : List ℕ → List ℕ → List ℕ → Type 0
DecimalsBy text rest digits =
    ((rest ≡ text) × (digits ≡ []) × (begins (λ byte. byte == 46) text ≡ false))
    ⊎ (((later : List ℕ) × (text ≡ 46 ∷ later) × (rest ≡ text) × (digits ≡ []) × (begins is_ascii_digit later ≡ false))
    ⊎ ((later : List ℕ) × (text ≡ 46 ∷ later) × (later ≡ digits ++ rest) × AreDigits digits rest))

decimals-by : (text rest digits : List ℕ) → HasDecimals text rest digits → DecimalsBy text rest digits
decimals-by _ _ _ (no_point rest is) = inl (refl, refl, is)
decimals-by _ _ _ (no_decimals rest is) = inr (inl (rest, refl, refl, refl, is))
decimals-by _ _ _ (decimals digits rest are) = inr (inr (digits ++ rest, refl, refl, are))

point-begins : (text later : List ℕ) → begins (λ byte. byte == 46) text ≡ false → text ≡ 46 ∷ later → ⊥
point-begins text later missing is = let e : begins (λ byte. byte == 46) (46 ∷ later) ≡ false = rw is at missing in cc

digits-begin : (digits rest later : List ℕ) → AreDigits digits rest → later ≡ digits ++ rest → begins is_ascii_digit later ≡ false → ⊥
digits-begin [] rest later are is missing = absurd (omega (arith, are.some))
digits-begin (digit ∷ digits) rest later are is missing =
    let such : is_ascii_digit digit ≡ true = (and_parts (is_ascii_digit digit) _ are.longest.such).0 in
    let e : begins is_ascii_digit (digit ∷ (digits ++ rest)) ≡ false = rw is at missing in
    cc (e, such)

one-fraction : (text rest digits after more : List ℕ) → DecimalsBy text rest digits → DecimalsBy text after more
    → (rest ≡ after) × (digits ≡ more)
one-fraction text rest digits after more (inl is) (inl also) = (is.0 ∙ sym also.0, is.1 ∙ sym also.1)
one-fraction text rest digits after more (inl is) (inr (inl also)) = absurd (point-begins text also.0 is.2 also.1)
one-fraction text rest digits after more (inl is) (inr (inr also)) = absurd (point-begins text also.0 is.2 also.1)
one-fraction text rest digits after more (inr (inl is)) (inl also) = absurd (point-begins text is.0 also.2 is.1)
one-fraction text rest digits after more (inr (inl is)) (inr (inl also)) = (is.2 ∙ sym also.2, is.3 ∙ sym also.3)
one-fraction text rest digits after more (inr (inl is)) (inr (inr also)) =
    let e : is.0 ≡ also.0 = cc (is.1, also.1) in absurd (digits-begin more after is.0 also.3 (e ∙ also.2) is.4)
one-fraction text rest digits after more (inr (inr is)) (inl also) = absurd (point-begins text is.0 also.2 is.1)
one-fraction text rest digits after more (inr (inr is)) (inr (inl also)) =
    let e : also.0 ≡ is.0 = cc (is.1, also.1) in absurd (digits-begin digits rest also.0 is.3 (e ∙ is.2) also.4)
one-fraction text rest digits after more (inr (inr is)) (inr (inr also)) =
    let e : is.0 ≡ also.0 = cc (is.1, also.1) in
    let one = longest-one is_ascii_digit digits rest more after is.3.longest also.3.longest (sym is.2 ∙ e ∙ also.2) in
    (one.1, one.0)

one-number : (numeral another : Numeral) (text rest after : List ℕ) → numeral.is_negative ≡ another.is_negative
    → AreNumber numeral text rest
    → AreNumber another text after → (rest ≡ after) × IsLike (Number numeral) (Number another)
one-number numeral another text rest after signs are also =
    let one = longest-one is_ascii_digit numeral.whole.now are.after another.whole.now also.after are.digits.longest also.digits.longest
    (sym are.is ∙ also.is) in
    let first = decimals-by are.after rest numeral.decimals.now are.fraction in
    let second = decimals-by also.after after another.decimals.now also.fraction in
    let moved = subst (λ (t : List ℕ). DecimalsBy t rest numeral.decimals.now) one.1 first in
    let fractions = one-fraction also.after rest numeral.decimals.now after another.decimals.now moved second in
    (fractions.0, numbers numeral another signs one.0 fractions.1)

one-name : (word rest another after : List ℕ) → IsLongest is_name_byte word rest → IsLongest is_name_byte another after
    → word ++ rest ≡ another ++ after → (word ≡ another) × (rest ≡ after)
one-name word rest another after is also same_text = longest-one is_name_byte word rest another after is also same_text

like-by : (token another : Token) → token ≡ another → IsLike token another
like-by token another is = subst (λ (t : Token). IsLike token t) is (same token)

sign-ends : (text rest : List ℕ) (byte : ℕ) (k : Comparison) → continues k text ≡ false → text ≡ byte ∷ rest
    → continues k (byte ∷ rest) ≡ true → ⊥
sign-ends text rest byte k ends is longer = let e : continues k (byte ∷ rest) ≡ false = rw is at ends in cc (e, longer)

one-view : {kind : Kind} {byte : ℕ} (text rest after : List ℕ) (token another : Token) → View kind byte text rest token
    → View kind byte text after another → (rest ≡ after) × IsLike token another
one-view _ _ _ _ _ (opening byte rest) (opening _ _) = (refl, same Open)
one-view _ _ _ _ _ (closing byte rest) (closing _ _) = (refl, same Close)
one-view _ _ _ _ _ (commas byte rest) (commas _ _) = (refl, same Comma)
one-view _ _ _ _ _ (plus byte rest) (plus _ _) = (refl, same (Sign Plus))
one-view _ _ _ _ _ (minus byte rest) (minus _ _) = (refl, same (Sign Minus))
one-view _ _ _ _ _ (times byte rest) (times _ _) = (refl, same (Sign Asterisk))
one-view _ _ _ _ _ (percent byte rest) (percent _ _) = (refl, same (Sign Percent))
one-view _ _ _ _ _ (equal byte rest) (equal _ _) = (refl, same (Compared Equal))
one-view _ _ _ _ _ (less byte rest ends) (less _ _ _) = (refl, same (Compared Less))
one-view _ _ _ _ _ (less byte text ends) (less_or_equal _ _ rest is) = absurd (sign-ends text rest 61 Less ends is refl)
one-view _ _ _ _ _ (less byte text ends) (not_equal _ _ rest is) = absurd (sign-ends text rest 62 Less ends is refl)
one-view _ _ _ _ _ (less_or_equal byte text rest is) (less _ _ ends) = absurd (sign-ends text rest 61 Less ends is refl)
one-view _ _ _ _ _ (less_or_equal byte text rest is) (less_or_equal _ _ after also) = (cc, same (Compared LessOrEqual))
one-view _ _ _ _ _ (less_or_equal byte text rest is) (not_equal _ _ after also) =
    let e : true ≡ false = ap (begins (λ byte. byte == 61)) (sym is ∙ also) in absurd (cc e)
one-view _ _ _ _ _ (not_equal byte text rest is) (less _ _ ends) = absurd (sign-ends text rest 62 Less ends is refl)
one-view _ _ _ _ _ (not_equal byte text rest is) (less_or_equal _ _ after also) =
    let e : true ≡ false = ap (begins (λ byte. byte == 61)) (sym also ∙ is) in absurd (cc e)
one-view _ _ _ _ _ (not_equal byte text rest is) (not_equal _ _ after also) = (cc, same (Compared NotEqual))
one-view _ _ _ _ _ (greater byte rest ends) (greater _ _ _) = (refl, same (Compared Greater))
one-view _ _ _ _ _ (greater byte text ends) (greater_or_equal _ _ rest is) = absurd (sign-ends text rest 61 Greater ends is refl)
one-view _ _ _ _ _ (greater_or_equal byte text rest is) (greater _ _ ends) = absurd (sign-ends text rest 61 Greater ends is refl)
one-view _ _ _ _ _ (greater_or_equal byte text rest is) (greater_or_equal _ _ after also) = (cc, same (Compared GreaterOrEqual))
one-view _ _ _ _ _ (literal byte spelling text rest is paired single) (literal _ another _ after also paired_too alone) =
    let one = one-literal spelling.now rest another.now after paired paired_too (sym is ∙ also) (single, alone) in
    (one.1, texts spelling another one.0)
one-view _ _ _ _ _ (quoted byte word text rest token is names found) (quoted _ other_word _ after another also names_too found_too) =
    let quotes : IsLongest is_name_byte word (34 ∷ rest) = record { such = names; longest = refl } in
    let quotes_too : IsLongest is_name_byte other_word (34 ∷ after) = record { such = names_too; longest = refl } in
    let one = one-name word (34 ∷ rest) other_word (34 ∷ after) quotes quotes_too (sym is ∙ also) in
    let rests : rest ≡ after = cc (one.1) in
    (rests, like-by token another (found ∙ ap (λ (w : List ℕ). quoted_token w) one.0 ∙ sym found_too))
one-view _ _ _ _ _ (number byte numeral text rest sign are) (number _ another _ after sign_too also) =
    one-number numeral another (byte ∷ text) rest after (sign ∙ sym sign_too) are also
one-view _ _ _ _ _ (named byte word text rest token is longest found) (named _ other_word _ after another also longest_too found_too) =
    let one = one-name word rest other_word after longest longest_too (sym is ∙ also) in
    let tokens = ap (λ (w : List ℕ). word_token (keyword_named w) (column_named w)) one.0 in
    (one.1, like-by token another (found ∙ tokens ∙ sym found_too))

pub one-token : (text rest after : List ℕ) (token another : Token) → IsToken text rest token → IsToken text after another
    → (rest ≡ after) × IsLike token another
one-token text rest after token another is also =
    let first = first-byte text rest token is in
    let second = view-at first.byte first.after (kind_of first.byte) also first.is refl in
    one-view first.after rest after token another first.view second

-- a text that begins with a quote has a closing quote
literal-by : (byte : ℕ) (text rest : List ℕ) (token : Token) → View TextKind byte text rest token
    → ((spelling after : List ℕ) → text ≡ spelling ++ 39 ∷ after → ArePaired spelling → begins is_quote after ≡ false → ⊥) → ⊥
literal-by _ _ _ _ (literal byte spelling text rest is paired single) missing = missing spelling.now rest is paired single

pub literal-at : (text rest : List ℕ) (token : Token) → IsToken (39 ∷ text) rest token
    → ((spelling after : List ℕ) → text ≡ spelling ++ 39 ∷ after → ArePaired spelling → begins is_quote after ≡ false → ⊥) → ⊥
literal-at text rest token is missing = literal-by 39 text rest token (view-at 39 text TextKind is refl refl) missing

-- a name that begins with a double quote ends with one
quoted-by : {byte : ℕ} {rest : List ℕ} {token : Token} (text name after : List ℕ) → View QuotedKind byte text rest token
    → text ≡ name ++ after → IsLongest is_name_byte name after → begins (λ first. first == 34) after ≡ false → ⊥
quoted-by _ name after (quoted byte word text rest token is names found) same_text longest missing =
    let quotes : IsLongest is_name_byte word (34 ∷ rest) = record { such = names; longest = refl } in
    let one = one-name word (34 ∷ rest) name after quotes longest (sym is ∙ same_text) in
    let e : begins (λ first. first == 34) (34 ∷ rest) ≡ false = rw (← one.1) at missing in cc

pub quoted-at : {rest : List ℕ} {token : Token} (text name after : List ℕ) → IsToken (34 ∷ text) rest token → text ≡ name ++ after
    → IsLongest is_name_byte name after → begins (λ first. first == 34) after ≡ false → ⊥
quoted-at text name after is same_text longest missing =
    quoted-by text name after (view-at 34 text QuotedKind is refl refl) same_text longest missing

no-view : (byte : ℕ) (text rest : List ℕ) (token : Token) → View NoKind byte text rest token → ⊥
no-view byte text rest token is = elim is [ ]

blank-kind : (byte : ℕ) → is_white_space byte ≡ true → kind_of byte ≡ NoKind
blank-kind byte blank = grind (arith, nat_tests)

-- a byte that begins no token
pub nothing-at : (text rest after : List ℕ) (token : Token) (byte : ℕ) → IsToken text rest token → text ≡ byte ∷ after
    → kind_of byte ≡ NoKind → ⊥
nothing-at text rest after token byte is begun none_of =
    no-view byte after rest token (view-at byte after NoKind is begun none_of)

pub blank-at : (text rest after : List ℕ) (token : Token) (byte : ℕ) → IsToken text rest token → text ≡ byte ∷ after
    → is_white_space byte ≡ true → ⊥
blank-at text rest after token byte is begun blank =
    let e : kind_of byte ≡ NoKind = blank-kind byte blank in nothing-at text rest after token byte is begun e

pub none-then : {X : Type 0} {P Q : Type 0} (found : Option X) → IfNone found P → (P → Q) → IfNone found Q
none-then None is then_so = then_so is
none-then (Some x) is then_so = tt

-- a byte that is not a sign
pub record IsNoSign (byte : ℕ) : Type 0 where
  pub no_opening : byte ≢ 40
  pub no_closing : byte ≢ 41
  pub no_comma : byte ≢ 44
  pub no_equal : byte ≢ 61
  pub no_less : byte ≢ 60
  pub no_greater : byte ≢ 62
  pub no_quote : byte ≢ 39
  pub no_double : byte ≢ 34
  pub no_plus : byte ≢ 43
  pub no_minus : byte ≢ 45
  pub no_asterisk : byte ≢ 42
  pub no_percent : byte ≢ 37

other-kind : (byte : ℕ) → IsNoSign byte → is_ascii_digit byte ≡ false → is_name_start byte ≡ false → kind_of byte ≡ NoKind
other-kind byte none_of no_digit no_name = rw (no_name, no_digit) (grind (arith, nat_tests))

module _ {text rest : List ℕ} {token : Token} where
  pub other-at : (after : List ℕ) (byte : ℕ) → IsToken text rest token → text ≡ byte ∷ after
      → IsNoSign byte → is_ascii_digit byte ≡ false → begins is_name_start text ≡ false → ⊥
  other-at after byte is begun none_of no_digit no_name =
      let name : is_name_start byte ≡ false = rw begun at no_name in
      nothing-at text rest after token byte is begun (other-kind byte none_of no_digit name)
