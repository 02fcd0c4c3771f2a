-- The tokens of a filter's text (CQL2, 21-065r2, Text encoding).
use Rattle.std.specs.Prelude.{◌≡◌, ℕ, Bool, true, false, ◌||◌, ◌==◌, List, [], ◌∷◌, ◌++◌, length, Option, Some, None, ◌≤◌, ◌<◌, ◌+◌, take, drop}
use Rattle.std.specs.Char.{is_ascii_alphabetic, is_ascii_alphanumeric, is_ascii_digit}
use Rattle.std.specs.List.{list_all}
use denote.Ref.{Bor}
use Rattle.cql2.specs.declared.column.Column.{Column as AColumn}
use Rattle.cql2.specs.declared.filter.Comparison.{Comparison}
use Rattle.cql2.specs.declared.filter.Comparison.TheVariants.{Equal, NotEqual, Less, LessOrEqual, Greater, GreaterOrEqual}
use Rattle.cql2_tokens.specs.Name.{column_named, is_geometry, keyword_named}
use Rattle.cql2_tokens.specs.declared.token.Keyword.{Keyword as AKeyword}
use Rattle.cql2_tokens.specs.declared.token.Keyword.TheVariants.{Geometry}
use Rattle.cql2_tokens.specs.declared.token.Numeral.{Numeral}
use Rattle.cql2_tokens.specs.declared.token.Sign.TheVariants.{Plus, Minus, Asterisk, Percent}
use Rattle.cql2_tokens.specs.declared.token.Token.{Token}
use Rattle.cql2_tokens.specs.declared.token.Token.TheVariants.{Keyword, Column, UnknownColumn, Compared, Sign, Open, Close, Comma, Number, Text}

-- a space, a tab, a line feed or a carriage return
abbrev pub is_white_space : ℕ → Bool
is_white_space byte = byte == 32 || byte == 9 || byte == 13 || byte == 10

-- a name consists of letters, digits and underscores, and doesn't begin with a digit
abbrev pub is_name_start : ℕ → Bool
is_name_start byte = is_ascii_alphabetic byte || byte == 95

abbrev pub is_name_byte : ℕ → Bool
is_name_byte byte = is_ascii_alphanumeric byte || byte == 95

abbrev pub is_equals : ℕ → Bool
is_equals byte = byte == 61

abbrev pub is_quote : ℕ → Bool
is_quote byte = byte == 39

-- a text begins with a byte that satisfies the predicate
abbrev pub begins : (ℕ → Bool) → List ℕ → Bool
begins is_such [] = false
begins is_such (byte ∷ text) = is_such byte

abbrev pub sign_of : Comparison → List ℕ
sign_of Equal = 61 ∷ []
sign_of NotEqual = 60 ∷ 62 ∷ []
sign_of Less = 60 ∷ []
sign_of LessOrEqual = 60 ∷ 61 ∷ []
sign_of Greater = 62 ∷ []
sign_of GreaterOrEqual = 62 ∷ 61 ∷ []

-- a comparison operator is as long as possible: this one would be longer
abbrev pub continues : Comparison → List ℕ → Bool
continues Less rest = begins (λ byte. byte == 61 || byte == 62) rest
continues Greater rest = begins (λ byte. byte == 61) rest
continues comparison rest = false

-- the longest prefix of bytes that satisfy the predicate
pub record IsLongest (is_such : ℕ → Bool) (bytes rest : List ℕ) : Type 0 where
  pub such : list_all is_such bytes ≡ true
  pub longest : begins is_such rest ≡ false

-- a keyword or a name
pub record IsWord (word rest : List ℕ) : Type 0 where
  pub starts : begins is_name_start word ≡ true
  pub longest : IsLongest is_name_byte word rest

-- one or more digits
pub record AreDigits (digits rest : List ℕ) : Type 0 where
  pub some : 1 ≤ length digits
  pub longest : IsLongest is_ascii_digit digits rest

-- a point with decimals at the start of a text, or no point that is followed by a digit
pub data HasDecimals : List ℕ → List ℕ → List ℕ → Type 0 where
  no_point : (rest : List ℕ) → begins (λ byte. byte == 46) rest ≡ false → HasDecimals rest rest []
  no_decimals : (rest : List ℕ) → begins is_ascii_digit rest ≡ false → HasDecimals (46 ∷ rest) (46 ∷ rest) []
  decimals : (digits rest : List ℕ) → AreDigits digits rest → HasDecimals (46 ∷ (digits ++ rest)) rest digits

-- the quotes in a text come in pairs
pub data ArePaired : List ℕ → Type 0 where
  none : ArePaired []
  pair : (text : List ℕ) → ArePaired text → ArePaired (39 ∷ 39 ∷ text)
  other : (byte : ℕ) (text : List ℕ) → is_quote byte ≡ false → ArePaired text → ArePaired (byte ∷ text)

-- the quote at this index is not one of a pair, and the quotes before it are paired
pub record IsClosingQuote (text : List ℕ) (index : ℕ) : Type 0 where
  pub within : index < length text
  pub paired : ArePaired (take index text)
  pub split : text ≡ take index text ++ 39 ∷ drop (index + 1) text
  pub single : begins is_quote (drop (index + 1) text) ≡ false

-- the property with a name in double quotes: the geometry, or a column
abbrev pub property : Bool → Option AColumn → Token
property true column = Keyword Geometry
property false (Some column) = Column column
property false None = UnknownColumn

-- a text, the rest of it after its first token, and that token
pub data IsToken : List ℕ → List ℕ → Token → Type 0 where
  left_paren : (rest : List ℕ) → IsToken (40 ∷ rest) rest Open
  right_paren : (rest : List ℕ) → IsToken (41 ∷ rest) rest Close
  comma : (rest : List ℕ) → IsToken (44 ∷ rest) rest Comma
  plus_sign : (rest : List ℕ) → IsToken (43 ∷ rest) rest (Sign Plus)
  minus_sign : (rest : List ℕ) → IsToken (45 ∷ rest) rest (Sign Minus)
  asterisk : (rest : List ℕ) → IsToken (42 ∷ rest) rest (Sign Asterisk)
  percent_sign : (rest : List ℕ) → IsToken (37 ∷ rest) rest (Sign Percent)
  comparison_operator : (comparison : Comparison) (rest : List ℕ) → continues comparison rest ≡ false
      → IsToken (sign_of comparison ++ rest) rest (Compared comparison)
  keyword : (word rest : List ℕ) (named : AKeyword) → IsWord word rest → keyword_named word ≡ Some named
      → IsToken (word ++ rest) rest (Keyword named)
  property_name : (word rest : List ℕ) (column : AColumn) → IsWord word rest → keyword_named word ≡ None → column_named word ≡ Some column
      → IsToken (word ++ rest) rest (Column column)
  unknown_name : (word rest : List ℕ) → IsWord word rest → keyword_named word ≡ None → column_named word ≡ None
      → IsToken (word ++ rest) rest UnknownColumn
  quoted_name : (word rest : List ℕ) → list_all is_name_byte word ≡ true
      → IsToken (34 ∷ (word ++ 34 ∷ rest)) rest (property (is_geometry word) (column_named word))
  unsigned_numeric_literal : (numeral : Numeral) (after rest : List ℕ) → numeral.is_negative ≡ false → AreDigits numeral.whole.now after
      → HasDecimals after rest numeral.decimals.now → IsToken (numeral.whole.now ++ after) rest (Number numeral)
  character_literal : (spelling : Bor (List ℕ)) (rest : List ℕ) → ArePaired spelling.now → begins is_quote rest ≡ false
      → IsToken (39 ∷ (spelling.now ++ 39 ∷ rest)) rest (Text spelling)

-- A text up to the rest consists of these tokens. White space may precede each token and end the text.
pub data Lexes (text : List ℕ) : List ℕ → List Token → Type 0 where
  start : Lexes text text []
  white_space : {byte : ℕ} {rest : List ℕ} {tokens : List Token} → is_white_space byte ≡ true → Lexes text (byte ∷ rest) tokens
      → Lexes text rest tokens
  token : {middle rest : List ℕ} {next : Token} {tokens : List Token} → IsToken middle rest next → Lexes text middle tokens
      → Lexes text rest (tokens ++ next ∷ [])
