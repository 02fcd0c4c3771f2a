-- What an opening parenthesis begins.
use Rattle.std.specs.Prelude.{ℕ, ◌+◌, ◌-◌, Bool, true, false, not, nat_lt, if◌then◌else◌, List, [], ◌∷◌}
use Rattle.cql2_tokens.specs.declared.token.Keyword.{Keyword as AKeyword}
use Rattle.cql2_tokens.specs.declared.token.Keyword.TheVariants as word
use Rattle.cql2_tokens.specs.declared.token.Token.{Token}
use Rattle.cql2_tokens.specs.declared.token.Token.TheVariants.{Keyword, Compared, Sign, Open, Close}

-- the tokens from the parenthesis on that closes one before them, if that many more are open
abbrev pub closing : ℕ → List Token → List Token
closing open_parentheses [] = []
closing open_parentheses (Open ∷ words) = closing (open_parentheses + 1) words
closing open_parentheses (Close ∷ words) =
    if nat_lt 0 open_parentheses then closing (open_parentheses - 1) words else Close ∷ words
closing open_parentheses (token ∷ words) = closing open_parentheses words

abbrev pub joins_numbers : AKeyword → Bool
joins_numbers word.Div = true
joins_numbers word.Between = true
joins_numbers word.In = true
joins_numbers word.Like = true
joins_numbers word.Not = true
joins_numbers word.Is = true
joins_numbers keyword = false

-- the tokens go on from a number; a filter is followed by AND, OR, a closing parenthesis or the end
abbrev pub follows_number : List Token → Bool
follows_number (Sign sign ∷ words) = true
follows_number (Compared comparison ∷ words) = true
follows_number (Keyword keyword ∷ words) = joins_numbers keyword
follows_number words = false

abbrev pub follows_closing : List Token → Bool
follows_closing [] = false
follows_closing (first ∷ words) = follows_number words

-- the tokens begin with the parenthesis of a filter, and not with one of an expression
abbrev pub opens_filter : List Token → Bool
opens_filter (Open ∷ words) = not (follows_closing (closing 0 words))
opens_filter words = false
