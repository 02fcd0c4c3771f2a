-- The tokens of a numeric expression before they are read: where it ends, and which column comes first.
use Rattle.std.specs.Prelude.{ℕ, ◌+◌, ◌-◌, Bool, true, false, nat_lt, if◌then◌else◌, List, [], ◌∷◌, Option, Some, None}
use Rattle.cql2.specs.declared.column.Column.TheVariants as column
use Rattle.cql2.specs.declared.column.NumericColumn.{NumericColumn}
use Rattle.cql2_text.specs.Compared.{or_else}
use Rattle.cql2_tokens.specs.declared.token.Keyword.TheVariants as word
use Rattle.cql2_tokens.specs.declared.token.Token.{Token}
use Rattle.cql2_tokens.specs.declared.token.Token.TheVariants.{Keyword, Column, Sign, Open, Close, Number}

-- whether an operand comes next, and how many parentheses are open, after a token of an expression; none if the token isn't one
abbrev pub step : Bool → ℕ → Token → Option (Bool × ℕ)
step true open_parentheses Open = Some (true, open_parentheses + 1)
step false open_parentheses Close = if nat_lt 0 open_parentheses then Some (false, open_parentheses - 1) else None
step expects open_parentheses (Sign sign) = Some (true, open_parentheses)
step false open_parentheses (Keyword word.Div) = Some (true, open_parentheses)
step true open_parentheses (Number numeral) = Some (false, open_parentheses)
step true open_parentheses (Column (column.Numeric named)) = Some (false, open_parentheses)
step expects open_parentheses token = None

abbrev pub column_of : Token → Option NumericColumn
column_of (Column (column.Numeric named)) = Some named
column_of token = None

-- the first column, and the tokens after the expression
abbrev pub scanned : Bool → ℕ → Option NumericColumn → List Token → Option NumericColumn × List Token
scanned expects open_parentheses found [] = (found, [])
scanned expects open_parentheses found (token ∷ words) =
    elim (step expects open_parentheses token) [
      | Some state ↦ scanned state.0 state.1 (or_else found (column_of token)) words
      | None ↦ (found, token ∷ words)
    ]

abbrev pub column_ahead : List Token → Option NumericColumn
column_ahead words = (scanned true 0 None words).0

abbrev pub after_number : List Token → List Token
after_number words = (scanned true 0 None words).1

-- the tokens begin like a numeric expression
abbrev pub begins_operand : List Token → Bool
begins_operand (Number numeral ∷ words) = true
begins_operand (Sign sign ∷ words) = true
begins_operand (Open ∷ words) = true
begins_operand (Column (column.Numeric named) ∷ words) = true
begins_operand words = false
