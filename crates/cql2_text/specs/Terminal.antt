-- The tokens that the grammar requires at one point.
use Rattle.cql2_text.specs.declared.terminal.Terminal.{Terminal}
use Rattle.cql2_text.specs.declared.terminal.Terminal.TheVariants.{Opening, Closing, Comma, And, Null, Geometry, Bbox}
use Rattle.cql2_tokens.specs.declared.token.Keyword.TheVariants as word
use Rattle.cql2_tokens.specs.declared.token.ShapeTag.TheVariants as tag
use Rattle.cql2_tokens.specs.declared.token.Token.{Token}
use Rattle.cql2_tokens.specs.declared.token.Token.TheVariants as token

abbrev pub token_of : Terminal → Token
token_of Opening = token.Open
token_of Closing = token.Close
token_of Comma = token.Comma
token_of And = token.Keyword word.And
token_of Null = token.Keyword word.Null
token_of Geometry = token.Keyword word.Geometry
token_of Bbox = token.Keyword (word.Shape tag.Bbox)
