use Rattle.std.proofs.Common.{ℕ, List, ◌∷◌, rules}
use Rattle.cql2_tokens.specs.Lexed.{IsToken, quoted_name}
use Rattle.cql2_tokens.specs.declared.token.Token.{Token}
use Rattle.cql2_tokens.proofs.ViewLemmas.{quoted-at}
use Rattle.cql2_tokens.proofs.lexer.quoted_name.Goals as goal

pub returns-clause-is : goal.returns-clause-is
returns-clause-is c =
    rw (c.split_name.ensures.all, c.in_ok-rest.ensures, c.property.ensures) (quoted_name _ _ c.split_name.ensures.longest.such)

pub returns-in_err-rest-clause-none : goal.returns-in_err-rest-clause-none
returns-in_err-rest-clause-none c =
    let text = c.args.text.now in
    let split = c.split_name.ensures in
    let none : (rest : List ℕ) (token : Token) → IsToken (34 ∷ text) rest token → ⊥ =
    λ rest token is. quoted-at text _ _ is split.all split.longest c.in_err-rest.ensures in
    search rules
