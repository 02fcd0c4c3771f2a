use Rattle.std.proofs.Common.{ℕ, List, ◌∷◌, refl, rules}
use Rattle.cql2_tokens.specs.Lexed.{IsToken}
use Rattle.cql2_tokens.specs.declared.token.Token.{Token}
use Rattle.cql2_tokens.proofs.LexerLemmas.{text-cut}
use Rattle.cql2_tokens.proofs.ViewLemmas.{literal-at}
use Rattle.cql2_tokens.proofs.lexer.text_token.Goals as goal

pub returns-clause-is : goal.returns-clause-is
returns-clause-is c = text-cut _ c.args.text.now c.in_ok-end.«end» refl c.in_ok-end.ensures.is

pub returns-in_err-end-clause-none : goal.returns-in_err-end-clause-none
returns-in_err-end-clause-none c =
    let text = c.args.text.now in
    let none : (rest : List ℕ) (token : Token) → IsToken (39 ∷ text) rest token → ⊥ =
    λ rest token is. literal-at text rest token is c.in_err-end.ensures.only in
    search rules
