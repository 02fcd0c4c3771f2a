use Rattle.std.proofs.Common.{◌≡◌, ◌<◌, ℕ, List, [], false, length, ap, refl, arith, rules}
use Rattle.std.proofs.lemmas.Bool.Decides.{nat_tests}
use Rattle.std.specs.Char.{is_ascii_digit}
use Rattle.cql2_tokens.specs.Lexed.{IsToken}
use Rattle.cql2_tokens.specs.declared.token.Token.{Token}
use Rattle.cql2_tokens.proofs.ViewLemmas.{IsNoSign, none-then, other-at}
use Rattle.cql2.specs.declared.filter.Comparison.TheVariants.{Equal}
use Rattle.cql2_tokens.specs.Lexed.{asterisk, comma, comparison_operator, left_paren, minus_sign, percent_sign, plus_sign, right_paren}
use Rattle.cql2_tokens.proofs.LexerLemmas.{token-after, token-shorter}
use Rattle.cql2_tokens.proofs.lexer.first_token.Goals as goal

pub returns-in-40-clause-is : goal.returns-in-40-clause-is
returns-in-40-clause-is c = token-after c.in_ok-first.ensures.cases.0 c.in-40.is (left_paren _)

pub returns-in-41-clause-is : goal.returns-in-41-clause-is
returns-in-41-clause-is c = token-after c.in_ok-first.ensures.cases.0 c.in-41.is (right_paren _)

pub returns-in-44-clause-is : goal.returns-in-44-clause-is
returns-in-44-clause-is c = token-after c.in_ok-first.ensures.cases.0 c.in-44.is (comma _)

pub returns-in-61-clause-is : goal.returns-in-61-clause-is
returns-in-61-clause-is c = token-after c.in_ok-first.ensures.cases.0 c.in-61.is (comparison_operator Equal _ refl)

pub returns-in-43-clause-is : goal.returns-in-43-clause-is
returns-in-43-clause-is c = token-after c.in_ok-first.ensures.cases.0 c.in-43.is (plus_sign _)

pub returns-in-45-clause-is : goal.returns-in-45-clause-is
returns-in-45-clause-is c = token-after c.in_ok-first.ensures.cases.0 c.in-45.is (minus_sign _)

pub returns-in-42-clause-is : goal.returns-in-42-clause-is
returns-in-42-clause-is c = token-after c.in_ok-first.ensures.cases.0 c.in-42.is (asterisk _)

pub returns-in-37-clause-is : goal.returns-in-37-clause-is
returns-in-37-clause-is c = token-after c.in_ok-first.ensures.cases.0 c.in-37.is (percent_sign _)

pub returns-in_err-first-clause-none : goal.returns-in_err-first-clause-none
returns-in_err-first-clause-none c =
    let text = c.args.text.now in
    let none : (rest : List ℕ) (token : Token) → IsToken text rest token → ⊥ =
    λ rest token is.
    let shorter : length rest < length text = token-shorter text rest token is in
    let e : text ≡ [] = search rules in
    absurd (omega (arith, ap length e)) in
    search rules

pub returns-in_default-clause-none : goal.returns-in_default-clause-none
returns-in_default-clause-none c =
    let first = c.in_ok-first.first.now in
    let no_sign : IsNoSign first = record {
      no_opening = search rules;
      no_closing = search rules;
      no_comma = search rules;
      no_equal = search rules;
      no_less = search rules;
      no_greater = search rules;
      no_quote = search rules;
      no_double = search rules;
      no_plus = search rules;
      no_minus = search rules;
      no_asterisk = search rules;
      no_percent = search rules;
    } in
    let no_digit : is_ascii_digit first ≡ false = grind (arith, nat_tests) in
    none-then c.word.result c.word.ensures.none
    (λ missing rest token is. other-at _ first is c.in_ok-first.ensures.cases.0 no_sign no_digit missing)
