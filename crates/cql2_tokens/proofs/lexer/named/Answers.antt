use Rattle.std.proofs.Common.{sym}
use Rattle.cql2_tokens.specs.Lexed.{keyword, property_name, unknown_name}
use Rattle.cql2_tokens.proofs.LexerLemmas.{is-word}
use Rattle.cql2_tokens.proofs.lexer.named.Goals as goal

pub returns-in-Some : goal.returns-in-Some
returns-in-Some c =
    let word = is-word _ _ _ c.requires c.split_name.ensures.all c.split_name.ensures.longest in
    rw c.split_name.ensures.all (keyword _ _ _ word (sym c.in-Some.ensures))

pub returns-in-Some-column_named : goal.returns-in-Some-column_named
returns-in-Some-column_named c =
    let word = is-word _ _ _ c.requires c.split_name.ensures.all c.split_name.ensures.longest in
    rw c.split_name.ensures.all
    (property_name _ _ _ word (sym c.in_default.ensures) (sym c.in-Some-column_named.ensures))

pub returns-in-None : goal.returns-in-None
returns-in-None c =
    let word = is-word _ _ _ c.requires c.split_name.ensures.all c.split_name.ensures.longest in
    rw c.split_name.ensures.all (unknown_name _ _ word (sym c.in_default.ensures) (sym c.in-None.ensures))
