use Rattle.cql2_text.proofs.SpelledLemmas.{BeginsNoFunction, false-of, function-of, relation-of, true-of}
use Rattle.cql2_text.specs.declared.syntax_fault.SyntaxFault.TheVariants.{Memory}
use Rattle.std.proofs.Common.{◌≡◌, ap, rules}
use Rattle.cql2_text.specs.Content.{content}
use Rattle.cql2_text.specs.Spelled.{false_literal, function, relation, true_literal}
use Rattle.cql2_text.proofs.TokenLemmas.{word-is}
use Rattle.cql2_text.proofs.parser.predicate.Goals as goal

pub returns-in-Some-Keyword-True-default-clause-ok : goal.returns-in-Some-Keyword-True-default-clause-ok
returns-in-Some-Keyword-True-default-clause-ok g c =
    let k = c.in-Some-Keyword-True-default in
    let is = word-is _ _ _ _ _ k.ensures k.field-0-0-is k.field-0-0-0-is in
    rw is true_literal

pub returns-in-Some-Keyword-False-default-clause-ok : goal.returns-in-Some-Keyword-False-default-clause-ok
returns-in-Some-Keyword-False-default-clause-ok g c =
    let k = c.in-Some-Keyword-False-default in
    let is = word-is _ _ _ _ _ k.ensures k.field-0-0-is k.field-0-0-0-is in
    rw is false_literal

pub returns-in_ok-filter-in_default-clause-ok : goal.returns-in_ok-filter-in_default-clause-ok
returns-in_ok-filter-in_default-clause-ok g c = relation c.in_ok-filter-in_default.ensures.ok

pub returns-in_err-filter-in_default-clause-reads : goal.returns-in_err-filter-in_default-clause-reads
returns-in_err-filter-in_default-clause-reads g c =
    let words = c.args.words.now in
    let none : BeginsNoFunction words = record {
      no_true = search rules;
      no_false = search rules;
      no_function = search rules;
    } in
    λ rest made spelled.
    let memory : c.in_err-filter-in_default.field-0.0 ≡ Memory =
    c.in_err-filter-in_default.ensures.reads rest made (relation-of none spelled) in
    search rules

pub returns-in_ok-filter-in_default-clause-reads : goal.returns-in_ok-filter-in_default-clause-reads
returns-in_ok-filter-in_default-clause-reads g c =
    let words = c.args.words.now in
    let none : BeginsNoFunction words = record {
      no_true = search rules;
      no_false = search rules;
      no_function = search rules;
    } in
    λ rest made spelled.
    c.in_ok-filter-in_default.ensures.reads rest made (relation-of none spelled)

pub returns-in-Some-Keyword-True-default-clause-reads : goal.returns-in-Some-Keyword-True-default-clause-reads
returns-in-Some-Keyword-True-default-clause-reads g c =
    let k = c.in-Some-Keyword-True-default in
    let is = word-is _ _ _ _ _ k.ensures k.field-0-0-is k.field-0-0-0-is in
    λ rest made spelled. let literal = true-of (rw is at spelled) in (literal.0, ap content literal.1)

pub returns-in-Some-Keyword-False-default-clause-reads : goal.returns-in-Some-Keyword-False-default-clause-reads
returns-in-Some-Keyword-False-default-clause-reads g c =
    let k = c.in-Some-Keyword-False-default in
    let is = word-is _ _ _ _ _ k.ensures k.field-0-0-is k.field-0-0-0-is in
    λ rest made spelled. let literal = false-of (rw is at spelled) in (literal.0, ap content literal.1)

pub returns-in_ok-filter-in-Some-Keyword-Function-default-clause-ok : goal.returns-in_ok-filter-in-Some-Keyword-Function-default-clause-ok
returns-in_ok-filter-in-Some-Keyword-Function-default-clause-ok g c =
    let k = c.in-Some-Keyword-Function-default in
    let is = word-is _ _ _ _ _ k.ensures k.field-0-0-is k.field-0-0-0-is in
    rw is (function c.in_ok-filter-in-Some-Keyword-Function-default.ensures.ok)

pub returns-in_err-filter-in-Some-Keyword-Function-default-clause-reads : goal.returns-in_err-filter-in-Some-Keyword-Function-default-clause-reads
returns-in_err-filter-in-Some-Keyword-Function-default-clause-reads g c =
    let k = c.in-Some-Keyword-Function-default in
    let is = word-is _ _ _ _ _ k.ensures k.field-0-0-is k.field-0-0-0-is in
    λ rest made spelled.
    let memory : c.in_err-filter-in-Some-Keyword-Function-default.field-0.0 ≡ Memory =
    c.in_err-filter-in-Some-Keyword-Function-default.ensures.reads rest made (function-of (rw is at spelled)) in
    search rules

pub returns-in_ok-filter-in-Some-Keyword-Function-default-clause-reads : goal.returns-in_ok-filter-in-Some-Keyword-Function-default-clause-reads
returns-in_ok-filter-in-Some-Keyword-Function-default-clause-reads g c =
    let k = c.in-Some-Keyword-Function-default in
    let is = word-is _ _ _ _ _ k.ensures k.field-0-0-is k.field-0-0-0-is in
    λ rest made spelled.
    c.in_ok-filter-in-Some-Keyword-Function-default.ensures.reads rest made (function-of (rw is at spelled))
