use Rattle.std.proofs.Common.{sym, rules}
use Rattle.cql2.specs.declared.filter.Filter.{the_lemmas}
use Rattle.cql2_code.proofs.Compiled.{asks_as}
use Rattle.cql2_code.proofs.Refused.{prepends_as, prepends_refused, refuses_as, second_refused}
use Rattle.cql2_code.proofs.Written.{joined}
use Rattle.cql2_code.proofs.compiler.+prepend_filter.Goals as goal

pub loop-filter-preserved-in-And : goal.loop-filter-preserved-in-And
loop-filter-preserved-in-And g t c =
    let asked = c.loop-filter.asked in
    let last = asks_as asked (sym c.deref.ensures) c.in_ok-prepend_filter-in-And.ensures in
    record {
      smaller = search (rules, the_lemmas);
      inside = c.exits_before-exits.ensures.inside;
      written = λ all front. c.loop-filter.invariant.written all
          (asks_as asked c.in-And.is
          (joined c.words-words.ensures.value last c.exits_before-exits.ensures.before
          (asks_as asked (sym c.deref-filter.ensures) front)));
    }

pub loop-filter-preserved-in-Or : goal.loop-filter-preserved-in-Or
loop-filter-preserved-in-Or g t c =
    let asked = c.loop-filter.asked in
    let last = asks_as asked (sym c.deref-in-Or.ensures) c.in_ok-prepend_filter-in-Or.ensures in
    record {
      smaller = search (rules, the_lemmas);
      inside = c.exits_before-exits-in-Or.ensures.inside;
      written = λ all front. c.loop-filter.invariant.written all
          (asks_as asked c.in-Or.is
          (joined c.words-words-in-Or.ensures.value last c.exits_before-exits-in-Or.ensures.before
          (asks_as asked (sym c.deref-filter-in-Or.ensures) front)));
    }

pub returns-in_default : goal.returns-in_default
returns-in_default g t c =
    prepends_as c.prepend_leaf.result _ (λ all written. c.loop-filter.invariant.written all written) c.prepend_leaf.ensures

pub returns-in_err-prepend_filter-in-And : goal.returns-in_err-prepend_filter-in-And
returns-in_err-prepend_filter-in-And g t c =
    let asked = c.loop-filter.asked in
    let last = refuses_as (λ all written. asks_as asked (sym c.deref.ensures) written) c.in_err-prepend_filter-in-And.ensures in
    prepends_refused c.from_residual.result _ c.from_residual.ensures.1
    (refuses_as (λ all written. c.loop-filter.invariant.written all (asks_as asked c.in-And.is written)) (second_refused last))

pub returns-in_err-prepend_filter-in-Or : goal.returns-in_err-prepend_filter-in-Or
returns-in_err-prepend_filter-in-Or g t c =
    let asked = c.loop-filter.asked in
    let last = refuses_as (λ all written. asks_as asked (sym c.deref-in-Or.ensures) written) c.in_err-prepend_filter-in-Or.ensures in
    prepends_refused c.from_residual-in_err-prepend_filter-in-Or.result _ c.from_residual-in_err-prepend_filter-in-Or.ensures.1
    (refuses_as (λ all written. c.loop-filter.invariant.written all (asks_as asked c.in-Or.is written)) (second_refused last))
