use Rattle.std.proofs.Common.{◌≡◌, ◌≢◌, ◌≤◌, ◌-◌, List, arith, rules}
use Rattle.cql2_text.specs.Clause.{closed}
use Rattle.cql2_tokens.specs.declared.token.Token.{Token}
use Rattle.cql2_text.proofs.ClauseLemmas.{closed-less, closed-more}
use Rattle.cql2_text.proofs.clause.+closings.Goals as goal

pub returns-in_err-inner : goal.returns-in_err-inner
returns-in_err-inner t c =
    let some : 1 ≤ c.args.count = omega (arith, c.if-count-eq0.false) in
    let no : (rest : List Token) → c.args.words.now ≢ closed c.args.count rest = λ rest is.
    c.in_err-inner.ensures _ (closed-less c.args.count _ rest some is) in
    search rules

pub returns-in_err-rest : goal.returns-in_err-rest
returns-in_err-rest t c =
    let some : 1 ≤ c.args.count = omega (arith, c.if-count-eq0.false) in
    let no : (rest : List Token) → c.args.words.now ≢ closed c.args.count rest = λ rest is.
    let fewer = closed-less c.args.count _ rest some is in
    let inner : c.in_ok-inner.inner.now ≡ closed (c.args.count - 1) rest = cc (fewer, c.in_ok-inner.ensures) in
    c.in_err-rest.ensures rest inner in
    search rules

pub returns : goal.returns
returns t c =
    let some : 1 ≤ c.args.count = omega (arith, c.if-count-eq0.false) in
    closed-more c.args.count c.args.words.now c.in_ok-inner.inner.now c.in_ok-rest.rest.now some c.in_ok-inner.ensures c.in_ok-rest.ensures
