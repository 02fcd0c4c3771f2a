use Rattle.std.proofs.Common.{◌≡◌, ◌≤◌, ◌-◌, ap, ◌∙◌, sym, arith, rules}
use Rattle.cql2_text.specs.Clause.{inside, with_accents, with_case}
use Rattle.cql2_text.specs.Read.{IsNotNext}
use Rattle.cql2_tokens.specs.declared.token.Keyword.TheVariants as word
use Rattle.cql2_text.proofs.ClauseLemmas.{accenti-inner, accenti-more, casei-inner, casei-more, none-opens}
use Rattle.cql2_text.proofs.TokenLemmas.{word-is}
use Rattle.cql2_text.proofs.clause.+openings.Goals as goal

pub returns-in_ok-folding-in-Some-Keyword-Casei-default-clause-ok :
    goal.returns-in_ok-folding-in-Some-Keyword-Casei-default-clause-ok
returns-in_ok-folding-in-Some-Keyword-Casei-default-clause-ok t c =
    let k = c.in-Some-Keyword-Casei-default in
    let is = word-is _ _ _ _ _ k.ensures k.field-0-0-is k.field-0-0-0-is in
    casei-more is c.in_ok-inner-in-Some-Keyword-Casei-default.ensures c.with_case.ensures
    c.in_ok-folding-in-Some-Keyword-Casei-default.ensures.ok

pub returns-in_ok-folding-in-Some-Keyword-Casei-default-clause-reads :
    goal.returns-in_ok-folding-in-Some-Keyword-Casei-default-clause-reads
returns-in_ok-folding-in-Some-Keyword-Casei-default-clause-reads t c =
    let k = c.in-Some-Keyword-Casei-default in
    let is = word-is _ _ _ _ _ k.ensures k.field-0-0-is k.field-0-0-0-is in
    λ depth folding inner opens few no_clause.
    let more = casei-inner no_clause (rw is at opens) in
    let rest : more.rest ≡ c.in_ok-inner-in-Some-Keyword-Casei-default.inner.now =
    cc (more.starts, c.in_ok-inner-in-Some-Keyword-Casei-default.ensures) in
    let fewer : more.before ≤ c.args.most - 1 = omega (arith, more.deeper) in
    let read = c.in_ok-folding-in-Some-Keyword-Casei-default.ensures.reads more.before more.ignored inner (rw rest at more.opens) fewer
    no_clause in
    (c.with_case.ensures ∙ ap with_case read.0 ∙ sym more.ignores, omega (arith, read.1, more.deeper), read.2)

pub returns-in_ok-folding-in-Some-Keyword-Accenti-default-clause-ok :
    goal.returns-in_ok-folding-in-Some-Keyword-Accenti-default-clause-ok
returns-in_ok-folding-in-Some-Keyword-Accenti-default-clause-ok t c =
    let k = c.in-Some-Keyword-Accenti-default in
    let is = word-is _ _ _ _ _ k.ensures k.field-0-0-is k.field-0-0-0-is in
    accenti-more is c.in_ok-inner-in-Some-Keyword-Accenti-default.ensures c.with_accents.ensures
    c.in_ok-folding-in-Some-Keyword-Accenti-default.ensures.ok

pub returns-in_ok-folding-in-Some-Keyword-Accenti-default-clause-reads :
    goal.returns-in_ok-folding-in-Some-Keyword-Accenti-default-clause-reads
returns-in_ok-folding-in-Some-Keyword-Accenti-default-clause-reads t c =
    let k = c.in-Some-Keyword-Accenti-default in
    let is = word-is _ _ _ _ _ k.ensures k.field-0-0-is k.field-0-0-0-is in
    λ depth folding inner opens few no_clause.
    let more = accenti-inner no_clause (rw is at opens) in
    let rest : more.rest ≡ c.in_ok-inner-in-Some-Keyword-Accenti-default.inner.now =
    cc (more.starts, c.in_ok-inner-in-Some-Keyword-Accenti-default.ensures) in
    let fewer : more.before ≤ c.args.most - 1 = omega (arith, more.deeper) in
    let read = c.in_ok-folding-in-Some-Keyword-Accenti-default.ensures.reads more.before more.ignored inner (rw rest at more.opens) fewer
    no_clause in
    (c.with_accents.ensures ∙ ap with_accents read.0 ∙ sym more.ignores, omega (arith, read.1, more.deeper), read.2)

pub returns-in_default-clause-ok : goal.returns-in_default-clause-ok
returns-in_default-clause-ok t c = inside c.args.words.now

pub returns-in_default-clause-reads : goal.returns-in_default-clause-reads
returns-in_default-clause-reads t c =
    let no_casei : IsNotNext word.Casei c.args.words.now = search rules in
    let no_accenti : IsNotNext word.Accenti c.args.words.now = search rules in
    λ depth folding inner opens few no_clause. none-opens no_casei no_accenti opens

pub returns-in_err-folding-in-Some-Keyword-Casei-default-clause-reads :
    goal.returns-in_err-folding-in-Some-Keyword-Casei-default-clause-reads
returns-in_err-folding-in-Some-Keyword-Casei-default-clause-reads t c =
    let k = c.in-Some-Keyword-Casei-default in
    let is = word-is _ _ _ _ _ k.ensures k.field-0-0-is k.field-0-0-0-is in
    λ depth folding inner opens few no_clause.
    let more = casei-inner no_clause (rw is at opens) in
    let rest : more.rest ≡ c.in_ok-inner-in-Some-Keyword-Casei-default.inner.now =
    cc (more.starts, c.in_ok-inner-in-Some-Keyword-Casei-default.ensures) in
    let fewer : more.before ≤ c.args.most - 1 = omega (arith, more.deeper) in
    absurd (c.in_err-folding-in-Some-Keyword-Casei-default.ensures.reads more.before more.ignored inner (rw rest at more.opens) fewer
    no_clause)

pub returns-in_err-folding-in-Some-Keyword-Accenti-default-clause-reads :
    goal.returns-in_err-folding-in-Some-Keyword-Accenti-default-clause-reads
returns-in_err-folding-in-Some-Keyword-Accenti-default-clause-reads t c =
    let k = c.in-Some-Keyword-Accenti-default in
    let is = word-is _ _ _ _ _ k.ensures k.field-0-0-is k.field-0-0-0-is in
    λ depth folding inner opens few no_clause.
    let more = accenti-inner no_clause (rw is at opens) in
    let rest : more.rest ≡ c.in_ok-inner-in-Some-Keyword-Accenti-default.inner.now =
    cc (more.starts, c.in_ok-inner-in-Some-Keyword-Accenti-default.ensures) in
    let fewer : more.before ≤ c.args.most - 1 = omega (arith, more.deeper) in
    absurd (c.in_err-folding-in-Some-Keyword-Accenti-default.ensures.reads more.before more.ignored inner (rw rest at more.opens) fewer
    no_clause)
