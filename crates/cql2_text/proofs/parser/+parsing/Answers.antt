use Rattle.std.proofs.Common.{◌≡◌, ◌≢◌, ◌-◌, suc, true, false, List, ◌∷◌, ap, ◌∙◌, sym, length, arith, rules}
use Rattle.cql2_text.specs.Parenthesis.{opens_filter}
use Rattle.cql2_text.specs.Read.{IsNotNext}
use Rattle.cql2_text.specs.Spelled.{both, either, grouped, not_primary, one_factor, one_primary, one_term, predicate}
use Rattle.cql2_text.specs.declared.syntax_fault.SyntaxFault.TheVariants.{Memory}
use Rattle.cql2_tokens.specs.declared.token.Keyword.TheVariants as word
use Rattle.cql2_tokens.specs.declared.token.Token.{Token}
use Rattle.cql2_tokens.specs.declared.token.Token.TheVariants.{Close, Keyword, Open}
use Rattle.cql2_text.proofs.ChainLemmas.{chain-first, chain-last, chain-next, expression-parts, and-not-next, term-parts}
use Rattle.cql2_text.proofs.ShorterLemmas.{spells-shorter}
use Rattle.cql2_text.proofs.SpelledLemmas.{group-of, negation-of, opens-none, predicate-of, predicate-spells, primary-of, same-both, same-either, same-not}
use Rattle.cql2_text.proofs.TokenLemmas.{first-is, word-is}
use Rattle.cql2_text.proofs.parser.+parsing.Goals as goal

pub expression-returns-in_err-filter-clause-reads : goal.expression-returns-in_err-filter-clause-reads
expression-returns-in_err-filter-clause-reads g t c =
    λ rest made no_and no_or is.
    let first = expression-parts is in
    let memory : c.in_err-filter.field-0.0 ≡ Memory =
    c.in_err-filter.ensures.reads first.after first.first (and-not-next first.chain no_and) first.part in
    search rules

pub expression-loop-after-init : goal.expression-loop-after-init
expression-loop-after-init g t c =
    record {
      spelled = one_term c.in_ok-filter.ensures.ok;
      reads = λ rest made no_and no_or is.
          let first = expression-parts is in
          let read = c.in_ok-filter.ensures.reads first.after first.first (and-not-next first.chain no_and) first.part in
          chain-first read.0 read.1 first.chain;
    }

pub expression-returns-in_err-second-clause-reads : goal.expression-returns-in_err-second-clause-reads
expression-returns-in_err-second-clause-reads g t c =
    let k = c.in-Some-Keyword-Or-default in
    let is = word-is _ _ _ _ _ k.ensures k.field-0-0-is k.field-0-0-0-is in
    λ rest made no_and no_or spelled.
    let next = chain-next (c.loop-after.invariant.reads rest made no_and no_or spelled) is no_or in
    let memory : c.in_err-second.field-0.0 ≡ Memory =
    c.in_err-second.ensures.reads next.after next.second (and-not-next next.chain no_and) next.part in
    search rules

pub expression-loop-after-preserved : goal.expression-loop-after-preserved
expression-loop-after-preserved g t c =
    let k = c.in-Some-Keyword-Or-default in
    let is = word-is _ _ _ _ _ k.ensures k.field-0-0-is k.field-0-0-0-is in
    record {
      spelled = either (rw is at c.loop-after.invariant.spelled) c.in_ok-second.ensures.ok c.in_ok-filter-2.ensures;
      reads = λ rest made no_and no_or spelled.
          let so_far = c.loop-after.invariant.reads rest made no_and no_or spelled in
          let next = chain-next so_far is no_or in
          let read = c.in_ok-second.ensures.reads next.after next.second (and-not-next next.chain no_and) next.part in
          chain-first read.0 (same-either c.loop-after.filter c.in_ok-second.second so_far.first next.second _ next.joined
          so_far.same read.1 c.in_ok-filter-2.ensures next.joins) next.chain;
    }

pub expression-loop-after-smaller : goal.expression-loop-after-smaller
expression-loop-after-smaller g t c =
    let k = c.in-Some-Keyword-Or-default in
    let is = word-is _ _ _ _ _ k.ensures k.field-0-0-is k.field-0-0-0-is in
    omega (arith, ap length is, spells-shorter _ _ _ _ _ c.in_ok-second.ensures.ok)

pub expression-returns-clause-reads : goal.expression-returns-clause-reads
expression-returns-clause-reads g t c =
    let stops : IsNotNext word.Or c.loop-after.rest.now = search rules in
    λ rest made no_and no_or spelled. chain-last (c.loop-after.invariant.reads rest made no_and no_or spelled) stops

pub term-returns-in_err-filter-clause-reads : goal.term-returns-in_err-filter-clause-reads
term-returns-in_err-filter-clause-reads g t c =
    λ rest made no_and is.
    let first = term-parts is in
    let memory : c.in_err-filter.field-0.0 ≡ Memory = c.in_err-filter.ensures.reads first.after first.first first.part in
    search rules

pub term-loop-after-init : goal.term-loop-after-init
term-loop-after-init g t c =
    record {
      spelled = one_factor c.in_ok-filter.ensures.ok;
      reads = λ rest made no_and is.
          let first = term-parts is in
          let read = c.in_ok-filter.ensures.reads first.after first.first first.part in
          chain-first read.0 read.1 first.chain;
    }

pub term-returns-in_err-second-clause-reads : goal.term-returns-in_err-second-clause-reads
term-returns-in_err-second-clause-reads g t c =
    let k = c.in-Some-Keyword-And-default in
    let is = word-is _ _ _ _ _ k.ensures k.field-0-0-is k.field-0-0-0-is in
    λ rest made no_and spelled.
    let next = chain-next (c.loop-after.invariant.reads rest made no_and spelled) is no_and in
    let memory : c.in_err-second.field-0.0 ≡ Memory = c.in_err-second.ensures.reads next.after next.second next.part in
    search rules

pub term-loop-after-preserved : goal.term-loop-after-preserved
term-loop-after-preserved g t c =
    let k = c.in-Some-Keyword-And-default in
    let is = word-is _ _ _ _ _ k.ensures k.field-0-0-is k.field-0-0-0-is in
    record {
      spelled = both (rw is at c.loop-after.invariant.spelled) c.in_ok-second.ensures.ok c.in_ok-filter-2.ensures;
      reads = λ rest made no_and spelled.
          let so_far = c.loop-after.invariant.reads rest made no_and spelled in
          let next = chain-next so_far is no_and in
          let read = c.in_ok-second.ensures.reads next.after next.second next.part in
          chain-first read.0 (same-both c.loop-after.filter c.in_ok-second.second so_far.first next.second _ next.joined
          so_far.same read.1 c.in_ok-filter-2.ensures next.joins) next.chain;
    }

pub term-loop-after-smaller : goal.term-loop-after-smaller
term-loop-after-smaller g t c =
    let k = c.in-Some-Keyword-And-default in
    let is = word-is _ _ _ _ _ k.ensures k.field-0-0-is k.field-0-0-0-is in
    omega (arith, ap length is, spells-shorter _ _ _ _ _ c.in_ok-second.ensures.ok)

pub term-returns-clause-reads : goal.term-returns-clause-reads
term-returns-clause-reads g t c =
    let stops : IsNotNext word.And c.loop-after.rest.now = search rules in
    λ rest made no_and spelled. chain-last (c.loop-after.invariant.reads rest made no_and spelled) stops

pub factor-returns-in_ok-filter-in-Some-Keyword-Not-default-clause-ok :
    goal.factor-returns-in_ok-filter-in-Some-Keyword-Not-default-clause-ok
factor-returns-in_ok-filter-in-Some-Keyword-Not-default-clause-ok g t c =
    let k = c.in-Some-Keyword-Not-default in
    let is = word-is _ _ _ _ _ k.ensures k.field-0-0-is k.field-0-0-0-is in
    rw is
    (not_primary c.in_ok-inner-in-Some-Keyword-Not-default.ensures.ok c.in_ok-filter-in-Some-Keyword-Not-default.ensures)

pub factor-returns-in_ok-filter-in_default-clause-ok : goal.factor-returns-in_ok-filter-in_default-clause-ok
factor-returns-in_ok-filter-in_default-clause-ok g t c = one_primary c.in_ok-filter-in_default.ensures.ok

pub factor-returns-in_err-inner-in-Some-Keyword-Not-default-clause-reads :
    goal.factor-returns-in_err-inner-in-Some-Keyword-Not-default-clause-reads
factor-returns-in_err-inner-in-Some-Keyword-Not-default-clause-reads g t c =
    let k = c.in-Some-Keyword-Not-default in
    let is = word-is _ _ _ _ _ k.ensures k.field-0-0-is k.field-0-0-0-is in
    λ rest made spelled.
    let inner = negation-of (rw is at spelled) in
    let memory : c.in_err-inner-in-Some-Keyword-Not-default.field-0.0 ≡ Memory =
    c.in_err-inner-in-Some-Keyword-Not-default.ensures.reads rest inner.0 inner.1 in
    search rules

pub factor-returns-in_ok-filter-in-Some-Keyword-Not-default-clause-reads :
    goal.factor-returns-in_ok-filter-in-Some-Keyword-Not-default-clause-reads
factor-returns-in_ok-filter-in-Some-Keyword-Not-default-clause-reads g t c =
    let k = c.in-Some-Keyword-Not-default in
    let is = word-is _ _ _ _ _ k.ensures k.field-0-0-is k.field-0-0-0-is in
    λ rest made spelled.
    let inner = negation-of (rw is at spelled) in
    let read = c.in_ok-inner-in-Some-Keyword-Not-default.ensures.reads rest inner.0 inner.1 in (
      read.0,
      same-not c.in_ok-inner-in-Some-Keyword-Not-default.inner inner.0 _ made read.1
          c.in_ok-filter-in-Some-Keyword-Not-default.ensures inner.2,
    )

pub factor-returns-in_err-filter-in_default-clause-reads :
    goal.factor-returns-in_err-filter-in_default-clause-reads
factor-returns-in_err-filter-in_default-clause-reads g t c =
    let no_not : (w : List Token) → c.args.words.now ≢ Keyword word.Not ∷ w = search rules in
    λ rest made spelled.
    let is = primary-of no_not spelled in
    let memory : c.in_err-filter-in_default.field-0.0 ≡ Memory =
    c.in_err-filter-in_default.ensures.reads rest made is in
    search rules

pub factor-returns-in_ok-filter-in_default-clause-reads :
    goal.factor-returns-in_ok-filter-in_default-clause-reads
factor-returns-in_ok-filter-in_default-clause-reads g t c =
    let no_not : (w : List Token) → c.args.words.now ≢ Keyword word.Not ∷ w = search rules in
    λ rest made spelled.
    let is = primary-of no_not spelled in
    c.in_ok-filter-in_default.ensures.reads rest made is

pub primary-returns-in_ok-rest-in-Some-Open-default-clause-ok : goal.primary-returns-in_ok-rest-in-Some-Open-default-clause-ok
primary-returns-in_ok-rest-in-Some-Open-default-clause-ok g t c =
    let k = c.in-Some-Open-default in
    let is = first-is _ _ _ _ k.ensures k.field-0-0-is in
    let opens : opens_filter (Open ∷ k.after.now) ≡ true = sym c.opens_filter.ensures ∙ c.if-not-opens_filter.false in
    let inner = rw c.in_ok-rest-in-Some-Open-default.ensures at c.in_ok-filter-in-Some-Open-default.ensures.ok in
    let deep : c.args.depth ≡ suc (c.args.depth - 1) = omega arith in
    rw (is, deep) (grouped opens inner)

pub primary-returns-then-depth-eq0-clause-reads :
    goal.primary-returns-then-depth-eq0-clause-reads
primary-returns-then-depth-eq0-clause-reads g t c =
    let k = c.in-Some-Open-default in
    let is = first-is _ _ _ _ k.ensures k.field-0-0-is in
    let opens : opens_filter (Open ∷ k.after.now) ≡ true = sym c.opens_filter.ensures ∙ c.if-not-opens_filter.false in
    λ rest made spelled.
    let group = group-of opens (rw is at spelled) in
    absurd (omega (arith, group.some))

pub primary-returns-in_err-filter-in-Some-Open-default-clause-reads :
    goal.primary-returns-in_err-filter-in-Some-Open-default-clause-reads
primary-returns-in_err-filter-in-Some-Open-default-clause-reads g t c =
    let k = c.in-Some-Open-default in
    let is = first-is _ _ _ _ k.ensures k.field-0-0-is in
    let opens : opens_filter (Open ∷ k.after.now) ≡ true = sym c.opens_filter.ensures ∙ c.if-not-opens_filter.false in
    λ rest made spelled.
    let group = group-of opens (rw is at spelled) in
    let memory : c.in_err-filter-in-Some-Open-default.field-0.0 ≡ Memory =
    c.in_err-filter-in-Some-Open-default.ensures.reads (Close ∷ rest) made group.no_and group.no_or group.spelled in
    search rules

pub primary-returns-in_err-rest-in-Some-Open-default-clause-reads :
    goal.primary-returns-in_err-rest-in-Some-Open-default-clause-reads
primary-returns-in_err-rest-in-Some-Open-default-clause-reads g t c =
    let k = c.in-Some-Open-default in
    let is = first-is _ _ _ _ k.ensures k.field-0-0-is in
    let opens : opens_filter (Open ∷ k.after.now) ≡ true = sym c.opens_filter.ensures ∙ c.if-not-opens_filter.false in
    λ rest made spelled.
    let group = group-of opens (rw is at spelled) in
    let read = c.in_ok-filter-in-Some-Open-default.ensures.reads (Close ∷ rest) made group.no_and group.no_or group.spelled in
    absurd (c.in_err-rest-in-Some-Open-default.ensures _ read.0)

pub primary-returns-in_ok-rest-in-Some-Open-default-clause-reads :
    goal.primary-returns-in_ok-rest-in-Some-Open-default-clause-reads
primary-returns-in_ok-rest-in-Some-Open-default-clause-reads g t c =
    let k = c.in-Some-Open-default in
    let is = first-is _ _ _ _ k.ensures k.field-0-0-is in
    let opens : opens_filter (Open ∷ k.after.now) ≡ true = sym c.opens_filter.ensures ∙ c.if-not-opens_filter.false in
    λ rest made spelled.
    let group = group-of opens (rw is at spelled) in
    let read = c.in_ok-filter-in-Some-Open-default.ensures.reads (Close ∷ rest) made group.no_and group.no_or group.spelled in
    let rest_same : c.in_ok-rest-in-Some-Open-default.rest.now ≡ rest = cc (read.0, c.in_ok-rest-in-Some-Open-default.ensures) in
    (rest_same, read.1)

pub primary-returns-then-not-opens_filter-clause-ok : goal.primary-returns-then-not-opens_filter-clause-ok
primary-returns-then-not-opens_filter-clause-ok g t c =
    let k = c.in-Some-Open-default in
    let is = first-is _ _ _ _ k.ensures k.field-0-0-is in
    let stop : opens_filter c.args.words.now ≡ false = rw is (sym c.opens_filter.ensures ∙ c.if-not-opens_filter.true) in
    predicate-spells _ _ _ stop c.predicate.ensures.ok

pub primary-returns-then-not-opens_filter-clause-reads : goal.primary-returns-then-not-opens_filter-clause-reads
primary-returns-then-not-opens_filter-clause-reads g t c =
    let k = c.in-Some-Open-default in
    let is = first-is _ _ _ _ k.ensures k.field-0-0-is in
    let stop : opens_filter c.args.words.now ≡ false = rw is (sym c.opens_filter.ensures ∙ c.if-not-opens_filter.true) in
    λ rest made spelled. c.predicate.ensures.reads rest made (predicate-of stop spelled)

pub primary-returns-in_ok-filter-in_default-clause-ok : goal.primary-returns-in_ok-filter-in_default-clause-ok
primary-returns-in_ok-filter-in_default-clause-ok g t c =
    let no_group : (w : List Token) → c.args.words.now ≢ Open ∷ w = search rules in
    let stop = opens-none c.args.words.now no_group in
    predicate stop c.in_ok-filter-in_default.ensures.ok

pub primary-returns-in_err-filter-in_default-clause-reads : goal.primary-returns-in_err-filter-in_default-clause-reads
primary-returns-in_err-filter-in_default-clause-reads g t c =
    let no_group : (w : List Token) → c.args.words.now ≢ Open ∷ w = search rules in
    let stop = opens-none c.args.words.now no_group in
    λ rest made spelled.
    let is = predicate-of stop spelled in
    let memory : c.in_err-filter-in_default.field-0.0 ≡ Memory = c.in_err-filter-in_default.ensures.reads rest made is in
    search rules

pub primary-returns-in_ok-filter-in_default-clause-reads : goal.primary-returns-in_ok-filter-in_default-clause-reads
primary-returns-in_ok-filter-in_default-clause-reads g t c =
    let no_group : (w : List Token) → c.args.words.now ≢ Open ∷ w = search rules in
    let stop = opens-none c.args.words.now no_group in
    λ rest made spelled. c.in_ok-filter-in_default.ensures.reads rest made (predicate-of stop spelled)
