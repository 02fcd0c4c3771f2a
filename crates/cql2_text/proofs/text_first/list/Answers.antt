use Rattle.std.proofs.Common.{◌≡◌, ◌≢◌, List, ◌∷◌, ap, length, arith, rules}
use Rattle.cql2_text.specs.Predicate.{more, one}
use Rattle.cql2_text.specs.declared.syntax_fault.SyntaxFault.TheVariants.{Memory}
use Rattle.cql2_tokens.specs.declared.token.Token.{Token}
use Rattle.cql2_tokens.specs.declared.token.Token.TheVariants.{Comma}
use Rattle.cql2_text.proofs.ChainLemmas.{chain-first, chain-last, chain-next, list-parts}
use Rattle.cql2_text.proofs.ShorterLemmas.{exchanged-shorter}
use Rattle.cql2_text.proofs.SpelledLemmas.{same-either}
use Rattle.cql2_text.proofs.TokenLemmas.{first-is}
use Rattle.cql2_text.proofs.text_first.list.Goals as goal

pub returns-in_err-filter-clause-reads : goal.returns-in_err-filter-clause-reads
returns-in_err-filter-clause-reads g c =
    λ rest made is.
    let first = list-parts is in
    let memory : c.in_err-filter.field-0.0 ≡ Memory = c.in_err-filter.ensures.reads first.after first.first first.part in
    search rules

pub loop-after-init : goal.loop-after-init
loop-after-init g c =
    record {
      spelled = one c.in_ok-filter.ensures.ok;
      reads = λ rest made is.
          let first = list-parts is in
          let read = c.in_ok-filter.ensures.reads first.after first.first first.part in
          chain-first read.0 read.1 first.chain;
    }

pub returns-in_err-second-clause-reads : goal.returns-in_err-second-clause-reads
returns-in_err-second-clause-reads g c =
    let k = c.in-Some-Comma-default in
    let is = first-is _ _ _ _ k.ensures k.field-0-0-is in
    λ rest made spelled.
    let next = chain-next (c.loop-after.invariant.reads rest made spelled) is (λ w e. cc) in
    let memory : c.in_err-second.field-0.0 ≡ Memory = c.in_err-second.ensures.reads next.after next.second next.part in
    search rules

pub loop-after-preserved : goal.loop-after-preserved
loop-after-preserved g c =
    let k = c.in-Some-Comma-default in
    let is = first-is _ _ _ _ k.ensures k.field-0-0-is in
    record {
      spelled = more (rw is at c.loop-after.invariant.spelled) c.in_ok-second.ensures.ok c.in_ok-filter-2.ensures;
      reads = λ rest made spelled.
          let so_far = c.loop-after.invariant.reads rest made spelled in
          let next = chain-next so_far is (λ w e. cc) in
          let read = c.in_ok-second.ensures.reads next.after next.second next.part in
          chain-first read.0 (same-either c.loop-after.filter c.in_ok-second.second so_far.first next.second _ next.joined so_far.same
          read.1
          c.in_ok-filter-2.ensures next.joins) next.chain;
    }

pub returns-clause-reads : goal.returns-clause-reads
returns-clause-reads g c =
    let no_comma : (w : List Token) → c.loop-after.rest.now ≢ Comma ∷ w = search rules in
    λ rest made spelled. chain-last (c.loop-after.invariant.reads rest made spelled) no_comma

pub loop-after-smaller : goal.loop-after-smaller
loop-after-smaller g c =
    let k = c.in-Some-Comma-default in
    let is = first-is _ _ _ _ k.ensures k.field-0-0-is in
    omega (arith, ap length is, exchanged-shorter _ _ _ _ _ c.in_ok-second.ensures.ok)
