use Rattle.std.proofs.Common.{◌≡◌, rules}
use Rattle.cql2_text.specs.declared.syntax_fault.SyntaxFault.TheVariants.{Memory}
use Rattle.cql2_text.proofs.SpelledLemmas.{same-both}
use Rattle.cql2_text.proofs.numeric.between.Goals as goal

pub returns-clause-ok : goal.returns-clause-ok
returns-clause-ok g c =
    record {
      low = c.in_ok-low.low;
      high = c.in_ok-high.high;
      middle = c.in_ok-rest.rest.now;
      at_least = rw c.in_ok-rest.ensures at c.in_ok-low.ensures.ok;
      at_most = c.in_ok-high.ensures.ok;
      both = c.in_ok-filter.ensures;
    }

pub returns-in_err-low-clause-reads : goal.returns-in_err-low-clause-reads
returns-in_err-low-clause-reads g c =
    λ after rest made is.
    let memory : c.in_err-low.field-0.0 ≡ Memory = c.in_err-low.ensures.reads _ _ _ is.at_least in
    search rules

pub returns-in_err-rest-clause-reads : goal.returns-in_err-rest-clause-reads
returns-in_err-rest-clause-reads g c =
    λ after rest made is.
    let low = c.in_ok-low.ensures.reads _ _ _ is.at_least in
    absurd (c.in_err-rest.ensures _ low.0)

pub returns-in_err-high-clause-reads : goal.returns-in_err-high-clause-reads
returns-in_err-high-clause-reads g c =
    λ after rest made is.
    let low = c.in_ok-low.ensures.reads _ _ _ is.at_least in
    let e : is.middle ≡ c.in_ok-rest.rest.now = cc (c.in_ok-rest.ensures, low.0) in
    let memory : c.in_err-high.field-0.0 ≡ Memory = c.in_err-high.ensures.reads after rest is.high (rw e at is.at_most) in
    search rules

pub returns-clause-reads : goal.returns-clause-reads
returns-clause-reads g c =
    λ after rest made is.
    let low = c.in_ok-low.ensures.reads _ _ _ is.at_least in
    let e : is.middle ≡ c.in_ok-rest.rest.now = cc (c.in_ok-rest.ensures, low.0) in
    let high = c.in_ok-high.ensures.reads after rest is.high (rw e at is.at_most) in
    (high.0, same-both _ _ _ _ _ _ low.1 high.1 c.in_ok-filter.ensures is.both)
