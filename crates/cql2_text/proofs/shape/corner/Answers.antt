use Rattle.std.proofs.Common.{◌≡◌}
use Rattle.cql2_text.proofs.shape.corner.Goals as goal

pub returns-clause-ok : goal.returns-clause-ok
returns-clause-ok c =
    record {
      middle = c.in_ok-rest.rest.now;
      first = rw c.in_ok-rest.ensures at c.in_ok-x.ensures.ok;
      second = c.in_ok-y.ensures.ok;
    }

pub returns-in_err-x-clause-reads : goal.returns-in_err-x-clause-reads
returns-in_err-x-clause-reads c = λ rest x y is. absurd (c.in_err-x.ensures.reads _ _ is.first)

pub returns-in_err-rest-clause-reads : goal.returns-in_err-rest-clause-reads
returns-in_err-rest-clause-reads c =
    λ rest x y is. let first = c.in_ok-x.ensures.reads _ _ is.first in absurd (c.in_err-rest.ensures _ first.0)

pub returns-in_err-y-clause-reads : goal.returns-in_err-y-clause-reads
returns-in_err-y-clause-reads c =
    λ rest x y is.
    let first = c.in_ok-x.ensures.reads _ _ is.first in
    let middle : is.middle ≡ c.in_ok-rest.rest.now = cc (first.0, c.in_ok-rest.ensures) in
    absurd (c.in_err-y.ensures.reads _ _ (rw middle at is.second))

pub returns-clause-reads : goal.returns-clause-reads
returns-clause-reads c =
    λ rest x y is.
    let first = c.in_ok-x.ensures.reads _ _ is.first in
    let middle : is.middle ≡ c.in_ok-rest.rest.now = cc (first.0, c.in_ok-rest.ensures) in
    let second = c.in_ok-y.ensures.reads _ _ (rw middle at is.second) in
    (second.0, first.1, second.1)
