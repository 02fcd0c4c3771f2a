use Rattle.std.proofs.Common.{◌≡◌, ap, refl}
use Rattle.cql2_text.specs.Content.{Function}
use Rattle.cql2_text.specs.Function.{Within}
use Rattle.cql2_text.proofs.function.lies_within.Goals as goal

pub returns-clause-ok : goal.returns-clause-ok
returns-clause-ok g c =
    record {
      bounds = c.in_ok-bounds.bounds;
      inner = c.in_ok-rest-4.rest.now;
      opened = cc (c.in_ok-rest.ensures, c.in_ok-rest-2.ensures, c.in_ok-rest-3.ensures, c.in_ok-rest-4.ensures);
      box = rw c.in_ok-rest-5.ensures at c.in_ok-bounds.ensures.ok;
      is = refl;
    }

pub returns-in_err-bounds-clause-reads : goal.returns-in_err-bounds-clause-reads
returns-in_err-bounds-clause-reads g c =
    λ rest made is.
    let inner : is.inner ≡ c.in_ok-rest-4.rest.now =
    cc (is.opened, c.in_ok-rest.ensures, c.in_ok-rest-2.ensures, c.in_ok-rest-3.ensures, c.in_ok-rest-4.ensures) in
    absurd (c.in_err-bounds.ensures.reads _ _ (rw inner at is.box))

pub returns-in_err-rest-5-clause-reads : goal.returns-in_err-rest-5-clause-reads
returns-in_err-rest-5-clause-reads g c =
    λ rest made is.
    let inner : is.inner ≡ c.in_ok-rest-4.rest.now =
    cc (is.opened, c.in_ok-rest.ensures, c.in_ok-rest-2.ensures, c.in_ok-rest-3.ensures, c.in_ok-rest-4.ensures) in
    let read = c.in_ok-bounds.ensures.reads _ _ (rw inner at is.box) in
    absurd (c.in_err-rest-5.ensures _ read.0)

pub returns-clause-reads : goal.returns-clause-reads
returns-clause-reads g c =
    λ rest made is.
    let inner : is.inner ≡ c.in_ok-rest-4.rest.now =
    cc (is.opened, c.in_ok-rest.ensures, c.in_ok-rest-2.ensures, c.in_ok-rest-3.ensures, c.in_ok-rest-4.ensures) in
    let read = c.in_ok-bounds.ensures.reads _ _ (rw inner at is.box) in
    (cc (read.0, c.in_ok-rest-5.ensures), rw is.is (ap (λ b. Function (Within b)) read.1))
