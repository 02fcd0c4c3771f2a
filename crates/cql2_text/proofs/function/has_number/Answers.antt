use Rattle.std.proofs.Common.{◌≡◌, ◌∷◌, ◌∙◌, ap, refl, sym, Ok}
use Rattle.cql2_text.specs.Content.{Function}
use Rattle.cql2_text.specs.Function.{HasNumber}
use Rattle.cql2_text.specs.Number.{house_number_of}
use Rattle.cql2_tokens.specs.declared.token.Token.TheVariants.{Close}
use Rattle.cql2_text.proofs.function.has_number.Goals as goal

pub returns-in-Ok-clause-ok : goal.returns-in-Ok-clause-ok
returns-in-Ok-clause-ok g c =
    record {
      house = c.in-Ok.number;
      is = refl;
      numeral = c.in_ok-numeral.numeral;
      inner = c.in_ok-words.words.now;
      opened = c.in_ok-words.ensures;
      spelled = rw c.in_ok-rest.ensures at c.in_ok-numeral.ensures.ok;
      value = c.in-Ok.ensures;
    }

pub returns-in-Err-clause-reads : goal.returns-in-Err-clause-reads
returns-in-Err-clause-reads g c =
    λ rest made spelled.
    let inner : spelled.inner ≡ c.in_ok-words.words.now = cc (spelled.opened, c.in_ok-words.ensures) in
    let read = c.in_ok-numeral.ensures.reads (Close ∷ rest) spelled.numeral (rw inner at spelled.spelled) in
    let value : house_number_of c.in_ok-numeral.numeral ≡ Ok spelled.house.number = rw read.1 spelled.value in
    let both = sym value ∙ c.in-Err.ensures in
    let no : ⊥ = cc both in
    absurd no

pub returns-in_err-words-clause-reads : goal.returns-in_err-words-clause-reads
returns-in_err-words-clause-reads g c =
    λ rest made spelled.
    absurd (c.in_err-words.ensures _ spelled.opened)

pub returns-in_err-numeral-clause-reads : goal.returns-in_err-numeral-clause-reads
returns-in_err-numeral-clause-reads g c =
    λ rest made spelled.
    let inner : spelled.inner ≡ c.in_ok-words.words.now = cc (spelled.opened, c.in_ok-words.ensures) in
    absurd (c.in_err-numeral.ensures.reads (Close ∷ rest) spelled.numeral (rw inner at spelled.spelled))

pub returns-in_err-rest-clause-reads : goal.returns-in_err-rest-clause-reads
returns-in_err-rest-clause-reads g c =
    λ rest made spelled.
    let inner : spelled.inner ≡ c.in_ok-words.words.now = cc (spelled.opened, c.in_ok-words.ensures) in
    let read = c.in_ok-numeral.ensures.reads (Close ∷ rest) spelled.numeral (rw inner at spelled.spelled) in
    absurd (c.in_err-rest.ensures rest read.0)

pub returns-in-Ok-clause-reads : goal.returns-in-Ok-clause-reads
returns-in-Ok-clause-reads g c =
    λ rest made spelled.
    let inner : spelled.inner ≡ c.in_ok-words.words.now = cc (spelled.opened, c.in_ok-words.ensures) in
    let read = c.in_ok-numeral.ensures.reads (Close ∷ rest) spelled.numeral (rw inner at spelled.spelled) in
    let rest_same : c.in_ok-rest.rest.now ≡ rest = cc (read.0, c.in_ok-rest.ensures) in
    let value : house_number_of c.in_ok-numeral.numeral ≡ Ok spelled.house.number = rw read.1 spelled.value in
    let both = sym c.in-Ok.ensures ∙ value in
    let numbers : c.in-Ok.number.number ≡ spelled.house.number = cc both in
    (rest_same, rw spelled.is (ap (λ n. Function (HasNumber n)) numbers))
