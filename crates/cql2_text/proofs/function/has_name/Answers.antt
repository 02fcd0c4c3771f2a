use Rattle.std.proofs.Common.{◌≡◌, ◌∷◌, List, ap, ◌∙◌, refl, sym, subst, rules}
use Rattle.cql2_text.specs.Content.{Function}
use Rattle.cql2_text.specs.Function.{HasName, SpellsLimit}
use Rattle.cql2_text.specs.declared.syntax_fault.SyntaxFault.TheVariants.{Memory}
use Rattle.cql2_tokens.specs.declared.token.Token.TheVariants.{Close}
use Rattle.cql2_tokens.specs.declared.token.Token.{Token}
use Rattle.cql2_text.proofs.function.has_name.Goals as goal

pub returns-clause-ok : goal.returns-clause-ok
returns-clause-ok g c =
    record {
      text = c.in_ok-name.name;
      limit = c.in_ok-limit.limit;
      is = refl;
      inner = c.in_ok-words.words.now;
      after = c.in_ok-name.rest.now;
      opened = c.in_ok-words.ensures;
      name = c.in_ok-name.ensures.ok;
      names = rw c.in_ok-rest.ensures at c.in_ok-limit.ensures.ok;
    }

pub returns-in_err-name-clause-reads : goal.returns-in_err-name-clause-reads
returns-in_err-name-clause-reads g c =
    λ rest made spelled.
    let inner : spelled.inner ≡ c.in_ok-words.words.now = cc (spelled.opened, c.in_ok-words.ensures) in
    let name = rw inner at spelled.name in
    let memory : c.in_err-name.field-0.0 ≡ Memory =
    c.in_err-name.ensures.reads spelled.after spelled.text name in
    search rules

pub returns-in_err-limit-clause-reads : goal.returns-in_err-limit-clause-reads
returns-in_err-limit-clause-reads g c =
    λ rest made spelled.
    let inner : spelled.inner ≡ c.in_ok-words.words.now = cc (spelled.opened, c.in_ok-words.ensures) in
    let name = rw inner at spelled.name in
    let read = c.in_ok-name.ensures.reads spelled.after spelled.text name in
    let names = subst (λ (w : List Token). SpellsLimit w (Close ∷ rest) spelled.limit) (sym read.0) spelled.names in
    absurd (c.in_err-limit.ensures.reads rest spelled.limit names)

pub returns-in_err-rest-clause-reads : goal.returns-in_err-rest-clause-reads
returns-in_err-rest-clause-reads g c =
    λ rest made spelled.
    let inner : spelled.inner ≡ c.in_ok-words.words.now = cc (spelled.opened, c.in_ok-words.ensures) in
    let name = rw inner at spelled.name in
    let read = c.in_ok-name.ensures.reads spelled.after spelled.text name in
    let names = subst (λ (w : List Token). SpellsLimit w (Close ∷ rest) spelled.limit) (sym read.0) spelled.names in
    let limit = c.in_ok-limit.ensures.reads rest spelled.limit names in
    absurd (c.in_err-rest.ensures _ limit.0)

pub returns-clause-reads : goal.returns-clause-reads
returns-clause-reads g c =
    λ rest made spelled.
    let inner : spelled.inner ≡ c.in_ok-words.words.now = cc (spelled.opened, c.in_ok-words.ensures) in
    let name = rw inner at spelled.name in
    let read = c.in_ok-name.ensures.reads spelled.after spelled.text name in
    let names = subst (λ (w : List Token). SpellsLimit w (Close ∷ rest) spelled.limit) (sym read.0) spelled.names in
    let limit = c.in_ok-limit.ensures.reads rest spelled.limit names in
    let rest_same : c.in_ok-rest.rest.now ≡ rest = cc (limit.0, c.in_ok-rest.ensures) in
    let texts = ap (λ t. Function (HasName t c.in_ok-limit.limit.number)) read.1 in
    let limits = ap (λ n. Function (HasName spelled.text.bytes.items n)) limit.1 in
    (rest_same, rw spelled.is (texts ∙ limits))

pub returns-in_err-words-clause-reads : goal.returns-in_err-words-clause-reads
returns-in_err-words-clause-reads g c =
    λ rest made spelled. absurd (c.in_err-words.ensures _ spelled.opened)
