use Rattle.std.proofs.Common.{is_some, ap, sym, ◌∙◌}
use Rattle.geocode.specs.Street.{parts_of}
use Rattle.geocode.proofs.SearchLemmas.{name_on-not}
use Rattle.geocode.proofs.street.Street.name_on.Goals as goal

pub returns-clause-value : goal.returns-clause-value
returns-clause-value g c =
    sym (name_on-not (parts_of c.args.self) c.args.segment.now (sym c.has_name.ensures ∙ c.if-has_name.false))

pub returns-clause-by_name : goal.returns-clause-by_name
returns-clause-by_name g c = λ alone.
    let other = sym c.has_name.ensures ∙ c.if-has_name.false in
    ap (λ name. is_some name) (name_on-not (parts_of c.args.self) c.args.segment.now other) ∙ sym other
