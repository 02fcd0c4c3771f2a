use Rattle.std.proofs.Common.{[], ap, ◌∙◌, rules}
use Rattle.geocode.specs.Hits.{find}
use Rattle.geocode.proofs.gazetteer.Gazetteer.find.Goals as goal

pub returns : goal.returns
returns g c =
    let counties = c.args.counties.now in
    c.in_ok-push_found.ensures.matches [] (search rules) ∙ c.in_ok-push_found.ensures.hits c.by_name-search.ensures.alone
    ∙ ap (λ name. find name c.by_name-search.result.house counties) c.by_name-search.ensures.name
    ∙ ap (λ house. find c.args.name.now house counties) c.by_name-search.ensures.house
