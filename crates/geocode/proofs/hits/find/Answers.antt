use Rattle.std.proofs.Common.{◌≡◌, ◌≤◌, length, map, take, ap, sym, ◌∙◌, refl, rules, arith}
use Rattle.std.proofs.lemmas.List.{take_all}
use Rattle.geocode.specs.Hits.{find}
use Rattle.geocode.specs.Matches.{MatchParts, matches}
use Rattle.geocode.specs.Street.{parts_of}
use Rattle.geocode.proofs.MatchLemmas.{hits-agree-next, matches_from-next}
use Rattle.geocode.proofs.hits.find.Goals as goal

pub loop-index-init : goal.loop-index-init
loop-index-init g c = (search rules, λ alone. refl)

pub push_in_county-requires : goal.push_in_county-requires
push_in_county-requires g c κs = ((refl, (refl, tt)), c.of.ensures c.by_name-search.result.street.name.text.now)

pub loop-index-preserved : goal.loop-index-preserved
loop-index-preserved g c =
    let street = parts_of c.by_name-search.result.street in
    let house = c.by_name-search.result.house in
    let n = c.loop-index.index in
    let counties = c.args.counties.now in
    let county = c.index-counties-index.result in
    let before = c.loop-index.invariant in (
      c.in_ok-push_in_county.ensures.matches (matches street house (take n counties)) before.0
          ∙ ap (map (λ (found : MatchParts). found.hit))
          (sym (matches_from-next street house counties n county (c.loop-index-test.true, c.index-counties-index.is))),
      hits-agree-next street house counties n county (c.loop-index-test.true, c.index-counties-index.is) c.in_ok-push_in_county.ensures.hits
          before.1,
    )

pub returns : goal.returns
returns g c =
    let street = parts_of c.by_name-search.result.street in
    let house = c.by_name-search.result.house in
    let counties = c.args.counties.now in
    c.loop-index.invariant.0 ∙ c.loop-index.invariant.1 c.by_name-search.ensures.alone
    ∙ ap (find street.name house) (take_all c.loop-index.index counties (omega (arith, c.loop-index-test.false)))
    ∙ ap (λ name. find name house counties) c.by_name-search.ensures.name
    ∙ ap (λ house. find c.args.name.now house counties) c.by_name-search.ensures.house
