use Rattle.std.proofs.Common.{◌<◌, ◌++◌, length, take, ap, sym, ◌∙◌, subst, append_assoc, refl, arith}
use Rattle.std.proofs.lemmas.List.{append-nil, take_all}
use Rattle.geocode.specs.Matches.{HitsAgree, matches, matches_in_county}
use Rattle.geocode.specs.Street.{parts_of}
use Rattle.geocode.proofs.GazetteerLemmas.{AreIndexesOf-long, IsIndexOf-at}
use Rattle.geocode.proofs.MatchLemmas.{hits-agree-next, matches_from-next}
use Rattle.geocode.proofs.gazetteer.Gazetteer.push_found.Goals as goal

pub loop-n-init : goal.loop-n-init
loop-n-init g c = (
  λ so_far has. subst (g.F.Findings.has c.args.found.now) (sym (append-nil so_far)) has,
  λ alone. refl,
)

pub index-requires : goal.index-requires
index-requires g c =
    omega (arith, c.loop-n-test.true, AreIndexesOf-long c.args.self.now.indexes.items c.args.counties.now c.requires.of)

pub push_in_county-requires : goal.push_in_county-requires
push_in_county-requires g c κs =
    let inside : c.loop-n.n < length c.args.counties.now = omega (arith, c.loop-n-test.true) in (
      (refl, (refl, tt)),
      c.candidates.ensures c.index-counties-n.result.segments c.args.search.street.name.text.now
          (IsIndexOf-at c.args.self.now.indexes.items c.args.counties.now c.loop-n.n c.index.result.now c.index-counties-n.result
          c.requires.of (inside, c.index-counties-n.is) c.index.ensures) c.hash_of-hash.ensures,
    )

pub loop-n-preserved : goal.loop-n-preserved
loop-n-preserved g c =
    let street = parts_of c.args.search.street in
    let house = c.args.search.house in
    let n = c.loop-n.n in
    let counties = c.args.counties.now in
    let county = c.index-counties-n.result in
    let before = c.loop-n.invariant in (
      λ so_far has. subst (g.F.Findings.has c.push_in_county.new.found)
          (append_assoc so_far (matches street house (take n counties)) (matches_in_county street house n county)
          ∙ ap (λ found. so_far ++ found) (sym (matches_from-next street house counties n county (c.loop-n-test.true, c.index-counties-n.is))))
          (c.in_ok-push_in_county.ensures.matches (so_far ++ matches street house (take n counties)) (before.0 so_far has)),
      hits-agree-next street house counties n county (c.loop-n-test.true, c.index-counties-n.is) c.in_ok-push_in_county.ensures.hits before.1,
    )

pub returns-clause-matches : goal.returns-clause-matches
returns-clause-matches g c = λ so_far has.
    let counties = c.args.counties.now in
    subst (λ counties. g.F.Findings.has c.loop-n.found (so_far ++ matches (parts_of c.args.search.street) c.args.search.house counties))
    (take_all c.loop-n.n counties (omega (arith, c.loop-n-test.false))) (c.loop-n.invariant.0 so_far has)

pub returns-clause-hits : goal.returns-clause-hits
returns-clause-hits g c =
    subst (HitsAgree (parts_of c.args.search.street) c.args.search.house)
    (take_all c.loop-n.n c.args.counties.now (omega (arith, c.loop-n-test.false))) c.loop-n.invariant.1
