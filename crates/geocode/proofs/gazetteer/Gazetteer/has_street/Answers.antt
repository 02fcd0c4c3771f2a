use Rattle.std.proofs.Common.{◌<◌, length, Some, ap, sym, ◌∙◌, arith}
use Rattle.std.specs.List.{list_any}
use Rattle.std.proofs.lemmas.Option.{slice_get-get_or}
use Rattle.tl_segments.specs.County.{CountyParts}
use Rattle.geocode.specs.Street.{is_on_street, parts_of}
use Rattle.geocode.proofs.GazetteerLemmas.{AreIndexesOf-long, IsIndexOf-at}
use Rattle.geocode.proofs.HitLemmas.{list_any-at, list_any-next}
use Rattle.geocode.proofs.gazetteer.Gazetteer.has_street.Goals as goal

pub index-requires : goal.index-requires
index-requires g c =
    omega (arith, c.loop-n-test.true, AreIndexesOf-long c.args.self.now.indexes.items c.args.counties.now c.requires.of)

pub has_street-requires : goal.has_street-requires
has_street-requires g c =
    let inside : c.loop-n.n < length c.args.counties.now = omega (arith, c.loop-n-test.true) in
    c.candidates.ensures c.index-counties-n.result.segments c.args.street.name.text.now
    (IsIndexOf-at c.args.self.now.indexes.items c.args.counties.now c.loop-n.n c.index.result.now c.index-counties-n.result
    c.requires.of (inside, c.index-counties-n.is) c.index.ensures) c.hash_of-hash.ensures

pub returns-then-has_street : goal.returns-then-has_street
returns-then-has_street g c =
    let counties = c.args.counties.now in
    let n = c.loop-n.n in
    let county = c.index-counties-n.result in
    let inside : n < length counties = omega (arith, c.loop-n-test.true) in
    sym (list_any-at (λ (county : CountyParts). list_any (is_on_street (parts_of c.args.street)) county.segments) counties n county
    (ap (λ (county : CountyParts). Some county) c.index-counties-n.is ∙ sym (slice_get-get_or counties n county inside))
    (sym c.if-has_street.true ∙ c.has_street.ensures))

pub loop-n-preserved : goal.loop-n-preserved
loop-n-preserved g c =
    let counties = c.args.counties.now in
    let n = c.loop-n.n in
    let county = c.index-counties-n.result in
    let inside : n < length counties = omega (arith, c.loop-n-test.true) in
    list_any-next (λ (county : CountyParts). list_any (is_on_street (parts_of c.args.street)) county.segments) counties n county
    (ap (λ (county : CountyParts). Some county) c.index-counties-n.is ∙ sym (slice_get-get_or counties n county inside))
    (sym c.if-has_street.false ∙ c.has_street.ensures) c.loop-n.invariant
