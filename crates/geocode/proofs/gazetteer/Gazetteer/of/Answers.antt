use Rattle.std.proofs.Common.{◌+◌, ◌<◌, length, take, sym, subst, arith}
use Rattle.geocode.specs.Gazetteer.{AreIndexesOf}
use Rattle.geocode.specs.NameIndex.{IsIndexOf}
use Rattle.geocode.proofs.GazetteerLemmas.{AreIndexesOf-next}
use Rattle.geocode.proofs.gazetteer.Gazetteer.of.Goals as goal

pub loop-county-preserved : goal.loop-county-preserved
loop-county-preserved g c =
    let counties = c.args.counties.now in
    let n = c.loop-county.county-index in
    let inside : n < length counties = omega (arith, c.loop-county-test.true) in
    let is : IsIndexOf c.in_ok-of.field-0 c.county-item.result.segments =
    subst (IsIndexOf c.in_ok-of.field-0) c.segments.ensures.value c.in_ok-of.ensures in
    subst (λ indexes. AreIndexesOf indexes (take (n + 1) counties)) (sym c.in_ok-push.ensures.items)
    (AreIndexesOf-next c.loop-county.indexes.items counties n c.in_ok-of.field-0 c.county-item.result
    (inside, c.county-item.is) c.loop-county.invariant is)
