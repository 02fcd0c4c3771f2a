use Rattle.std.proofs.Common.{◌≡◌, ◌+◌, [], ◌∷◌, ◌++◌, map, take, subst, ap, sym, ◌∙◌, arith}
use Rattle.std.proofs.lemmas.List.{map-append, take_all, take_more}
use Rattle.address_batch.specs.ShapedLookup.{ArePlaced}
use Rattle.address_batch.proofs.ShapedLemmas.{placed-more}
use Rattle.geocode.specs.Matches.{match_of}
use Rattle.address_batch.proofs.shaped.placed_matches.Goals as goal

pub loop-one-preserved : goal.loop-one-preserved
loop-one-preserved g c =
    let found = c.args.found.now in
    let index = c.loop-one.one-index in
    let one = c.one-item.result in
    let further : map match_of (take (index + 1) found) ≡ map match_of (take index found) ++ match_of one ∷ [] =
    ap (λ front. map match_of front) (take_more found index one c.loop-one-test.true ∙ ap (λ next. take index found ++ next ∷ []) (sym c.one-item.is))
    ∙ map-append match_of (take index found) (one ∷ []) in
    let longer : map match_of c.push.new.self.items ≡ map match_of c.loop-one.placed.items ++ match_of c.in_ok-in_place.field-0 ∷ [] =
    ap (λ items. map match_of items) c.in_ok-push.ensures.items ∙ map-append match_of c.loop-one.placed.items (c.in_ok-in_place.field-0 ∷ []) in
    rw (further, longer) (placed-more c.args.number c.args.counties.now _ _ _ _ (c.loop-one.invariant) (c.in_ok-in_place.ensures))

pub returns : goal.returns
returns g c =
    let all = take_all c.loop-one.one-index c.args.found.now (omega (arith, c.loop-one-test.false)) in
    subst (λ found. ArePlaced c.args.number c.args.counties.now (map match_of found) (map match_of c.loop-one.placed.items)) all (c.loop-one.invariant)
