use Rattle.std.proofs.Common.{Bool, ap, sym, ◌∙◌}
use Rattle.std.proofs.lemmas.List.Folds.{list_all_at, list_all-map}
use Rattle.address_batch.specs.LookupResult.{is_at}
use Rattle.geocode.specs.Matches.{MatchParts, match_of}
use Rattle.geocode.specs.declared.matching.Match.{Match}
use Rattle.address_batch.proofs.lookup.are_all_at.Goals as goal

pub returns-then-not-is_at : goal.returns-then-not-is_at
returns-then-not-is_at c =
    let test : MatchParts → Bool = λ other. is_at c.args.place other.hit.place in
    let found = c.args.found.now in
    sym (list_all-map test match_of found
    ∙ list_all_at (λ (other : Match). test (match_of other)) found c.loop-other.other-index c.other-item.result c.loop-other-test.true
    (ap (λ (other : Match). test (match_of other)) (sym c.other-item.is) ∙ sym c.is_at.ensures ∙ c.if-not-is_at.true))
