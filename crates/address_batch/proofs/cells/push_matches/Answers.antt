use Rattle.std.proofs.Common.{◌++◌, ℕ, List, map, ap, sym, ◌∙◌, arith}
use Rattle.std.specs.List.{flat_map}
use Rattle.std.proofs.lemmas.List.{take_all}
use Rattle.std.proofs.lemmas.List.Folds.{flat_map-map}
use Rattle.address_batch.specs.LookupResult.{status_of}
use Rattle.address_batch.specs.Lines.{line, match_cells}
use Rattle.address_batch.proofs.CellLemmas.{flat_map-next}
use Rattle.geocode.specs.Matches.{MatchParts, match_of}
use Rattle.geocode.specs.declared.matching.Match.{Match}
use Rattle.address_batch.proofs.cells.push_matches.Goals as goal

pub loop-one-preserved : goal.loop-one-preserved
loop-one-preserved c =
    let found = c.args.found.now in
    let codes : List (List ℕ) = map (λ code. code.now) c.args.codes.now in
    let status = status_of (map match_of found) in
    let line_of : Match → List ℕ = λ one. line (match_cells c.args.id.now status codes (match_of one)) in
    let now = c.loop-one.lines in
    rw c.status_of-status.ensures at c.in_ok-push_match.ensures ∙ ap (λ one. now ++ line_of one) c.one-item.is
    ∙ flat_map-next line_of c.args.lines.now now found c.loop-one.one-index c.one-item.result c.loop-one-test.true c.loop-one.invariant

pub returns : goal.returns
returns c =
    let found = c.args.found.now in
    let codes : List (List ℕ) = map (λ code. code.now) c.args.codes.now in
    let line_of : MatchParts → List ℕ = λ one. line (match_cells c.args.id.now (status_of (map match_of found)) codes one) in
    let start = c.args.lines.now in
    let all = take_all c.loop-one.one-index found (omega (arith, c.loop-one-test.false)) in
    c.loop-one.invariant ∙ ap (λ (found : List Match). start ++ flat_map (λ one. line_of (match_of one)) found) all
    ∙ ap (λ lines. start ++ lines) (sym (flat_map-map line_of match_of found))
