use Rattle.std.proofs.Common.{◌≡◌, ◌++◌, map, take}
use Rattle.std.specs.List.{flat_map}
use Rattle.address_batch.specs.LookupResult.{status_of}
use Rattle.address_batch.specs.Lines.{line, match_cells}
use Rattle.geocode.specs.Matches.{match_of}
use Rattle.address_batch.proofs.cells.push_matches.Given as goal

abbrev pub invariant-loop-one : goal.invariant-loop-one
invariant-loop-one l = l.lines ≡ l.initial.lines
    ++ flat_map (λ one. line (match_cells l.id (status_of (map match_of l.found)) (map (λ code. code.now) l.codes) (match_of one)))
    (take l.one-index l.found)
