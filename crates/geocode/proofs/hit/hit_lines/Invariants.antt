use Rattle.std.proofs.Common.{◌≡◌, take}
use Rattle.geocode.specs.HitLine.{hit_lines}
use Rattle.geocode.proofs.hit.hit_lines.Given as goal

-- the lines of the hits so far
abbrev pub invariant-loop-hit : goal.invariant-loop-hit
invariant-loop-hit g l = l.text.items ≡ hit_lines (take l.hit-index l.hits)
