use Rattle.std.proofs.Common.{◌≡◌, List, true, length}
use Rattle.cql2.specs.Pattern.{are_bytes}
use Rattle.cql2.specs.declared.pattern.PatternPart.{PatternPart}
use Rattle.cql2_text.specs.Pattern.{IsPattern}
use Rattle.cql2_text.proofs.PatternLemmas.{Continues, MoreParts}
use Rattle.cql2_text.proofs.pattern.pattern.Given as goal

abbrev pub invariant-loop-rest : goal.invariant-loop-rest
invariant-loop-rest g l = record {
  reads : Continues l.folding l.spelling l.parts.items l.rest;
  bytes : are_bytes l.parts.items ≡ true;
  more : (parts : List PatternPart) → IsPattern l.folding l.spelling parts → MoreParts l.folding l.parts.items l.rest parts;
}

abbrev pub decreases-loop-rest : goal.decreases-loop-rest
decreases-loop-rest g l = length l.rest
