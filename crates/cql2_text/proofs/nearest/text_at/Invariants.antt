use Rattle.std.proofs.Common.{◌≤◌, length}
use Rattle.cql2_text.specs.declared.reader.TheConstants.{MAX_TEXT_LENGTH}
use Rattle.cql2_text.proofs.PlaceLemmas.{HasPassed}
use Rattle.cql2_text.proofs.nearest.text_at.Given as goal

abbrev pub invariant-loop-index : goal.invariant-loop-index
invariant-loop-index l = length l.text ≤ MAX_TEXT_LENGTH → HasPassed l.text l.index l.at.0 l.at.1 l.place.0 l.place.1
