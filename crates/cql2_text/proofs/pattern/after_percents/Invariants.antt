use Rattle.std.proofs.Common.{◌≡◌, ◌≤◌, length}
use Rattle.cql2_text.specs.Pattern.{after_percents}
use Rattle.cql2_text.proofs.pattern.after_percents.Given as goal

abbrev pub invariant-loop-rest : goal.invariant-loop-rest
invariant-loop-rest l = record { value : after_percents l.rest ≡ after_percents l.fn.text; no_longer : length l.rest ≤ length l.fn.text }

abbrev pub decreases-loop-rest : goal.decreases-loop-rest
decreases-loop-rest l = length l.rest
