use Rattle.std.proofs.Common.{◌≡◌, take}
use Rattle.cql2_json.specs.Pointer.{pointer_text}
use Rattle.cql2_json.proofs.pointer.pointer.Given as goal

abbrev pub invariant-loop-step : goal.invariant-loop-step
invariant-loop-step g l = l.text.items ≡ pointer_text (take l.step-index l.steps)
