use Rattle.std.proofs.Common.{◌≡◌}
use Rattle.form_urlencoded.specs.Parse.{raw_pairs_left}
use Rattle.wire.specs.Query.{unknown_in, unknown_key}
use Rattle.wire.proofs.query.unknown_key.Given as goal

abbrev pub invariant-loop-key : goal.invariant-loop-key
invariant-loop-key g l = unknown_key l.fn.parameters l.fn.query ≡ unknown_in l.fn.parameters (raw_pairs_left l.key-iterator)
