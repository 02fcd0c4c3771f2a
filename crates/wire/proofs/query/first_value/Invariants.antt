use Rattle.std.proofs.Common.{◌≡◌}
use Rattle.form_urlencoded.specs.Parse.{raw_pairs_left}
use Rattle.wire.specs.Query.{first_value, value_in}
use Rattle.wire.proofs.query.first_value.Given as goal

abbrev pub invariant-loop-name : goal.invariant-loop-name
invariant-loop-name g l = first_value l.fn.key l.fn.query ≡ value_in l.fn.key (raw_pairs_left l.name-iterator)
