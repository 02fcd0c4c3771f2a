use Rattle.std.proofs.Common.{◌∙◌, ap, arith, refl, sym}
use Rattle.metrics.specs.Counters.{row_of}
use Rattle.metrics.proofs.CountLemmas.{row_by_tag, row_within}
use Rattle.std.specs.Prelude.{Some}
use Rattle.metrics.proofs.counters.row_of.Goals as goal

pub returns-in-Some : goal.returns-in-Some
returns-in-Some c =
    let value = row_by_tag c.in-Some.route in
    record { value = value ∙ ap row_of (sym c.in-Some.is); within = rw value (row_within (Some c.in-Some.route)) }

pub returns-in-None : goal.returns-in-None
unfolding row_of
returns-in-None c = record { value = rw c.in-None.is refl; within = omega arith }
