use Rattle.std.proofs.Common.{arith, rules}
use Rattle.tl_segments.specs.Range.{AreBytes}
use Rattle.tl_segments.proofs.SegmentLemmas.{own_full_name_fields}
use Rattle.tl_segments.proofs.full_name.own_full_name.Goals as goal

pub returns-clause-value : goal.returns-clause-value
returns-clause-value c = search rules

pub returns-clause-fields : goal.returns-clause-fields
returns-clause-fields c =
    let line : AreBytes 228 c.args.line.now = record { length = c.requires; bytes = λ i. omega (arith, c.type_inv.line i) } in
    rw (returns-clause-value c) (own_full_name_fields c.args.line.now line)
