use Rattle.std.proofs.Common.{◌≡◌, None, Some, ap, rules, slice_get, ◌∙◌}
use Rattle.tl_segments.specs.FullName.{FullNameFields}
use Rattle.tl_segments.proofs.FullNameLemmas.{fename_at, full_name_at}
use Rattle.tl_segments.proofs.segment.Segment.further_full_name.Goals as goal

pub returns-in_err-name-clause-name : goal.returns-in_err-name-clause-name
returns-in_err-name-clause-name g c =
    let none : None ≡ slice_get c.args.self.now.names c.args.index =
    fename_at c.in_err-name.ensures.whole c.args.index None c.in_err-name.ensures.value in
    search rules

pub returns-clause-name : goal.returns-clause-name
returns-clause-name g c =
    ap (λ (name : FullNameFields). Some name.fename) c.as_full_name.ensures.value
    ∙ fename_at c.in_ok-name.ensures.whole c.args.index (Some c.in_ok-name.name.now) c.in_ok-name.ensures.value

pub returns-clause-fields : goal.returns-clause-fields
returns-clause-fields g c =
    rw c.as_full_name.ensures.value
    (full_name_at c.in_ok-name.ensures.whole c.args.index (Some c.in_ok-name.name.now) c.in_ok-name.ensures.value)
