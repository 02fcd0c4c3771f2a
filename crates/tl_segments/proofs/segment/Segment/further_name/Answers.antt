use Rattle.std.proofs.Common.{◌≡◌, None, Some, rules, slice_get}
use Rattle.tl_segments.proofs.FullNameLemmas.{fename_at, full_name_at}
use Rattle.tl_segments.proofs.segment.Segment.further_name.Goals as goal

pub returns-in_err-name-clause-value : goal.returns-in_err-name-clause-value
returns-in_err-name-clause-value g c =
    let none : None ≡ slice_get c.args.self.now.names c.args.index =
    fename_at c.in_err-name.ensures.whole c.args.index None c.in_err-name.ensures.value in
    search rules

pub returns-clause-value : goal.returns-clause-value
returns-clause-value g c =
    let some : Some c.in_ok-name.name.now.fename ≡ slice_get c.args.self.now.names c.args.index =
    fename_at c.in_ok-name.ensures.whole c.args.index (Some c.in_ok-name.name.now) c.in_ok-name.ensures.value in
    rw c.fename.ensures some

pub returns-clause-bytes : goal.returns-clause-bytes
returns-clause-bytes g c =
    let is = full_name_at c.in_ok-name.ensures.whole c.args.index (Some c.in_ok-name.name.now) c.in_ok-name.ensures.value in
    rw c.fename.ensures is.fename
