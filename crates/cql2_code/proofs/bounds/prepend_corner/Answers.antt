use Rattle.std.proofs.Common.{Bool, ◌++◌, if◌then◌else◌, sym, ◌∙◌, subst}
use Rattle.cql2_code.specs.Layout.{IsPrepended}
use Rattle.cql2_code.specs.ShapeCode.{point_across, rounded_across, whole_point}
use Rattle.cql2_code.proofs.bounds.prepend_corner.Goals as goal

pub returns : goal.returns
returns g c =
    let corner = c.args.corner in
    subst (λ (whole : Bool). IsPrepended c.prepend_rounded.result
    ((if whole then point_across (whole_point corner) else rounded_across c.args.rounding corner) ++ c.args.code.now) c.prepend_rounded.new.code)
    (sym (sym c.is_whole.ensures ∙ c.if-is_whole.false)) c.prepend_rounded.ensures
