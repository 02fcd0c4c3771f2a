use Rattle.std.proofs.Common.{◌≤◌, [], length, subst, arith}
use Rattle.std.specs.List.{flat_map}
use Rattle.std.proofs.lemmas.List.Folds.{length-flat_map-take}
use Rattle.std.proofs.lemmas.Result.{err_from_is_err_and}
use Rattle.tl_segments.specs.TableContents.{names_among}
use Rattle.tl_segments.proofs.index.Index.push_names.Goals as goal

pub returns-in_err-push_names_among-clause-some : goal.returns-in_err-push_names_among-clause-some
returns-in_err-push_names_among-clause-some g c =
    let names = names_among c.args.self.now.names in
    let returned = err_from_is_err_and c.from_residual.result c.from_residual.ensures.1 in
    let all = length-flat_map-take names c.list-lines.result.now c.loop-features.features-index [] (omega arith) in
    let some = c.in_err-push_names_among.ensures.some in
    let found : 1 ≤ length (flat_map names c.list-lines.result.now) = omega (arith, all, some) in
    rw returned.1 (subst (λ lines. 1 ≤ length (flat_map names lines)) c.list-lines.ensures.value found)
