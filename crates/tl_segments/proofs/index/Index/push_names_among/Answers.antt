use Rattle.std.proofs.Common.{◌<◌, [], ◌∷◌, length, take, Some, None, ◌∙◌, ap, sym, arith}
use Rattle.std.specs.Option.{option_and_then}
use Rattle.std.proofs.lemmas.Grind.{common_steps}
use Rattle.std.proofs.lemmas.Result.{err_from_is_err_and}
use Rattle.tl_segments.specs.FullName.{with_names}
use Rattle.tl_segments.specs.TableContents.{name_at, names_among}
use Rattle.tl_segments.proofs.FullNameLemmas.{with_names-none}
use Rattle.tl_segments.proofs.TableLemmas.{filter_map-more, filter_map-some, names-more}
use Rattle.tl_segments.proofs.index.Index.push_names_among.Goals as goal
use Rattle.tl_segments.proofs.index.Index.push_names_among.Goals.{in-Some+in_ok-push_full_name, in_default}

pub loop-feat-preserved : goal.loop-feat-preserved
loop-feat-preserved g c =
    let table = c.args.self.now.names in
    let feats = c.args.features.now in
    let i = c.loop-feat.feat-index in
    let start = c.args.segment.now in
    let now = c.loop-feat.segment in
    let inside : i < length feats = omega arith in
    let names = names_among table (take i feats) in
    elim c.match-name.branch [
      | in-Some+in_ok-push_full_name w ↦ (
          let more = filter_map-more (option_and_then (name_at table)) feats i None (Some w.in-Some.name.now) inside w.in-Some.ensures in
          record {
            names = names-more start names (w.in-Some.name.now ∷ []) c.loop-feat.invariant.names
                (w.segment-is ∙ w.in_ok-push_full_name.ensures.ok
                ∙ ap (λ name. with_names now (name ∷ [])) w.as_full_name.ensures.value) more;
            few = grind (arith, common_steps);
          })
      | in_default w ↦ (
          let more = filter_map-more (option_and_then (name_at table)) feats i None None inside w.in_default.ensures in
          record {
            names = names-more start names [] c.loop-feat.invariant.names
                (w.segment-is ∙ sym (with_names-none now)) more;
            few = grind (arith, common_steps);
          })
    ]

pub returns-in_err-push_full_name-clause-some : goal.returns-in_err-push_full_name-clause-some
returns-in_err-push_full_name-clause-some g c =
    let returned = err_from_is_err_and c.from_residual.result c.from_residual.ensures.1 in
    rw returned.1 (filter_map-some (option_and_then (name_at c.args.self.now.names)) c.args.features.now c.loop-feat.feat-index None
    c.in-Some.name.now (omega arith) c.in-Some.ensures)
