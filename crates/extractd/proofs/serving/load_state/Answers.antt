-- There is one county per code, so there are no more than a state takes.
use Rattle.std.proofs.Common.{◌≤◌, ◌∙◌, subst, sym}
use Rattle.std.proofs.lemmas.List.{length-map}
use Rattle.std.proofs.lemmas.Slice.Zip.{AllZip-long}
use Rattle.extractd.proofs.serving.load_state.Goals as goal

pub with_codes-requires : goal.with_codes-requires
with_codes-requires g c =
    let counted = AllZip-long _ _ _ c.in-Ok.ensures.ok ∙ length-map _ _ ∙ c.as_slice.ensures.len in
    subst (λ n. n ≤ 100000) (sym counted) c.args.options.now.few
