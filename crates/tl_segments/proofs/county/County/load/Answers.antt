use Rattle.std.proofs.lemmas.Result.{IfErr-weaker}
use Rattle.tl_segments.specs.County.{in_rt1}
use Rattle.tl_segments.proofs.county.County.load.Goals as goal

pub returns-clause-err : goal.returns-clause-err
returns-clause-err g c =
    let index = c.in_ok-index.ensures.ok in
    IfErr-weaker c.read_segments.result _ _ (λ fault. in_rt1 index.lines index.reads) c.read_segments.ensures.err
