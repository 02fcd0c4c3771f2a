use Rattle.tl_segments.proofs.JoiningLemmas.{names-push}
use Rattle.tl_segments.proofs.index_tables.FeatureNamesTable.add.Goals as goal

pub returns : goal.returns
returns g c = λ lines holds valid.
    let named = rw c.full_name.ensures.value at c.in_ok-set.ensures.ok in
    (tt, tt, names-push c.args.self.now c.set.new.self lines c.args.rt5.now.bytes c.number.result c.number.ensures.value holds named)
