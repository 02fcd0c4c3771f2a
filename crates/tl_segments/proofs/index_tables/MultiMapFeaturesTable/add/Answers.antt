use Rattle.tl_segments.specs.TableContents.{feature_numbers}
use Rattle.tl_segments.specs.declared.fault.CountyFile.TheVariants.{Rt4}
use Rattle.tl_segments.proofs.JoiningLemmas.{Follows, list_added}
use Rattle.tl_segments.proofs.index_tables.MultiMapFeaturesTable.add.Goals as goal

pub returns : goal.returns
returns g c = λ lines holds valid.
    let follows : Follows Rt4 lines c.args.rt4.now.bytes c.number.result =
    record { numbered = c.number.ensures.value; within = valid.within; limited = λ lines few. few; distinct = λ lines. tt } in
    list_added follows feature_numbers c.args.self.now c.push.new.self holds _
    (rw c.feature_numbers.ensures at c.push.ensures)
