use Rattle.tl_segments.specs.Joining.{further_range}
use Rattle.tl_segments.specs.declared.fault.CountyFile.TheVariants.{Rt6}
use Rattle.tl_segments.proofs.JoiningLemmas.{Follows, list_added}
use Rattle.tl_segments.proofs.index_tables.MultiMapRangeFieldsTable.add.Goals as goal

pub returns : goal.returns
returns g c = λ lines holds valid.
    let follows : Follows Rt6 lines c.args.rt6.now.bytes c.number.result =
    record { numbered = c.number.ensures.value; within = valid.within; limited = λ lines few. few; distinct = λ lines. tt } in
    list_added follows further_range c.args.self.now c.push.new.self holds _ (rw c.further_range.ensures at c.push.ensures)
