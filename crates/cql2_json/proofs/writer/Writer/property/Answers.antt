use Rattle.cql2_json.specs.Translation.{property_text}
use Rattle.json.specs.Value.{value_view}
use Rattle.cql2_json.proofs.WriterLemmas.{Inside, writes-inside}
use Rattle.cql2_json.proofs.writer.Writer.property.Goals as goal

pub returns : goal.returns
returns g c =
    let inside : Inside c.args.self.now c.leave.new.self _ = record {
      entered = c.enter.new.self;
      new = c.name.new.self;
      path_entered = c.in_ok-enter.ensures.ok;
      text_entered = c.in_ok-enter.ensures.text;
      path_left = c.leave.ensures.path;
      text_left = c.leave.ensures.text;
    } in
    writes-inside _ _ _ (property_text (value_view c.args.name.now)) inside c.in_ok-name.ensures
