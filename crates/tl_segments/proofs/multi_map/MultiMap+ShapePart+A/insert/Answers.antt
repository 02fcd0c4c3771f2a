use Rattle.std.proofs.Common.{arith, rules}
use Rattle.std.proofs.lemmas.Grind.{common_steps}
use Rattle.std.specs.BTreeMap.{get}
use Rattle.std.specs.Ordering.{nat_cmp}
use Rattle.tl_segments.proofs.TableLemmas.{inserted_at}
use Rattle.tl_segments.proofs.multi_map.MultiMap+ShapePart+A.insert.Goals as goal

pub returns : goal.returns
returns g c = record {
  room = grind (arith, common_steps);
  place = c.in-Some.place;
  is_place = search rules;
  lists = λ q. inserted_at c.args.self.now (get nat_cmp c.self-3-1.given.0 q) c.args.number c.in-Some.place c.args.part c.insert.new.self q (search rules)
      (grind (arith, common_steps));
}
