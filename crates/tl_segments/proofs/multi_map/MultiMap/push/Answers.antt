use Rattle.std.proofs.Common.{arith, rules}
use Rattle.std.proofs.lemmas.Grind.{common_steps}
use Rattle.std.specs.BTreeMap.{get}
use Rattle.std.specs.Ordering.{nat_cmp}
use Rattle.tl_segments.proofs.TableLemmas.{added_at}
use Rattle.tl_segments.proofs.multi_map.MultiMap.push.Goals as goal

pub returns : goal.returns
returns g c = record {
  room = grind (arith, common_steps);
  lists = λ q. added_at c.args.self.now (get nat_cmp c.self-3-1.given.0 q) c.args.number c.args.value c.push.new.self q (search rules)
      (grind (arith, common_steps));
}
