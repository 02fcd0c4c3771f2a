use Rattle.std.proofs.Common.{◌≡◌, arith}
use Rattle.std.proofs.lemmas.Bool.Decides.{nat_tests}
use Rattle.geocode.proofs.NameIndexLemmas.{AddsNames-one}
use Rattle.geocode.proofs.name_index.NameIndex.add_segment.Goals as goal

pub returns-then-self-eq1 : goal.returns-then-self-eq1
returns-then-self-eq1 g c =
    let one : c.args.self.now.keys ≡ 1 = grind (arith, nat_tests) in
    AddsNames-one c.args.self.now c.add.new.self c.args.n c.args.span _ _ _ one c.in_ok-add.ensures
