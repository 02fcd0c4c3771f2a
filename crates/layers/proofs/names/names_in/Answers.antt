use Rattle.std.proofs.Common.{lit<, map, ap, ◌∙◌, Bor, List, ℕ}
use Rattle.std.proofs.lemmas.Iterator.Consumers.{YieldsList-end}
use Rattle.std.proofs.lemmas.Iterator.Splits.{YieldsList-from_str_split}
use Rattle.layers.proofs.names.names_in.Goals as goal

pub returns : goal.returns
returns g c =
    let split = c.split-name-items.ensures in
    let names = YieldsList-from_str_split {s = c.split-name-items.result} 44 c.args.text.now (lit< tt) split.text split.has_more split.pattern in
    let all = rw (← c.into_iter-name-iterator.ensures.into_iter_gives) at names in
    let end = YieldsList-end all c.loop-name.yielded _ c.loop-name.yielded_by _ _ c.in-None.is c.next.ensures.steps in
    ap (map (λ (name : Bor (List ℕ)). name.now)) c.loop-name.invariant ∙ end.0
