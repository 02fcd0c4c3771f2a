use Rattle.std.proofs.Common.{◌≡◌}
use Rattle.bpf_kinds.specs.Narrowing.{refine}
use Rattle.bpf_kinds.proofs.NarrowingLaws.{refined-still_admits, refined-within, refined-proper}
use Rattle.bpf_kinds.proofs.narrowing.refine.Goals as goal

value : (c : goal.After-refine_by) → c.refine_by.result ≡ refine c.args.condition c.args.width c.args.x c.args.y c.args.taken
value c = rw c.relation_of.ensures at c.refine_by.ensures

pub returns-clause-keeps : goal.returns-clause-keeps
returns-clause-keeps c = refined-still_admits c.args.condition c.args.width (value c)

pub returns-clause-within : goal.returns-clause-within
returns-clause-within c = refined-within c.args.condition c.args.width c.args.x c.args.y c.args.taken c.refine_by.result (value c)

pub returns-clause-proper : goal.returns-clause-proper
returns-clause-proper c = refined-proper c.args.condition c.args.width c.args.taken (value c)
