use Rattle.std.proofs.Common.{arith}
use Rattle.bpf_kinds.proofs.ListLemmas.{is_join_kinds}
use Rattle.bpf_frame.proofs.frame_map.join_each.Goals as goal

pub returns : goal.returns
returns c =
    is_join_kinds c.args.kinds.now c.args.others.now c.loop-slot.kinds 64 (omega arith) (omega arith) c.loop-slot.invariant.count
    (λ slot below. c.loop-slot.invariant.joined slot (omega arith))
