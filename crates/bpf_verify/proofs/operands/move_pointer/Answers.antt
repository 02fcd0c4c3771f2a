use Rattle.bpf_meaning.specs.declared.cause.Cause.TheVariants.{PointerArithmetic, LeavesArea}
use Rattle.bpf_verify.proofs.MoveLemmas.{distances_are_proper, moved_are_proper}
use Rattle.bpf_verify.proofs.operands.move_pointer.Goals as goal

pub returns-clause-proper : goal.returns-clause-proper
returns-clause-proper c =
    let distances = c.in_ok-distances.distances in
    let near = distances_are_proper PointerArithmetic c.requires.number c.near_distances.ensures.value c.ok_or.ensures.value
    c.in_ok-distances.was in
    moved_are_proper LeavesArea c.requires.offsets near c.move_by.ensures.value c.ok_or-2.ensures.value
