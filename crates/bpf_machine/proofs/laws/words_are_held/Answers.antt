use Rattle.bpf_machine.proofs.WordWalk.{walk_held}
use Rattle.bpf_machine.proofs.laws.words_are_held.Goals as goal

pub returns : goal.returns
returns c = λ code segment state areas words insn next at target is whole bytes fits points holds same jumps.
    walk_held code segment state words holds next at target same areas insn is whole bytes fits points jumps
