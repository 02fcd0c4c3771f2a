use Rattle.bpf_insn.proofs.SlotLemmas.{slot_at-exact}
use Rattle.bpf_insn.proofs.laws.slots_are_whole.Goals as goal

pub returns : goal.returns
returns c = slot_at-exact
