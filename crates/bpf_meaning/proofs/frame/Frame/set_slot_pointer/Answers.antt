use Rattle.std.proofs.Common.{◌+◌, ◌-◌, ◌*◌, Bool, arith}
use Rattle.bpf_insn.specs.declared.memory.TheConstants.{SLOT_LENGTH}
use Rattle.bpf_meaning.proofs.MemoryLemmas.{pointer_unwrites}
use Rattle.bpf_meaning.proofs.frame.Frame.set_slot_pointer.Goals as goal

pub returns : goal.returns
returns c =
    pointer_unwrites c.self.inside.marks c.self.inside.bytes (omega arith) c.args.slot
    (SLOT_LENGTH * c.args.slot + SLOT_LENGTH - SLOT_LENGTH * c.args.slot)
    c.args.pointer (omega arith) (omega arith) c.self.view_is (c.fill.ensures.after (λ (y : Bool) e. e))
