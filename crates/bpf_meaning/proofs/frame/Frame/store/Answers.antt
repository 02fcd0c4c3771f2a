use Rattle.std.proofs.Common.{◌+◌, ◌-◌, Bool, None, take, ap, ◌∙◌, arith}
use Rattle.bpf_insn.specs.Frame.{FrameContents, overwrite_slots}
use Rattle.bpf_meaning.proofs.MemoryLemmas.{store_writes}
use Rattle.bpf_meaning.proofs.frame.Frame.store.Goals as goal

pub returns : goal.returns
returns c =
    let marks = c.fill.ensures.after (λ (y : Bool) e. e) in
    c.clear_slots.ensures
    ∙ ap (λ (frame : FrameContents). let new : FrameContents = record frame
    { slots = overwrite_slots None frame.slots c.args.at c.args.count } in new)
    (store_writes c.self.inside.marks c.self.inside.bytes (omega arith) c.args.at c.args.count (c.args.at + c.args.count - c.args.at)
    (omega arith) (omega arith) c.requires.count c.args.number c.self.view_is
    (c.copy_from_slice.ensures.after ∙ ap (take c.args.count) c.to_le_bytes-bytes.ensures) marks)
