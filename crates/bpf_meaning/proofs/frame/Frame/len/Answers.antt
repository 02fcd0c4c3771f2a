use Rattle.std.proofs.Common.{ℕ, List, length, sym, ap, ◌∙◌, arith}
use Rattle.bpf_insn.specs.Frame.{FrameContents}
use Rattle.bpf_meaning.proofs.MemoryLemmas.{length-frame_bytes}
use Rattle.bpf_meaning.proofs.frame.Frame.len.Goals as goal

pub returns-clause-value : goal.returns-clause-value
returns-clause-value c =
    ap (λ (bytes : List ℕ). length bytes) c.as_slice.ensures ∙ sym
    (length-frame_bytes c.self.inside.marks c.self.inside.bytes (omega arith))
    ∙ ap (λ (frame : FrameContents). length frame.bytes) c.self.view_is
