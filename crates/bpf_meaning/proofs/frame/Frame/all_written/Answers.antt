use Rattle.std.proofs.Common.{◌+◌, ◌-◌, refl, ap, ◌∙◌, arith}
use Rattle.std.specs.Prelude.{not}
use Rattle.bpf_insn.specs.Frame.{FrameContents}
use Rattle.bpf_meaning.proofs.MemoryLemmas.{all_written-marks}
use Rattle.bpf_meaning.proofs.frame.Frame.all_written.Goals as goal

pub returns : goal.returns
returns c =
    let same = ap (λ (frame : FrameContents). frame.bytes) c.self.view_is in
    ap not c.contains.ensures.value
    ∙ all_written-marks c.self.inside.marks c.self.inside.bytes (omega arith) same c.args.at c.args.count
    (c.args.at + c.args.count - c.args.at)
    (omega arith) _ refl refl
