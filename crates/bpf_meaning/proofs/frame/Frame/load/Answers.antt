use Rattle.std.proofs.Common.{◌+◌, ◌-◌, refl, sym, ap, ◌∙◌, arith}
use Rattle.bpf_insn.specs.Frame.{FrameContents}
use Rattle.bpf_meaning.proofs.MemoryLemmas.{unwritten_is_none, written_is_number}
use Rattle.bpf_meaning.proofs.frame.Frame.load.Goals as goal

pub returns-then-contains : goal.returns-then-contains
returns-then-contains c =
    let any = sym c.contains.ensures.value ∙ c.if-contains.true in
    let same = ap (λ (frame : FrameContents). frame.bytes) c.self.view_is in
    sym (unwritten_is_none c.self.inside.marks c.self.inside.bytes (omega arith) same c.args.at c.args.count
    (c.args.at + c.args.count - c.args.at)
    (omega arith) _ refl any)

pub returns : goal.returns
returns c =
    let any = sym c.contains.ensures.value ∙ c.if-contains.false in
    let same = ap (λ (frame : FrameContents). frame.bytes) c.self.view_is in
    c.little_endian.ensures
    ∙ sym (written_is_number c.self.inside.marks c.self.inside.bytes (omega arith) same c.args.at c.args.count
    (c.args.at + c.args.count - c.args.at)
    (omega arith) _ refl refl any)
