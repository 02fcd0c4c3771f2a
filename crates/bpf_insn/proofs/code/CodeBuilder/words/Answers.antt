use Rattle.std.proofs.Common.{◌≡◌, ap, length, arith}
use Rattle.bpf_insn.specs.Code.{word_count}
use Rattle.bpf_insn.proofs.PlaceLemmas.{length-indexes_from}
use Rattle.bpf_insn.proofs.code.CodeBuilder.words.Goals as goal

pub returns : goal.returns
returns g c =
    let indexes = ap length c.self.invariant.1 in
    let counted = length-indexes_from 0 c.self.inside.instructions.items in
    let seen : word_count c.self.inside.instructions.items ≡ word_count c.args.self.now = ap word_count c.self.view_is in
    omega (arith, c.len.ensures)
