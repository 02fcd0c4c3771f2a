use Rattle.std.proofs.Common.{arith}
use Rattle.named_files.proofs.ProgramLemmas.{stored_read}
use Rattle.named_files.proofs.files.append_up_to.Goals as goal

pub returns : goal.returns
returns g c = λ before is. stored_read c.args.limit c.min.result before c.args.read.now c.args.stored.now.items _ c.extend_from_slice.result
    (omega (arith, c.min.ensures, c.saturating_sub-room.ensures, c.len.ensures)) c.extend_from_slice.ensures.items is
