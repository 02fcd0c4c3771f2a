use Rattle.std.proofs.Common.{arith}
use Rattle.bpf_frame.proofs.RangeLemmas.{has_bit-range}
use Rattle.bpf_frame.proofs.frame_map.bits_within.Goals as goal

pub returns : goal.returns
returns c = λ bit within.
    let below = c.saturating_sub-below.result in
    let above = c.saturating_sub-above.result in
    let both = has_bit-range below above bit (omega arith) (omega arith) within in
    (λ set. let place = both.0 set in (omega arith, omega arith), λ inside. both.1 (omega arith, omega arith))
