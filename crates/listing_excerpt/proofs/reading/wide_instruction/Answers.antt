use Rattle.std.proofs.Common.{arith}
use Rattle.listing_excerpt.proofs.ReadingLemmas.{begins-wide}
use Rattle.listing_excerpt.proofs.reading.wide_instruction.Goals as goal

pub returns : goal.returns
returns g c =
    begins-wide c.args.bytes.now c.in_ok-found.found (omega (arith, c.if-bytes.false)) c.requires.not_one c.in_ok-found.ensures
