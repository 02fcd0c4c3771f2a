use Rattle.std.proofs.Common.{subst, take}
use Rattle.listing_excerpt.specs.Reading.{IsOnly}
use Rattle.listing_excerpt.proofs.ReadingLemmas.{begins-with}
use Rattle.listing_excerpt.proofs.reading.first_instruction.Goals as goal

pub returns-in-Some : goal.returns-in-Some
returns-in-Some g c =
    begins-with 1 c.args.bytes.now c.in-Some.insn c.requires (subst (IsOnly (take 8 c.args.bytes.now)) c.in-Some.is c.in_ok-insn.ensures)
