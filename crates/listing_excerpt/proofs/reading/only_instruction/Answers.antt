use Rattle.std.proofs.Common.{[], ◌∷◌, ap, subst, sym, ◌∙◌}
use Rattle.listing_excerpt.specs.Reading.{IsOnly, sole}
use Rattle.listing_excerpt.proofs.ReadingLemmas.{sole-only}
use Rattle.listing_excerpt.proofs.reading.only_instruction.Goals as goal

pub returns-in-Ok : goal.returns-in-Ok
returns-in-Ok g c =
    subst (IsOnly c.args.bytes.now) (sym (c.sole.ensures ∙ ap sole c.instructions.ensures.value))
    (sole-only c.args.bytes.now _ c.in-Ok.ensures.ok c.in-Ok.ensures.only)

pub returns-in_ok-not_memory-in-Err : goal.returns-in_ok-not_memory-in-Err
returns-in_ok-not_memory-in-Err g c insn is = c.in_ok-not_memory-in-Err.ensures (c.in-Err.ensures.only (insn ∷ []) is)
